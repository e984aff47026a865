-- Where a line may stand, by the row of the line above.
use Rattle.std.proofs.Common.{◌≡◌, ℕ, ◌+◌, ◌<◌, ◌≤◌, true, not, ◌&&◌, ◌||◌, eqb, ltb, leb, ⊎_elim, arith}
use Rattle.std.proofs.lemmas.Bool.{leb-true, ltb-true, eqb-true, eqb-false, not-true, and_parts, or_cases}
use Rattle.keys.specs.declared.Key.{Key}
use Rattle.line.specs.Lines.{belongs}
use Rattle.line.specs.Rows.{row_of, last_row, last_needed, in_order, is_below_its_rule, may_follow}
use Rattle.line.specs.declared.lines.File.{File}

-- the row above is this one, or one behind which no row needs a line
ordered : (file : File) (above row low : ℕ) → low < row → low ≤ last_needed file → in_order file above row ≡ true → (low ≤ above) × (above ≤ row)
ordered file above row low below few may =
    let needed = last_needed file in
    ⊎_elim
    (λ same. let at = eqb-true above row same in (omega arith, omega arith))
    (λ later. let parts = and_parts (ltb above row) (eqb (above + 1) row || leb needed above) later in
    let before = ltb-true above row parts.0 in
    ⊎_elim
    (λ next. let at = eqb-true (above + 1) row next in (omega arith, omega arith))
    (λ missing. let at = leb-true needed above missing in (omega arith, omega arith))
    (or_cases (eqb (above + 1) row) (leb needed above) parts.1))
    (or_cases (eqb above row) (ltb above row && (eqb (above + 1) row || leb needed above)) may)

-- A line that may stand below a row: that row is at least `low`, if `low` needs a line, at most the line's own, and not the end.
pub within : (file : File) (above : ℕ) (k : Key) (low : ℕ) → low < row_of file k → low ≤ last_needed file → may_follow file above k ≡ true → (low ≤ above) × (above ≤ row_of file k) × (above ≡ last_row file → ⊥)
within file above k low below few may =
    let own = and_parts (belongs file k) _ may in
    let going = and_parts (not (eqb above (last_row file))) _ own.1 in
    let between = ordered file above (row_of file k) low below few (and_parts (in_order file above (row_of file k)) (is_below_its_rule file above k) going.1).0 in
    (between.0, between.1, eqb-false above (last_row file) (not-true (eqb above (last_row file)) going.0))
