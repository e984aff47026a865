-- A line that is written from an invariant or a claim adds just that when it is read.
use Rattle.std.proofs.Common.{◌≡◌, ℕ, ◌+◌, ◌-◌, ◌<◌, ◌≤◌, true, false, not, eqb, ltb, leb, List, [], ◌∷◌, ◌++◌, length, get_or, is_some, IfSome, Some, None, Ok, Option, unwrap_or, sym, refl, ap, ◌∙◌, subst, ⊎_elim, arith, length-append}
use mathlib.Core.List.{map-append}
use Rattle.std.proofs.lemmas.List.{get_or_append_left, get_or_at, get_or_default}
use Rattle.std.proofs.lemmas.Bool.{lt-ltb, lt-leb, eq-eqb, or_left, or_right, and_from, not_from_true, cases_lt}
use Rattle.text.specs.Faults.{fault}
use Rattle.text.specs.declared.faults.Wrong.TheVariants as wrong
use Rattle.names.specs.Names.{place_in}
use Rattle.terms.specs.Sorts.{sort_of_number, sort_is_value}
use Rattle.terms.specs.declared.Sort.TheVariants.{Formula}
use Rattle.words.specs.Words.{WordV, is_name}
use Rattle.words.specs.declared.Number.{Number}
use Rattle.line.specs.Forms.{KindV}
use Rattle.line.specs.Forms as kind
use Rattle.line.specs.declared.lines.File.TheVariants as file
use Rattle.writing.proofs.Oks.{go_on}
use Rattle.writing.specs.Forms.{kind_said}
use Rattle.writing.specs.Sound.{Sound, KindSound}
use Rattle.tables.specs.Lawful.{Names, IsOf}
use Rattle.tables.specs.Records.{TermsV}
use Rattle.tables.specs.Taking.{Tests, unless, used, unknown, number_in, full, formula_tests}
use Rattle.tables.proofs.Answered.{AllFalse}
use Rattle.tables.proofs.FormLaws.{place_found}
use Rattle.tables.proofs.Named.{Placed, placed}
use Rattle.proposal.specs.Causes.{partner_of}
use Rattle.proposal.specs.Lawful.{LawfulInvariants, LawfulClaim, LawfulClaims, Before}
use Rattle.proposal.specs.Records.{InvariantV}
use Rattle.proposal.specs.Taking.{invariant_names, formula_in, take_invariant, kind_tests, cause_of, claim_of, before, no_claim, comes_after, claim_taken}
use Rattle.proposal.specs.Written.{invariant_said, kind_of, claim_said}
use Rattle.proposal.specs.declared.claims.Cause.{Cause}
use Rattle.proposal.specs.declared.claims.Cause.TheVariants as cause
use Rattle.proposal.specs.declared.claims.Claim.{Claim}

-- where no test applies, the answer stands
pub passed : {A : Type 0} (tests : Tests) (answer : A) → AllFalse tests → unless tests answer ≡ Ok answer
passed [] answer none = refl
passed ((true, fault) ∷ tests) answer none = absurd (let z : ◌≡◌ {A = ℕ} 0 1 = let clash : true ≡ false = none.0 in cc in omega arith)
passed ((false, fault) ∷ tests) answer none = passed tests answer none.1

-- a name is not among those before it
module _ (earlier later : List (List ℕ)) (name : List ℕ) (named : Names (earlier ++ name ∷ later)) where
  abbrev names : List (List ℕ)
  names = earlier ++ name ∷ later

  name_there : get_or names (length earlier) [] ≡ name
  name_there = get_or_at earlier name later [] (length earlier) refl

  name_inside : length earlier < length names
  name_inside = omega (arith, length-append earlier (name ∷ later))

  not_among : (o : Option ℕ) → Placed earlier name o → o ≡ None
  not_among None so = refl
  not_among (Some k) so =
      let same : k ≡ length earlier =
      named.once k (length earlier) (omega (arith, so.0, name_inside)) name_inside (get_or_append_left earlier (name ∷ later) [] k so.0 ∙ so.1 ∙ sym name_there) in
      absurd (omega (arith, so.0))

  new_name : place_in earlier name ≡ None
  new_name = not_among (place_in earlier name) (placed earlier name)

-- The next of lawful invariants.
module _ (t : TermsV) (first_line : ℕ) (above below : List InvariantV) (row : InvariantV) (lawful : LawfulInvariants t first_line (above ++ row ∷ below)) where
  row_inside : length above < length (above ++ row ∷ below)
  row_inside = omega (arith, length-append above (row ∷ below))

  row_there : get_or (above ++ row ∷ below) (length above) row ≡ row
  row_there = get_or_at above row below row (length above) refl

  all_names : Names (invariant_names above ++ row.name ∷ invariant_names below)
  all_names = subst Names (map-append (λ i. i.name) above (row ∷ below)) lawful.named

  its_formula : IsOf Formula t row.formula
  its_formula = subst (λ (r : InvariantV). IsOf Formula t r.formula) row_there (lawful.each (length above) row row_inside)

  its_line : row.line ≡ first_line + length above
  its_line = subst (λ (r : InvariantV). r.line ≡ first_line + length above) row_there (lawful.lines (length above) row row_inside)

  -- What is written from it may stand in a file.
  pub invariant_sound : length t.sorts ≤ 512 → Sound file.Proposal (invariant_said row)
  invariant_sound few =
      record {
        belonging = refl;
        parts = (
          subst (λ n. is_name n ≡ true) (name_there (invariant_names above) (invariant_names below) row.name all_names)
              (all_names.each (length (invariant_names above)) (name_inside (invariant_names above) (invariant_names below) row.name all_names)),
          omega (arith, its_formula.exists),
        );
      }

  -- A line that says it adds it.
  pub invariant_again : (w : WordV) (n : Number) → w.bytes ≡ row.name → n.value ≡ row.formula → take_invariant t (first_line + length above) w n above ≡ Ok (above ++ row ∷ [])
  invariant_again w n name formula =
      let new : place_in (invariant_names above) w.bytes ≡ None = ap (place_in (invariant_names above)) name ∙ new_name (invariant_names above) (invariant_names below) row.name all_names in
      let exists : leb (length t.sorts) n.value ≡ false = lt-leb (length t.sorts) n.value (omega (arith, its_formula.exists, formula)) in
      let right : sort_is_value (sort_of_number t.sorts n.value) ≡ false = ap (λ k. sort_is_value (sort_of_number t.sorts k)) formula ∙ ap sort_is_value its_formula.is in
      let room : leb 64 (length above) ≡ false = lt-leb 64 (length above) (omega (arith, lawful.few, row_inside)) in
      go_on (formula_in t w n above) _ n.value (passed (used (invariant_names above) w ∷ formula_tests t.sorts n) n.value (ap is_some new, (exists, (right, tt))))
      ∙ passed (full 64 above ∷ []) (above ++ record { name = w.bytes; formula = n.value; line = first_line + length above } ∷ []) (room, tt)
      ∙ (λ i. Ok (above ++ record { name = name i; formula = formula i; line = sym its_line i } ∷ []))

-- the test of the order, from the order
before_again : (a b : Claim) → Before a b → before a b ≡ true
before_again a b =
    ⊎_elim
    (λ lower. or_left (ltb a.invariant b.invariant) _ (lt-ltb a.invariant b.invariant lower))
    (λ same. or_right (ltb a.invariant b.invariant) _ (and_from _ _ (eq-eqb a.invariant b.invariant same.0) (lt-ltb a.rule b.rule same.1)))

-- a name that stands among names is found by the word
module _ (names : List (List ℕ)) (named : Names names) (i : ℕ) (inside : i < length names) (w : WordV) (is : w.bytes ≡ get_or names i []) where
  word_found : place_in names w.bytes ≡ Some i
  word_found = ap (place_in names) is ∙ place_found names i named inside

  word_known : (unknown names w).0 ≡ false
  word_known = ap (λ o. not (is_some o)) word_found

  word_number : number_in names w ≡ i
  word_number = ap (λ o. unwrap_or o 0) word_found

-- The kind that a cause is written with names that cause.
module _ (names : List (List ℕ)) (named : Names names) where
  abbrev Exists : Cause → Type 0
  Exists k = IfSome (partner_of k) (λ partner. partner < length names)

  kind_sound : (k : Cause) → Exists k → KindSound (kind_of names k)
  kind_sound cause.Guard inside = tt
  kind_sound cause.Unchanged inside = tt
  kind_sound (cause.Partner partner) inside = named.each partner inside

  kind_again : (k : Cause) (j : KindV) → Exists k → kind_said j ≡ kind_of names k → AllFalse (kind_tests names j) × (cause_of names j ≡ k)
  kind_again cause.Guard kind.Guard inside is = (tt, refl)
  kind_again cause.Guard kind.Unchanged inside is = absurd (let z : ◌≡◌ {A = ℕ} 0 1 = cc in omega arith)
  kind_again cause.Guard (kind.Partner w) inside is = absurd (let z : ◌≡◌ {A = ℕ} 0 1 = cc in omega arith)
  kind_again cause.Unchanged kind.Guard inside is = absurd (let z : ◌≡◌ {A = ℕ} 0 1 = cc in omega arith)
  kind_again cause.Unchanged kind.Unchanged inside is = (tt, refl)
  kind_again cause.Unchanged (kind.Partner w) inside is = absurd (let z : ◌≡◌ {A = ℕ} 0 1 = cc in omega arith)
  kind_again (cause.Partner partner) kind.Guard inside is = absurd (let z : ◌≡◌ {A = ℕ} 0 1 = cc in omega arith)
  kind_again (cause.Partner partner) kind.Unchanged inside is = absurd (let z : ◌≡◌ {A = ℕ} 0 1 = cc in omega arith)
  kind_again (cause.Partner partner) (kind.Partner w) inside is =
      let same : w.bytes ≡ get_or names partner [] = cc in
      ((word_known names named partner inside w same, tt), ap cause.Partner (word_number names named partner inside w same))

-- The next of lawful claims.
module _ (rules invariants : List (List ℕ)) (rules-named : Names rules) (invariants-named : Names invariants) (first_line : ℕ) (above below : List Claim) (c : Claim) (lawful : LawfulClaims (length rules) (length invariants) first_line (above ++ c ∷ below)) where
  claim_inside : length above < length (above ++ c ∷ below)
  claim_inside = omega (arith, length-append above (c ∷ below))

  claim_there : get_or (above ++ c ∷ below) (length above) c ≡ c
  claim_there = get_or_at above c below c (length above) refl

  claim_good : LawfulClaim (length rules) (length invariants) c
  claim_good = subst (LawfulClaim (length rules) (length invariants)) claim_there (lawful.each (length above) c claim_inside)

  claim_line : c.line ≡ first_line + length above
  claim_line = subst (λ (d : Claim). d.line ≡ first_line + length above) claim_there (lawful.lines (length above) c claim_inside)

  ascends : 0 < length above → Before (get_or above (length above - 1) no_claim) c
  ascends some =
      let n = length above - 1 in
      let next : n + 1 ≡ length above = omega arith in
      let order = lawful.ascending n c (omega (arith, claim_inside)) in
      let first : get_or (above ++ c ∷ below) n c ≡ get_or above n no_claim = get_or_append_left above (c ∷ below) c n (omega arith) ∙ get_or_default above n c no_claim (omega arith) in
      subst (Before (get_or above n no_claim)) (ap (λ k. get_or (above ++ c ∷ below) k c) next ∙ claim_there) (subst (λ a. Before a (get_or (above ++ c ∷ below) (n + 1) c)) first order)

  comes : comes_after above c ≡ true
  comes =
      ⊎_elim
      (λ some. or_right (eqb (length above) 0) _ (before_again (get_or above (length above - 1) no_claim) c (ascends some)))
      (λ none. or_left (eqb (length above) 0) _ (eq-eqb (length above) 0 (omega arith)))
      (cases_lt 0 (length above))

  -- What is written from it may stand in a file.
  pub claim_sound : Sound file.Proposal (claim_said rules invariants c)
  claim_sound =
      record {
        belonging = refl;
        parts = (
          rules-named.each c.rule claim_good.rule,
          invariants-named.each c.invariant claim_good.invariant,
          kind_sound invariants invariants-named c.cause claim_good.partner,
        );
      }

  -- A line that says it adds it.
  pub claim_again : (r i : WordV) (j : KindV) → r.bytes ≡ get_or rules c.rule [] → i.bytes ≡ get_or invariants c.invariant [] → kind_said j ≡ kind_of invariants c.cause
      → claim_taken rules invariants (first_line + length above) r i j above ≡ Ok (above ++ c ∷ [])
  claim_again r i j rule invariant kind =
      let again = kind_again invariants invariants-named c.cause j claim_good.partner kind in
      let its-rule = word_number rules rules-named c.rule claim_good.rule r rule in
      let its-invariant = word_number invariants invariants-named c.invariant claim_good.invariant i invariant in
      let made : Claim = record { rule = number_in rules r; invariant = number_in invariants i; cause = cause_of invariants j; line = first_line + length above } in
      let same : made ≡ c = λ x. record { rule = its-rule x; invariant = its-invariant x; cause = again.1 x; line = sym claim_line x } in
      let read : claim_of rules invariants (first_line + length above) r i j ≡ Ok c =
      passed (unknown rules r ∷ unknown invariants i ∷ kind_tests invariants j) made
      (word_known rules rules-named c.rule claim_good.rule r rule, (word_known invariants invariants-named c.invariant claim_good.invariant i invariant, again.0))
      ∙ ap Ok same in
      go_on (claim_of rules invariants (first_line + length above) r i j) _ c read
      ∙ passed (full 4096 above ∷ (not (comes_after above c), fault wrong.NotAscending 1) ∷ []) (above ++ c ∷ [])
      (lt-leb 4096 (length above) (omega (arith, lawful.few, claim_inside)), (not_from_true (comes_after above c) comes, tt))
