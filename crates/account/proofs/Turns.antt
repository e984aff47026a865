-- What one turn of going through a file comes to.
use Rattle.std.proofs.Common.{◌≡◌, ℕ, ◌+◌, ◌≤◌, Bool, true, false, cond, List, length, get_or, set, Ok, Err, Result, ap, ⊎_elim, arith}
use Rattle.std.proofs.lemmas.List.{get_or-set_same, get_or-set_other, set_past}
use Rattle.std.proofs.lemmas.Bool.{cases_lt, cases_eq}
use Rattle.text.specs.Faults.{fault}
use Rattle.keys.specs.Keys.{key_number}
use Rattle.words.specs.Words.{bind}
use Rattle.text.specs.declared.faults.LineFault.{LineFault}
use Rattle.text.specs.declared.faults.Wrong.TheVariants as wrong
use Rattle.keys.specs.declared.Key.{Key}
use Rattle.line.specs.Lines.{LineV, key_of_line}
use Rattle.line.specs.Reading.{read, recognised}
use Rattle.line.specs.declared.lines.File.{File}
use Rattle.account.specs.Accounts.{counted, taken}
use Rattle.account.specs.declared.Tally.{Tally}

-- no count passes the number of lines
abbrev pub Small : Tally → Type 0
Small tally = (k : ℕ) → get_or tally.kinds k 0 ≤ tally.lines

-- one line more keeps the tally small
pub small_counted : (key : Key) (tally : Tally) → Small tally → Small (counted key tally)
small_counted key tally small k =
    let i = key_number key in
    ⊎_elim
    (λ here.
    ⊎_elim
    (λ inside. omega (arith, small i, ap (λ j. get_or (set tally.kinds i (get_or tally.kinds i 0 + 1)) j 0) here, get_or-set_same tally.kinds i (get_or tally.kinds i 0 + 1) 0 inside))
    (λ past. omega (arith, small k, ap (λ xs. get_or xs k 0) (set_past tally.kinds i (get_or tally.kinds i 0 + 1) past)))
    (cases_lt i (length tally.kinds)))
    (λ other. omega (arith, small k, get_or-set_other tally.kinds i k (get_or tally.kinds i 0 + 1) 0 other))
    (cases_eq k i)

module _ (file : File) (tally made : Tally) where
  by_words : (r : Result LineV LineFault) → bind r (λ read. Ok (counted (key_of_line read) tally)) ≡ Ok made → (key : Key) × (made ≡ counted key tally)
  by_words (Ok read) is = (key_of_line read, (let same : made ≡ counted (key_of_line read) tally = cc in same))
  by_words (Err e) is = absurd (let z : ◌≡◌ {A = ℕ} 0 1 = cc in omega arith)

  by_end : (ended : Bool) (r : Result LineV LineFault) → cond ended (Err (fault wrong.Key 1)) (bind r (λ read. Ok (counted (key_of_line read) tally))) ≡ Ok made → (key : Key) × (made ≡ counted key tally)
  by_end true r is = absurd (let z : ◌≡◌ {A = ℕ} 0 1 = cc in omega arith)
  by_end false r is = by_words r is

  by_key : (r : Result (Key × List ℕ) LineFault) → bind r (λ p. cond tally.ended (Err (fault wrong.Key 1)) (bind (read file p.0 p.1) (λ read. Ok (counted (key_of_line read) tally)))) ≡ Ok made → (key : Key) × (made ≡ counted key tally)
  by_key (Ok p) is = by_end tally.ended (read file p.0 p.1) is
  by_key (Err e) is = absurd (let z : ◌≡◌ {A = ℕ} 0 1 = cc in omega arith)

  -- a line that is taken is counted under its key
  pub taken_counted : (line : List ℕ) → taken file tally line ≡ Ok made → (key : Key) × (made ≡ counted key tally)
  taken_counted line is = by_key (recognised file line) is
