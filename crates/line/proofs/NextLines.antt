-- What is made of the next line, whether its row is kept in hand or found behind it.
use Rattle.std.proofs.Common.{◌≡◌, ℕ, Bool, true, false, cond, List, Ok, Err, Result, sym, refl, ap, ◌∙◌}
use Rattle.keys.specs.declared.Key.{Key}
use Rattle.text.specs.Faults.{fault}
use Rattle.text.specs.declared.faults.LineFault.{LineFault}
use Rattle.text.specs.declared.faults.Wrong.TheVariants as wrong
use Rattle.words.specs.Words.{bind}
use Rattle.line.specs.Following.{following}
use Rattle.line.specs.Lines.{LineV}
use Rattle.line.specs.Reading.{recognised, read}
use Rattle.line.specs.Rows.{row_of, may_follow}
use Rattle.line.specs.declared.lines.File.{File}

module _ {M D : Type 0} (file : File) (last : ℕ) (adds : LineV → Result M LineFault) (done : ℕ → M → D) where
  worded : (row : ℕ) (here : Bool) (words : Result LineV LineFault) →
      cond here (bind words (λ l. bind (adds l) (λ m. Ok (done row m)))) (Err (fault wrong.Key 1))
      ≡ bind {A = ℕ × LineV} (cond here (bind words (λ l. Ok (row, l))) (Err (fault wrong.Key 1))) (λ q. bind (adds q.1) (λ m. Ok (done q.0 m)))
  worded row true (Ok l) = refl
  worded row true (Err e) = refl
  worded row false words = refl

  keyed : (found : Result (Key × List ℕ) LineFault) →
      bind found (λ p. cond (may_follow file last p.0) (bind (read file p.0 p.1) (λ l. bind (adds l) (λ m. Ok (done (row_of file p.0) m)))) (Err (fault wrong.Key 1)))
      ≡ bind {A = ℕ × LineV} (bind found (λ p. cond (may_follow file last p.0) (bind (read file p.0 p.1) (λ l. Ok (row_of file p.0, l))) (Err (fault wrong.Key 1)))) (λ q. bind (adds q.1) (λ m. Ok (done q.0 m)))
  keyed (Ok p) = worded (row_of file p.0) (may_follow file last p.0) (read file p.0 p.1)
  keyed (Err e) = refl

  -- the key, the row and the words in turn, and then what the line adds, are the next line and what it adds
  pub next_added : (bytes : List ℕ) (next : Result (ℕ × LineV) LineFault) → next ≡ following file last bytes →
      bind (recognised file bytes) (λ p. cond (may_follow file last p.0) (bind (read file p.0 p.1) (λ l. bind (adds l) (λ m. Ok (done (row_of file p.0) m)))) (Err (fault wrong.Key 1)))
      ≡ bind next (λ q. bind (adds q.1) (λ m. Ok (done q.0 m)))
  next_added bytes next is = keyed (recognised file bytes) ∙ ap (λ n. bind n (λ q. bind (adds q.1) (λ m. Ok (done q.0 m)))) (sym is)

  -- so they are what a line adds that is the next
  pub line_added : (bytes : List ℕ) (row : ℕ) (l : LineV) → Ok (row, l) ≡ following file last bytes → (r : Result M LineFault) → adds l ≡ r →
      bind (recognised file bytes) (λ p. cond (may_follow file last p.0) (bind (read file p.0 p.1) (λ l. bind (adds l) (λ m. Ok (done (row_of file p.0) m)))) (Err (fault wrong.Key 1)))
      ≡ bind r (λ m. Ok (done row m))
  line_added bytes row l next r is = next_added bytes (Ok (row, l)) next ∙ ap (λ s. bind s (λ m. Ok (done row m))) is
