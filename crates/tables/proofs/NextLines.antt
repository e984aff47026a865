-- The fault of what a line adds is that of the line.
use Rattle.std.proofs.Common.{◌≡◌, ℕ, cond, List, Ok, Err, Result}
use Rattle.text.specs.Faults.{fault}
use Rattle.text.specs.declared.faults.LineFault.{LineFault}
use Rattle.text.specs.declared.faults.Wrong.TheVariants as wrong
use Rattle.words.specs.Words.{bind}
use Rattle.line.proofs.NextLines.{line_added}
use Rattle.line.specs.Following.{following}
use Rattle.line.specs.Lines.{LineV}
use Rattle.line.specs.Reading.{recognised, read}
use Rattle.line.specs.Rows.{row_of, may_follow}
use Rattle.line.specs.declared.lines.File.{File}
use Rattle.reading.specs.Taking.{Came}
use Rattle.failures.specs.declared.Failure.{Failure}
use Rattle.failures.specs.declared.Failure.TheVariants.{Refused, Memory}

pub line_refused : {M D : Type 0} (file : File) (last : ℕ) (adds : LineV → Result M LineFault) (done : ℕ → M → D) (bytes : List ℕ) (row : ℕ) (l : LineV) → Ok (row, l) ≡ following file last bytes
    → (why : Failure LineFault) (after : M) (left : D) → Came (Err why) after (adds l)
    → Came (Err why) left (bind (recognised file bytes) (λ p. cond (may_follow file last p.0) (bind (read file p.0 p.1) (λ l. bind (adds l) (λ m. Ok (done (row_of file p.0) m)))) (Err (fault wrong.Key 1))))
line_refused file last adds done bytes row l next (Refused why) after left is = line_added file last adds done bytes row l next (Err why) is
line_refused file last adds done bytes row l next Memory after left is = tt
