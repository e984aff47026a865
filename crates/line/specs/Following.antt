-- The line that follows another in a file.
use Rattle.std.specs.Prelude.{ℕ, cond, List, Ok, Err, Result}
use Rattle.text.specs.Faults.{fault}
use Rattle.text.specs.declared.faults.LineFault.{LineFault}
use Rattle.text.specs.declared.faults.Wrong.TheVariants as wrong
use Rattle.words.specs.Words.{bind}
use Rattle.line.specs.Lines.{LineV, line_seen}
use Rattle.line.specs.Reading.{recognised, read, answer}
use Rattle.line.specs.Rows.{row_of, may_follow}
use Rattle.line.specs.declared.lines.File.{File}
use Rattle.line.specs.declared.lines.Line.{Line}

-- Behind a line of row `last`: the key has to be the file's and may stand here; then come its words.
abbrev pub following : File → ℕ → List ℕ → Result (ℕ × LineV) LineFault
following file last bytes =
    bind (recognised file bytes) (λ p.
    cond (may_follow file last p.0)
    (bind (read file p.0 p.1) (λ l. Ok (row_of file p.0, l)))
    (Err (fault wrong.Key 1)))

-- What the program's answer stands for.
abbrev pub following_answer : Result (ℕ × Line) LineFault → Result (ℕ × LineV) LineFault
following_answer = answer (λ p. (p.0, line_seen p.1))
