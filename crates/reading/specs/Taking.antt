-- What a call that takes a line comes to: `Came` says it of the state and the fault.
use Rattle.std.specs.Prelude.{ℕ}
pub use Rattle.failures.specs.Answers.{Came}
use Rattle.failures.specs.declared.Failure.{Failure}
use Rattle.failures.specs.declared.Failure.TheVariants.{Refused, Memory}
use Rattle.text.specs.declared.faults.FileFault.{FileFault}
use Rattle.text.specs.declared.faults.FileFault.TheVariants.{Line}
use Rattle.text.specs.declared.faults.LineFault.{LineFault}

-- Why the file that has this line is not read.
abbrev pub in_file : ℕ → Failure LineFault → Failure FileFault
in_file line (Refused fault) = Refused (Line (record { line = line; fault = fault }))
in_file line Memory = Memory
