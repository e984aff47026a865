-- What taking a line asks of it.
use Rattle.std.specs.Prelude.{◌+◌, ◌^◌, ◌≤◌, length}
use Rattle.line.specs.Lines.{LineV}
use Rattle.line.specs.Lines as line

-- The values of a `type` line end within a line that memory can hold, so that their columns can be counted.
abbrev pub WithinALine : LineV → Type 0
WithinALine (line.Protocol name) = Unit {0}
WithinALine (line.«Type» name values) = values.column + length values.bytes ≤ 2 ^ 63 + 6
WithinALine (line.Var name of) = Unit {0}
WithinALine (line.Term form) = Unit {0}
WithinALine (line.Init formula) = Unit {0}
WithinALine (line.Rule name guard) = Unit {0}
WithinALine (line.Set variable term) = Unit {0}
WithinALine line.End = Unit {0}
WithinALine (line.Proposal name) = Unit {0}
WithinALine (line.Inv name formula) = Unit {0}
WithinALine (line.Cause rule invariant kind) = Unit {0}
