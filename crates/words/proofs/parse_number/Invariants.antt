use Rattle.std.proofs.Common.{◌≤◌, length}
use Rattle.words.proofs.NameLaws.{Read}
use Rattle.words.proofs.parse_number.Given as goal

abbrev pub invariant-loop-byte : goal.invariant-loop-byte
invariant-loop-byte l = Read l.bytes l.value l.byte-index × (length l.bytes ≤ 3)
