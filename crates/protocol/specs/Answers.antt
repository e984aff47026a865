-- What reading answers and leaves.
use Rattle.std.specs.Prelude.{Result}
use Rattle.text.specs.declared.faults.FileFault.{FileFault}
use Rattle.failures.specs.Answers as answers
use Rattle.failures.specs.Answers.{Answered}
use Rattle.failures.specs.declared.Failure.{Failure}
use Rattle.protocol.specs.Records.{ProtocolV, empty}
use Rattle.protocol.specs.Views.{parts_seen}
use Rattle.protocol.specs.declared.record.Protocol.{Protocol}

-- What a protocol of the program stands for.
abbrev pub protocol_seen : Protocol → ProtocolV
protocol_seen p = parts_seen p.parts

-- The protocol that the file says, or the file's fault; or want of memory.
abbrev pub Parsed : Result Protocol (Failure FileFault) → Result ProtocolV FileFault → Type 0
Parsed = Answered protocol_seen

-- The place holds the protocol that the file says; or the answer is the file's fault, or want of memory, and the place
-- holds the empty protocol.
abbrev pub Told : Result (Unit {0}) (Failure FileFault) → ProtocolV → Result ProtocolV FileFault → Type 0
Told = answers.Told empty
