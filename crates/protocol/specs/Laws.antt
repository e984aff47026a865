-- Writing a protocol and reading it are each other's way back.
use Rattle.std.specs.Prelude.{◌≡◌, ◌≤◌, length, Ok}
use Rattle.std.specs.List.{AllByRecursion}
use Rattle.line.specs.declared.lines.File.TheVariants as file
use Rattle.writing.specs.Written.{written_line}
use Rattle.protocol.specs.Lawful.{Lawful}
use Rattle.protocol.specs.Reading.{protocol_of}
use Rattle.protocol.specs.Records.{ProtocolV}
use Rattle.protocol.specs.Written.{lines_of, written}

-- Every protocol that obeys all limits and sorts is read again from its written form, if that is short enough for a
-- file: at most 255 bytes in each line, and 65,536 in all.
abbrev pub EveryProtocolCanBeKept : Type 0
EveryProtocolCanBeKept =
    (p : ProtocolV) → Lawful p → AllByRecursion (λ s. length (written_line file.Protocol s) ≤ 255) (lines_of p) → length (written p) ≤ 65536
    → protocol_of (written p) ≡ Ok p
