-- Writing and reading a proposal are each other's way back.
use Rattle.std.specs.Prelude.{◌≡◌, ℕ, ◌≤◌, List, length, Ok}
use Rattle.std.specs.List.{AllByRecursion}
use Rattle.line.specs.declared.lines.File.TheVariants as file
use Rattle.writing.specs.Said.{Said}
use Rattle.writing.specs.Written.{written_line}
use Rattle.tables.specs.Lawful.{LawfulTerms, declared_by}
use Rattle.protocol.specs.Lawful.{Lawful}
use Rattle.protocol.specs.Records.{ProtocolV}
use Rattle.proposal.specs.Lawful.{LawfulWith}
use Rattle.proposal.specs.Reading.{proposal_of}
use Rattle.proposal.specs.Records.{ProposalV}
use Rattle.proposal.specs.Written.{lines_of, written}

-- Nothing is lost and nothing is invented: a file that is read has just the bytes that are written from what it says.
abbrev pub NothingIsLost : Type 0
NothingIsLost =
    (p : ProtocolV) (text : List ℕ) (q : ProposalV) → LawfulTerms (declared_by p.types p.variables) p.terms → proposal_of p text ≡ Ok q
    → written p q ≡ text

-- A line and a file have no more bytes than may be read.
abbrev pub ShortLine : Said → Type 0
ShortLine s = length (written_line file.Proposal s) ≤ 255

pub record Fits (p : ProtocolV) (q : ProposalV) : Type 0 where
  pub lines : AllByRecursion ShortLine (lines_of p q)
  pub bytes : length (written p q) ≤ 65536

-- Every proposal can be kept: what is written from a proposal that obeys all limits and sorts is read as that proposal.
abbrev pub EveryProposalCanBeKept : Type 0
EveryProposalCanBeKept = (p : ProtocolV) (q : ProposalV) → Lawful p → LawfulWith p q → Fits p q → proposal_of p (written p q) ≡ Ok q
