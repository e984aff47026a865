-- What reading a proposal answers and leaves.
use Rattle.std.specs.Prelude.{Result}
use Rattle.text.specs.declared.faults.FileFault.{FileFault}
use Rattle.failures.specs.Answers as answers
use Rattle.failures.specs.Answers.{Answered}
use Rattle.failures.specs.declared.Failure.{Failure}
use Rattle.proposal.specs.Records.{ProposalV, empty}
use Rattle.proposal.specs.Views.{parts_seen}
use Rattle.proposal.specs.declared.record.Proposal.{Proposal}

-- What a proposal of the program stands for.
abbrev pub proposal_seen : Proposal → ProposalV
proposal_seen q = parts_seen q.parts

-- The proposal that the file says, or the file's fault; or want of memory.
abbrev pub Parsed : Result Proposal (Failure FileFault) → Result ProposalV FileFault → Type 0
Parsed = Answered proposal_seen

-- The place holds the proposal that the file says; or the answer is the file's fault, or want of memory, and the place
-- holds the empty proposal.
abbrev pub Told : Result (Unit {0}) (Failure FileFault) → ProposalV → Result ProposalV FileFault → Type 0
Told = answers.Told empty
