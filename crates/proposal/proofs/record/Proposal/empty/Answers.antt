use Rattle.std.proofs.Common.{inr}
use Rattle.proposal.proofs.record.Proposal.empty.Goals as goal

pub invariant_of-result : goal.invariant_of-result
invariant_of-result c = record { lawful_or_empty = ∣ inr c.empty.ensures.no_name_and_no_lines ∣₁ }
