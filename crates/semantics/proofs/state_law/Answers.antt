use Rattle.semantics.proofs.Firings.{state_law}
use Rattle.semantics.proofs.state_law.Goals as goal

pub returns : goal.returns
returns c = record { a_well_sorted_rule_leads_from_a_state_to_a_state = state_law }
