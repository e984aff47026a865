use Rattle.semantics.proofs.Firings.{firing_law}
use Rattle.semantics.proofs.firing_law.Goals as goal

pub returns : goal.returns
returns c = record { the_state_after_is_the_one_in_which_each_variable_has_its_next_value = firing_law }
