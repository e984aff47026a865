use Rattle.std.proofs.Common.{rules}
use Rattle.terms.proofs.Assigned.{made_more, made_past, all_made}
use Rattle.terms.proofs.firing.assign.Goals as goal

pub loop-set-preserved-in-Some-get_mut : goal.loop-set-preserved-in-Some-get_mut
loop-set-preserved-in-Some-get_mut c =
    made_more _ _ _ _ _ _ _ c.in-Some.ensures.steps c.loop-set.invariant _ c.value_of_number.ensures.its_value_or_that_of_no_term (search rules)

pub loop-set-preserved : goal.loop-set-preserved
loop-set-preserved c = made_past _ _ _ _ _ _ _ c.in-Some.ensures.steps c.loop-set.invariant (search rules)

pub returns : goal.returns
returns c = record { each_variable_has_its_next_value = all_made _ _ _ _ _ c.in-None.ensures.steps.0 c.loop-set.invariant }
