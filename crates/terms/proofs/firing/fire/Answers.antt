use Rattle.std.proofs.Common.{◌≡◌, true, map, length, vec_items, sym, ap, ◌∙◌}
use Rattle.std.specs.List.{range_with_len}
use Rattle.semantics.specs.Trees.{is_true}
use Rattle.terms.specs.Reading.{value_at}
use Rattle.terms.specs.Rules.{set_value}
use Rattle.terms.proofs.Assigned.{fires}
use Rattle.terms.proofs.firing.fire.Goals as goal

pub returns-then-counts_as_true : goal.returns-then-counts_as_true
returns-then-counts_as_true c =
    let values = vec_items c.in_ok-values.values in
    let yes' : is_true (value_at values c.args.guard) ≡ true =
    sym (c.if-counts_as_true.ensures.not_zero ∙ ap is_true (c.value_of_number.ensures.its_value_or_that_of_no_term ∙ ap (λ xs. value_at xs c.args.guard) c.as_slice.ensures.value)) in
    record {
      the_state_after_the_rule_if_its_guard_is_true =
          fires c.args.terms.now c.args.guard c.args.sets.now c.args.state.now values c.in_ok-values.ensures.the_values_of_the_trees _
          (c.in_ok-assign.ensures.each_variable_has_its_next_value ∙ ap (λ xs. map (set_value xs c.args.state.now c.args.sets.now) (range_with_len 0 (length c.args.state.now))) c.as_slice-then-counts_as_true.ensures.value)
          yes';
    }
