use Rattle.std.proofs.Common.{◌≡◌, ◌≤◌, [], map, length, get_or, vec_items, sym, ap, ◌∙◌, subst, arith}
use Rattle.std.proofs.lemmas.Grind.{common_steps}
use Rattle.names.specs.Names.{spelled}
use Rattle.tables.specs.Spellings.{spellings}
use Rattle.tables.proofs.types.TypeTable.copy.Goals as goal

pub invariant_of-result : goal.invariant_of-result
invariant_of-result c =
    let was = c.args.self.now in
    let values = c.in_ok-values.values in
    let same : spellings values ≡ spellings was.values =
    c.in_ok-values.ensures.lists_of_names_spelled_the_same ∙ ap (map (λ list. map spelled (vec_items list))) c.deref-2.ensures.value in
    record {
      few = grind (arith, common_steps);
      all_sized = grind (arith, common_steps);
      all_valued = grind (arith, common_steps);
      few_values = λ k. subst (λ lists. length (get_or lists k []) ≤ 16) (sym same) (was.few_values k);
    }
