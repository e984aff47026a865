use Rattle.std.proofs.Common.{◌≡◌, [], ◌∷◌, ◌++◌, sym, ap, ◌∙◌, ap₂, arith}
use Rattle.std.proofs.lemmas.List.FromFn.{map-range_with_len_more}
use Rattle.semantics.specs.Trees.{False, occurs}
use Rattle.terms.specs.Reading.{occurs_at}
use Rattle.terms.specs.Trees.{tree_at, trees}
use Rattle.std.proofs.Math.ListN.{get_or-map}
use Rattle.terms.proofs.occurring.occurring.Goals as goal

pub loop-variable-preserved : goal.loop-variable-preserved
loop-variable-preserved c =
    let v = c.loop-variable.variable in
    let all = trees c.args.terms.now in
    let here : c.occurs_in_number.result ≡ occurs v (tree_at all c.args.term) =
    c.occurs_in_number.ensures.in_that_term
    ∙ ap (λ flags. occurs_at flags c.args.term) (c.as_slice.ensures.value ∙ c.in_ok-flags.ensures.what_each_tree_is_read_as)
    ∙ get_or-map (occurs v) all c.args.term False in
    c.in_ok-push.ensures.items
    ∙ ap₂ (λ xs x. xs ++ x ∷ []) c.loop-variable.invariant here
    ∙ sym (map-range_with_len_more (λ w. occurs w (tree_at all c.args.term)) 0 v v (omega arith))
