use Rattle.std.proofs.Common.{◌≡◌, ◌<◌, true, [], ◌∷◌, ◌++◌, map, length, get_or, take, sym, ap, ◌∙◌, ap₂, subst₂}
use Rattle.terms.proofs.Tables.{trees_none}
use Rattle.terms.specs.Trees.{trees, tree_of}
use Rattle.precondition.specs.Places.{place}
use Rattle.precondition.specs.Steps.{First, term_at}
use Rattle.precondition.specs.Tables.{formed, lowest, renamed}
use Rattle.precondition.proofs.Forming.{next_place, lowest_more, named_more}
use Rattle.precondition.proofs.copies.Copies.new.Goals as goal

pub loop-term-init : goal.loop-term-init
loop-term-init c = (c.new-lowest.ensures.items ∙ sym (ap (λ ts. map (place ts) ts) trees_none), c.new-named.ensures.items)

pub loop-term-preserved : goal.loop-term-preserved
loop-term-preserved c =
    let terms = c.args.terms.now in
    let n = c.loop-term.term-index in
    let is : formed terms ≡ true = sym c.if-not-is_formed.ensures.each_argument_is_earlier in
    let inside : n < length terms = c.loop-term-test.true in
    let next_is : c.rename-next.result ≡ renamed (λ a. get_or (lowest (take n terms)) a 0) (term_at terms n) =
    c.rename-next.ensures.each_argument_by_its_result ∙ ap (λ xs. renamed (λ a. get_or xs a 0) (term_at terms n)) (c.as_slice.ensures.value ∙ c.loop-term.invariant.0) in
    let place_is : c.find-place.result ≡ place (trees (take n terms)) (tree_of (trees (take n terms)) (term_at terms n)) =
    next_place terms n is inside c.find-place.result
    (subst₂ (λ xs x. First xs x c.find-place.result) (c.as_slice-in-loop-term.ensures.value ∙ c.loop-term.invariant.1) next_is c.find-place.ensures.its_first_place) in (
      c.in_ok-push.ensures.items ∙ ap₂ (λ xs x. xs ++ x ∷ []) c.loop-term.invariant.0 place_is ∙ sym (lowest_more terms n is inside),
      c.in_ok-push-2.ensures.items ∙ ap₂ (λ xs x. xs ++ x ∷ []) c.loop-term.invariant.1 next_is ∙ sym (named_more terms n is inside),
    )
