-- The trees of a table, one term more at a time.
use Rattle.std.proofs.Common.{◌≡◌, ℕ, ◌+◌, ◌<◌, ◌≤◌, List, [], ◌∷◌, ◌++◌, map, length, get_or, take, drop, fold, sym, refl, ap, ◌∙◌, ap₂, arith}
use Rattle.std.proofs.lemmas.List.{take_all, take-take, take_at, take-append-drop, length_push, length-take-le, get_or-take, get_or_push, map_push}
use Rattle.std.proofs.lemmas.List.Sums.{fold-append, fold_more}
use Rattle.semantics.specs.Trees.{Tree, False}
use Rattle.terms.specs.declared.Term.{Term}
use Rattle.terms.specs.Laws.{PrefixLaw}
use Rattle.terms.specs.Trees.{tree_at, tree_of, with_term, trees}

folded_length : (before : List Tree) (terms : List Term) → length (fold with_term before terms) ≡ length before + length terms
folded_length before [] = omega arith
folded_length before (term ∷ terms) = omega (arith, folded_length (with_term before term) terms, length_push before (tree_of before term))

folded_front : (before : List Tree) (terms : List Term) → take (length before) (fold with_term before terms) ≡ before
folded_front before [] = take_all (length before) before (omega arith)
folded_front before (term ∷ terms) =
    let next = with_term before term in
    let all = fold with_term next terms in
    sym (take-take (length before) (length next) all (omega (arith, length_push before (tree_of before term))))
    ∙ ap (take (length before)) (folded_front next terms)
    ∙ take_at before (tree_of before term ∷ []) (length before) refl

pub trees_append : (terms more : List Term) → trees (terms ++ more) ≡ fold with_term (trees terms) more
unfolding trees
trees_append terms more = fold-append with_term [] terms more

pub trees_push : (terms : List Term) (term : Term) → trees (terms ++ term ∷ []) ≡ with_term (trees terms) term
trees_push terms term = trees_append terms (term ∷ [])

pub trees_more : (terms : List Term) (n : ℕ) (term : Term) → n < length terms → trees (take (n + 1) terms) ≡ with_term (trees (take n terms)) (get_or terms n term)
unfolding trees
trees_more terms n term inside = fold_more with_term [] terms n term inside

pub trees_none : trees [] ≡ []
unfolding trees
trees_none = refl

pub trees_length : (terms : List Term) → length (trees terms) ≡ length terms
unfolding trees
trees_length terms = omega (arith, folded_length [] terms)

pub prefix_law : PrefixLaw
prefix_law terms more =
    ap (take (length terms)) (trees_append terms more)
    ∙ ap (λ n. take n (fold with_term (trees terms) more)) (sym (trees_length terms))
    ∙ folded_front (trees terms) more

-- the trees in front are those of the terms in front
pub trees_take : (terms : List Term) (n : ℕ) → n ≤ length terms → take n (trees terms) ≡ trees (take n terms)
trees_take terms n within =
    ap (λ ts. take n (trees ts)) (sym (take-append-drop n terms))
    ∙ ap (λ m. take m (trees (take n terms ++ drop n terms))) (sym (length-take-le n terms within))
    ∙ prefix_law (take n terms) (drop n terms)

-- the tree of a number is that of its term after the trees before it
pub tree_there : (terms : List Term) (n : ℕ) (term : Term) → n < length terms → tree_at (trees terms) n ≡ tree_of (take n (trees terms)) (get_or terms n term)
tree_there terms n term inside =
    let front = trees (take n terms) in
    let long : length front ≡ n = trees_length (take n terms) ∙ length-take-le n terms (omega arith) in
    sym (get_or-take (n + 1) (trees terms) n False (omega arith))
    ∙ ap (λ ts. get_or ts n False) (trees_take terms (n + 1) (omega arith) ∙ trees_more terms n term inside)
    ∙ get_or_push front (tree_of front (get_or terms n term)) False n long
    ∙ ap (λ ts. tree_of ts (get_or terms n term)) (sym (trees_take terms n (omega arith)))

-- what the terms in front are read as, with what one term more is read as
pub read_more : {X : Type 0} (f : Tree → X) (terms : List Term) (n : ℕ) (items : List X) (next : X) (term : Term) → n < length terms
    → items ≡ map f (trees (take n terms)) → next ≡ f (tree_of (trees (take n terms)) (get_or terms n term)) → items ++ next ∷ [] ≡ map f (trees (take (n + 1) terms))
read_more f terms n items next term inside before here =
    ap₂ (λ xs x. xs ++ x ∷ []) before here
    ∙ sym (map_push f (trees (take n terms)) (tree_of (trees (take n terms)) (get_or terms n term)))
    ∙ ap (map f) (sym (trees_more terms n term inside))
