-- A table each of whose arguments is the number of an earlier term, named by lowest copies.
use Rattle.std.proofs.Common.{◌≡◌, ℕ, zero, suc, ◌+◌, ◌<◌, ◌≤◌, true, ◌&&◌, List, [], ◌∷◌, ◌++◌, map, length, get_or, take, drop, sym, refl, ap, ◌∙◌, subst, ap₂, add-one, arith}
use Rattle.std.proofs.ByRecursion.{All-weaker}
use Rattle.std.proofs.lemmas.List.{length-map, length-take-le, get_or-map, get_or-take, map_push, ext_get_or, drop_more}
use Rattle.std.proofs.lemmas.Bool.{and_parts, and_from, ltb-true}
use Rattle.std.specs.List.{AllByRecursion}
use Rattle.semantics.specs.Trees.{Tree}
use Rattle.semantics.specs.Trees as tree
use Rattle.terms.proofs.Tables.{tree_there, trees_length, trees_more}
use Rattle.terms.specs.Trees.{tree_at, tree_of, trees}
use Rattle.terms.specs.declared.Term.{Term}
use Rattle.terms.specs.declared.Term.TheVariants.{Var, Val, True, False, Eq, Not, And, Or, Imp, Ite}
use Rattle.precondition.specs.Places.{place}
use Rattle.precondition.specs.Steps.{First, term_at}
use Rattle.precondition.specs.Tables.{arguments, renamed, all_below, formed_from, formed, lowest, named}
use Rattle.precondition.proofs.Canonical.{Known, Canonical, lower, map_same, canonical_push, found_place}
use Rattle.precondition.proofs.Placing.{place_first, place_append, place_push}

-- the same arguments make the same tree
pub tree_same : (xs ys : List Tree) (t : Term) → AllByRecursion (λ a. tree_at xs a ≡ tree_at ys a) (arguments t) → tree_of xs t ≡ tree_of ys t
tree_same xs ys (Var v) same = refl
tree_same xs ys (Val of k) same = refl
tree_same xs ys True same = refl
tree_same xs ys False same = refl
tree_same xs ys (Eq a b) same = ap₂ tree.Eq same.0 same.1.0
tree_same xs ys (Not a) same = ap tree.Not same.0
tree_same xs ys (And a b) same = ap₂ tree.And same.0 same.1.0
tree_same xs ys (Or a b) same = ap₂ tree.Or same.0 same.1.0
tree_same xs ys (Imp a b) same = ap₂ tree.Imp same.0 same.1.0
tree_same xs ys (Ite f a b) same = λ i. tree.Ite (same.0 i) (same.1.0 i) (same.1.1.0 i)

-- a term that names its arguments by the places of their trees
pub lower_term : (to : ℕ → ℕ) (ts us : List Tree) (t : Term) → AllByRecursion (λ a. to a ≡ place ts (tree_at us a)) (arguments t) → renamed to t ≡ lower ts (tree_of us t)
lower_term to ts us (Var v) same = refl
lower_term to ts us (Val of k) same = refl
lower_term to ts us True same = refl
lower_term to ts us False same = refl
lower_term to ts us (Eq a b) same = ap₂ Eq same.0 same.1.0
lower_term to ts us (Not a) same = ap Not same.0
lower_term to ts us (And a b) same = ap₂ And same.0 same.1.0
lower_term to ts us (Or a b) same = ap₂ Or same.0 same.1.0
lower_term to ts us (Imp a b) same = ap₂ Imp same.0 same.1.0
lower_term to ts us (Ite f a b) same = λ i. Ite (same.0 i) (same.1.0 i) (same.1.1.0 i)

-- the parts of a term's tree are the trees of its arguments
pub known_term : (ts us : List Tree) (t : Term) → AllByRecursion (λ a. place ts (tree_at us a) < length ts) (arguments t) → Known ts (tree_of us t)
known_term ts us (Var v) there = tt
known_term ts us (Val of k) there = tt
known_term ts us True there = tt
known_term ts us False there = tt
known_term ts us (Eq a b) there = there
known_term ts us (Not a) there = there
known_term ts us (And a b) there = there
known_term ts us (Or a b) there = there
known_term ts us (Imp a b) there = there
known_term ts us (Ite f a b) there = there

below_all : (n : ℕ) (numbers : List ℕ) → all_below n numbers ≡ true → AllByRecursion (λ a. a < n) numbers
below_all n [] is = tt
below_all n (a ∷ rest) is = let both = and_parts _ _ is in (ltb-true a n both.0, below_all n rest both.1)

pub earlier_from : (n : ℕ) (terms : List Term) (k : ℕ) → formed_from n terms ≡ true → k < length terms → AllByRecursion (λ a. a < n + k) (arguments (term_at terms k))
earlier_from n [] k is inside = absurd (omega arith)
earlier_from n (t ∷ terms) zero is inside =
    All-weaker (λ a. a < n) (λ a. a < n + 0) (λ a less. omega arith) (arguments t) (below_all n (arguments t) (and_parts _ _ is).0)
earlier_from n (t ∷ terms) (suc k) is inside =
    All-weaker (λ a. a < suc n + k) (λ a. a < n + suc k) (λ a less. omega arith) (arguments (term_at terms k))
    (earlier_from (suc n) terms k (and_parts _ _ is).1 (omega arith))

-- each argument is the number of an earlier term
pub earlier : (terms : List Term) (k : ℕ) → formed terms ≡ true → k < length terms → AllByRecursion (λ a. a < k) (arguments (term_at terms k))
earlier terms k is inside =
    All-weaker (λ a. a < 0 + k) (λ a. a < k) (λ a less. omega arith) (arguments (term_at terms k)) (earlier_from 0 terms k is inside)

formed_take_from : (n i : ℕ) (terms : List Term) → formed_from n terms ≡ true → formed_from n (take i terms) ≡ true
formed_take_from n zero terms is = refl
formed_take_from n (suc i) [] is = refl
formed_take_from n (suc i) (t ∷ terms) is = let both = and_parts _ _ is in and_from _ _ both.0 (formed_take_from (suc n) i terms both.1)

pub formed_take : (i : ℕ) (terms : List Term) → formed terms ≡ true → formed (take i terms) ≡ true
formed_take i terms is = formed_take_from 0 i terms is

-- the tree of a term, its arguments taken from the whole table
pub tree_here : (terms : List Term) (k : ℕ) → formed terms ≡ true → k < length terms → tree_at (trees terms) k ≡ tree_of (trees terms) (term_at terms k)
tree_here terms k is inside =
    tree_there terms k (Var 0) inside
    ∙ tree_same (take k (trees terms)) (trees terms) (term_at terms k)
    (All-weaker (λ a. a < k) (λ a. tree_at (take k (trees terms)) a ≡ tree_at (trees terms) a) (λ a less. get_or-take k (trees terms) a tree.False less) (arguments (term_at terms k)) (earlier terms k is inside))

-- a tree of the table has a place in it, no later than its own
pub place_own : (ts : List Tree) (k : ℕ) → k < length ts → place ts (tree_at ts k) ≤ k
place_own ts k inside = place_first ts (tree_at ts k) k inside refl

pub lowest_at : (terms : List Term) (a : ℕ) → a < length (trees terms) → get_or (lowest terms) a 0 ≡ place (trees terms) (tree_at (trees terms) a)
lowest_at terms a inside = get_or-map (place (trees terms)) (trees terms) a tree.False 0 inside

module _ (terms : List Term) (is : formed terms ≡ true) where
  abbrev forest : List Tree
  forest = trees terms

  -- a term of the table, named by lowest copies
  pub named_at : (k : ℕ) → k < length terms → renamed (λ a. get_or (lowest terms) a 0) (term_at terms k) ≡ lower forest (tree_at forest k)
  named_at k inside =
      lower_term (λ a. get_or (lowest terms) a 0) forest forest (term_at terms k)
      (All-weaker (λ a. a < k) (λ a. get_or (lowest terms) a 0 ≡ place forest (tree_at forest a)) (λ a less. lowest_at terms a (omega (arith, trees_length terms))) (arguments (term_at terms k)) (earlier terms k is inside))
      ∙ ap (lower forest) (sym (tree_here terms k is inside))

  pub table_canonical : Canonical forest (named terms)
  table_canonical =
      record {
        known = λ k inside.
            let here : k < length terms = omega (arith, trees_length terms) in
            subst (Known forest) (sym (tree_here terms k is here))
            (known_term forest forest (term_at terms k)
            (All-weaker (λ a. a < k) (λ a. place forest (tree_at forest a) < length forest) (λ a less. omega (arith, place_own forest a (omega arith))) (arguments (term_at terms k)) (earlier terms k is here)));
        named =
            ext_get_or (Var 0) (named terms) (map (lower forest) forest)
            (length-map terms _ ∙ sym (length-map forest (lower forest) ∙ trees_length terms))
            (λ k inside.
            let here : k < length terms = omega (arith, length-map terms (renamed (λ a. get_or (lowest terms) a 0))) in
            get_or-map (renamed (λ a. get_or (lowest terms) a 0)) terms k (Var 0) (Var 0) here
            ∙ named_at k here
            ∙ sym (get_or-map (lower forest) forest k tree.False (Var 0) (omega (arith, trees_length terms))));
      }

-- one term more
module _ (terms : List Term) (i : ℕ) (is : formed terms ≡ true) (inside : i < length terms) where
  abbrev front : List Term
  front = take i terms

  abbrev before : List Tree
  before = trees front

  abbrev here : Tree
  here = tree_of before (term_at terms i)

  many : length before ≡ i
  many = trees_length front ∙ length-take-le i terms (omega arith)

  args : AllByRecursion (λ a. a < i) (arguments (term_at terms i))
  args = earlier terms i is inside

  pub next_lower : renamed (λ a. get_or (lowest front) a 0) (term_at terms i) ≡ lower before here
  next_lower =
      lower_term (λ a. get_or (lowest front) a 0) before before (term_at terms i)
      (All-weaker (λ a. a < i) (λ a. get_or (lowest front) a 0 ≡ place before (tree_at before a)) (λ a less. lowest_at front a (omega (arith, many))) (arguments (term_at terms i)) args)

  next_known : Known before here
  next_known =
      known_term before before (term_at terms i)
      (All-weaker (λ a. a < i) (λ a. place before (tree_at before a) < length before) (λ a less. omega (arith, many, place_own before a (omega (arith, many)))) (arguments (term_at terms i)) args)

  pub next_place : (n : ℕ) → First (named front) (renamed (λ a. get_or (lowest front) a 0) (term_at terms i)) n → n ≡ place before here
  next_place n first =
      found_place before (named front) (table_canonical front (formed_take i terms is)) here next_known n (subst (λ t. First (named front) t n) next_lower first)

  pub lowest_more : lowest (take (i + 1) terms) ≡ lowest front ++ place before here ∷ []
  lowest_more =
      let all = before ++ here ∷ [] in
      ap (λ ts. map (place ts) ts) (trees_more terms i (Var 0) inside)
      ∙ map_push (place all) before here
      ∙ ap₂ (λ xs x. xs ++ x ∷ [])
      (map_same 0 (place all) (place before) before (λ k below. place_append before (here ∷ []) (tree_at before k) (omega (arith, place_own before k below))))
      (place_push before here)

  pub named_more : named (take (i + 1) terms) ≡ named front ++ renamed (λ a. get_or (lowest front) a 0) (term_at terms i) ∷ []
  named_more =
      (table_canonical (take (i + 1) terms) (formed_take (i + 1) terms is)).named
      ∙ ap (λ ts. map (lower ts) ts) (trees_more terms i (Var 0) inside)
      ∙ sym (canonical_push before (named front) here (table_canonical front (formed_take i terms is)) next_known).named
      ∙ ap (λ t. named front ++ t ∷ []) (sym next_lower)

-- the test of a table, one term more at a time
pub formed_step : (terms : List Term) (n : ℕ) → n < length terms → formed_from n (drop n terms) ≡ (all_below n (arguments (term_at terms n)) && formed_from (n + 1) (drop (n + 1) terms))
formed_step terms n inside =
    ap (formed_from n) (drop_more terms n (Var 0) inside) ∙ ap (λ m. all_below n (arguments (term_at terms n)) && formed_from m (drop (n + 1) terms)) (sym (add-one n))
