-- Trees by the lowest numbers of what they are made of.
use Rattle.std.proofs.Common.{◌≡◌, ℕ, ◌<◌, ◌≤◌, List, [], ◌∷◌, ◌++◌, map, length, sym, refl, ap, ◌∙◌, subst, ap₂, ⊎_elim, arith}
use Rattle.std.proofs.ByRecursion.{All-weaker}
use Rattle.std.proofs.lemmas.List.{length-map, length-append, length_push, get_or-map, get_or_append_left, get_or_push, map_push, ext_get_or}
use Rattle.std.proofs.lemmas.Bool.{cases_lt}
use Rattle.std.specs.List.{AllByRecursion}
use Rattle.semantics.specs.Trees.{Tree}
use Rattle.semantics.specs.Trees as tree
use Rattle.terms.specs.Trees.{tree_at, tree_of}
use Rattle.terms.specs.declared.Term.{Term}
use Rattle.terms.specs.declared.Term.TheVariants.{Var, Val, True, False, Eq, Not, And, Or, Imp, Ite}
use Rattle.precondition.specs.Places.{place}
use Rattle.precondition.specs.Steps.{First, term_at}
use Rattle.precondition.proofs.Placing.{place_within, place_there, place_first, place_append}

-- the trees that a tree is made of
abbrev pub parts_of : Tree → List Tree
parts_of (tree.Var v) = []
parts_of (tree.Val of k) = []
parts_of tree.True = []
parts_of tree.False = []
parts_of (tree.Eq a b) = a ∷ b ∷ []
parts_of (tree.Not a) = a ∷ []
parts_of (tree.And a b) = a ∷ b ∷ []
parts_of (tree.Or a b) = a ∷ b ∷ []
parts_of (tree.Imp a b) = a ∷ b ∷ []
parts_of (tree.Ite f a b) = f ∷ a ∷ b ∷ []

-- a tree as a term that names each part by its place
abbrev pub lower : List Tree → Tree → Term
lower ts (tree.Var v) = Var v
lower ts (tree.Val of k) = Val of k
lower ts tree.True = True
lower ts tree.False = False
lower ts (tree.Eq a b) = Eq (place ts a) (place ts b)
lower ts (tree.Not a) = Not (place ts a)
lower ts (tree.And a b) = And (place ts a) (place ts b)
lower ts (tree.Or a b) = Or (place ts a) (place ts b)
lower ts (tree.Imp a b) = Imp (place ts a) (place ts b)
lower ts (tree.Ite f a b) = Ite (place ts f) (place ts a) (place ts b)

-- each part of the tree is among the trees
abbrev pub Known : List Tree → Tree → Type 0
Known ts t = AllByRecursion (λ part. place ts part < length ts) (parts_of t)

-- the term stands for the tree
pub rebuilt : (ts : List Tree) (t : Tree) → Known ts t → tree_of ts (lower ts t) ≡ t
rebuilt ts (tree.Var v) known = refl
rebuilt ts (tree.Val of k) known = refl
rebuilt ts tree.True known = refl
rebuilt ts tree.False known = refl
rebuilt ts (tree.Eq a b) known = ap₂ tree.Eq (place_there ts a known.0) (place_there ts b known.1.0)
rebuilt ts (tree.Not a) known = ap tree.Not (place_there ts a known.0)
rebuilt ts (tree.And a b) known = ap₂ tree.And (place_there ts a known.0) (place_there ts b known.1.0)
rebuilt ts (tree.Or a b) known = ap₂ tree.Or (place_there ts a known.0) (place_there ts b known.1.0)
rebuilt ts (tree.Imp a b) known = ap₂ tree.Imp (place_there ts a known.0) (place_there ts b known.1.0)
rebuilt ts (tree.Ite f a b) known =
    λ i. tree.Ite (place_there ts f known.0 i) (place_there ts a known.1.0 i) (place_there ts b known.1.1.0 i)

-- more trees at the end change neither
module _ (ts more : List Tree) where
  pub known_append : (t : Tree) → Known ts t → Known (ts ++ more) t
  known_append t known =
      All-weaker (λ part. place ts part < length ts) (λ part. place (ts ++ more) part < length (ts ++ more))
      (λ part here. omega (arith, place_append ts more part here, length-append ts more)) (parts_of t) known

  pub lower_append : (t : Tree) → Known ts t → lower (ts ++ more) t ≡ lower ts t
  lower_append (tree.Var v) known = refl
  lower_append (tree.Val of k) known = refl
  lower_append tree.True known = refl
  lower_append tree.False known = refl
  lower_append (tree.Eq a b) known = ap₂ Eq (place_append ts more a known.0) (place_append ts more b known.1.0)
  lower_append (tree.Not a) known = ap Not (place_append ts more a known.0)
  lower_append (tree.And a b) known = ap₂ And (place_append ts more a known.0) (place_append ts more b known.1.0)
  lower_append (tree.Or a b) known = ap₂ Or (place_append ts more a known.0) (place_append ts more b known.1.0)
  lower_append (tree.Imp a b) known = ap₂ Imp (place_append ts more a known.0) (place_append ts more b known.1.0)
  lower_append (tree.Ite f a b) known =
      λ i. Ite (place_append ts more f known.0 i) (place_append ts more a known.1.0 i) (place_append ts more b known.1.1.0 i)

-- the parts of each tree are among the trees, and each term names those of its tree by their places
pub record Canonical (ts : List Tree) (names : List Term) : Type 0 where
  pub known : (k : ℕ) → k < length ts → Known ts (tree_at ts k)
  pub named : names ≡ map (lower ts) ts

-- a function of the trees that more trees do not change
pub map_same : {X : Type 0} (d : X) (f g : Tree → X) (ts : List Tree) → ((k : ℕ) → k < length ts → f (tree_at ts k) ≡ g (tree_at ts k)) → map f ts ≡ map g ts
map_same d f g ts same =
    ext_get_or d (map f ts) (map g ts) (length-map ts f ∙ sym (length-map ts g))
    (λ k inside.
    let here : k < length ts = omega (arith, length-map ts f) in
    get_or-map f ts k tree.False d here ∙ same k here ∙ sym (get_or-map g ts k tree.False d here))

pub canonical_none : Canonical [] []
canonical_none = record { known = λ k inside. absurd (omega arith); named = refl }

pub canonical_push : (ts : List Tree) (names : List Term) (t : Tree) → Canonical ts names → Known ts t → Canonical (ts ++ t ∷ []) (names ++ lower ts t ∷ [])
canonical_push ts names t c known =
    let all = ts ++ t ∷ [] in
    record {
      known = λ k inside.
          ⊎_elim
          (λ old. subst (Known all) (sym (get_or_append_left ts (t ∷ []) tree.False k old)) (known_append ts (t ∷ []) (tree_at ts k) (c.known k old)))
          (λ new. subst (Known all) (sym (get_or_push ts t tree.False k (omega (arith, length_push ts t)))) (known_append ts (t ∷ []) t known))
          (cases_lt k (length ts));
      named =
          ap₂ (λ xs x. xs ++ x ∷ [])
          (c.named ∙ map_same (Var 0) (lower ts) (lower all) ts (λ k inside. sym (lower_append ts (t ∷ []) (tree_at ts k) (c.known k inside))))
          (sym (lower_append ts (t ∷ []) t known))
          ∙ sym (map_push (lower all) ts t);
    }

-- a term is found among the names where its tree is found among the trees
module _ (ts : List Tree) (names : List Term) (c : Canonical ts names) (t : Tree) (known : Known ts t) (n : ℕ) (first : First names (lower ts t) n) where
  as_many : length names ≡ length ts
  as_many = ap length c.named ∙ length-map ts (lower ts)

  name_is : (k : ℕ) → k < length ts → term_at names k ≡ lower ts (tree_at ts k)
  name_is k inside = ap (λ xs. term_at xs k) c.named ∙ get_or-map (lower ts) ts k tree.False (Var 0) inside

  at_first : n < length ts → place ts t ≤ n
  at_first inside =
      place_first ts t n inside
      (sym (rebuilt ts (tree_at ts n) (c.known n inside))
      ∙ ap (tree_of ts) (sym (name_is n inside) ∙ first.there (omega (arith, as_many)))
      ∙ rebuilt ts t known)

  not_before : place ts t < n → ⊥
  not_before less =
      let inside : place ts t < length ts = omega (arith, as_many, first.within) in
      first.before (place ts t) less (name_is (place ts t) inside ∙ ap (lower ts) (place_there ts t inside))

  pub found_place : n ≡ place ts t
  found_place =
      ⊎_elim
      (λ less. absurd (not_before less))
      (λ not-less. ⊎_elim (λ inside. omega (arith, at_first inside)) (λ over. omega (arith, place_within ts t, as_many, first.within)) (cases_lt n (length ts)))
      (cases_lt (place ts t) n)
