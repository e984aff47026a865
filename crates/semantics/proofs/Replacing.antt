-- Trees put in the place of variables.
use Rattle.std.proofs.Common.{◌≡◌, ℕ, false, cond, not, ◌&&◌, ◌||◌, eqb, ltb, List, [], ◌∷◌, length, get_or, is_some, IfSome, Some, None, Option, unwrap_or, sym, refl, ap, ◌∙◌, subst, ap₂, arith}
use Rattle.std.proofs.lemmas.Bool.{lt-ltb, eq-eqb, eqb-true, cond-true, cond_both}
use Rattle.std.specs.Option.{option_map}
use Rattle.std.specs.List.{AllByRecursion}
use Rattle.semantics.specs.Laws.{OccurrenceLaw, UntouchedLaw, PreconditionSortLaw}
use Rattle.semantics.specs.Trees.{Tree, Var, Val, True, False, Eq, Not, And, Or, Imp, Ite, Declared, Formula, Value, State, EachVariable, type_of, given_formula, shared_type, sort_of_tree, bit, is_true, value}
use Rattle.semantics.specs.Firing.{Assignment, SortedAssignment, assigned, is_set, replace}
use Rattle.semantics.proofs.Occurring.{in_first, in_second}

-- what nothing is put in the place of
pub kept : (o : Option Tree) (own : Tree) → is_some o ≡ false → unwrap_or o own ≡ own
kept None own none = refl
kept (Some other) own none = absurd (let z : ◌≡◌ {A = ℕ} 0 1 = cc in omega arith)

module _ (sets : List Assignment) where
  abbrev Unset : ℕ → Type 0
  Unset v = is_set sets v ≡ false

  untouched : (tree : Tree) → EachVariable Unset tree → replace sets tree ≡ tree
  untouched (Var v) none = kept (assigned sets v) (Var v) (none v (eq-eqb v v refl))
  untouched (Val of k) none = refl
  untouched True none = refl
  untouched False none = refl
  untouched (Eq a b) none = ap₂ Eq (untouched a (in_first Unset a b none)) (untouched b (in_second Unset a b none))
  untouched (Not a) none = ap Not (untouched a none)
  untouched (And a b) none = ap₂ And (untouched a (in_first Unset a b none)) (untouched b (in_second Unset a b none))
  untouched (Or a b) none = ap₂ Or (untouched a (in_first Unset a b none)) (untouched b (in_second Unset a b none))
  untouched (Imp a b) none = ap₂ Imp (untouched a (in_first Unset a b none)) (untouched b (in_second Unset a b none))
  untouched (Ite f a b) none =
      let rest : EachVariable Unset (And a b) = in_second Unset f (And a b) none in
      let test = untouched f (in_first Unset f (And a b) none) in
      let one = untouched a (in_first Unset a b rest) in
      let other = untouched b (in_second Unset a b rest) in
      λ i. Ite (test i) (one i) (other i)

pub untouched_law : UntouchedLaw
untouched_law rule tree none = untouched rule.sets tree none

module _ (sets : List Assignment) (s s' : State) where
  -- what is put in the place of the variable has in one state the value that the variable has in the other
  abbrev Same : ℕ → Type 0
  Same v = value (replace sets (Var v)) s ≡ get_or s' v 0

  pub replaced : (tree : Tree) → EachVariable Same tree → value (replace sets tree) s ≡ value tree s'
  replaced (Var v) same = same v (eq-eqb v v refl)
  replaced (Val of k) same = refl
  replaced True same = refl
  replaced False same = refl
  replaced (Eq a b) same = ap₂ (λ x y. bit (eqb x y)) (replaced a (in_first Same a b same)) (replaced b (in_second Same a b same))
  replaced (Not a) same = ap (λ x. bit (not (is_true x))) (replaced a same)
  replaced (And a b) same = ap₂ (λ x y. bit (is_true x && is_true y)) (replaced a (in_first Same a b same)) (replaced b (in_second Same a b same))
  replaced (Or a b) same = ap₂ (λ x y. bit (is_true x || is_true y)) (replaced a (in_first Same a b same)) (replaced b (in_second Same a b same))
  replaced (Imp a b) same =
      ap₂ (λ x y. bit (not (is_true x) || is_true y)) (replaced a (in_first Same a b same)) (replaced b (in_second Same a b same))
  replaced (Ite f a b) same =
      let rest : EachVariable Same (And a b) = in_second Same f (And a b) same in
      let test = replaced f (in_first Same f (And a b) same) in
      let one = replaced a (in_first Same a b rest) in
      let other = replaced b (in_second Same a b rest) in
      λ i. cond (is_true (test i)) (one i) (other i)

-- with nothing put in, two states that agree on what occurs give the same value
pub occurrence_law : OccurrenceLaw
occurrence_law tree s s' same = sym (ap (λ t. value t s) (untouched [] tree (λ v here. refl))) ∙ replaced [] s s' tree same

-- what the variable is set to, if anything, is of its type
abbrev pub SortedFor : Declared → ℕ → Option Tree → Type 0
SortedFor d v o = IfSome o (λ tree. SortedAssignment d (record { variable = v; tree = tree }))

pub sorted_for : (d : Declared) (sets : List Assignment) (v : ℕ) → AllByRecursion (SortedAssignment d) sets → SortedFor d v (assigned sets v)
sorted_for d [] v all = tt
sorted_for d (a ∷ sets) v all =
    cond_both (eqb a.variable v) (Some a.tree) (assigned sets v) (SortedFor d v)
    (λ same. subst (λ w. SortedAssignment d (record { variable = w; tree = a.tree })) (eqb-true a.variable v same) all.0)
    (λ other. sorted_for d sets v all.1)

same_sort : (d : Declared) (v : ℕ) (o : Option Tree) → SortedFor d v o → sort_of_tree d (unwrap_or o (Var v)) ≡ sort_of_tree d (Var v)
same_sort d v None sorted = refl
same_sort d v (Some other) sorted = sorted.of_its_type ∙ sym (cond-true (ltb v (length d.variables)) (Some (Value (type_of d v))) None (lt-ltb v (length d.variables) sorted.declared))

module _ (d : Declared) (sets : List Assignment) (all : AllByRecursion (SortedAssignment d) sets) where
  replaced_sort : (tree : Tree) → sort_of_tree d (replace sets tree) ≡ sort_of_tree d tree
  replaced_sort (Var v) = same_sort d v (assigned sets v) (sorted_for d sets v all)
  replaced_sort (Val of k) = refl
  replaced_sort True = refl
  replaced_sort False = refl
  replaced_sort (Eq a b) = ap₂ (λ x y. option_map (λ _. Formula) (shared_type x y)) (replaced_sort a) (replaced_sort b)
  replaced_sort (Not a) = ap (λ x. given_formula x (Some Formula)) (replaced_sort a)
  replaced_sort (And a b) = ap₂ (λ x y. given_formula x (given_formula y (Some Formula))) (replaced_sort a) (replaced_sort b)
  replaced_sort (Or a b) = ap₂ (λ x y. given_formula x (given_formula y (Some Formula))) (replaced_sort a) (replaced_sort b)
  replaced_sort (Imp a b) = ap₂ (λ x y. given_formula x (given_formula y (Some Formula))) (replaced_sort a) (replaced_sort b)
  replaced_sort (Ite f a b) =
      let test = replaced_sort f in
      let one = replaced_sort a in
      let other = replaced_sort b in
      λ i. given_formula (test i) (option_map Value (shared_type (one i) (other i)))

pub precondition_sort_law : PreconditionSortLaw
precondition_sort_law d rule tree sorted = replaced_sort d rule.sets sorted.sets tree
