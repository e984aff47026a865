-- The tree of a term with a sort has that sort.
use Rattle.std.proofs.Common.{◌≡◌, ℕ, zero, suc, ◌<◌, ◌≤◌, Bool, true, false, cond, ◌&&◌, eqb, ltb, List, [], ◌∷◌, length, get_or, take, Some, None, Ok, Option, sym, refl, ap, ◌∙◌, ap₂, ⊎_elim, arith}
use Rattle.std.proofs.lemmas.List.{length-take-le, get_or-take}
use Rattle.std.proofs.lemmas.Bool.{leb-false, lt-ltb, and_from, cases_order, cond-true}
use Rattle.std.specs.Option.{option_map}
use Rattle.semantics.specs.Trees as trees
use Rattle.semantics.specs.Trees.{Tree, Declared, sort_of_tree, given_formula, shared_type}
use Rattle.terms.specs.declared.Sort.{Sort}
use Rattle.terms.specs.declared.Sort.TheVariants.{Formula, Value}
use Rattle.terms.specs.declared.Term.{Term}
use Rattle.terms.specs.declared.Term.TheVariants.{Var, Val, True, False, Eq, Not, And, Or, Imp, Ite}
use Rattle.terms.specs.declared.TermFault.{TermFault}
use Rattle.terms.specs.Laws.{SortsLaw, Sorted, sort_seen}
use Rattle.terms.specs.Sorts.{Tests, first_fault, unless, missing_term, sort_of_number, sort_is_value, differ, tests, two_formulas, result_sort}
use Rattle.terms.specs.Trees.{tree_at, tree_of, trees}
use Rattle.terms.proofs.Tables.{tree_there}

-- no test applies
abbrev Passed : Tests → Type 0
Passed [] = Unit {0}
Passed (test ∷ rest) = (test.0 ≡ false) × Passed rest

passed_more : (b : Bool) (fault : TermFault) (others : Option TermFault) → cond b (Some fault) others ≡ None → (b ≡ false) × (others ≡ None)
passed_more true fault others none = absurd (let z : ◌≡◌ {A = ℕ} 0 1 = cc in omega arith)
passed_more false fault others none = (refl, none)

passed : (all : Tests) → first_fault all ≡ None → Passed all
passed [] none = tt
passed (test ∷ rest) none =
    let both = passed_more test.0 test.1 (first_fault rest) none in (both.0, passed rest both.1)

no_fault : (o : Option TermFault) (answer s : Sort) → unless o answer ≡ Ok s → (o ≡ None) × (answer ≡ s)
no_fault None answer s is = let same : answer ≡ s = cc in (refl, same)
no_fault (Some fault) answer s is = absurd (let z : ◌≡◌ {A = ℕ} 0 1 = cc in omega arith)

formula_seen : (s : Sort) → sort_is_value s ≡ false → sort_seen s ≡ trees.Formula
formula_seen Formula is = refl
formula_seen (Value of) is = absurd (let z : ◌≡◌ {A = ℕ} 0 1 = cc in omega arith)

-- two values of one type
pub record Alike (x y : Sort) : Type 0 where
  pub equation : option_map (λ _. trees.Formula) (shared_type (Some (sort_seen x)) (Some (sort_seen y))) ≡ Some trees.Formula
  pub choice : option_map trees.Value (shared_type (Some (sort_seen x)) (Some (sort_seen y))) ≡ Some (sort_seen x)

alike_values : (a b : ℕ) (t : Bool) → eqb a b ≡ t → cond t false true ≡ false → Alike (Value a) (Value b)
alike_values a b true is same =
    let one = cond-true (eqb a b) (Some a) None is in
    record { equation = ap (option_map (λ _. trees.Formula)) one; choice = ap (option_map trees.Value) one }
alike_values a b false is same = absurd (let z : ◌≡◌ {A = ℕ} 0 1 = cc in omega arith)

alike : (x y : Sort) → differ x y ≡ false → Alike x y
alike Formula y same = absurd (let z : ◌≡◌ {A = ℕ} 0 1 = cc in omega arith)
alike (Value a) Formula same = absurd (let z : ◌≡◌ {A = ℕ} 0 1 = cc in omega arith)
alike (Value a) (Value b) same = alike_values a b (eqb a b) refl same

module _ (d : Declared) (sorts : List Sort) (before : List Tree) (agree : (k : ℕ) → k < length sorts → sort_of_tree d (tree_at before k) ≡ Some (sort_seen (sort_of_number sorts k))) where
  argument : (a : ℕ) → missing_term sorts a ≡ false → sort_of_tree d (tree_at before a) ≡ Some (sort_seen (sort_of_number sorts a))
  argument a here = agree a (leb-false (length sorts) a here)

  formula : (a : ℕ) → missing_term sorts a ≡ false → sort_is_value (sort_of_number sorts a) ≡ false → sort_of_tree d (tree_at before a) ≡ Some trees.Formula
  formula a here is = argument a here ∙ ap Some (formula_seen (sort_of_number sorts a) is)

  two : (a b : ℕ) → Passed (two_formulas sorts a b) → sort_of_tree d (trees.And (tree_at before a) (tree_at before b)) ≡ Some trees.Formula
  two a b ok =
      ap₂ (λ x y. given_formula x (given_formula y (Some trees.Formula))) (formula a ok.0 ok.1.1.0) (formula b ok.1.0 ok.1.1.1.0)

  pair : (a b : ℕ) → missing_term sorts a ≡ false → missing_term sorts b ≡ false → shared_type (sort_of_tree d (tree_at before a)) (sort_of_tree d (tree_at before b)) ≡ shared_type (Some (sort_seen (sort_of_number sorts a))) (Some (sort_seen (sort_of_number sorts b)))
  pair a b one other = ap₂ shared_type (argument a one) (argument b other)

  at_term : (t : Term) → Passed (tests d sorts t) → sort_of_tree d (tree_of before t) ≡ Some (sort_seen (result_sort d sorts t))
  at_term (Var v) ok = cond-true (ltb v (length d.variables)) (Some (trees.Value (get_or d.variables v 0))) None (lt-ltb _ _ (leb-false _ _ ok.0))
  at_term (Val of k) ok =
      cond-true (ltb of (length d.types) && ltb k (get_or d.types of 0)) (Some (trees.Value of)) None
      (and_from _ _ (lt-ltb _ _ (leb-false _ _ ok.0)) (lt-ltb _ _ (leb-false _ _ ok.1.0)))
  at_term True ok = refl
  at_term False ok = refl
  at_term (Eq a b) ok = ap (option_map (λ _. trees.Formula)) (pair a b ok.0 ok.1.0) ∙ (alike (sort_of_number sorts a) (sort_of_number sorts b) ok.1.1.1.0).equation
  at_term (Not a) ok = ap (λ x. given_formula x (Some trees.Formula)) (formula a ok.0 ok.1.0)
  at_term (And a b) ok = two a b ok
  at_term (Or a b) ok = two a b ok
  at_term (Imp a b) ok = two a b ok
  at_term (Ite f a b) ok =
      ap₂ (λ x y. given_formula x (option_map trees.Value y)) (formula f ok.0 ok.1.1.1.0) (pair a b ok.1.0 ok.1.1.0)
      ∙ (alike (sort_of_number sorts a) (sort_of_number sorts b) ok.1.1.1.1.1.0).choice

module _ (d : Declared) (terms : List Term) (sorts : List Sort) (sorted : Sorted d terms sorts) where
  abbrev HasSort : ℕ → Type 0
  HasSort k = sort_of_tree d (tree_at (trees terms) k) ≡ Some (sort_seen (sort_of_number sorts k))

  one_more : (n : ℕ) → n < length terms → ((k : ℕ) → k < n → HasSort k) → HasSort n
  one_more n inside below =
      let long : length (take n sorts) ≡ n = length-take-le n sorts (omega (arith, sorted.each_term)) in
      let out = no_fault (first_fault (tests d (take n sorts) (get_or terms n True))) _ _ (sorted.each_sort n inside) in
      ap (sort_of_tree d) (tree_there terms n True inside)
      ∙ at_term d (take n sorts) (take n (trees terms))
      (λ k under.
      let near : k < n = omega arith in
      ap (sort_of_tree d) (get_or-take n (trees terms) k trees.False near) ∙ below k near ∙ ap (λ s. Some (sort_seen s)) (sym (get_or-take n sorts k Formula near)))
      (get_or terms n True) (passed _ out.0)
      ∙ ap (λ s. Some (sort_seen s)) out.1

  all_below : (n : ℕ) → n ≤ length terms → (k : ℕ) → k < n → HasSort k
  all_below zero within k under = absurd (omega arith)
  all_below (suc n) within k under =
      ⊎_elim
      (λ same. one_more k (omega arith) (λ j less. all_below n (omega arith) j (omega arith)))
      (λ other. ⊎_elim (λ less. all_below n (omega arith) k less) (λ more. absurd (omega arith)) other)
      (cases_order k n)

pub sorts_law : SortsLaw
sorts_law d terms sorts sorted n inside = all_below d terms sorts sorted (suc n) inside n (omega arith)
