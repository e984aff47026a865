-- Trees with a sort, and the values that they have.
use Rattle.std.proofs.Common.{◌≡◌, ℕ, ◌<◌, Bool, true, false, cond, ◌&&◌, eqb, ltb, length, get_or, is_some, Some, None, Option, sym, refl, ap, subst, arith}
use Rattle.std.proofs.lemmas.Bool.{false≢true, ltb-true, eqb-true, and_parts, cond_both}
use Rattle.std.specs.Option.{option_map}
use Rattle.semantics.specs.Laws.{SortLaw, DeclarationLaw}
use Rattle.semantics.specs.Trees.{Tree, Var, Val, True, False, Eq, Not, And, Or, Imp, Ite, Declared, Sort, Formula, Value, State, IsState, EachVariable, type_of, size, given_formula, shared_type, sort_of_tree, bit, is_true, value}
use Rattle.semantics.proofs.Occurring.{in_both}

-- a value of the sort, if there is one
abbrev InSort : Declared → Option Sort → ℕ → Type 0
InSort d None n = Unit {0}
InSort d (Some sort) n = n < size d sort

bit_below : (b : Bool) → bit b < 2
bit_below true = omega arith
bit_below false = omega arith

-- a formula in front changes nothing, and anything else leaves no sort
behind_formula : (d : Declared) (front answer : Option Sort) (n : ℕ) → InSort d answer n → InSort d (given_formula front answer) n
behind_formula d None answer n fits = tt
behind_formula d (Some Formula) answer n fits = fits
behind_formula d (Some (Value of)) answer n fits = tt

-- the value of an equation
equation : (d : Declared) (shared : Option ℕ) (b : Bool) → InSort d (option_map (λ _. Formula) shared) (bit b)
equation d None b = tt
equation d (Some of) b = bit_below b

-- one of two values of one type
chosen : (d : Declared) (test : Bool) (x y : Option Sort) (m n : ℕ) → InSort d x m → InSort d y n → InSort d (option_map Value (shared_type x y)) (cond test m n)
chosen d test None y m n one other = tt
chosen d test (Some Formula) y m n one other = tt
chosen d test (Some (Value a)) None m n one other = tt
chosen d test (Some (Value a)) (Some Formula) m n one other = tt
chosen d test (Some (Value a)) (Some (Value b)) m n one other =
    cond_both (eqb a b) (Some a) None (λ shared. InSort d (option_map Value shared) (cond test m n))
    (λ same. cond_both test m n (λ k. k < size d (Value a)) (λ _. one) (λ _. subst (λ of. n < size d (Value of)) (sym (eqb-true a b same)) other))
    (λ _. tt)

module _ (d : Declared) (s : State) (state : IsState d s) where
  -- a tree has a value of its sort, if it has one
  in_sort : (tree : Tree) → InSort d (sort_of_tree d tree) (value tree s)
  in_sort (Var v) =
      cond_both (ltb v (length d.variables)) (Some (Value (type_of d v))) None (λ sort. InSort d sort (get_or s v 0))
      (λ declared. state.in_its_type v (ltb-true v (length d.variables) declared))
      (λ _. tt)
  in_sort (Val of k) =
      cond_both (ltb of (length d.types) && ltb k (size d (Value of))) (Some (Value of)) None (λ sort. InSort d sort k)
      (λ declared. ltb-true k (size d (Value of)) (and_parts (ltb of (length d.types)) (ltb k (size d (Value of))) declared).1)
      (λ _. tt)
  in_sort True = bit_below true
  in_sort False = bit_below false
  in_sort (Eq a b) = equation d (shared_type (sort_of_tree d a) (sort_of_tree d b)) _
  in_sort (Not a) = behind_formula d (sort_of_tree d a) _ _ (bit_below _)
  in_sort (And a b) = behind_formula d (sort_of_tree d a) _ _ (behind_formula d (sort_of_tree d b) _ _ (bit_below _))
  in_sort (Or a b) = behind_formula d (sort_of_tree d a) _ _ (behind_formula d (sort_of_tree d b) _ _ (bit_below _))
  in_sort (Imp a b) = behind_formula d (sort_of_tree d a) _ _ (behind_formula d (sort_of_tree d b) _ _ (bit_below _))
  in_sort (Ite f a b) =
      behind_formula d (sort_of_tree d f) _ _ (chosen d (is_true (value f s)) (sort_of_tree d a) (sort_of_tree d b) (value a s) (value b s) (in_sort a) (in_sort b))

pub sort_law : SortLaw
sort_law d tree sort s state is = subst (λ o. InSort d o (value tree s)) is (in_sort d s state tree)

-- what stands behind no formula has no sort
given_parts : (front answer : Option Sort) → is_some (given_formula front answer) ≡ true → (is_some front ≡ true) × (is_some answer ≡ true)
given_parts None answer there = absurd (false≢true there)
given_parts (Some Formula) answer there = (refl, there)
given_parts (Some (Value of)) answer there = absurd (false≢true there)

-- what shares a type has a sort
shared_parts : (x y : Option Sort) → is_some (shared_type x y) ≡ true → (is_some x ≡ true) × (is_some y ≡ true)
shared_parts None y there = absurd (false≢true there)
shared_parts (Some Formula) y there = absurd (false≢true there)
shared_parts (Some (Value a)) None there = absurd (false≢true there)
shared_parts (Some (Value a)) (Some Formula) there = absurd (false≢true there)
shared_parts (Some (Value a)) (Some (Value b)) there = (refl, refl)

from_mapped : (f : ℕ → Sort) (o : Option ℕ) → is_some (option_map f o) ≡ true → is_some o ≡ true
from_mapped f None there = there
from_mapped f (Some of) there = refl

module _ (d : Declared) where
  abbrev IsDeclared : ℕ → Type 0
  IsDeclared v = v < length d.variables

  -- two formulas
  both_formulas :
      (a b : Tree) →
      (is_some (sort_of_tree d a) ≡ true → EachVariable IsDeclared a) →
      (is_some (sort_of_tree d b) ≡ true → EachVariable IsDeclared b) →
      is_some (given_formula (sort_of_tree d a) (given_formula (sort_of_tree d b) (Some Formula))) ≡ true → EachVariable IsDeclared (And a b)
  both_formulas a b first second there =
      let parts = given_parts (sort_of_tree d a) (given_formula (sort_of_tree d b) (Some Formula)) there in
      in_both IsDeclared a b (first parts.0) (second (given_parts (sort_of_tree d b) (Some Formula) parts.1).0)

  -- two values of one type
  both_values :
      (f : ℕ → Sort) (a b : Tree) →
      (is_some (sort_of_tree d a) ≡ true → EachVariable IsDeclared a) →
      (is_some (sort_of_tree d b) ≡ true → EachVariable IsDeclared b) →
      is_some (option_map f (shared_type (sort_of_tree d a) (sort_of_tree d b))) ≡ true → EachVariable IsDeclared (And a b)
  both_values f a b first second there =
      let parts = shared_parts (sort_of_tree d a) (sort_of_tree d b) (from_mapped f (shared_type (sort_of_tree d a) (sort_of_tree d b)) there) in
      in_both IsDeclared a b (first parts.0) (second parts.1)

  all_declared : (tree : Tree) → is_some (sort_of_tree d tree) ≡ true → EachVariable IsDeclared tree
  all_declared (Var v) there = λ w here.
      let declared : ltb v (length d.variables) ≡ true =
      cond_both (ltb v (length d.variables)) (Some (Value (type_of d v))) None (λ sort. is_some sort ≡ true → ltb v (length d.variables) ≡ true) (λ below. λ _. below) (λ _ nothing. absurd (false≢true nothing)) there in
      omega (arith, eqb-true w v here, ltb-true v (length d.variables) declared)
  all_declared (Val of k) there = λ v here. absurd (false≢true here)
  all_declared True there = λ v here. absurd (false≢true here)
  all_declared False there = λ v here. absurd (false≢true here)
  all_declared (Eq a b) there = both_values (λ _. Formula) a b (all_declared a) (all_declared b) there
  all_declared (Not a) there = all_declared a (given_parts (sort_of_tree d a) (Some Formula) there).0
  all_declared (And a b) there = both_formulas a b (all_declared a) (all_declared b) there
  all_declared (Or a b) there = both_formulas a b (all_declared a) (all_declared b) there
  all_declared (Imp a b) there = both_formulas a b (all_declared a) (all_declared b) there
  all_declared (Ite f a b) there =
      let parts = given_parts (sort_of_tree d f) (option_map Value (shared_type (sort_of_tree d a) (sort_of_tree d b))) there in
      in_both IsDeclared f (And a b) (all_declared f parts.0) (both_values Value a b (all_declared a) (all_declared b) parts.1)

pub declaration_law : DeclarationLaw
declaration_law d tree sort is = all_declared d tree (ap is_some is)
