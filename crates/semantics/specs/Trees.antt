-- Expressions and formulas as trees. A reader must believe which trees have a sort, what a state is, which value a tree has
-- in a state, and which variables occur in it. Types, their values, and variables go by number, from 0.
use Rattle.std.specs.Prelude.{◌≡◌, ℕ, ◌<◌, Bool, true, false, cond, not, ◌&&◌, ◌||◌, List, length, Some, None, Option, ◌==◌, nat_lt, slice_index}
use Rattle.std.specs.Option.{option_map}

-- A tree: a variable, a value of a type, or an operator with its arguments.
pub data Tree : Type 0 where
  Var : ℕ → Tree
  Val : ℕ → ℕ → Tree
  True : Tree
  False : Tree
  Eq : Tree → Tree → Tree
  Not : Tree → Tree
  And : Tree → Tree → Tree
  Or : Tree → Tree → Tree
  Imp : Tree → Tree → Tree
  Ite : Tree → Tree → Tree → Tree

-- What is declared: of each type the number of its values, and of each variable its type.
pub record Declared : Type 0 where
  pub types : List ℕ
  pub variables : List ℕ

-- A sort: a formula, or a value of the type of this number.
pub data Sort : Type 0 where
  Formula : Sort
  Value : ℕ → Sort

-- The type of a declared variable.
abbrev pub type_of : Declared → ℕ → ℕ
type_of d v = slice_index d.variables v

-- How many values a sort has. A formula has two: it is true or false.
abbrev pub size : Declared → Sort → ℕ
size d Formula = 2
size d (Value of) = slice_index d.types of

-- The answer, if the argument in front is a formula.
abbrev pub given_formula : Option Sort → Option Sort → Option Sort
given_formula None answer = None
given_formula (Some Formula) answer = answer
given_formula (Some (Value of)) answer = None

-- The type of two arguments, if they are values of one type.
abbrev pub shared_type : Option Sort → Option Sort → Option ℕ
shared_type None other = None
shared_type (Some Formula) other = None
shared_type (Some (Value a)) None = None
shared_type (Some (Value a)) (Some Formula) = None
shared_type (Some (Value a)) (Some (Value b)) = cond (a == b) (Some a) None

-- The sort of a tree, if it has one. A variable and a value are declared, an equation has two values of one type, a choice
-- has a formula and two values of one type, and every other operator has formulas.
abbrev pub sort_of_tree : Declared → Tree → Option Sort
sort_of_tree d (Var v) = cond (nat_lt v (length d.variables)) (Some (Value (type_of d v))) None
sort_of_tree d (Val of k) = cond (nat_lt of (length d.types) && nat_lt k (size d (Value of))) (Some (Value of)) None
sort_of_tree d True = Some Formula
sort_of_tree d False = Some Formula
sort_of_tree d (Eq a b) = option_map (λ _. Formula) (shared_type (sort_of_tree d a) (sort_of_tree d b))
sort_of_tree d (Not a) = given_formula (sort_of_tree d a) (Some Formula)
sort_of_tree d (And a b) = given_formula (sort_of_tree d a) (given_formula (sort_of_tree d b) (Some Formula))
sort_of_tree d (Or a b) = given_formula (sort_of_tree d a) (given_formula (sort_of_tree d b) (Some Formula))
sort_of_tree d (Imp a b) = given_formula (sort_of_tree d a) (given_formula (sort_of_tree d b) (Some Formula))
sort_of_tree d (Ite f a b) = given_formula (sort_of_tree d f) (option_map Value (shared_type (sort_of_tree d a) (sort_of_tree d b)))

-- A state: the value of each variable.
abbrev pub State : Type 0
State = List ℕ

-- A state fits what is declared: each variable has a value, and that is one of its type.
pub record IsState (d : Declared) (s : State) : Type 0 where
  pub each_variable : length s ≡ length d.variables
  pub in_its_type : (v : ℕ) → v < length d.variables → slice_index s v < size d (Value (type_of d v))

-- The value of a formula: 1 if it is true, 0 if it is false.
abbrev pub bit : Bool → ℕ
bit true = 1
bit false = 0

-- A value counts as true if it is not 0.
abbrev pub is_true : ℕ → Bool
is_true n = not (n == 0)

-- The value of a tree in a state. A choice has the value of its second argument where the first is true, else of its third.
abbrev pub value : Tree → State → ℕ
value (Var v) s = slice_index s v
value (Val of k) s = k
value True s = bit true
value False s = bit false
value (Eq a b) s = bit (value a s == value b s)
value (Not a) s = bit (not (is_true (value a s)))
value (And a b) s = bit (is_true (value a s) && is_true (value b s))
value (Or a b) s = bit (is_true (value a s) || is_true (value b s))
value (Imp a b) s = bit (not (is_true (value a s)) || is_true (value b s))
value (Ite f a b) s = cond (is_true (value f s)) (value a s) (value b s)

-- Whether a formula is true in a state, as a test and as a fact.
abbrev pub true_in : State → Tree → Bool
true_in s formula = is_true (value formula s)

abbrev pub TrueIn : State → Tree → Type 0
TrueIn s formula = true_in s formula ≡ true

-- The variable is written in the tree.
abbrev pub occurs : ℕ → Tree → Bool
occurs v (Var w) = v == w
occurs v (Val of k) = false
occurs v True = false
occurs v False = false
occurs v (Eq a b) = occurs v a || occurs v b
occurs v (Not a) = occurs v a
occurs v (And a b) = occurs v a || occurs v b
occurs v (Or a b) = occurs v a || occurs v b
occurs v (Imp a b) = occurs v a || occurs v b
occurs v (Ite f a b) = occurs v f || (occurs v a || occurs v b)

-- P holds of each variable that is written in the tree.
abbrev pub EachVariable : (ℕ → Type 0) → Tree → Type 0
EachVariable P tree = (v : ℕ) → occurs v tree ≡ true → P v
