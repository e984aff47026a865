-- The sort of a term: a formula, or a value of a type. Types, variables, values and terms go by number, from 0.
use Rattle.std.specs.Prelude.{ℕ, Bool, true, false, cond, List, [], ◌∷◌, length, Some, None, Ok, Err, Option, Result, ◌==◌, nat_le, slice_index, slice_index_or}
pub use Rattle.semantics.specs.Trees.{Declared}
use Rattle.terms.specs.declared.Declarations.{Declarations}
use Rattle.terms.specs.declared.Sort.{Sort}
use Rattle.terms.specs.declared.Sort.TheVariants.{Formula, Value}
use Rattle.terms.specs.declared.Term.{Term}
use Rattle.terms.specs.declared.Term.TheVariants.{Var, Val, True, False, Eq, Not, And, Or, Imp, Ite}
use Rattle.terms.specs.declared.TermFault.{TermFault}
use Rattle.terms.specs.declared.TermFault.TheVariants.{NoSuch, WrongSort}

-- A test and the fault that it tells of. Faults are looked for in the order of their numbers, and of one number from
-- the left: the first that applies is the answer.
abbrev pub Tests : Type 0
Tests = List (Bool × TermFault)

abbrev pub first_fault : Tests → Option TermFault
first_fault [] = None
first_fault (test ∷ tests) = cond test.0 (Some test.1) (first_fault tests)

-- The answer unless a test applies.
abbrev pub unless : {A : Type 0} → Option TermFault → A → Result A TermFault
unless (Some fault) answer = Err fault
unless None answer = Ok answer

-- There is no earlier term of this number.
abbrev pub missing_term : List Sort → ℕ → Bool
missing_term sorts n = nat_le (length sorts) n

-- The sort of an earlier term.
abbrev pub sort_of_number : List Sort → ℕ → Sort
sort_of_number sorts n = slice_index_or sorts n Formula

abbrev pub sort_is_formula : Sort → Bool
sort_is_formula Formula = true
sort_is_formula (Value of) = false

abbrev pub sort_is_value : Sort → Bool
sort_is_value Formula = false
sort_is_value (Value of) = true

-- Not two values of one type.
abbrev pub differ : Sort → Sort → Bool
differ Formula b = true
differ (Value of) Formula = true
differ (Value of) (Value other) = cond (of == other) false true

-- The tests of a form of two formulas.
abbrev pub two_formulas : List Sort → ℕ → ℕ → Tests
two_formulas sorts a b =
    (missing_term sorts a, NoSuch 0) ∷ (missing_term sorts b, NoSuch 1)
    ∷ (sort_is_value (sort_of_number sorts a), WrongSort 0) ∷ (sort_is_value (sort_of_number sorts b), WrongSort 1) ∷ []

-- The tests of each form. A fault is at one of the arguments, which count from 0: an argument that does not exist
-- before one of the wrong sort.
abbrev pub tests : Declared → List Sort → Term → Tests
tests d sorts (Var v) = (nat_le (length d.variables) v, NoSuch 0) ∷ []
tests d sorts (Val of value) = (nat_le (length d.types) of, NoSuch 0) ∷ (nat_le (slice_index d.types of) value, NoSuch 1) ∷ []
tests d sorts True = []
tests d sorts False = []
tests d sorts (Eq a b) =
    (missing_term sorts a, NoSuch 0) ∷ (missing_term sorts b, NoSuch 1)
    ∷ (sort_is_formula (sort_of_number sorts a), WrongSort 0) ∷ (differ (sort_of_number sorts a) (sort_of_number sorts b), WrongSort 1) ∷ []
tests d sorts (Not a) = (missing_term sorts a, NoSuch 0) ∷ (sort_is_value (sort_of_number sorts a), WrongSort 0) ∷ []
tests d sorts (And a b) = two_formulas sorts a b
tests d sorts (Or a b) = two_formulas sorts a b
tests d sorts (Imp a b) = two_formulas sorts a b
tests d sorts (Ite f a b) =
    (missing_term sorts f, NoSuch 0) ∷ (missing_term sorts a, NoSuch 1) ∷ (missing_term sorts b, NoSuch 2)
    ∷ (sort_is_value (sort_of_number sorts f), WrongSort 0) ∷ (sort_is_formula (sort_of_number sorts a), WrongSort 1)
    ∷ (differ (sort_of_number sorts a) (sort_of_number sorts b), WrongSort 2) ∷ []

-- The sort that each form has if no test applies.
abbrev pub result_sort : Declared → List Sort → Term → Sort
result_sort d sorts (Var v) = Value (slice_index d.variables v)
result_sort d sorts (Val of value) = Value of
result_sort d sorts True = Formula
result_sort d sorts False = Formula
result_sort d sorts (Eq a b) = Formula
result_sort d sorts (Not a) = Formula
result_sort d sorts (And a b) = Formula
result_sort d sorts (Or a b) = Formula
result_sort d sorts (Imp a b) = Formula
result_sort d sorts (Ite f a b) = sort_of_number sorts a

-- The sort of a term among the declarations and the sorts of the terms before it, or its fault.
abbrev pub sort : Declared → List Sort → Term → Result Sort TermFault
sort d sorts term = unless (first_fault (tests d sorts term)) (result_sort d sorts term)

-- The numbers that a report shows: 8 for a number of nothing, 9 for a wrong sort; and the argument at fault.
abbrev pub number : TermFault → ℕ
number (NoSuch at) = 8
number (WrongSort at) = 9

abbrev pub argument : TermFault → ℕ
argument (NoSuch at) = at
argument (WrongSort at) = at

-- No declarations at all: forms made of earlier terms do not depend on them.
abbrev pub undeclared : Declared
undeclared = record { types = []; variables = [] }

-- What the program's declarations stand for.
abbrev pub declared : Declarations → Declared
declared d = record { types = d.types.now; variables = d.variables.now }
