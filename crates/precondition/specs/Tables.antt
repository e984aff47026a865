-- Tables of terms: which are refused, and which copy of each term is the lowest.
use Rattle.std.specs.Prelude.{ℕ, suc, Bool, true, cond, ◌&&◌, List, [], ◌∷◌, map, length, Ok, Err, Result, nat_lt, slice_index}
pub use Rattle.terms.specs.Trees.{arguments}
use Rattle.terms.specs.Trees.{trees}
use Rattle.terms.specs.declared.Term.{Term}
use Rattle.terms.specs.declared.Term.TheVariants.{Var, Val, True, False, Eq, Not, And, Or, Imp, Ite}
use Rattle.precondition.specs.Places.{place}
use Rattle.precondition.specs.declared.faults.Refusal.{Refusal}
use Rattle.precondition.specs.declared.faults.Refusal.TheVariants.{TooManyTerms, ArgumentNotEarlier, NoSuchTerm, ScratchFull}

-- The numbers under which a report shows the refusals: 8 for a number of no term, 10 for a table with too many terms, 27 for
-- more new terms than the scratch holds.
abbrev pub number : Refusal → ℕ
number NoSuchTerm = 8
number ArgumentNotEarlier = 8
number TooManyTerms = 10
number ScratchFull = 27

-- A term with each of its arguments by another number.
abbrev pub renamed : (ℕ → ℕ) → Term → Term
renamed to (Var v) = Var v
renamed to (Val of k) = Val of k
renamed to True = True
renamed to False = False
renamed to (Eq a b) = Eq (to a) (to b)
renamed to (Not a) = Not (to a)
renamed to (And a b) = And (to a) (to b)
renamed to (Or a b) = Or (to a) (to b)
renamed to (Imp a b) = Imp (to a) (to b)
renamed to (Ite f a b) = Ite (to f) (to a) (to b)

-- All of these numbers are below `n`.
abbrev pub all_below : ℕ → List ℕ → Bool
all_below n [] = true
all_below n (a ∷ rest) = nat_lt a n && all_below n rest

-- Each argument of each term, of which the first has the number `n`, is the number of an earlier term.
abbrev pub formed_from : ℕ → List Term → Bool
formed_from n [] = true
formed_from n (term ∷ rest) = all_below n (arguments term) && formed_from (suc n) rest

abbrev pub formed : List Term → Bool
formed terms = formed_from 0 terms

-- A table that is not refused: it has at most 512 terms, and each argument is the number of an earlier term.
abbrev pub accepted : List Term → Result (List Term) Refusal
accepted terms = cond (nat_lt 512 (length terms)) (Err TooManyTerms) (cond (formed terms) (Ok terms) (Err ArgumentNotEarlier))

-- The lowest copy of each term: the first place of its tree.
abbrev pub lowest : List Term → List ℕ
lowest terms = map (place (trees terms)) (trees terms)

-- The terms with each argument by the number of its lowest copy.
abbrev pub named : List Term → List Term
named terms = map (renamed (λ n. slice_index (lowest terms) n)) terms
