-- The terms that a formula is made of: itself, and the arguments of a term that it is made of.
use Rattle.std.specs.Prelude.{ℕ, suc, Bool, true, false, cond, List, [], ◌∷◌, take, set, replicate, fold, slice_index_or, slice_set}
use Rattle.terms.specs.declared.Term.{Term}
use Rattle.precondition.specs.Tables.{arguments}

-- The marks with these numbers marked.
abbrev pub with_marks : List Bool → List ℕ → List Bool
with_marks marks numbers = fold (λ done n. set done n true) marks numbers

-- A term that is marked has its arguments marked.
abbrev pub passed_on : ℕ → Term → List Bool → List Bool
passed_on n term marks = cond (slice_index_or marks n false) (with_marks marks (arguments term)) marks

-- From the last term down to the first, whose number is `n`.
abbrev pub marked_from : ℕ → List Term → List Bool → List Bool
marked_from n [] marks = marks
marked_from n (term ∷ rest) marks = passed_on n term (marked_from (suc n) rest marks)

-- A table up to a formula.
abbrev pub up_to : List Term → ℕ → List Term
up_to terms formula = take (suc formula) terms

-- Which terms the formula is made of. A table has at most 512 terms.
abbrev pub parts : List Term → ℕ → List Bool
parts terms formula = marked_from 0 (up_to terms formula) (slice_set (replicate 512 false) formula true)
