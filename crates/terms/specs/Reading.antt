-- Readings of a table term by term. Each is tied to the trees by a law: what a term is read as, given what the terms
-- before it are read as, is what its tree is read as.
use Rattle.std.specs.Prelude.{ℕ, Bool, false, cond, not, ◌&&◌, ◌||◌, List, ◌==◌, slice_index, slice_index_or}
use Rattle.semantics.specs.Trees.{State, bit, is_true}
use Rattle.terms.specs.declared.Term.{Term}
use Rattle.terms.specs.declared.Term.TheVariants.{Var, Val, True, False, Eq, Not, And, Or, Imp, Ite}

-- The value of a number among the values of the terms before. A number of no term has the value of the tree False.
abbrev pub value_at : List ℕ → ℕ → ℕ
value_at values n = slice_index values n

-- The value of a term in a state, given the values of the terms before it.
abbrev pub value_of : State → List ℕ → Term → ℕ
value_of s values (Var v) = slice_index s v
value_of s values (Val of k) = k
value_of s values True = 1
value_of s values False = 0
value_of s values (Eq a b) = bit (value_at values a == value_at values b)
value_of s values (Not a) = bit (not (is_true (value_at values a)))
value_of s values (And a b) = bit (is_true (value_at values a) && is_true (value_at values b))
value_of s values (Or a b) = bit (is_true (value_at values a) || is_true (value_at values b))
value_of s values (Imp a b) = bit (not (is_true (value_at values a)) || is_true (value_at values b))
value_of s values (Ite f a b) = cond (is_true (value_at values f)) (value_at values a) (value_at values b)

-- Whether the variable occurs in the term of a number. In no term nothing occurs.
abbrev pub occurs_at : List Bool → ℕ → Bool
occurs_at flags n = slice_index_or flags n false

-- Whether a variable occurs in a term, given in which of the terms before it it occurs.
abbrev pub occurs_in : ℕ → List Bool → Term → Bool
occurs_in v flags (Var w) = v == w
occurs_in v flags (Val of k) = false
occurs_in v flags True = false
occurs_in v flags False = false
occurs_in v flags (Eq a b) = occurs_at flags a || occurs_at flags b
occurs_in v flags (Not a) = occurs_at flags a
occurs_in v flags (And a b) = occurs_at flags a || occurs_at flags b
occurs_in v flags (Or a b) = occurs_at flags a || occurs_at flags b
occurs_in v flags (Imp a b) = occurs_at flags a || occurs_at flags b
occurs_in v flags (Ite f a b) = occurs_at flags f || (occurs_at flags a || occurs_at flags b)
