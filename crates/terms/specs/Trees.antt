-- The trees that a table of terms stands for. A reader must believe which tree a term is the name of: the arguments of a
-- term are numbers of terms before it.
use Rattle.std.specs.Prelude.{ℕ, List, [], ◌∷◌, ◌++◌, fold, slice_index_or}
use Rattle.semantics.specs.Trees.{Tree, Var, Val, True, False, Eq, Not, And, Or, Imp, Ite}
use Rattle.terms.specs.declared.Term.{Term}
use Rattle.terms.specs.declared.Term.TheVariants as term

-- The numbers of a term's arguments.
abbrev pub arguments : Term → List ℕ
arguments (term.Var v) = []
arguments (term.Val of k) = []
arguments term.True = []
arguments term.False = []
arguments (term.Eq a b) = a ∷ b ∷ []
arguments (term.Not a) = a ∷ []
arguments (term.And a b) = a ∷ b ∷ []
arguments (term.Or a b) = a ∷ b ∷ []
arguments (term.Imp a b) = a ∷ b ∷ []
arguments (term.Ite f a b) = f ∷ a ∷ b ∷ []

-- The tree of a number. A number of no tree means the tree False.
abbrev pub tree_at : List Tree → ℕ → Tree
tree_at trees n = slice_index_or trees n False

-- The tree of a term after the trees of the terms before it.
abbrev pub tree_of : List Tree → Term → Tree
tree_of before (term.Var v) = Var v
tree_of before (term.Val of k) = Val of k
tree_of before term.True = True
tree_of before term.False = False
tree_of before (term.Eq a b) = Eq (tree_at before a) (tree_at before b)
tree_of before (term.Not a) = Not (tree_at before a)
tree_of before (term.And a b) = And (tree_at before a) (tree_at before b)
tree_of before (term.Or a b) = Or (tree_at before a) (tree_at before b)
tree_of before (term.Imp a b) = Imp (tree_at before a) (tree_at before b)
tree_of before (term.Ite f a b) = Ite (tree_at before f) (tree_at before a) (tree_at before b)

-- The trees with that of one term more.
abbrev pub with_term : List Tree → Term → List Tree
with_term before term = before ++ tree_of before term ∷ []

-- The trees of a table, from its first term to its last.
unfoldable pub trees : List Term → List Tree
trees terms = fold with_term [] terms
