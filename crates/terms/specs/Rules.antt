-- Rules by number: the rule on trees that a guard and assignments to terms of a table stand for.
use Rattle.std.specs.Prelude.{ℕ, cond, List, [], ◌∷◌, map, Some, None, Option, ◌==◌, slice_index}
use Rattle.semantics.specs.Trees.{Tree, State, true_in}
use Rattle.semantics.specs.Firing as firing
use Rattle.terms.specs.declared.Assignment.{Assignment}
use Rattle.terms.specs.declared.Term.{Term}
use Rattle.terms.specs.Reading.{value_at}
use Rattle.terms.specs.Trees.{tree_at, trees}

-- The assignments, each to the tree of its term.
abbrev pub assignments : List Tree → List Assignment → List firing.Assignment
assignments trees sets = map (λ a. record { variable = a.variable; tree = tree_at trees a.term }) sets

-- The rule on trees.
abbrev pub rule : List Term → ℕ → List Assignment → firing.Rule
rule terms guard sets = record { guard = tree_at (trees terms) guard; sets = assignments (trees terms) sets }

-- The state after the rule, if its guard is true in the state before.
abbrev pub after : firing.Rule → State → Option State
after r s = cond (true_in s r.guard) (Some (firing.fire r s)) None

-- The value of a variable after the assignments, given the values of the terms in the state before: of several assignments
-- to it the first sets it, and if there is none it keeps its own.
abbrev pub set_value : List ℕ → State → List Assignment → ℕ → ℕ
set_value values s [] v = slice_index s v
set_value values s (a ∷ sets) v = cond (a.variable == v) (value_at values a.term) (set_value values s sets v)
