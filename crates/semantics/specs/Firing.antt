-- Rules and their firing. A reader must believe what the state after a rule is, and what it is to write trees in the
-- place of variables; the precondition is that, done with what the rule assigns.
use Rattle.std.specs.Prelude.{◌≡◌, ℕ, ◌<◌, Bool, cond, List, [], ◌∷◌, map, length, is_some, Some, None, Option, ◌==◌, slice_index}
use Rattle.std.specs.List.{range_with_len, AllByRecursion}
use Rattle.std.specs.Option.{unwrap_or}
use Rattle.semantics.specs.Trees.{Tree, Var, Val, True, False, Eq, Not, And, Or, Imp, Ite, Declared, Formula, Value, State, type_of, sort_of_tree, value, TrueIn}

-- An assignment: the variable is set to the value of the tree.
pub record Assignment : Type 0 where
  pub variable : ℕ
  pub tree : Tree

-- A rule: where the guard is true, all of its assignments may be made at once.
pub record Rule : Type 0 where
  pub guard : Tree
  pub sets : List Assignment

-- The tree that a variable is set to: of several, the first.
abbrev pub assigned : List Assignment → ℕ → Option Tree
assigned [] v = None
assigned (a ∷ sets) v = cond (a.variable == v) (Some a.tree) (assigned sets v)

-- One of the assignments sets the variable.
abbrev pub is_set : List Assignment → ℕ → Bool
is_set sets v = is_some (assigned sets v)

-- A variable's value after the assignments: the value before them of the tree that it is set to, or else its own.
abbrev pub next_value : Option Tree → State → ℕ → ℕ
next_value (Some tree) s v = value tree s
next_value None s v = slice_index s v

-- The state after a rule: each of its variables, which `counting` numbers from 0, has its next value.
abbrev pub fire : Rule → State → State
fire rule s = map (λ v. next_value (assigned rule.sets v) s v) (range_with_len 0 (length s))

-- The rule fires in the state `s`, where its guard is true, and `s'` is the state after it.
pub record Fires (rule : Rule) (s s' : State) : Type 0 where
  pub enabled : TrueIn s rule.guard
  pub after : s' ≡ fire rule s

-- The tree with every set variable replaced by what it is set to, all at once: what is put in stays as it is.
abbrev pub replace : List Assignment → Tree → Tree
replace sets (Var v) = unwrap_or (assigned sets v) (Var v)
replace sets (Val of k) = Val of k
replace sets True = True
replace sets False = False
replace sets (Eq a b) = Eq (replace sets a) (replace sets b)
replace sets (Not a) = Not (replace sets a)
replace sets (And a b) = And (replace sets a) (replace sets b)
replace sets (Or a b) = Or (replace sets a) (replace sets b)
replace sets (Imp a b) = Imp (replace sets a) (replace sets b)
replace sets (Ite f a b) = Ite (replace sets f) (replace sets a) (replace sets b)

-- The precondition of a formula under a rule: what must be true before, for the formula to be true after.
abbrev pub precondition : Rule → Tree → Tree
precondition rule formula = replace rule.sets formula

-- A well-sorted assignment sets a declared variable to a tree of the variable's type.
pub record SortedAssignment (d : Declared) (a : Assignment) : Type 0 where
  pub declared : a.variable < length d.variables
  pub of_its_type : sort_of_tree d a.tree ≡ Some (Value (type_of d a.variable))

-- A well-sorted rule has a formula for its guard, and every one of its assignments is well sorted.
pub record SortedRule (d : Declared) (rule : Rule) : Type 0 where
  pub guard : sort_of_tree d rule.guard ≡ Some Formula
  pub sets : AllByRecursion (SortedAssignment d) rule.sets
