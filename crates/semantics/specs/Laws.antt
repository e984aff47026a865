-- The laws. Each is proved: none adds to what a reader must believe.
use Rattle.std.specs.Prelude.{◌≡◌, ℕ, ◌<◌, true, false, ◌≢◌, ◌⊎◌, ◌↔◌, List, length, Some, MatchOption, slice_index}
use Rattle.std.specs.List.{ContainsAt, AllByRecursion}
use Rattle.semantics.specs.Trees.{Tree, True, False, Eq, Not, And, Or, Imp, Ite, Declared, Sort, State, IsState, TrueIn, EachVariable, size, sort_of_tree, value, true_in}
use Rattle.semantics.specs.Firing.{Assignment, Rule, SortedRule, assigned, is_set, next_value, fire, precondition}
use Rattle.semantics.specs.Reachable.{Protocol, Reachable, SortedProtocol}
use Rattle.semantics.specs.Causes.{AllCaused, InitiallyTrue}

-- Each operator means in a state what logic says of it.
pub record Truth (s : State) : Type 0 where
  pub of_true : TrueIn s True
  pub of_false : TrueIn s False → ⊥
  pub of_equation : (a b : Tree) → TrueIn s (Eq a b) ↔ (value a s ≡ value b s)
  pub of_negation : (a : Tree) → TrueIn s (Not a) ↔ (TrueIn s a → ⊥)
  pub of_conjunction : (a b : Tree) → TrueIn s (And a b) ↔ (TrueIn s a × TrueIn s b)
  pub of_disjunction : (a b : Tree) → TrueIn s (Or a b) ↔ (TrueIn s a ⊎ TrueIn s b)
  pub of_implication : (a b : Tree) → TrueIn s (Imp a b) ↔ (TrueIn s a → TrueIn s b)
  pub of_choice : (f a b : Tree) → (TrueIn s f → value (Ite f a b) s ≡ value a s) × ((TrueIn s f → ⊥) → value (Ite f a b) s ≡ value b s)

abbrev pub TruthLaw : Type 0
TruthLaw = (s : State) → Truth s

-- A tree with a sort has a value of that sort in every state: a formula 0 or 1, a value one below the size of its type.
abbrev pub SortLaw : Type 0
SortLaw = (d : Declared) (tree : Tree) (sort : Sort) (s : State) → IsState d s → sort_of_tree d tree ≡ Some sort → value tree s < size d sort

-- Every variable of a tree with a sort is declared.
abbrev pub DeclarationLaw : Type 0
DeclarationLaw = (d : Declared) (tree : Tree) (sort : Sort) → sort_of_tree d tree ≡ Some sort → EachVariable (λ v. v < length d.variables) tree

-- The value of a tree depends on no more than the variables that occur in it.
abbrev pub OccurrenceLaw : Type 0
OccurrenceLaw = (tree : Tree) (s s' : State) → EachVariable (λ v. slice_index s v ≡ slice_index s' v) tree → value tree s ≡ value tree s'

-- A variable is set to the tree of one of its assignments; if to none, no assignment sets it.
abbrev pub AssignmentLaw : Type 0
AssignmentLaw =
    (sets : List Assignment) (v : ℕ) →
    MatchOption (assigned sets v) (AllByRecursion (λ a. a.variable ≢ v) sets) (λ tree. ContainsAt sets (record { variable = v; tree = tree }))

-- The state `s'` has the variables of `s`, each with its next value.
pub record IsAfter (rule : Rule) (s s' : State) : Type 0 where
  pub as_many : length s' ≡ length s
  pub each : (v : ℕ) → v < length s → slice_index s' v ≡ next_value (assigned rule.sets v) s v

-- There is one such state: the state after the rule.
abbrev pub FiringLaw : Type 0
FiringLaw = (rule : Rule) (s s' : State) → (s' ≡ fire rule s) ↔ IsAfter rule s s'

-- A well-sorted rule leads from a state to a state.
abbrev pub StateLaw : Type 0
StateLaw = (d : Declared) (rule : Rule) (s : State) → SortedRule d rule → IsState d s → IsState d (fire rule s)

-- The value of a precondition before a firing is the value of the tree after it, if the state has every variable that occurs
-- in the tree and is set.
abbrev pub ReplacementLaw : Type 0
ReplacementLaw =
    (rule : Rule) (tree : Tree) (s : State) → EachVariable (λ v. is_set rule.sets v ≡ true → v < length s) tree →
    value (precondition rule tree) s ≡ value tree (fire rule s)

-- A precondition is true before a well-sorted rule fires exactly if the formula is true after it.
abbrev pub PreconditionLaw : Type 0
PreconditionLaw =
    (d : Declared) (rule : Rule) (formula : Tree) (s : State) → SortedRule d rule → IsState d s →
    true_in s (precondition rule formula) ≡ true_in (fire rule s) formula

-- A precondition under a well-sorted rule has the sort of the tree, or none if the tree has none.
abbrev pub PreconditionSortLaw : Type 0
PreconditionSortLaw = (d : Declared) (rule : Rule) (tree : Tree) → SortedRule d rule → sort_of_tree d (precondition rule tree) ≡ sort_of_tree d tree

-- A tree none of whose variables is set is its own precondition.
abbrev pub UntouchedLaw : Type 0
UntouchedLaw = (rule : Rule) (tree : Tree) → EachVariable (λ v. is_set rule.sets v ≡ false) tree → precondition rule tree ≡ tree

-- What a well-sorted protocol reaches are states of what it declares.
abbrev pub ReachableLaw : Type 0
ReachableLaw = (p : Protocol) (s : State) → SortedProtocol p → Reachable p s → IsState p.declared s

-- If all of the invariants are true in every initial state, and every rule keeps every one of them by some cause, with a
-- partner from among them, then all of them are true in every reachable state.
abbrev pub ConsistencyLaw : Type 0
ConsistencyLaw =
    (p : Protocol) (invariants : List Tree) → SortedProtocol p → InitiallyTrue p invariants → AllCaused p invariants →
    (s : State) → Reachable p s → AllByRecursion (TrueIn s) invariants
