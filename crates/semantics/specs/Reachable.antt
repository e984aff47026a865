-- Protocols and the states that they can reach. A reader must believe where a protocol begins, and that it goes on by
-- firing one rule after another, and in no other way.
use Rattle.std.specs.Prelude.{◌≡◌, List, Some}
use Rattle.std.specs.List.{ContainsAt, AllByRecursion}
use Rattle.semantics.specs.Trees.{Tree, Declared, Formula, State, IsState, TrueIn, sort_of_tree}
use Rattle.semantics.specs.Firing.{Rule, Fires, SortedRule}

-- A protocol: what is declared, the formulas that describe where it begins, and its rules.
pub record Protocol : Type 0 where
  pub declared : Declared
  pub initial : List Tree
  pub rules : List Rule

-- At least one of the initial formulas is true in the state. (`Has` says that a list has an element, `All` that something
-- holds of every element.)
abbrev pub Initial : Protocol → State → Type 0
Initial p s = (formula : Tree) × ContainsAt p.initial formula × TrueIn s formula

-- The states that the protocol can reach: the initial ones, and each to which a rule leads from a reachable one.
pub data Reachable (p : Protocol) : State → Type 0 where
  initial : {s : State} → IsState p.declared s → Initial p s → Reachable p s
  fired : {s s' : State} {rule : Rule} → Reachable p s → ContainsAt p.rules rule → Fires rule s s' → Reachable p s'

-- A well-sorted protocol: its initial formulas are formulas, and its rules are well sorted.
pub record SortedProtocol (p : Protocol) : Type 0 where
  pub initial : AllByRecursion (λ formula. sort_of_tree p.declared formula ≡ Some Formula) p.initial
  pub rules : AllByRecursion (SortedRule p.declared) p.rules
