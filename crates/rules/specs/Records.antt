-- A rule as a record: its name as bytes, and everything else by number from 0.
use Rattle.std.specs.Prelude.{ℕ, List}
use Rattle.terms.specs.declared.Assignment.{Assignment}

-- Its name, the term that is its guard, and its assignments.
pub record RuleV : Type 0 where
  pub name : List ℕ
  pub guard : ℕ
  pub sets : List Assignment
