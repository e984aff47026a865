-- The limits and sorts that the rules obey, in the words of the format. Nothing here speaks of reading.
use Rattle.std.specs.Prelude.{◌≡◌, ℕ, ◌<◌, ◌≤◌, List, map, length, get_or, slice_index, slice_index_or}
use Rattle.terms.specs.declared.Assignment.{Assignment}
use Rattle.terms.specs.declared.Sort.TheVariants.{Formula, Value}
use Rattle.tables.specs.Lawful.{Names, IsOf}
use Rattle.tables.specs.Records.{VariablesV, TermsV}
use Rattle.rules.specs.Records.{RuleV}

-- A rule's guard is a formula; it has at most 16 assignments, each of a term of its variable's type to a variable, and
-- sets no variable twice.
pub record LawfulRule (v : VariablesV) (t : TermsV) (r : RuleV) : Type 0 where
  pub guard : IsOf Formula t r.guard
  pub few : length r.sets ≤ 16
  pub sets : (i : ℕ) (none : Assignment) → i < length r.sets → ((get_or r.sets i none).variable < length v.names) × IsOf (Value (slice_index v.kinds (get_or r.sets i none).variable)) t (get_or r.sets i none).term
  pub once : (i j : ℕ) (none : Assignment) → i < length r.sets → j < length r.sets → (get_or r.sets i none).variable ≡ (get_or r.sets j none).variable → i ≡ j

-- At most 64 rules.
pub record LawfulRules (v : VariablesV) (t : TermsV) (rules : List RuleV) : Type 0 where
  pub few : length rules ≤ 64
  pub named : Names (map (λ r. r.name) rules)
  pub each : (i : ℕ) (none : RuleV) → i < length rules → LawfulRule v t (slice_index_or rules i none)
