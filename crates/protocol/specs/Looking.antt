-- The parts of a rule's record.
use Rattle.std.specs.Prelude.{ℕ, List}
use Rattle.terms.specs.declared.Assignment.{Assignment}
use Rattle.rules.specs.Records.{RuleV}

abbrev pub name_of_rule : RuleV → List ℕ
name_of_rule r = r.name

abbrev pub guard_of_rule : RuleV → ℕ
guard_of_rule r = r.guard

abbrev pub sets_of_rule : RuleV → List Assignment
sets_of_rule r = r.sets
