use Rattle.std.proofs.Common.{rules}
use Rattle.std.proofs.iter.runs.Made.{chains}
use Rattle.tables.proofs.Copies.{copied}
use Rattle.rules.specs.Views.{rule_seen}
use Rattle.rules.proofs.copying.copy_rules.Goals as goal

pub returns : goal.returns
returns c = record { rules_that_say_the_same = copied rule_seen _ _ (search (rules, chains)) }
