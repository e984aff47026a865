use Rattle.std.proofs.Common.{rules}
use mathlib.Core.List.{map-map}
use Rattle.rules.specs.Views.{rule_seen}
use Rattle.proposal.proofs.naming.rule_number.Goals as goal

pub returns : goal.returns
returns c = let named = map-map (λ r. r.name) rule_seen c.rules.result.now in search rules
