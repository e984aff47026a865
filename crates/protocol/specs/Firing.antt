-- The rules of a protocol's record as rules on trees, and their firing.
use Rattle.std.specs.Prelude.{ℕ, cond, length, None, Option, nat_lt, slice_index_or}
use Rattle.semantics.specs.Firing.{Rule}
use Rattle.semantics.specs.Trees.{State}
use Rattle.terms.specs.Rules.{rule, after}
use Rattle.rules.specs.Records.{RuleV}
use Rattle.rules.specs.Taking.{no_rule}
use Rattle.protocol.specs.Records.{ProtocolV}

-- A rule on trees: its guard and the trees that its variables are set to.
abbrev pub meant : ProtocolV → RuleV → Rule
meant p r = rule p.terms.terms r.guard r.sets

-- The state after the rule of a number, if there is such a rule and its guard is true in the state before.
abbrev pub fired : ProtocolV → ℕ → State → Option State
fired p number s = cond (nat_lt number (length p.rules)) (after (meant p (slice_index_or p.rules number no_rule)) s) None
