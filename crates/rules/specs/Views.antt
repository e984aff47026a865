-- What the program's rules stand for.
use Rattle.std.specs.Prelude.{◌==◌, Bool, List, map, vec_items}
use Rattle.std.specs.Cmp.Lexicographic.{pointwise}
use Rattle.std.specs.Ordering.{eq_of_both, on}
use Rattle.std.specs.Str.{bytes_eq}
use Rattle.names.specs.Names.{spelled}
use Rattle.terms.specs.declared.Assignment.{Assignment}
use Rattle.rules.specs.Records.{RuleV}
use Rattle.rules.specs.declared.table.Rule.{Rule}
use Rattle.rules.specs.declared.table.RuleTable.{RuleTable}

abbrev pub rule_seen : Rule → RuleV
rule_seen r = record { name = spelled r.name; guard = r.guard; sets = vec_items r.sets }

-- Whether two assignments, and two rules, have the same parts.
abbrev pub sets_the_same : Assignment → Assignment → Bool
sets_the_same = eq_of_both (on (λ a. a.variable) ◌==◌) (on (λ a. a.term) ◌==◌)

abbrev pub rules_the_same : Rule → Rule → Bool
rules_the_same =
    eq_of_both (on (λ r. spelled r.name) bytes_eq) (eq_of_both (on (λ r. r.guard) ◌==◌) (on (λ r. vec_items r.sets) (pointwise sets_the_same)))

abbrev pub rules_seen : RuleTable → List RuleV
rules_seen t = map rule_seen (vec_items t.rules)
