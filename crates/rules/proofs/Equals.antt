-- The test of two rules, and of two tables of rules, decides whether they say the same.
use Rattle.std.proofs.Common.{◌≡◌, Decides, vec_items, rules, refl, ap}
use Rattle.std.proofs.lemmas.Bool.Decides.{Decides-and, Decides-eqb, Decides-like}
use Rattle.std.proofs.lemmas.Slice.Eq.{bytes_eq-Decides, slice_eq-Decides}
use Rattle.std.specs.Cmp.Lexicographic.{pointwise}
use Rattle.names.specs.Names.{spelled}
use Rattle.terms.specs.declared.Assignment.{Assignment}
use Rattle.tables.proofs.Matching.{lists_decide}
use Rattle.rules.specs.Views.{rule_seen, rules_seen, rules_the_same, sets_the_same}
use Rattle.rules.specs.contracts.table.RuleTablePartialEq.TheImpl as table
use Rattle.rules.specs.declared.table.Rule.{Rule}
use Rattle.rules.specs.declared.table.RuleTable.{RuleTable}

same_assignments : (x y : Assignment) → Decides (sets_the_same x y) (x ≡ y)
same_assignments x y = search rules

pub rule_decides : (x y : Rule) → Decides (rules_the_same x y) (rule_seen x ≡ rule_seen y)
rule_decides x y =
    let xs = vec_items x.sets in
    let ys = vec_items y.sets in
    Decides-like _
    (λ p i. record { name = p.0 i; guard = p.1.0 i; sets = p.1.1 i })
    (λ e. (ap (λ r. r.name) e, (ap (λ r. r.guard) e, ap (λ r. r.sets) e)))
    (Decides-and _ _ (bytes_eq-Decides (spelled x.name) (spelled y.name))
    (Decides-and _ _ (Decides-eqb x.guard y.guard) (slice_eq-Decides same_assignments xs ys (pointwise sets_the_same xs ys) refl)))

pub rules_decide : (x y : RuleTable) → Decides (table.ghosts.eq x y) (rules_seen x ≡ rules_seen y)
rules_decide x y = lists_decide rule_seen rules_the_same rule_decides (vec_items x.rules) (vec_items y.rules)
