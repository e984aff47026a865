use Rattle.std.proofs.Common.{rules, ◌≡◌, ◌+◌, ◌-◌, ◌<◌, Ok, length, map, get_or, set, vec_len, refl, ap, ◌∙◌, arith}
use Rattle.std.proofs.lemmas.List.{length-map}
use Rattle.words.specs.Words.{word_seen}
use Rattle.rules.specs.declared.table.Rule.{Rule}
use Rattle.tables.specs.Views.{terms_seen, variables_seen}
use Rattle.rules.specs.Views.{rule_seen, rules_seen}
use Rattle.rules.proofs.RuleLaws.{last_is, below_last, set_taken, set_added}
use Rattle.rules.proofs.table.RuleTable.take_set.Goals as goal

pub returns : goal.returns
returns c =
    let variables = variables_seen c.args.variables.now in
    let terms = terms_seen c.args.terms.now in
    let name = word_seen c.args.name in
    let s = rules_seen c.args.self.now in
    let table = c.args.self.now.rules in
    let n = vec_len table in
    let tested_rule = c.index.result.now in
    let rule = c.index_mut-rule.result.now in
    let last : c.in_ok-last.last + 1 ≡ n = search (rules, arith) in
    let some : 0 < n = omega arith in
    let all : n ≡ length table.items = omega (arith, table.ok.0) in
    let tested_there : tested_rule ≡ get_or table.items (n - 1) tested_rule = search (rules, arith) in
    let there : rule ≡ get_or table.items (n - 1) rule = search (rules, arith) in
    let tested =
    below_last variables terms name c.args.term s (rule_seen tested_rule) _ (omega (arith, length-map table.items rule_seen)) (last_is table.items n tested_rule all some tested_there)
    c.in_ok-assignment.ensures.the_assignment_or_the_first_fault in
    let new : Rule = record { name = rule.name; guard = rule.guard; sets = c.push.new.self } in
    record {
      what_the_line_adds_or_its_fault =
          set_taken variables terms name c.args.term s c.in_ok-assignment.assignment tested
          ∙ ap Ok (set_added table.items n rule all some there c.in_ok-assignment.assignment new refl refl c.in_ok-push.ensures.items
          ∙ ap (λ k. map rule_seen (set table.items k new)) (omega arith));
    }
