use Rattle.std.proofs.Common.{◌≡◌, false, map, is_some, sym, ap, ◌∙◌, rules}
use Rattle.names.specs.Names.{spelled, place_in}
use Rattle.words.specs.Words.{word_seen}
use Rattle.tables.specs.Views.{terms_seen}
use Rattle.rules.proofs.RuleLaws.{rule_tested}
use Rattle.rules.proofs.taking.test_rule.Goals as goal
use Rattle.rules.proofs.taking.test_rule.Goals.{In_ok-guard}

-- the name is new
new : (c : In_ok-guard) → is_some (place_in (map (λ r. spelled r.name) c.args.rules.now) c.args.name.bytes.now) ≡ false
new c = ap is_some (sym c.find.ensures.the_number_of_the_first_so_named) ∙ sym c.if-is_some.ensures

pub returns-in_err-check_room : goal.returns-in_err-check_room
returns-in_err-check_room c =
    let tested =
    rule_tested (terms_seen c.args.terms.now).sorts (word_seen c.args.name) c.args.guard c.args.rules.now (new (goal.at.returns-in_err-check_room c).In_ok-guard) c.in_ok-guard.guard
    c.in_ok-guard.ensures.a_formula_or_the_fault _ c.in_err-check_room.ensures.room_or_the_fault in
    search rules

pub returns : goal.returns
returns c =
    record {
      the_guard_or_the_first_fault =
          rule_tested (terms_seen c.args.terms.now).sorts (word_seen c.args.name) c.args.guard c.args.rules.now (new (goal.at.returns c).In_ok-guard) c.in_ok-guard.guard
          c.in_ok-guard.ensures.a_formula_or_the_fault _ c.in_ok-check_room.ensures.room_or_the_fault;
    }
