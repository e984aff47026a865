use Rattle.std.proofs.Common.{◌==◌, sym, ◌∙◌, rules}
use Rattle.std.proofs.lemmas.Iterator.{YieldsList-from_slice}
use Rattle.std.proofs.lemmas.Iterator.Search.{any_from_yields_List}
use borrow.Author.Tests.{tests}
use Rattle.rules.proofs.RuleLaws.{set_is_any}
use Rattle.rules.proofs.taking.is_set.Goals as goal

pub returns : goal.returns
returns c =
    record {
      whether_it_is_set =
          any_from_yields_List (λ a. a.variable == c.args.variable) _ _ _ c.any.ensures.ran (YieldsList-from_slice c.args.sets.now cc) (λ x b q k. search (rules, tests))
          ∙ sym (set_is_any c.args.variable c.args.sets.now);
    }
