use Rattle.std.proofs.Common.{ltb, ◌&&◌, sym, ◌∙◌, ap, rules}
use borrow.Author.Tests.{tests}
use Rattle.std.proofs.lemmas.Bool.{lt-ltb}
use Rattle.std.proofs.lemmas.Iterator.{YieldsList-from_slice}
use Rattle.std.proofs.lemmas.Iterator.Search.{all_from_yields_List}
use Rattle.precondition.specs.Writing.{all_there}
use Rattle.precondition.proofs.Chains.{all_there_is}
use Rattle.precondition.proofs.scratch.are_there.Goals as goal

pub returns-then-formula-count : goal.returns-then-formula-count
returns-then-formula-count c =
    record {
      whether_all_are_there =
          all_from_yields_List (λ a. ltb a.term c.args.count) _ _ _ c.all.ensures.ran (YieldsList-from_slice c.args.sets.now (cc)) (λ x b q k. search (rules, tests))
          ∙ all_there_is c.args.count c.args.sets.now
          ∙ sym (ap (λ b. b && all_there c.args.count c.args.sets.now) (lt-ltb c.args.formula c.args.count c.if-formula-count.true));
    }
