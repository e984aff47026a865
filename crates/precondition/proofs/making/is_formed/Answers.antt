use Rattle.std.proofs.Common.{rules, ◌∙◌}
use Rattle.std.proofs.lemmas.Iterator.{YieldsList-from_slice}
use Rattle.std.proofs.lemmas.Iterator.Consumers.{YieldsList-from_enumerate}
use Rattle.std.proofs.lemmas.Iterator.Search.{all_from_yields_List}
use Rattle.precondition.specs.Tables.{arguments, all_below}
use Rattle.precondition.proofs.Chains.{formed_is}
use Rattle.precondition.proofs.making.is_formed.Goals as goal

pub returns : goal.returns
returns c =
    record {
      each_argument_is_earlier =
          all_from_yields_List (λ p. all_below p.0 (arguments p.1)) _ _ _ c.all.ensures.ran (YieldsList-from_enumerate (YieldsList-from_slice c.args.terms.now (cc)) (cc)) (λ x b q k. search rules)
          ∙ formed_is 0 c.args.terms.now;
    }
