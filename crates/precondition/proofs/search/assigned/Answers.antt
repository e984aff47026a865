use Rattle.std.proofs.Common.{◌≡◌, eqb, ap, ◌∙◌, rules}
use borrow.Author.Tests.{tests}
use Rattle.std.proofs.lemmas.Iterator.{YieldsList-from_slice}
use Rattle.std.proofs.lemmas.Iterator.Search.{find_from_yields_List}
use Rattle.std.specs.Option.{option_map}
use Rattle.precondition.proofs.Chains.{assigned_is}
use Rattle.precondition.proofs.search.assigned.Goals as goal

pub returns : goal.returns
returns c =
    let mapped : c.map.result ≡ option_map (λ a. a.term) (option_map (λ y. y.now) c.find.result) = search rules in
    record {
      the_term_of_the_first_assignment =
          mapped
          ∙ ap (option_map (λ a. a.term)) (find_from_yields_List (λ a. eqb a.variable c.args.variable) _ _ c.find.result c.find.ensures.ran (YieldsList-from_slice c.args.sets.now (cc)) (λ x b q k. search (rules, tests)))
          ∙ assigned_is c.args.sets.now c.args.variable;
    }
