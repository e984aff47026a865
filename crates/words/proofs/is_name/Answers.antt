use Rattle.std.proofs.Common.{◌≡◌, true, leb, ◌&&◌, length, rules}
use borrow.Author.Tests.{tests}
use Rattle.std.proofs.lemmas.Iterator.{YieldsList-from_slice}
use Rattle.std.proofs.lemmas.Iterator.Search.{all_from_yields_List}
use Rattle.words.specs.Words.{name_byte}
use Rattle.words.proofs.NameLaws.{by_bytes}
use Rattle.words.proofs.is_name.Goals as goal

pub returns-then-contains : goal.returns-then-contains
returns-then-contains c =
    let bytes = c.args.bytes.now in
    let fits : true ≡ (leb 1 (length bytes) && leb (length bytes) 16) = search rules in
    record {
      whether_it_is_a_name =
          by_bytes bytes _ fits (all_from_yields_List name_byte _ _ c.all.result c.all.ensures.ran (YieldsList-from_slice bytes cc) (λ x b q k. search (rules, tests)));
    }
