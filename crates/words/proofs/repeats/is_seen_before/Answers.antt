use Rattle.std.proofs.Common.{ltb, ◌&&◌, rules, ◌∙◌, refl}
use borrow.Author.Tests.{tests}
use Rattle.std.proofs.lemmas.Iterator.Search.{any_from_yields_List}
use Rattle.std.proofs.lemmas.Iterator.Consumers.{YieldsList-from_first}
use Rattle.std.specs.Str.{bytes_eq}
use Rattle.words.specs.Words.{place, word_seen, words_left}
use Rattle.words.proofs.Repeated.{seen_among}
use Rattle.words.proofs.repeats.is_seen_before.Goals as goal

pub returns : goal.returns
returns c =
    let column = c.args.column in
    let bytes = c.args.bytes.now in
    let all = words_left (place c.args.words) in
    record {
      whether_such_a_word_stands_before_the_column =
          any_from_yields_List (λ w. ltb w.column column && bytes_eq w.bytes bytes) c.any.new.self _ c.any.result c.any.ensures.ran
          (YieldsList-from_first word_seen (λ w. words_left (place w)) all refl) (λ x b q k. search (rules, tests))
          ∙ seen_among all column bytes;
    }
