use Rattle.std.proofs.Common.{◌≡◌, rules, ◌∙◌, sym, ap}
use borrow.Author.Tests.{tests}
use Rattle.std.proofs.lemmas.Iterator.Search.{find_from_yields_List}
use Rattle.std.proofs.lemmas.Iterator.Consumers.{YieldsList-from_first}
use Rattle.std.specs.Option.{option_map}
use Rattle.words.specs.Repeats.{start, seen_before}
use Rattle.words.specs.Words.{place, word_seen, words_left}
use Rattle.words.proofs.Repeated.{repeat_found, all_differ}
use Rattle.words.proofs.repeats.first_repeat.Goals as goal

pub returns : goal.returns
returns c =
    let all = words_left (start c.args.text.now) in
    let found =
    find_from_yields_List (λ w. seen_before all w.column w.bytes) c.find.new.self _ c.find.result c.find.ensures.ran
    (YieldsList-from_first word_seen (λ w. words_left (place w)) all (ap words_left c.within.ensures.the_first_word_begins_the_text)) (λ x b q k. search (rules, tests)) in
    let columns : c.map.result ≡ option_map (λ w. w.column) (option_map word_seen c.find.result) = search rules in
    let is = columns ∙ ap (option_map (λ w. w.column)) found ∙ repeat_found all all in
    record { the_column_of_the_first_word_that_stands_further_left_too = is; no_repeat_means_all_differ = λ none. all_differ all (sym is ∙ none) }
