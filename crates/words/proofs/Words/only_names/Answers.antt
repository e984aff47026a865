use Rattle.std.proofs.Common.{not, Err, rules, ◌∙◌, sym, ap, refl}
use borrow.Author.Tests.{tests}
use Rattle.std.proofs.lemmas.Iterator.Search.{find_from_yields_List}
use Rattle.std.proofs.lemmas.Iterator.Consumers.{YieldsList-from_first}
use Rattle.std.specs.Option.{option_map}
use Rattle.words.specs.Words.{place, word_seen, words_left, is_name}
use Rattle.words.proofs.Repeated.{fault_of, names_by_find}
use Rattle.words.proofs.Words.only_names.Goals as goal

pub returns-in-Some : goal.returns-in-Some
returns-in-Some c =
    let all = words_left (place c.args.self) in
    let found =
    find_from_yields_List (λ w. not (is_name w.bytes)) c.find.new.self _ c.find.result c.find.ensures.ran
    (YieldsList-from_first word_seen (λ w. words_left (place w)) all refl) (λ x b q k. search (rules, tests)) in
    record {
      all_are_names_or_the_first_that_is_none =
          ap Err c.bad_word.ensures.a_word_at_fault ∙ ap (λ o. fault_of (option_map word_seen o)) (sym c.in-Some.is) ∙ ap fault_of found ∙ names_by_find all;
    }

pub returns-in-None : goal.returns-in-None
returns-in-None c =
    let all = words_left (place c.args.self) in
    let found =
    find_from_yields_List (λ w. not (is_name w.bytes)) c.find.new.self _ c.find.result c.find.ensures.ran
    (YieldsList-from_first word_seen (λ w. words_left (place w)) all refl) (λ x b q k. search (rules, tests)) in
    record { all_are_names_or_the_first_that_is_none = ap (λ o. fault_of (option_map word_seen o)) (sym c.in-None.is) ∙ ap fault_of found ∙ names_by_find all }
