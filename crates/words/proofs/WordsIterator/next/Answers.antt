use Rattle.words.proofs.Repeated.{yields_first}
use Rattle.words.proofs.WordsIterator.next.Goals as goal

pub returns-clause-steps : goal.returns-clause-steps
returns-clause-steps c =
    yields_first c.args.self.now c.take_word.new.self c.take_word.ensures.where_the_next_begins c.take_word.result c.take_word.ensures.the_next_word_or_none_behind_the_last
