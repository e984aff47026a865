use Rattle.std.proofs.Common.{◌≡◌, ◌++◌, map, vec_items}
use Rattle.names.specs.Names.{spelled}
use Rattle.words.specs.Repeats.{start}
use Rattle.words.specs.Words.{place, words_left}
use Rattle.protocol.proofs.types.copy_values.Given as goal

-- the names copied so far and the words that are left are all of them
abbrev pub invariant-loop-word : goal.invariant-loop-word
invariant-loop-word l =
    (goal.iterator-loop-word).can_next l.word-iterator
    × (goal.iterator-loop-word).is_finite l.word-iterator
    × (map spelled (vec_items l.copies) ++ map (λ w. w.bytes) (words_left (place l.word-iterator)) ≡ map (λ w. w.bytes) (words_left (start l.text)))
