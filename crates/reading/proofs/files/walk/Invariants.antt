use Rattle.std.proofs.Common.{◌≡◌, ◌+◌, ◌≤◌, length}
use Rattle.text.specs.Lines.{split}
use Rattle.reading.specs.Walk.{walk_through}
use Rattle.reading.proofs.files.walk.Given as goal

-- what is left, gone through from here, comes to what the whole comes to
abbrev pub invariant-loop-rest : goal.invariant-loop-rest
invariant-loop-rest g l =
    (walk_through g.R.Reader.step g.R.Reader.ended (g.R.Reader.seen l.reader) l.number (split l.rest)
    ≡ walk_through g.R.Reader.step g.R.Reader.ended (g.R.Reader.seen l.initial.reader) 1 (split l.bytes))
    × (l.number + length l.rest ≤ 65537)

abbrev pub decreases-loop-rest : goal.decreases-loop-rest
decreases-loop-rest g l = length l.rest
