use Rattle.std.proofs.Common.{◌≡◌, ◌∷◌, ◌++◌, map, take}
use Rattle.writing.specs.Written.{spaced}
use Rattle.writing.proofs.pieces.write_with.Given as goal

abbrev pub invariant-loop-other : goal.invariant-loop-other
invariant-loop-other g l = l.out.items ≡ l.fn.out.items ++ spaced (l.word ∷ map g.P.Piece.text (take l.other-index l.others))
