use Rattle.std.proofs.Common.{◌≡◌}
use Rattle.std.specs.Slice.Iter.{iter_rest}
use Rattle.precondition.proofs.Marking.{MarkedBut}
use Rattle.precondition.proofs.marks.mark.Given as goal

abbrev pub invariant-loop-n : goal.invariant-loop-n
invariant-loop-n l = (l.n-iterator.iter.count ≡ 0) × MarkedBut l.terms (iter_rest l.n-iterator.iter.iter) l.initial.marks l.marks
