use Rattle.std.proofs.Common.{vec_items}
use Rattle.std.specs.Slice.Iter.{iter_rest}
use Rattle.terms.proofs.Assigned.{MadeBut}
use Rattle.terms.proofs.firing.assign.Given as goal

abbrev pub invariant-loop-set : goal.invariant-loop-set
invariant-loop-set l = MadeBut l.values l.state l.sets (iter_rest l.set-iterator.iter) (vec_items l.next)
