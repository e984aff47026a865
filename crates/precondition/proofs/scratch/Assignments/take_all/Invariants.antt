use Rattle.std.specs.Slice.Iter.{iter_rest}
use Rattle.std.specs.Iterator.Adapters.{zip_first, zip_second}
use Rattle.precondition.specs.Steps.{work_seen}
use Rattle.precondition.proofs.Turns.{Turn}
use Rattle.precondition.proofs.scratch.Assignments.take_all.Given as goal

abbrev pub invariant-loop-term : goal.invariant-loop-term
invariant-loop-term l =
    Turn l.self.copies.now.terms.now l.self.sets.now l.formula (iter_rest (zip_first l.term-iterator)) (iter_rest (zip_second l.term-iterator)) (work_seen l.draft)
