use Rattle.std.proofs.Common.{◌≡◌, map}
use Rattle.precondition.specs.Parts.{with_marks}
use Rattle.precondition.proofs.marks.mark_arguments.Given as goal

abbrev pub invariant-loop-a : goal.invariant-loop-a
invariant-loop-a l = l.marks ≡ with_marks l.initial.marks (map (λ y. y.now) l.yielded)
