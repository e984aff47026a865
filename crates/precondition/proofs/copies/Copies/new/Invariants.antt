use Rattle.std.proofs.Common.{◌≡◌, take, vec_items}
use Rattle.precondition.specs.Tables.{lowest, named}
use Rattle.precondition.proofs.copies.Copies.new.Given as goal

abbrev pub invariant-loop-term : goal.invariant-loop-term
invariant-loop-term l =
    (vec_items l.lowest ≡ lowest (take l.term-index l.terms))
    × (vec_items l.named ≡ named (take l.term-index l.terms))
