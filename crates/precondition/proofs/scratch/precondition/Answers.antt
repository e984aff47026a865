use Rattle.std.proofs.Common.{◌+◌, ◌≤◌, true, false, length, take, set, replicate, ap, ◌∙◌, add-one, arith}
use Rattle.std.proofs.lemmas.List.{length-set, length-take, length-replicate}
use Rattle.precondition.specs.Parts.{marked_from}
use Rattle.precondition.proofs.scratch.precondition.Goals as goal

pub mark-requires : goal.mark-requires
mark-requires c =
    let terms = c.args.copies.now.terms.now in
    let n = c.args.formula in
    let enough : length (take (n + 1) terms) ≤ length (set (replicate 512 false) n true) =
    omega (arith, length-take (n + 1) terms, length-set (replicate 512 false) n true, length-replicate 512 false, c.args.copies.now.few) in
    record { a_mark_for_each = enough }

pub take_all-requires-clause-its_part : goal.take_all-requires-clause-its_part
take_all-requires-clause-its_part c = ap (λ k. take k c.args.copies.now.terms.now) (add-one c.args.formula)

pub take_all-requires-clause-its_marks : goal.take_all-requires-clause-its_marks
take_all-requires-clause-its_marks c =
    let terms = c.args.copies.now.terms.now in
    let n = c.args.formula in
    c.mark.ensures.what_the_marked_are_made_of ∙ ap (λ k. marked_from 0 (take k terms) (set (replicate 512 false) n true)) (add-one n)
