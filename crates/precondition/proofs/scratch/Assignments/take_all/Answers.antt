use Rattle.std.proofs.Common.{◌≡◌, length, Err, sym, ap, ◌∙◌, subst, ⊎_elim, inl, inr, rules}
use mathlib.Core.Logic.{◌⊎◌}
use Rattle.std.specs.Slice.Iter.{iter_rest}
use Rattle.std.specs.Iterator.Adapters.{zip_first, zip_second}
use Rattle.std.proofs.lemmas.Result.{err_from_is_err_and}
use Rattle.precondition.specs.Parts.{parts, up_to}
use Rattle.precondition.specs.Steps.{work_seen}
use Rattle.precondition.specs.Writing.{Came, all_taken, begun}
use Rattle.precondition.proofs.Turns.{turn_begun, turn_skipped, turn_taken, turn_broken, turn_end, turn_result}
use Rattle.precondition.proofs.scratch.Assignments.take_all.Goals as goal

pub loop-term-init : goal.loop-term-init
loop-term-init c =
    let k = c.args.self.now.copies.now in
    turn_begun k.terms.now c.args.self.now.sets.now c.args.formula k.few k.well_formed c.requires.each_is_there c.requires.a_formula _ _ _ (search rules) (search rules)
    (λ i. record { results = c.new.ensures.items i; scratch = c.new-2.ensures.items i })

pub loop-term-preserved : goal.loop-term-preserved
loop-term-preserved c =
    let k = c.args.self.now.copies.now in
    turn_skipped k.terms.now c.args.self.now.sets.now c.args.formula k.few k.well_formed c.requires.each_is_there c.requires.a_formula
    (work_seen c.loop-term.draft) _ _ _ _ c.in-Some.term.now c.in-Some.marked.now c.loop-term.invariant c.in-Some.ensures.steps.0 c.in-Some.ensures.steps.1 _
    (λ i. record { results = c.in_ok-push.ensures.items i; scratch = (work_seen c.loop-term.draft).scratch }) c.if-marked.false

pub loop-term-preserved-in-Continue-1 : goal.loop-term-preserved-in-Continue-1
loop-term-preserved-in-Continue-1 c =
    let k = c.args.self.now.copies.now in
    let said = c.in_ok-take.ensures.the_draft_with_its_lowest_number in
    turn_taken k.terms.now c.args.self.now.sets.now c.args.formula k.few k.well_formed c.requires.each_is_there c.requires.a_formula
    (work_seen c.loop-term.draft) _ _ _ _ c.in-Some.term.now c.in-Some.marked.now c.loop-term.invariant c.in-Some.ensures.steps.0 c.in-Some.ensures.steps.1
    c.if-marked.true said.0 said.1 _ said.2

pub returns-in_err-take-clause-what_is_written_or_the_refusal : goal.returns-in_err-take-clause-what_is_written_or_the_refusal
returns-in_err-take-clause-what_is_written_or_the_refusal c =
    let k = c.args.self.now.copies.now in
    let terms = k.terms.now in
    let sets = c.args.self.now.sets.now in
    let formula = c.args.formula in
    let fault = c.in_err-take.field-0.0 in
    let told = err_from_is_err_and c.from_residual.result c.from_residual.ensures.1 in
    let said = c.in_err-take.ensures.the_draft_with_its_lowest_number in
    subst (λ r. Came work_seen r (all_taken terms sets (parts terms formula) (up_to terms formula) begun)) (sym (told.1 ∙ ap Err told.2))
    (turn_broken terms sets formula k.few k.well_formed c.requires.each_is_there c.requires.a_formula
    (work_seen c.loop-term.draft) _ _ _ _ c.in-Some.term.now c.in-Some.marked.now c.loop-term.invariant c.in-Some.ensures.steps.0 c.in-Some.ensures.steps.1
    c.if-marked.true said.0 said.1 fault _ said.2)

pub returns : goal.returns
returns c =
    let k = c.args.self.now.copies.now in
    let over : (length (iter_rest (zip_first c.loop-term.term-iterator)) ≡ 0) ⊎ (length (iter_rest (zip_second c.loop-term.term-iterator)) ≡ 0) = ⊎_elim (λ x. inl x.1.0) (λ y. inr y.1.0) c.in-None.ensures.steps in
    record {
      what_is_written_or_the_refusal =
          turn_end k.terms.now c.args.self.now.sets.now c.args.formula k.few k.well_formed c.requires.each_is_there c.requires.a_formula _ _ _ c.loop-term.invariant over;
      the_result_is_the_precondition =
          turn_result k.terms.now c.args.self.now.sets.now c.args.formula k.few k.well_formed c.requires.each_is_there c.requires.a_formula _ _ _ c.loop-term.invariant over;
    }
