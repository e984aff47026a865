use Rattle.std.proofs.Common.{take, ◌∙◌}
use Rattle.terms.specs.Trees.{trees}
use Rattle.terms.proofs.Tables.{read_more}
use Rattle.terms.proofs.meanings.meanings.Goals as goal

pub loop-term-preserved : goal.loop-term-preserved
loop-term-preserved g c =
    c.in_ok-push.ensures.items
    ∙ read_more (g.M.Meaning.meaning c.args.reading.now) c.args.terms.now c.loop-term.term-index _ _ _ c.loop-term-test.true c.loop-term.invariant
    (c.read-next.ensures.what_its_tree_is_read_as (trees (take c.loop-term.term-index c.args.terms.now)) (c.as_slice.ensures.value ∙ c.loop-term.invariant))
