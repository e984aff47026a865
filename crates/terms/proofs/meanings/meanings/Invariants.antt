use Rattle.std.proofs.Common.{◌≡◌, map, take, vec_items}
use Rattle.terms.specs.Trees.{trees}
use Rattle.terms.proofs.meanings.meanings.Given as goal

abbrev pub invariant-loop-term : goal.invariant-loop-term
invariant-loop-term g l = vec_items l.before ≡ map (g.M.Meaning.meaning l.reading) (trees (take l.term-index l.terms))
