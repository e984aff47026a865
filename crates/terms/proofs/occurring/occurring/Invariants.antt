use Rattle.std.proofs.Common.{◌≡◌, map, vec_items}
use Rattle.std.specs.List.{range_with_len}
use Rattle.semantics.specs.Trees.{occurs}
use Rattle.terms.specs.Trees.{tree_at, trees}
use Rattle.terms.proofs.occurring.occurring.Given as goal

abbrev pub invariant-loop-variable : goal.invariant-loop-variable
invariant-loop-variable l = vec_items l.found ≡ map (λ v. occurs v (tree_at (trees l.terms) l.term)) (range_with_len 0 l.variable)
