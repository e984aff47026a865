-- The lowest number of a tree among the trees of a table.
use Rattle.std.specs.Prelude.{ℕ, suc, cond, List, [], ◌∷◌}
use Rattle.semantics.specs.Trees.{Tree}
use Rattle.precondition.specs.Signs.{same}

-- The first place of a tree among trees. If it is not among them, that is the place at their end.
unfoldable pub place : List Tree → Tree → ℕ
place [] t = 0
place (first ∷ rest) t = cond (same first t) 0 (suc (place rest t))
