-- The variables of a tree, part by part.
use Rattle.std.proofs.Common.{ℕ, ⊎_elim}
use Rattle.std.proofs.lemmas.Bool.{or_cases, or_left, or_right}
use Rattle.semantics.specs.Trees.{Tree, And, EachVariable, occurs}

-- what holds of each variable of two trees holds of each of the first
pub in_first : (P : ℕ → Type 0) (a b : Tree) → EachVariable P (And a b) → EachVariable P a
in_first P a b each v here = each v (or_left (occurs v a) (occurs v b) here)

-- and of each of the second
pub in_second : (P : ℕ → Type 0) (a b : Tree) → EachVariable P (And a b) → EachVariable P b
in_second P a b each v here = each v (or_right (occurs v a) (occurs v b) here)

-- what holds of each variable of the first and of each of the second holds of each of both
pub in_both : (P : ℕ → Type 0) (a b : Tree) → EachVariable P a → EachVariable P b → EachVariable P (And a b)
in_both P a b first second v here = ⊎_elim (first v) (second v) (or_cases (occurs v a) (occurs v b) here)
