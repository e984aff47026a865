-- The laws. Each is proved: none adds to what a reader must believe.
use Rattle.std.specs.Prelude.{◌≡◌, ℕ, ◌<◌, ◌≤◌, true, false, ◌↔◌, List, length, ◌≢◌, slice_index_or}
use Rattle.std.specs.List.{ContainsAt}
use Rattle.semantics.specs.Trees.{Tree}
use Rattle.terms.specs.Trees.{tree_at}
use Rattle.terms.specs.declared.Term.{Term}
use Rattle.precondition.specs.Parts.{parts}
use Rattle.precondition.specs.Places.{place}
use Rattle.precondition.specs.Signs.{same}
use Rattle.precondition.specs.Steps.{term_at}
use Rattle.precondition.specs.Tables.{arguments, formed}

-- Trees that are the same sign for sign are the same tree.
abbrev pub SameLaw : Type 0
SameLaw = (a b : Tree) → (same a b ≡ true) ↔ (a ≡ b)

-- The number is the lowest of the tree, or the one at the end if the tree has none.
pub record IsLowest (trees : List Tree) (t : Tree) (n : ℕ) : Type 0 where
  pub within : n ≤ length trees
  pub there : n < length trees → tree_at trees n ≡ t
  pub none_lower : (k : ℕ) → k < n → tree_at trees k ≢ t

abbrev pub PlaceLaw : Type 0
PlaceLaw = (trees : List Tree) (t : Tree) → IsLowest trees t (place trees t)

-- What a formula is made of: itself, and each argument of what it is made of. (`Has` says that a list has an element.)
pub data PartOf (terms : List Term) (formula : ℕ) : ℕ → Type 0 where
  itself : PartOf terms formula formula
  argument : {k a : ℕ} → PartOf terms formula k → ContainsAt (arguments (term_at terms k)) a → PartOf terms formula a

-- In a table that is not refused, just these are marked.
abbrev pub PartsLaw : Type 0
PartsLaw =
    (terms : List Term) (formula : ℕ) → length terms ≤ 512 → formed terms ≡ true → formula < length terms →
    (k : ℕ) → (slice_index_or (parts terms formula) k false ≡ true) ↔ PartOf terms formula k
