-- The laws. Each is proved: none adds to what a reader must believe.
use Rattle.std.specs.Prelude.{◌≡◌, ℕ, ◌<◌, List, ◌++◌, length, take, Some, Ok, slice_index_or}
use Rattle.semantics.specs.Trees as trees
use Rattle.terms.specs.declared.Sort.{Sort}
use Rattle.terms.specs.declared.Sort.TheVariants.{Formula, Value}
use Rattle.terms.specs.declared.Term.{Term}
use Rattle.terms.specs.declared.Term.TheVariants.{True}
use Rattle.terms.specs.Sorts.{Declared, sort, sort_of_number}
use Rattle.terms.specs.Trees.{tree_at, trees}

-- Terms that are added at the end of a table change none of its trees.
abbrev pub PrefixLaw : Type 0
PrefixLaw = (terms more : List Term) → take (length terms) (trees (terms ++ more)) ≡ trees terms

-- The sort as semantics has it.
abbrev pub sort_seen : Sort → trees.Sort
sort_seen Formula = trees.Formula
sort_seen (Value of) = trees.Value of

-- Each term of a table has its sort among the declarations and the terms before it.
pub record Sorted (d : Declared) (terms : List Term) (sorts : List Sort) : Type 0 where
  pub each_term : length sorts ≡ length terms
  pub each_sort : (n : ℕ) → n < length terms → sort d (take n sorts) (slice_index_or terms n True) ≡ Ok (slice_index_or sorts n Formula)

-- Then its tree has that sort.
abbrev pub SortsLaw : Type 0
SortsLaw =
    (d : Declared) (terms : List Term) (sorts : List Sort) → Sorted d terms sorts →
    (n : ℕ) → n < length terms → trees.sort_of_tree d (tree_at (trees terms) n) ≡ Some (sort_seen (sort_of_number sorts n))
