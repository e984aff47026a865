-- The derived test of two tables decides whether they say the same.
use Rattle.std.proofs.Common.{◌≡◌, ℕ, Bool, ◌==◌, List, map, vec_items, Decides, refl, ap, rules}
use Rattle.std.proofs.lemmas.Bool.Decides.{Decides-and, Decides-eqb, Decides-like}
use Rattle.std.proofs.lemmas.Slice.Eq.{bytes_eq-Decides, slice_eq-Decides}
use Rattle.std.specs.Cmp.Lexicographic.{pointwise}
use Rattle.std.specs.Str.{bytes_eq}
use Rattle.names.specs.Names.{spelled}
use Rattle.names.specs.declared.Name.{Name}
use Rattle.terms.specs.contracts.SortPartialEq.TheImpl as sorts
use Rattle.terms.specs.contracts.TermPartialEq.TheImpl as terms
use Rattle.terms.specs.declared.Sort.{Sort}
use Rattle.terms.specs.declared.Term.{Term}
use Rattle.tables.proofs.Matching.{lists_decide}
use Rattle.tables.specs.Views.{types_seen, variables_seen, terms_seen}
use Rattle.tables.specs.contracts.term_table.TermTablePartialEq.TheImpl as term_table
use Rattle.tables.specs.contracts.types.TypeTablePartialEq.TheImpl as types
use Rattle.tables.specs.contracts.variables.VariableTablePartialEq.TheImpl as variables
use Rattle.tables.specs.declared.term_table.TermTable.{TermTable}
use Rattle.tables.specs.declared.types.TypeTable.{TypeTable}
use Rattle.tables.specs.declared.variables.VariableTable.{VariableTable}

abbrev same_name : Name → Name → Bool
same_name x y = bytes_eq (spelled x) (spelled y)

names_decide : (xs ys : List Name) → Decides (pointwise same_name xs ys) (map spelled xs ≡ map spelled ys)
names_decide = lists_decide spelled same_name (λ x y. bytes_eq-Decides (spelled x) (spelled y))

-- where the test of two elements decides whether they are the same, so does that of two lists
module _ {X : Type 0} (E : X → X → Bool) (each : (x y : X) → Decides (E x y) (x ≡ y)) where
  items_decide : (xs ys : List X) → Decides (pointwise E xs ys) (xs ≡ ys)
  items_decide xs ys = slice_eq-Decides each xs ys (pointwise E xs ys) refl

pub numbers_decide : (xs ys : List ℕ) → Decides (pointwise (λ x y. x == y) xs ys) (xs ≡ ys)
numbers_decide = items_decide (λ x y. x == y) Decides-eqb

pub types_decide : (x y : TypeTable) → Decides (types.ghosts.eq x y) (types_seen x ≡ types_seen y)
types_decide x y =
    Decides-like _
    (λ p i. record { names = p.0 i; values = p.1.0 i; sizes = p.1.1 i })
    (λ e. (ap (λ t. t.names) e, (ap (λ t. t.values) e, ap (λ t. t.sizes) e)))
    (Decides-and _ _ (names_decide (vec_items x.names) (vec_items y.names))
    (Decides-and _ _
    (lists_decide (λ list. map spelled (vec_items list)) (λ a b. pointwise same_name (vec_items a) (vec_items b))
    (λ a b. names_decide (vec_items a) (vec_items b)) (vec_items x.values) (vec_items y.values))
    (numbers_decide (vec_items x.sizes) (vec_items y.sizes))))

pub variables_decide : (x y : VariableTable) → Decides (variables.ghosts.eq x y) (variables_seen x ≡ variables_seen y)
variables_decide x y =
    Decides-like _
    (λ p i. record { names = p.0 i; kinds = p.1.0 i; states = p.1.1 i })
    (λ e. (ap (λ t. t.names) e, (ap (λ t. t.kinds) e, ap (λ t. t.states) e)))
    (Decides-and _ _ (names_decide (vec_items x.names) (vec_items y.names))
    (Decides-and _ _ (numbers_decide (vec_items x.kinds) (vec_items y.kinds)) (Decides-eqb x.states y.states)))

same_terms : (x y : Term) → Decides (terms.ghosts.eq x y) (x ≡ y)
same_terms x y = search rules

same_sorts : (x y : Sort) → Decides (sorts.ghosts.eq x y) (x ≡ y)
same_sorts x y = search rules

pub terms_decide : (x y : TermTable) → Decides (term_table.ghosts.eq x y) (terms_seen x ≡ terms_seen y)
terms_decide x y =
    Decides-like _
    (λ p i. record { terms = p.0 i; sorts = p.1 i })
    (λ e. (ap (λ t. t.terms) e, ap (λ t. t.sorts) e))
    (Decides-and _ _ (items_decide terms.ghosts.eq same_terms (vec_items x.terms) (vec_items y.terms))
    (items_decide sorts.ghosts.eq same_sorts (vec_items x.sorts) (vec_items y.sorts)))
