-- The values that assignments by number give are those that the assignments of trees give.
use Rattle.std.proofs.Common.{◌≡◌, ℕ, ◌<◌, ◌≤◌, Bool, true, false, cond, eqb, List, [], ◌∷◌, ◌++◌, map, length, get_or, set, Some, None, Option, sym, refl, ap, ◌∙◌, subst, append_assoc, arith}
use mathlib.Core.Path.{fun_ext}
use Rattle.std.proofs.lemmas.List.{length-set, get_or-set_same, get_or-set_other}
use Rattle.std.proofs.lemmas.List.FromFn.{fill_by_all}
use Rattle.std.proofs.lemmas.Bool.{cond_both, cond-true, eqb-true, eqb-false}
use Rattle.std.specs.List.{range_with_len}
use Rattle.semantics.specs.Trees.{Tree, State, value, is_true, true_in}
use Rattle.semantics.specs.Trees as tree
use Rattle.semantics.specs.Firing as firing
use Rattle.terms.specs.declared.Assignment.{Assignment}
use Rattle.terms.specs.declared.Term.{Term}
use Rattle.terms.specs.Rules.{assignments, rule, after, set_value}
use Rattle.terms.specs.Reading.{value_at}
use Rattle.terms.specs.Trees.{tree_at, trees}
use Rattle.std.proofs.Math.ListN.{get_or-map}

module _ (s : State) (forest : List Tree) (v : ℕ) where
  abbrev worth : Tree → ℕ
  worth t = value t s

  chosen : (b : Bool) (x y : ℕ) (t : Tree) (o : Option Tree) → x ≡ worth t → y ≡ firing.next_value o s v → cond b x y ≡ firing.next_value (cond b (Some t) o) s v
  chosen true x y t o one other = one
  chosen false x y t o one other = other

  pub set_next : (sets : List Assignment) → set_value (map worth forest) s sets v ≡ firing.next_value (firing.assigned (assignments forest sets) v) s v
  set_next [] = refl
  set_next (a ∷ sets) = chosen (eqb a.variable v) _ _ (tree_at forest a.term) (firing.assigned (assignments forest sets) v) (get_or-map worth forest a.term tree.False) (set_next sets)

-- one assignment more in front of those that are made
module _ (values s next : List ℕ) (a : Assignment) (rest : List Assignment) (made : (v : ℕ) → v < length s → get_or next v 0 ≡ set_value values s rest v) (v : ℕ) (inside : v < length s) where
  abbrev given : ℕ
  given = value_at values a.term

  pub assigned_more : a.variable < length next → get_or (set next a.variable given) v 0 ≡ set_value values s (a ∷ rest) v
  assigned_more here =
      cond_both (eqb a.variable v) given (set_value values s rest v) (λ x. get_or (set next a.variable given) v 0 ≡ x)
      (λ same. subst (λ w. get_or (set next a.variable given) w 0 ≡ given) (eqb-true a.variable v same) (get_or-set_same next a.variable given 0 here))
      (λ other. get_or-set_other next a.variable v given 0 (λ e. eqb-false a.variable v other (sym e)) ∙ made v inside)

  pub assigned_past : length s ≤ a.variable → get_or next v 0 ≡ set_value values s (a ∷ rest) v
  assigned_past over =
      cond_both (eqb a.variable v) given (set_value values s rest v) (λ x. get_or next v 0 ≡ x)
      (λ same. absurd (omega (arith, eqb-true a.variable v same)))
      (λ other. made v inside)

-- the assignments that are not left are made
pub record MadeBut (values s : List ℕ) (sets left : List Assignment) (next : List ℕ) : Type 0 where
  pub made : List Assignment
  pub split : sets ≡ left ++ made
  pub long : length next ≡ length s
  pub each : (v : ℕ) → v < length s → get_or next v 0 ≡ set_value values s made v

module _ (values s : List ℕ) (sets : List Assignment) (next : List ℕ) where
  pub all_made : (left : List Assignment) → length left ≡ 0 → MadeBut values s sets left next → next ≡ map (set_value values s sets) (range_with_len 0 (length s))
  all_made [] none so_far = fill_by_all (set_value values s sets) next (length s) 0 so_far.long (λ v inside. so_far.each v inside ∙ ap (λ made. set_value values s made v) (sym so_far.split))
  all_made (a ∷ left) none so_far = absurd (omega arith)

  module _ (before left : List Assignment) (a : Assignment) (is : before ≡ left ++ a ∷ []) (so_far : MadeBut values s sets before next) where
    split_more : sets ≡ left ++ a ∷ so_far.made
    split_more = so_far.split ∙ ap (λ xs. xs ++ so_far.made) is ∙ append_assoc left (a ∷ []) so_far.made

    pub made_more : (given : ℕ) → given ≡ value_at values a.term → a.variable < length next → MadeBut values s sets left (set next a.variable given)
    made_more given worth here =
        record {
          made = a ∷ so_far.made;
          split = split_more;
          long = length-set next a.variable given ∙ so_far.long;
          each = λ v inside. ap (λ x. get_or (set next a.variable x) v 0) worth ∙ assigned_more values s next a so_far.made so_far.each v inside here;
        }

    pub made_past : length next ≤ a.variable → MadeBut values s sets left next
    made_past over =
        record {
          made = a ∷ so_far.made;
          split = split_more;
          long = so_far.long;
          each = λ v inside. assigned_past values s next a so_far.made so_far.each v inside (omega (arith, so_far.long));
        }

module _ (terms : List Term) (guard : ℕ) (sets : List Assignment) (s : State) (values : List ℕ) (are : values ≡ map (λ t. value t s) (trees terms)) where
  enabled : is_true (value_at values guard) ≡ true_in s (tree_at (trees terms) guard)
  enabled = ap is_true (ap (λ xs. value_at xs guard) are ∙ get_or-map (λ t. value t s) (trees terms) guard tree.False)

  made_all : (next : List ℕ) → next ≡ map (set_value values s sets) (range_with_len 0 (length s)) → next ≡ firing.fire (rule terms guard sets) s
  made_all next is =
      is ∙ ap (λ f. map f (range_with_len 0 (length s))) (fun_ext (λ v. ap (λ xs. set_value xs s sets v) are ∙ set_next s (trees terms) v sets))

  pub fires : (next : List ℕ) → next ≡ map (set_value values s sets) (range_with_len 0 (length s)) → is_true (value_at values guard) ≡ true → Some next ≡ after (rule terms guard sets) s
  fires next is holds =
      ap Some (made_all next is)
      ∙ sym (cond-true (true_in s (tree_at (trees terms) guard)) (Some (firing.fire (rule terms guard sets) s)) None (sym enabled ∙ holds))
