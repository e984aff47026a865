-- The laws: what is written alike is the same, a place is the lowest number, and just what a formula is made of is marked.
use Rattle.std.proofs.Common.{◌≡◌, ℕ, suc, ◌+◌, ◌<◌, ◌≤◌, Bool, true, false, List, [], ◌∷◌, length, get_or, set, replicate, sym, ap, ◌∙◌, subst, ⊎_elim, arith}
use Rattle.std.proofs.ByRecursion.{all-has, All-weaker, all_has_itself}
use Rattle.std.proofs.lemmas.List.{get_or-set_other, get_or-replicate, get_or_past, length-replicate}
use Rattle.std.proofs.lemmas.Bool.{both_ways, cases_eq, cases_lt, cond_both}
use Rattle.std.specs.List.{ContainsAt, AllByRecursion}
use Rattle.terms.specs.declared.Term.{Term}
use Rattle.precondition.specs.Laws.{SameLaw, PlaceLaw, PartsLaw, PartOf, itself, argument}
use Rattle.precondition.specs.Parts.{with_marks, passed_on, marked_from, up_to, parts}
use Rattle.precondition.specs.Places.{place}
use Rattle.precondition.specs.Steps.{term_at}
use Rattle.precondition.specs.Tables.{arguments, formed}
use Rattle.precondition.proofs.Forming.{earlier}
use Rattle.precondition.proofs.Marking.{Marked, part_length, part_at, parts_closed, parts_formula}
use Rattle.precondition.proofs.Placing.{place_within, place_there, place_first}
use Rattle.precondition.proofs.Same.{same_true, same_itself}

pub same_law : SameLaw
same_law a b = (same_true a b, same_itself a b)

pub place_law : PlaceLaw
place_law trees t =
    record {
      within = place_within trees t;
      there = place_there trees t;
      none_lower = λ k less is. let first : place trees t ≤ k = place_first trees t k (omega (arith, place_within trees t)) is in absurd (omega arith);
    }

module _ (terms : List Term) (formula : ℕ) where
  -- no more is marked than what the formula is made of
  abbrev Only : List Bool → Type 0
  Only marks = (k : ℕ) → Marked marks k → PartOf terms formula k

  only_set : (marks : List Bool) (n : ℕ) → Only marks → PartOf terms formula n → Only (set marks n true)
  only_set marks n only part k is =
      ⊎_elim
      (λ same. subst (PartOf terms formula) (sym same) part)
      (λ other. only k (sym (get_or-set_other marks n k true false other) ∙ is))
      (cases_eq k n)

  only_with : (numbers : List ℕ) (marks : List Bool) → Only marks → AllByRecursion (PartOf terms formula) numbers → Only (with_marks marks numbers)
  only_with [] marks only parted = only
  only_with (n ∷ rest) marks only parted = only_with rest (set marks n true) (only_set marks n only parted.0) parted.1

  only_passed : (n : ℕ) (t : Term) (marks : List Bool) → t ≡ term_at terms n → Only marks → Only (passed_on n t marks)
  only_passed n t marks is only =
      cond_both (get_or marks n false) (with_marks marks (arguments t)) marks Only
      (λ here.
      only_with (arguments t) marks only
      (All-weaker (ContainsAt (arguments t)) (PartOf terms formula) (λ a has. argument (only n here) (subst (λ x. ContainsAt (arguments x) a) is has)) (arguments t) (all_has_itself (arguments t))))
      (λ _. only)

  only_from : (n : ℕ) (rest : List Term) (marks : List Bool) → ((k : ℕ) → k < length rest → term_at rest k ≡ term_at terms (n + k)) → Only marks → Only (marked_from n rest marks)
  only_from n [] marks are only = only
  only_from n (t ∷ rest) marks are only =
      let first : n + 0 ≡ n = omega arith in
      only_passed n t (marked_from (suc n) rest marks) (are 0 (omega arith) ∙ ap (term_at terms) first)
      (only_from (suc n) rest marks (λ k inside. let later : n + suc k ≡ suc n + k = omega arith in are (suc k) (omega arith) ∙ ap (term_at terms) later) only)

  unmarked : (k : ℕ) → get_or (replicate 512 false) k false ≡ false
  unmarked k = ⊎_elim (λ inside. get_or-replicate 512 k false false inside) (λ over. get_or_past (replicate 512 false) k false (omega (arith, length-replicate 512 false))) (cases_lt k 512)

  module _ (small : length terms ≤ 512) (is : formed terms ≡ true) (inside : formula < length terms) where
    marked : {k : ℕ} → PartOf terms formula k → (k < suc formula) × Marked (parts terms formula) k
    marked itself = (omega arith, parts_formula terms formula small inside)
    marked (argument {k = k} {a = a} part has) =
        let here = marked part in
        let before : a < k = all-has (λ x. x < k) (arguments (term_at terms k)) a (earlier terms k is (omega (arith, here.0))) has in
        (omega (arith, here.0), all-has (Marked (parts terms formula)) (arguments (term_at terms k)) a (parts_closed terms formula small inside is k here.0 here.1) has)

    only_parts : Only (parts terms formula)
    only_parts =
        only_from 0 (up_to terms formula) (set (replicate 512 false) formula true)
        (λ k less. part_at terms formula small inside k (omega (arith, part_length terms formula small inside)) ∙ ap (term_at terms) (zero_first k))
        (only_set (replicate 512 false) formula (λ k here. absurd (both_ways _ (unmarked k) here)) itself)
      where
        zero_first : (k : ℕ) → k ≡ 0 + k
        zero_first k = omega arith

pub parts_law : PartsLaw
parts_law terms formula small is inside k = (only_parts terms formula small is inside k, λ part. (marked terms formula small is inside part).1)
