-- One term after another: what is written so far, and what is left, come to what the whole comes to.
use Rattle.std.proofs.Common.{◌≡◌, ℕ, suc, ◌+◌, ◌<◌, ◌≤◌, Bool, true, false, ◌&&◌, ltb, List, [], ◌∷◌, ◌++◌, length, get_or, drop, Ok, Err, Result, sym, refl, ap, ◌∙◌, subst, subst₂, ⊎_elim, arith}
use mathlib.Core.Logic.{◌⊎◌}
use Rattle.std.proofs.lemmas.List.{drop_more, drop_all, length-drop, length_push}
use Rattle.std.proofs.lemmas.Bool.{cond-true, cond-false, cond_both}
use Rattle.terms.specs.declared.Assignment.{Assignment}
use Rattle.terms.specs.declared.Term.{Term}
use Rattle.terms.specs.declared.Term.TheVariants.{Var}
use Rattle.precondition.specs.Parts.{parts, up_to}
use Rattle.precondition.specs.Steps.{Numbered, Went, replaced_by, term_at, work_seen}
use Rattle.precondition.specs.Tables.{formed, lowest, named, renamed}
use Rattle.precondition.specs.Writing.{Work, Came, IsPrecondition, all_taken, answer_seen, written, all_there, answer, begun, next, noted, taken, then, with_result, with_term}
use Rattle.precondition.specs.declared.answers.Draft.{Draft}
use Rattle.precondition.specs.declared.answers.Precondition.{Precondition}
use Rattle.failures.specs.declared.Failure.{Failure}
use Rattle.failures.specs.declared.Failure.TheVariants.{Refused, Memory}
use Rattle.precondition.specs.declared.faults.Refusal.{Refusal}
use Rattle.precondition.proofs.Marking.{Marked, part_length, parts_length, part_at, parts_closed, parts_formula}
use Rattle.precondition.proofs.Working.{Good, Numbering, numbering, good_noted, good_skipped, noted_taken, result_tree, good_begun}

-- a result more is noted
noted_longer : (count : ℕ) (w : Work) (term : Term) (r : ℕ) (after : Work) → noted count w term r ≡ Ok after → length after.results ≡ length w.results + 1
noted_longer count w term r after =
    cond_both (ltb r (count + length w.scratch)) _ _ (λ x. x ≡ Ok after → length after.results ≡ length w.results + 1)
    (λ less same. longer (with_result w r) same refl)
    (λ over.
    cond_both (ltb (length w.scratch) 512) _ _ (λ x. x ≡ Ok after → length after.results ≡ length w.results + 1)
    (λ room same. longer (with_term w r (renamed (λ a. get_or w.results a 0) term)) same refl)
    (λ full same. absurd (let z : ◌≡◌ {A = ℕ} 0 1 = cc in omega arith)))
  where
    longer : (a : Work) → ◌≡◌ {A = Result Work Refusal} (Ok a) (Ok after) → a.results ≡ w.results ++ r ∷ [] → length after.results ≡ length w.results + 1
    longer a same is = let e : a ≡ after = cc in ap (λ x. length x.results) (sym e) ∙ ap length is ∙ length_push w.results r

-- what holds before each turn, with the terms that are left and their marks
pub record Turn (terms : List Term) (sets : List Assignment) (formula : ℕ) (left : List Term) (flags : List Bool) (w : Work) : Type 0 where
  pub good : Good terms sets (parts terms formula) w
  pub those_left : left ≡ drop (length w.results) (up_to terms formula)
  pub flags_left : flags ≡ drop (length w.results) (parts terms formula)
  pub same : all_taken terms sets (parts terms formula) left w ≡ all_taken terms sets (parts terms formula) (up_to terms formula) begun

-- the first item of those from a number on
pub record At {X : Type 0} (xs rest : List X) (n : ℕ) (x d : X) : Type 0 where
  pub inside : n < length xs
  pub item : get_or xs n d ≡ x
  pub after : rest ≡ drop (n + 1) xs

first_at : {X : Type 0} (xs rest : List X) (n : ℕ) (x d : X) → x ∷ rest ≡ drop n xs → At xs rest n x d
first_at xs rest n x d is =
    let inside : n < length xs = omega (arith, length-drop n xs, ap length is) in
    let split : x ∷ rest ≡ get_or xs n d ∷ drop (n + 1) xs = is ∙ drop_more xs n d inside in
    record { inside = inside; item = cc; after = cc }

module _ (terms : List Term) (sets : List Assignment) (formula : ℕ) (small : length terms ≤ 512) (is : formed terms ≡ true) (there : all_there (length terms) sets ≡ true) (exists : formula < length terms) where
  abbrev marks : List Bool
  marks = parts terms formula

  abbrev part : List Term
  part = up_to terms formula

  abbrev whole : Result Work Refusal
  whole = all_taken terms sets marks part begun

  pub turn_begun : (left : List Term) (flags : List Bool) (w : Work) → left ≡ part → flags ≡ marks → w ≡ begun → Turn terms sets formula left flags w
  turn_begun left flags w left_is flags_is w_is =
      subst (Turn terms sets formula left flags) (sym w_is)
      (record { good = good_begun terms sets marks is; those_left = left_is; flags_left = flags_is; same = ap (λ ts. all_taken terms sets marks ts begun) left_is })

  module _ (w : Work) (before left : List Term) (flags_before flags : List Bool) (term : Term) (flag : Bool) (turn_before : Turn terms sets formula before flags_before w) (one : before ≡ term ∷ left) (other : flags_before ≡ flag ∷ flags) where
    abbrev n : ℕ
    n = length w.results

    turn : Turn terms sets formula (term ∷ left) (flag ∷ flags) w
    turn = subst₂ (λ ts ms. Turn terms sets formula ts ms w) one other turn_before

    at_term : At part left n term (Var 0)
    at_term = first_at part left n term (Var 0) turn.those_left

    at_flag : At marks flags n flag false
    at_flag = first_at marks flags n flag false turn.flags_left

    below : n < suc formula
    below = omega (arith, at_term.inside, part_length terms formula small exists)

    -- the turn is over
    next_turn : (after : Work) → Good terms sets marks after → length after.results ≡ n + 1 → next terms sets marks term w ≡ Ok after → Turn terms sets formula left flags after
    next_turn after good longer goes =
        record {
          good = good;
          those_left = at_term.after ∙ ap (λ k. drop k part) (sym longer);
          flags_left = at_flag.after ∙ ap (λ k. drop k marks) (sym longer);
          same = sym (ap (λ r. then r (all_taken terms sets marks left)) goes) ∙ turn.same;
        }

    pub turn_skipped : (after : Work) → after ≡ with_result w 0 → flag ≡ false → Turn terms sets formula left flags after
    turn_skipped after after_is no' =
        let unmarked : get_or marks n false ≡ false = at_flag.item ∙ no' in
        subst (Turn terms sets formula left flags) (sym after_is)
        (next_turn (with_result w 0) (good_skipped terms sets marks w turn.good unmarked) (length_push w.results 0) (cond-false _ _ _ unmarked))

    module _ (yes' : flag ≡ true) (r : ℕ) (number : Numbered (lowest terms) (named terms ++ w.scratch) w.results term (replaced_by sets term) r) where
      term_is : term ≡ term_at terms n
      term_is = sym at_term.item ∙ part_at terms formula small exists n below

      marked : Marked marks n
      marked = at_flag.item ∙ yes'

      num : Numbering terms sets w (term_at terms n) r
      num =
          numbering terms sets marks is there w turn.good (omega (arith, below)) (parts_closed terms formula small exists is n below marked) r
          (subst (λ t. Numbered (lowest terms) (named terms ++ w.scratch) w.results t (replaced_by sets t) r) term_is number)

      next_is : next terms sets marks term w ≡ noted (length terms) w term r
      next_is =
          cond-true (get_or marks n false) (taken terms sets term w) (Ok (with_result w 0)) marked
          ∙ ap (λ t. taken terms sets t w) term_is
          ∙ sym (noted_taken terms sets marks w turn.good (term_at terms n) r num)
          ∙ ap (λ t. noted (length terms) w t r) (sym term_is)

      pub turn_taken : (after : Work) → noted (length terms) w term r ≡ Ok after → Turn terms sets formula left flags after
      turn_taken after said =
          next_turn after (good_noted terms sets marks w turn.good (term_at terms n) r num after (ap (λ t. noted (length terms) w t r) (sym term_is) ∙ said))
          (noted_longer (length terms) w term r after said) (next_is ∙ said)

      pub turn_broken : (fault : Failure Refusal) (after : Work) → Went (Err fault) after (noted (length terms) w term r) → Came {A = Draft} work_seen (Err fault) whole
      turn_broken (Refused refusal) after said = sym turn.same ∙ ap (λ r. then r (all_taken terms sets marks left)) (next_is ∙ said)
      turn_broken Memory after said = tt

  -- where the terms or the marks are at their end, the terms are
  module _ (w : Work) (left : List Term) (flags : List Bool) (turn : Turn terms sets formula left flags w) (over : (length left ≡ 0) ⊎ (length flags ≡ 0)) where
    past : length part ≤ length w.results
    past =
        ⊎_elim (λ none. omega (arith, length-drop (length w.results) part, ap length turn.those_left))
        (λ none. omega (arith, length-drop (length w.results) marks, ap length turn.flags_left, parts_length terms formula small exists, part_length terms formula small exists)) over

    pub turn_end : whole ≡ Ok w
    turn_end = sym turn.same ∙ ap (λ ts. all_taken terms sets marks ts w) (turn.those_left ∙ drop_all (length w.results) part past)

    pub turn_result : IsPrecondition terms sets formula (answer formula w)
    turn_result = result_tree terms sets marks w turn.good formula (omega (arith, past, part_length terms formula small exists)) (parts_formula terms formula small exists)

-- what is written is what is taken, if the numbers are those of terms
module _ (terms : List Term) (sets : List Assignment) (formula : ℕ) (are : (ltb formula (length terms) && all_there (length terms) sets) ≡ true) where
  abbrev all : Result Work Refusal
  all = all_taken terms sets (parts terms formula) (up_to terms formula) begun

  written_is : written terms sets formula ≡ then all (λ w. Ok (answer formula w))
  written_is = cond-true (ltb formula (length terms) && all_there (length terms) sets) _ _ are

  pub written_ok : (w : Work) → all ≡ Ok w → written terms sets formula ≡ Ok (answer formula w)
  written_ok w is = written_is ∙ ap (λ r. then r (λ x. Ok (answer formula x))) is

  pub written_broken : (fault : Failure Refusal) → Came {A = Draft} work_seen (Err fault) all → Came {A = Precondition} answer_seen (Err fault) (written terms sets formula)
  written_broken (Refused refusal) said = written_is ∙ ap (λ r. then r (λ x. Ok (answer formula x))) said
  written_broken Memory said = tt
