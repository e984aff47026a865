-- The first place among two lists, one after the other.
use Rattle.std.proofs.Common.{◌≡◌, ℕ, ◌+◌, ◌-◌, ◌<◌, ◌≤◌, List, ◌++◌, length, sym, ap, ◌∙◌, ⊎_elim, arith}
use Rattle.std.proofs.lemmas.List.{length-append, get_or_append_left, get_or-append_right}
use Rattle.std.proofs.lemmas.Bool.{cases_lt}
use Rattle.terms.specs.declared.Term.{Term}
use Rattle.terms.specs.declared.Term.TheVariants.{Var}
use Rattle.precondition.specs.Steps.{First, term_at}

module _ (xs ys : List Term) (t : Term) (n : ℕ) (first : First xs t n) where
  pub first_left : n < length xs → First (xs ++ ys) t n
  first_left inside =
      record {
        within = omega (arith, length-append xs ys);
        there = λ _. get_or_append_left xs ys (Var 0) n inside ∙ first.there inside;
        before = λ k less is. first.before k less (sym (get_or_append_left xs ys (Var 0) k (omega arith)) ∙ is);
      }

  pub first_right : length xs ≤ n → (m : ℕ) → First ys t m → First (xs ++ ys) t (n + m)
  first_right over m second =
      let at : n ≡ length xs = omega (arith, first.within) in
      record {
        within = omega (arith, length-append xs ys, second.within);
        there = λ inside.
            get_or-append_right xs ys (length xs) (n + m) (Var 0) (λ i. length xs) (omega arith)
            ∙ ap (term_at ys) (omega arith)
            ∙ second.there (omega (arith, length-append xs ys));
        before = λ k less is.
            ⊎_elim
            (λ left. first.before k (omega arith) (sym (get_or_append_left xs ys (Var 0) k left) ∙ is))
            (λ right. second.before (k - length xs) (omega arith) (sym (get_or-append_right xs ys (length xs) k (Var 0) (λ i. length xs) right) ∙ is))
            (cases_lt k (length xs));
      }
