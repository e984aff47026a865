-- The values of the operators, read as truth.
use Rattle.std.proofs.Common.{◌≡◌, Bool, true, false, not, ◌&&◌, ◌||◌, eqb, ◌↔◌, sym, refl, ◌∙◌, ⊎_elim}
use Rattle.std.proofs.lemmas.Bool.{false≢true, eqb-true, eq-eqb, and_parts, and_from, or_cases, or_left, or_right, cond-true, cond-false, cases_Bool}
use Rattle.semantics.specs.Laws.{TruthLaw}
use Rattle.semantics.specs.Trees.{bit, is_true, value, true_in}

-- the value of a formula stands for its truth
read : (b : Bool) → is_true (bit b) ≡ b
read true = refl
read false = refl

-- what a test says, the value of a formula with that test says
through : (b : Bool) (P : Type 0) → (b ≡ true) ↔ P → (is_true (bit b) ≡ true) ↔ P
through b P says = (λ here. says.0 (sym (read b) ∙ here), λ p. read b ∙ says.1 p)

negated : (x : Bool) → (not x ≡ true) ↔ (x ≡ true → ⊥)
negated true = (λ here. λ _. false≢true here, λ never. absurd (never refl))
negated false = (λ _. λ here. false≢true here, λ _. refl)

implied : (x y : Bool) → ((not x || y) ≡ true) ↔ (x ≡ true → y ≡ true)
implied true y = (λ here. λ _. here, λ then. then refl)
implied false y = (λ _. λ here. absurd (false≢true here), λ _. refl)

pub truth_law : TruthLaw
truth_law s =
    record {
      of_true = refl;
      of_false = λ here. false≢true here;
      of_equation = λ a b. through (eqb (value a s) (value b s)) _ (eqb-true (value a s) (value b s), eq-eqb (value a s) (value b s));
      of_negation = λ a. through (not (true_in s a)) _ (negated (true_in s a));
      of_conjunction = λ a b. through (true_in s a && true_in s b) _ (and_parts (true_in s a) (true_in s b), λ both. and_from (true_in s a) (true_in s b) both.0 both.1);
      of_disjunction = λ a b. through (true_in s a || true_in s b) _ (or_cases (true_in s a) (true_in s b), ⊎_elim (or_left (true_in s a) (true_in s b)) (or_right (true_in s a) (true_in s b)));
      of_implication = λ a b. through (not (true_in s a) || true_in s b) _ (implied (true_in s a) (true_in s b));
      of_choice = λ f a b. (
        cond-true (true_in s f) (value a s) (value b s),
        λ never. ⊎_elim (λ here. absurd (never here)) (λ other. cond-false (true_in s f) (value a s) (value b s) other) (cases_Bool (true_in s f)),
      );
    }
