-- What a right answer says of the steps that led to it.
use Rattle.std.proofs.Common.{◌≡◌, ℕ, Bool, true, false, cond, [], ◌∷◌, ◌++◌, Ok, Err, Result, refl, ◌∙◌, arith}
use Rattle.std.proofs.lemmas.Bool.{cond-false}
use Rattle.words.specs.Words.{bind}
use Rattle.tables.specs.Taking.{Tests, unless}

-- what is handed on from a right answer
pub bind_ok : {A B E : Type 0} (r : Result A E) (f : A → Result B E) (y : B) → bind r f ≡ Ok y → (x : A) × (r ≡ Ok x) × (f x ≡ Ok y)
bind_ok (Ok x) f y is = (x, refl, is)
bind_ok (Err e) f y is = absurd (let z : ◌≡◌ {A = ℕ} 0 1 = cc in omega arith)

-- a right answer is not the fault
pub first_ok : {A E : Type 0} (b : Bool) (r : Result A E) (e : E) (x : A) → cond b r (Err e) ≡ Ok x → (b ≡ true) × (r ≡ Ok x)
first_ok true r e x is = (refl, is)
first_ok false r e x is = absurd (let z : ◌≡◌ {A = ℕ} 0 1 = cc in omega arith)

pub second_ok : {A E : Type 0} (b : Bool) (r : Result A E) (e : E) (x : A) → cond b (Err e) r ≡ Ok x → (b ≡ false) × (r ≡ Ok x)
second_ok true r e x is = absurd (let z : ◌≡◌ {A = ℕ} 0 1 = cc in omega arith)
second_ok false r e x is = (refl, is)

pub same_ok : {A E : Type 0} (x y : A) → ◌≡◌ {A = Result A E} (Ok x) (Ok y) → x ≡ y
same_ok x y is = cc

-- none of the tests applied
abbrev pub AllFalse : Tests → Type 0
AllFalse [] = Unit {0}
AllFalse (test ∷ tests) = (test.0 ≡ false) × AllFalse tests

pub unless_ok : {A : Type 0} (tests : Tests) (answer x : A) → unless tests answer ≡ Ok x → (answer ≡ x) × AllFalse tests
unless_ok [] answer x is = (same_ok answer x is, tt)
unless_ok (test ∷ tests) answer x is =
    let out = second_ok test.0 (unless tests answer) test.1 x is in
    let others = unless_ok tests answer x out.1 in
    (others.0, (out.0, others.1))

-- where none applies, the answer is given
pub unless_none : {A : Type 0} (tests : Tests) (answer : A) → AllFalse tests → unless tests answer ≡ Ok answer
unless_none [] answer none = refl
unless_none (test ∷ tests) answer none = cond-false test.0 (Err test.1) (unless tests answer) none.0 ∙ unless_none tests answer none.1

-- what passes the tests with one answer goes on, with any, to the tests behind them
pub passed_on : {A B : Type 0} (tests more : Tests) (a x : A) (b : B) → Ok x ≡ unless tests a → unless (tests ++ more) b ≡ unless more b
passed_on [] more a x b ok = refl
passed_on ((true, fault) ∷ tests) more a x b ok = absurd (let z : ◌≡◌ {A = ℕ} 0 1 = cc in omega arith)
passed_on ((false, fault) ∷ tests) more a x b ok = passed_on tests more a x b ok
