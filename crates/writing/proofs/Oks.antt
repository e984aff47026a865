-- What a right answer says of the steps that led to it.
use Rattle.std.proofs.Common.{◌≡◌, Bool, true, false, cond, Ok, Err, Result, refl, ap, subst}
use Rattle.words.specs.Words.{bind}

-- what is handed on from a right answer
pub bind_ok : {A B E : Type 0} (r : Result A E) (f : A → Result B E) (y : B) → bind r f ≡ Ok y → (x : A) × (r ≡ Ok x) × (f x ≡ Ok y)
bind_ok (Ok x) f y is = (x, refl, is)
bind_ok (Err e) f y is = cc

-- a right answer is not the fault
pub first_ok : {A E : Type 0} (b : Bool) (r : Result A E) (e : E) (x : A) → cond b r (Err e) ≡ Ok x → (b ≡ true) × (r ≡ Ok x)
first_ok true r e x is = (refl, is)
first_ok false r e x is = cc

pub second_ok : {A E : Type 0} (b : Bool) (r : Result A E) (e : E) (x : A) → cond b (Err e) r ≡ Ok x → (b ≡ false) × (r ≡ Ok x)
second_ok true r e x is = cc
second_ok false r e x is = (refl, is)

pub same_ok : {A E : Type 0} (x y : A) → ◌≡◌ {A = Result A E} (Ok x) (Ok y) → x ≡ y
same_ok x y is = cc

-- what is read and then made into something else
pub made_ok : {A B E : Type 0} (r : Result A E) (make : A → B) (Q : B → Type 0) → ((a : A) → r ≡ Ok a → Q (make a)) → (b : B) → bind r (λ a. Ok (make a)) ≡ Ok b → Q b
made_ok r make Q holds b is =
    let got = bind_ok r (λ a. Ok (make a)) b is in
    subst Q (same_ok (make got.0) b got.2) (holds got.0 got.1)

-- a right answer is handed on
pub go_on : {A B E : Type 0} (r : Result A E) (f : A → Result B E) (x : A) → r ≡ Ok x → bind r f ≡ f x
go_on r f x is = ap (λ r. bind r f) is
