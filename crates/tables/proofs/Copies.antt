-- Copying a list element by element.
use Rattle.std.proofs.Common.{◌≡◌, ℕ, zero, suc, ◌<◌, List, [], ◌∷◌, map, length, get_or, vec_items, IfOk, Result, Vec, sym, ap, refl, ◌∙◌, arith}
use Rattle.std.proofs.lemmas.List.{length-map}
use Rattle.std.proofs.lemmas.Result.{IfOk-weaker}

-- What stands for the same is as long.
pub as_long : {X Y : Type 0} (f : X → Y) (xs ys : List X) → map f xs ≡ map f ys → length xs ≡ length ys
as_long f xs ys e = sym (length-map xs f) ∙ ap length e ∙ length-map ys f

-- The elements at each place stand for the same.
abbrev pub SameByPlace : {X Y : Type 0} → (X → Y) → List X → List X → Type 0
SameByPlace {X} f xs ys = (length xs ≡ length ys) × ((k : ℕ) (d : X) → k < length ys → f (get_or xs k d) ≡ f (get_or ys k d))

same_by_place : {X Y : Type 0} (f : X → Y) (xs ys : List X) → SameByPlace f xs ys → map f xs ≡ map f ys
same_by_place f [] [] same = refl
same_by_place f [] (y ∷ ys) same = absurd (omega (arith, same.0))
same_by_place f (x ∷ xs) [] same = absurd (omega (arith, same.0))
same_by_place f (x ∷ xs) (y ∷ ys) same =
    let head = same.1 zero x (omega arith) in
    let tail = same_by_place f xs ys (omega (arith, same.0), λ k d inside. same.1 (suc k) d (omega arith)) in
    λ i. head i ∷ tail i

-- A collected copy, whose elements stand for the same at each place, stands for the same.
pub copied : {X Y Z E : Type 0} (f : X → Y) (r : Result (Vec X Z) E) (ys : List X) → IfOk r (λ v. SameByPlace f (vec_items v) ys) → IfOk r (λ v. map f (vec_items v) ≡ map f ys)
copied f r ys = IfOk-weaker r (λ v. SameByPlace f (vec_items v) ys) (λ v. map f (vec_items v) ≡ map f ys) (λ v same. same_by_place f (vec_items v) ys same)
