-- Comparing two lists pair by pair, through what their elements stand for.
use Rattle.std.proofs.Common.{◌≡◌, Bool, true, ◌&&◌, List, [], ◌∷◌, map, Decides, sym, refl, true≢false}
use Rattle.std.proofs.lemmas.Bool.{and_parts}
use Rattle.std.specs.Cmp.Lexicographic.{pointwise}

module _ {X Y : Type 0} (f : X → Y) (E : X → X → Bool) (each : (x y : X) → Decides (E x y) (f x ≡ f y)) where
  same_mapped : (xs ys : List X) → pointwise E xs ys ≡ true → map f xs ≡ map f ys
  same_mapped [] [] s = refl
  same_mapped [] (y ∷ ys) s = absurd (true≢false (sym s))
  same_mapped (x ∷ xs) [] s = absurd (true≢false (sym s))
  same_mapped (x ∷ xs) (y ∷ ys) s =
      let both = and_parts (E x y) (pointwise E xs ys) s in
      λ i. (each x y).0 both.0 i ∷ same_mapped xs ys both.1 i

  mapped_same : (xs ys : List X) → map f xs ≡ map f ys → pointwise E xs ys ≡ true
  mapped_same [] [] e = refl
  mapped_same [] (y ∷ ys) e = cc
  mapped_same (x ∷ xs) [] e = cc
  mapped_same (x ∷ xs) (y ∷ ys) e =
      let head : f x ≡ f y = cc in
      let tail : map f xs ≡ map f ys = cc in
      λ i. (each x y).1 head i && mapped_same xs ys tail i

  -- Where the test of two elements decides whether they stand for the same, so does that of two lists.
  pub lists_decide : (xs ys : List X) → Decides (pointwise E xs ys) (map f xs ≡ map f ys)
  lists_decide xs ys = (same_mapped xs ys, mapped_same xs ys)
