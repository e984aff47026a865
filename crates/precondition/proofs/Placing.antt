-- The first place of a tree.
use Rattle.std.proofs.Common.{◌≡◌, ℕ, zero, suc, ◌<◌, ◌≤◌, cond, List, [], ◌∷◌, ◌++◌, length, refl, ap, ◌∙◌, arith}
use Rattle.std.proofs.lemmas.Bool.{cond_both, cond-true, cond-false}
use Rattle.semantics.specs.Trees.{Tree}
use Rattle.terms.specs.Trees.{tree_at}
use Rattle.precondition.specs.Places.{place}
use Rattle.precondition.specs.Signs.{same}
use Rattle.precondition.proofs.Same.{same_true, same_itself}

pub place_within : (ts : List Tree) (t : Tree) → place ts t ≤ length ts
unfolding place
place_within [] t = omega arith
place_within (x ∷ ts) t = cond_both (same x t) 0 (suc (place ts t)) (λ n. n ≤ suc (length ts)) (λ here. omega arith) (λ later. omega (arith, place_within ts t))

pub place_there : (ts : List Tree) (t : Tree) → place ts t < length ts → tree_at ts (place ts t) ≡ t
unfolding place
place_there [] t = λ inside. absurd (omega arith)
place_there (x ∷ ts) t =
    cond_both (same x t) 0 (suc (place ts t)) (λ n. n < suc (length ts) → tree_at (x ∷ ts) n ≡ t)
    (λ here inside. same_true x t here)
    (λ later inside. place_there ts t (omega arith))

pub place_first : (ts : List Tree) (t : Tree) (k : ℕ) → k < length ts → tree_at ts k ≡ t → place ts t ≤ k
unfolding place
place_first [] t k inside is = absurd (omega arith)
place_first (x ∷ ts) t zero inside is = omega (arith, cond-true (same x t) 0 (suc (place ts t)) (same_itself x t is))
place_first (x ∷ ts) t (suc k) inside is =
    cond_both (same x t) 0 (suc (place ts t)) (λ n. n ≤ suc k) (λ here. omega arith) (λ later. omega (arith, place_first ts t k (omega arith) is))

pub place_append : (ts more : List Tree) (t : Tree) → place ts t < length ts → place (ts ++ more) t ≡ place ts t
unfolding place
place_append [] more t = λ inside. absurd (omega arith)
place_append (x ∷ ts) more t =
    cond_both (same x t) 0 (suc (place ts t)) (λ n. n < suc (length ts) → place ((x ∷ ts) ++ more) t ≡ n)
    (λ here inside. cond-true (same x t) 0 (suc (place (ts ++ more) t)) here)
    (λ later inside. cond-false (same x t) 0 (suc (place (ts ++ more) t)) later ∙ ap suc (place_append ts more t (omega arith)))

-- a tree that is put at the end has the place that it had
pub place_push : (ts : List Tree) (t : Tree) → place (ts ++ t ∷ []) t ≡ place ts t
unfolding place
place_push [] t = cond-true (same t t) 0 1 (same_itself t t refl)
place_push (x ∷ ts) t = ap (λ n. cond (same x t) 0 (suc n)) (place_push ts t)
