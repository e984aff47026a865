-- A part of the row that was looked up by its number.
use Rattle.std.proofs.Common.{◌≡◌, ℕ, List, map, Some, None, Option, Bor, refl, sym, ap, ◌∙◌}
use Rattle.std.proofs.lemmas.Option.{slice_get_past, slice_get_read, slice_get-map}
use Rattle.std.specs.List.{slice_get}
use Rattle.std.specs.Option.{option_map}
use Rattle.std.specs.Slice.{IsItemAt}

looked_up : {A : Type 0} (xs : List A) (i : ℕ) (r : Option (Bor A)) → IsItemAt xs i r → slice_get xs i ≡ option_map (λ (x : Bor A). x.now) r
looked_up xs i None found = slice_get_past xs i found.3
looked_up xs i (Some x) found = slice_get_read xs _ i x.now refl found.3.0 found.1

-- a part of what a row stands for is that part of what all rows stand for
pub part_of_row : {A B C : Type 0} (seen : A → B) (part : B → C) (xs : List A) (i : ℕ) (r : Option (Bor A)) → IsItemAt xs i r → option_map (λ (x : Bor A). part (seen x.now)) r ≡ slice_get (map part (map seen xs)) i
part_of_row {A} seen part xs i r found =
    sym
    (slice_get-map part (map seen xs) i
    ∙ ap (option_map part) (slice_get-map seen xs i ∙ ap (option_map seen) (looked_up xs i r found))
    ∙ twice r)
  where
    twice : (r : Option (Bor A)) → option_map part (option_map seen (option_map (λ (x : Bor A). x.now) r)) ≡ option_map (λ (x : Bor A). part (seen x.now)) r
    twice None = refl
    twice (Some x) = refl
