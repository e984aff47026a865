-- Names among names: one more, and where one is found.
use Rattle.std.proofs.Common.{◌≡◌, ℕ, ◌<◌, true, false, ◌⊎◌, List, [], ◌∷◌, ◌++◌, map, length, get_or, is_some, Some, None, Option, unwrap_or, sym, refl, ◌∙◌, subst, inl, inr, ⊎_elim, arith, MatchOption}
use Rattle.std.proofs.lemmas.List.{length_push, get_or_append_left, get_or_push, map-id}
use Rattle.std.proofs.lemmas.Bool.{cases_lt, true≢false, false≢true}
use Rattle.names.proofs.Places.{told}
use Rattle.names.specs.Names.{place_in}
use Rattle.words.specs.Words.{is_name}
use Rattle.tables.specs.Lawful.{Names}

-- without names there is nothing to break
pub no_names : Names []
no_names = record { each = λ i inside. absurd (omega arith); once = λ i j inside. absurd (omega arith) }

pub none_from : {A : Type 0} (o : Option A) → is_some o ≡ false → o ≡ None
none_from None is = refl
none_from (Some x) is = absurd (true≢false is)

-- what a place says of the names: with no place none of them is the name, and a place is one of theirs
abbrev pub Placed : List (List ℕ) → List ℕ → Option ℕ → Type 0
Placed names name o = MatchOption o ((k : ℕ) → k < length names → get_or names k [] ≡ name → ⊥) (λ i. (i < length names) × (get_or names i [] ≡ name))

pub placed : (names : List (List ℕ)) (name : List ℕ) → Placed names name (place_in names name)
placed names name =
    subst
    (λ ns. MatchOption (place_in ns name) ((k : ℕ) → k < length names → get_or ns k [] ≡ name → ⊥) (λ i. (i < length names) × (get_or ns i [] ≡ name)))
    (map-id names)
    (told (λ n. n) names name (place_in (map (λ n. n) names) name) refl)

pub some_inside : (names : List (List ℕ)) (name : List ℕ) (o : Option ℕ) → Placed names name o → is_some o ≡ true → unwrap_or o 0 < length names
some_inside names name None so is = absurd (false≢true is)
some_inside names name (Some i) so is = so.0

-- a place in a list with one more is one of the old ones or the last
pub split : {X : Type 0} (xs : List X) (y : X) (i : ℕ) → i < length (xs ++ y ∷ []) → (i < length xs) ⊎ (length xs ≡ i)
split xs y i inside = ⊎_elim (λ lt. inl lt) (λ ge. inr (omega (arith, length_push xs y))) (cases_lt i (length xs))

-- what holds of each and of one more holds of each then
pub each_push : {X : Type 0} (P : X → Type 0) (xs : List X) (y d : X) → ((i : ℕ) → i < length xs → P (get_or xs i d)) → P y → (i : ℕ) → i < length (xs ++ y ∷ []) → P (get_or (xs ++ y ∷ []) i d)
each_push P xs y d each last i inside =
    ⊎_elim
    (λ lt. subst P (sym (get_or_append_left xs (y ∷ []) d i lt)) (each i lt))
    (λ is. subst P (sym (get_or_push xs y d i is)) last)
    (split xs y i inside)

module _ (names : List (List ℕ)) (n : List ℕ) (named : Names names) (absent : (k : ℕ) → k < length names → get_or names k [] ≡ n → ⊥) where
  both_push : (i j : ℕ) → (i < length names) ⊎ (length names ≡ i) → (j < length names) ⊎ (length names ≡ j) → get_or (names ++ n ∷ []) i [] ≡ get_or (names ++ n ∷ []) j [] → i ≡ j
  both_push i j (inl a) (inl b) same = named.once i j a b (sym (get_or_append_left names (n ∷ []) [] i a) ∙ same ∙ get_or_append_left names (n ∷ []) [] j b)
  both_push i j (inl a) (inr b) same = absurd (absent i a (sym (get_or_append_left names (n ∷ []) [] i a) ∙ same ∙ get_or_push names n [] j b))
  both_push i j (inr a) (inl b) same = absurd (absent j b (sym (get_or_append_left names (n ∷ []) [] j b) ∙ sym same ∙ get_or_push names n [] i a))
  both_push i j (inr a) (inr b) same = omega arith

-- A new name among names.
pub names_push : (names : List (List ℕ)) (n : List ℕ) → Names names → is_name n ≡ true → place_in names n ≡ None → Names (names ++ n ∷ [])
names_push names n named good new =
    let absent = subst (Placed names n) new (placed names n) in
    record {
      each = each_push (λ x. is_name x ≡ true) names n [] named.each good;
      once = λ i j in-i in-j. both_push names n named absent i j (split names n i in-i) (split names n j in-j);
    }
