-- Where a name stands among those of the rows, and what this says of the rows.
use Rattle.std.proofs.Common.{◌≡◌, ℕ, zero, suc, ◌+◌, ◌<◌, cond, not, ltb, List, [], ◌∷◌, map, length, get_or, Some, None, Option, sym, refl, ap, ◌∙◌, subst, ⊎_elim, one-add, arith, MatchOption}
use Rattle.std.proofs.lemmas.Slice.Eq.{bytes_eq-Decides}
use Rattle.std.proofs.lemmas.Bool.{lt-ltb, le-ltb, cond-true, cond-false, cond_both, both_ways, cases_lt, cases_Bool}
use Rattle.std.specs.List.{position, position_or_len}
use Rattle.std.specs.Option.{option_map}
use Rattle.std.specs.Str.{bytes_eq}
use Rattle.names.specs.Names.{place_in}

-- one row more in front, which is not the one
one_further : (m n : ℕ) → cond (ltb (1 + m) (suc n)) (Some (1 + m)) None ≡ option_map suc (cond (ltb m n) (Some m) None)
one_further m n =
    ⊎_elim
    (λ lt. cond-true _ (Some (1 + m)) None (lt-ltb (1 + m) (suc n) (omega arith)) ∙ ap Some (one-add m) ∙ sym (ap (option_map suc) (cond-true _ (Some m) None (lt-ltb m n lt))))
    (λ ge. cond-false _ (Some (1 + m)) None (le-ltb (1 + m) (suc n) (omega arith)) ∙ sym (ap (option_map suc) (cond-false _ (Some m) None (le-ltb m n ge))))
    (cases_lt m n)

module _ {X : Type 0} (named : X → List ℕ) where
  -- the first row with the name stands where its name stands among the names
  pub by_position : (rows : List X) (name : List ℕ) → position (λ x. bytes_eq (named x) name) rows ≡ place_in (map named rows) name
  by_position [] name = refl
  by_position (x ∷ rows) name =
      let m = position_or_len (λ y. bytes_eq (named y) name) rows in
      let n = length rows in
      ⊎_elim
      (λ same.
      (λ i. cond (ltb (cond (not (same i)) (1 + m) 0) (suc n)) (Some (cond (not (same i)) (1 + m) 0)) None)
      ∙ cond-true _ (Some 0) None (lt-ltb 0 (suc n) (omega arith))
      ∙ sym (cond-true _ (Some 0) _ same))
      (λ other.
      (λ i. cond (ltb (cond (not (other i)) (1 + m) 0) (suc n)) (Some (cond (not (other i)) (1 + m) 0)) None)
      ∙ one_further m n
      ∙ ap (option_map suc) (by_position rows name)
      ∙ sym (cond-false _ (Some 0) _ other))
      (cases_Bool (bytes_eq (named x) name))

  -- what a number says of the rows: the row with this number has the name, and with no number no row has it
  abbrev pub Told : List X → List ℕ → Option ℕ → Type 0
  Told rows name o =
      MatchOption o ((k : ℕ) → k < length rows → get_or (map named rows) k [] ≡ name → ⊥) (λ i. (i < length rows) × (get_or (map named rows) i [] ≡ name))

  none_more : (x : X) (rows : List X) (name : List ℕ) → (named x ≡ name → ⊥) → Told rows name None → (k : ℕ) → k < length (x ∷ rows) → get_or (map named (x ∷ rows)) k [] ≡ name → ⊥
  none_more x rows name other none zero inside is = other is
  none_more x rows name other none (suc k) inside is = none k (omega arith) is

  told_more : (x : X) (rows : List X) (name : List ℕ) → (named x ≡ name → ⊥) → (o : Option ℕ) → Told rows name o → Told (x ∷ rows) name (option_map suc o)
  told_more x rows name other None none = none_more x rows name other none
  told_more x rows name other (Some i) so = (omega arith, so.1)

  told_place : (rows : List X) (name : List ℕ) → Told rows name (place_in (map named rows) name)
  told_place [] name = λ k inside is. omega arith
  told_place (x ∷ rows) name =
      let tells = bytes_eq-Decides (named x) name in
      cond_both (bytes_eq (named x) name) (Some 0) (option_map suc (place_in (map named rows) name)) (Told (x ∷ rows) name)
      (λ is. (omega arith, tells.0 is))
      (λ other. told_more x rows name (λ same. both_ways _ other (tells.1 same)) (place_in (map named rows) name) (told_place rows name))

  pub told : (rows : List X) (name : List ℕ) (o : Option ℕ) → o ≡ place_in (map named rows) name → Told rows name o
  told rows name o is = subst (Told rows name) (sym is) (told_place rows name)
