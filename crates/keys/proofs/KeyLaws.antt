-- What a line's key and its rest have to do with the line.
use Rattle.std.proofs.Common.{◌≡◌, ℕ, eqb, ◌⊎◌, List, [], ◌∷◌, ◌++◌, Some, None, codes, Option, sym, refl, ap, ◌∙◌, inl, inr, ⊎_elim, arith, Bor, MatchOption}
use Rattle.std.proofs.lemmas.Bool.{eq-eqb, eqb-true, cond-true, cond-false, cases_Bool}
use Rattle.std.specs.Option.{option_map}
use Rattle.keys.specs.declared.Key.{Key}
use Rattle.keys.specs.declared.Key.TheVariants.{Protocol, «Type», Var, Term, Init, Rule, Set, End, Proposal, Inv, Cause}
use Rattle.keys.specs.Keys.{word, line_with, after, or_else, first_of, every_key, key_of, Keyless, seen}

some≢none : {A : Type 0} {x : A} → Some x ≡ None → ⊥
some≢none e = let z : ◌≡◌ {A = ℕ} 0 1 = cc in omega arith

-- a text that is a front and a rest gives the rest
after_front : (front rest : List ℕ) → after front (front ++ rest) ≡ Some rest
after_front [] rest = refl
after_front (x ∷ front) rest = cond-true (eqb x x) _ None (eq-eqb x x refl) ∙ after_front front rest

-- what gives a rest is the front and that rest
front_after : (front text rest : List ℕ) → after front text ≡ Some rest → front ++ rest ≡ text
front_after [] text rest is = let e : text ≡ rest = cc in sym e
front_after (x ∷ front) [] rest is = absurd (some≢none (sym is))
front_after (x ∷ front) (y ∷ text) rest is =
    ⊎_elim
    (λ same. (λ i. sym (eqb-true y x same) i ∷ front_after front text rest (sym (cond-true (eqb y x) (after front text) None same) ∙ is) i))
    (λ other. absurd (some≢none (sym is ∙ cond-false (eqb y x) (after front text) None other)))
    (cases_Bool (eqb y x))

-- none of these keys fits the line
abbrev AllMiss : List Key → List ℕ → Type 0
AllMiss [] line = Unit {0}
AllMiss (key ∷ keys) line = (after (word key ++ codes "=") line ≡ None) × AllMiss keys line

miss_parts : (o : Option (List ℕ)) (key : Key) (other : Option (Key × List ℕ)) → or_else (option_map (λ rest. (key, rest)) o) other ≡ None → (o ≡ None) × (other ≡ None)
miss_parts None key other none = (refl, none)
miss_parts (Some rest) key other none = absurd (some≢none none)

all_miss : (keys : List Key) (line : List ℕ) → first_of keys line ≡ None → AllMiss keys line
all_miss [] line none = tt
all_miss (key ∷ keys) line none =
    let parts = miss_parts (after (word key ++ codes "=") line) key (first_of keys line) none in
    (parts.0, all_miss keys line parts.1)

misses : (key : Key) (line : List ℕ) → AllMiss every_key line → after (word key ++ codes "=") line ≡ None
misses «Type» line all = all.0
misses Term line all = all.1.0
misses Init line all = all.1.1.0
misses Rule line all = all.1.1.1.0
misses Var line all = all.1.1.1.1.0
misses Set line all = all.1.1.1.1.1.0
misses Inv line all = all.1.1.1.1.1.1.0
misses End line all = all.1.1.1.1.1.1.1.0
misses Cause line all = all.1.1.1.1.1.1.1.1.0
misses Protocol line all = all.1.1.1.1.1.1.1.1.1.0
misses Proposal line all = all.1.1.1.1.1.1.1.1.1.1.0

keyless : (line : List ℕ) → key_of line ≡ None → Keyless line
keyless line none key rest is =
    some≢none (sym (after_front (word key ++ codes "=") rest) ∙ ap (after (word key ++ codes "=")) (sym is) ∙ misses key line (all_miss every_key line none))

found_parts : (o : Option (List ℕ)) (key : Key) (other : Option (Key × List ℕ)) (k : Key) (rest : List ℕ) → or_else (option_map (λ rest. (key, rest)) o) other ≡ Some (k, rest) → ((o ≡ Some rest) × (key ≡ k)) ⊎ (other ≡ Some (k, rest))
found_parts None key other k rest is = inr is
found_parts (Some x) key other k rest is =
    let same : ◌≡◌ {A = Key × List ℕ} (key, x) (k, rest) = cc in inl (ap (λ p. Some p.1) same, ap (λ p. p.0) same)

-- the key that is found, its equals sign and the rest are the line
pub keyed : (keys : List Key) (line : List ℕ) (key : Key) (rest : List ℕ) → first_of keys line ≡ Some (key, rest) → line_with key rest ≡ line
keyed [] line key rest is = absurd (some≢none (sym is))
keyed (k ∷ keys) line key rest is =
    ⊎_elim
    (λ here. ap (λ x. line_with x rest) (sym here.1) ∙ front_after (word k ++ codes "=") line rest here.0)
    (λ there. keyed keys line key rest there)
    (found_parts (after (word k ++ codes "=") line) k (first_of keys line) key rest is)

-- the key that a call answers with, its equals sign and the rest are the line; or no key fits it
pub key_law : (r : Option (Key × Bor (List ℕ))) (line : List ℕ) → seen r ≡ key_of line → MatchOption r (Keyless line) (λ p. line_with p.0 p.1.now ≡ line)
key_law None line is = keyless line (sym is)
key_law (Some p) line is = keyed every_key line p.0 p.1.now (sym is)
