-- Bytes appended one after another.
use Rattle.std.proofs.Common.{◌≡◌, ℕ, ◌+◌, ◌/◌, ◌%◌, ◌^◌, ◌<◌, ◌≤◌, List, [], ◌∷◌, ◌++◌, Ok, Err, Result, length, get_or, map, take, sym, refl, ap, ◌∙◌, append_assoc, append-nil, arith}
use Rattle.std.proofs.lemmas.Fmt.{decimal_digit, decimal_step}
use Rattle.std.proofs.lemmas.List.{take_more, map-append}
use Rattle.std.specs.Result.{IsErr}
use Rattle.std.specs.declared.alloc.AllocError.{AllocError}
use Rattle.words.specs.Repeats.{start}
use Rattle.words.specs.Words.{words_left}
use Rattle.writing.specs.Appending.{Appended}
use Rattle.writing.specs.Said.{texts}
use Rattle.writing.specs.Written.{each_spaced, spaced, written_number}
use Rattle.writing.proofs.Spaces.{each_pieces, left_start}

pub after_both : (before x y mid after : List ℕ) → mid ≡ before ++ x → after ≡ mid ++ y → after ≡ before ++ (x ++ y)
after_both before x y mid after first second = second ∙ ap (λ l. l ++ y) first ∙ append_assoc before x y

-- the last digit, alone or behind the others
pub digit_appended : (n : ℕ) (before mid after : List ℕ) → n < 10 → mid ≡ before → after ≡ mid ++ (48 + n % 10) ∷ [] → after ≡ before ++ written_number n
digit_appended n before mid after low same is =
    let d : 48 + n % 10 ≡ 48 + n = omega arith in
    is ∙ (λ i. same i ++ (d i ∷ [])) ∙ ap (λ l. before ++ l) (sym (decimal_digit n low))

pub digits_appended : (n : ℕ) (before others mid after : List ℕ) → 10 ≤ n → n < 2 ^ 16 → mid ≡ others → others ≡ before ++ written_number (n / 10) → after ≡ mid ++ (48 + n % 10) ∷ [] → after ≡ before ++ written_number n
digits_appended n before others mid after high low same first second =
    after_both before (written_number (n / 10)) ((48 + n % 10) ∷ []) mid after (same ∙ first) second ∙ ap (λ l. before ++ l) (sym (decimal_step n high (omega arith)))

-- for want of memory `some` bytes were written
pub stopped : (r : Result (Unit {0}) AllocError) (before bytes after some : List ℕ) → IsErr r → after ≡ before ++ some → Appended r before bytes after
stopped (Ok done) before bytes after some short is = cc
stopped (Err error) before bytes after some short is = (some, is)

each_append : (us vs : List (List ℕ)) → each_spaced us ++ each_spaced vs ≡ each_spaced (us ++ vs)
each_append [] vs = refl
each_append (u ∷ us) vs = ap (λ l. 32 ∷ l) (append_assoc u (each_spaced us) (each_spaced vs) ∙ ap (λ l. u ++ l) (each_append us vs))

-- one more of the words that are made of `xs`
pub one_more : {A : Type 0} (f : A → List ℕ) (before w : List ℕ) (xs : List A) (k : ℕ) (x : A) (mid after : List ℕ) → k < length xs → x ≡ get_or xs k x → mid ≡ before ++ spaced (w ∷ map f (take k xs)) → after ≡ mid ++ each_spaced (f x ∷ [])
    → after ≡ before ++ spaced (w ∷ map f (take (k + 1) xs))
one_more f before w xs k x mid after low here first second =
    let us = map f (take k xs) in
    let more : us ++ (f x ∷ []) ≡ map f (take (k + 1) xs) =
    sym (ap (map f) (take_more xs k x low) ∙ map-append f (take k xs) (get_or xs k x ∷ []) ∙ ap (λ y. us ++ (f y ∷ [])) (sym here)) in
    after_both before (spaced (w ∷ us)) (each_spaced (f x ∷ [])) mid after first second
    ∙ ap (λ l. before ++ l) (append_assoc w (each_spaced us) (each_spaced (f x ∷ [])) ∙ ap (λ l. w ++ l) (each_append us (f x ∷ []) ∙ ap each_spaced more))

-- the values of a type, all at once
pub values_spaced : (name values : List ℕ) → spaced (name ∷ values ∷ []) ≡ spaced (name ∷ texts (words_left (start values)))
values_spaced name values =
    ap (λ l. name ++ (32 ∷ l)) (append-nil values) ∙ ap (λ l. name ++ l) (sym (each_pieces values)) ∙ ap (λ ws. name ++ each_spaced ws) (sym (left_start values))
