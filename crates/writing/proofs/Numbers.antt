-- A number is read as what it was written from, and written as what it was read from.
use Rattle.std.proofs.Common.{◌≡◌, ℕ, ◌+◌, ◌-◌, ◌*◌, ◌/◌, ◌%◌, ◌^◌, ◌<◌, ◌≤◌, Bool, true, false, cond, eqb, leb, List, [], ◌∷◌, length, get_or, Some, None, fold, sym, refl, ap, ◌∙◌, ⊎_elim, arith, length-append}
use Rattle.std.proofs.lemmas.Fmt.{digits_decimal, digits_value-decimal, length-decimal-le, decimal_nonempty, first_decimal, decimal_digit, decimal_step, decimal-digits_value}
use Rattle.std.proofs.lemmas.Str.Parse.{IsNumeralModel, IsDigitsTest, numerals_by_fold, digits_value_short}
use Rattle.std.proofs.lemmas.Bool.{leb-true, le-leb, eqb-true, eqb-false, ne_eqb, and_parts, and_from, or_cases, or_left, or_right, not-true, not_from_false, cond-true, cases_lt}
use Rattle.words.specs.Words.{every, digit, is_number, number_length, number_of}
use Rattle.words.specs.Words as words
use Rattle.writing.specs.Written.{written_number}

abbrev IsDigits : List ℕ → Type 0
IsDigits ds = every digit ds ≡ true

tells : IsDigitsTest IsDigits
tells = record {
  empty = refl;
  parts = λ c cs all.
      let both = and_parts (digit c) (every digit cs) all in
      let sides = and_parts (leb 48 c) (leb c 57) both.0 in
      ((leb-true 48 c sides.0, leb-true c 57 sides.1), both.1);
  more = λ c cs one all. and_from (digit c) (every digit cs) (and_from (leb 48 c) (leb c 57) (le-leb 48 c one.0) (le-leb c 57 one.1)) all;
}

own : IsNumeralModel IsDigits words.decimal
own = numerals_by_fold IsDigits tells (λ n ds. fold (λ value b. value * 10 + (b - 48)) n ds) (record { empty = λ n. refl; more = λ n c cs one. refl })

-- what the length of a number's word says
abbrev Long : List ℕ → Type 0
Long ds = (0 < length ds) × (length ds ≤ 3) × (get_or ds 0 0 ≡ 48 → length ds ≡ 1)

long : (ds : List ℕ) → number_length ds ≡ true → Long ds
long ds is =
    ⊎_elim
    (λ one. let e = eqb-true (length ds) 1 one in (omega arith, omega arith, λ zero. e))
    (λ more.
    let two = and_parts (leb 2 (length ds)) _ more in
    let three = and_parts (leb (length ds) 3) _ two.1 in
    let least = leb-true 2 (length ds) two.0 in
    (omega arith, leb-true (length ds) 3 three.0, λ zero. absurd (eqb-false (get_or ds 0 0) 48 (not-true _ three.1) zero)))
    (or_cases (eqb (length ds) 1) _ is)

some_ok : (b : Bool) (x y : ℕ) → cond b (Some x) None ≡ Some y → (b ≡ true) × (x ≡ y)
some_ok true x y is = (refl, (cc))
some_ok false x y is = cc

pub number_read : (ds : List ℕ) (n : ℕ) → number_of ds ≡ Some n → (written_number n ≡ ds) × (n < 1000)
number_read ds n is =
    let got = some_ok (is_number ds) (words.decimal ds) n is in
    let both = and_parts (number_length ds) (every digit ds) got.0 in
    let size = long ds both.0 in
    let low : words.decimal ds < 10 ^ 3 = digits_value_short own ds 3 both.1 size.1 in
    let back = decimal-digits_value own ds both.1 size.0 size.2 (omega arith) in
    (ap written_number (sym got.1) ∙ back, omega (arith, got.1))

number_long : (n : ℕ) → n < 1000 → number_length (written_number n) ≡ true
number_long n low =
    let ds = written_number n in
    ⊎_elim
    (λ small. or_left (eqb (length ds) 1) _ (ap (λ l. eqb (length l) 1) (decimal_digit n small)))
    (λ big.
    let step : length ds ≡ length (written_number (n / 10)) + 1 = ap length (decimal_step n big (omega arith)) ∙ length-append (written_number (n / 10)) ((48 + n % 10) ∷ []) in
    let some = decimal_nonempty (n / 10) (omega arith) in
    let most : length ds ≤ 3 = length-decimal-le 3 n (omega arith) low (omega arith) in
    let first : 48 < get_or ds 0 0 = first_decimal n (omega arith) (omega arith) in
    or_right (eqb (length ds) 1) _
    (and_from (leb 2 (length ds)) _ (le-leb 2 (length ds) (omega arith))
    (and_from (leb (length ds) 3) _ (le-leb (length ds) 3 most) (not_from_false _ (ne_eqb (get_or ds 0 0) 48 (λ e. omega arith))))))
    (cases_lt n 10)

pub number_written : (n : ℕ) → n < 1000 → number_of (written_number n) ≡ Some n
number_written n low =
    let ds = written_number n in
    cond-true (is_number ds) (Some (words.decimal ds)) None (and_from (number_length ds) (every digit ds) (number_long n low) (digits_decimal own n (omega arith)))
    ∙ ap Some (digits_value-decimal own n (omega arith))

pub number_digits : (n : ℕ) → n < 1000 → every digit (written_number n) ≡ true
number_digits n low = digits_decimal own n (omega arith)
