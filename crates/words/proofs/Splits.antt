-- A text's words are the same taken one by one and all at once.
use Rattle.std.proofs.Common.{◌≡◌, ℕ, suc, ◌+◌, ◌-◌, ◌<◌, ◌≤◌, cond, not, eqb, ltb, List, [], ◌∷◌, length, take, drop, Ok, Err, sym, refl, ap, ◌∙◌, ⊎_elim, add-zero, one-add, arith, length-drop}
use Rattle.std.proofs.lemmas.List.{drop-drop}
use Rattle.std.proofs.lemmas.Bool.{lt-ltb, le-ltb, cond-true, cond-false, cases_lt, cases_Bool}
use Rattle.std.specs.List.{prefix_len}
use Rattle.words.specs.Words.{WordV, Place, no_space, lengthened, words, words_left, word, word_length, next, over, column, is_name, all_names, name_at, bind}
use Rattle.text.specs.Faults.{fault}
use Rattle.text.specs.declared.faults.Wrong.TheVariants as wrong

-- the words behind a first one of `n` bytes
abbrev behind : ℕ → List ℕ → ℕ → List WordV
behind c xs n = cond (ltb n (length xs)) (words (c + n + 1) (drop (n + 1) xs)) []

-- a first word of `n` bytes and the words behind it
abbrev front : ℕ → List ℕ → ℕ → List WordV
front c xs n = record { bytes = take n xs; column = c } ∷ behind c xs n

behind_more : (b c : ℕ) (xs : List ℕ) (m : ℕ) → behind (c + 1) xs m ≡ behind c (b ∷ xs) (suc m)
behind_more b c xs m =
    let moved : c + 1 + m + 1 ≡ c + suc m + 1 = omega arith in
    let on : suc m + 1 ≡ suc (m + 1) = omega arith in
    ⊎_elim
    (λ lt.
    cond-true _ (words (c + 1 + m + 1) (drop (m + 1) xs)) [] (lt-ltb m (length xs) lt)
    ∙ (λ i. words (moved i) (drop (m + 1) xs))
    ∙ ap (λ k. words (c + suc m + 1) (drop k (b ∷ xs))) (sym on)
    ∙ sym (cond-true _ (words (c + suc m + 1) (drop (suc m + 1) (b ∷ xs))) [] (lt-ltb (suc m) (suc (length xs)) (omega arith))))
    (λ ge.
    cond-false _ (words (c + 1 + m + 1) (drop (m + 1) xs)) [] (le-ltb m (length xs) ge)
    ∙ sym (cond-false _ (words (c + suc m + 1) (drop (suc m + 1) (b ∷ xs))) [] (le-ltb (suc m) (suc (length xs)) (omega arith))))
    (cases_lt m (length xs))

words_front : (c : ℕ) (xs : List ℕ) → words c xs ≡ front c xs (prefix_len no_space xs)
words_front c [] = refl
words_front c (b ∷ xs) =
    ⊎_elim
    (λ space.
    cond-true (eqb b 32) _ _ space
    ∙ (λ i. record { bytes = []; column = c } ∷ words (ap (λ k. k + 1) (sym (add-zero c)) i) xs)
    ∙ ap (λ ws. record { bytes = []; column = c } ∷ ws) (sym (cond-true (ltb 0 (suc (length xs))) (words (c + 0 + 1) xs) [] (lt-ltb 0 (suc (length xs)) (omega arith))))
    ∙ ap (front c (b ∷ xs)) (sym (cond-false (no_space b) (1 + prefix_len no_space xs) 0 (ap not space))))
    (λ other.
    cond-false (eqb b 32) _ _ other
    ∙ ap (lengthened b c) (words_front (c + 1) xs)
    ∙ (λ i. record { bytes = b ∷ take (prefix_len no_space xs) xs; column = c } ∷ behind_more b c xs (prefix_len no_space xs) i)
    ∙ ap (front c (b ∷ xs)) (sym (one-add (prefix_len no_space xs)) ∙ sym (cond-true (no_space b) (1 + prefix_len no_space xs) 0 (ap not other))))
    (cases_Bool (eqb b 32))

module _ (p : Place) (more : p.at ≤ length p.text) where
  -- while words are left, the next word is the first of them, and the others are left behind it
  pub words_left_more : words_left p ≡ word p ∷ words_left (next p)
  words_left_more =
      let n = word_length p in
      let xs = drop p.at p.text in
      let long = length-drop p.at p.text in
      let on = cond-false (over p) p (record { text = p.text; before = p.before; at = p.at + n + 1 }) (le-ltb _ _ more) in
      let behind-is : behind (column p) xs n ≡ words_left (record { text = p.text; before = p.before; at = p.at + n + 1 }) =
      ⊎_elim
      (λ lt.
      cond-true _ (words (column p + n + 1) (drop (n + 1) xs)) [] (lt-ltb n (length xs) lt)
      ∙ (λ i. words ((let e : column p + n + 1 ≡ p.before + (p.at + n + 1) + 1 = omega arith in e) i) ((drop-drop (n + 1) p.at p.text ∙ ap (λ k. drop k p.text) (let e : p.at + (n + 1) ≡ p.at + n + 1 = omega arith in e)) i))
      ∙ sym (cond-false (ltb (length p.text) (p.at + n + 1)) [] _ (le-ltb _ _ (omega arith))))
      (λ ge.
      cond-false _ (words (column p + n + 1) (drop (n + 1) xs)) [] (le-ltb n (length xs) ge)
      ∙ sym (cond-true (ltb (length p.text) (p.at + n + 1)) [] _ (lt-ltb _ _ (omega arith))))
      (cases_lt n (length xs)) in
      cond-false (over p) [] (words (column p) xs) (le-ltb _ _ more)
      ∙ words_front (column p) xs
      ∙ ap (λ ws. word p ∷ ws) (behind-is ∙ ap words_left (sym on))

-- where they are over, none is left
pub words_left_none : (p : Place) → length p.text < p.at → words_left p ≡ []
words_left_none p past = cond-true (over p) [] _ (lt-ltb _ _ past)

-- how far the words still reach, counting the end of the line
abbrev pub reach : Place → ℕ
reach p = length p.text + 1 - p.at

module _ (p q : Place) (on : q ≡ next p) (more : p.at ≤ length p.text) where
  pub reach_falls : reach q < reach p
  reach_falls =
      let there = on ∙ cond-false (over p) p (record { text = p.text; before = p.before; at = p.at + word_length p + 1 }) (le-ltb _ _ more) in
      let same = ap (λ r. length r.text) there in
      let moved = ap (λ r. r.at) there in
      omega (arith, same, moved)

  named : name_at p ≡ cond (is_name (word p).bytes) (Ok (word p)) (Err (fault wrong.Word (column p)))
  named = ap (λ r. bind r (λ w. cond (is_name w.bytes) (Ok w) (Err (fault wrong.Word w.column)))) (cond-false (over p) _ (Ok (word p)) (le-ltb _ _ more))

  all_named : all_names (words_left p) ≡ cond (is_name (word p).bytes) (all_names (words_left q)) (Err (fault wrong.Word (column p)))
  all_named = ap all_names (words_left_more p more) ∙ ap (λ r. cond (is_name (word p).bytes) (all_names (words_left r)) (Err (fault wrong.Word (column p)))) (sym on)

  -- a next word that is a name leaves the question to the others
  pub names_more : (w : WordV) → Ok w ≡ name_at p → all_names (words_left q) ≡ all_names (words_left p)
  names_more w is =
      ⊎_elim
      (λ good. sym (all_named ∙ cond-true _ _ _ good))
      (λ bad. absurd (let z : ◌≡◌ {A = ℕ} 0 1 = cc (is ∙ named ∙ cond-false _ _ _ bad) in omega arith))
      (cases_Bool (is_name (word p).bytes))
