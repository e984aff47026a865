-- What follows from taking one word after another, and what follows where no word comes again.
use Rattle.std.proofs.Common.{◌≡◌, ℕ, ◌<◌, false, cond, ◌&&◌, ◌||◌, not, ltb, List, [], ◌∷◌, Some, None, Ok, Err, Option, Result, sym, refl, ap, ◌∙◌, ⊎_elim, arith}
use Rattle.std.proofs.ByRecursion.{all-has}
use Rattle.std.proofs.lemmas.Slice.Eq.{bytes_eq-Decides}
use Rattle.std.proofs.lemmas.Bool.{lt-ltb, ltb-true, ltb-false, cond-true, cond-false, cases_Bool, cases_order, and_from, both_ways, or_parts}
use Rattle.std.specs.Iterator.{YieldsFirstBy, MakesProgress, at_most}
use Rattle.std.specs.List.{ContainsAt, AllByRecursion, find, list_any}
use Rattle.std.specs.Option.{option_map}
use Rattle.std.specs.Str.{bytes_eq}
use Rattle.text.specs.Faults.{fault}
use Rattle.text.specs.declared.faults.LineFault.{LineFault}
use Rattle.text.specs.declared.faults.Wrong.TheVariants as wrong
use Rattle.words.specs.Repeats.{seen_before, repeat_in, AllDiffer}
use Rattle.words.specs.Words.{WordV, Place, word, word_at, word_seen, place, next, over, words_left, is_name, all_names}
use Rattle.words.specs.declared.Word.{Word}
use Rattle.words.specs.declared.Words.{Words}
use Rattle.words.proofs.Splits.{words_left_more, words_left_none, reach, reach_falls}

-- a word that is answered is the first of those that are left
pub left_more : (p q : Place) → q ≡ next p → (w : WordV) → Ok w ≡ word_at p → words_left p ≡ w ∷ words_left q
left_more p q on w is =
    ⊎_elim
    (λ past. absurd (let z : ◌≡◌ {A = ℕ} 0 1 = cc (is ∙ cond-true _ _ _ past) in omega arith))
    (λ here.
    let same : ◌≡◌ {A = WordV} w (word p) = cc (is ∙ cond-false _ _ _ here) in
    words_left_more p (ltb-false _ _ here) ∙ (λ i. sym same i ∷ words_left (sym on i)))
    (cases_Bool (over p))

-- What the next word is, and the place behind it.
module _ (s t : Words) (on : place t ≡ next (place s)) where
  -- it is the first of those that are left, and behind the last there is none
  pub yields_first : (r : Option Word) → option_map word_seen r ≡ cond (over (place s)) None (Some (word (place s))) → YieldsFirstBy word_seen (λ w. words_left (place w)) s r t
  yields_first None is =
      ⊎_elim
      (λ past.
      let none = words_left_none (place s) (ltb-true _ _ past) in
      (none, ap words_left (on ∙ cond-true (over (place s)) (place s) _ past) ∙ none))
      (λ here. absurd (let z : ◌≡◌ {A = ℕ} 0 1 = cc (is ∙ cond-false _ _ _ here) in omega arith))
      (cases_Bool (over (place s)))
  yields_first (Some x) is =
      ⊎_elim
      (λ past. absurd (let z : ◌≡◌ {A = ℕ} 0 1 = cc (is ∙ cond-true _ _ _ past) in omega arith))
      (λ here.
      let same : ◌≡◌ {A = WordV} (word_seen x) (word (place s)) = cc (is ∙ cond-false _ _ _ here) in
      words_left_more (place s) (ltb-false _ _ here) ∙ (λ i. sym same i ∷ words_left (sym on i)))
      (cases_Bool (over (place s)))

-- one of the words stands before the column and has the bytes
pub seen_among : (ws : List WordV) (column : ℕ) (bytes : List ℕ) → list_any (λ w. ltb w.column column && bytes_eq w.bytes bytes) ws ≡ seen_before ws column bytes
seen_among [] column bytes = refl
seen_among (w ∷ ws) column bytes = ap (λ b. (ltb w.column column && bytes_eq w.bytes bytes) || b) (seen_among ws column bytes)

-- the first of the words that stands further left among `all`
pub repeat_found : (all ws : List WordV) → option_map (λ w. w.column) (find (λ w. seen_before all w.column w.bytes) ws) ≡ repeat_in all ws
repeat_found all [] = refl
repeat_found all (w ∷ ws) =
    ⊎_elim
    (λ seen. ap (option_map (λ u. u.column)) (cond-true _ (Some w) _ seen) ∙ sym (cond-true _ (Some w.column) (repeat_in all ws) seen))
    (λ new. ap (option_map (λ u. u.column)) (cond-false _ (Some w) _ new) ∙ repeat_found all ws ∙ sym (cond-false _ (Some w.column) (repeat_in all ws) new))
    (cases_Bool (seen_before all w.column w.bytes))

-- the first of the words that is no name is at fault
abbrev pub fault_of : Option WordV → Result (Unit {0}) LineFault
fault_of None = Ok tt
fault_of (Some w) = Err (fault wrong.Word w.column)

pub names_by_find : (ws : List WordV) → fault_of (find (λ w. not (is_name w.bytes)) ws) ≡ all_names ws
names_by_find [] = refl
names_by_find (w ∷ ws) =
    ⊎_elim
    (λ good. ap fault_of (cond-false _ (Some w) _ (ap not good)) ∙ names_by_find ws ∙ sym (cond-true _ (all_names ws) _ good))
    (λ bad. ap fault_of (cond-true _ (Some w) _ (ap not bad)) ∙ sym (cond-false _ (all_names ws) _ bad))
    (cases_Bool (is_name w.bytes))

-- of the words `ws`, none stands further left among `all`
unrepeated : (all ws : List WordV) → repeat_in all ws ≡ None → AllByRecursion (λ w. seen_before all w.column w.bytes ≡ false) ws
unrepeated all [] none = tt
unrepeated all (w ∷ ws) none =
    ⊎_elim
    (λ seen. absurd (let z : ◌≡◌ {A = ℕ} 0 1 = cc (sym (cond-true _ (Some w.column) (repeat_in all ws) seen) ∙ none) in omega arith))
    (λ new. (new, unrepeated all ws (sym (cond-false _ (Some w.column) (repeat_in all ws) new) ∙ none)))
    (cases_Bool (seen_before all w.column w.bytes))

unseen : (ws : List WordV) (column : ℕ) (bytes : List ℕ) → seen_before ws column bytes ≡ false → AllByRecursion (λ u. u.column < column → u.bytes ≡ bytes → ⊥) ws
unseen [] column bytes new = tt
unseen (w ∷ ws) column bytes new =
    let parts = or_parts (ltb w.column column && bytes_eq w.bytes bytes) (seen_before ws column bytes) new in
    ((λ lt same. both_ways _ parts.0 (and_from _ _ (lt-ltb _ _ lt) ((bytes_eq-Decides w.bytes bytes).1 same))), unseen ws column bytes parts.1)

pub all_differ : (ws : List WordV) → repeat_in ws ws ≡ None → AllDiffer ws
all_differ ws none u v has-u has-v same =
    let rows = unrepeated ws ws none in
    let apart : (x y : WordV) → ContainsAt ws x → ContainsAt ws y → x.column < y.column → x.bytes ≡ y.bytes → ⊥ =
    λ x y has-x has-y.
    all-has (λ z. z.column < y.column → z.bytes ≡ y.bytes → ⊥) ws x (unseen ws y.column y.bytes (all-has (λ w. seen_before ws w.column w.bytes ≡ false) ws y rows has-y)) has-x in
    ⊎_elim
    (λ e. e)
    (λ other. ⊎_elim (λ lt. absurd (apart u v has-u has-v lt same)) (λ gt. absurd (apart v u has-v has-u gt (sym same))) other)
    (cases_order u.column v.column)
