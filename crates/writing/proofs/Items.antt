-- Reading at a place and the words that are left there: a word, a name, a number, several of them, and nothing.
use Rattle.std.proofs.Common.{◌≡◌, ℕ, true, false, cond, List, [], ◌∷◌, length, drop, Some, None, Ok, Err, Option, Result, sym, refl, ap, ◌∙◌, subst, ⊎_elim}
use Rattle.std.proofs.lemmas.Bool.{ltb-false, cond-true, cond-false, cases_Bool}
use Rattle.text.specs.Faults.{fault}
use Rattle.text.specs.declared.faults.LineFault.{LineFault}
use Rattle.text.specs.declared.faults.Wrong.TheVariants as wrong
use Rattle.words.proofs.Splits.{words_left_more}
use Rattle.words.specs.Words.{WordV, Place, over, column, column_behind, word, next, bind, word_at, name_at, number_at, nothing_at, number_of, number_or, is_name, words}
use Rattle.words.specs.declared.Number.{Number}
use Rattle.line.specs.Reading.{last}
use Rattle.line.specs.Reading as reading
use Rattle.writing.specs.Said.{texts}
use Rattle.writing.specs.Sound.{Named, Short}
use Rattle.writing.specs.Written.{written_number}
use Rattle.writing.proofs.Oks.{bind_ok, first_ok, second_ok, same_ok, go_on}
use Rattle.writing.proofs.Spaces.{left}
use Rattle.writing.proofs.Numbers.{number_read, number_written}

-- while words are left, the next is the first of them
left_more : (p : Place) → over p ≡ false → left p ≡ (word p).bytes ∷ left (next p)
left_more p more = ap texts (words_left_more p (ltb-false (length p.text) p.at more))

left_none : (p : Place) → over p ≡ true → left p ≡ []
left_none p past = ap texts (cond-true (over p) [] (words (column p) (drop p.at p.text)) past)

-- a first word and those behind it
pub leads : (w : List ℕ) (l m n : List (List ℕ)) → l ≡ w ∷ m → m ≡ n → l ≡ w ∷ n
leads w l m n first others = first ∙ ap (λ t. w ∷ t) others

-- a word that was read
pub took_word : (p : Place) (w : WordV) → word_at p ≡ Ok w → (over p ≡ false) × (left p ≡ w.bytes ∷ left (next p))
took_word p w is =
    let here = second_ok (over p) (Ok (word p)) (fault wrong.Word (column_behind p)) w is in
    (here.0, left_more p here.0 ∙ ap (λ v. v.bytes ∷ left (next p)) (same_ok (word p) w here.1))

-- a word that can be read
pub record WordGiven (p : Place) (w : List ℕ) (ws : List (List ℕ)) : Type 0 where
  pub more : over p ≡ false
  pub here : word_at p ≡ Ok (word p)
  pub bytes : (word p).bytes ≡ w
  pub rest : left (next p) ≡ ws

pub gave_word : (p : Place) (w : List ℕ) (ws : List (List ℕ)) → left p ≡ w ∷ ws → WordGiven p w ws
gave_word p w ws is =
    ⊎_elim
    (λ past. cc (sym (left_none p past) ∙ is))
    (λ more.
    let first : (word p).bytes ∷ left (next p) ≡ w ∷ ws = sym (left_more p more) ∙ is in
    record {
      more = more;
      here = cond-false (over p) (Err (fault wrong.Word (column_behind p))) (Ok (word p)) more;
      bytes = cc first;
      rest = cc first;
    })
    (cases_Bool (over p))

-- what was read, and then nothing more
pub took_last : {A : Type 0} (p : Place) (read x : A) → last p read ≡ Ok x → (read ≡ x) × (left p ≡ [])
took_last p read x is =
    let ends = bind_ok (nothing_at p) (λ _. Ok read) x is in
    (same_ok read x ends.2, left_none p (first_ok (over p) (Ok tt) (fault wrong.Word (column p)) ends.0 ends.1).0)

pub gave_last : {A : Type 0} (p : Place) (read : A) → left p ≡ [] → last p read ≡ Ok read
gave_last p read is =
    ⊎_elim
    (λ past. go_on (nothing_at p) (λ _. Ok read) tt (cond-true (over p) (Ok tt) (Err (fault wrong.Word (column p))) past))
    (λ more. cc (sym (left_more p more) ∙ is))
    (cases_Bool (over p))

-- something that one word says: `what` was read says it, `write` is its word, and `good` says which can be read
pub record Given {X C : Type 0} (item : Place → Result X LineFault) (what : X → C) (p : Place) (c : C) (ws : List (List ℕ)) : Type 0 where
  pub x : X
  pub is : item p ≡ Ok x
  pub says : what x ≡ c
  pub rest : left (next p) ≡ ws

pub record Item {X C : Type 0} (item : Place → Result X LineFault) (what : X → C) (write : C → List ℕ) (good : C → Type 0) : Type 0 where
  pub took : (p : Place) (x : X) → item p ≡ Ok x → (left p ≡ write (what x) ∷ left (next p)) × good (what x)
  pub gave : (p : Place) (c : C) (ws : List (List ℕ)) → good c → left p ≡ write c ∷ ws → Given item what p c ws

abbrev pub bytes_of : WordV → List ℕ
bytes_of w = w.bytes

abbrev pub value_of : Number → ℕ
value_of n = n.value

abbrev named_or : WordV → Result WordV LineFault
named_or w = cond (is_name w.bytes) (Ok w) (Err (fault wrong.Word w.column))

pub a_name : Item name_at bytes_of (λ w. w) Named
a_name = record {
  took = λ p w is.
      let found = bind_ok (word_at p) named_or w is in
      let good = first_ok (is_name found.0.bytes) (Ok found.0) (fault wrong.Word found.0.column) w found.2 in
      let same = same_ok found.0 w good.1 in
      ((took_word p found.0 found.1).1 ∙ ap (λ v. v.bytes ∷ left (next p)) same, subst (λ v. Named v.bytes) same good.0);
  gave = λ p w ws good is.
      let given = gave_word p w ws is in
      record {
        x = word p;
        is = go_on (word_at p) named_or (word p) given.here
            ∙ cond-true (is_name (word p).bytes) (Ok (word p)) (Err (fault wrong.Word (column p))) (ap is_name given.bytes ∙ good);
        says = given.bytes;
        rest = given.rest;
      };
}

number_ok : (c : ℕ) (o : Option ℕ) (n : Number) → number_or c o ≡ Ok n → o ≡ Some n.value
number_ok c (Some value) n is = ap (λ m. Some m.value) (same_ok (record { value = value; column = c }) n is)
number_ok c None n is = cc

abbrev numbered_or : WordV → Result Number LineFault
numbered_or w = number_or w.column (number_of w.bytes)

pub a_number : Item number_at value_of written_number Short
a_number = record {
  took = λ p n is.
      let found = bind_ok (word_at p) numbered_or n is in
      let good = number_read found.0.bytes n.value (number_ok found.0.column (number_of found.0.bytes) n found.2) in
      ((took_word p found.0 found.1).1 ∙ ap (λ v. v ∷ left (next p)) (sym good.0), good.1);
  gave = λ p n ws good is.
      let given = gave_word p (written_number n) ws is in
      record {
        x = record { value = n; column = column p };
        is = go_on (word_at p) numbered_or (word p) given.here
            ∙ ap (λ b. number_or (column p) (number_of b)) given.bytes
            ∙ ap (number_or (column p)) (number_written n good);
        says = refl;
        rest = given.rest;
      };
}

-- one of them, and nothing more
module _ {X C : Type 0} {item : Place → Result X LineFault} {what : X → C} {write : C → List ℕ} {good : C → Type 0} (one : Item item what write good) where
  pub one_took : (p : Place) (x : X) → reading.one item p ≡ Ok x → (left p ≡ write (what x) ∷ []) × good (what x)
  one_took p x is =
      let first = bind_ok (item p) (λ a. last (next p) a) x is in
      let ends = took_last (next p) first.0 x first.2 in
      let took = one.took p first.0 first.1 in
      subst (λ x. (left p ≡ write (what x) ∷ []) × good (what x)) ends.0 (leads (write (what first.0)) (left p) (left (next p)) [] took.0 ends.1, took.1)

  pub one_gave : (p : Place) (c : C) → good c → left p ≡ write c ∷ [] → (x : X) × (reading.one item p ≡ Ok x) × (what x ≡ c)
  one_gave p c fine is =
      let given = one.gave p c [] fine is in
      (given.x, go_on (item p) (λ a. last (next p) a) given.x given.is ∙ gave_last (next p) given.x given.rest, given.says)

  -- two of them, which may differ
  module _ {Y D : Type 0} {item' : Place → Result Y LineFault} {what' : Y → D} {write' : D → List ℕ} {good' : D → Type 0} (two : Item item' what' write' good') where
    pub two_took : (p : Place) (x : X × Y) → reading.two item item' p ≡ Ok x → (left p ≡ write (what x.0) ∷ write' (what' x.1) ∷ []) × (good (what x.0) × good' (what' x.1))
    two_took p x is =
        let first = bind_ok (item p) (λ a. bind (item' (next p)) (λ b. last (next (next p)) (a, b))) x is in
        let second = bind_ok (item' (next p)) (λ b. last (next (next p)) (first.0, b)) x first.2 in
        let ends = took_last (next (next p)) (first.0, second.0) x second.2 in
        let a = one.took p first.0 first.1 in
        let b = two.took (next p) second.0 second.1 in
        let words : left p ≡ write (what first.0) ∷ write' (what' second.0) ∷ [] =
        leads (write (what first.0)) (left p) (left (next p)) (write' (what' second.0) ∷ []) a.0
        (leads (write' (what' second.0)) (left (next p)) (left (next (next p))) [] b.0 ends.1) in
        subst (λ x. (left p ≡ write (what x.0) ∷ write' (what' x.1) ∷ []) × (good (what x.0) × good' (what' x.1))) ends.0 (words, (a.1, b.1))

    pub two_gave : (p : Place) (c : C) (d : D) → good c → good' d → left p ≡ write c ∷ write' d ∷ [] → (x : X × Y) × (reading.two item item' p ≡ Ok x) × (what x.0 ≡ c) × (what' x.1 ≡ d)
    two_gave p c d fine fine' is =
        let a = one.gave p c (write' d ∷ []) fine is in
        let b = two.gave (next p) d [] fine' a.rest in (
          (a.x, b.x),
          go_on (item p) (λ a. bind (item' (next p)) (λ b. last (next (next p)) (a, b))) a.x a.is
              ∙ go_on (item' (next p)) (λ y. last (next (next p)) (a.x, y)) b.x b.is
              ∙ gave_last (next (next p)) (a.x, b.x) b.rest,
          a.says,
          b.says,
        )

  -- three of them
  abbrev pub three_at : Place → Result (X × X × X) LineFault
  three_at p = bind (item p) (λ a. bind (item (next p)) (λ b. bind (item (next (next p))) (λ d. last (next (next (next p))) (a, b, d))))

  pub three_took : (p : Place) (x : X × X × X) → three_at p ≡ Ok x
      → (left p ≡ write (what x.0) ∷ write (what x.1) ∷ write (what x.2) ∷ []) × (good (what x.0) × good (what x.1) × good (what x.2))
  three_took p x is =
      let first = bind_ok (item p) (λ a. bind (item (next p)) (λ b. bind (item (next (next p))) (λ d. last (next (next (next p))) (a, b, d)))) x is in
      let second = bind_ok (item (next p)) (λ b. bind (item (next (next p))) (λ d. last (next (next (next p))) (first.0, b, d))) x first.2 in
      let third = bind_ok (item (next (next p))) (λ d. last (next (next (next p))) (first.0, second.0, d)) x second.2 in
      let ends = took_last (next (next (next p))) (first.0, second.0, third.0) x third.2 in
      let a = one.took p first.0 first.1 in
      let b = one.took (next p) second.0 second.1 in
      let d = one.took (next (next p)) third.0 third.1 in
      let words : left p ≡ write (what first.0) ∷ write (what second.0) ∷ write (what third.0) ∷ [] =
      leads (write (what first.0)) (left p) (left (next p)) (write (what second.0) ∷ write (what third.0) ∷ []) a.0
      (leads (write (what second.0)) (left (next p)) (left (next (next p))) (write (what third.0) ∷ []) b.0
      (leads (write (what third.0)) (left (next (next p))) (left (next (next (next p)))) [] d.0 ends.1)) in
      subst (λ x. (left p ≡ write (what x.0) ∷ write (what x.1) ∷ write (what x.2) ∷ []) × (good (what x.0) × good (what x.1) × good (what x.2)))
      ends.0 (words, (a.1, b.1, d.1))

  pub three_gave : (p : Place) (c d e : C) → good c → good d → good e → left p ≡ write c ∷ write d ∷ write e ∷ []
      → (x : X × X × X) × (three_at p ≡ Ok x) × (what x.0 ≡ c) × (what x.1 ≡ d) × (what x.2 ≡ e)
  three_gave p c d e fine fine' fine'' is =
      let u = one.gave p c (write d ∷ write e ∷ []) fine is in
      let v = one.gave (next p) d (write e ∷ []) fine' u.rest in
      let w = one.gave (next (next p)) e [] fine'' v.rest in (
        (u.x, v.x, w.x),
        go_on (item p) (λ a. bind (item (next p)) (λ b. bind (item (next (next p))) (λ d. last (next (next (next p))) (a, b, d)))) u.x u.is
            ∙ go_on (item (next p)) (λ b. bind (item (next (next p))) (λ d. last (next (next (next p))) (u.x, b, d))) v.x v.is
            ∙ go_on (item (next (next p))) (λ d. last (next (next (next p))) (u.x, v.x, d)) w.x w.is
            ∙ gave_last (next (next (next p))) (u.x, v.x, w.x) w.rest,
        u.says,
        v.says,
        w.says,
      )
