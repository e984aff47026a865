-- A text cut line by line and all at once: the lines are the same, and so is the first fault.
use Rattle.std.proofs.Common.{◌≡◌, ℕ, zero, suc, ◌+◌, ◌<◌, ◌≤◌, Bool, true, false, cond, ◌&&◌, eqb, ltb, leb, List, [], ◌∷◌, ◌++◌, length, get_or, take, drop, Some, None, Ok, Err, Option, Result, unwrap_or, sym, refl, ap, ◌∙◌, ⊎_elim, add-one, arith, length-append, length-drop}
use Rattle.std.proofs.lemmas.List.{append_assoc, get_or_at, length-take-le}
use Rattle.std.proofs.lemmas.List.Sums.{prefix_len-le-length}
use Rattle.std.proofs.lemmas.Bool.{lt-ltb, le-ltb, ltb-true, ltb-false, leb-true, leb-false, eqb-true, eqb-false, eq-eqb, and_parts, cond-true, cond-false, cond_both, cases_lt, cases_Bool}
use Rattle.std.specs.List.{flat_map, prefix_len}
use Rattle.text.specs.Faults.{fault}
use Rattle.text.specs.Lines.{Split, printable, cut, cut_behind, split, lengthened, together, byte_fault, tail_fault}
use Rattle.text.specs.Walk.{Outcome, unless, settled, walk, walk_through}
use Rattle.text.specs.declared.faults.LineFault.{LineFault}
use Rattle.text.specs.declared.faults.Wrong.TheVariants.{Byte, NoLineFeed}

-- a byte put in front of the first line stands in front of the whole
together_lengthened : (b : ℕ) (lines : List (List ℕ)) (tail : List ℕ) → together (lengthened b lines tail) ≡ b ∷ together (record { lines = lines; tail = tail })
together_lengthened b [] tail = refl
together_lengthened b (line ∷ lines) tail = refl

-- the lines of a text, put together, are the text
pub split_together : (text : List ℕ) → together (split text) ≡ text
split_together [] = refl
split_together (b ∷ text) =
    ⊎_elim
    (λ feed. ap together (cond-true (eqb b 10) _ _ feed) ∙ (λ i. sym (eqb-true b 10 feed) i ∷ split_together text i))
    (λ other. ap together (cond-false (eqb b 10) _ _ other) ∙ together_lengthened b (split text).lines (split text).tail ∙ ap (λ bs. b ∷ bs) (split_together text))
    (cases_Bool (eqb b 10))

-- the bytes before the first line feed
abbrev first : List (List ℕ) → List ℕ → List ℕ
first [] tail = tail
first (line ∷ lines) tail = line

-- how many printable bytes the first line begins with
abbrev first_printable : Split → ℕ
first_printable s = prefix_len printable (first s.lines s.tail)

-- a byte put in front of the first line is the first to be tested
first_lengthened : (b : ℕ) (lines : List (List ℕ)) (tail : List ℕ) → first_printable (lengthened b lines tail) ≡ prefix_len printable (b ∷ first lines tail)
first_lengthened b [] tail = refl
first_lengthened b (line ∷ lines) tail = refl

-- a line feed in front is not printable
feed_ends : (b : ℕ) (text : List ℕ) → eqb b 10 ≡ true → 0 ≡ prefix_len printable (b ∷ text)
feed_ends b text feed = sym (cond-false (printable b) (1 + prefix_len printable text) 0 (ap printable (eqb-true b 10 feed)))

-- the first line begins with as many printable bytes as the text
leading_first : (text : List ℕ) → first_printable (split text) ≡ prefix_len printable text
leading_first [] = refl
leading_first (b ∷ text) =
    ⊎_elim
    (λ feed. ap first_printable (cond-true (eqb b 10) _ _ feed) ∙ feed_ends b text feed)
    (λ other.
    ap first_printable (cond-false (eqb b 10) _ _ other)
    ∙ first_lengthened b (split text).lines (split text).tail
    ∙ ap (λ n. cond (printable b) (1 + n) 0) (leading_first text))
    (cases_Bool (eqb b 10))

-- a line and its line feed in front
abbrev with_line : List ℕ → Split → Split
with_line line s = record { lines = line ∷ s.lines; tail = s.tail }

-- a line feed behind printable bytes ends the first line
feed_splits : (n : ℕ) (text : List ℕ) → n ≤ prefix_len printable text → get_or text n 0 ≡ 10 → split text ≡ with_line (take n text) (split (drop (suc n) text))
feed_splits n [] before here = absurd (omega arith)
feed_splits zero (b ∷ text) before here = cond-true (eqb b 10) _ _ (eq-eqb b 10 here)
feed_splits (suc n) (b ∷ text) before here =
    let m = prefix_len printable text in
    ⊎_elim
    (λ feed. absurd (omega (arith, feed_ends b text feed)))
    (λ other.
    cond-false (eqb b 10) _ _ other
    ∙ ap (λ (s : Split). lengthened b s.lines s.tail)
    (feed_splits n text (cond_both (printable b) (1 + m) 0 (λ x. suc n ≤ x → n ≤ m) (λ e h. omega arith) (λ e h. omega arith) before) here))
    (cases_Bool (eqb b 10))

-- the three ways in which the bytes of a line are judged
module _ (line : List ℕ) where
  -- more than 255 printable bytes
  too_long : 255 < prefix_len printable line → byte_fault line ≡ Some (fault Byte 256)
  too_long long = cond-true _ _ _ (lt-ltb 255 (prefix_len printable line) long)

  -- a byte that may not stand in a line
  not_printable : prefix_len printable line ≤ 255 → prefix_len printable line < length line → byte_fault line ≡ Some (fault Byte (prefix_len printable line + 1))
  not_printable short before = cond-false _ _ _ (le-ltb 255 (prefix_len printable line) short) ∙ cond-true _ _ _ (lt-ltb _ (length line) before)

  -- neither
  sound : prefix_len printable line ≤ 255 → length line ≤ prefix_len printable line → byte_fault line ≡ None
  sound short all = cond-false _ _ _ (le-ltb 255 (prefix_len printable line) short) ∙ cond-false _ _ _ (le-ltb _ (length line) all)

-- what holds of each of the four answers, where cutting gives it, holds of what cutting answers
cut_cases :
    (P : Result (List ℕ × List ℕ) LineFault → Type 0) (n : ℕ) (text : List ℕ) →
    (255 < n → P (Err (fault Byte 256))) →
    (n ≤ 255 → length text ≤ n → P (Err (fault NoLineFeed 1))) →
    (n ≤ 255 → n < length text → get_or text n 0 ≡ 10 → P (Ok (take n text, drop (n + 1) text))) →
    (n ≤ 255 → n < length text → (get_or text n 0 ≡ 10 → ⊥) → P (Err (fault Byte (n + 1)))) →
    P (cut_behind n text)
cut_cases P n text long past feed other =
    cond_both (ltb 255 n) _ _ P
    (λ t. long (ltb-true 255 n t))
    (λ f. let short = ltb-false 255 n f in
    cond_both (leb (length text) n) _ _ P
    (λ t. past short (leb-true (length text) n t))
    (λ f. let inside = leb-false (length text) n f in
    cond_both (eqb (get_or text n 0) 10) _ _ P
    (λ t. feed short inside (eqb-true (get_or text n 0) 10 t))
    (λ f. other short inside (eqb-false (get_or text n 0) 10 f))))

-- an answer is not both a fault and a value
err≢ok : {A : Type 0} {e : LineFault} {x : A} → Err e ≡ Ok x → ⊥
err≢ok is = let z : ◌≡◌ {A = ℕ} 0 1 = cc in omega arith

-- equal answers have equal faults
same_err : {A : Type 0} {e f : LineFault} → ◌≡◌ {A = Result A LineFault} (Err e) (Err f) → e ≡ f
same_err is = cc

-- what holds where a line was cut off behind `n` printable bytes
record Cut (text line rest : List ℕ) (n : ℕ) : Type 0 where
  short : n ≤ 255
  inside : n < length text
  here : get_or text n 0 ≡ 10
  is : ◌≡◌ {A = List ℕ × List ℕ} (take n text, drop (n + 1) text) (line, rest)

-- a line that is cut off is printable, and a line feed follows it
cut_parts : (text line rest : List ℕ) → cut text ≡ Ok (line, rest) → Cut text line rest (prefix_len printable text)
cut_parts text line rest =
    let n = prefix_len printable text in
    cut_cases (λ r. r ≡ Ok (line, rest) → Cut text line rest n) n text
    (λ long is. absurd (err≢ok is))
    (λ short past is. absurd (err≢ok is))
    (λ short inside here is. record { short = short; inside = inside; here = here; is = cc })
    (λ short inside other is. absurd (err≢ok is))

-- a line that is cut off is the first of the lines cut all at once, and its bytes are not at fault
pub cut_line : (text line rest : List ℕ) → cut text ≡ Ok (line, rest) → (split text ≡ record { lines = line ∷ (split rest).lines; tail = (split rest).tail }) × (byte_fault line ≡ None)
cut_line text line rest is =
    let n = prefix_len printable text in
    let h = cut_parts text line rest is in
    let there : split text ≡ with_line line (split rest) =
    feed_splits n text (omega arith) h.here ∙ (λ i. with_line (h.is i).0 (split ((ap (λ k. drop k text) (sym (add-one n)) ∙ ap (λ p. p.1) h.is) i))) in
    let all : prefix_len printable line ≡ n = sym (ap first_printable there) ∙ leading_first text in
    let long : length line ≡ n = ap (λ p. length p.0) (sym h.is) ∙ length-take-le n text (omega arith) in
    (there, sound line (omega arith) (omega arith))

-- what is left behind a line that is cut off is shorter than the text
pub cut_shorter : (text line rest : List ℕ) → cut text ≡ Ok (line, rest) → length rest < length text
cut_shorter text line rest is =
    let h = cut_parts text line rest is in
    omega (arith, ap (λ p. length p.1) h.is, length-drop (prefix_len printable text + 1) text)

-- the first line is at fault, or where there is none, the tail
abbrev pub FirstFault : List (List ℕ) → List ℕ → LineFault → Type 0
FirstFault [] tail e = tail_fault tail ≡ e
FirstFault (line ∷ lines) tail e = byte_fault line ≡ Some e

-- a tail from which no line can be cut off
tail_cut : (tail : List ℕ) (e : LineFault) → cut tail ≡ Err e → tail_fault tail ≡ e
tail_cut tail e =
    let at : Option LineFault → LineFault = λ o. unwrap_or o (fault NoLineFeed 1) in
    cut_cases (λ r. r ≡ Err e → tail_fault tail ≡ e) (prefix_len printable tail) tail
    (λ long is. ap at (too_long tail long) ∙ same_err is)
    (λ short past is. ap at (sound tail short past) ∙ same_err is)
    (λ short inside here is. absurd (err≢ok (sym is)))
    (λ short inside other is. ap at (not_printable tail short inside) ∙ same_err is)

-- a line that cannot be cut off although a line feed follows it
line_cut : (line more : List ℕ) (e : LineFault) → cut_behind (prefix_len printable line) (line ++ 10 ∷ more) ≡ Err e → byte_fault line ≡ Some e
line_cut line more e =
    let n = prefix_len printable line in
    let most = prefix_len-le-length printable line in
    cut_cases (λ r. r ≡ Err e → byte_fault line ≡ Some e) n (line ++ 10 ∷ more)
    (λ long is. too_long line long ∙ ap Some (same_err is))
    (λ short past is. absurd (omega (arith, length-append line (10 ∷ more))))
    (λ short inside here is. absurd (err≢ok (sym is)))
    (λ short inside other is.
    let before : n < length line = ⊎_elim (λ lt. lt) (λ ge. absurd (other (get_or_at line 10 more 0 n (omega arith)))) (cases_lt n (length line)) in
    not_printable line short before ∙ ap Some (same_err is))

-- where no line can be cut off what was put together, its first line is at fault, or the tail where there is none
first_cut : (lines : List (List ℕ)) (tail : List ℕ) (e : LineFault) → cut_behind (prefix_len printable (first lines tail)) (together (record { lines = lines; tail = tail })) ≡ Err e → FirstFault lines tail e
first_cut [] tail e is = tail_cut tail e is
first_cut (line ∷ lines) tail e is =
    let more = flat_map (λ line. line ++ 10 ∷ []) lines in
    line_cut line (more ++ tail) e (ap (cut_behind (prefix_len printable line)) (sym (append_assoc (line ++ 10 ∷ []) more tail ∙ append_assoc line (10 ∷ []) (more ++ tail))) ∙ is)

-- where no line can be cut off, the fault is that of the first line, or of the tail where there is none
pub cut_fault : (text : List ℕ) (e : LineFault) → cut text ≡ Err e → FirstFault (split text).lines (split text).tail e
cut_fault text e is = first_cut (split text).lines (split text).tail e ((λ i. cut_behind (leading_first text i) (split_together text i)) ∙ is)

-- A walk that cuts off one line after another is the walk over all the lines.
module _ {S : Type 0} (step : S → List ℕ → Result S LineFault) (ended : S → Bool) where
  -- a walk that ended at a fault of line `number`
  abbrev stopped : S → ℕ → LineFault → Outcome S
  stopped state number e = record { state = state; fault = Some (record { line = number; fault = e }) }

  -- the walk at a line that is cut off is up to what is made of the line
  walk_line : (state : S) (number : ℕ) (text line rest : List ℕ) (made : Result S LineFault) → cut text ≡ Ok (line, rest) → step state line ≡ made → settled made state number (λ next. walk_through step ended next (number + 1) (split rest)) ≡ walk_through step ended state number (split text)
  walk_line state number text line rest made is says =
      let parts = cut_line text line rest is in
      sym (ap (walk_through step ended state number) parts.0 ∙ (λ i. settled (unless (parts.1 i) (says i)) state number (λ next. walk_through step ended next (number + 1) (split rest))))

  -- a line of which something is made leaves the walk to the lines behind it
  pub walk_more : (state made : S) (number : ℕ) (text line rest : List ℕ) → cut text ≡ Ok (line, rest) → step state line ≡ Ok made → walk_through step ended made (number + 1) (split rest) ≡ walk_through step ended state number (split text)
  walk_more state made number text line rest is says = walk_line state number text line rest (Ok made) is says

  -- a line that is refused ends the walk
  pub walk_refused : (state : S) (number : ℕ) (text line rest : List ℕ) (e : LineFault) → cut text ≡ Ok (line, rest) → step state line ≡ Err e → record { state = state; fault = Some (record { line = number; fault = e }) } ≡ walk_through step ended state number (split text)
  walk_refused state number text line rest e is says = walk_line state number text line rest (Err e) is says

  -- a walk ends at once where the first line, or without one the tail, is at fault
  walk_faulty : (state : S) (number : ℕ) (lines : List (List ℕ)) (tail : List ℕ) (e : LineFault) → FirstFault lines tail e → (ended state && eqb (length (together (record { lines = lines; tail = tail }))) 0) ≡ false → stopped state number e ≡ walk step ended state number lines tail
  walk_faulty state number [] tail e is open-still = ap (stopped state number) (sym is) ∙ sym (cond-false _ _ _ open-still)
  walk_faulty state number (line ∷ lines) tail e is open-still =
      ap (λ o. settled (unless o (step state line)) state number (λ made. walk step ended made (number + 1) lines tail)) (sym is)

  -- where no line can be cut off, the walk ends, unless the file has ended
  pub walk_uncut : (state : S) (number : ℕ) (text : List ℕ) (e : LineFault) → cut text ≡ Err e → (ended state && eqb (length text) 0) ≡ false → record { state = state; fault = Some (record { line = number; fault = e }) } ≡ walk_through step ended state number (split text)
  walk_uncut state number text e is open-still =
      walk_faulty state number (split text).lines (split text).tail e (cut_fault text e is)
      (ap (λ bytes. ended state && eqb (length bytes) 0) (split_together text) ∙ open-still)

  -- where the file has ended and nothing follows, the walk ends without a fault
  pub walk_done : (state : S) (number : ℕ) (text : List ℕ) → (ended state && eqb (length text) 0) ≡ true → record { state = state; fault = None } ≡ walk_through step ended state number (split text)
  walk_done state number [] done = sym (cond-true _ _ _ done)
  walk_done state number (b ∷ text) done = absurd (omega (arith, eqb-true (suc (length text)) 0 (and_parts (ended state) _ done).1))

-- a line whose bytes are not at fault has at most 255
pub fine_short : (line : List ℕ) → byte_fault line ≡ None → length line ≤ 255
fine_short line fine =
    ⊎_elim
    (λ long. absurd (let z : ◌≡◌ {A = ℕ} 0 1 = cc (sym (cond-true (ltb 255 (prefix_len printable line)) (Some (fault Byte 256)) _ (lt-ltb 255 (prefix_len printable line) long)) ∙ fine) in omega arith))
    (λ short.
    ⊎_elim
    (λ bad.
    absurd (let z : ◌≡◌ {A = ℕ} 0 1 = cc
    (sym (cond-false (ltb 255 (prefix_len printable line)) _ _ (le-ltb 255 (prefix_len printable line) short)
    ∙ cond-true (ltb (prefix_len printable line) (length line)) (Some (fault Byte (prefix_len printable line + 1))) None (lt-ltb (prefix_len printable line) (length line) bad)) ∙ fine) in omega arith))
    (λ all. omega arith)
    (cases_lt (prefix_len printable line) (length line)))
    (cases_lt 255 (prefix_len printable line))
