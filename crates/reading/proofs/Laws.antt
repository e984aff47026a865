-- What holds before the first line and is kept by every line holds of what a file that is read to its end leaves; and a
-- file whose lines lead from state to state is read to its end.
use Rattle.std.proofs.Common.{◌≡◌, ℕ, ◌+◌, ◌≤◌, Bool, true, false, cond, ◌&&◌, eqb, ltb, List, [], ◌∷◌, ◌++◌, length, Some, None, Ok, Err, Option, Result, sym, refl, ap, ◌∙◌, subst, arith}
use Rattle.std.proofs.lemmas.List.{append-nil, append_assoc, nil_from_length}
use Rattle.std.proofs.lemmas.Bool.{and_parts, eqb-true, le-ltb, cond-true, cond-false}
use Rattle.std.specs.List.{flat_map, AllByRecursion}
use Rattle.text.proofs.Cuts.{split_together}
use Rattle.text.specs.Lines.{split, byte_fault, tail_fault}
use Rattle.reading.specs.Walk.{Outcome, unless, settled, walk, walk_through}
use Rattle.text.specs.declared.faults.FileFault.{FileFault}
use Rattle.text.specs.declared.faults.FileFault.TheVariants.{TooLong}
use Rattle.text.specs.declared.faults.LineFault.{LineFault}
use Rattle.text.specs.declared.faults.Placed.{Placed}
use Rattle.reading.specs.Files.{told, whole, read_through}

some≢none : {A : Type 0} {x : A} → Some x ≡ None → ⊥
some≢none e = let z : ◌≡◌ {A = ℕ} 0 1 = cc in omega arith

-- what was told without a fault
told_ok : {S : Type 0} (made after : S) (fault : Option Placed) → told made fault ≡ Ok after → (fault ≡ None) × (made ≡ after)
told_ok made after None is = let same : made ≡ after = cc in (refl, same)
told_ok made after (Some placed) is = absurd (let z : ◌≡◌ {A = ℕ} 0 1 = cc in omega arith)

-- a file that is read is not too long
not_long : {S : Type 0} (b : Bool) (r : Result S FileFault) (after : S) → cond b (Err TooLong) r ≡ Ok after → r ≡ Ok after
not_long true r after is = absurd (let z : ◌≡◌ {A = ℕ} 0 1 = cc in omega arith)
not_long false r after is = is

-- a text of lines behind which nothing stands is those lines, each with its line feed
abbrev pub closed : List (List ℕ) → List ℕ
closed lines = flat_map (λ line. line ++ 10 ∷ []) lines

closed_text : (text : List ℕ) → length (split text).tail ≡ 0 → closed (split text).lines ≡ text
closed_text text none =
    let lines = (split text).lines in
    sym (append-nil (closed lines)) ∙ ap (λ tail. closed lines ++ tail) (sym (nil_from_length (split text).tail none)) ∙ split_together text

-- `Kept` speaks of what was made so far, of the number of the next line and of the lines that were read.
module _ {S : Type 0} (step : S → ℕ → List ℕ → Result S LineFault) (ended : S → Bool) (Kept : S → ℕ → List (List ℕ) → Type 0) (keeps : (before after : S) (number : ℕ) (lines : List (List ℕ)) (line : List ℕ) → Kept before number lines → step before number line ≡ Ok after → Kept after (number + 1) (lines ++ line ∷ [])) where
  -- what is left at the end of these lines and this tail
  abbrev Left : List (List ℕ) → List ℕ → S → Type 0
  Left lines tail after = (number : ℕ) × Kept after number lines × (ended after ≡ true) × (length tail ≡ 0)

  -- one line more stands at the end of those that were read
  moved : (before lines : List (List ℕ)) (line tail : List ℕ) (after : S) → Left ((before ++ line ∷ []) ++ lines) tail after → Left (before ++ line ∷ lines) tail after
  moved before lines line tail after = subst (λ all. Left all tail after) (append_assoc before (line ∷ []) lines)

  one_more : (before lines : List (List ℕ)) (line tail : List ℕ) (state : S) (number : ℕ) → Kept state number before
      → ((made : S) → Kept made (number + 1) (before ++ line ∷ []) → (walk step ended made (number + 1) lines tail).fault ≡ None → Left ((before ++ line ∷ []) ++ lines) tail (walk step ended made (number + 1) lines tail).state)
      → (bad : Option LineFault) (r : Result S LineFault) → step state number line ≡ r
      → (settled (unless bad r) state number (λ made. walk step ended made (number + 1) lines tail)).fault ≡ None
      → Left (before ++ line ∷ lines) tail (settled (unless bad r) state number (λ made. walk step ended made (number + 1) lines tail)).state
  one_more before lines line tail state number kept others (Some e) r is none = absurd (some≢none none)
  one_more before lines line tail state number kept others None (Err e) is none = absurd (some≢none none)
  one_more before lines line tail state number kept others None (Ok made) is none =
      moved before lines line tail (walk step ended made (number + 1) lines tail).state (others made (keeps state made number before line kept is) none)

  abbrev stopped : Bool → S → Placed → Outcome S
  stopped done state placed = cond done (record { state = state; fault = None }) (record { state = state; fault = Some placed })

  at_end : (done : Bool) (lines : List (List ℕ)) (tail : List ℕ) (state : S) (number : ℕ) (placed : Placed) → Kept state number lines → (done ≡ true → (ended state ≡ true) × (length tail ≡ 0)) → (stopped done state placed).fault ≡ None → Left lines tail (stopped done state placed).state
  at_end true lines tail state number placed kept done none = (number, kept, (done refl).0, (done refl).1)
  at_end false lines tail state number placed kept done none = absurd (some≢none none)

  to_the_end : (before lines : List (List ℕ)) (tail : List ℕ) (state : S) (number : ℕ) → Kept state number before → (walk step ended state number lines tail).fault ≡ None → Left (before ++ lines) tail (walk step ended state number lines tail).state
  to_the_end before [] tail state number kept none =
      at_end (ended state && eqb (length tail) 0) (before ++ []) tail state number (record { line = number; fault = tail_fault tail })
      (subst (Kept state number) (sym (append-nil before)) kept)
      (λ both. let parts = and_parts (ended state) (eqb (length tail) 0) both in (parts.0, eqb-true (length tail) 0 parts.1)) none
  to_the_end before (line ∷ lines) tail state number kept none =
      one_more before lines line tail state number kept (λ made. to_the_end (before ++ line ∷ []) lines tail made (number + 1)) (byte_fault line) (step state number line) refl none

  -- What is left of a text that was read to its end: it is made of the lines that were read.
  pub lines_read : (begun after : S) (text : List ℕ) → Kept begun 1 [] → read_through step ended begun text ≡ Ok after
      → (number : ℕ) × Kept after number (split text).lines × (ended after ≡ true) × (closed (split text).lines ≡ text)
  lines_read begun after text kept is =
      let o = walk step ended begun 1 (split text).lines (split text).tail in
      let out = told_ok o.state after o.fault (not_long (ltb 65536 (length text)) _ after is) in
      let left = subst (Left (split text).lines (split text).tail) out.1 (to_the_end [] (split text).lines (split text).tail begun 1 kept out.0) in
      (left.0, left.1, left.2, closed_text text left.3)

-- The same of what speaks of no lines.
module _ {S : Type 0} (step : S → ℕ → List ℕ → Result S LineFault) (ended : S → Bool) (Kept : S → ℕ → Type 0) (keeps : (before after : S) (number : ℕ) (line : List ℕ) → Kept before number → step before number line ≡ Ok after → Kept after (number + 1)) where
  pub kept_read : (begun after : S) (text : List ℕ) → Kept begun 1 → read_through step ended begun text ≡ Ok after → (number : ℕ) × Kept after number × (ended after ≡ true)
  kept_read begun after text kept is =
      let left = lines_read step ended (λ state number lines. Kept state number) (λ before after number lines line. keeps before after number line) begun after text kept is in
      (left.0, left.1, left.2)

-- The other way: lines that lead from state to state.
module _ {S : Type 0} (step : S → ℕ → List ℕ → Result S LineFault) where
  -- Each line in its turn, the first of them with this number, is taken, and the last leaves `final`.
  abbrev pub Leads : S → ℕ → List (List ℕ) → S → Type 0
  Leads state number [] final = state ≡ final
  Leads state number (line ∷ lines) final = (made : S) × (step state number line ≡ Ok made) × Leads made (number + 1) lines final

  -- Lines that lead on behind others.
  pub leads_on : (begun state final : S) (number : ℕ) (lines more : List (List ℕ)) → Leads begun number lines state → Leads state (number + length lines) more final → Leads begun number (lines ++ more) final
  leads_on begun state final number [] more here on =
      subst (λ s. Leads s number more final) (sym here) (subst (λ n. Leads state n more final) (omega arith) on)
  leads_on begun state final number (line ∷ lines) more here on =
      (here.0, here.1, leads_on here.0 state final (number + 1) lines more here.2 (subst (λ n. Leads state n more final) (omega arith) on))

  module _ (ended : S → Bool) where
    walk_leads : (state final : S) (number : ℕ) (lines : List (List ℕ)) → AllByRecursion (λ line. byte_fault line ≡ None) lines → Leads state number lines final → ended final ≡ true → walk step ended state number lines [] ≡ record { state = final; fault = None }
    walk_leads state final number [] fine here done =
        cond-true (ended state && true) (record { state = state; fault = None }) _ (ap (λ s. ended s && true) here ∙ ap (λ b. b && true) done)
        ∙ ap (λ s. record { state = s; fault = None }) here
    walk_leads state final number (line ∷ lines) fine here done =
        (λ i. settled (unless (fine.0 i) (here.1 i)) state number (λ made. walk step ended made (number + 1) lines []))
        ∙ walk_leads here.0 final (number + 1) lines fine.1 here.2 done

    -- A text that comes apart into such lines is read to its end.
    pub leads_read : (begun final : S) (text : List ℕ) (lines : List (List ℕ)) → split text ≡ record { lines = lines; tail = [] } → AllByRecursion (λ line. byte_fault line ≡ None) lines → length text ≤ 65536 → Leads begun 1 lines final → ended final ≡ true
        → read_through step ended begun text ≡ Ok final
    leads_read begun final text lines apart fine short here done =
        cond-false (ltb 65536 (length text)) _ _ (le-ltb 65536 (length text) short)
        ∙ ap (λ s. whole (walk_through step ended begun 1 s)) apart
        ∙ ap whole (walk_leads begun final 1 lines fine here done)
