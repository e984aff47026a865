-- A walk that cuts off one line after another is the walk over all the lines.
use Rattle.std.proofs.Common.{◌≡◌, ℕ, suc, ◌+◌, Bool, true, false, ◌&&◌, eqb, List, [], ◌∷◌, length, Some, None, Ok, Err, Result, sym, ap, ◌∙◌, arith}
use Rattle.std.proofs.lemmas.Bool.{eqb-true, and_parts, cond-true, cond-false}
use Rattle.text.proofs.Cuts.{cut_line, cut_fault, split_together, FirstFault}
use Rattle.text.specs.Lines.{cut, split, together}
use Rattle.text.specs.declared.faults.LineFault.{LineFault}
use Rattle.reading.specs.Walk.{Outcome, unless, settled, walk, walk_through}

-- A walk that cuts off one line after another is the walk over all the lines.
module _ {S : Type 0} (step : S → ℕ → List ℕ → Result S LineFault) (ended : S → Bool) where
  -- a walk that ended at a fault of line `number`
  abbrev stopped : S → ℕ → LineFault → Outcome S
  stopped state number e = record { state = state; fault = Some (record { line = number; fault = e }) }

  -- the walk at a line that is cut off is up to what is made of the line
  walk_line : (state : S) (number : ℕ) (text line rest : List ℕ) (made : Result S LineFault) → cut text ≡ Ok (line, rest) → step state number line ≡ made → settled made state number (λ next. walk_through step ended next (number + 1) (split rest)) ≡ walk_through step ended state number (split text)
  walk_line state number text line rest made is says =
      let parts = cut_line text line rest is in
      sym (ap (walk_through step ended state number) parts.0 ∙ (λ i. settled (unless (parts.1 i) (says i)) state number (λ next. walk_through step ended next (number + 1) (split rest))))

  -- a line of which something is made leaves the walk to the lines behind it
  pub walk_more : (state made : S) (number : ℕ) (text line rest : List ℕ) → cut text ≡ Ok (line, rest) → step state number line ≡ Ok made → walk_through step ended made (number + 1) (split rest) ≡ walk_through step ended state number (split text)
  walk_more state made number text line rest is says = walk_line state number text line rest (Ok made) is says

  -- a line that is refused ends the walk
  pub walk_refused : (state : S) (number : ℕ) (text line rest : List ℕ) (e : LineFault) → cut text ≡ Ok (line, rest) → step state number line ≡ Err e → record { state = state; fault = Some (record { line = number; fault = e }) } ≡ walk_through step ended state number (split text)
  walk_refused state number text line rest e is says = walk_line state number text line rest (Err e) is says

  -- a walk ends at once where the first line, or without one the tail, is at fault
  walk_faulty : (state : S) (number : ℕ) (lines : List (List ℕ)) (tail : List ℕ) (e : LineFault) → FirstFault lines tail e → (ended state && eqb (length (together (record { lines = lines; tail = tail }))) 0) ≡ false → stopped state number e ≡ walk step ended state number lines tail
  walk_faulty state number [] tail e is open-still = ap (stopped state number) (sym is) ∙ sym (cond-false _ _ _ open-still)
  walk_faulty state number (line ∷ lines) tail e is open-still =
      ap (λ o. settled (unless o (step state number line)) state number (λ made. walk step ended made (number + 1) lines tail)) (sym is)

  -- where no line can be cut off, the walk ends, unless the file has ended
  pub walk_uncut : (state : S) (number : ℕ) (text : List ℕ) (e : LineFault) → cut text ≡ Err e → (ended state && eqb (length text) 0) ≡ false → record { state = state; fault = Some (record { line = number; fault = e }) } ≡ walk_through step ended state number (split text)
  walk_uncut state number text e is open-still =
      walk_faulty state number (split text).lines (split text).tail e (cut_fault text e is)
      (ap (λ bytes. ended state && eqb (length bytes) 0) (split_together text) ∙ open-still)

  -- where the file has ended and nothing follows, the walk ends without a fault
  pub walk_done : (state : S) (number : ℕ) (text : List ℕ) → (ended state && eqb (length text) 0) ≡ true → record { state = state; fault = None } ≡ walk_through step ended state number (split text)
  walk_done state number [] done = sym (cond-true _ _ _ done)
  walk_done state number (b ∷ text) done = absurd (omega (arith, eqb-true (suc (length text)) 0 (and_parts (ended state) _ done).1))
