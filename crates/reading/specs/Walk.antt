-- Going through a file line by line, each with its number, to its end or to its first fault.
use Rattle.std.specs.Prelude.{ℕ, ◌+◌, Bool, cond, ◌&&◌, List, [], ◌∷◌, length, Some, None, Result, ◌==◌}
pub use Rattle.text.specs.Walk.{Outcome, unless, settled}
use Rattle.text.specs.Lines.{Split, byte_fault, tail_fault}
use Rattle.text.specs.declared.faults.LineFault.{LineFault}

-- `step` says what is made of the line of a number, and `ended` whether the line that ends the file was read: then nothing
-- may follow.
module _ {S : Type 0} (step : S → ℕ → List ℕ → Result S LineFault) (ended : S → Bool) where
  abbrev pub walk : S → ℕ → List (List ℕ) → List ℕ → Outcome S
  walk state number [] tail =
      cond (ended state && length tail == 0) (record { state = state; fault = None })
      (record { state = state; fault = Some (record { line = number; fault = tail_fault tail }) })
  walk state number (line ∷ lines) tail =
      settled (unless (byte_fault line) (step state number line)) state number (λ made. walk made (number + 1) lines tail)

  -- The same of a text that was cut at all its line feeds; `number` is the number of its first line.
  abbrev pub walk_through : S → ℕ → Split → Outcome S
  walk_through state number s = walk state number s.lines s.tail
