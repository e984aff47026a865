-- Going through a file line by line, to its end or to its first fault, whatever is made of the lines.
use Rattle.std.specs.Prelude.{ℕ, ◌+◌, Bool, cond, ◌&&◌, List, [], ◌∷◌, length, Some, None, Ok, Err, Option, Result, ◌==◌}
use Rattle.text.specs.Lines.{Split, byte_fault, tail_fault}
use Rattle.text.specs.declared.faults.LineFault.{LineFault}
use Rattle.text.specs.declared.faults.Placed.{Placed}

-- What was made of a file's lines up to its end or its first fault, and that fault with the number of its line.
pub record Outcome (S : Type 0) : Type 0 where
  pub state : S
  pub fault : Option Placed

-- A line whose bytes are at fault is refused before anything is made of it.
abbrev pub unless : {S : Type 0} → Option LineFault → Result S LineFault → Result S LineFault
unless (Some wrong) made = Err wrong
unless None made = made

-- After a line: go on with what was made of it, or stop at its fault with what was made before.
abbrev pub settled : {S : Type 0} → Result S LineFault → S → ℕ → (S → Outcome S) → Outcome S
settled (Ok made) before number go_on = go_on made
settled (Err wrong) before number go_on = record { state = before; fault = Some (record { line = number; fault = wrong }) }

-- `step` says what is made of a line, and `ended` whether the line that ends the file was read: then nothing may follow.
module _ {S : Type 0} (step : S → List ℕ → Result S LineFault) (ended : S → Bool) where
  abbrev pub walk : S → ℕ → List (List ℕ) → List ℕ → Outcome S
  walk state number [] tail =
      cond (ended state && length tail == 0) (record { state = state; fault = None })
      (record { state = state; fault = Some (record { line = number; fault = tail_fault tail }) })
  walk state number (line ∷ lines) tail =
      settled (unless (byte_fault line) (step state line)) state number (λ made. walk made (number + 1) lines tail)

  -- The same of a text that was cut at all its line feeds; `number` is the number of its first line.
  abbrev pub walk_through : S → ℕ → Split → Outcome S
  walk_through state number s = walk state number s.lines s.tail
