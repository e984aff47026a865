-- Reading a whole file: its length, then line by line to its end or to its first fault.
use Rattle.std.specs.Prelude.{◌≡◌, ℕ, Bool, cond, List, length, Some, None, Ok, Err, Option, Result, IfErr, IfSome, nat_lt}
use Rattle.text.specs.Lines.{split}
use Rattle.reading.specs.Walk.{Outcome, walk_through}
use Rattle.text.specs.declared.faults.FileFault.{FileFault}
use Rattle.text.specs.declared.faults.FileFault.TheVariants.{TooLong, Line}
use Rattle.text.specs.declared.faults.LineFault.{LineFault}
use Rattle.text.specs.declared.faults.Placed.{Placed}

-- What going through the lines came to: what was made of all of them, or the fault of the first that is at fault.
abbrev pub told : {S : Type 0} → S → Option Placed → Result S FileFault
told made None = Ok made
told made (Some placed) = Err (Line placed)

abbrev pub whole : {S : Type 0} → Outcome S → Result S FileFault
whole o = told o.state o.fault

-- A file that is read: `step` says what is made of the line of a number, `ended` whether the line that ends the file was read. A file of
-- more than 65,536 bytes is refused whole.
abbrev pub read_through : {S : Type 0} → (S → ℕ → List ℕ → Result S LineFault) → (S → Bool) → S → List ℕ → Result S FileFault
read_through step ended begun text = cond (nat_lt 65536 (length text)) (Err TooLong) (whole (walk_through step ended begun 1 (split text)))

-- What was made of the lines of a file up to its end or its first fault.
abbrev pub left_by : {S : Type 0} → (S → ℕ → List ℕ → Result S LineFault) → (S → Bool) → S → List ℕ → S
left_by step ended begun text = cond (nat_lt 65536 (length text)) begun ((walk_through step ended begun 1 (split text)).state)

-- What is made of the line of a number, with that number at its fault.
abbrev pub in_line : {S : Type 0} → ℕ → Result S LineFault → Result S FileFault
in_line number (Ok made) = Ok made
in_line number (Err fault) = Err (Line (record { line = number; fault = fault }))

-- What a call of a reader came to: the state as it left it, or the fault of the file, where `file_fault` tells one. Of
-- what else kept it from reading, such as want of memory, nothing is said: the state is let go.
abbrev pub Went : {S E : Type 0} → (E → Option FileFault) → Result (Unit {0}) E → S → Result S FileFault → Type 0
Went file_fault (Ok u) after said = said ≡ Ok after
Went file_fault (Err e) after said = IfSome (file_fault e) (λ fault. said ≡ Err fault)

-- At a fault of the file the state is `left`.
abbrev pub Left : {S E : Type 0} → (E → Option FileFault) → Result (Unit {0}) E → S → S → Type 0
Left file_fault answer after left = IfErr answer (λ e. IfSome (file_fault e) (λ _. after ≡ left))
