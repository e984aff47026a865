-- What an answer comes to beside what a definition says, of a call that can be refused or can run out of memory.
use Rattle.std.specs.Prelude.{◌≡◌, Ok, Err, Result}
use Rattle.failures.specs.declared.Failure.{Failure}
use Rattle.failures.specs.declared.Failure.TheVariants.{Refused, Memory}

-- The answer stands for what the definition says, or is its refusal. For want of memory nothing is said.
abbrev pub Answered : {A V E : Type 0} → (A → V) → Result A (Failure E) → Result V E → Type 0
Answered seen (Ok a) said = said ≡ Ok (seen a)
Answered seen (Err (Refused why)) said = said ≡ Err why
Answered seen (Err Memory) said = Unit {0}

-- The call left the state that the definition says, or its answer is the refusal. For want of memory nothing is said of
-- the state: it is let go.
abbrev pub Came : {V E : Type 0} → Result (Unit {0}) (Failure E) → V → Result V E → Type 0
Came (Ok u) after said = said ≡ Ok after
Came (Err (Refused why)) after said = said ≡ Err why
Came (Err Memory) after said = Unit {0}

-- The place holds what the definition says; or the answer is the refusal, or want of memory, and the place holds `empty`.
abbrev pub Told : {V E : Type 0} → V → Result (Unit {0}) (Failure E) → V → Result V E → Type 0
Told empty (Ok u) left said = said ≡ Ok left
Told empty (Err (Refused why)) left said = (said ≡ Err why) × (left ≡ empty)
Told empty (Err Memory) left said = left ≡ empty
