-- What a `term` line and the kind of a `cause` line say, by names and numbers alone.
use Rattle.std.specs.Prelude.{ℕ, List}
use Rattle.line.specs.Forms.{FormV, KindV}
use Rattle.line.specs.Forms as line

-- The ten forms of a term.
pub data FormSaid : Type 0 where
  Var : List ℕ → FormSaid
  Val : List ℕ → List ℕ → FormSaid
  True : FormSaid
  False : FormSaid
  Eq : ℕ → ℕ → FormSaid
  Not : ℕ → FormSaid
  And : ℕ → ℕ → FormSaid
  Or : ℕ → ℕ → FormSaid
  Imp : ℕ → ℕ → FormSaid
  Ite : ℕ → ℕ → ℕ → FormSaid

-- The three kinds of a cause; the third names its partner.
pub data KindSaid : Type 0 where
  Guard : KindSaid
  Unchanged : KindSaid
  Partner : List ℕ → KindSaid

-- What a form and a kind that were read say: the columns are left out.
abbrev pub form_said : FormV → FormSaid
form_said (line.Var name) = Var name.bytes
form_said (line.Val of value) = Val of.bytes value.bytes
form_said line.True = True
form_said line.False = False
form_said (line.Eq left right) = Eq left.value right.value
form_said (line.Not of) = Not of.value
form_said (line.And left right) = And left.value right.value
form_said (line.Or left right) = Or left.value right.value
form_said (line.Imp left right) = Imp left.value right.value
form_said (line.Ite test then other) = Ite test.value then.value other.value

abbrev pub kind_said : KindV → KindSaid
kind_said line.Guard = Guard
kind_said line.Unchanged = Unchanged
kind_said (line.Partner name) = Partner name.bytes
