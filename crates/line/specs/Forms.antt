-- What a `term` line and the kind of a `cause` line say.
use Rattle.std.specs.Prelude.{ℕ}
use Rattle.words.specs.Words.{WordV, word_seen}
use Rattle.words.specs.declared.Number.{Number}
use Rattle.line.specs.declared.lines.Form.{Form}
use Rattle.line.specs.declared.lines.Form.TheVariants as code
use Rattle.line.specs.declared.lines.Kind.{Kind}
use Rattle.line.specs.declared.lines.Kind.TheVariants as kind

-- The ten forms of a term. Numbers stand for earlier terms.
pub data FormV : Type 0 where
  Var : WordV → FormV
  Val : WordV → WordV → FormV
  True : FormV
  False : FormV
  Eq : Number → Number → FormV
  Not : Number → FormV
  And : Number → Number → FormV
  Or : Number → Number → FormV
  Imp : Number → Number → FormV
  Ite : Number → Number → Number → FormV

-- Why a rule keeps an invariant: the guard alone ensures it (1); the assignments, put into its formula, leave that
-- formula as it is (2); the guard and a partner together ensure it (3).
pub data KindV : Type 0 where
  Guard : KindV
  Unchanged : KindV
  Partner : WordV → KindV

-- The number of each kind, as it is written.
abbrev pub kind_number : KindV → ℕ
kind_number Guard = 1
kind_number Unchanged = 2
kind_number (Partner name) = 3

-- What the program's values stand for.
abbrev pub form_seen : Form → FormV
form_seen (code.Var name) = Var (word_seen name)
form_seen (code.Val of value) = Val (word_seen of) (word_seen value)
form_seen code.True = True
form_seen code.False = False
form_seen (code.Eq left right) = Eq left right
form_seen (code.Not of) = Not of
form_seen (code.And left right) = And left right
form_seen (code.Or left right) = Or left right
form_seen (code.Imp left right) = Imp left right
form_seen (code.Ite test then other) = Ite test then other

abbrev pub kind_seen : Kind → KindV
kind_seen kind.Guard = Guard
kind_seen kind.Unchanged = Unchanged
kind_seen (kind.Partner name) = Partner (word_seen name)
