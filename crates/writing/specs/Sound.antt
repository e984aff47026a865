-- What a line may say.
use Rattle.std.specs.Prelude.{◌≡◌, ℕ, ◌<◌, ◌≤◌, true, List, length}
use Rattle.std.specs.List.{AllByRecursion}
use Rattle.words.specs.Words.{is_name}
use Rattle.line.specs.Lines.{belongs}
use Rattle.line.specs.declared.lines.File.{File}
use Rattle.writing.specs.Forms as form
use Rattle.writing.specs.Forms.{FormSaid, KindSaid}
use Rattle.writing.specs.Said.{Said, key_said}
use Rattle.writing.specs.Said as line

-- A name, and a number that is short enough.
abbrev pub Named : List ℕ → Type 0
Named name = is_name name ≡ true

abbrev pub Short : ℕ → Type 0
Short n = n < 1000

-- Names are names, and numbers are short.
abbrev pub FormSound : FormSaid → Type 0
FormSound (form.Var name) = Named name
FormSound (form.Val of value) = Named of × Named value
FormSound form.True = Unit {0}
FormSound form.False = Unit {0}
FormSound (form.Eq left right) = Short left × Short right
FormSound (form.Not of) = Short of
FormSound (form.And left right) = Short left × Short right
FormSound (form.Or left right) = Short left × Short right
FormSound (form.Imp left right) = Short left × Short right
FormSound (form.Ite test then other) = Short test × Short then × Short other

abbrev pub KindSound : KindSaid → Type 0
KindSound form.Guard = Unit {0}
KindSound form.Unchanged = Unit {0}
KindSound (form.Partner name) = Named name

-- A type has two values or more.
abbrev pub PartsSound : Said → Type 0
PartsSound (line.Protocol name) = Named name
PartsSound (line.«Type» name values) = Named name × (2 ≤ length values) × AllByRecursion Named values
PartsSound (line.Var name of) = Named name × Named of
PartsSound (line.Term form) = FormSound form
PartsSound (line.Init formula) = Short formula
PartsSound (line.Rule name guard) = Named name × Short guard
PartsSound (line.Set variable term) = Named variable × Short term
PartsSound line.End = Unit {0}
PartsSound (line.Proposal name) = Named name
PartsSound (line.Inv name formula) = Named name × Short formula
PartsSound (line.Cause rule invariant kind) = Named rule × Named invariant × KindSound kind

-- A line that may stand in this file.
pub record Sound (file : File) (s : Said) : Type 0 where
  pub belonging : belongs file (key_said s) ≡ true
  pub parts : PartsSound s
