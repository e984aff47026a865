-- What a line says, by names and numbers alone: the same wherever its words stand.
use Rattle.std.specs.Prelude.{ℕ, List, map}
use Rattle.keys.specs.declared.Key.{Key}
use Rattle.keys.specs.declared.Key.TheVariants as key
use Rattle.line.specs.Lines.{LineV}
use Rattle.line.specs.Lines as line
use Rattle.words.specs.Repeats.{start}
use Rattle.words.specs.Words.{WordV, words_left}
use Rattle.writing.specs.Forms.{FormSaid, KindSaid, form_said, kind_said}

-- One for each kind of line. A type has a list of values.
pub data Said : Type 0 where
  Protocol : List ℕ → Said
  «Type» : List ℕ → List (List ℕ) → Said
  Var : List ℕ → List ℕ → Said
  Term : FormSaid → Said
  Init : ℕ → Said
  Rule : List ℕ → ℕ → Said
  Set : List ℕ → ℕ → Said
  End : Said
  Proposal : List ℕ → Said
  Inv : List ℕ → ℕ → Said
  Cause : List ℕ → List ℕ → KindSaid → Said

-- The key of the line that says it.
abbrev pub key_said : Said → Key
key_said (Protocol name) = key.Protocol
key_said («Type» name values) = key.«Type»
key_said (Var name of) = key.Var
key_said (Term form) = key.Term
key_said (Init formula) = key.Init
key_said (Rule name guard) = key.Rule
key_said (Set variable term) = key.Set
key_said End = key.End
key_said (Proposal name) = key.Proposal
key_said (Inv name formula) = key.Inv
key_said (Cause rule invariant kind) = key.Cause

-- The bytes of words.
abbrev pub texts : List WordV → List (List ℕ)
texts ws = map (λ w. w.bytes) ws

-- What a line that was read says: the columns are left out, and a type's values stand one by one.
abbrev pub said : LineV → Said
said (line.Protocol name) = Protocol name.bytes
said (line.«Type» name values) = «Type» name.bytes (texts (words_left (start values.bytes)))
said (line.Var name of) = Var name.bytes of.bytes
said (line.Term form) = Term (form_said form)
said (line.Init formula) = Init formula.value
said (line.Rule name guard) = Rule name.bytes guard.value
said (line.Set variable term) = Set variable.bytes term.value
said line.End = End
said (line.Proposal name) = Proposal name.bytes
said (line.Inv name formula) = Inv name.bytes formula.value
said (line.Cause rule invariant kind) = Cause rule.bytes invariant.bytes (kind_said kind)
