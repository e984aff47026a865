-- The kinds of lines, each with its words, and the files that they stand in.
use Rattle.std.specs.Prelude.{ℕ, Bool, true, false, List, codes}
use Rattle.words.specs.Words.{WordV, word_seen}
use Rattle.keys.specs.declared.Key.{Key}
use Rattle.keys.specs.declared.Key.TheVariants as key
use Rattle.words.specs.declared.Number.{Number}
use Rattle.line.specs.Forms.{FormV, KindV, form_seen, kind_seen}
use Rattle.line.specs.declared.lines.File.{File}
use Rattle.line.specs.declared.lines.File.TheVariants as file
use Rattle.line.specs.declared.lines.Line.{Line}
use Rattle.line.specs.declared.lines.Line.TheVariants as code

-- A line by its key: `protocol=NAME`, `type=NAME VALUE VALUE ..` (the values as one word with spaces in it),
-- `var=NAME TYPE`, `term=..`, `init=N`, `rule=NAME N`, `set=VAR N`, `end=..`, `proposal=NAME`, `inv=NAME N`,
-- `cause=RULE INV ..`.
pub data LineV : Type 0 where
  Protocol : WordV → LineV
  «Type» : WordV → WordV → LineV
  Var : WordV → WordV → LineV
  Term : FormV → LineV
  Init : Number → LineV
  Rule : WordV → Number → LineV
  Set : WordV → Number → LineV
  End : LineV
  Proposal : WordV → LineV
  Inv : WordV → Number → LineV
  Cause : WordV → WordV → KindV → LineV

-- The key of each kind of line, whose number is the kind's.
abbrev pub key_of_line : LineV → Key
key_of_line (Protocol name) = key.Protocol
key_of_line («Type» name values) = key.«Type»
key_of_line (Var name of) = key.Var
key_of_line (Term form) = key.Term
key_of_line (Init formula) = key.Init
key_of_line (Rule name guard) = key.Rule
key_of_line (Set variable term) = key.Set
key_of_line End = key.End
key_of_line (Proposal name) = key.Proposal
key_of_line (Inv name formula) = key.Inv
key_of_line (Cause rule invariant kind) = key.Cause

-- The keys that a file has lines of.
abbrev pub belongs : File → Key → Bool
belongs file.Protocol key.Protocol = true
belongs file.Protocol key.«Type» = true
belongs file.Protocol key.Var = true
belongs file.Protocol key.Term = true
belongs file.Protocol key.Init = true
belongs file.Protocol key.Rule = true
belongs file.Protocol key.Set = true
belongs file.Protocol key.End = true
belongs file.Protocol key.Proposal = false
belongs file.Protocol key.Inv = false
belongs file.Protocol key.Cause = false
belongs file.Proposal key.Protocol = false
belongs file.Proposal key.«Type» = false
belongs file.Proposal key.Var = false
belongs file.Proposal key.Term = true
belongs file.Proposal key.Init = false
belongs file.Proposal key.Rule = false
belongs file.Proposal key.Set = false
belongs file.Proposal key.End = true
belongs file.Proposal key.Proposal = true
belongs file.Proposal key.Inv = true
belongs file.Proposal key.Cause = true

-- The word that stands after `end=` in each file.
abbrev pub ending : File → List ℕ
ending file.Protocol = codes "protocol"
ending file.Proposal = codes "proposal"

-- What the program's values stand for.
abbrev pub line_seen : Line → LineV
line_seen (code.Protocol name) = Protocol (word_seen name)
line_seen (code.«Type» name values) = «Type» (word_seen name) (word_seen values)
line_seen (code.Var name of) = Var (word_seen name) (word_seen of)
line_seen (code.Term form) = Term (form_seen form)
line_seen (code.Init formula) = Init formula
line_seen (code.Rule name guard) = Rule (word_seen name) guard
line_seen (code.Set variable term) = Set (word_seen variable) term
line_seen code.End = End
line_seen (code.Proposal name) = Proposal (word_seen name)
line_seen (code.Inv name formula) = Inv (word_seen name) formula
line_seen (code.Cause rule invariant kind) = Cause (word_seen rule) (word_seen invariant) (kind_seen kind)
