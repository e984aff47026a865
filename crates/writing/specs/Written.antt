-- The text of a line, from what it says.
use Rattle.std.specs.Prelude.{ℕ, List, [], ◌∷◌, ◌++◌, codes, decimal}
use Rattle.std.specs.List.{flat_map}
use Rattle.keys.specs.Keys.{line_with}
use Rattle.line.specs.Lines.{ending}
use Rattle.line.specs.declared.lines.File.{File}
use Rattle.writing.specs.Forms as form
use Rattle.writing.specs.Forms.{FormSaid, KindSaid}
use Rattle.writing.specs.Said.{Said, key_said}
use Rattle.writing.specs.Said as line

-- Words, each with a space in front of it.
abbrev pub each_spaced : List (List ℕ) → List ℕ
each_spaced [] = []
each_spaced (w ∷ ws) = 32 ∷ (w ++ each_spaced ws)

-- Words with a single space between each two.
abbrev pub spaced : List (List ℕ) → List ℕ
spaced [] = []
spaced (w ∷ ws) = w ++ each_spaced ws

-- A number: its decimal digits, with no zero in front.
abbrev pub written_number : ℕ → List ℕ
written_number n = decimal n

-- The words of a term: its operator, and then names, or the numbers of earlier terms.
abbrev pub form_words : FormSaid → List (List ℕ)
form_words (form.Var name) = codes "var" ∷ name ∷ []
form_words (form.Val of value) = codes "val" ∷ of ∷ value ∷ []
form_words form.True = codes "true" ∷ []
form_words form.False = codes "false" ∷ []
form_words (form.Eq left right) = codes "eq" ∷ written_number left ∷ written_number right ∷ []
form_words (form.Not of) = codes "not" ∷ written_number of ∷ []
form_words (form.And left right) = codes "and" ∷ written_number left ∷ written_number right ∷ []
form_words (form.Or left right) = codes "or" ∷ written_number left ∷ written_number right ∷ []
form_words (form.Imp left right) = codes "imp" ∷ written_number left ∷ written_number right ∷ []
form_words (form.Ite test then other) = codes "ite" ∷ written_number test ∷ written_number then ∷ written_number other ∷ []

-- The words of a cause's kind: its number, and the partner's name.
abbrev pub kind_words : KindSaid → List (List ℕ)
kind_words form.Guard = codes "1" ∷ []
kind_words form.Unchanged = codes "2" ∷ []
kind_words (form.Partner name) = codes "3" ∷ name ∷ []

-- The words after the key; an end line has the file's own word.
abbrev pub words_said : File → Said → List (List ℕ)
words_said file (line.Protocol name) = name ∷ []
words_said file (line.«Type» name values) = name ∷ values
words_said file (line.Var name of) = name ∷ of ∷ []
words_said file (line.Term form) = form_words form
words_said file (line.Init formula) = written_number formula ∷ []
words_said file (line.Rule name guard) = name ∷ written_number guard ∷ []
words_said file (line.Set variable term) = variable ∷ written_number term ∷ []
words_said file line.End = ending file ∷ []
words_said file (line.Proposal name) = name ∷ []
words_said file (line.Inv name formula) = name ∷ written_number formula ∷ []
words_said file (line.Cause rule invariant kind) = rule ∷ invariant ∷ kind_words kind

-- The text of a line: the key's word, an equals sign, and the words with single spaces between them.
abbrev pub written_line : File → Said → List ℕ
written_line file s = line_with (key_said s) (spaced (words_said file s))

-- The text of several lines: a line feed closes each.
abbrev pub written_lines : File → List Said → List ℕ
written_lines file ss = flat_map (λ s. written_line file s ++ 10 ∷ []) ss
