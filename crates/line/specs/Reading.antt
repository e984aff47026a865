-- Reading the words of a line: which line they are, or the fault at the leftmost word that is missing, extra, empty
-- or misformed. A place names the next word, and `next` the place behind it.
use Rattle.std.specs.Prelude.{ℕ, cond, List, Some, None, Ok, Err, codes, Option, Result}
use Rattle.std.specs.Borrow.{Bor}
use Rattle.std.specs.Result.{result_map_both}
use Rattle.std.specs.Str.{bytes_eq}
use Rattle.text.specs.Faults.{fault}
use Rattle.keys.specs.Keys.{key_of}
use Rattle.words.specs.Words.{WordV, Place, next, bind, word_at, name_at, number_at, nothing_at, rest_at, words_left, all_names, first_place}
use Rattle.text.specs.declared.faults.LineFault.{LineFault}
use Rattle.text.specs.declared.faults.Wrong.TheVariants as wrong
use Rattle.keys.specs.declared.Key.{Key}
use Rattle.keys.specs.declared.Key.TheVariants as key
use Rattle.words.specs.declared.Number.{Number}
use Rattle.line.specs.Forms.{FormV, KindV, form_seen, kind_seen}
use Rattle.line.specs.Forms as form
use Rattle.line.specs.Lines.{LineV, belongs, ending, line_seen}
use Rattle.line.specs.Lines as line
use Rattle.line.specs.Operators.{operator_of}
use Rattle.line.specs.declared.lines.File.{File}
use Rattle.line.specs.declared.lines.Form.{Form}
use Rattle.line.specs.declared.lines.Kind.{Kind}
use Rattle.line.specs.declared.lines.Line.{Line}
use Rattle.line.specs.declared.operators.Operator.{Operator}
use Rattle.line.specs.declared.operators.Operator.TheVariants as operator

-- What was read, and then nothing more.
abbrev pub last : {A : Type 0} → Place → A → Result A LineFault
last p read = bind (nothing_at p) (λ _. Ok read)

-- One word, read in some way, and nothing more; and two words, each read in its way.
abbrev pub one : {A : Type 0} → (Place → Result A LineFault) → Place → Result A LineFault
one at p = bind (at p) (λ a. last (next p) a)

abbrev pub two : {A B : Type 0} → (Place → Result A LineFault) → (Place → Result B LineFault) → Place → Result (A × B) LineFault
two first second p = bind (first p) (λ a. bind (second (next p)) (λ b. last (next (next p)) (a, b)))

-- One name, two names, one number, two, three, a name and a number; and nothing more.
abbrev pub one_name : Place → Result WordV LineFault
one_name p = one name_at p

abbrev pub two_names : Place → Result (WordV × WordV) LineFault
two_names p = two name_at name_at p

abbrev pub one_number : Place → Result Number LineFault
one_number p = one number_at p

abbrev pub two_numbers : Place → Result (Number × Number) LineFault
two_numbers p = two number_at number_at p

abbrev pub three_numbers : Place → Result (Number × Number × Number) LineFault
three_numbers p =
    bind (number_at p) (λ a. bind (number_at (next p)) (λ b. bind (number_at (next (next p))) (λ d. last (next (next (next p))) (a, b, d))))

abbrev pub name_and_number : Place → Result (WordV × Number) LineFault
name_and_number p = two name_at number_at p

-- What follows an operator: `var V`, `val TYPE VALUE`, `true`, `false`, `eq A B`, `not A`, `and A B`, `or A B`,
-- `imp A B`, `ite F A B`.
abbrev pub form_behind : Operator → Place → Result FormV LineFault
form_behind operator.Var p = bind (one_name p) (λ a. Ok (form.Var a))
form_behind operator.Val p = bind (two_names p) (λ a. Ok (form.Val a.0 a.1))
form_behind operator.True p = last p form.True
form_behind operator.False p = last p form.False
form_behind operator.Eq p = bind (two_numbers p) (λ a. Ok (form.Eq a.0 a.1))
form_behind operator.Not p = bind (one_number p) (λ a. Ok (form.Not a))
form_behind operator.And p = bind (two_numbers p) (λ a. Ok (form.And a.0 a.1))
form_behind operator.Or p = bind (two_numbers p) (λ a. Ok (form.Or a.0 a.1))
form_behind operator.Imp p = bind (two_numbers p) (λ a. Ok (form.Imp a.0 a.1))
form_behind operator.Ite p = bind (three_numbers p) (λ a. Ok (form.Ite a.0 a.1 a.2))

-- An operator that is not known is a misformed word.
abbrev pub form_by : Option Operator → ℕ → Place → Result FormV LineFault
form_by (Some operator) column p = form_behind operator p
form_by None column p = Err (fault wrong.Word column)

abbrev pub form_at : Place → Result FormV LineFault
form_at p = bind (word_at p) (λ w. form_by (operator_of w.bytes) w.column (next p))

-- The kind of a cause: `1`, `2`, or `3` and a partner.
abbrev pub kind_by : WordV → Place → Result KindV LineFault
kind_by w p =
    cond (bytes_eq w.bytes (codes "1")) (last p form.Guard)
    (cond (bytes_eq w.bytes (codes "2")) (last p form.Unchanged)
    (cond (bytes_eq w.bytes (codes "3")) (bind (one_name p) (λ a. Ok (form.Partner a)))
    (Err (fault wrong.Word w.column))))

abbrev pub kind_at : Place → Result KindV LineFault
kind_at p = bind (word_at p) (λ w. kind_by w (next p))

-- The type's name, then two names or more, which stay together.
abbrev pub type_at : Place → Result LineV LineFault
type_at p =
    bind (name_at p) (λ name.
    bind (rest_at (next p)) (λ values.
    bind (name_at (next p)) (λ _.
    bind (name_at (next (next p))) (λ _.
    bind (all_names (words_left (next (next (next p))))) (λ _.
    Ok (line.«Type» name values))))))

abbrev pub cause_at : Place → Result LineV LineFault
cause_at p =
    bind (name_at p) (λ rule.
    bind (name_at (next p)) (λ invariant.
    bind (kind_at (next (next p))) (λ kind.
    Ok (line.Cause rule invariant kind))))

-- The file's own word.
abbrev pub end_at : File → Place → Result LineV LineFault
end_at file p =
    bind (word_at p) (λ w. cond (bytes_eq w.bytes (ending file)) (last (next p) line.End) (Err (fault wrong.Word w.column)))

-- A line by its key and the place of its first word.
abbrev pub line_at : File → Key → Place → Result LineV LineFault
line_at file key.Protocol p = bind (one_name p) (λ a. Ok (line.Protocol a))
line_at file key.«Type» p = type_at p
line_at file key.Var p = bind (two_names p) (λ a. Ok (line.Var a.0 a.1))
line_at file key.Term p = bind (form_at p) (λ a. Ok (line.Term a))
line_at file key.Init p = bind (one_number p) (λ a. Ok (line.Init a))
line_at file key.Rule p = bind (name_and_number p) (λ a. Ok (line.Rule a.0 a.1))
line_at file key.Set p = bind (name_and_number p) (λ a. Ok (line.Set a.0 a.1))
line_at file key.End p = end_at file p
line_at file key.Proposal p = bind (one_name p) (λ a. Ok (line.Proposal a))
line_at file key.Inv p = bind (name_and_number p) (λ a. Ok (line.Inv a.0 a.1))
line_at file key.Cause p = cause_at p

-- Reading the words behind a line's key.
abbrev pub read : File → Key → List ℕ → Result LineV LineFault
read file key rest = line_at file key (first_place key rest)

-- The key of a line in this file, and what follows its equals sign; a key that is absent, unknown or the other
-- file's is a fault.
abbrev pub known_in : File → Option (Key × List ℕ) → Result (Key × List ℕ) LineFault
known_in file (Some p) = cond (belongs file p.0) (Ok p) (Err (fault wrong.Key 1))
known_in file None = Err (fault wrong.Key 1)

abbrev pub recognised : File → List ℕ → Result (Key × List ℕ) LineFault
recognised file line = known_in file (key_of line)

-- What the program's answers stand for.
abbrev pub answer : {A B : Type 0} → (A → B) → Result A LineFault → Result B LineFault
answer view = result_map_both view (λ fault. fault)

abbrev pub form_answer : Result Form LineFault → Result FormV LineFault
form_answer = answer form_seen

abbrev pub kind_answer : Result Kind LineFault → Result KindV LineFault
kind_answer = answer kind_seen

abbrev pub line_answer : Result Line LineFault → Result LineV LineFault
line_answer = answer line_seen

abbrev pub key_answer : Result (Key × Bor (List ℕ)) LineFault → Result (Key × List ℕ) LineFault
key_answer = answer (λ p. (p.0, p.1.now))
