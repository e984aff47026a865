-- The words of a line: what stands between its single spaces, after the key.
use Rattle.std.specs.Prelude.{ℕ, ◌+◌, ◌-◌, ◌*◌, Bool, cond, not, ◌&&◌, ◌||◌, List, [], ◌∷◌, length, take, drop, Some, None, Ok, Err, fold, Option, Result, ◌==◌, nat_le, nat_lt, slice_index}
use Rattle.std.specs.Result.{result_map_both}
use Rattle.std.specs.List.{list_all, prefix_len}
use Rattle.text.specs.Faults.{fault}
use Rattle.keys.specs.Keys.{line_with}
use Rattle.text.specs.declared.faults.LineFault.{LineFault}
use Rattle.text.specs.declared.faults.Wrong.TheVariants as wrong
use Rattle.keys.specs.declared.Key.{Key}
use Rattle.words.specs.declared.Number.{Number}
use Rattle.words.specs.declared.Word.{Word}
use Rattle.words.specs.declared.Words.{Words}

-- A word: its bytes, and the column where it begins.
pub record WordV : Type 0 where
  pub bytes : List ℕ
  pub column : ℕ

-- A place in the words of a line: `before` bytes of the line, its key and equals sign, stand in front of `text`,
-- and the next word begins behind the first `at` bytes of `text`.
pub record Place : Type 0 where
  pub text : List ℕ
  pub before : ℕ
  pub at : ℕ

-- The place of the first word of a line with this key.
abbrev pub first_place : Key → List ℕ → Place
first_place key rest = record { text = rest; before = length (line_with key []); at = 0 }

-- The words are over: the last one reached the end of the line, so that no space was left to open another.
abbrev pub over : Place → Bool
over p = nat_lt (length p.text) p.at

-- The column where the next word begins, and the column just behind the line.
abbrev pub column : Place → ℕ
column p = p.before + p.at + 1

abbrev pub column_behind : Place → ℕ
column_behind p = p.before + length p.text + 1

-- Every byte but the space.
abbrev pub no_space : ℕ → Bool
no_space b = not (b == 32)

-- The next word's length: a word reaches up to the next space, so that two spaces hold an empty word between them.
abbrev pub word_length : Place → ℕ
word_length p = prefix_len no_space (drop p.at p.text)

-- The next word.
abbrev pub word : Place → WordV
word p = record { bytes = take (word_length p) (drop p.at p.text); column = column p }

-- The place behind the next word and its space.
abbrev pub next : Place → Place
next p = cond (over p) p (record { text = p.text; before = p.before; at = p.at + word_length p + 1 })

-- The first answer's value handed on, or its fault.
abbrev pub bind : {A B E : Type 0} → Result A E → (A → Result B E) → Result B E
bind (Ok x) f = f x
bind (Err e) f = Err e

-- The next word, or the fault that it is missing.
abbrev pub word_at : Place → Result WordV LineFault
word_at p = cond (over p) (Err (fault wrong.Word (column_behind p))) (Ok (word p))

-- That no word is left, or the fault at the first that is.
abbrev pub nothing_at : Place → Result (Unit {0}) LineFault
nothing_at p = cond (over p) (Ok tt) (Err (fault wrong.Word (column p)))

-- All of the bytes pass.
abbrev pub every : (ℕ → Bool) → List ℕ → Bool
every p bytes = list_all p bytes

abbrev pub digit : ℕ → Bool
digit b = nat_le 48 b && nat_le b 57

abbrev pub letter : ℕ → Bool
letter b = (nat_le 65 b && nat_le b 90) || (nat_le 97 b && nat_le b 122)

-- A byte of a name: a letter, a digit, an underscore, a full stop or a square bracket.
abbrev pub name_byte : ℕ → Bool
name_byte b = letter b || (digit b || (b == 95 || (b == 46 || (b == 91 || b == 93))))

-- A name: 1 to 16 such bytes.
abbrev pub is_name : List ℕ → Bool
is_name bytes = nat_le 1 (length bytes) && (nat_le (length bytes) 16 && every name_byte bytes)

-- One to three bytes, of which the first of several is not the digit 0.
abbrev pub number_length : List ℕ → Bool
number_length bytes = length bytes == 1 || (nat_le 2 (length bytes) && (nat_le (length bytes) 3 && not (slice_index bytes 0 == 48)))

-- A number: such bytes, all of them decimal digits.
abbrev pub is_number : List ℕ → Bool
is_number bytes = number_length bytes && every digit bytes

abbrev pub decimal : List ℕ → ℕ
decimal bytes = fold (λ value b. value * 10 + (b - 48)) 0 bytes

abbrev pub number_of : List ℕ → Option ℕ
number_of bytes = cond (is_number bytes) (Some (decimal bytes)) None

-- A value with the column where its number begins; or the fault that the word is no number.
abbrev pub number_or : ℕ → Option ℕ → Result Number LineFault
number_or column (Some value) = Ok (record { value = value; column = column })
number_or column None = Err (fault wrong.Word column)

-- The next word, which has to be a name.
abbrev pub name_at : Place → Result WordV LineFault
name_at p = bind (word_at p) (λ w. cond (is_name w.bytes) (Ok w) (Err (fault wrong.Word w.column)))

-- The next word, which has to be a number.
abbrev pub number_at : Place → Result Number LineFault
number_at p = bind (word_at p) (λ w. number_or w.column (number_of w.bytes))

-- All that is left of the line, or the fault that no word is left.
abbrev pub rest_at : Place → Result WordV LineFault
rest_at p = cond (over p) (Err (fault wrong.Word (column_behind p))) (Ok (record { bytes = drop p.at p.text; column = column p }))

-- One byte more in front of the first word.
abbrev pub lengthened : ℕ → ℕ → List WordV → List WordV
lengthened b column [] = record { bytes = b ∷ []; column = column } ∷ []
lengthened b column (w ∷ ws) = record { bytes = b ∷ w.bytes; column = column } ∷ ws

-- A text's words, all at once: every space ends one word and begins the next. The text begins at `column`.
abbrev pub words : ℕ → List ℕ → List WordV
words column [] = record { bytes = []; column = column } ∷ []
words column (b ∷ text) =
    cond (b == 32) (record { bytes = []; column = column } ∷ words (column + 1) text) (lengthened b column (words (column + 1) text))

-- The words from a place on.
abbrev pub words_left : Place → List WordV
words_left p = cond (over p) [] (words (column p) (drop p.at p.text))

-- All of the words are names; or the fault at the first that is none.
abbrev pub all_names : List WordV → Result (Unit {0}) LineFault
all_names [] = Ok tt
all_names (w ∷ ws) = cond (is_name w.bytes) (all_names ws) (Err (fault wrong.Word w.column))

-- What the program's values stand for.
abbrev pub word_seen : Word → WordV
word_seen w = record { bytes = w.bytes.now; column = w.column }

abbrev pub place : Words → Place
place w = record { text = w.text.now; before = w.before; at = w.at }

abbrev pub seen : Result Word LineFault → Result WordV LineFault
seen = result_map_both word_seen (λ fault. fault)
