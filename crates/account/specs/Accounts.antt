-- The account of a file: how many lines of each kind it has, up to its end or to its first fault.
use Rattle.std.specs.Prelude.{◌≡◌, ℕ, ◌+◌, false, cond, List, [], ◌∷◌, ◌++◌, length, replicate, Some, Ok, Err, Result, ◌==◌, nat_lt, slice_index, slice_set}
use Rattle.std.specs.List.{flat_map}
use Rattle.std.specs.Option.{option_map}
use Rattle.text.specs.Faults.{fault}
use Rattle.keys.specs.Keys.{key_number}
use Rattle.text.specs.Lines.{split, cut}
use Rattle.text.specs.Walk.{Outcome, walk_through}
use Rattle.words.specs.Words.{bind}
use Rattle.text.specs.declared.faults.FileFault.TheVariants.{TooLong, Line}
use Rattle.text.specs.declared.faults.LineFault.{LineFault}
use Rattle.text.specs.declared.faults.Wrong.TheVariants as wrong
use Rattle.keys.specs.declared.Key.{Key}
use Rattle.keys.specs.declared.Key.TheVariants as keys
use Rattle.line.specs.Lines.{key_of_line}
use Rattle.line.specs.Reading.{read, recognised}
use Rattle.line.specs.declared.lines.File.{File}
use Rattle.account.specs.declared.Account.{Account}
use Rattle.account.specs.declared.Tally.{Tally}

-- Before the first line: nothing counted, for none of the eleven keys.
abbrev pub nothing : Tally
nothing = record { lines = 0; kinds = replicate 11 0; ended = false }

-- One line more of this key. An `end` line ends the file.
abbrev pub counted : Key → Tally → Tally
counted key tally =
    record {
      lines = tally.lines + 1;
      kinds = slice_set tally.kinds (key_number key) (slice_index tally.kinds (key_number key) + 1);
      ended = (key_number key == key_number keys.End);
    }

-- What is made of a line: it is counted, unless its key is not the file's, it follows the end, or its words are at
-- fault. The first of these that fits is the fault.
abbrev pub taken_by : (Key → Tally → Tally) → File → Tally → List ℕ → Result Tally LineFault
taken_by count file tally line =
    bind (recognised file line) (λ p.
    cond tally.ended (Err (fault wrong.Key 1))
    (bind (read file p.0 p.1) (λ read. Ok (count (key_of_line read) tally))))

abbrev pub taken : File → Tally → List ℕ → Result Tally LineFault
taken file tally line = taken_by counted file tally line

-- Going through the lines of a text.
abbrev pub gone_through : File → List ℕ → Outcome Tally
gone_through file text = walk_through (taken file) (λ tally. tally.ended) nothing 1 (split text)

-- The account of a file: of a refused one too it has the lines up to the fault. A file of more than 65,536 bytes is
-- refused whole.
abbrev pub account : File → List ℕ → Account
account file text =
    cond (nat_lt 65536 (length text)) (record { bytes = length text; tally = nothing; fault = Some TooLong })
    (record { bytes = length text; tally = (gone_through file text).state; fault = option_map Line (gone_through file text).fault })

-- A text cut one by one: these lines, each cut off what the one before it left, until nothing is left.
pub data CutUp : List ℕ → List (List ℕ) → Type 0 where
  done : CutUp [] []
  more : {text line rest : List ℕ} {lines : List (List ℕ)} → cut text ≡ Ok (line, rest) → CutUp rest lines → CutUp text (line ∷ lines)

-- A text is just its lines, each closed by a line feed; cut one by one it has the same lines; all of them were counted.
pub record Whole (text : List ℕ) (tally : Tally) : Type 0 where
  pub put_together : flat_map (λ line. line ++ 10 ∷ []) (split text).lines ≡ text
  pub cut_up : CutUp text (split text).lines
  pub all_counted : tally.lines ≡ length (split text).lines

-- However a text is cut one by one, its lines are those that it has cut all at once.
abbrev pub SameLines : List ℕ → Type 0
SameLines text = (lines : List (List ℕ)) → CutUp text lines → lines ≡ (split text).lines

-- What a call made of a tally: the tally as it left it, or the fault.
abbrev pub answered : Result (Unit {0}) LineFault → Tally → Result Tally LineFault
answered (Ok u) after = Ok after
answered (Err wrong) after = Err wrong
