-- Writing and reading are each other's way back.
use Rattle.std.specs.Prelude.{◌≡◌, ℕ, ◌≤◌, true, List, [], map, length, None, Ok}
use Rattle.std.specs.List.{AllByRecursion}
use Rattle.text.specs.Lines.{printable, byte_fault, split}
use Rattle.keys.specs.declared.Key.{Key}
use Rattle.words.specs.Words.{every}
use Rattle.line.specs.Lines.{LineV}
use Rattle.line.specs.Reading.{recognised, read}
use Rattle.line.specs.declared.lines.File.{File}
use Rattle.writing.specs.Said.{Said, key_said, said}
use Rattle.writing.specs.Sound.{Sound}
use Rattle.writing.specs.Written.{spaced, words_said, written_line, written_lines}

-- Nothing is lost and nothing is invented: a line that is read has just the bytes that are written from what it says.
abbrev pub NothingIsLost : Type 0
NothingIsLost =
    (file : File) (bytes rest : List ℕ) (k : Key) (l : LineV) → recognised file bytes ≡ Ok (k, rest) → read file k rest ≡ Ok l
    → written_line file (said l) ≡ bytes

-- What a line that is read says may stand in its file.
abbrev pub OnlySoundLinesAreRead : Type 0
OnlySoundLinesAreRead =
    (file : File) (bytes rest : List ℕ) (k : Key) (l : LineV) → recognised file bytes ≡ Ok (k, rest) → read file k rest ≡ Ok l
    → Sound file (said l)

-- Every line can be kept: what is written from something that may stand in the file is read, and says that.
abbrev pub EveryLineCanBeKept : Type 0
EveryLineCanBeKept =
    (file : File) (s : Said) → Sound file s
    → (recognised file (written_line file s) ≡ Ok (key_said s, spaced (words_said file s)))
    × ((l : LineV) × (read file (key_said s) (spaced (words_said file s)) ≡ Ok l) × (said l ≡ s))

-- Its bytes may stand in a line, if there are at most 255 of them.
abbrev pub EveryByteMayStand : Type 0
EveryByteMayStand =
    (file : File) (s : Said) → Sound file s
    → (every printable (written_line file s) ≡ true) × (length (written_line file s) ≤ 255 → byte_fault (written_line file s) ≡ None)

-- Written lines come apart again at their line feeds, and nothing follows the last.
abbrev pub LinesComeApart : Type 0
LinesComeApart =
    (file : File) (ss : List Said) → AllByRecursion (Sound file) ss → split (written_lines file ss) ≡ record { lines = map (written_line file) ss; tail = [] }
