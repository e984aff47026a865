-- The words of a text that stands alone, how many they are, and whether one of them comes again.
use Rattle.std.specs.Prelude.{◌≡◌, ℕ, Bool, false, cond, ◌&&◌, ◌||◌, List, [], ◌∷◌, Some, None, Option, nat_lt}
use Rattle.std.specs.List.{ContainsAt}
use Rattle.std.specs.Str.{bytes_eq}
use Rattle.words.specs.Words.{WordV, Place}

-- The place of the first word of a text that stands alone: nothing is in front of the text.
abbrev pub start : List ℕ → Place
start text = record { text = text; before = 0; at = 0 }

-- One of these words begins before the column and has these bytes.
abbrev pub seen_before : List WordV → ℕ → List ℕ → Bool
seen_before [] column bytes = false
seen_before (w ∷ ws) column bytes = (nat_lt w.column column && bytes_eq w.bytes bytes) || seen_before ws column bytes

-- Of the words `ws`, the column of the first that stands already further left among `all`; none if there is no such word.
abbrev pub repeat_in : List WordV → List WordV → Option ℕ
repeat_in all [] = None
repeat_in all (w ∷ ws) = cond (seen_before all w.column w.bytes) (Some w.column) (repeat_in all ws)

-- Any two of the words that have the same bytes begin at the same column, so that they are one word.
abbrev pub AllDiffer : List WordV → Type 0
AllDiffer ws = (u v : WordV) → ContainsAt ws u → ContainsAt ws v → u.bytes ≡ v.bytes → u.column ≡ v.column
