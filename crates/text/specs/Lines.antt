-- What a line is, and what it is to cut one off a text.
use Rattle.std.specs.Prelude.{ℕ, ◌+◌, Bool, cond, ◌&&◌, List, [], ◌∷◌, ◌++◌, length, take, drop, Some, None, Ok, Err, Option, Result, ◌==◌, nat_le, nat_lt, slice_index}
use Rattle.std.specs.Borrow.{Bor}
use Rattle.std.specs.List.{flat_map, prefix_len}
use Rattle.std.specs.Option.{unwrap_or}
use Rattle.std.specs.Result.{result_map_both}
use Rattle.text.specs.Faults.{fault}
use Rattle.text.specs.declared.faults.LineFault.{LineFault}
use Rattle.text.specs.declared.faults.Wrong.TheVariants.{Byte, NoLineFeed}

-- A byte that may stand in a line: space (32) to tilde (126).
abbrev pub printable : ℕ → Bool
printable b = nat_le 32 b && nat_le b 126

-- What cutting answers for a text that begins with just `n` printable bytes. A line has at most 255 bytes.
abbrev pub cut_behind : ℕ → List ℕ → Result (List ℕ × List ℕ) LineFault
cut_behind n text =
    cond (nat_lt 255 n) (Err (fault Byte 256))
    (cond (nat_le (length text) n) (Err (fault NoLineFeed 1))
    (cond (slice_index text n == 10) (Ok (take n text, drop (n + 1) text))
    (Err (fault Byte (n + 1)))))

-- A line cut off a text, and what follows its line feed; or the column of the first byte that may not stand in
-- a line or is one too many; or that the text ends before a line feed.
abbrev pub cut : List ℕ → Result (List ℕ × List ℕ) LineFault
cut text = cut_behind (prefix_len printable text) text

-- A text cut at all its line feeds at once: the lines that a line feed closes, and what follows the last line feed.
pub record Split : Type 0 where
  pub lines : List (List ℕ)
  pub tail : List ℕ

-- One byte more in front of the first line.
abbrev pub lengthened : ℕ → List (List ℕ) → List ℕ → Split
lengthened b [] tail = record { lines = []; tail = b ∷ tail }
lengthened b (line ∷ lines) tail = record { lines = (b ∷ line) ∷ lines; tail = tail }

-- One byte more in front: a line feed closes an empty line, any other byte belongs to the first line.
abbrev pub preceded : ℕ → Split → Split
preceded b s = cond (b == 10) (record { lines = [] ∷ s.lines; tail = s.tail }) (lengthened b s.lines s.tail)

abbrev pub split : List ℕ → Split
split [] = record { lines = []; tail = [] }
split (b ∷ text) = preceded b (split text)

-- The lines, each followed by its line feed, and what follows the last of them, put together.
abbrev pub together : Split → List ℕ
together s = flat_map (λ line. line ++ 10 ∷ []) s.lines ++ s.tail

-- What is wrong with the bytes of a line: the first that may not stand in a line, or the 256th; the smaller column counts.
abbrev pub byte_fault : List ℕ → Option LineFault
byte_fault line =
    cond (nat_lt 255 (prefix_len printable line)) (Some (fault Byte 256))
    (cond (nat_lt (prefix_len printable line) (length line)) (Some (fault Byte (prefix_len printable line + 1))) None)

-- What is wrong with the tail of a text: its bytes, or that no line feed closes it.
abbrev pub tail_fault : List ℕ → LineFault
tail_fault tail = unwrap_or (byte_fault tail) (fault NoLineFeed 1)

-- The bytes of the two parts that a call answers with.
abbrev pub parts : Result (Bor (List ℕ) × Bor (List ℕ)) LineFault → Result (List ℕ × List ℕ) LineFault
parts = result_map_both (λ p. (p.0.now, p.1.now)) (λ fault. fault)
