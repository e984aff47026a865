-- Lines that are written one after another come apart again.
use Rattle.std.proofs.Common.{◌≡◌, ℕ, true, eqb, leb, List, [], ◌∷◌, ◌++◌, refl, ap, ◌∙◌, append_assoc, arith}
use Rattle.std.proofs.lemmas.Bool.{leb-true, ne_eqb, and_parts, cond-false}
use Rattle.text.specs.Lines.{Split, printable, split, preceded, lengthened}
use Rattle.words.specs.Words.{every}
use Rattle.writing.specs.Laws.{LinesComeApart}
use Rattle.writing.specs.Written.{written_line, written_lines}
use Rattle.writing.proofs.Visible.{every_byte_may_stand}

abbrev with_line : List ℕ → Split → Split
with_line line s = record { lines = line ∷ s.lines; tail = s.tail }

-- a line feed is no printable byte, so that a line reaches up to the one that closes it
split_line : (line rest : List ℕ) → every printable line ≡ true → split (line ++ 10 ∷ rest) ≡ with_line line (split rest)
split_line [] rest all = refl
split_line (b ∷ line) rest all =
    let parts = and_parts (printable b) (every printable line) all in
    let least = leb-true 32 b (and_parts (leb 32 b) (leb b 126) parts.0).0 in
    ap (preceded b) (split_line line rest parts.1)
    ∙ cond-false (eqb b 10) (with_line [] (with_line line (split rest))) (lengthened b (line ∷ (split rest).lines) (split rest).tail) (ne_eqb b 10 (λ e. omega arith))

pub lines_come_apart : LinesComeApart
lines_come_apart file [] sound = refl
lines_come_apart file (s ∷ ss) sound =
    ap split (append_assoc (written_line file s) (10 ∷ []) (written_lines file ss))
    ∙ split_line (written_line file s) (written_lines file ss) (every_byte_may_stand file s sound.0).0
    ∙ ap (with_line (written_line file s)) (lines_come_apart file ss sound.1)
