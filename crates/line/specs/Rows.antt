-- The order of the lines of a file. Each key stands in a row: in a protocol file 1 `protocol`, 2 `type`, 3 `var`,
-- 4 `term`, 5 `init`, 6 `rule` and `set`, 7 `end`; in a proposal file 1 `proposal`, 2 `term`, 3 `inv`, 4 `cause`,
-- 5 `end`. Before the first line the row is 0.
use Rattle.std.specs.Prelude.{ℕ, ◌+◌, Bool, not, ◌&&◌, ◌||◌, ◌==◌, nat_le, nat_lt}
use Rattle.keys.specs.Keys.{key_number}
use Rattle.keys.specs.declared.Key.{Key}
use Rattle.keys.specs.declared.Key.TheVariants as key
use Rattle.line.specs.Lines.{belongs}
use Rattle.line.specs.declared.lines.File.{File}
use Rattle.line.specs.declared.lines.File.TheVariants as file

-- The row of a key; keys of the other file have none.
abbrev pub row_of : File → Key → ℕ
row_of file.Protocol key.Protocol = 1
row_of file.Protocol key.«Type» = 2
row_of file.Protocol key.Var = 3
row_of file.Protocol key.Term = 4
row_of file.Protocol key.Init = 5
row_of file.Protocol key.Rule = 6
row_of file.Protocol key.Set = 6
row_of file.Protocol key.End = 7
row_of file.Protocol key.Proposal = 0
row_of file.Protocol key.Inv = 0
row_of file.Protocol key.Cause = 0
row_of file.Proposal key.Protocol = 0
row_of file.Proposal key.«Type» = 0
row_of file.Proposal key.Var = 0
row_of file.Proposal key.Term = 2
row_of file.Proposal key.Init = 0
row_of file.Proposal key.Rule = 0
row_of file.Proposal key.Set = 0
row_of file.Proposal key.End = 5
row_of file.Proposal key.Proposal = 1
row_of file.Proposal key.Inv = 3
row_of file.Proposal key.Cause = 4

-- The row of the line that ends a file: 7 and 5.
abbrev pub last_row : File → ℕ
last_row file = row_of file key.End

-- Every row up to this one needs a line. Those between it and the end may be missing: in a protocol file the row of
-- the rules, in a proposal file those of the terms, the invariants and the causes.
abbrev pub last_needed : File → ℕ
last_needed file.Protocol = row_of file.Protocol key.Init
last_needed file.Proposal = row_of file.Proposal key.Proposal

-- After a line of row `last` the same row goes on, or the next one begins, or a later one where all the rows between
-- may be missing.
abbrev pub in_order : File → ℕ → ℕ → Bool
in_order file last row = last == row || (nat_lt last row && (last + 1 == row || nat_le (last_needed file) last))

-- A `set` line needs a rule line above it, in its own row.
abbrev pub is_below_its_rule : File → ℕ → Key → Bool
is_below_its_rule file last this = not (key_number this == key_number key.Set) || last == row_of file this

-- Whether a line of this key may follow a line of row `last`; nothing follows the end.
abbrev pub may_follow : File → ℕ → Key → Bool
may_follow file last key =
    belongs file key && (not (last == last_row file) && (in_order file last (row_of file key) && is_below_its_rule file last key))
