-- What the program keeps while it goes through a file.
use Rattle.std.specs.Prelude.{ℕ, ◌+◌, ◌-◌, ◌^◌, List, min, Ok, Result, ◌==◌, slice_index, slice_set}
use Rattle.keys.specs.Keys.{key_number}
use Rattle.keys.specs.declared.Key.{Key}
use Rattle.keys.specs.declared.Key.TheVariants as keys
use Rattle.text.specs.declared.faults.LineFault.{LineFault}
use Rattle.words.specs.Words.{bind}
use Rattle.account.specs.Accounts.{taken_by}
use Rattle.account.specs.declared.Counter.{Counter}
use Rattle.account.specs.declared.Tally.{Tally}

-- One more, up to the last number that a counter holds.
abbrev pub one_more : ℕ → ℕ
one_more n = min (n + 1) (2 ^ 64 - 1)

-- The same as the program counts: as long as no counter comes to its last number, it is the same.
abbrev pub counted_up : Key → Tally → Tally
counted_up key tally =
    record {
      lines = one_more tally.lines;
      kinds = slice_set tally.kinds (key_number key) (one_more (slice_index tally.kinds (key_number key)));
      ended = (key_number key == key_number keys.End);
    }

-- The line is counted for the file, whatever its number.
abbrev pub counter_step : Counter → ℕ → List ℕ → Result Counter LineFault
counter_step counter number line =
    bind (taken_by counted_up counter.file counter.tally line) (λ tally. Ok (record { file = counter.file; tally = tally }))
