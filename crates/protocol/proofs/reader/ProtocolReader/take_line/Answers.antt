use Rattle.std.proofs.Common.{ℕ, ◌^◌, ◌<◌, length, Ok, sym, arith, rules}
use Rattle.line.proofs.NextLines.{next_added, line_added}
use Rattle.line.specs.Lines.{line_seen}
use Rattle.line.specs.declared.lines.File.TheVariants as file
use Rattle.tables.proofs.NextLines.{line_refused}
use Rattle.protocol.specs.Reading.{Draft, line_taken}
use Rattle.protocol.specs.Records.{ProtocolV}
use Rattle.protocol.specs.Views.{draft_seen, parts_seen}
use Rattle.protocol.proofs.Columns.{following_within}
use Rattle.protocol.proofs.reader.ProtocolReader.take_line.Goals as goal

-- the draft with another row
abbrev at_row : ℕ → ProtocolV → Draft
at_row row made = record { row = row; made = made }

pub returns-in_err-row : goal.returns-in_err-row
returns-in_err-row c =
    let draft = draft_seen c.args.self.now in
    let e = next_added file.Protocol draft.row (λ l. line_taken l draft.made) at_row c.args.line.now _ c.in_err-row.ensures.the_row_and_the_line_or_the_fault in
    search rules

pub take_line-requires : goal.take_line-requires
take_line-requires c =
    let held : length c.args.line.now < 2 ^ 63 = omega arith in
    record {
      within_a_line =
          following_within c.args.self.now.row c.in_ok-row.row c.args.line.now (line_seen c.in_ok-row.line) held
          (sym c.in_ok-row.ensures.the_row_and_the_line_or_the_fault);
    }

pub returns-in_err-take_line : goal.returns-in_err-take_line
returns-in_err-take_line c =
    let draft = draft_seen c.args.self.now in
    let after = parts_seen c.take_line.new.self in
    let e =
    line_refused file.Protocol draft.row (λ l. line_taken l draft.made) at_row c.args.line.now c.in_ok-row.row (line_seen c.in_ok-row.line)
    c.in_ok-row.ensures.the_row_and_the_line_or_the_fault c.in_err-take_line.field-0.0 after (at_row draft.row after) c.in_err-take_line.ensures.what_the_line_adds_or_its_fault in
    search rules

pub returns : goal.returns
returns c =
    let draft = draft_seen c.args.self.now in
    record {
      what_is_made_of_the_line =
          line_added file.Protocol draft.row (λ l. line_taken l draft.made) at_row c.args.line.now c.in_ok-row.row (line_seen c.in_ok-row.line)
          c.in_ok-row.ensures.the_row_and_the_line_or_the_fault (Ok (parts_seen c.take_line.new.self)) c.in_ok-take_line.ensures.what_the_line_adds_or_its_fault;
    }
