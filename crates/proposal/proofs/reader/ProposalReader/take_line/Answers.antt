use Rattle.std.proofs.Common.{ℕ, Ok, rules}
use Rattle.line.proofs.NextLines.{next_added, line_added}
use Rattle.line.specs.Lines.{line_seen}
use Rattle.line.specs.declared.lines.File.TheVariants as file
use Rattle.protocol.specs.Records.{ProtocolV}
use Rattle.tables.proofs.NextLines.{line_refused}
use Rattle.proposal.specs.Drafts.{draft_seen}
use Rattle.proposal.specs.Reading.{Draft, line_taken}
use Rattle.proposal.specs.Records.{ProposalV}
use Rattle.proposal.specs.Views.{parts_seen}
use Rattle.proposal.proofs.reader.ProposalReader.take_line.Goals as goal

-- the draft of this protocol, with a row and what is made
abbrev at_row : ProtocolV → ℕ → ProposalV → Draft
at_row protocol row made = record { protocol = protocol; row = row; made = made }

pub returns-in_err-row : goal.returns-in_err-row
returns-in_err-row c =
    let draft = draft_seen c.args.self.now in
    let e =
    next_added file.Proposal draft.row (λ l. line_taken draft.protocol c.args.number l draft.made) (at_row draft.protocol) c.args.line.now _
    c.in_err-row.ensures.the_row_and_the_line_or_the_fault in
    search rules

pub returns-in_err-take_line : goal.returns-in_err-take_line
returns-in_err-take_line c =
    let draft = draft_seen c.args.self.now in
    let after = parts_seen c.take_line.new.self in
    let e =
    line_refused file.Proposal draft.row (λ l. line_taken draft.protocol c.args.number l draft.made) (at_row draft.protocol) c.args.line.now c.in_ok-row.row (line_seen c.in_ok-row.line)
    c.in_ok-row.ensures.the_row_and_the_line_or_the_fault c.in_err-take_line.field-0.0 after (at_row draft.protocol draft.row after) c.in_err-take_line.ensures.what_the_line_adds_or_its_fault in
    search rules

pub returns : goal.returns
returns c =
    let draft = draft_seen c.args.self.now in
    record {
      what_is_made_of_the_line =
          line_added file.Proposal draft.row (λ l. line_taken draft.protocol c.args.number l draft.made) (at_row draft.protocol) c.args.line.now c.in_ok-row.row (line_seen c.in_ok-row.line)
          c.in_ok-row.ensures.the_row_and_the_line_or_the_fault (Ok (parts_seen c.take_line.new.self)) c.in_ok-take_line.ensures.what_the_line_adds_or_its_fault;
    }
