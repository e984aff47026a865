use Rattle.std.proofs.Common.{rules}
use Rattle.protocol.specs.Answers.{protocol_seen}
use Rattle.protocol.proofs.LawKept.{every_protocol_can_be_kept}
use Rattle.protocol.proofs.LawWhole.{lawful_read}
use Rattle.protocol.proofs.LawWritten.{written_read}
use Rattle.protocol.proofs.whole_file.read.Goals as goal

pub returns : goal.returns
returns c =
    let said = c.in_ok-into.ensures.the_protocol_that_the_file_says_or_its_fault in
    record {
      the_protocol_that_the_file_says_or_the_empty_one = said;
      what_is_read_obeys_all_limits_and_sorts = lawful_read c.args.bytes.now (protocol_seen c.in_ok-into.field-0) said;
      every_protocol_can_be_kept = every_protocol_can_be_kept;
      what_is_read_is_its_written_form = written_read c.args.bytes.now (protocol_seen c.in_ok-into.field-0) said;
    }

pub returns-in_err-into : goal.returns-in_err-into
returns-in_err-into c = record {
  the_protocol_that_the_file_says_or_the_empty_one = search rules;
  what_is_read_obeys_all_limits_and_sorts = search rules;
  what_is_read_is_its_written_form = search rules;
  every_protocol_can_be_kept = every_protocol_can_be_kept;
}
