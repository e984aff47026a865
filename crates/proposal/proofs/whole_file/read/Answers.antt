use Rattle.std.proofs.Common.{rules}
use Rattle.proposal.proofs.Again.{proposal_kept}
use Rattle.proposal.proofs.ReadBack.{proposal_written}
use Rattle.proposal.proofs.whole_file.read.Goals as goal

pub returns-in_err-into : goal.returns-in_err-into
returns-in_err-into c = record {
  the_proposal_that_the_file_says_or_the_empty_one = search rules;
  what_is_read_obeys_all_limits_and_sorts = search rules;
  what_is_read_is_its_written_form = search rules;
  nothing_is_lost_and_nothing_is_invented = proposal_written;
  every_proposal_can_be_kept = proposal_kept;
}

pub returns : goal.returns
returns c =
    let read = c.in_ok-into.ensures in
    record {
      the_proposal_that_the_file_says_or_the_empty_one = read.the_proposal_that_the_file_says_or_its_fault;
      what_is_read_obeys_all_limits_and_sorts = read.what_is_read_obeys_all_limits_and_sorts;
      what_is_read_is_its_written_form = read.what_is_read_is_its_written_form;
      nothing_is_lost_and_nothing_is_invented = proposal_written;
      every_proposal_can_be_kept = proposal_kept;
    }
