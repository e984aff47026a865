use Rattle.writing.proofs.Apart.{lines_come_apart}
use Rattle.writing.proofs.Kept.{every_line_can_be_kept}
use Rattle.writing.proofs.Taken.{nothing_is_lost, only_sound_lines_are_read}
use Rattle.writing.proofs.Visible.{every_byte_may_stand}
use Rattle.writing.proofs.laws.laws_stand.Goals as goal

pub returns : goal.returns
returns c = record {
  a_line_that_is_read_has_the_bytes_that_are_written = nothing_is_lost;
  a_line_that_is_read_says_something_sound = only_sound_lines_are_read;
  a_sound_line_that_is_written_is_read_and_says_the_same = every_line_can_be_kept;
  the_bytes_of_a_sound_line_may_stand_in_a_file = every_byte_may_stand;
  sound_lines_come_apart_at_their_line_feeds = lines_come_apart;
}
