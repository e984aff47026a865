use Rattle.precondition.proofs.Finding.{first_left, first_right}
use Rattle.precondition.proofs.search.find_in_both.Goals as goal

pub returns-then-place-among : goal.returns-then-place-among
returns-then-place-among c =
    record { its_first_place = first_left c.args.among.now c.args.further.now c.args.term c.find-place.result c.find-place.ensures.its_first_place c.if-place-among.true }

pub returns-else-place-among : goal.returns-else-place-among
returns-else-place-among c =
    record {
      its_first_place =
          first_right c.args.among.now c.args.further.now c.args.term c.find-place.result c.find-place.ensures.its_first_place c.if-place-among.false c.find.result c.find.ensures.its_first_place;
    }
