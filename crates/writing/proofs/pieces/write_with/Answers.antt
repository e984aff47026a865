use Rattle.std.proofs.Common.{vec_items}
use Rattle.writing.proofs.Appends.{after_both, one_more, stopped}
use Rattle.writing.proofs.pieces.write_with.Goals as goal

pub returns-in_err-write_next : goal.returns-in_err-write_next
returns-in_err-write_next g c =
    let before = vec_items c.args.out.now in
    let mid = vec_items c.loop-other.out in
    let after = vec_items c.write_next.new.out in
    let short = c.in_err-write_next.ensures.a_space_and_its_bytes in
    record {
      the_word_and_the_others =
          stopped c.from_residual-in_err-write_next.result before _ after _ c.from_residual-in_err-write_next.ensures.0
          (after_both before _ short.0 mid after c.loop-other.invariant short.1);
    }

pub loop-other-preserved : goal.loop-other-preserved
loop-other-preserved g c =
    one_more g.P.Piece.text (vec_items c.args.out.now) c.args.word.now c.args.others.now c.loop-other.other-index c.other-item.result (vec_items c.loop-other.out)
    (vec_items c.write_next.new.out) c.loop-other-test.true c.other-item.is c.loop-other.invariant c.in_ok-write_next.ensures.a_space_and_its_bytes
