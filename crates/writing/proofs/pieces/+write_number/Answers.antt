use Rattle.std.proofs.Common.{◌^◌, ◌<◌, vec_items, ap, arith}
use Rattle.writing.proofs.Appends.{digit_appended, digits_appended}
use Rattle.writing.proofs.pieces.+write_number.Goals as goal
use Rattle.writing.proofs.pieces.+write_number.Goals.{then-n-ge10+in_ok-write_number, else-n-ge10}

pub returns : goal.returns
returns t c =
    let before = vec_items c.args.out.now in
    let low : c.args.n < 2 ^ 16 = omega arith in
    record {
      the_digits_of_the_number =
          elim c.if-n-ge10.branch [
            | then-n-ge10+in_ok-write_number w ↦
                digits_appended c.args.n before (vec_items w.write_number.new.out) (vec_items c.if-n-ge10.out) (vec_items c.push.new.self) w.if-n-ge10.true low
                (ap vec_items w.out-is) w.in_ok-write_number.ensures.the_digits_of_the_number c.in_ok-push.ensures.items
            | else-n-ge10 w ↦
                digit_appended c.args.n before (vec_items c.if-n-ge10.out) (vec_items c.push.new.self) w.if-n-ge10.false (ap vec_items w.out-is) c.in_ok-push.ensures.items
          ];
    }
