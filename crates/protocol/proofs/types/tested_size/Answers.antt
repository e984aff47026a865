use Rattle.std.proofs.Common.{arith}
use Rattle.protocol.proofs.TypeLaws.{repeat_inside}
use Rattle.protocol.proofs.types.tested_size.Goals as goal

pub overflow_add-line : goal.overflow_add-line
overflow_add-line c =
    omega (
      arith,
      c.args.line.within_a_line,
      repeat_inside c.args.line.values.bytes.now c.in-Some.column c.in-Some.ensures.the_column_of_the_first_word_that_stands_further_left_too,
    )

pub overflow_sub-line : goal.overflow_sub-line
overflow_sub-line c =
    omega (arith, repeat_inside c.args.line.values.bytes.now c.in-Some.column c.in-Some.ensures.the_column_of_the_first_word_that_stands_further_left_too)
