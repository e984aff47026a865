use Rattle.std.proofs.Common.{arith, subst, vec_items}
use Rattle.std.proofs.lemmas.Grind.{common_steps}
use Rattle.line.specs.Lines.{line_seen}
use Rattle.writing.specs.Appending.{Appended}
use Rattle.writing.specs.Said.{said}
use Rattle.writing.specs.Written.{written_line}
use Rattle.writing.proofs.Taken.{nothing_is_lost}
use Rattle.writing.proofs.lines.write_line.Goals as goal

pub returns-clause-the_bytes_that_it_was_read_from : goal.returns-clause-the_bytes_that_it_was_read_from
returns-clause-the_bytes_that_it_was_read_from c =
    let line = line_seen c.args.line in
    let Written : _ → Type 0 = λ bytes. Appended c.write_words.result (vec_items c.args.out.now) bytes (vec_items c.write_words.new.out) in
    let written : Written (written_line c.args.file (said line)) = grind (arith, common_steps) in
    λ bytes rest key known is. subst Written (nothing_is_lost c.args.file bytes rest key line known is) written
