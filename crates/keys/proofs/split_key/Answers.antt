use Rattle.std.proofs.Common.{◌≡◌, rules}
use Rattle.keys.specs.Keys.{key_of, seen}
use Rattle.keys.proofs.KeyLaws.{key_law}
use Rattle.keys.proofs.split_key.Goals as goal

pub returns-clause-put_together_they_are_the_line_or_no_key_fits : goal.returns-clause-put_together_they_are_the_line_or_no_key_fits
returns-clause-put_together_they_are_the_line_or_no_key_fits c =
    let is : seen c.or_else-4.result ≡ key_of c.args.line.now = search rules in
    key_law c.or_else-4.result c.args.line.now is
