use Rattle.std.proofs.Common.{rules}
use Rattle.std.proofs.iter.runs.Made.{chains}
use Rattle.names.specs.Names.{spelled}
use Rattle.tables.proofs.Copies.{copied}
use Rattle.tables.proofs.copying.copy_names.Goals as goal

pub returns : goal.returns
returns c = record { names_spelled_the_same = copied spelled _ _ (search (rules, chains)) }
