use Rattle.std.proofs.Common.{map, vec_items, rules}
use Rattle.std.proofs.iter.runs.Made.{chains}
use Rattle.names.specs.Names.{spelled}
use Rattle.tables.proofs.Copies.{copied}
use Rattle.tables.proofs.copying.copy_lists.Goals as goal

pub returns : goal.returns
returns c = record { lists_of_names_spelled_the_same = copied (λ list. map spelled (vec_items list)) _ _ (search (rules, chains)) }
