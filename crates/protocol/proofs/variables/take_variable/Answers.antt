use Rattle.std.proofs.Common.{sym, arith}
use Rattle.std.proofs.lemmas.List.{length-map}
use Rattle.names.specs.Names.{spelled}
use Rattle.words.specs.Words.{word_seen}
use Rattle.tables.specs.Views.{types_seen, variables_seen}
use Rattle.protocol.proofs.TypeLaws.{variable_room}
use Rattle.protocol.proofs.variables.take_variable.Goals as goal

pub add_variable-requires : goal.add_variable-requires
add_variable-requires c =
    let names = c.args.variables.now.names in
    let room = variable_room (types_seen c.args.types.now) (word_seen c.args.name) (word_seen c.args.of) (variables_seen c.args.variables.now) c.in_ok-row.row (sym c.in_ok-row.ensures.the_row_or_the_fault) in
    record { one_more_may_stand = omega (arith, room.0, names.ok.0, length-map names.items spelled); few_states = room.1 }
