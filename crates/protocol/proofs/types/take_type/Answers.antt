use Rattle.std.proofs.Common.{sym, arith}
use Rattle.std.proofs.lemmas.List.{length-map}
use Rattle.names.specs.Names.{spelled}
use Rattle.words.specs.Words.{word_seen}
use Rattle.tables.specs.Views.{types_seen}
use Rattle.protocol.proofs.TypeLaws.{type_room}
use Rattle.protocol.proofs.types.take_type.Goals as goal

pub add_type-requires : goal.add_type-requires
add_type-requires c =
    let names = c.args.types.now.names in
    let room = type_room (types_seen c.args.types.now).names (word_seen c.args.line.name) (word_seen c.args.line.values) c.in_ok-size.size (sym c.in_ok-size.ensures.its_number_of_values_or_its_fault) in
    record { one_more_may_stand = omega (arith, room.0, names.ok.0, length-map names.items spelled); few_values = room.1 }
