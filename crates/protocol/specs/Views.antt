-- What the program's parts of a protocol stand for.
use Rattle.std.specs.Prelude.{vec_items}
use Rattle.names.specs.Names.{spelled}
use Rattle.rules.specs.Views.{rules_seen}
use Rattle.tables.specs.Views.{types_seen, variables_seen, terms_seen}
use Rattle.protocol.specs.Reading.{Draft}
use Rattle.protocol.specs.Records.{ProtocolV}
use Rattle.protocol.specs.declared.parts.Parts.{Parts}
use Rattle.protocol.specs.declared.reader.ProtocolReader.{ProtocolReader}

abbrev pub parts_seen : Parts → ProtocolV
parts_seen p =
    record {
      name = spelled p.name;
      types = types_seen p.types;
      variables = variables_seen p.variables;
      terms = terms_seen p.terms;
      initial = vec_items p.initial;
      rules = rules_seen p.rules;
    }

-- What half a file stands for.
abbrev pub draft_seen : ProtocolReader → Draft
draft_seen r = record { row = r.row; made = parts_seen r.parts }
