-- What the program's tables stand for.
use Rattle.std.specs.Prelude.{map, vec_items}
use Rattle.names.specs.Names.{spelled}
use Rattle.tables.specs.Records.{TypesV, VariablesV, TermsV}
use Rattle.tables.specs.Spellings.{spellings}
use Rattle.tables.specs.declared.term_table.TermTable.{TermTable}
use Rattle.tables.specs.declared.types.TypeTable.{TypeTable}
use Rattle.tables.specs.declared.variables.VariableTable.{VariableTable}

abbrev pub types_seen : TypeTable → TypesV
types_seen t = record { names = map spelled (vec_items t.names); values = spellings t.values; sizes = vec_items t.sizes }

abbrev pub variables_seen : VariableTable → VariablesV
variables_seen t = record { names = map spelled (vec_items t.names); kinds = vec_items t.kinds; states = t.states }

abbrev pub terms_seen : TermTable → TermsV
terms_seen t = record { terms = vec_items t.terms; sorts = vec_items t.sorts }
