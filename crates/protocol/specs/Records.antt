-- A protocol as a record: what its file says, with names as bytes and everything else by number from 0.
use Rattle.std.specs.Prelude.{ℕ, List, []}
use Rattle.rules.specs.Records.{RuleV}
use Rattle.tables.specs.Records.{TypesV, VariablesV, TermsV, no_types, no_variables, no_terms}

-- A protocol: its name, the types, variables and terms, the initial formulas, the rules.
pub record ProtocolV : Type 0 where
  pub name : List ℕ
  pub types : TypesV
  pub variables : VariablesV
  pub terms : TermsV
  pub initial : List ℕ
  pub rules : List RuleV

-- The empty protocol: no name and no lines.
abbrev pub empty : ProtocolV
empty = record { name = []; types = no_types; variables = no_variables; terms = no_terms; initial = []; rules = [] }
