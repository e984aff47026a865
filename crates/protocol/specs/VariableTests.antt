-- A `var` line in two steps: the tests, which give its row, and the row put at the end.
use Rattle.std.specs.Prelude.{ℕ, ◌*◌, ◌^◌, List, [], ◌∷◌, ◌++◌, Result, nat_lt, slice_index}
use Rattle.text.specs.Faults.{fault}
use Rattle.text.specs.declared.faults.LineFault.{LineFault}
use Rattle.text.specs.declared.faults.Wrong.TheVariants as wrong
use Rattle.words.specs.Words.{WordV}
use Rattle.tables.specs.Records.{TypesV, VariablesV}
use Rattle.tables.specs.Taking.{Tests, unless, used, unknown, full, number_in}
use Rattle.protocol.specs.declared.variables.VariableRow.{VariableRow}

-- The row: the variable's type, and the number of states with it.
abbrev pub row : TypesV → WordV → VariablesV → VariableRow
row types of s =
    let kind = number_in types.names of in
    record { kind = kind; states = s.states * slice_index types.sizes kind }

abbrev pub variable_tests : TypesV → WordV → WordV → VariablesV → Tests
variable_tests types name of s =
    used s.names name ∷ unknown types.names of ∷ full 32 s.names ∷ (nat_lt (2 ^ 40) (row types of s).states, fault wrong.TooManyStates 1) ∷ []

abbrev pub row_or_fault : TypesV → WordV → WordV → VariablesV → Result VariableRow LineFault
row_or_fault types name of s = unless (variable_tests types name of s) (row types of s)

-- The table with a variable of this name and this row at its end.
abbrev pub with_row : List ℕ → VariableRow → VariablesV → VariablesV
with_row name r s = record { names = s.names ++ name ∷ []; kinds = s.kinds ++ r.kind ∷ []; states = r.states }
