-- A `type` line in two steps: its tests, which count its values, and what it adds once they have passed.
use Rattle.std.specs.Prelude.{ℕ, List, [], ◌∷◌, ◌++◌, length, Result}
use Rattle.text.specs.declared.faults.LineFault.{LineFault}
use Rattle.words.specs.Words.{WordV}
use Rattle.tables.specs.Records.{TypesV}
use Rattle.tables.specs.Taking.{unless, value_words}
use Rattle.protocol.specs.Taking.{type_tests}

-- The number of its values, or the fault of the first test that applies. The names are those of the types above it.
abbrev pub type_size : List (List ℕ) → WordV → WordV → Result ℕ LineFault
type_size names name values = unless (type_tests names name values) (length (value_words values))

-- The types with one more: its name, its values and their number.
abbrev pub with_type : TypesV → List ℕ → List (List ℕ) → ℕ → TypesV
with_type s name values size =
    record { names = s.names ++ name ∷ []; values = s.values ++ values ∷ []; sizes = s.sizes ++ size ∷ [] }
