-- What the lines of the types, the variables and the initial formulas add. Each kind of line has its tests in the order of
-- their numbers, and of one number from the left: the first that applies is the line's fault.
use Rattle.std.specs.Prelude.{ℕ, ◌+◌, ◌-◌, ◌*◌, ◌^◌, Bool, List, [], ◌∷◌, ◌++◌, map, length, is_some, Result, nat_lt, slice_index_or}
use Rattle.std.specs.Option.{unwrap_or}
use Rattle.text.specs.Faults.{fault}
use Rattle.text.specs.declared.faults.LineFault.{LineFault}
use Rattle.text.specs.declared.faults.Wrong.TheVariants as wrong
use Rattle.words.specs.Repeats.{repeat_in}
use Rattle.words.specs.Words.{WordV}
use Rattle.words.specs.declared.Number.{Number}
use Rattle.tables.specs.Records.{TypesV, VariablesV, TermsV}
use Rattle.tables.specs.Taking.{Tests, unless, used, unknown, full, number_in, no_such, no_formula, value_words}

-- `type=NAME VALUE VALUE ..`: at most 8 types; 2 to 16 values, whose names stand together in one word with spaces. Their
-- columns in the line follow from the column of the first.
abbrev pub repeated : WordV → Bool × LineFault
repeated values = (
  is_some (repeat_in (value_words values) (value_words values)),
  fault wrong.Used (values.column + unwrap_or (repeat_in (value_words values) (value_words values)) 0 - 1),
)

abbrev pub type_tests : List (List ℕ) → WordV → WordV → Tests
type_tests names name values =
    used names name ∷ repeated values ∷ full 8 names ∷ (nat_lt 16 (length (value_words values)), fault wrong.TooMany 1) ∷ []

abbrev pub type_taken : WordV → WordV → TypesV → Result TypesV LineFault
type_taken name values s =
    unless (type_tests s.names name values)
    (record {
      names = s.names ++ name.bytes ∷ [];
      values = s.values ++ map (λ w. w.bytes) (value_words values) ∷ [];
      sizes = s.sizes ++ length (value_words values) ∷ [];
    })

-- `var=NAME TYPE`: at most 32 variables, with at most 2^40 states.
abbrev pub variable_taken : TypesV → WordV → WordV → VariablesV → Result VariablesV LineFault
variable_taken types name of s =
    let kind = number_in types.names of in
    let states = s.states * slice_index_or types.sizes kind 0 in
    unless
    (used s.names name ∷ unknown types.names of ∷ full 32 s.names ∷ (nat_lt (2 ^ 40) states, fault wrong.TooManyStates 1) ∷ [])
    (record { names = s.names ++ name.bytes ∷ []; kinds = s.kinds ++ kind ∷ []; states = states })

-- `init=N`: a formula; at most 8.
abbrev pub initial_taken : TermsV → Number → List ℕ → Result (List ℕ) LineFault
initial_taken terms n s = unless (no_such terms.sorts n ∷ no_formula terms.sorts n ∷ full 8 s ∷ []) (s ++ n.value ∷ [])
