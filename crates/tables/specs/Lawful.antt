-- The limits and sorts that the tables obey, in the words of the format. Nothing here speaks of reading.
use Rattle.std.specs.Prelude.{◌≡◌, ℕ, ◌*◌, ◌^◌, ◌<◌, ◌≤◌, true, List, [], ◌∷◌, map, length, take, Ok, slice_index, slice_index_or}
use Rattle.terms.specs.Sorts.{Declared, sort, sort_of_number}
use Rattle.terms.specs.declared.Sort.{Sort}
use Rattle.terms.specs.declared.Sort.TheVariants.{Formula}
use Rattle.terms.specs.declared.Term.TheVariants.{True}
use Rattle.words.specs.Words.{is_name}
use Rattle.tables.specs.Records.{TypesV, VariablesV, TermsV}

-- Each of them is a name, and none occurs twice.
pub record Names (names : List (List ℕ)) : Type 0 where
  pub each : (i : ℕ) → i < length names → is_name (slice_index_or names i []) ≡ true
  pub once : (i j : ℕ) → i < length names → j < length names → slice_index_or names i [] ≡ slice_index_or names j [] → i ≡ j

-- At most 8 types; each has 2 to 16 values, whose number is its size.
pub record LawfulTypes (t : TypesV) : Type 0 where
  pub few : length t.names ≤ 8
  pub named : Names t.names
  pub all_valued : length t.values ≡ length t.names
  pub values : (i : ℕ) → i < length t.values → (2 ≤ length (slice_index_or t.values i [])) × (length (slice_index_or t.values i []) ≤ 16) × Names (slice_index_or t.values i [])
  pub sizes : t.sizes ≡ map length t.values

-- The sizes of variables of these types, multiplied.
abbrev pub product : List ℕ → List ℕ → ℕ
product sizes [] = 1
product sizes (kind ∷ kinds) = slice_index sizes kind * product sizes kinds

-- At most 32 variables, each of a type; at most 2^40 states.
pub record LawfulVariables (t : TypesV) (v : VariablesV) : Type 0 where
  pub few : length v.names ≤ 32
  pub named : Names v.names
  pub all_typed : length v.kinds ≡ length v.names
  pub kinds : (i : ℕ) → i < length v.kinds → slice_index v.kinds i < length t.names
  pub states : v.states ≡ product t.sizes v.kinds
  pub few_states : v.states ≤ 2 ^ 40

-- At most 512 terms, each with the sort that it has among the declarations and the terms before it.
pub record LawfulTerms (d : Declared) (t : TermsV) : Type 0 where
  pub few : length t.terms ≤ 512
  pub all_sorted : length t.sorts ≡ length t.terms
  pub sorted : (i : ℕ) → i < length t.terms → sort d (take i t.sorts) (slice_index_or t.terms i True) ≡ Ok (slice_index_or t.sorts i Formula)

-- The term exists and has this sort.
pub record IsOf (s : Sort) (t : TermsV) (n : ℕ) : Type 0 where
  pub exists : n < length t.sorts
  pub is : sort_of_number t.sorts n ≡ s

-- What the types and variables declare.
abbrev pub declared_by : TypesV → VariablesV → Declared
declared_by t v = record { types = t.sizes; variables = v.kinds }
