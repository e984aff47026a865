-- The limits and sorts that every protocol obeys, in the words of the format. Nothing here speaks of reading.
use Rattle.std.specs.Prelude.{◌≡◌, ℕ, ◌<◌, ◌≤◌, true, List, length, slice_index}
use Rattle.terms.specs.declared.Sort.TheVariants.{Formula}
use Rattle.words.specs.Words.{is_name}
use Rattle.rules.specs.Lawful.{LawfulRules}
use Rattle.tables.specs.Lawful.{LawfulTypes, LawfulVariables, LawfulTerms, IsOf, declared_by}
use Rattle.tables.specs.Records.{TermsV}
use Rattle.protocol.specs.Records.{ProtocolV}

-- At most 8 initial formulas.
pub record LawfulInitial (t : TermsV) (initial : List ℕ) : Type 0 where
  pub few : length initial ≤ 8
  pub each : (i : ℕ) → i < length initial → IsOf Formula t (slice_index initial i)

-- A protocol within all limits, with all sorts right.
pub record Obeys (p : ProtocolV) : Type 0 where
  pub types : LawfulTypes p.types
  pub variables : LawfulVariables p.types p.variables
  pub terms : LawfulTerms (declared_by p.types p.variables) p.terms
  pub initial : LawfulInitial p.terms p.initial
  pub rules : LawfulRules p.variables p.terms p.rules

-- A protocol with at least the lines that a file needs: a name, a type, a variable, a term, an initial formula.
pub record Complete (p : ProtocolV) : Type 0 where
  pub name : is_name p.name ≡ true
  pub types : 1 ≤ length p.types.names
  pub variables : 1 ≤ length p.variables.names
  pub terms : 1 ≤ length p.terms.terms
  pub initial : 1 ≤ length p.initial

-- What every protocol that was read from a file is.
pub record Lawful (p : ProtocolV) : Type 0 where
  pub obeys : Obeys p
  pub complete : Complete p
