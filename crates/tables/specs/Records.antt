-- The tables as records: names as bytes, and everything else by number from 0.
use Rattle.std.specs.Prelude.{ℕ, List, [], drop}
use Rattle.terms.specs.declared.Sort.{Sort}
use Rattle.terms.specs.declared.Term.{Term}

-- The types: their names, and of each type the names of its values and how many these are.
pub record TypesV : Type 0 where
  pub names : List (List ℕ)
  pub values : List (List (List ℕ))
  pub sizes : List ℕ

-- The variables: their names, of each its type, and the number of states, which is their sizes multiplied.
pub record VariablesV : Type 0 where
  pub names : List (List ℕ)
  pub kinds : List ℕ
  pub states : ℕ

-- The terms, and of each its sort.
pub record TermsV : Type 0 where
  pub terms : List Term
  pub sorts : List Sort

-- The empty tables. Without variables there is one state, as there is nothing to choose.
abbrev pub no_types : TypesV
no_types = record { names = []; values = []; sizes = [] }

abbrev pub no_variables : VariablesV
no_variables = record { names = []; kinds = []; states = 1 }

abbrev pub no_terms : TermsV
no_terms = record { terms = []; sorts = [] }

-- The terms behind the first `n`.
abbrev pub behind : ℕ → TermsV → TermsV
behind n t = record { terms = drop n t.terms; sorts = drop n t.sorts }
