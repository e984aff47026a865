-- A proposal as a record: what its file says, with names as bytes and everything else by number from 0.
use Rattle.std.specs.Prelude.{ℕ, List, [], ◌++◌}
use Rattle.tables.specs.Records.{TermsV, no_terms}
use Rattle.proposal.specs.declared.claims.Claim.{Claim}

-- An invariant: its name, the term that is its formula, and the line of the file that it stands on.
pub record InvariantV : Type 0 where
  pub name : List ℕ
  pub formula : ℕ
  pub line : ℕ

-- A proposal: the name of its protocol, its terms, numbered on from the protocol's, its invariants, and its claims: for
-- pairs of a rule and an invariant, the cause that keeps the invariant.
pub record ProposalV : Type 0 where
  pub name : List ℕ
  pub terms : TermsV
  pub invariants : List InvariantV
  pub claims : List Claim

-- The empty proposal: no name and no lines.
abbrev pub empty : ProposalV
empty = record { name = []; terms = no_terms; invariants = []; claims = [] }

-- Terms and further terms, numbered on from them.
abbrev pub followed_by : TermsV → TermsV → TermsV
followed_by s t = record { terms = s.terms ++ t.terms; sorts = s.sorts ++ t.sorts }
