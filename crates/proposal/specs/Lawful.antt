-- The limits and sorts that every proposal obeys with its protocol, in the words of the format. Nothing here speaks of
-- reading.
use Rattle.std.specs.Prelude.{◌≡◌, ℕ, ◌+◌, ◌<◌, ◌≤◌, ◌⊎◌, List, length, get_or, IfSome, slice_index_or}
use Rattle.terms.specs.declared.Sort.TheVariants.{Formula}
use Rattle.tables.specs.Lawful.{Names, LawfulTerms, IsOf, declared_by}
use Rattle.tables.specs.Records.{TermsV}
use Rattle.protocol.specs.Records.{ProtocolV}
use Rattle.proposal.specs.Causes.{partner_of}
use Rattle.proposal.specs.Records.{InvariantV, ProposalV, followed_by}
use Rattle.proposal.specs.Taking.{invariant_names}
use Rattle.proposal.specs.declared.claims.Claim.{Claim}

-- At most 64 invariants, each with a name of its own and a formula. They stand on lines one after the other.
pub record LawfulInvariants (t : TermsV) (first_line : ℕ) (invariants : List InvariantV) : Type 0 where
  pub few : length invariants ≤ 64
  pub named : Names (invariant_names invariants)
  pub each : (i : ℕ) (none : InvariantV) → i < length invariants → IsOf Formula t (get_or invariants i none).formula
  pub lines : (i : ℕ) (none : InvariantV) → i < length invariants → (get_or invariants i none).line ≡ first_line + i

-- The rule, the invariant and the partner of a claim exist.
pub record LawfulClaim (rules invariants : ℕ) (c : Claim) : Type 0 where
  pub rule : c.rule < rules
  pub invariant : c.invariant < invariants
  pub partner : IfSome (partner_of c.cause) (λ partner. partner < invariants)

-- Of two claims the one for the lower invariant comes first; of two for one invariant, the one for the lower rule.
abbrev pub Before : Claim → Claim → Type 0
Before a b = (a.invariant < b.invariant) ⊎ ((a.invariant ≡ b.invariant) × (a.rule < b.rule))

-- At most 4,096 claims, each after the one above it. They stand on lines one after the other.
pub record LawfulClaims (rules invariants first_line : ℕ) (claims : List Claim) : Type 0 where
  pub few : length claims ≤ 4096
  pub each : (i : ℕ) (none : Claim) → i < length claims → LawfulClaim rules invariants (slice_index_or claims i none)
  pub ascending : (i : ℕ) (none : Claim) → i + 1 < length claims → Before (slice_index_or claims i none) (slice_index_or claims (i + 1) none)
  pub lines : (i : ℕ) (none : Claim) → i < length claims → (get_or claims i none).line ≡ first_line + i

-- A proposal within all limits, with all sorts right, for this protocol: it has the protocol's name; its terms follow the
-- protocol's, and all together obey the limits of terms. Its file begins with the line of its name and those of its terms.
pub record LawfulWith (p : ProtocolV) (q : ProposalV) : Type 0 where
  pub name : q.name ≡ p.name
  pub terms : LawfulTerms (declared_by p.types p.variables) (followed_by p.terms q.terms)
  pub invariants : LawfulInvariants (followed_by p.terms q.terms) (2 + length q.terms.terms) q.invariants
  pub claims : LawfulClaims (length p.rules) (length q.invariants) (2 + length q.terms.terms + length q.invariants) q.claims
