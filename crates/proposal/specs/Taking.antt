-- What the lines of a proposal add. Each kind of line has its tests in the order of their numbers, and of one number from
-- the left: the first that applies is the line's fault.
use Rattle.std.specs.Prelude.{ℕ, ◌-◌, Bool, not, ◌&&◌, ◌||◌, List, [], ◌∷◌, ◌++◌, map, length, Result, ◌==◌, nat_lt, slice_index_or}
use Rattle.std.specs.Str.{bytes_eq}
use Rattle.text.specs.Faults.{fault}
use Rattle.text.specs.declared.faults.LineFault.{LineFault}
use Rattle.text.specs.declared.faults.Wrong.TheVariants as wrong
use Rattle.words.specs.Words.{WordV, bind}
use Rattle.words.specs.declared.Number.{Number}
use Rattle.line.specs.Forms.{KindV}
use Rattle.line.specs.Forms as kind
use Rattle.tables.specs.Records.{TermsV}
use Rattle.tables.specs.Taking.{Tests, unless, used, unknown, number_in, formula_tests, full}
use Rattle.proposal.specs.Records.{InvariantV}
use Rattle.proposal.specs.declared.claims.Cause.{Cause}
use Rattle.proposal.specs.declared.claims.Cause.TheVariants as cause
use Rattle.proposal.specs.declared.claims.Claim.{Claim}

-- `proposal=NAME`: a second one is one too many, and the name is that of the protocol.
abbrev pub name_taken : List ℕ → WordV → List ℕ → Result (List ℕ) LineFault
name_taken protocol name before =
    unless
    ((nat_lt 0 (length before), fault wrong.TooMany 1) ∷ (not (bytes_eq name.bytes protocol), fault wrong.AnotherProtocol name.column) ∷ [])
    name.bytes

-- The names of the invariants above a line.
abbrev pub invariant_names : List InvariantV → List (List ℕ)
invariant_names = map (λ i. i.name)

-- `inv=NAME N`: a new name and a formula; at most 64 invariants.
abbrev pub formula_in : TermsV → WordV → Number → List InvariantV → Result ℕ LineFault
formula_in terms name n s = unless (used (invariant_names s) name ∷ formula_tests terms.sorts n) n.value

abbrev pub take_invariant : TermsV → ℕ → WordV → Number → List InvariantV → Result (List InvariantV) LineFault
take_invariant terms line name n s =
    bind (formula_in terms name n s) (λ formula.
    unless (full 64 s ∷ []) (s ++ record { name = name.bytes; formula = formula; line = line } ∷ []))

-- The cause that a kind names: a partner is one of the invariants.
abbrev pub kind_tests : List (List ℕ) → KindV → Tests
kind_tests names kind.Guard = []
kind_tests names kind.Unchanged = []
kind_tests names (kind.Partner partner) = unknown names partner ∷ []

abbrev pub cause_of : List (List ℕ) → KindV → Cause
cause_of names kind.Guard = cause.Guard
cause_of names kind.Unchanged = cause.Unchanged
cause_of names (kind.Partner partner) = cause.Partner (number_in names partner)

-- The claim of a `cause` line by numbers, or its first name of nothing.
abbrev pub claim_of : List (List ℕ) → List (List ℕ) → ℕ → WordV → WordV → KindV → Result Claim LineFault
claim_of rules invariants line rule invariant kind =
    unless
    (unknown rules rule ∷ unknown invariants invariant ∷ kind_tests invariants kind)
    (record { rule = number_in rules rule; invariant = number_in invariants invariant; cause = cause_of invariants kind; line = line })

-- Claims ascend by invariant, then by rule.
abbrev pub before : Claim → Claim → Bool
before a b = nat_lt a.invariant b.invariant || (a.invariant == b.invariant && nat_lt a.rule b.rule)

-- The claim comes after the last of those above it.
abbrev pub no_claim : Claim
no_claim = record { rule = 0; invariant = 0; cause = cause.Guard; line = 0 }

abbrev pub comes_after : List Claim → Claim → Bool
comes_after s c = length s == 0 || before (slice_index_or s (length s - 1) no_claim) c

-- `cause=RULE INV KIND`: its names first, then at most 4,096 claims, then their order.
abbrev pub claim_taken : List (List ℕ) → List (List ℕ) → ℕ → WordV → WordV → KindV → List Claim → Result (List Claim) LineFault
claim_taken rules invariants line rule invariant kind s =
    bind (claim_of rules invariants line rule invariant kind) (λ c.
    unless (full 4096 s ∷ (not (comes_after s c), fault wrong.NotAscending 1) ∷ []) (s ++ c ∷ []))
