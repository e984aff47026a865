-- The text of a proposal: this is the format of its file.
use Rattle.std.specs.Prelude.{ℕ, List, [], ◌∷◌, ◌++◌, map, slice_index_or}
use Rattle.line.specs.declared.lines.File.TheVariants as file
use Rattle.terms.specs.declared.Term.{Term}
use Rattle.writing.specs.Forms.{KindSaid}
use Rattle.writing.specs.Forms as kind
use Rattle.writing.specs.Said.{Said}
use Rattle.writing.specs.Said as line
use Rattle.writing.specs.Written.{written_lines}
use Rattle.tables.specs.Written.{form_of}
use Rattle.protocol.specs.Records.{ProtocolV}
use Rattle.proposal.specs.Records.{InvariantV, ProposalV}
use Rattle.proposal.specs.Taking.{invariant_names}
use Rattle.proposal.specs.declared.claims.Cause.{Cause}
use Rattle.proposal.specs.declared.claims.Cause.TheVariants as cause
use Rattle.proposal.specs.declared.claims.Claim.{Claim}

-- A term, with the protocol's names of variables, types and values.
abbrev pub term_said : ProtocolV → Term → Said
term_said p t = line.Term (form_of p.types p.variables t)

-- An invariant: its name and its formula.
abbrev pub invariant_said : InvariantV → Said
invariant_said i = line.Inv i.name i.formula

-- A claim by names: of its rule, of its invariant, and of the partner that its cause may have.
abbrev pub kind_of : List (List ℕ) → Cause → KindSaid
kind_of invariants cause.Guard = kind.Guard
kind_of invariants cause.Unchanged = kind.Unchanged
kind_of invariants (cause.Partner partner) = kind.Partner (slice_index_or invariants partner [])

abbrev pub claim_said : List (List ℕ) → List (List ℕ) → Claim → Said
claim_said rules invariants c = line.Cause (slice_index_or rules c.rule []) (slice_index_or invariants c.invariant []) (kind_of invariants c.cause)

-- The names of the rules of a protocol.
abbrev pub rule_names : ProtocolV → List (List ℕ)
rule_names p = map (λ r. r.name) p.rules

-- What the lines say: the name, then each term, each invariant and each claim, and then the end.
abbrev pub lines_before_end : ProtocolV → ProposalV → List Said
lines_before_end p q =
    line.Proposal q.name
    ∷ (map (term_said p) q.terms.terms
    ++ (map invariant_said q.invariants
    ++ map (claim_said (rule_names p) (invariant_names q.invariants)) q.claims))

abbrev pub lines_of : ProtocolV → ProposalV → List Said
lines_of p q = lines_before_end p q ++ line.End ∷ []

-- The bytes of the file.
abbrev pub written : ProtocolV → ProposalV → List ℕ
written p q = written_lines file.Proposal (lines_of p q)
