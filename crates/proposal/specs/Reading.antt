-- Reading a proposal file with its protocol: what each line adds, in its turn, and the record that is left at the end.
use Rattle.std.specs.Prelude.{ℕ, Bool, cond, List, map, length, Ok, Err, Result, ◌==◌}
use Rattle.text.specs.Faults.{fault}
use Rattle.text.specs.declared.faults.FileFault.{FileFault}
use Rattle.text.specs.declared.faults.LineFault.{LineFault}
use Rattle.text.specs.declared.faults.Wrong.TheVariants as wrong
use Rattle.words.specs.Words.{bind}
use Rattle.line.specs.Lines.{LineV}
use Rattle.line.specs.Lines as line
use Rattle.line.specs.Reading.{read, recognised}
use Rattle.line.specs.Rows.{row_of, may_follow, last_row}
use Rattle.line.specs.declared.lines.File.TheVariants as file
use Rattle.reading.specs.Files.{read_through}
use Rattle.tables.specs.Records.{TermsV, behind}
use Rattle.tables.specs.Taking.{term_taken}
use Rattle.protocol.specs.Records.{ProtocolV}
use Rattle.proposal.specs.Records.{InvariantV, ProposalV, empty}
use Rattle.proposal.specs.Taking.{name_taken, invariant_names, take_invariant, claim_taken}
use Rattle.proposal.specs.declared.claims.Claim.{Claim}

-- The proposal with one part changed.
abbrev pub with_name : ProposalV → List ℕ → ProposalV
with_name q name = record { name = name; terms = q.terms; invariants = q.invariants; claims = q.claims }

abbrev pub with_terms : ProposalV → TermsV → ProposalV
with_terms q terms = record { name = q.name; terms = terms; invariants = q.invariants; claims = q.claims }

abbrev pub with_invariants : ProposalV → List InvariantV → ProposalV
with_invariants q invariants = record { name = q.name; terms = q.terms; invariants = invariants; claims = q.claims }

abbrev pub with_claims : ProposalV → List Claim → ProposalV
with_claims q claims = record { name = q.name; terms = q.terms; invariants = q.invariants; claims = claims }

-- What the line of a number adds to a proposal of protocol `p`, or its fault. While a file is read, the terms are the
-- protocol's and then the proposal's. Lines of the other file have no place here.
abbrev pub line_taken : ProtocolV → ℕ → LineV → ProposalV → Result ProposalV LineFault
line_taken p number (line.Proposal name) q = bind (name_taken p.name name q.name) (λ made. Ok (with_name q made))
line_taken p number (line.Term form) q = bind (term_taken p.types p.variables form q.terms) (λ made. Ok (with_terms q made))
line_taken p number (line.Inv name formula) q = bind (take_invariant q.terms number name formula q.invariants) (λ made. Ok (with_invariants q made))
line_taken p number (line.Cause rule invariant kind) q =
    bind (claim_taken (map (λ r. r.name) p.rules) (invariant_names q.invariants) number rule invariant kind q.claims) (λ made. Ok (with_claims q made))
line_taken p number line.End q = Ok q
line_taken p number (line.Protocol name) q = Err (fault wrong.Key 1)
line_taken p number (line.«Type» name values) q = Err (fault wrong.Key 1)
line_taken p number (line.Var name of) q = Err (fault wrong.Key 1)
line_taken p number (line.Init formula) q = Err (fault wrong.Key 1)
line_taken p number (line.Rule name guard) q = Err (fault wrong.Key 1)
line_taken p number (line.Set variable term) q = Err (fault wrong.Key 1)

-- Half a file: its protocol, the row of the last line, and what the lines made so far.
pub record Draft : Type 0 where
  pub protocol : ProtocolV
  pub row : ℕ
  pub made : ProposalV

-- What is made of a line: its key has to be the file's and may stand here; then its words; then what it adds.
abbrev pub taken : Draft → ℕ → List ℕ → Result Draft LineFault
taken draft number bytes =
    bind (recognised file.Proposal bytes) (λ p.
    cond (may_follow file.Proposal draft.row p.0)
    (bind (read file.Proposal p.0 p.1) (λ l.
    bind (line_taken draft.protocol number l draft.made) (λ made.
    Ok (record { protocol = draft.protocol; row = row_of file.Proposal p.0; made = made }))))
    (Err (fault wrong.Key 1)))

-- Before the first line, and after the last.
abbrev pub begun : ProtocolV → Draft
begun p = record { protocol = p; row = 0; made = with_terms empty p.terms }

abbrev pub ended : Draft → Bool
ended draft = draft.row == last_row file.Proposal

-- The proposal that a file says with its protocol, or the file's fault. Its terms are those behind the protocol's.
abbrev pub finished : ProtocolV → ProposalV → ProposalV
finished p made = with_terms made (behind (length p.terms.terms) made.terms)

abbrev pub proposal_of : ProtocolV → List ℕ → Result ProposalV FileFault
proposal_of p text = bind (read_through taken ended (begun p) text) (λ draft. Ok (finished p draft.made))
