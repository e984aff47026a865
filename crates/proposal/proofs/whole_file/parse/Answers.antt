use Rattle.std.proofs.Common.{◌≡◌, ◌⊎◌, Ok, sym, ap, ◌∙◌, subst, inl, ⊎_elim}
use mathlib.Core.Logic.{∥∥₁_map, ∥∥₁_elim}
use mathlib.Core.List.{is_set}
use native.Mathlib.Nat.{ℕ_set}
use Rattle.words.specs.Words.{bind}
use Rattle.reading.specs.Files.{read_through}
use Rattle.tables.specs.Lawful.{LawfulTerms, declared_by}
use Rattle.tables.proofs.TermLaws.{lawful_no_terms}
use Rattle.protocol.specs.Answers.{protocol_seen}
use Rattle.protocol.specs.Lawful.{Lawful}
use Rattle.protocol.specs.Records.{ProtocolV}
use Rattle.protocol.specs.Records as protocol
use Rattle.proposal.specs.Drafts.{draft_seen}
use Rattle.proposal.specs.Lawful.{LawfulWith}
use Rattle.proposal.specs.Reading.{Draft, begun, taken, ended, finished}
use Rattle.proposal.specs.Views.{parts_seen}
use Rattle.proposal.specs.Written.{written}
use Rattle.proposal.proofs.Kept.{lawful_read, protocol_read}
use Rattle.proposal.proofs.ReadBack.{left_written}
use Rattle.proposal.proofs.whole_file.parse.Goals as goal
use Rattle.proposal.proofs.whole_file.parse.Goals.{In_ok-parts}

-- the terms of every protocol are lawful
lawful_terms : (p : ProtocolV) → Lawful p ⊎ (p ≡ protocol.empty) → LawfulTerms (declared_by p.types p.variables) p.terms
lawful_terms p =
    ⊎_elim
    (λ lawful. lawful.obeys.terms)
    (λ none. subst (λ (q : ProtocolV). LawfulTerms (declared_by q.types q.variables) q.terms) (sym none) (lawful_no_terms (declared_by (protocol.empty).types (protocol.empty).variables)))

-- what was read of the file
was_read : (c : In_ok-parts) → read_through taken ended (begun (protocol_seen c.args.protocol.now)) c.args.bytes.now ≡ Ok (draft_seen c.read_file.new.reader)
was_read c =
    ap (λ (d : Draft). read_through taken ended d c.args.bytes.now) (sym c.in_ok-reader.ensures.nothing_is_read)
    ∙ c.in_ok-read_file.ensures.all_its_lines_or_its_first_fault

-- what is left of it
was_left : (c : In_ok-parts) → finished (protocol_seen c.args.protocol.now) (draft_seen c.read_file.new.reader).made ≡ parts_seen c.in_ok-parts.parts
was_left c =
    let d = draft_seen c.read_file.new.reader in
    ap (λ p. finished p d.made) (protocol_read (protocol_seen c.args.protocol.now) c.args.bytes.now d (was_read c))
    ∙ sym c.in_ok-parts.ensures.the_terms_behind_those_of_the_protocol

lawful : (c : In_ok-parts) → ∥ LawfulWith (protocol_seen c.args.protocol.now) (parts_seen c.in_ok-parts.parts) ∥₁
lawful c =
    let p = protocol_seen c.args.protocol.now in
    ∥∥₁_map c.args.protocol.now.lawful_or_empty (λ either.
    subst (LawfulWith p) (was_left c) (lawful_read p c.args.bytes.now (draft_seen c.read_file.new.reader) (lawful_terms p either) (was_read c)))

-- and it is written with the file's bytes
written_again : (c : In_ok-parts) → written (protocol_seen c.args.protocol.now) (parts_seen c.in_ok-parts.parts) ≡ c.args.bytes.now
written_again c =
    let p = protocol_seen c.args.protocol.now in
    let text = c.args.bytes.now in
    let q = parts_seen c.in_ok-parts.parts in
    ∥∥₁_elim c.args.protocol.now.lawful_or_empty (is_set ℕ_set (written p q) text) (λ either.
    subst (λ made. written p made ≡ text) (was_left c) (left_written p (lawful_terms p either) text (draft_seen c.read_file.new.reader) (was_read c)))

pub invariant_of-result : goal.invariant_of-result
invariant_of-result c =
    record { lawful_or_empty = ∥∥₁_map (lawful c) (λ law. inl (protocol_seen c.args.protocol.now, law)) }

pub returns : goal.returns
returns c =
    let come = (goal.at.returns c).In_ok-parts in
    let p = protocol_seen c.args.protocol.now in
    record {
      the_proposal_that_the_file_says_or_its_fault = ap (λ r. bind r (λ draft. Ok (finished p draft.made))) (was_read come) ∙ ap Ok (was_left come);
      what_is_read_obeys_all_limits_and_sorts = lawful come;
      what_is_read_is_its_written_form = written_again come;
    }
