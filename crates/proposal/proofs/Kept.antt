-- What holds of half a proposal file that was read, line by line, and so of a whole one.
use Rattle.std.proofs.Common.{◌≡◌, ℕ, ◌+◌, ◌<◌, ◌≤◌, true, not, ltb, List, [], ◌∷◌, ◌++◌, map, length, Ok, Err, Result, sym, refl, ap, ◌∙◌, subst, ⊎_elim, arith}
use Rattle.std.proofs.lemmas.List.{length_push, length-map, append_assoc, append-nil, drop_at}
use Rattle.std.proofs.lemmas.Slice.Eq.{bytes_eq-Decides}
use Rattle.std.proofs.lemmas.Bool.{ltb-false, eqb-true, not-false, cases_lt, false≢true}
use Rattle.std.specs.Str.{bytes_eq}
use Rattle.text.specs.Faults.{fault}
use Rattle.text.specs.declared.faults.LineFault.{LineFault}
use Rattle.text.specs.declared.faults.Wrong.TheVariants as wrong
use Rattle.words.specs.Words.{WordV, is_name, bind, first_place}
use Rattle.words.specs.declared.Number.{Number}
use Rattle.keys.specs.declared.Key.TheVariants as key
use Rattle.line.specs.Forms.{FormV, KindV}
use Rattle.line.specs.Lines.{LineV, key_of_line}
use Rattle.line.specs.Lines as line
use Rattle.line.specs.Reading.{read, recognised}
use Rattle.line.specs.Rows.{row_of, may_follow}
use Rattle.line.specs.declared.lines.File.TheVariants as file
use Rattle.reading.proofs.Laws.{kept_read}
use Rattle.reading.specs.Files.{read_through}
use Rattle.tables.specs.Lawful.{LawfulTerms, declared_by}
use Rattle.tables.specs.Records.{TermsV, no_terms, behind}
use Rattle.tables.specs.Taking.{new_term, term_taken}
use Rattle.tables.proofs.Answered.{bind_ok, first_ok, same_ok, unless_ok}
use Rattle.tables.proofs.LineLaws.{LineNamed, line_named, line_key}
use Rattle.tables.proofs.RowLaws.{within}
use Rattle.tables.proofs.TermLaws.{term_lawful}
use Rattle.protocol.specs.Records.{ProtocolV}
use Rattle.proposal.specs.Lawful.{LawfulInvariants, LawfulClaims, LawfulWith}
use Rattle.proposal.specs.Reading.{Draft, begun, ended, taken, line_taken, finished, with_name, with_terms, with_invariants, with_claims}
use Rattle.proposal.specs.Records.{InvariantV, ProposalV, followed_by}
use Rattle.proposal.specs.Taking.{name_taken, invariant_names, take_invariant, claim_taken}
use Rattle.proposal.specs.declared.claims.Claim.{Claim}
use Rattle.proposal.proofs.ClaimLaws.{no_invariants, no_claims, invariant_lawful, claim_lawful}

-- What holds of half a file, with the number of its next line: all laws; `own` are the terms behind the protocol's; what is
-- still empty by the row of the last line; and how many lines there are.
pub record Kept (draft : Draft) (number : ℕ) : Type 0 where
  pub own : TermsV
  pub split : draft.made.terms ≡ followed_by draft.protocol.terms own
  pub terms : LawfulTerms (declared_by draft.protocol.types draft.protocol.variables) draft.made.terms
  pub invariants : LawfulInvariants draft.made.terms (2 + length own.terms) draft.made.invariants
  pub claims : LawfulClaims (length draft.protocol.rules) (length draft.made.invariants) (2 + length own.terms + length draft.made.invariants) draft.made.claims
  pub name : 1 ≤ draft.row → draft.made.name ≡ draft.protocol.name
  pub named : 1 ≤ draft.row → is_name draft.made.name ≡ true
  pub no_own : draft.row ≤ 1 → length own.terms ≡ 0
  pub no_invariants : draft.row ≤ 2 → draft.made.invariants ≡ []
  pub no_claims : draft.row ≤ 3 → draft.made.claims ≡ []
  pub first : draft.row ≡ 0 → number ≡ 1
  pub counted : 1 ≤ draft.row → draft.row ≤ 4 → number ≡ 2 + length own.terms + length draft.made.invariants + length draft.made.claims

-- a draft by its parts
abbrev pub draft_at : ProtocolV → ℕ → ProposalV → Draft
draft_at p row made = record { protocol = p; row = row; made = made }

-- what is not empty is not the empty name
name_long : (name : List ℕ) → is_name name ≡ true → 0 < length name
name_long [] is = absurd (false≢true is)
name_long (b ∷ bytes) is = omega arith

-- the name, and one more of each kind
module _ (p : ProtocolV) (row : ℕ) (q : ProposalV) (number : ℕ) (kept : Kept (draft_at p row q) number) where
  -- without a name there is no line yet
  pub first_line : length q.name ≤ 0 → row ≡ 0
  first_line none = ⊎_elim (λ low. omega arith) (λ high. absurd (omega (arith, name_long q.name (kept.named high)))) (cases_lt row 1)

  name_line : (name : WordV) (after : List ℕ) → is_name name.bytes ≡ true → row ≤ 1 → name_taken p.name name q.name ≡ Ok after → Kept (draft_at p 1 (with_name q after)) (number + 1)
  name_line name after named low is =
      let out = unless_ok ((ltb 0 (length q.name), fault wrong.TooMany 1) ∷ (not (bytes_eq name.bytes p.name), fault wrong.AnotherProtocol name.column) ∷ []) name.bytes after is in
      let none : length q.name ≤ 0 = ltb-false 0 (length q.name) out.1.0 in
      let same : name.bytes ≡ p.name = (bytes_eq-Decides name.bytes p.name).0 (not-false (bytes_eq name.bytes p.name) out.1.1.0) in
      let start = first_line none in
      record {
        own = kept.own;
        split = kept.split;
        terms = kept.terms;
        invariants = kept.invariants;
        claims = kept.claims;
        name = λ high. sym out.0 ∙ same;
        named = λ high. subst (λ bytes. is_name bytes ≡ true) out.0 named;
        no_own = λ l. kept.no_own low;
        no_invariants = λ l. kept.no_invariants (omega arith);
        no_claims = λ l. kept.no_claims (omega arith);
        first = λ zero. absurd (omega arith);
        counted = λ l h. omega (arith, kept.first start, kept.no_own low, ap length (kept.no_invariants (omega arith)), ap length (kept.no_claims (omega arith)));
      }

  term_line : (form : FormV) (after : TermsV) → (1 ≤ row) × (row ≤ 2) → term_taken p.types p.variables form q.terms ≡ Ok after → Kept (draft_at p 2 (with_terms q after)) (number + 1)
  term_line form after within is =
      let made = bind_ok (new_term p.types p.variables form q.terms) _ after is in
      let t = made.0 in
      let own = kept.own in
      let more : TermsV = record { terms = own.terms ++ t.0 ∷ []; sorts = own.sorts ++ t.1 ∷ [] } in
      let terms-are : after.terms ≡ p.terms.terms ++ more.terms =
      ap (λ (x : TermsV). x.terms) (sym (same_ok _ after made.2)) ∙ ap (λ (x : TermsV). x.terms ++ t.0 ∷ []) kept.split ∙ append_assoc p.terms.terms own.terms (t.0 ∷ []) in
      let sorts-are : after.sorts ≡ p.terms.sorts ++ more.sorts =
      ap (λ (x : TermsV). x.sorts) (sym (same_ok _ after made.2)) ∙ ap (λ (x : TermsV). x.sorts ++ t.1 ∷ []) kept.split ∙ append_assoc p.terms.sorts own.sorts (t.1 ∷ []) in
      let none = kept.no_invariants within.1 in
      let no_more = kept.no_claims (omega arith) in
      record {
        own = more;
        split = λ i. record { terms = terms-are i; sorts = sorts-are i };
        terms = term_lawful p.types p.variables form q.terms after kept.terms is;
        invariants = subst (LawfulInvariants after (2 + length more.terms)) (sym none) (no_invariants after (2 + length more.terms));
        claims = subst (LawfulClaims (length p.rules) (length q.invariants) (2 + length more.terms + length q.invariants)) (sym no_more) (no_claims (length p.rules) (length q.invariants) (2 + length more.terms + length q.invariants));
        name = λ high. kept.name within.0;
        named = λ high. kept.named within.0;
        no_own = λ low. absurd (omega arith);
        no_invariants = λ low. none;
        no_claims = λ low. no_more;
        first = λ zero. absurd (omega arith);
        counted = λ low high. omega (arith, kept.counted within.0 (omega arith), length_push own.terms t.0);
      }

  invariant_line : (name : WordV) (n : Number) (after : List InvariantV) → is_name name.bytes ≡ true → (1 ≤ row) × (row ≤ 3) → take_invariant q.terms number name n q.invariants ≡ Ok after → Kept (draft_at p 3 (with_invariants q after)) (number + 1)
  invariant_line name n after named within is =
      let own = kept.own in
      let no_more = kept.no_claims within.1 in
      let count = kept.counted within.0 (omega arith) in
      let here : number ≡ 2 + length own.terms + length q.invariants = omega (arith, count, ap length no_more) in
      let out = invariant_lawful q.terms (2 + length own.terms) number name n q.invariants after kept.invariants named here is in
      record {
        own = own;
        split = kept.split;
        terms = kept.terms;
        invariants = out.0;
        claims = subst (LawfulClaims (length p.rules) (length after) (2 + length own.terms + length after)) (sym no_more) (no_claims (length p.rules) (length after) (2 + length own.terms + length after));
        name = λ high. kept.name within.0;
        named = λ high. kept.named within.0;
        no_own = λ low. absurd (omega arith);
        no_invariants = λ low. absurd (omega arith);
        no_claims = λ low. no_more;
        first = λ zero. absurd (omega arith);
        counted = λ low high. omega (arith, count, out.1);
      }

  cause_line : (rule invariant : WordV) (k : KindV) (after : List Claim) → (1 ≤ row) × (row ≤ 4) → claim_taken (map (λ r. r.name) p.rules) (invariant_names q.invariants) number rule invariant k q.claims ≡ Ok after → Kept (draft_at p 4 (with_claims q after)) (number + 1)
  cause_line rule invariant k after within is =
      let own = kept.own in
      let rules = map (λ r. r.name) p.rules in
      let names = invariant_names q.invariants in
      let line = 2 + length own.terms + length q.invariants in
      let rules-long : length rules ≡ length p.rules = length-map p.rules (λ r. r.name) in
      let names-long : length names ≡ length q.invariants = length-map q.invariants (λ i. i.name) in
      let count = kept.counted within.0 within.1 in
      let lawful : LawfulClaims (length rules) (length names) line q.claims =
      subst (λ a. LawfulClaims a (length names) line q.claims) (sym rules-long) (subst (λ b. LawfulClaims (length p.rules) b line q.claims) (sym names-long) kept.claims) in
      let out = claim_lawful rules names line q.claims lawful number rule invariant k after count is in
      record {
        own = own;
        split = kept.split;
        terms = kept.terms;
        invariants = kept.invariants;
        claims = subst (λ a. LawfulClaims a (length q.invariants) line after) rules-long (subst (λ b. LawfulClaims (length rules) b line after) names-long out.0);
        name = λ high. kept.name within.0;
        named = λ high. kept.named within.0;
        no_own = λ low. absurd (omega arith);
        no_invariants = λ low. absurd (omega arith);
        no_claims = λ low. absurd (omega arith);
        first = λ zero. absurd (omega arith);
        counted = λ low high. omega (arith, count, out.1);
      }

  end_line : (1 ≤ row) × (row ≤ 4) → Kept (draft_at p 5 q) (number + 1)
  end_line within =
      record {
        own = kept.own;
        split = kept.split;
        terms = kept.terms;
        invariants = kept.invariants;
        claims = kept.claims;
        name = λ high. kept.name within.0;
        named = λ high. kept.named within.0;
        no_own = λ low. absurd (omega arith);
        no_invariants = λ low. absurd (omega arith);
        no_claims = λ low. absurd (omega arith);
        first = λ zero. absurd (omega arith);
        counted = λ low high. absurd (omega arith);
      }

pub not_five : (row : ℕ) → row ≤ 5 → (row ≡ 5 → ⊥) → row ≤ 4
not_five row high other = ⊎_elim (λ low. omega arith) (λ past. absurd (other (omega arith))) (cases_lt row 5)

-- what a line's part is put into
pub part_ok : {A : Type 0} (r : Result A LineFault) (put : A → ProposalV) (made : ProposalV) → bind r (λ x. Ok (put x)) ≡ Ok made → (x : A) × (r ≡ Ok x) × (put x ≡ made)
part_ok r put made is = let out = bind_ok r (λ x. Ok (put x)) made is in (out.0, out.1, same_ok (put out.0) made out.2)

pub no_such_line : {A : Type 0} {e : LineFault} {x : A} → Err e ≡ Ok x → ⊥
no_such_line is = let z : ◌≡◌ {A = ℕ} 0 1 = cc in omega arith

module _ (p : ProtocolV) (row : ℕ) (q made : ProposalV) (number : ℕ) (kept : Kept (draft_at p row q) number) where
  line_kept : (l : LineV) → may_follow file.Proposal row (key_of_line l) ≡ true → LineNamed l → line_taken p number l q ≡ Ok made → Kept (draft_at p (row_of file.Proposal (key_of_line l)) made) (number + 1)
  line_kept (line.Proposal name) may named is =
      let out = part_ok (name_taken p.name name q.name) (with_name q) made is in
      subst (λ m. Kept (draft_at p 1 m) (number + 1)) out.2 (name_line p row q number kept name out.0 named (within file.Proposal row key.Proposal 0 (omega arith) (omega arith) may).1 out.1)
  line_kept (line.Term form) may named is =
      let out = part_ok (term_taken p.types p.variables form q.terms) (with_terms q) made is in
      subst (λ m. Kept (draft_at p 2 m) (number + 1)) out.2 (term_line p row q number kept form out.0 (let at = within file.Proposal row key.Term 1 (omega arith) (omega arith) may in (at.0, at.1)) out.1)
  line_kept (line.Inv name n) may named is =
      let out = part_ok (take_invariant q.terms number name n q.invariants) (with_invariants q) made is in
      subst (λ m. Kept (draft_at p 3 m) (number + 1)) out.2 (invariant_line p row q number kept name n out.0 named (let at = within file.Proposal row key.Inv 1 (omega arith) (omega arith) may in (at.0, at.1)) out.1)
  line_kept (line.Cause rule invariant k) may named is =
      let out = part_ok (claim_taken (map (λ r. r.name) p.rules) (invariant_names q.invariants) number rule invariant k q.claims) (with_claims q) made is in
      subst (λ m. Kept (draft_at p 4 m) (number + 1)) out.2 (cause_line p row q number kept rule invariant k out.0 (let at = within file.Proposal row key.Cause 1 (omega arith) (omega arith) may in (at.0, at.1)) out.1)
  line_kept line.End may named is = subst (λ m. Kept (draft_at p 5 m) (number + 1)) (same_ok q made is) (end_line p row q number kept (let at = within file.Proposal row key.End 1 (omega arith) (omega arith) may in (at.0, not_five row at.1 at.2)))
  line_kept (line.Protocol name) may named is = absurd (no_such_line is)
  line_kept (line.«Type» name values) may named is = absurd (no_such_line is)
  line_kept (line.Var name of) may named is = absurd (no_such_line is)
  line_kept (line.Init formula) may named is = absurd (no_such_line is)
  line_kept (line.Rule name guard) may named is = absurd (no_such_line is)
  line_kept (line.Set variable term) may named is = absurd (no_such_line is)

-- What holds before a line holds after it.
pub kept_taken : (draft after : Draft) (number : ℕ) (bytes : List ℕ) → Kept draft number → taken draft number bytes ≡ Ok after → Kept after (number + 1)
kept_taken draft after number bytes kept is =
    let known = bind_ok (recognised file.Proposal bytes) _ after is in
    let k = known.0.0 in
    let rest = known.0.1 in
    let follows = first_ok (may_follow file.Proposal draft.row k) _ _ after known.2 in
    let words = bind_ok (read file.Proposal k rest) _ after follows.1 in
    let l = words.0 in
    let adds = bind_ok (line_taken draft.protocol number l draft.made) _ after words.2 in
    let same : key_of_line l ≡ k = line_key file.Proposal k (first_place k rest) l words.1 in
    let may : may_follow file.Proposal draft.row (key_of_line l) ≡ true = subst (λ j. may_follow file.Proposal draft.row j ≡ true) (sym same) follows.0 in
    let then = line_kept draft.protocol draft.row draft.made adds.0 number kept l may (line_named file.Proposal k rest l words.1) adds.1 in
    subst (λ d. Kept d (number + 1)) (same_ok (draft_at draft.protocol (row_of file.Proposal k) adds.0) after adds.2)
    (subst (λ j. Kept (draft_at draft.protocol (row_of file.Proposal j) adds.0) (number + 1)) same then)

-- Before the first line.
pub kept_begun : (p : ProtocolV) → LawfulTerms (declared_by p.types p.variables) p.terms → Kept (begun p) 1
kept_begun p lawful =
    record {
      own = no_terms;
      split = λ i. record { terms = sym (append-nil p.terms.terms) i; sorts = sym (append-nil p.terms.sorts) i };
      terms = lawful;
      invariants = no_invariants p.terms 2;
      claims = no_claims (length p.rules) 0 2;
      name = λ high. absurd (omega arith);
      named = λ high. absurd (omega arith);
      no_own = λ low. refl;
      no_invariants = λ low. refl;
      no_claims = λ low. refl;
      first = λ zero. refl;
      counted = λ low high. absurd (omega arith);
    }

-- What is left of a file that was read to its end is lawful with its protocol.
pub whole_lawful : (draft : Draft) (number : ℕ) → length draft.protocol.terms.sorts ≡ length draft.protocol.terms.terms → 1 ≤ draft.row → Kept draft number → LawfulWith draft.protocol (finished draft.protocol draft.made)
whole_lawful draft number sorted late kept =
    let p = draft.protocol in
    let q = draft.made in
    let n = length p.terms.terms in
    let own = kept.own in
    let is : behind n q.terms ≡ own =
    ap (behind n) kept.split ∙ (λ i. record { terms = drop_at p.terms.terms own.terms n refl i; sorts = drop_at p.terms.sorts own.sorts n sorted i }) in
    subst (λ t. LawfulWith p (with_terms q t)) (sym is)
    (record {
      name = kept.name late;
      terms = subst (LawfulTerms (declared_by p.types p.variables)) kept.split kept.terms;
      invariants = subst (λ t. LawfulInvariants t (2 + length own.terms) q.invariants) kept.split kept.invariants;
      claims = kept.claims;
    })

-- every line leaves the protocol as it is
pub same_protocol : (draft after : Draft) (number : ℕ) (bytes : List ℕ) → taken draft number bytes ≡ Ok after → draft.protocol ≡ after.protocol
same_protocol draft after number bytes is =
    let known = bind_ok (recognised file.Proposal bytes) _ after is in
    let follows = first_ok (may_follow file.Proposal draft.row known.0.0) _ _ after known.2 in
    let words = bind_ok (read file.Proposal known.0.0 known.0.1) _ after follows.1 in
    let adds = bind_ok (line_taken draft.protocol number words.0 draft.made) _ after words.2 in
    ap (λ (d : Draft). d.protocol) (same_ok (draft_at draft.protocol (row_of file.Proposal known.0.0) adds.0) after adds.2)

-- Every proposal that was read from a file is lawful with its protocol.
module _ (p : ProtocolV) where
  abbrev KeptWith : Draft → ℕ → Type 0
  KeptWith draft number = Kept draft number × (p ≡ draft.protocol)

  pub lawful_read : (text : List ℕ) (after : Draft) → LawfulTerms (declared_by p.types p.variables) p.terms → read_through taken ended (begun p) text ≡ Ok after → LawfulWith p (finished p after.made)
  lawful_read text after lawful is =
      let whole = kept_read taken ended KeptWith
      (λ before after number line kept made. (kept_taken before after number line kept.0 made, kept.1 ∙ same_protocol before after number line made))
      (begun p) after text (kept_begun p lawful, refl) is in
      let row : after.row ≡ 5 = eqb-true after.row 5 whole.2 in
      let same : p ≡ after.protocol = whole.1.1 in
      subst (λ r. LawfulWith r (finished r after.made)) (sym same)
      (whole_lawful after whole.0 (subst (λ r. length r.terms.sorts ≡ length r.terms.terms) same lawful.all_sorted) (omega arith) whole.1.0)

  -- The protocol is still the same at the end.
  pub protocol_read : (text : List ℕ) (after : Draft) → read_through taken ended (begun p) text ≡ Ok after → p ≡ after.protocol
  protocol_read text after is =
      (kept_read taken ended (λ draft number. p ≡ draft.protocol) (λ before after number line kept made. kept ∙ same_protocol before after number line made) (begun p) after text refl is).1
