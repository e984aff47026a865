-- What the lines of a proposal file say is what was made of them.
use Rattle.std.proofs.Common.{◌≡◌, ℕ, ◌≤◌, true, false, not, ltb, List, [], ◌∷◌, ◌++◌, map, length, get_or, drop, is_some, Ok, sym, refl, ap, ◌∙◌, subst, arith, length-append}
use lib.Seq.{drop-append-le}
use Rattle.std.proofs.lemmas.List.{append_assoc, append-nil, map_push, nil_from_length, drop_at}
use Rattle.std.proofs.lemmas.Bool.{ltb-false, not-false}
use Rattle.std.specs.Str.{bytes_eq}
use Rattle.text.specs.Faults.{fault}
use Rattle.text.specs.declared.faults.Wrong.TheVariants as wrong
use Rattle.names.specs.Names.{place_in}
use Rattle.terms.specs.Sorts.{sort}
use Rattle.terms.specs.declared.Term.{Term}
use Rattle.words.specs.Words.{WordV}
use Rattle.words.specs.declared.Number.{Number}
use Rattle.keys.specs.declared.Key.TheVariants as key
use Rattle.line.specs.Forms.{FormV, KindV}
use Rattle.line.specs.Forms as kind
use Rattle.line.specs.Lines.{LineV, key_of_line}
use Rattle.line.specs.Lines as line
use Rattle.line.specs.Rows.{row_of, may_follow}
use Rattle.line.specs.declared.lines.File.TheVariants as file
use Rattle.writing.specs.Forms.{form_said, kind_said}
use Rattle.writing.specs.Forms as said
use Rattle.writing.specs.Said.{Said, said}
use Rattle.writing.specs.Said as says
use Rattle.writing.specs.Written.{written_line}
use Rattle.tables.specs.Lawful.{declared_by}
use Rattle.tables.specs.Records.{TermsV}
use Rattle.tables.specs.Taking.{unknown, used, full, number_in, formula_tests, named_term, columns, at_argument, new_term, term_taken}
use Rattle.tables.proofs.Answered.{AllFalse, bind_ok, same_ok, unless_ok}
use Rattle.tables.proofs.FormLaws.{found_name, form_kept}
use Rattle.tables.proofs.RowLaws.{within}
use Rattle.protocol.specs.Records.{ProtocolV}
use Rattle.proposal.specs.Reading.{Draft, line_taken, finished, with_name, with_terms, with_invariants, with_claims}
use Rattle.proposal.specs.Records.{InvariantV, ProposalV}
use Rattle.proposal.specs.Taking.{name_taken, invariant_names, formula_in, take_invariant, kind_tests, cause_of, claim_of, comes_after, claim_taken}
use Rattle.proposal.specs.Written.{term_said, invariant_said, kind_of, claim_said, rule_names, lines_before_end, lines_of}
use Rattle.proposal.specs.declared.claims.Claim.{Claim}
use Rattle.proposal.proofs.Kept.{Kept, draft_at, first_line, not_five, part_ok, no_such_line}

-- a name that is not unknown stands at its number
known_spelled : (names : List (List ℕ)) (w : WordV) → (unknown names w).0 ≡ false → get_or names (number_in names w) [] ≡ w.bytes
known_spelled names w is = found_name names w.bytes (not-false (is_some (place_in names w.bytes)) is)

kind_spelled : (names : List (List ℕ)) (k : KindV) → AllFalse (kind_tests names k) → kind_of names (cause_of names k) ≡ kind_said k
kind_spelled names kind.Guard none = refl
kind_spelled names kind.Unchanged none = refl
kind_spelled names (kind.Partner partner) none = ap said.Partner (known_spelled names partner none.0)

-- What an `inv` line adds says what the line says.
pub invariant_spoken : (t : TermsV) (line : ℕ) (name : WordV) (n : Number) (s after : List InvariantV) → take_invariant t line name n s ≡ Ok after → (row : InvariantV) × (s ++ row ∷ [] ≡ after) × (says.Inv name.bytes n.value ≡ invariant_said row)
invariant_spoken t line name n s after is =
    let made = bind_ok (formula_in t name n s) _ after is in
    let tested = unless_ok (used (invariant_names s) name ∷ formula_tests t.sorts n) n.value made.0 made.1 in
    let row : InvariantV = record { name = name.bytes; formula = made.0; line = line } in
    let out = unless_ok (full 64 s ∷ []) (s ++ row ∷ []) after made.2 in
    (row, out.0, ap (says.Inv name.bytes) tested.0)

-- What a `cause` line adds says what the line says.
pub claim_spoken : (rules invariants : List (List ℕ)) (line : ℕ) (rule invariant : WordV) (k : KindV) (s after : List Claim) → claim_taken rules invariants line rule invariant k s ≡ Ok after
    → (c : Claim) × (s ++ c ∷ [] ≡ after) × (says.Cause rule.bytes invariant.bytes (kind_said k) ≡ claim_said rules invariants c)
claim_spoken rules invariants line rule invariant k s after is =
    let made = bind_ok (claim_of rules invariants line rule invariant k) _ after is in
    let c = made.0 in
    let tested = unless_ok (unknown rules rule ∷ unknown invariants invariant ∷ kind_tests invariants k) _ c made.1 in
    let out = unless_ok (full 4096 s ∷ (not (comes_after s c), fault wrong.NotAscending 1) ∷ []) (s ++ c ∷ []) after made.2 in (
      c,
      out.0,
      sym (λ i. says.Cause (known_spelled rules rule tested.1.0 i) (known_spelled invariants invariant tested.1.1.0 i) (kind_spelled invariants k tested.1.1.1 i))
          ∙ ap (claim_said rules invariants) tested.0,
    )

-- What a `term` line adds says what the line says.
pub term_spoken : (p : ProtocolV) (f : FormV) (s after : TermsV) → term_taken p.types p.variables f s ≡ Ok after → (t : Term) × (s.terms ++ t ∷ [] ≡ after.terms) × (says.Term (form_said f) ≡ term_said p t)
term_spoken p f s after is =
    let types = p.types in
    let variables = p.variables in
    let made = bind_ok (new_term types variables f s) _ after is in
    let named = bind_ok (named_term types variables f) _ made.0 made.1 in
    let sorted = bind_ok (at_argument (columns f) (sort (declared_by types variables) s.sorts named.0)) _ made.0 named.2 in
    let out = unless_ok (full 512 s.terms ∷ []) (named.0, sorted.0) made.0 sorted.2 in (
      made.0.0,
      ap (λ (x : TermsV). x.terms) (same_ok _ after made.2),
      ap says.Term (sym (form_kept types variables f named.0 named.1)) ∙ ap (λ r. term_said p r.0) out.0,
    )

-- the parts of what is said before the end
abbrev body : ProtocolV → List ℕ → List Term → List InvariantV → List Claim → List Said
body p name terms invariants claims =
    says.Proposal name ∷ (map (term_said p) terms ++ (map invariant_said invariants ++ map (claim_said (rule_names p) (invariant_names invariants)) claims))

module _ (p : ProtocolV) (name : List ℕ) where
  body_term : (terms : List Term) (t : Term) → body p name terms [] [] ++ term_said p t ∷ [] ≡ body p name (terms ++ t ∷ []) [] []
  body_term terms t = simp (map_push, append-nil)

  body_invariant : (terms : List Term) (invariants : List InvariantV) (i : InvariantV) → body p name terms invariants [] ++ invariant_said i ∷ [] ≡ body p name terms (invariants ++ i ∷ []) []
  body_invariant terms invariants i = simp (map_push, append-nil, append_assoc)

  body_claim : (terms : List Term) (invariants : List InvariantV) (claims : List Claim) (c : Claim)
      → body p name terms invariants claims ++ claim_said (rule_names p) (invariant_names invariants) c ∷ [] ≡ body p name terms invariants (claims ++ c ∷ [])
  body_claim terms invariants claims c = simp (map_push, append_assoc)

abbrev line_bytes : Said → List ℕ
line_bytes s = written_line file.Proposal s

-- What the lines so far say: before the first line nothing, then all but the end, and at last all.
pub record Spoken (draft : Draft) (lines : List (List ℕ)) : Type 0 where
  pub none : draft.row ≡ 0 → lines ≡ []
  pub some : 1 ≤ draft.row → draft.row ≤ 4 → lines ≡ map line_bytes (lines_before_end draft.protocol (finished draft.protocol draft.made))
  pub all : draft.row ≡ 5 → lines ≡ map line_bytes (lines_of draft.protocol (finished draft.protocol draft.made))

-- one line more
more_said : (lines : List (List ℕ)) (before after : List Said) (s : Said) → lines ≡ map line_bytes before → before ++ s ∷ [] ≡ after → lines ++ line_bytes s ∷ [] ≡ map line_bytes after
more_said lines before after s is so = ap (λ ls. ls ++ line_bytes s ∷ []) is ∙ sym (map_push line_bytes before s) ∙ ap (map line_bytes) so

-- a line between the first and the end
going_on : (p : ProtocolV) (row : ℕ) (q : ProposalV) (lines : List (List ℕ)) → 1 ≤ row → row ≤ 4 → lines ≡ map line_bytes (lines_before_end p (finished p q)) → Spoken (draft_at p row q) lines
going_on p row q lines low high is = record { none = λ zero. absurd (omega arith); some = λ l h. is; all = λ five. absurd (omega arith) }

module _ (p : ProtocolV) (row : ℕ) (q : ProposalV) (number : ℕ) (kept : Kept (draft_at p row q) number) (lines : List (List ℕ)) (spoken : Spoken (draft_at p row q) lines) where
  abbrev own_terms : List Term
  own_terms = drop (length p.terms.terms) q.terms.terms

  few_terms : length p.terms.terms ≤ length q.terms.terms
  few_terms = omega (arith, ap (λ (t : TermsV). length t.terms) kept.split, length-append p.terms.terms kept.own.terms)

  no_own_terms : row ≤ 1 → own_terms ≡ []
  no_own_terms low =
      ap (λ (t : TermsV). drop (length p.terms.terms) t.terms) kept.split ∙ drop_at p.terms.terms kept.own.terms _ refl ∙ nil_from_length kept.own.terms (kept.no_own low)

  name_spoken : (name : WordV) (after : List ℕ) → row ≤ 1 → name_taken p.name name q.name ≡ Ok after → Spoken (draft_at p 1 (with_name q after)) (lines ++ line_bytes (says.Proposal name.bytes) ∷ [])
  name_spoken name after low is =
      let out = unless_ok ((ltb 0 (length q.name), fault wrong.TooMany 1) ∷ (not (bytes_eq name.bytes p.name), fault wrong.AnotherProtocol name.column) ∷ []) name.bytes after is in
      let start = first_line p row q number kept (ltb-false 0 (length q.name) out.1.0) in
      going_on p 1 (with_name q after) _ (omega arith) (omega arith)
      (more_said lines [] _ (says.Proposal name.bytes) (spoken.none start)
      (sym (λ i. body p (sym out.0 i) (no_own_terms low i) (kept.no_invariants (omega arith) i) (kept.no_claims (omega arith) i))))

  term_said_too : (form : FormV) (after : TermsV) → (1 ≤ row) × (row ≤ 2) → term_taken p.types p.variables form q.terms ≡ Ok after → Spoken (draft_at p 2 (with_terms q after)) (lines ++ line_bytes (says.Term (form_said form)) ∷ [])
  term_said_too form after within is =
      let t = term_spoken p form q.terms after is in
      let none = kept.no_invariants within.1 in
      let no_more = kept.no_claims (omega arith) in
      let there : own_terms ++ t.0 ∷ [] ≡ drop (length p.terms.terms) after.terms =
      sym (drop-append-le (length p.terms.terms) q.terms.terms (t.0 ∷ []) few_terms) ∙ ap (drop (length p.terms.terms)) t.1 in
      going_on p 2 (with_terms q after) _ (omega arith) (omega arith)
      (more_said lines (lines_before_end p (finished p q)) _ (says.Term (form_said form)) (spoken.some within.0 (omega arith))
      ((λ i. body p q.name own_terms (none i) (no_more i) ++ t.2 i ∷ []) ∙ body_term p q.name own_terms t.0 ∙ (λ i. body p q.name (there i) (sym none i) (sym no_more i))))

  invariant_said_too : (name : WordV) (n : Number) (after : List InvariantV) → (1 ≤ row) × (row ≤ 3) → take_invariant q.terms number name n q.invariants ≡ Ok after
      → Spoken (draft_at p 3 (with_invariants q after)) (lines ++ line_bytes (says.Inv name.bytes n.value) ∷ [])
  invariant_said_too name n after within is =
      let added = invariant_spoken q.terms number name n q.invariants after is in
      let no_more = kept.no_claims within.1 in
      going_on p 3 (with_invariants q after) _ (omega arith) (omega arith)
      (more_said lines (lines_before_end p (finished p q)) _ (says.Inv name.bytes n.value) (spoken.some within.0 (omega arith))
      ((λ i. body p q.name own_terms q.invariants (no_more i) ++ added.2 i ∷ [])
      ∙ body_invariant p q.name own_terms q.invariants added.0
      ∙ (λ i. body p q.name own_terms (added.1 i) (sym no_more i))))

  claim_said_too : (rule invariant : WordV) (k : KindV) (after : List Claim) → (1 ≤ row) × (row ≤ 4) → claim_taken (rule_names p) (invariant_names q.invariants) number rule invariant k q.claims ≡ Ok after
      → Spoken (draft_at p 4 (with_claims q after)) (lines ++ line_bytes (says.Cause rule.bytes invariant.bytes (kind_said k)) ∷ [])
  claim_said_too rule invariant k after within is =
      let c = claim_spoken (rule_names p) (invariant_names q.invariants) number rule invariant k q.claims after is in
      going_on p 4 (with_claims q after) _ (omega arith) (omega arith)
      (more_said lines (lines_before_end p (finished p q)) _ (says.Cause rule.bytes invariant.bytes (kind_said k)) (spoken.some within.0 within.1)
      ((λ i. body p q.name own_terms q.invariants q.claims ++ c.2 i ∷ [])
      ∙ body_claim p q.name own_terms q.invariants q.claims c.0
      ∙ ap (body p q.name own_terms q.invariants) c.1))

  end_said_too : (1 ≤ row) × (row ≤ 4) → Spoken (draft_at p 5 q) (lines ++ line_bytes says.End ∷ [])
  end_said_too within =
      record {
        none = λ zero. absurd (omega arith);
        some = λ l h. absurd (omega arith);
        all = λ five. more_said lines (lines_before_end p (finished p q)) _ says.End (spoken.some within.0 within.1) refl;
      }

-- A line that is taken says what it adds.
module _ (p : ProtocolV) (row : ℕ) (q made : ProposalV) (number : ℕ) (kept : Kept (draft_at p row q) number) (lines : List (List ℕ)) (spoken : Spoken (draft_at p row q) lines) where
  pub line_spoken : (l : LineV) → may_follow file.Proposal row (key_of_line l) ≡ true → line_taken p number l q ≡ Ok made → Spoken (draft_at p (row_of file.Proposal (key_of_line l)) made) (lines ++ written_line file.Proposal (said l) ∷ [])
  line_spoken (line.Proposal name) may is =
      let out = part_ok (name_taken p.name name q.name) (with_name q) made is in
      subst (λ m. Spoken (draft_at p 1 m) (lines ++ line_bytes (says.Proposal name.bytes) ∷ [])) out.2
      (name_spoken p row q number kept lines spoken name out.0 (within file.Proposal row key.Proposal 0 (omega arith) (omega arith) may).1 out.1)
  line_spoken (line.Term form) may is =
      let out = part_ok (term_taken p.types p.variables form q.terms) (with_terms q) made is in
      subst (λ m. Spoken (draft_at p 2 m) (lines ++ line_bytes (says.Term (form_said form)) ∷ [])) out.2
      (term_said_too p row q number kept lines spoken form out.0 (let at = within file.Proposal row key.Term 1 (omega arith) (omega arith) may in (at.0, at.1)) out.1)
  line_spoken (line.Inv name n) may is =
      let out = part_ok (take_invariant q.terms number name n q.invariants) (with_invariants q) made is in
      subst (λ m. Spoken (draft_at p 3 m) (lines ++ line_bytes (says.Inv name.bytes n.value) ∷ [])) out.2
      (invariant_said_too p row q number kept lines spoken name n out.0 (let at = within file.Proposal row key.Inv 1 (omega arith) (omega arith) may in (at.0, at.1)) out.1)
  line_spoken (line.Cause rule invariant k) may is =
      let out = part_ok (claim_taken (rule_names p) (invariant_names q.invariants) number rule invariant k q.claims) (with_claims q) made is in
      subst (λ m. Spoken (draft_at p 4 m) (lines ++ line_bytes (says.Cause rule.bytes invariant.bytes (kind_said k)) ∷ [])) out.2
      (claim_said_too p row q number kept lines spoken rule invariant k out.0 (let at = within file.Proposal row key.Cause 1 (omega arith) (omega arith) may in (at.0, at.1)) out.1)
  line_spoken line.End may is =
      subst (λ m. Spoken (draft_at p 5 m) (lines ++ line_bytes says.End ∷ [])) (same_ok q made is)
      (end_said_too p row q number kept lines spoken (let at = within file.Proposal row key.End 1 (omega arith) (omega arith) may in (at.0, not_five row at.1 at.2)))
  line_spoken (line.Protocol name) may is = absurd (no_such_line is)
  line_spoken (line.«Type» name values) may is = absurd (no_such_line is)
  line_spoken (line.Var name of) may is = absurd (no_such_line is)
  line_spoken (line.Init formula) may is = absurd (no_such_line is)
  line_spoken (line.Rule name guard) may is = absurd (no_such_line is)
  line_spoken (line.Set variable term) may is = absurd (no_such_line is)
