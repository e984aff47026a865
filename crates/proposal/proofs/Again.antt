-- What is written from a lawful proposal is read as that proposal.
use Rattle.std.proofs.Common.{◌≡◌, ℕ, ◌+◌, ◌≤◌, true, not, eqb, ltb, leb, List, [], ◌∷◌, ◌++◌, map, length, None, Ok, sym, refl, ap, ◌∙◌, subst, ⊎_elim, arith, length-append}
use Rattle.std.proofs.lemmas.Slice.Eq.{bytes_eq-Decides}
use Rattle.std.proofs.lemmas.List.{append_assoc, append-nil, drop_at, length-map, length_push}
use Rattle.std.proofs.lemmas.Bool.{lt-ltb, le-leb, eq-eqb, ne_eqb, or_left, or_right, and_from, not_from_true, not_from_false, cases_lt, cond-true}
use Rattle.std.specs.List.{AllByRecursion}
use Rattle.std.specs.Str.{bytes_eq}
use Rattle.terms.specs.declared.Sort.{Sort}
use Rattle.terms.specs.declared.Term.{Term}
use Rattle.text.specs.Faults.{fault}
use Rattle.text.specs.Lines.{byte_fault}
use Rattle.text.specs.declared.faults.Wrong.TheVariants as wrong
use Rattle.words.specs.Words.{WordV, is_name}
use Rattle.words.specs.declared.Number.{Number}
use Rattle.keys.specs.declared.Key.{Key}
use Rattle.keys.specs.declared.Key.TheVariants as key
use Rattle.line.specs.Forms.{FormV, KindV}
use Rattle.line.specs.Lines.{LineV, belongs}
use Rattle.line.specs.Lines as line
use Rattle.line.specs.Reading.{read, recognised}
use Rattle.line.specs.Rows.{row_of, in_order, is_below_its_rule, may_follow}
use Rattle.line.specs.declared.lines.File.TheVariants as file
use Rattle.writing.proofs.Apart.{lines_come_apart}
use Rattle.writing.proofs.Kept.{every_line_can_be_kept}
use Rattle.writing.proofs.Oks.{go_on}
use Rattle.writing.proofs.Visible.{every_byte_may_stand}
use Rattle.writing.specs.Forms.{form_said, kind_said}
use Rattle.writing.specs.Said.{Said, key_said, said}
use Rattle.writing.specs.Said as says
use Rattle.writing.specs.Sound.{Sound}
use Rattle.writing.specs.Written.{spaced, words_said, written_line}
use Rattle.reading.proofs.Laws.{Leads, leads_read}
use Rattle.reading.specs.Files.{read_through}
use Rattle.tables.specs.Lawful.{Names, LawfulTerms, declared_by}
use Rattle.tables.specs.Records.{TermsV}
use Rattle.tables.specs.Taking.{term_taken}
use Rattle.tables.proofs.FormLaws.{next_sound, term_taken_again}
use Rattle.protocol.specs.Lawful.{Lawful}
use Rattle.protocol.specs.Records.{ProtocolV}
use Rattle.proposal.specs.Laws.{ShortLine, EveryProposalCanBeKept}
use Rattle.proposal.specs.Lawful.{LawfulInvariants, LawfulClaims, LawfulWith}
use Rattle.proposal.specs.Reading.{Draft, begun, ended, taken, line_taken as line_adds, finished, with_name, with_terms, with_invariants, with_claims}
use Rattle.proposal.specs.Records.{InvariantV, ProposalV, empty, followed_by}
use Rattle.proposal.specs.Taking.{name_taken, invariant_names, take_invariant, claim_taken}
use Rattle.proposal.specs.Written.{term_said, invariant_said, claim_said, rule_names, lines_before_end, lines_of, written}
use Rattle.proposal.specs.declared.claims.Claim.{Claim}
use Rattle.proposal.proofs.Kept.{draft_at}
use Rattle.proposal.proofs.RowsAgain.{passed, invariant_sound, invariant_again, claim_sound, claim_again}

-- every line that says this is taken, wherever its words stand
abbrev Taking : ProtocolV → ℕ → ProposalV → ProposalV → Said → Type 0
Taking p number q made (says.Proposal name) = (w : WordV) → w.bytes ≡ name → line_adds p number (line.Proposal w) q ≡ Ok made
Taking p number q made (says.Term form) = (f : FormV) → form_said f ≡ form → line_adds p number (line.Term f) q ≡ Ok made
Taking p number q made (says.Inv name formula) = (w : WordV) (n : Number) → w.bytes ≡ name → n.value ≡ formula → line_adds p number (line.Inv w n) q ≡ Ok made
Taking p number q made (says.Cause rule invariant kind) = (r i : WordV) (j : KindV) → r.bytes ≡ rule → i.bytes ≡ invariant → kind_said j ≡ kind → line_adds p number (line.Cause r i j) q ≡ Ok made
Taking p number q made says.End = q ≡ made
Taking p number q made (says.Protocol name) = ⊥
Taking p number q made (says.«Type» name values) = ⊥
Taking p number q made (says.Var name of) = ⊥
Taking p number q made (says.Init formula) = ⊥
Taking p number q made (says.Rule name guard) = ⊥
Taking p number q made (says.Set variable term) = ⊥

takes : (p : ProtocolV) (number : ℕ) (q made : ProposalV) (l : LineV) → Taking p number q made (said l) → line_adds p number l q ≡ Ok made
takes p number q made (line.Proposal name) how = how name refl
takes p number q made (line.Term form) how = how form refl
takes p number q made (line.Inv name n) how = how name n refl refl
takes p number q made (line.Cause rule invariant kind) how = how rule invariant kind refl refl refl
takes p number q made line.End how = ap Ok how
takes p number q made (line.Protocol name) how = absurd how
takes p number q made (line.«Type» name values) how = absurd how
takes p number q made (line.Var name of) how = absurd how
takes p number q made (line.Init formula) how = absurd how
takes p number q made (line.Rule name guard) how = absurd how
takes p number q made (line.Set variable term) how = absurd how

-- A line that is written is taken.
line_taken : (p : ProtocolV) (row number : ℕ) (q made : ProposalV) (s : Said) → Sound file.Proposal s → may_follow file.Proposal row (key_said s) ≡ true → Taking p number q made s
    → taken (draft_at p row q) number (written_line file.Proposal s) ≡ Ok (draft_at p (row_of file.Proposal (key_said s)) made)
line_taken p row number q made s sound may how =
    let kept = every_line_can_be_kept file.Proposal s sound in
    let l = kept.1.0 in
    go_on (recognised file.Proposal (written_line file.Proposal s)) _ (key_said s, spaced (words_said file.Proposal s)) kept.0
    ∙ cond-true (may_follow file.Proposal row (key_said s)) _ _ may
    ∙ go_on (read file.Proposal (key_said s) (spaced (words_said file.Proposal s))) _ l kept.1.1
    ∙ go_on (line_adds p number l q) _ made (takes p number q made l (subst (Taking p number q made) (sym kept.1.2) how))

-- a line may follow the rows from the first to its own
may_stand : (row : ℕ) (k : Key) → 1 ≤ row → row ≤ 4 → row ≤ row_of file.Proposal k → belongs file.Proposal k ≡ true → is_below_its_rule file.Proposal row k ≡ true → may_follow file.Proposal row k ≡ true
may_stand row k low high up own rule =
    let r = row_of file.Proposal k in
    let ordered : in_order file.Proposal row r ≡ true =
    ⊎_elim
    (λ less. or_right (eqb row r) _ (and_from (ltb row r) _ (lt-ltb row r less) (or_right (eqb (row + 1) r) (leb 1 row) (le-leb 1 row low))))
    (λ more. or_left (eqb row r) _ (eq-eqb row r (omega arith)))
    (cases_lt row r) in
    and_from (belongs file.Proposal k) _ own
    (and_from (not (eqb row 5)) _ (not_from_false (eqb row 5) (ne_eqb row 5 (λ e. omega arith))) (and_from (in_order file.Proposal row r) _ ordered rule))

-- Each line in its turn may stand in the file and is taken, and the last leaves `final`.
abbrev Goes : Draft → ℕ → List Said → Draft → Type 0
Goes draft number [] final = draft ≡ final
Goes draft number (s ∷ ss) final = Sound file.Proposal s × ((made : Draft) × (taken draft number (written_line file.Proposal s) ≡ Ok made) × Goes made (number + 1) ss final)

goes_sound : (draft final : Draft) (number : ℕ) (ss : List Said) → Goes draft number ss final → AllByRecursion (Sound file.Proposal) ss
goes_sound draft final number [] go = tt
goes_sound draft final number (s ∷ ss) go = (go.0, goes_sound go.1.0 final (number + 1) ss go.1.2)

goes_leads : (draft final : Draft) (number : ℕ) (ss : List Said) → Goes draft number ss final → Leads taken draft number (map (written_line file.Proposal) ss) final
goes_leads draft final number [] go = go
goes_leads draft final number (s ∷ ss) go = (go.1.0, go.1.1, goes_leads go.1.0 final (number + 1) ss go.1.2)

goes_on : (draft mid final : Draft) (number : ℕ) (ss more : List Said) → Goes draft number ss mid → Goes mid (number + length ss) more final → Goes draft number (ss ++ more) final
goes_on draft mid final number [] more go on = subst (λ d. Goes d number more final) (sym go) (subst (λ n. Goes mid n more final) (omega arith) on)
goes_on draft mid final number (s ∷ ss) more go on =
    (go.0, (go.1.0, go.1.1, goes_on go.1.0 mid final (number + 1) ss more go.1.2 (subst (λ n. Goes mid n more final) (omega arith) on)))

-- The lines of one row lead on from a row that is not above it.
abbrev Through : ProtocolV → ℕ → ℕ → ProposalV → ℕ → List Said → ProposalV → Type 0
Through p own row q number ss made = (last : ℕ) × (1 ≤ last) × (last ≤ own) × Goes (draft_at p row q) number ss (draft_at p last made)

through_more : (p : ProtocolV) (row number : ℕ) (q mid made : ProposalV) (s : Said) (ss : List Said) → 1 ≤ row → row ≤ 4 → row ≤ row_of file.Proposal (key_said s) → is_below_its_rule file.Proposal row (key_said s) ≡ true → Sound file.Proposal s
    → Taking p number q mid s → Through p (row_of file.Proposal (key_said s)) (row_of file.Proposal (key_said s)) mid (number + 1) ss made → Through p (row_of file.Proposal (key_said s)) row q number (s ∷ ss) made
through_more p row number q mid made s ss low high up rule sound how on =
    (on.0, on.1, on.2, (sound, (draft_at p (row_of file.Proposal (key_said s)) mid, line_taken p row number q mid s sound (may_stand row (key_said s) low high up sound.belonging rule) how, on.3)))

-- The terms, the invariants and the claims, each row behind those that are taken.
module _ (p : ProtocolV) (lawful : Lawful p) where
  terms_through : (q : ProposalV) (all : TermsV) → LawfulTerms (declared_by p.types p.variables) all → (done : TermsV) (ts : List Term) (xs : List Sort) (row number : ℕ) → 1 ≤ row → row ≤ 2
      → length done.sorts ≡ length done.terms → length xs ≡ length ts → all.terms ≡ done.terms ++ ts → all.sorts ≡ done.sorts ++ xs
      → Through p 2 row (with_terms q done) number (map (term_said p) ts) (with_terms q all)
  terms_through q all whole done [] [] row number low up even as_many terms sorts =
      (row, low, up, (λ i. draft_at p row (with_terms q (record { terms = sym (terms ∙ append-nil done.terms) i; sorts = sym (sorts ∙ append-nil done.sorts) i }))))
  terms_through q all whole done [] (x ∷ xs) row number low up even as_many terms sorts = absurd (omega arith)
  terms_through q all whole done (t ∷ ts) [] row number low up even as_many terms sorts = absurd (omega arith)
  terms_through q all whole done (t ∷ ts) (x ∷ xs) row number low up even as_many terms sorts =
      let d = declared_by p.types p.variables in
      let laws = lawful.obeys.types in
      let declares = lawful.obeys.variables in
      let here : LawfulTerms d (record { terms = done.terms ++ t ∷ ts; sorts = done.sorts ++ x ∷ xs }) = subst (LawfulTerms d) (λ i. record { terms = terms i; sorts = sorts i }) whole in
      let more : TermsV = record { terms = done.terms ++ t ∷ []; sorts = done.sorts ++ x ∷ [] } in
      through_more p row number (with_terms q done) (with_terms q more) (with_terms q all) (term_said p t) (map (term_said p) ts) low (omega arith) up refl
      (record { belonging = refl; parts = next_sound p.types p.variables laws declares done t x ts xs even here })
      (λ f is. go_on (term_taken p.types p.variables f done) _ more (term_taken_again p.types p.variables laws declares done t x ts xs even here f is))
      (terms_through q all whole more ts xs 2 (number + 1) (omega arith) (omega arith) (omega (arith, length_push done.terms t, length_push done.sorts x)) (omega arith)
      (terms ∙ sym (append_assoc done.terms (t ∷ []) ts)) (sorts ∙ sym (append_assoc done.sorts (x ∷ []) xs)))

  invariants_through : (q : ProposalV) (first_line : ℕ) (all : List InvariantV) → LawfulInvariants q.terms first_line all → length q.terms.sorts ≤ 512 → (above below : List InvariantV) (row number : ℕ) → 1 ≤ row → row ≤ 3
      → all ≡ above ++ below → number ≡ first_line + length above → Through p 3 row (with_invariants q above) number (map invariant_said below) (with_invariants q all)
  invariants_through q first_line all whole few above [] row number low up is numbered =
      (row, low, up, (λ i. draft_at p row (with_invariants q (sym (is ∙ append-nil above) i))))
  invariants_through q first_line all whole few above (r ∷ below) row number low up is numbered =
      let here = subst (LawfulInvariants q.terms first_line) is whole in
      through_more p row number (with_invariants q above) (with_invariants q (above ++ r ∷ [])) (with_invariants q all) (invariant_said r) (map invariant_said below) low (omega arith) up refl
      (invariant_sound q.terms first_line above below r here few)
      (λ w n name formula. go_on (take_invariant q.terms number w n above) _ (above ++ r ∷ [])
      (ap (λ k. take_invariant q.terms k w n above) numbered ∙ invariant_again q.terms first_line above below r here w n name formula))
      (invariants_through q first_line all whole few (above ++ r ∷ []) below 3 (number + 1) (omega arith) (omega arith) (is ∙ sym (append_assoc above (r ∷ []) below)) (omega (arith, length_push above r)))

  claims_through : (q : ProposalV) (first_line : ℕ) (all : List Claim) → Names (invariant_names q.invariants) → LawfulClaims (length (rule_names p)) (length (invariant_names q.invariants)) first_line all → (above below : List Claim) (row number : ℕ) → 1 ≤ row → row ≤ 4
      → all ≡ above ++ below → number ≡ first_line + length above → Through p 4 row (with_claims q above) number (map (claim_said (rule_names p) (invariant_names q.invariants)) below) (with_claims q all)
  claims_through q first_line all named whole above [] row number low up is numbered =
      (row, low, up, (λ i. draft_at p row (with_claims q (sym (is ∙ append-nil above) i))))
  claims_through q first_line all named whole above (c ∷ below) row number low up is numbered =
      let rules = rule_names p in
      let names = invariant_names q.invariants in
      let rules-named = lawful.obeys.rules.named in
      let here = subst (LawfulClaims (length rules) (length names) first_line) is whole in
      through_more p row number (with_claims q above) (with_claims q (above ++ c ∷ [])) (with_claims q all) (claim_said rules names c) (map (claim_said rules names) below) low up up refl
      (claim_sound rules names rules-named named first_line above below c here)
      (λ r i j rule invariant kind. go_on (claim_taken rules names number r i j above) _ (above ++ c ∷ [])
      (ap (λ k. claim_taken rules names k r i j above) numbered ∙ claim_again rules names rules-named named first_line above below c here r i j rule invariant kind))
      (claims_through q first_line all named whole (above ++ c ∷ []) below 4 (number + 1) (omega arith) (omega arith) (is ∙ sym (append_assoc above (c ∷ []) below)) (omega (arith, length_push above c)))

-- All the lines of a lawful proposal.
module _ (p : ProtocolV) (q : ProposalV) (lawful : Lawful p) (obeys : LawfulWith p q) where
  abbrev terms_of_both : TermsV
  terms_of_both = followed_by p.terms q.terms

  abbrev named_only : ProposalV
  named_only = with_name (with_terms empty p.terms) q.name

  abbrev whole_made : ProposalV
  whole_made = with_terms q terms_of_both

  name_sound : Sound file.Proposal (says.Proposal q.name)
  name_sound = record { belonging = refl; parts = subst (λ name. is_name name ≡ true) (sym obeys.name) lawful.complete.name }

  name_goes : taken (begun p) 1 (written_line file.Proposal (says.Proposal q.name)) ≡ Ok (draft_at p 1 named_only)
  name_goes =
      line_taken p 0 1 (with_terms empty p.terms) named_only (says.Proposal q.name) name_sound refl
      (λ w is. go_on (name_taken p.name w []) _ q.name
      (passed ((ltb 0 0, fault wrong.TooMany 1) ∷ (not (bytes_eq w.bytes p.name), fault wrong.AnotherProtocol w.column) ∷ []) w.bytes
      (refl, (not_from_true (bytes_eq w.bytes p.name) ((bytes_eq-Decides w.bytes p.name).1 (is ∙ obeys.name)), tt))
      ∙ ap Ok is))

  same_sorts : length q.terms.sorts ≡ length q.terms.terms
  same_sorts =
      omega (arith, obeys.terms.all_sorted, lawful.obeys.terms.all_sorted, length-append p.terms.terms q.terms.terms, length-append p.terms.sorts q.terms.sorts)

  abbrev term_lines : List Said
  term_lines = map (term_said p) q.terms.terms

  abbrev invariant_lines : List Said
  invariant_lines = map invariant_said q.invariants

  abbrev claim_lines : List Said
  claim_lines = map (claim_said (rule_names p) (invariant_names q.invariants)) q.claims

  terms_go : Through p 2 1 named_only 2 term_lines (with_terms named_only terms_of_both)
  terms_go =
      terms_through p lawful named_only terms_of_both obeys.terms p.terms q.terms.terms q.terms.sorts 1 2 (omega arith) (omega arith)
      lawful.obeys.terms.all_sorted same_sorts refl refl

  invariants_go : Through p 3 terms_go.0 (with_terms named_only terms_of_both) (2 + length term_lines) invariant_lines (with_invariants (with_terms named_only terms_of_both) q.invariants)
  invariants_go =
      invariants_through p lawful (with_terms named_only terms_of_both) (2 + length q.terms.terms) q.invariants obeys.invariants (omega (arith, obeys.terms.all_sorted, obeys.terms.few))
      [] q.invariants terms_go.0 (2 + length term_lines) terms_go.1 (omega (arith, terms_go.2)) refl (omega (arith, length-map q.terms.terms (term_said p)))

  claims_lawful : LawfulClaims (length (rule_names p)) (length (invariant_names q.invariants)) (2 + length q.terms.terms + length q.invariants) q.claims
  claims_lawful =
      let line = 2 + length q.terms.terms + length q.invariants in
      subst (λ a. LawfulClaims a (length (invariant_names q.invariants)) line q.claims) (sym (length-map p.rules (λ r. r.name)))
      (subst (λ b. LawfulClaims (length p.rules) b line q.claims) (sym (length-map q.invariants (λ i. i.name))) obeys.claims)

  claims_go : Through p 4 invariants_go.0 (with_invariants (with_terms named_only terms_of_both) q.invariants) (2 + length term_lines + length invariant_lines) claim_lines whole_made
  claims_go =
      claims_through p lawful (with_invariants (with_terms named_only terms_of_both) q.invariants) (2 + length q.terms.terms + length q.invariants) q.claims obeys.invariants.named claims_lawful
      [] q.claims invariants_go.0 (2 + length term_lines + length invariant_lines) invariants_go.1 (omega (arith, invariants_go.2)) refl
      (omega (arith, length-map q.terms.terms (term_said p), length-map q.invariants invariant_said))

  end_goes : (row number : ℕ) → 1 ≤ row → row ≤ 4 → Goes (draft_at p row whole_made) number (says.End ∷ []) (draft_at p 5 whole_made)
  end_goes row number low high =
      let sound : Sound file.Proposal says.End = record { belonging = refl; parts = tt } in
      (sound, (draft_at p 5 whole_made, line_taken p row number whole_made whole_made says.End sound (may_stand row key.End low high (omega arith) refl refl) refl, refl))

  all_go : Goes (begun p) 1 (lines_of p q) (draft_at p 5 whole_made)
  all_go =
      let terms-done = draft_at p terms_go.0 (with_terms named_only terms_of_both) in
      let invariants-done = draft_at p invariants_go.0 (with_invariants (with_terms named_only terms_of_both) q.invariants) in
      let claims-done = draft_at p claims_go.0 whole_made in
      goes_on (begun p) claims-done (draft_at p 5 whole_made) 1 (lines_before_end p q) (says.End ∷ []) (
        name_sound,
        (
          draft_at p 1 named_only,
          name_goes,
          goes_on (draft_at p 1 named_only) terms-done claims-done 2 term_lines (invariant_lines ++ claim_lines) terms_go.3
              (goes_on terms-done invariants-done claims-done (2 + length term_lines) invariant_lines claim_lines invariants_go.3 claims_go.3),
        ),
      )
      (end_goes claims_go.0 (1 + length (lines_before_end p q)) claims_go.1 claims_go.2)

  left_is : finished p whole_made ≡ q
  left_is =
      let n = length p.terms.terms in
      λ i. with_terms q (record { terms = drop_at p.terms.terms q.terms.terms n refl i; sorts = drop_at p.terms.sorts q.terms.sorts n lawful.obeys.terms.all_sorted i })

-- sound and short lines have no byte at fault
no_byte_fault : (ss : List Said) → AllByRecursion (Sound file.Proposal) ss → AllByRecursion ShortLine ss → AllByRecursion (λ line. byte_fault line ≡ None) (map (written_line file.Proposal) ss)
no_byte_fault [] sound short = tt
no_byte_fault (s ∷ ss) sound short = ((every_byte_may_stand file.Proposal s sound.0).1 short.0, no_byte_fault ss sound.1 short.1)

pub proposal_kept : EveryProposalCanBeKept
proposal_kept p q lawful obeys fits =
    let go = all_go p q lawful obeys in
    let final = draft_at p 5 (whole_made p q lawful obeys) in
    let sound = goes_sound (begun p) final 1 (lines_of p q) go in
    go_on (read_through taken ended (begun p) (written p q)) (λ draft. Ok (finished p draft.made)) final
    (leads_read taken ended (begun p) final (written p q) (map (written_line file.Proposal) (lines_of p q)) (lines_come_apart file.Proposal (lines_of p q) sound)
    (no_byte_fault (lines_of p q) sound fits.lines) fits.bytes (goes_leads (begun p) final 1 (lines_of p q) go) refl)
    ∙ ap Ok (left_is p q lawful obeys)
