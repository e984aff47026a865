-- What holds of half a file that was read, line by line, and so of a whole one.
use Rattle.std.proofs.Common.{◌≡◌, ℕ, ◌≤◌, true, ltb, List, [], ◌∷◌, ◌++◌, length, Ok, Err, Result, sym, refl, ap, ◌∙◌, subst, arith}
use Rattle.std.proofs.lemmas.List.{length_push}
use Rattle.std.proofs.lemmas.Bool.{eqb-true, false≢true}
use Rattle.std.specs.Result.{result_map_both}
use Rattle.text.specs.Faults.{fault}
use Rattle.text.specs.declared.faults.FileFault.{FileFault}
use Rattle.text.specs.declared.faults.LineFault.{LineFault}
use Rattle.text.specs.declared.faults.Wrong.TheVariants as wrong
use Rattle.words.specs.Words.{WordV, bind, first_place, is_name}
use Rattle.words.specs.declared.Number.{Number}
use Rattle.keys.specs.declared.Key.{Key}
use Rattle.keys.specs.declared.Key.TheVariants as key
use Rattle.line.specs.Forms.{FormV}
use Rattle.line.specs.Lines.{LineV, belongs, key_of_line}
use Rattle.line.specs.Lines as line
use Rattle.line.specs.Reading.{read, recognised}
use Rattle.line.specs.Rows.{row_of, may_follow}
use Rattle.line.specs.declared.lines.File.TheVariants as file
use Rattle.reading.proofs.Laws.{kept_read}
use Rattle.reading.specs.Files.{read_through}
use Rattle.rules.proofs.RulesLawful.{lawful_no_rules, rule_lawful, set_lawful}
use Rattle.rules.specs.Lawful.{LawfulRules}
use Rattle.rules.specs.Records.{RuleV}
use Rattle.rules.specs.Taking.{rule_taken, assignment_taken}
use Rattle.tables.proofs.Answered.{bind_ok, first_ok, same_ok, unless_ok}
use Rattle.tables.proofs.LineLaws.{LineNamed, line_key, line_named}
use Rattle.tables.proofs.RowLaws.{within}
use Rattle.tables.proofs.TermLaws.{lawful_no_terms, term_lawful}
use Rattle.tables.specs.Lawful.{LawfulTypes, LawfulVariables, LawfulTerms, declared_by}
use Rattle.tables.specs.Records.{TypesV, VariablesV, TermsV}
use Rattle.tables.specs.Taking.{full, no_such, no_formula, new_term, term_taken}
use Rattle.protocol.specs.Lawful.{LawfulInitial, Obeys, Lawful}
use Rattle.protocol.specs.Reading.{Draft, begun, taken, ended, protocol_of, line_taken, name_taken, with_name, with_types, with_variables, with_terms, with_initial, with_rules}
use Rattle.protocol.specs.Records.{ProtocolV, empty}
use Rattle.protocol.specs.Taking.{type_taken, variable_taken, initial_taken, type_tests}
use Rattle.protocol.specs.VariableTests.{variable_tests}
use Rattle.protocol.proofs.LawInitial.{lawful_no_initial, initial_lawful}
use Rattle.protocol.proofs.LawTypes.{lawful_no_types, lawful_no_variables, type_lawful, variable_lawful}

-- What holds of half a file: all laws, what is still empty by the row of its last line, and what is there by it.
pub record Kept (draft : Draft) : Type 0 where
  pub obeys : Obeys draft.made
  pub no_types : draft.row ≤ 1 → draft.made.types ≡ empty.types
  pub no_variables : draft.row ≤ 2 → draft.made.variables ≡ empty.variables
  pub no_terms : draft.row ≤ 3 → draft.made.terms ≡ empty.terms
  pub no_initial : draft.row ≤ 4 → draft.made.initial ≡ []
  pub no_rules : draft.row ≤ 5 → draft.made.rules ≡ []
  pub name : 1 ≤ draft.row → is_name draft.made.name ≡ true
  pub types : 2 ≤ draft.row → 1 ≤ length draft.made.types.names
  pub variables : 3 ≤ draft.row → 1 ≤ length draft.made.variables.names
  pub terms : 4 ≤ draft.row → 1 ≤ length draft.made.terms.terms
  pub initial : 5 ≤ draft.row → 1 ≤ length draft.made.initial

-- Before the first line.
pub kept_begun : Kept begun
kept_begun =
    record {
      obeys = record {
        types = lawful_no_types;
        variables = lawful_no_variables empty.types;
        terms = lawful_no_terms (declared_by empty.types empty.variables);
        initial = lawful_no_initial empty.terms;
        rules = lawful_no_rules empty.variables empty.terms;
      };
      no_types = λ low. refl;
      no_variables = λ low. refl;
      no_terms = λ low. refl;
      no_initial = λ low. refl;
      no_rules = λ low. refl;
      name = λ high. absurd (omega arith);
      types = λ high. absurd (omega arith);
      variables = λ high. absurd (omega arith);
      terms = λ high. absurd (omega arith);
      initial = λ high. absurd (omega arith);
    }

-- what a line's part is put into
pub part_ok : {A : Type 0} (r : Result A LineFault) (put : A → ProtocolV) (made : ProtocolV) → bind r (λ x. Ok (put x)) ≡ Ok made → (x : A) × (r ≡ Ok x) × (put x ≡ made)
part_ok r put made is =
    let out = bind_ok r (λ x. Ok (put x)) made is in
    (out.0, out.1, same_ok (put out.0) made out.2)

abbrev pub at_row : ℕ → ProtocolV → Draft
at_row row made = record { row = row; made = made }

-- the name, and one more of each kind
name_kept : (name : WordV) (s after : List ℕ) → is_name name.bytes ≡ true → name_taken name s ≡ Ok after → is_name after ≡ true
name_kept name s after named is =
    subst (λ bytes. is_name bytes ≡ true) (unless_ok ((ltb 0 (length s), fault wrong.TooMany 1) ∷ []) name.bytes after is).0 named

type_pushed : (name values : WordV) (s after : TypesV) → type_taken name values s ≡ Ok after → 1 ≤ length after.names
type_pushed name values s after is =
    let out = unless_ok (type_tests s.names name values) _ after is in
    omega (arith, ap (λ (t : TypesV). length t.names) out.0, length_push s.names name.bytes)

variable_pushed : (types : TypesV) (name of : WordV) (s after : VariablesV) → variable_taken types name of s ≡ Ok after → 1 ≤ length after.names
variable_pushed types name of s after is =
    let out = unless_ok (variable_tests types name of s) _ after is in
    omega (arith, ap (λ (v : VariablesV). length v.names) out.0, length_push s.names name.bytes)

term_pushed : (types : TypesV) (variables : VariablesV) (f : FormV) (s after : TermsV) → term_taken types variables f s ≡ Ok after → 1 ≤ length after.terms
term_pushed types variables f s after is =
    let out = bind_ok (new_term types variables f s) _ after is in
    omega (arith, ap (λ (t : TermsV). length t.terms) (same_ok _ after out.2), length_push s.terms out.0.0)

initial_pushed : (terms : TermsV) (n : Number) (s after : List ℕ) → initial_taken terms n s ≡ Ok after → 1 ≤ length after
initial_pushed terms n s after is =
    let out = unless_ok (no_such terms.sorts n ∷ no_formula terms.sorts n ∷ full 8 s ∷ []) (s ++ n.value ∷ []) after is in
    omega (arith, ap length out.0, length_push s n.value)

module _ (draft : Draft) (kept : Kept draft) where
  abbrev p : ProtocolV
  p = draft.made

  name_line : (name : List ℕ) → is_name name ≡ true → (0 ≤ draft.row) × (draft.row ≤ 1) → Kept (at_row 1 (with_name p name))
  name_line name named row =
      record {
        obeys = record { types = kept.obeys.types; variables = kept.obeys.variables; terms = kept.obeys.terms; initial = kept.obeys.initial; rules = kept.obeys.rules };
        no_types = λ low. kept.no_types (omega arith);
        no_variables = λ low. kept.no_variables (omega arith);
        no_terms = λ low. kept.no_terms (omega arith);
        no_initial = λ low. kept.no_initial (omega arith);
        no_rules = λ low. kept.no_rules (omega arith);
        name = λ high. named;
        types = λ high. absurd (omega arith);
        variables = λ high. absurd (omega arith);
        terms = λ high. absurd (omega arith);
        initial = λ high. absurd (omega arith);
      }

  type_line : (types : TypesV) → LawfulTypes types → 1 ≤ length types.names → (1 ≤ draft.row) × (draft.row ≤ 2) → Kept (at_row 2 (with_types p types))
  type_line types laws some row =
      record {
        obeys = record {
          types = laws;
          variables = subst (LawfulVariables types) (sym (kept.no_variables row.1)) (lawful_no_variables types);
          terms = subst (LawfulTerms (declared_by types p.variables)) (sym (kept.no_terms (omega arith))) (lawful_no_terms (declared_by types p.variables));
          initial = kept.obeys.initial;
          rules = kept.obeys.rules;
        };
        no_types = λ low. absurd (omega arith);
        no_variables = λ low. kept.no_variables (omega arith);
        no_terms = λ low. kept.no_terms (omega arith);
        no_initial = λ low. kept.no_initial (omega arith);
        no_rules = λ low. kept.no_rules (omega arith);
        name = λ high. kept.name (omega arith);
        types = λ high. some;
        variables = λ high. absurd (omega arith);
        terms = λ high. absurd (omega arith);
        initial = λ high. absurd (omega arith);
      }

  variable_line : (variables : VariablesV) → LawfulVariables p.types variables → 1 ≤ length variables.names → (2 ≤ draft.row) × (draft.row ≤ 3) → Kept (at_row 3 (with_variables p variables))
  variable_line variables laws some row =
      record {
        obeys = record {
          types = kept.obeys.types;
          variables = laws;
          terms = subst (LawfulTerms (declared_by p.types variables)) (sym (kept.no_terms row.1)) (lawful_no_terms (declared_by p.types variables));
          initial = kept.obeys.initial;
          rules = subst (LawfulRules variables p.terms) (sym (kept.no_rules (omega arith))) (lawful_no_rules variables p.terms);
        };
        no_types = λ low. absurd (omega arith);
        no_variables = λ low. absurd (omega arith);
        no_terms = λ low. kept.no_terms (omega arith);
        no_initial = λ low. kept.no_initial (omega arith);
        no_rules = λ low. kept.no_rules (omega arith);
        name = λ high. kept.name (omega arith);
        types = λ high. kept.types (omega arith);
        variables = λ high. some;
        terms = λ high. absurd (omega arith);
        initial = λ high. absurd (omega arith);
      }

  term_line : (terms : TermsV) → LawfulTerms (declared_by p.types p.variables) terms → 1 ≤ length terms.terms → (3 ≤ draft.row) × (draft.row ≤ 4) → Kept (at_row 4 (with_terms p terms))
  term_line terms laws some row =
      record {
        obeys = record {
          types = kept.obeys.types;
          variables = kept.obeys.variables;
          terms = laws;
          initial = subst (LawfulInitial terms) (sym (kept.no_initial row.1)) (lawful_no_initial terms);
          rules = subst (LawfulRules p.variables terms) (sym (kept.no_rules (omega arith))) (lawful_no_rules p.variables terms);
        };
        no_types = λ low. absurd (omega arith);
        no_variables = λ low. absurd (omega arith);
        no_terms = λ low. absurd (omega arith);
        no_initial = λ low. kept.no_initial (omega arith);
        no_rules = λ low. kept.no_rules (omega arith);
        name = λ high. kept.name (omega arith);
        types = λ high. kept.types (omega arith);
        variables = λ high. kept.variables (omega arith);
        terms = λ high. some;
        initial = λ high. absurd (omega arith);
      }

  initial_line : (initial : List ℕ) → LawfulInitial p.terms initial → 1 ≤ length initial → (4 ≤ draft.row) × (draft.row ≤ 5) → Kept (at_row 5 (with_initial p initial))
  initial_line initial laws some row =
      record {
        obeys = record { types = kept.obeys.types; variables = kept.obeys.variables; terms = kept.obeys.terms; initial = laws; rules = kept.obeys.rules };
        no_types = λ low. absurd (omega arith);
        no_variables = λ low. absurd (omega arith);
        no_terms = λ low. absurd (omega arith);
        no_initial = λ low. absurd (omega arith);
        no_rules = λ low. kept.no_rules (omega arith);
        name = λ high. kept.name (omega arith);
        types = λ high. kept.types (omega arith);
        variables = λ high. kept.variables (omega arith);
        terms = λ high. kept.terms (omega arith);
        initial = λ high. some;
      }

  -- `rule` and `set` lines, and the end
  late_line : (row : ℕ) (rules : List RuleV) → LawfulRules p.variables p.terms rules → 6 ≤ row → 5 ≤ draft.row → Kept (at_row row (with_rules p rules))
  late_line row rules laws late before =
      record {
        obeys = record { types = kept.obeys.types; variables = kept.obeys.variables; terms = kept.obeys.terms; initial = kept.obeys.initial; rules = laws };
        no_types = λ low. absurd (omega arith);
        no_variables = λ low. absurd (omega arith);
        no_terms = λ low. absurd (omega arith);
        no_initial = λ low. absurd (omega arith);
        no_rules = λ low. absurd (omega arith);
        name = λ high. kept.name (omega arith);
        types = λ high. kept.types (omega arith);
        variables = λ high. kept.variables (omega arith);
        terms = λ high. kept.terms (omega arith);
        initial = λ high. kept.initial before;
      }

line_kept : (draft : Draft) (l : LineV) (made : ProtocolV) → Kept draft → may_follow file.Protocol draft.row (key_of_line l) ≡ true → LineNamed l → line_taken l draft.made ≡ Ok made → Kept (at_row (row_of file.Protocol (key_of_line l)) made)
line_kept draft (line.Protocol name) made kept may named is =
    let out = part_ok (name_taken name draft.made.name) (with_name draft.made) made is in
    subst (λ m. Kept (at_row 1 m)) out.2
    (name_line draft kept out.0 (name_kept name draft.made.name out.0 named out.1) (let row = within file.Protocol draft.row key.Protocol 0 (omega arith) (omega arith) may in (row.0, row.1)))
line_kept draft (line.«Type» name values) made kept may named is =
    let s = draft.made.types in
    let out = part_ok (type_taken name values s) (with_types draft.made) made is in
    subst (λ m. Kept (at_row 2 m)) out.2
    (type_line draft kept out.0 (type_lawful name values s out.0 kept.obeys.types named.0 named.1 out.1) (type_pushed name values s out.0 out.1)
    (let row = within file.Protocol draft.row key.«Type» 1 (omega arith) (omega arith) may in (row.0, row.1)))
line_kept draft (line.Var name of) made kept may named is =
    let s = draft.made.variables in
    let t = draft.made.types in
    let out = part_ok (variable_taken t name of s) (with_variables draft.made) made is in
    subst (λ m. Kept (at_row 3 m)) out.2
    (variable_line draft kept out.0 (variable_lawful t name of s out.0 kept.obeys.types kept.obeys.variables named out.1) (variable_pushed t name of s out.0 out.1)
    (let row = within file.Protocol draft.row key.Var 2 (omega arith) (omega arith) may in (row.0, row.1)))
line_kept draft (line.Term form) made kept may named is =
    let s = draft.made.terms in
    let t = draft.made.types in
    let v = draft.made.variables in
    let out = part_ok (term_taken t v form s) (with_terms draft.made) made is in
    subst (λ m. Kept (at_row 4 m)) out.2
    (term_line draft kept out.0 (term_lawful t v form s out.0 kept.obeys.terms out.1) (term_pushed t v form s out.0 out.1) (let row = within file.Protocol draft.row key.Term 3 (omega arith) (omega arith) may in (row.0, row.1)))
line_kept draft (line.Init formula) made kept may named is =
    let s = draft.made.initial in
    let t = draft.made.terms in
    let out = part_ok (initial_taken t formula s) (with_initial draft.made) made is in
    subst (λ m. Kept (at_row 5 m)) out.2
    (initial_line draft kept out.0 (initial_lawful t formula s out.0 kept.obeys.initial out.1) (initial_pushed t formula s out.0 out.1) (let row = within file.Protocol draft.row key.Init 4 (omega arith) (omega arith) may in (row.0, row.1)))
line_kept draft (line.Rule name guard) made kept may named is =
    let s = draft.made.rules in
    let v = draft.made.variables in
    let t = draft.made.terms in
    let out = part_ok (rule_taken t name guard s) (with_rules draft.made) made is in
    subst (λ m. Kept (at_row 6 m)) out.2
    (late_line draft kept 6 out.0 (rule_lawful v t name guard s out.0 kept.obeys.rules named out.1) (omega arith)
    (within file.Protocol draft.row key.Rule 5 (omega arith) (omega arith) may).0)
line_kept draft (line.Set variable term) made kept may named is =
    let s = draft.made.rules in
    let v = draft.made.variables in
    let t = draft.made.terms in
    let out = part_ok (assignment_taken v t variable term s) (with_rules draft.made) made is in
    let row = (within file.Protocol draft.row key.Set 5 (omega arith) (omega arith) may).0 in
    subst (λ m. Kept (at_row 6 m)) out.2
    (late_line draft kept 6 out.0 (set_lawful v t variable term s out.0 kept.obeys.rules out.1) (omega arith) (omega arith))
line_kept draft line.End made kept may named is =
    subst (λ m. Kept (at_row 7 m)) (same_ok draft.made made is)
    (late_line draft kept 7 draft.made.rules kept.obeys.rules (omega arith) (within file.Protocol draft.row key.End 5 (omega arith) (omega arith) may).0)
line_kept draft (line.Proposal name) made kept may named is = absurd (false≢true may)
line_kept draft (line.Inv name formula) made kept may named is = absurd (false≢true may)
line_kept draft (line.Cause rule invariant kind) made kept may named is = absurd (false≢true may)

-- What is known of a line that was taken.
pub record Taken (draft after : Draft) (bytes : List ℕ) : Type 0 where
  pub k : Key
  pub rest : List ℕ
  pub l : LineV
  pub made : ProtocolV
  pub known : recognised file.Protocol bytes ≡ Ok (k, rest)
  pub words : read file.Protocol k rest ≡ Ok l
  pub may : may_follow file.Protocol draft.row (key_of_line l) ≡ true
  pub adds : line_taken l draft.made ≡ Ok made
  pub is : at_row (row_of file.Protocol (key_of_line l)) made ≡ after

pub taken_from : (draft after : Draft) (bytes : List ℕ) → taken draft bytes ≡ Ok after → Taken draft after bytes
taken_from draft after bytes is =
    let known = bind_ok (recognised file.Protocol bytes) _ after is in
    let k = known.0.0 in
    let rest = known.0.1 in
    let placed = first_ok (may_follow file.Protocol draft.row k) _ _ after known.2 in
    let words = bind_ok (read file.Protocol k rest) _ after placed.1 in
    let l = words.0 in
    let adds = bind_ok (line_taken l draft.made) _ after words.2 in
    let kind : key_of_line l ≡ k = line_key file.Protocol k (first_place k rest) l words.1 in
    record {
      k = k;
      rest = rest;
      l = l;
      made = adds.0;
      known = known.1;
      words = words.1;
      may = subst (λ j. may_follow file.Protocol draft.row j ≡ true) (sym kind) placed.0;
      adds = adds.1;
      is = ap (λ j. at_row (row_of file.Protocol j) adds.0) kind ∙ same_ok (at_row (row_of file.Protocol k) adds.0) after adds.2;
    }

-- What holds before a line holds after it.
pub kept_taken : (draft after : Draft) (bytes : List ℕ) → Kept draft → taken draft bytes ≡ Ok after → Kept after
kept_taken draft after bytes kept is =
    let t = taken_from draft after bytes is in
    subst (λ d. Kept d) t.is (line_kept draft t.l t.made kept t.may (line_named file.Protocol t.k t.rest t.l t.words) t.adds)

-- The protocol that a file read to its end leaves is lawful.
pub lawful_whole : (text : List ℕ) (draft : Draft) → read_through (λ draft number line. taken draft line) ended begun text ≡ Ok draft → Lawful draft.made
lawful_whole text draft is =
    let whole = kept_read (λ draft number line. taken draft line) ended (λ draft number. Kept draft) (λ before after number line. kept_taken before after line) begun draft text kept_begun is in
    let kept = whole.1 in
    let row = eqb-true draft.row 7 whole.2 in
    record {
      obeys = kept.obeys;
      complete = record {
        name = kept.name (omega arith);
        types = kept.types (omega arith);
        variables = kept.variables (omega arith);
        terms = kept.terms (omega arith);
        initial = kept.initial (omega arith);
      };
    }

pub made_ok : (r : Result Draft FileFault) (p : ProtocolV) → result_map_both (λ draft. draft.made) (λ fault. fault) r ≡ Ok p → (draft : Draft) × (r ≡ Ok draft) × (draft.made ≡ p)
made_ok (Ok draft) p is = (draft, refl, same_ok draft.made p is)
made_ok (Err fault) p is = absurd (let z : ◌≡◌ {A = ℕ} 0 1 = cc in omega arith)

-- Every protocol that was read from a file is lawful.
pub lawful_read : (text : List ℕ) (p : ProtocolV) → protocol_of text ≡ Ok p → Lawful p
lawful_read text p is =
    let out = made_ok (read_through (λ draft number line. taken draft line) ended begun text) p is in
    subst Lawful out.2 (lawful_whole text out.0 out.1)
