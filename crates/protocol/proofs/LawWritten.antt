-- What was made of the lines so far is written as just those lines, so that a file is its protocol's written form.
use Rattle.std.proofs.Common.{◌≡◌, ℕ, suc, ◌+◌, ◌-◌, ◌<◌, ◌≤◌, true, ltb, leb, List, [], ◌∷◌, ◌++◌, map, length, get_or, take, set, Ok, sym, refl, ap, ◌∙◌, subst, ⊎_elim, arith}
use Rattle.std.proofs.lemmas.List.{append-nil, append_assoc, map_push, flat_map_more, set_split, set-get_or, drop_all}
use Rattle.std.proofs.lemmas.Bool.{eqb-true, eqb-false, ltb-false, leb-true, and_parts, not-false, false≢true, cases_lt}
use Rattle.text.specs.Faults.{fault}
use Rattle.text.specs.declared.faults.Wrong.TheVariants as wrong
use Rattle.words.specs.Words.{WordV, is_name}
use Rattle.words.specs.declared.Number.{Number}
use Rattle.keys.specs.declared.Key.TheVariants as key
use Rattle.terms.specs.Sorts.{sort}
use Rattle.terms.specs.declared.Assignment.{Assignment}
use Rattle.line.specs.Forms.{FormV}
use Rattle.line.specs.Lines.{LineV, key_of_line}
use Rattle.line.specs.Lines as line
use Rattle.line.specs.Rows.{row_of, may_follow}
use Rattle.line.specs.declared.lines.File.TheVariants as file
use Rattle.writing.proofs.Taken.{nothing_is_lost}
use Rattle.writing.specs.Said.{Said, said}
use Rattle.writing.specs.Said as says
use Rattle.writing.specs.Written.{written_lines}
use Rattle.reading.proofs.Laws.{closed, lines_read}
use Rattle.rules.specs.Records.{RuleV}
use Rattle.rules.specs.RuleTests.{rule_tests, set_line_tests, more_sets, with_set}
use Rattle.rules.specs.Taking.{rule_taken, assignment_taken, last_rule, no_rule}
use Rattle.tables.proofs.Answered.{bind_ok, same_ok, unless_ok}
use Rattle.tables.proofs.FormLaws.{found_name, form_kept}
use Rattle.tables.proofs.RowLaws.{within}
use Rattle.tables.specs.Lawful.{declared_by}
use Rattle.tables.specs.Records.{TypesV, VariablesV, TermsV}
use Rattle.tables.specs.Taking.{number_in, named_term, columns, at_argument, new_term, term_taken, no_such, no_formula, full, value_words}
use Rattle.tables.specs.Written.{form_of}
use Rattle.protocol.specs.Reading.{Draft, begun, taken, ended, protocol_of, line_taken, name_taken, with_name, with_types, with_variables, with_terms, with_initial, with_rules}
use Rattle.protocol.specs.Records.{ProtocolV, empty}
use Rattle.protocol.specs.Taking.{type_taken, variable_taken, initial_taken, type_tests}
use Rattle.protocol.specs.VariableTests.{variable_tests}
use Rattle.protocol.specs.Written.{paired, type_lines, variable_lines, term_lines, initial_lines, set_line, rule_lines, lines_before_end, lines_of, written}
use Rattle.protocol.proofs.Climbs.{text_of}
use Rattle.protocol.proofs.LawWhole.{Kept, at_row, part_ok, kept_begun, kept_taken, taken_from, made_ok}

-- the lines of the first rows
abbrev first_1 : ProtocolV → List Said
first_1 p = says.Protocol p.name ∷ []

abbrev first_2 : ProtocolV → List Said
first_2 p = first_1 p ++ type_lines p.types

abbrev first_3 : ProtocolV → List Said
first_3 p = first_2 p ++ variable_lines p.types p.variables

abbrev first_4 : ProtocolV → List Said
first_4 p = first_3 p ++ term_lines p.types p.variables p.terms

abbrev first_5 : ProtocolV → List Said
first_5 p = first_4 p ++ initial_lines p.initial

-- where the later rows are empty, these are all
module _ (p : ProtocolV) (no_rules : p.rules ≡ []) where
  all_5 : lines_before_end p ≡ first_5 p
  all_5 = ap (λ r. first_5 p ++ rule_lines p.variables r) no_rules ∙ append-nil (first_5 p)

  module _ (no_initial : p.initial ≡ []) where
    all_4 : lines_before_end p ≡ first_4 p
    all_4 = all_5 ∙ ap (λ i. first_4 p ++ initial_lines i) no_initial ∙ append-nil (first_4 p)

    module _ (no_terms : p.terms ≡ empty.terms) where
      all_3 : lines_before_end p ≡ first_3 p
      all_3 = all_4 ∙ ap (λ t. first_3 p ++ term_lines p.types p.variables t) no_terms ∙ append-nil (first_3 p)

      module _ (no_variables : p.variables ≡ empty.variables) where
        all_2 : lines_before_end p ≡ first_2 p
        all_2 = all_3 ∙ ap (λ v. first_2 p ++ variable_lines p.types v) no_variables ∙ append-nil (first_2 p)

        all_1 : p.types ≡ empty.types → lines_before_end p ≡ first_1 p
        all_1 no_types = all_2 ∙ ap (λ t. first_1 p ++ type_lines t) no_types ∙ append-nil (first_1 p)

-- one line more at the end of the last row
grown : (before after front row : List Said) (s : Said) → after ≡ front ++ (row ++ s ∷ []) → before ≡ front ++ row → after ≡ before ++ s ∷ []
grown before after front row s now then = now ∙ sym (append_assoc front row (s ∷ [])) ∙ ap (λ lines. lines ++ s ∷ []) (sym then)

pub paired_push : {A B C : Type 0} (f : A → B → C) (xs : List A) (ys : List B) (x : A) (y : B) → length xs ≡ length ys → paired f (xs ++ x ∷ []) (ys ++ y ∷ []) ≡ paired f xs ys ++ f x y ∷ []
paired_push f [] [] x y same = refl
paired_push f [] (b ∷ ys) x y same = absurd (omega arith)
paired_push f (a ∷ xs) [] x y same = absurd (omega arith)
paired_push f (a ∷ xs) (b ∷ ys) x y same = ap (λ zs. f a b ∷ zs) (paired_push f xs ys x y (omega arith))

-- what each kind of line adds is what it says
type_added : (name values : WordV) (s after : TypesV) → length s.values ≡ length s.names → type_taken name values s ≡ Ok after → type_lines after ≡ type_lines s ++ said (line.«Type» name values) ∷ []
type_added name values s after even is =
    let out = unless_ok (type_tests s.names name values) _ after is in
    ap type_lines (sym out.0) ∙ paired_push says.«Type» s.names s.values name.bytes (map (λ w. w.bytes) (value_words values)) (sym even)

variable_added : (t : TypesV) (name of : WordV) (s after : VariablesV) → length s.kinds ≡ length s.names → variable_taken t name of s ≡ Ok after → variable_lines t after ≡ variable_lines t s ++ said (line.Var name of) ∷ []
variable_added t name of s after even is =
    let out = unless_ok (variable_tests t name of s) _ after is in
    let spelled = found_name t.names of.bytes (not-false _ out.1.1.0) in
    ap (variable_lines t) (sym out.0)
    ∙ paired_push (λ name kind. says.Var name (get_or t.names kind [])) s.names s.kinds name.bytes (number_in t.names of) (sym even)
    ∙ ap (λ n. variable_lines t s ++ says.Var name.bytes n ∷ []) spelled

term_added : (t : TypesV) (v : VariablesV) (f : FormV) (s after : TermsV) → term_taken t v f s ≡ Ok after → term_lines t v after ≡ term_lines t v s ++ said (line.Term f) ∷ []
term_added t v f s after is =
    let made = bind_ok (new_term t v f s) _ after is in
    let named = bind_ok (named_term t v f) _ made.0 made.1 in
    let sorted = bind_ok (at_argument (columns f) (sort (declared_by t v) s.sorts named.0)) _ made.0 named.2 in
    let same : named.0 ≡ made.0.0 = ap (λ p. p.0) (unless_ok (full 512 s.terms ∷ []) (named.0, sorted.0) made.0 sorted.2).0 in
    ap (term_lines t v) (sym (same_ok _ after made.2))
    ∙ map_push (λ x. says.Term (form_of t v x)) s.terms made.0.0
    ∙ ap (λ said. term_lines t v s ++ says.Term said ∷ []) (ap (form_of t v) (sym same) ∙ form_kept t v f named.0 named.1)

initial_added : (t : TermsV) (n : Number) (s after : List ℕ) → initial_taken t n s ≡ Ok after → initial_lines after ≡ initial_lines s ++ said (line.Init n) ∷ []
initial_added t n s after is =
    let out = unless_ok (no_such t.sorts n ∷ no_formula t.sorts n ∷ full 8 s ∷ []) (s ++ n.value ∷ []) after is in
    ap initial_lines (sym out.0) ∙ map_push says.Init s n.value

-- the lines of one rule
abbrev rule_line : VariablesV → RuleV → List Said
rule_line v r = says.Rule r.name r.guard ∷ map (set_line v) r.sets

pub rules_push : (v : VariablesV) (s : List RuleV) (r : RuleV) → rule_lines v (s ++ r ∷ []) ≡ rule_lines v s ++ (says.Rule r.name r.guard ∷ map (set_line v) r.sets)
rules_push v s r = sym (flat_map_more (rule_line v) [] s r)

rule_added : (v : VariablesV) (t : TermsV) (name : WordV) (n : Number) (s after : List RuleV) → rule_taken t name n s ≡ Ok after → rule_lines v after ≡ rule_lines v s ++ said (line.Rule name n) ∷ []
rule_added v t name n s after is =
    let out = unless_ok (rule_tests t.sorts name n s) _ after is in
    ap (rule_lines v) (sym out.0) ∙ rules_push v s (record { name = name.bytes; guard = n.value; sets = [] })

-- rules by those before the last, and the last
last_put : (s : List RuleV) (r : RuleV) → 0 < length s → set s (length s - 1) r ≡ take (length s - 1) s ++ r ∷ []
last_put s r some =
    let i = length s - 1 in
    set_split s i r (omega arith) ∙ ap (λ rest. take i s ++ r ∷ rest) (drop_all (suc i) s (omega arith))

last_there : (s : List RuleV) → 0 < length s → take (length s - 1) s ++ last_rule s ∷ [] ≡ s
last_there s some = sym (last_put s (last_rule s) some) ∙ set-get_or s (length s - 1) no_rule

-- one assignment more for the last rule is one line more
pub set_pushed : (v : VariablesV) (s : List RuleV) (a : Assignment) → 0 < length s → rule_lines v (with_set a s) ≡ rule_lines v s ++ set_line v a ∷ []
set_pushed v s a some =
    let front = take (length s - 1) s in
    let r = last_rule s in
    let lines = rule_lines v front in
    ap (rule_lines v) (last_put s (more_sets a r) some)
    ∙ rules_push v front (more_sets a r)
    ∙ ap (λ more. lines ++ (says.Rule r.name r.guard ∷ more)) (map_push (set_line v) r.sets a)
    ∙ sym (append_assoc lines (rule_line v r) (set_line v a ∷ []))
    ∙ ap (λ all. all ++ set_line v a ∷ []) (sym (rules_push v front r) ∙ ap (rule_lines v) (last_there s some))

set_added : (v : VariablesV) (t : TermsV) (name : WordV) (n : Number) (s after : List RuleV) → assignment_taken v t name n s ≡ Ok after → rule_lines v after ≡ rule_lines v s ++ said (line.Set name n) ∷ []
set_added v t name n s after is =
    let a : Assignment = record { variable = number_in v.names name; term = n.value } in
    let out = unless_ok (set_line_tests v t name n s) (with_set a s) after is in
    let some : 0 < length s = ⊎_elim (λ lt. lt) (λ le. absurd (eqb-false (length s) 0 out.1.0 (omega arith))) (cases_lt 0 (length s)) in
    ap (rule_lines v) (sym out.0) ∙ set_pushed v s a some
    ∙ ap (λ m. rule_lines v s ++ says.Set m n.value ∷ []) (found_name v.names name.bytes (not-false _ out.1.1.0))

-- What was made so far, written, is the lines so far: before the first, behind others, and behind the last.
record Says (draft : Draft) (lines : List (List ℕ)) : Type 0 where
  pub none : draft.row ≡ 0 → lines ≡ []
  pub some : 1 ≤ draft.row → draft.row ≤ 6 → map text_of (lines_before_end draft.made) ≡ lines
  pub whole : 7 ≤ draft.row → map text_of (lines_of draft.made) ≡ lines

-- a line behind others
module _ (draft : Draft) (lines : List (List ℕ)) (kept : Kept draft) (so_far : Says draft lines) (s : Said) (bytes : List ℕ) (same : text_of s ≡ bytes) where
  abbrev p : ProtocolV
  p = draft.made

  line_more : (row : ℕ) (made : ProtocolV) → 1 ≤ draft.row → draft.row ≤ 6 → 1 ≤ row → row ≤ 6 → lines_before_end made ≡ lines_before_end p ++ s ∷ [] → Says (at_row row made) (lines ++ bytes ∷ [])
  line_more row made low high first last more =
      record {
        none = λ zero. absurd (omega arith);
        some = λ a b. ap (map text_of) more ∙ map_push text_of (lines_before_end p) s ∙ (λ i. so_far.some low high i ++ same i ∷ []);
        whole = λ late. absurd (omega arith);
      }

  line_first : (name : List ℕ) → s ≡ says.Protocol name → draft.row ≡ 0 → Says (at_row 1 (with_name p name)) (lines ++ bytes ∷ [])
  line_first name is start =
      let low : draft.row ≤ 1 = omega arith in
      record {
        none = λ zero. absurd (omega arith);
        some = λ a b.
            ap (map text_of) (all_1 (with_name p name) (kept.no_rules (omega arith)) (kept.no_initial (omega arith)) (kept.no_terms (omega arith)) (kept.no_variables (omega arith)) (kept.no_types low))
            ∙ (λ i. text_of (sym is i) ∷ []) ∙ (λ i. sym (so_far.none start) i ++ same i ∷ []);
        whole = λ late. absurd (omega arith);
      }

  line_last : s ≡ says.End → 1 ≤ draft.row → draft.row ≤ 6 → Says (at_row 7 p) (lines ++ bytes ∷ [])
  line_last is low high =
      record {
        none = λ zero. absurd (omega arith);
        some = λ a b. absurd (omega arith);
        whole = λ late. map_push text_of (lines_before_end p) says.End ∙ (λ i. so_far.some low high i ++ (ap text_of (sym is) ∙ same) i ∷ []);
      }

-- a name is not empty
name_long : (bytes : List ℕ) → is_name bytes ≡ true → 1 ≤ length bytes
name_long bytes is = leb-true 1 (length bytes) (and_parts (leb 1 (length bytes)) _ is).0

line_says : (draft : Draft) (lines : List (List ℕ)) (l : LineV) (bytes : List ℕ) (made : ProtocolV) → Kept draft → Says draft lines → may_follow file.Protocol draft.row (key_of_line l) ≡ true → text_of (said l) ≡ bytes → line_taken l draft.made ≡ Ok made
    → Says (at_row (row_of file.Protocol (key_of_line l)) made) (lines ++ bytes ∷ [])
line_says draft lines (line.Protocol name) bytes made kept so_far may same is =
    let s = draft.made.name in
    let out = part_ok (name_taken name s) (with_name draft.made) made is in
    let tested = unless_ok ((ltb 0 (length s), fault wrong.TooMany 1) ∷ []) name.bytes out.0 out.1 in
    let row = within file.Protocol draft.row key.Protocol 0 (omega arith) (omega arith) may in
    let empty_name : length s ≤ 0 = ltb-false 0 (length s) tested.1.0 in
    let start : draft.row ≡ 0 = ⊎_elim (λ lt. absurd (omega (arith, name_long s (kept.name (omega arith))))) (λ le. omega arith) (cases_lt 0 draft.row) in
    subst (λ m. Says (at_row 1 m) (lines ++ bytes ∷ [])) out.2
    (line_first draft lines kept so_far (said (line.Protocol name)) bytes same out.0 (ap says.Protocol tested.0) start)
line_says draft lines (line.«Type» name values) bytes made kept so_far may same is =
    let p = draft.made in
    let s = p.types in
    let out = part_ok (type_taken name values s) (with_types p) made is in
    let row = within file.Protocol draft.row key.«Type» 1 (omega arith) (omega arith) may in
    let none-5 = kept.no_rules (omega (arith, row.1)) in
    let none-4 = kept.no_initial (omega (arith, row.1)) in
    let none-3 = kept.no_terms (omega (arith, row.1)) in
    let none_2 = kept.no_variables row.1 in
    subst (λ m. Says (at_row 2 m) (lines ++ bytes ∷ [])) out.2
    (line_more draft lines kept so_far (said (line.«Type» name values)) bytes same 2 (with_types p out.0) row.0 (omega (arith, row.1)) (omega arith) (omega arith)
    (grown (lines_before_end p) (lines_before_end (with_types p out.0)) (first_1 p) (type_lines s) (said (line.«Type» name values))
    (all_2 (with_types p out.0) none-5 none-4 none-3 none_2 ∙ ap (λ row. first_1 p ++ row) (type_added name values s out.0 kept.obeys.types.all_valued out.1))
    (all_2 p none-5 none-4 none-3 none_2)))
line_says draft lines (line.Var name of) bytes made kept so_far may same is =
    let p = draft.made in
    let s = p.variables in
    let out = part_ok (variable_taken p.types name of s) (with_variables p) made is in
    let row = within file.Protocol draft.row key.Var 2 (omega arith) (omega arith) may in
    let none-5 = kept.no_rules (omega (arith, row.1)) in
    let none-4 = kept.no_initial (omega (arith, row.1)) in
    let none-3 = kept.no_terms row.1 in
    subst (λ m. Says (at_row 3 m) (lines ++ bytes ∷ [])) out.2
    (line_more draft lines kept so_far (said (line.Var name of)) bytes same 3 (with_variables p out.0) (omega (arith, row.0)) (omega (arith, row.1)) (omega arith) (omega arith)
    (grown (lines_before_end p) (lines_before_end (with_variables p out.0)) (first_2 p) (variable_lines p.types s) (said (line.Var name of))
    (all_3 (with_variables p out.0) none-5 none-4 none-3 ∙ ap (λ row. first_2 p ++ row) (variable_added p.types name of s out.0 kept.obeys.variables.all_typed out.1))
    (all_3 p none-5 none-4 none-3)))
line_says draft lines (line.Term form) bytes made kept so_far may same is =
    let p = draft.made in
    let s = p.terms in
    let out = part_ok (term_taken p.types p.variables form s) (with_terms p) made is in
    let row = within file.Protocol draft.row key.Term 3 (omega arith) (omega arith) may in
    let none-5 = kept.no_rules (omega (arith, row.1)) in
    let none-4 = kept.no_initial row.1 in
    subst (λ m. Says (at_row 4 m) (lines ++ bytes ∷ [])) out.2
    (line_more draft lines kept so_far (said (line.Term form)) bytes same 4 (with_terms p out.0) (omega (arith, row.0)) (omega (arith, row.1)) (omega arith) (omega arith)
    (grown (lines_before_end p) (lines_before_end (with_terms p out.0)) (first_3 p) (term_lines p.types p.variables s) (said (line.Term form))
    (all_4 (with_terms p out.0) none-5 none-4 ∙ ap (λ row. first_3 p ++ row) (term_added p.types p.variables form s out.0 out.1))
    (all_4 p none-5 none-4)))
line_says draft lines (line.Init formula) bytes made kept so_far may same is =
    let p = draft.made in
    let s = p.initial in
    let out = part_ok (initial_taken p.terms formula s) (with_initial p) made is in
    let row = within file.Protocol draft.row key.Init 4 (omega arith) (omega arith) may in
    let none-5 = kept.no_rules row.1 in
    subst (λ m. Says (at_row 5 m) (lines ++ bytes ∷ [])) out.2
    (line_more draft lines kept so_far (said (line.Init formula)) bytes same 5 (with_initial p out.0) (omega (arith, row.0)) (omega (arith, row.1)) (omega arith) (omega arith)
    (grown (lines_before_end p) (lines_before_end (with_initial p out.0)) (first_4 p) (initial_lines s) (said (line.Init formula))
    (all_5 (with_initial p out.0) none-5 ∙ ap (λ row. first_4 p ++ row) (initial_added p.terms formula s out.0 out.1))
    (all_5 p none-5)))
line_says draft lines (line.Rule name guard) bytes made kept so_far may same is =
    let p = draft.made in
    let s = p.rules in
    let out = part_ok (rule_taken p.terms name guard s) (with_rules p) made is in
    let row = within file.Protocol draft.row key.Rule 5 (omega arith) (omega arith) may in
    subst (λ m. Says (at_row 6 m) (lines ++ bytes ∷ [])) out.2
    (line_more draft lines kept so_far (said (line.Rule name guard)) bytes same 6 (with_rules p out.0) (omega (arith, row.0)) row.1 (omega arith) (omega arith)
    (grown (lines_before_end p) (lines_before_end (with_rules p out.0)) (first_5 p) (rule_lines p.variables s) (said (line.Rule name guard))
    (ap (λ row. first_5 p ++ row) (rule_added p.variables p.terms name guard s out.0 out.1)) refl))
line_says draft lines (line.Set variable term) bytes made kept so_far may same is =
    let p = draft.made in
    let s = p.rules in
    let out = part_ok (assignment_taken p.variables p.terms variable term s) (with_rules p) made is in
    let row = within file.Protocol draft.row key.Set 5 (omega arith) (omega arith) may in
    subst (λ m. Says (at_row 6 m) (lines ++ bytes ∷ [])) out.2
    (line_more draft lines kept so_far (said (line.Set variable term)) bytes same 6 (with_rules p out.0) (omega (arith, row.0)) row.1 (omega arith) (omega arith)
    (grown (lines_before_end p) (lines_before_end (with_rules p out.0)) (first_5 p) (rule_lines p.variables s) (said (line.Set variable term))
    (ap (λ row. first_5 p ++ row) (set_added p.variables p.terms variable term s out.0 out.1)) refl))
line_says draft lines line.End bytes made kept so_far may same is =
    let row = within file.Protocol draft.row key.End 5 (omega arith) (omega arith) may in
    let high : draft.row ≤ 6 = ⊎_elim (λ lt. omega arith) (λ ge. absurd (row.2 (omega (arith, row.1)))) (cases_lt draft.row 7) in
    subst (λ m. Says (at_row 7 m) (lines ++ bytes ∷ [])) (same_ok draft.made made is)
    (line_last draft lines kept so_far says.End bytes same refl (omega (arith, row.0)) high)
line_says draft lines (line.Proposal name) bytes made kept so_far may same is = absurd (false≢true may)
line_says draft lines (line.Inv name formula) bytes made kept so_far may same is = absurd (false≢true may)
line_says draft lines (line.Cause rule invariant kind) bytes made kept so_far may same is = absurd (false≢true may)

abbrev Both : Draft → ℕ → List (List ℕ) → Type 0
Both draft number lines = Kept draft × Says draft lines

both_taken : (before after : Draft) (number : ℕ) (lines : List (List ℕ)) (bytes : List ℕ) → Both before number lines → taken before bytes ≡ Ok after → Both after (number + 1) (lines ++ bytes ∷ [])
both_taken before after number lines bytes both is =
    let t = taken_from before after bytes is in
    let same = nothing_is_lost file.Protocol bytes t.rest t.k t.l t.known t.words in (
      kept_taken before after bytes both.0 is,
      subst (λ d. Says d (lines ++ bytes ∷ [])) t.is (line_says before lines t.l bytes t.made both.0 both.1 t.may same t.adds),
    )

says_begun : Says begun []
says_begun = record { none = λ zero. refl; some = λ low. absurd (omega arith); whole = λ late. absurd (omega arith) }

-- lines with their line feeds
pub closed_lines : (ss : List Said) → written_lines file.Protocol ss ≡ closed (map text_of ss)
closed_lines [] = refl
closed_lines (s ∷ ss) = ap (λ rest. (text_of s ++ 10 ∷ []) ++ rest) (closed_lines ss)

-- A file that is read is the written form of what was read.
pub written_read : (text : List ℕ) (p : ProtocolV) → protocol_of text ≡ Ok p → written p ≡ text
written_read text p is =
    let out = made_ok _ p is in
    let draft = out.0 in
    let whole = lines_read (λ draft number line. taken draft line) ended Both both_taken begun draft text (kept_begun, says_begun) out.1 in
    let row = eqb-true draft.row 7 whole.2 in
    subst (λ q. written q ≡ text) out.2
    (closed_lines (lines_of draft.made) ∙ ap closed (whole.1.1.whole (omega arith)) ∙ whole.3)
