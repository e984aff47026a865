-- Every protocol is read again from its written form.
use Rattle.std.proofs.Common.{◌≡◌, ℕ, suc, ◌<◌, ◌≤◌, true, List, [], ◌∷◌, ◌++◌, map, length, get_or, take, None, Ok, sym, refl, ap, ◌∙◌, subst, arith}
use Rattle.std.proofs.ByRecursion.{All-append}
use Rattle.std.proofs.lemmas.List.{length-map, take_all}
use Rattle.std.specs.Result.{result_map_both}
use Rattle.std.specs.List.{AllByRecursion}
use Rattle.text.specs.Lines.{byte_fault}
use Rattle.keys.specs.declared.Key.{Key}
use Rattle.keys.specs.declared.Key.TheVariants as key
use Rattle.line.specs.Rows.{row_of, may_follow}
use Rattle.line.specs.declared.lines.File.TheVariants as file
use Rattle.writing.proofs.Apart.{lines_come_apart}
use Rattle.writing.proofs.Visible.{every_byte_may_stand}
use Rattle.writing.specs.Said.{Said}
use Rattle.writing.specs.Said as says
use Rattle.writing.specs.Sound.{Sound}
use Rattle.reading.proofs.Laws.{leads_read}
use Rattle.rules.specs.Taking.{no_rule}
use Rattle.tables.specs.Lawful.{product}
use Rattle.tables.specs.Records.{TypesV, VariablesV, TermsV}
use Rattle.tables.specs.Written.{form_of}
use Rattle.protocol.specs.Lawful.{Lawful}
use Rattle.protocol.specs.Laws.{EveryProtocolCanBeKept}
use Rattle.protocol.specs.Reading.{Draft, begun, ended, with_name, with_types, with_variables, with_terms, with_initial, with_rules}
use Rattle.protocol.specs.Records.{ProtocolV, empty}
use Rattle.protocol.specs.Written.{type_lines, variable_lines, term_lines, initial_lines, rule_lines, lines_before_end, lines_of, written}
use Rattle.protocol.proofs.Climbs.{Adds, Reaches, reaches_on, row_behind_some, line_taken, climbs, all_sound, text_of, step}
use Rattle.protocol.proofs.KeptRules.{row_after, one_rule, end_follows, rules_reach, rules_sound}
use Rattle.protocol.proofs.KeptTerms.{first_terms, term_adds, initial_adds}
use Rattle.protocol.proofs.KeptTypes.{first_types, first_variables, length_paired, type_adds, variable_adds}
use Rattle.protocol.proofs.LawWhole.{at_row}

-- the lines of a row that is not empty
row_reaches : (k : Key) → may_follow file.Protocol (row_of file.Protocol k) k ≡ true → (at : ℕ → ProtocolV) (ss : List Said) (row : ℕ) → may_follow file.Protocol row k ≡ true → ((i : ℕ) → i < length ss → Adds k (get_or ss i says.End) (at i) (at (suc i)))
    → 1 ≤ length ss → (q : ProtocolV) → at (length ss) ≡ q → Reaches (at_row row (at 0)) ss (at_row (row_of file.Protocol k) q)
row_reaches k again at ss row may each some q is =
    subst (λ d. Reaches (at_row row (at 0)) ss d) (λ j. at_row (row_behind_some k row ss some j) (is j)) (climbs k again at ss row may each)

-- lines that may stand in the file and are short
all_fine : (ss : List Said) → AllByRecursion (Sound file.Protocol) ss → AllByRecursion (λ s. length (text_of s) ≤ 255) ss → AllByRecursion (λ line. byte_fault line ≡ None) (map text_of ss)
all_fine [] sound short = tt
all_fine (s ∷ ss) sound short = ((every_byte_may_stand file.Protocol s sound.0).1 short.0, all_fine ss sound.1 short.1)

-- all of a table
module _ (p : ProtocolV) (lawful : Lawful p) where
  abbrev t : TypesV
  t = p.types

  abbrev v : VariablesV
  v = p.variables

  abbrev s : TermsV
  s = p.terms

  types_count : length (type_lines t) ≡ length t.names
  types_count = length_paired says.«Type» t.names t.values (sym lawful.obeys.types.all_valued)

  all_types : first_types (length (type_lines t)) t ≡ t
  all_types =
      let laws = lawful.obeys.types in
      let n = length (type_lines t) in
      let sized : length t.sizes ≡ length t.values = ap length laws.sizes ∙ length-map t.values length in
      λ i. record {
        names = take_all n t.names (omega (arith, types_count)) i;
        values = take_all n t.values (omega (arith, types_count, laws.all_valued)) i;
        sizes = take_all n t.sizes (omega (arith, types_count, laws.all_valued)) i;
      }

  variables_count : length (variable_lines t v) ≡ length v.names
  variables_count = length_paired (λ name kind. says.Var name (get_or t.names kind [])) v.names v.kinds (sym lawful.obeys.variables.all_typed)

  all_variables : first_variables t (length (variable_lines t v)) v ≡ v
  all_variables =
      let laws = lawful.obeys.variables in
      let n = length (variable_lines t v) in
      let kinds = take_all n v.kinds (omega (arith, variables_count, laws.all_typed)) in
      λ i. record {
        names = take_all n v.names (omega (arith, variables_count)) i;
        kinds = kinds i;
        states = (ap (product t.sizes) kinds ∙ sym laws.states) i;
      }

  terms_count : length (term_lines t v s) ≡ length s.terms
  terms_count = length-map s.terms (λ x. says.Term (form_of t v x))

  all_terms : first_terms (length (term_lines t v s)) s ≡ s
  all_terms =
      let n = length (term_lines t v s) in
      λ i. record {
        terms = take_all n s.terms (omega (arith, terms_count)) i;
        sorts = take_all n s.sorts (omega (arith, terms_count, lawful.obeys.terms.all_sorted)) i;
      }

  initial_count : length (initial_lines p.initial) ≡ length p.initial
  initial_count = length-map p.initial says.Init

  -- what the rows made, one after the other
  abbrev p1 : ProtocolV
  p1 = with_name empty p.name

  abbrev p2 : ProtocolV
  p2 = with_types p1 t

  abbrev p3 : ProtocolV
  p3 = with_variables p2 v

  abbrev p4 : ProtocolV
  p4 = with_terms p3 s

  abbrev p5 : ProtocolV
  p5 = with_initial p4 p.initial

  name_adds : Adds key.Protocol (says.Protocol p.name) empty p1
  name_adds = record { kind = refl; sound = record { belonging = refl; parts = lawful.complete.name }; turns = λ w named. (λ i. Ok (with_name empty (named i))) }

  end_adds : Adds key.End says.End p p
  end_adds = record { kind = refl; sound = record { belonging = refl; parts = tt }; turns = refl }

  reach_1 : Reaches begun (says.Protocol p.name ∷ []) (at_row 1 p1)
  reach_1 number = (at_row 1 p1, line_taken key.Protocol (says.Protocol p.name) empty p1 0 name_adds refl, refl)

  reach_2 : Reaches (at_row 1 p1) (type_lines t) (at_row 2 p2)
  reach_2 =
      row_reaches key.«Type» refl (λ i. with_types p1 (first_types i t)) (type_lines t) 1 refl (type_adds t lawful.obeys.types p1)
      (omega (arith, types_count, lawful.complete.types)) p2 (ap (with_types p1) all_types)

  reach_3 : Reaches (at_row 2 p2) (variable_lines t v) (at_row 3 p3)
  reach_3 =
      row_reaches key.Var refl (λ i. with_variables p2 (first_variables t i v)) (variable_lines t v) 2 refl (variable_adds t lawful.obeys.types v lawful.obeys.variables p2 refl)
      (omega (arith, variables_count, lawful.complete.variables)) p3 (ap (with_variables p2) all_variables)

  reach_4 : Reaches (at_row 3 p3) (term_lines t v s) (at_row 4 p4)
  reach_4 =
      row_reaches key.Term refl (λ i. with_terms p3 (first_terms i s)) (term_lines t v s) 3 refl (term_adds p3 s lawful.obeys.types lawful.obeys.variables lawful.obeys.terms)
      (omega (arith, terms_count, lawful.complete.terms)) p4 (ap (with_terms p3) all_terms)

  reach_5 : Reaches (at_row 4 p4) (initial_lines p.initial) (at_row 5 p5)
  reach_5 =
      row_reaches key.Init refl (λ i. with_initial p4 (take i p.initial)) (initial_lines p.initial) 4 refl (initial_adds p4 p.initial lawful.obeys.terms lawful.obeys.initial)
      (omega (arith, initial_count, lawful.complete.initial)) p5 (ap (with_initial p4) (take_all (length (initial_lines p.initial)) p.initial (omega (arith, initial_count))))

  -- the row of the last line before the end
  abbrev row : ℕ
  row = row_after (one_rule p5) no_rule 5 p.rules

  reach_6 : Reaches (at_row 5 p5) (rule_lines v p.rules) (at_row row p)
  reach_6 =
      subst (λ rules. Reaches (at_row 5 p5) (rule_lines v p.rules) (at_row row (with_rules p5 rules))) (take_all (length p.rules) p.rules (omega arith))
      (rules_reach p5 p.rules lawful.obeys.variables lawful.obeys.terms lawful.obeys.rules)

  reach_7 : Reaches (at_row row p) (says.End ∷ []) (at_row 7 p)
  reach_7 number = (at_row 7 p, line_taken key.End says.End p p row end_adds (end_follows p.rules p5), refl)

  reach_all : Reaches begun (lines_of p) (at_row 7 p)
  reach_all =
      let one = says.Protocol p.name ∷ [] in
      let two = one ++ type_lines t in
      let three = two ++ variable_lines t v in
      let four = three ++ term_lines t v s in
      let five = four ++ initial_lines p.initial in
      let to-2 = reaches_on begun (at_row 1 p1) (at_row 2 p2) one (type_lines t) reach_1 reach_2 in
      let to-3 = reaches_on begun (at_row 2 p2) (at_row 3 p3) two (variable_lines t v) to-2 reach_3 in
      let to-4 = reaches_on begun (at_row 3 p3) (at_row 4 p4) three (term_lines t v s) to-3 reach_4 in
      let to-5 = reaches_on begun (at_row 4 p4) (at_row 5 p5) four (initial_lines p.initial) to-4 reach_5 in
      let to-6 = reaches_on begun (at_row 5 p5) (at_row row p) five (rule_lines v p.rules) to-5 reach_6 in
      reaches_on begun (at_row row p) (at_row 7 p) (lines_before_end p) (says.End ∷ []) to-6 reach_7

  lines_sound : AllByRecursion (Sound file.Protocol) (lines_of p)
  lines_sound =
      let P = Sound file.Protocol in
      let one = says.Protocol p.name ∷ [] in
      let two = one ++ type_lines t in
      let three = two ++ variable_lines t v in
      let four = three ++ term_lines t v s in
      let five = four ++ initial_lines p.initial in
      let to-2 = All-append P one (type_lines t) (name_adds.sound, tt) (all_sound key.«Type» (λ i. with_types p1 (first_types i t)) (type_lines t) (type_adds t lawful.obeys.types p1)) in
      let to-3 = All-append P two (variable_lines t v) to-2 (all_sound key.Var (λ i. with_variables p2 (first_variables t i v)) (variable_lines t v) (variable_adds t lawful.obeys.types v lawful.obeys.variables p2 refl)) in
      let to-4 = All-append P three (term_lines t v s) to-3 (all_sound key.Term (λ i. with_terms p3 (first_terms i s)) (term_lines t v s) (term_adds p3 s lawful.obeys.types lawful.obeys.variables lawful.obeys.terms)) in
      let to-5 = All-append P four (initial_lines p.initial) to-4 (all_sound key.Init (λ i. with_initial p4 (take i p.initial)) (initial_lines p.initial) (initial_adds p4 p.initial lawful.obeys.terms lawful.obeys.initial)) in
      let to-6 = All-append P five (rule_lines v p.rules) to-5 (rules_sound p5 p.rules lawful.obeys.variables lawful.obeys.terms lawful.obeys.rules) in
      All-append P (lines_before_end p) (says.End ∷ []) to-6 (end_adds.sound, tt)

pub every_protocol_can_be_kept : EveryProtocolCanBeKept
every_protocol_can_be_kept p lawful short few =
    let sound = lines_sound p lawful in
    ap (result_map_both (λ (draft : Draft). draft.made) (λ fault. fault))
    (leads_read step ended begun (at_row 7 p) (written p) (map text_of (lines_of p)) (lines_come_apart file.Protocol (lines_of p) sound) (all_fine (lines_of p) sound short) few (reach_all p lawful 1) refl)
