-- The written lines of the rules are taken again, one after another.
use Rattle.std.proofs.Common.{◌≡◌, ℕ, suc, ◌+◌, ◌-◌, ◌<◌, true, false, not, eqb, leb, List, [], ◌∷◌, ◌++◌, map, length, get_or, take, set, is_some, Some, Ok, unwrap_or, sym, refl, ap, ◌∙◌, subst, arith, take-suc}
use Rattle.std.proofs.ByRecursion.{All-append}
use Rattle.std.proofs.lemmas.List.{length-map, length_push, length-take-le, get_or-map, get_or_push, get_or-take, set_at, take_all, take-map}
use Rattle.std.proofs.lemmas.Bool.{lt-leb, ne_eqb, eq-eqb, cond-true, cond-false}
use Rattle.std.specs.List.{flat_map, AllByRecursion}
use Rattle.names.specs.Names.{place_in}
use Rattle.terms.specs.Sorts.{sort_is_value, differ}
use Rattle.terms.specs.declared.Assignment.{Assignment}
use Rattle.terms.specs.declared.Sort.{Sort}
use Rattle.terms.specs.declared.Sort.TheVariants.{Formula, Value}
use Rattle.words.specs.Words.{WordV, is_name}
use Rattle.words.specs.declared.Number.{Number}
use Rattle.keys.specs.declared.Key.TheVariants as key
use Rattle.line.specs.Rows.{may_follow}
use Rattle.line.specs.declared.lines.File.TheVariants as file
use Rattle.writing.proofs.Oks.{go_on}
use Rattle.writing.specs.Said.{Said}
use Rattle.writing.specs.Said as says
use Rattle.writing.specs.Sound.{Sound}
use Rattle.reading.proofs.Laws.{Leads}
use Rattle.rules.specs.Lawful.{LawfulRule, LawfulRules}
use Rattle.rules.specs.Records.{RuleV}
use Rattle.rules.specs.RuleTests.{rule_tests, set_line_tests, more_sets, with_set}
use Rattle.rules.specs.Taking.{is_set, last_rule, no_rule, rule_taken, assignment_taken}
use Rattle.tables.proofs.Answered.{unless_none}
use Rattle.tables.proofs.FormLaws.{name_new, place_found}
use Rattle.tables.specs.Lawful.{LawfulVariables, LawfulTerms, declared_by}
use Rattle.tables.specs.Records.{VariablesV}
use Rattle.tables.specs.Taking.{number_in}
use Rattle.protocol.specs.Reading.{with_rules}
use Rattle.protocol.specs.Records.{ProtocolV}
use Rattle.protocol.specs.Written.{set_line, rule_lines}
use Rattle.protocol.proofs.Climbs.{Adds, Reaches, reaches_on, row_stays, line_taken, climbs, all_sound, text_of, step}
use Rattle.protocol.proofs.LawWhole.{at_row}

-- a variable that none of the assignments sets
not_set : (variable : ℕ) (sets : List Assignment) (none : Assignment) → ((k : ℕ) → k < length sets → (get_or sets k none).variable ≡ variable → ⊥) → is_set variable sets ≡ false
not_set variable [] none other = refl
not_set variable (a ∷ sets) none other =
    cond-false (eqb a.variable variable) true (is_set variable sets) (ne_eqb a.variable variable (other 0 (omega arith)))
    ∙ not_set variable sets none (λ k inside. other (suc k) (omega arith))

-- values of one type do not differ
same_type : (k : ℕ) → differ (Value k) (Value k) ≡ false
same_type k = cond-true (eqb k k) false true (eq-eqb k k refl)

abbrev no_set : Assignment
no_set = record { variable = 0; term = 0 }

-- a rule with its first assignments
abbrev with_first : ℕ → RuleV → RuleV
with_first j r = record { name = r.name; guard = r.guard; sets = take j r.sets }

-- the last of the rules, and another in its place
last_is : (front : List RuleV) (q : RuleV) → last_rule (front ++ q ∷ []) ≡ q
last_is front q = get_or_push front q no_rule (length (front ++ q ∷ []) - 1) (omega (arith, length_push front q))

set_is : (front : List RuleV) (q : RuleV) (a : Assignment) → with_set a (front ++ q ∷ []) ≡ front ++ more_sets a q ∷ []
set_is front q a =
    let s = front ++ q ∷ [] in
    ap (λ r. set s (length s - 1) (more_sets a r)) (last_is front q)
    ∙ set_at front q [] (more_sets a q) (length s - 1) (omega (arith, length_push front q))

module _ (p : ProtocolV) (s : List RuleV) (variables : LawfulVariables p.types p.variables) (terms : LawfulTerms (declared_by p.types p.variables) p.terms) (laws : LawfulRules p.variables p.terms s) where
  abbrev v : VariablesV
  v = p.variables

  abbrev sorts : List Sort
  sorts = p.terms.sorts

  short : (k : ℕ) → k < length sorts → k < 1000
  short k inside = omega (arith, terms.few, terms.all_sorted)

  module _ (i : ℕ) (inside : i < length s) where
    abbrev r : RuleV
    r = get_or s i no_rule

    abbrev front : List RuleV
    front = take i s

    lawful : LawfulRule v p.terms r
    lawful = laws.each i no_rule inside

    -- the rules so far, and this one with its first assignments
    abbrev so_far : ℕ → ProtocolV
    so_far j = with_rules p (front ++ with_first j r ∷ [])

    names_so_far : map (λ (q : RuleV). q.name) front ≡ take i (map (λ (q : RuleV). q.name) s)
    names_so_far = sym (take-map (λ (q : RuleV). q.name) i s)

    name_here : get_or (map (λ (q : RuleV). q.name) s) i [] ≡ r.name
    name_here = get_or-map (λ (q : RuleV). q.name) s i no_rule [] inside

    in_names : i < length (map (λ (q : RuleV). q.name) s)
    in_names = omega (arith, length-map s (λ (q : RuleV). q.name))

    rule_again : (w : WordV) (n : Number) → w.bytes ≡ r.name → n.value ≡ r.guard → rule_taken p.terms w n front ≡ Ok (front ++ with_first 0 r ∷ [])
    rule_again w n named guarded =
        let names = map (λ (q : RuleV). q.name) s in
        let many : length front ≡ i = length-take-le i s (omega arith) in
        let there : r.guard < length sorts = lawful.guard.exists in
        unless_none (rule_tests sorts w n front) _ (
          (λ k. is_some (place_in (names_so_far k) ((named ∙ sym name_here) k))) ∙ name_new names i laws.named in_names,
          (
            lt-leb (length sorts) n.value (omega arith),
            (
              ap (λ m. sort_is_value (get_or sorts m Formula)) guarded ∙ ap sort_is_value lawful.guard.is,
              (
                lt-leb 64 (length front) (omega (arith, laws.few)),
                tt,
              ),
            ),
          ),
        )
        ∙ (λ k. Ok (front ++ record { name = named k; guard = guarded k; sets = [] } ∷ []))

    rule_adds : Adds key.Rule (says.Rule r.name r.guard) (with_rules p front) (so_far 0)
    rule_adds = record {
      kind = refl;
      sound = record { belonging = refl; parts = (subst (λ n. is_name n ≡ true) name_here (laws.named.each i in_names), short r.guard lawful.guard.exists) };
      turns = λ w n named guarded. go_on (rule_taken p.terms w n front) _ (front ++ with_first 0 r ∷ []) (rule_again w n named guarded);
    }

    set_again : (j : ℕ) → j < length r.sets → (w : WordV) (n : Number) → w.bytes ≡ get_or v.names (get_or r.sets j no_set).variable [] → n.value ≡ (get_or r.sets j no_set).term
        → assignment_taken v p.terms w n (front ++ with_first j r ∷ []) ≡ Ok (front ++ with_first (suc j) r ∷ [])
    set_again j within w n named is =
        let x = get_or r.sets j no_set in
        let q = with_first j r in
        let all = front ++ q ∷ [] in
        let of = lawful.sets j no_set within in
        let found : place_in v.names w.bytes ≡ Some x.variable = ap (place_in v.names) named ∙ place_found v.names x.variable variables.named of.0 in
        let variable : number_in v.names w ≡ x.variable = ap (λ o. unwrap_or o 0) found in
        let a : Assignment = record { variable = number_in v.names w; term = n.value } in
        let same : a ≡ x = λ k. record { variable = variable k; term = is k } in
        let last = last_is front q in
        let many : length (take j r.sets) ≡ j = length-take-le j r.sets (omega arith) in
        let there : x.term < length sorts = of.1.exists in
        unless_none (set_line_tests v p.terms w n all) (with_set a all) (
          ne_eqb (length all) 0 (λ none. omega (arith, length_push front q)),
          (
            ap (λ o. not (is_some o)) found,
            (
              lt-leb (length sorts) n.value (omega arith),
              (
                (λ k. differ (Value (get_or v.kinds (variable k) 0)) (get_or sorts (is k) Formula)) ∙ ap (differ (Value (get_or v.kinds x.variable 0))) of.1.is ∙ same_type (get_or v.kinds x.variable 0),
                (
                  ap (λ (q : RuleV). leb 16 (length q.sets)) last ∙ lt-leb 16 (length (take j r.sets)) (omega (arith, lawful.few)),
                  (
                    (λ k. is_set (variable k) (last k).sets)
                        ∙ not_set x.variable (take j r.sets) no_set
                        (λ k before alike.
                        let low : k < j = omega arith in
                        let here : k ≡ j = lawful.once k j no_set (omega arith) within (ap (λ (b : Assignment). b.variable) (sym (get_or-take j r.sets k no_set low)) ∙ alike) in
                        omega arith),
                    tt,
                  ),
                ),
              ),
            ),
          ),
        )
        ∙ ap Ok (set_is front q a)
        ∙ (λ k. Ok (front ++ record { name = r.name; guard = r.guard; sets = (ap (λ b. take j r.sets ++ b ∷ []) same ∙ sym (take-suc r.sets j no_set within)) k } ∷ []))

    set_adds : (j : ℕ) → j < length (map (set_line v) r.sets) → Adds key.Set (get_or (map (set_line v) r.sets) j says.End) (so_far j) (so_far (suc j))
    set_adds j inner =
        let within : j < length r.sets = omega (arith, length-map r.sets (set_line v)) in
        let x = get_or r.sets j no_set in
        let of = lawful.sets j no_set within in
        subst (λ said. Adds key.Set said (so_far j) (so_far (suc j))) (sym (get_or-map (set_line v) r.sets j no_set says.End within))
        (record {
          kind = refl;
          sound = record { belonging = refl; parts = (variables.named.each x.variable of.0, short x.term of.1.exists) };
          turns = λ w n named is. go_on (assignment_taken v p.terms w n (front ++ with_first j r ∷ [])) _ (front ++ with_first (suc j) r ∷ []) (set_again j within w n named is);
        })

    -- with all its assignments it is the next of the rules
    whole : so_far (length (map (set_line v) r.sets)) ≡ with_rules p (take (suc i) s)
    whole =
        ap (λ sets. with_rules p (front ++ record { name = r.name; guard = r.guard; sets = sets } ∷ [])) (take_all (length (map (set_line v) r.sets)) r.sets (omega (arith, length-map r.sets (set_line v))))
        ∙ ap (λ rules. with_rules p rules) (sym (take-suc s i no_rule inside))

    -- A rule's lines add it.
    rule_reaches : (row : ℕ) → may_follow file.Protocol row key.Rule ≡ true → Reaches (at_row row (with_rules p front)) (says.Rule r.name r.guard ∷ map (set_line v) r.sets) (at_row 6 (with_rules p (take (suc i) s)))
    rule_reaches row may number = (
      at_row 6 (so_far 0),
      line_taken key.Rule (says.Rule r.name r.guard) (with_rules p front) (so_far 0) row rule_adds may,
      subst (λ d. Leads step (at_row 6 (so_far 0)) (number + 1) (map text_of (map (set_line v) r.sets)) d)
          (λ k. at_row (row_stays key.Set (map (set_line v) r.sets) k) (whole k))
          (climbs key.Set refl so_far (map (set_line v) r.sets) 6 refl set_adds (number + 1)),
    )

    rule_sound : AllByRecursion (Sound file.Protocol) (says.Rule r.name r.guard ∷ map (set_line v) r.sets)
    rule_sound = (rule_adds.sound, all_sound key.Set so_far (map (set_line v) r.sets) set_adds)

-- groups of lines, each of which leads to row 6
module _ {X : Type 0} (lines : X → List Said) (d : X) where
  abbrev pub row_after : ℕ → List X → ℕ
  row_after row [] = row
  row_after row (x ∷ xs) = 6

  row_same : (xs : List X) → row_after 6 xs ≡ 6
  row_same [] = refl
  row_same (x ∷ xs) = refl

  groups : (at : ℕ → ProtocolV) (xs : List X) (row : ℕ) → may_follow file.Protocol row key.Rule ≡ true → ((i row : ℕ) → i < length xs → may_follow file.Protocol row key.Rule ≡ true → Reaches (at_row row (at i)) (lines (get_or xs i d)) (at_row 6 (at (suc i))))
      → Reaches (at_row row (at 0)) (flat_map lines xs) (at_row (row_after row xs) (at (length xs)))
  groups at [] row may each = λ number. refl
  groups at (x ∷ xs) row may each =
      reaches_on (at_row row (at 0)) (at_row 6 (at 1)) (at_row 6 (at (suc (length xs)))) (lines x) (flat_map lines xs) (each 0 row (omega arith) may)
      (subst (λ r. Reaches (at_row 6 (at 1)) (flat_map lines xs) (at_row r (at (suc (length xs))))) (row_same xs)
      (groups (λ i. at (suc i)) xs 6 refl (λ i row inside. each (suc i) row (omega arith))))

  all_groups : (P : Said → Type 0) (xs : List X) → ((i : ℕ) → i < length xs → AllByRecursion P (lines (get_or xs i d))) → AllByRecursion P (flat_map lines xs)
  all_groups P [] each = tt
  all_groups P (x ∷ xs) each = All-append P (lines x) (flat_map lines xs) (each 0 (omega arith)) (all_groups P xs (λ i inside. each (suc i) (omega arith)))

-- the lines of one rule
abbrev pub one_rule : ProtocolV → RuleV → List Said
one_rule p r = says.Rule r.name r.guard ∷ map (set_line p.variables) r.sets

-- The end may follow.
pub end_follows : (rules : List RuleV) (p : ProtocolV) → may_follow file.Protocol (row_after (one_rule p) no_rule 5 rules) key.End ≡ true
end_follows [] p = refl
end_follows (r ∷ rules) p = refl

module _ (p : ProtocolV) (s : List RuleV) (variables : LawfulVariables p.types p.variables) (terms : LawfulTerms (declared_by p.types p.variables) p.terms) (laws : LawfulRules p.variables p.terms s) where
  -- The lines of all rules add them.
  pub rules_reach : Reaches (at_row 5 (with_rules p [])) (rule_lines p.variables s) (at_row (row_after (one_rule p) no_rule 5 s) (with_rules p (take (length s) s)))
  rules_reach = groups (one_rule p) no_rule (λ i. with_rules p (take i s)) s 5 refl (λ i row inside may. rule_reaches p s variables terms laws i inside row may)

  pub rules_sound : AllByRecursion (Sound file.Protocol) (rule_lines p.variables s)
  rules_sound = all_groups (one_rule p) no_rule (Sound file.Protocol) s (λ i inside. rule_sound p s variables terms laws i inside)
