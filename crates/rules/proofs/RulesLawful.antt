-- What the lines of the rules add obeys the limits and sorts.
use Rattle.std.proofs.Common.{◌≡◌, ℕ, zero, suc, ◌-◌, ◌<◌, ◌≤◌, Bool, true, false, cond, eqb, List, [], ◌∷◌, ◌++◌, map, length, get_or, set, is_some, Ok, sym, refl, ap, ◌∙◌, subst, ⊎_elim, arith}
use Rattle.std.proofs.lemmas.List.{length_push, length-set, get_or_push, get_or_append_left, get_or-set_same, get_or-set_other, get_or-map, map-set, map_push, set-get_or}
use Rattle.std.proofs.lemmas.Bool.{leb-false, eqb-true, eqb-false, cases_lt, cases_eq, cases_Bool, cond-false, not-false, true≢false}
use Rattle.names.specs.Names.{place_in}
use Rattle.terms.specs.Sorts.{sort_of_number, differ}
use Rattle.terms.specs.declared.Assignment.{Assignment}
use Rattle.terms.specs.declared.Sort.{Sort}
use Rattle.terms.specs.declared.Sort.TheVariants.{Formula, Value}
use Rattle.words.specs.Words.{WordV, is_name}
use Rattle.words.specs.declared.Number.{Number}
use Rattle.tables.proofs.Answered.{unless_ok}
use Rattle.tables.proofs.Named.{no_names, none_from, placed, some_inside, each_push, names_push}
use Rattle.tables.proofs.TermLaws.{formula_is}
use Rattle.tables.specs.Lawful.{Names, IsOf}
use Rattle.tables.specs.Records.{VariablesV, TermsV}
use Rattle.tables.specs.Taking.{number_in}
use Rattle.rules.specs.Lawful.{LawfulRule, LawfulRules}
use Rattle.rules.specs.Records.{RuleV}
use Rattle.rules.specs.RuleTests.{rule_tests, set_line_tests, more_sets, with_set}
use Rattle.rules.specs.Taking.{rule_taken, no_rule, last_rule, is_set, assignment_taken}

-- Before the first line there is nothing that could break a limit.
pub lawful_no_rules : (v : VariablesV) (t : TermsV) → LawfulRules v t []
lawful_no_rules v t = record { few = omega arith; named = no_names; each = λ i none inside. absurd (omega arith) }

-- no two agree after a push, where no two did and none agrees with the new one
module _ {A B : Type 0} (f : A → B) (xs : List A) (x d : A) (other : (i : ℕ) → i < length xs → f (get_or xs i d) ≡ f x → ⊥) where
  at_last : (i : ℕ) → i < length (xs ++ x ∷ []) → f (get_or (xs ++ x ∷ []) i d) ≡ f x → i ≡ length xs
  at_last i inside same =
      ⊎_elim
      (λ before. absurd (other i before (ap f (sym (get_or_append_left xs (x ∷ []) d i before)) ∙ same)))
      (λ past. omega (arith, length_push xs x))
      (cases_lt i (length xs))

  last_is : (i : ℕ) → i < length (xs ++ x ∷ []) → length xs ≤ i → (i ≡ length xs) × (f (get_or (xs ++ x ∷ []) i d) ≡ f x)
  last_is i inside past =
      let here : i ≡ length xs = omega (arith, length_push xs x) in
      (here, ap f (get_or_push xs x d i (sym here)))

  once_push : ((i j : ℕ) → i < length xs → j < length xs → f (get_or xs i d) ≡ f (get_or xs j d) → i ≡ j) → (i j : ℕ) → i < length (xs ++ x ∷ []) → j < length (xs ++ x ∷ []) → f (get_or (xs ++ x ∷ []) i d) ≡ f (get_or (xs ++ x ∷ []) j d) → i ≡ j
  once_push once i j inside within same =
      ⊎_elim
      (λ i-before. ⊎_elim
      (λ j-before. once i j i-before j-before
      (ap f (sym (get_or_append_left xs (x ∷ []) d i i-before)) ∙ same ∙ ap f (get_or_append_left xs (x ∷ []) d j j-before)))
      (λ j-past. let l = last_is j within j-past in at_last i inside (same ∙ l.1) ∙ sym l.0)
      (cases_lt j (length xs)))
      (λ i-past. let l = last_is i inside i-past in l.0 ∙ sym (at_last j within (sym same ∙ l.1)))
      (cases_lt i (length xs))

-- a new name keeps the names of the rules apart
rule_names : (rules : List RuleV) (r : RuleV) → Names (map (λ q. q.name) rules) → is_name r.name ≡ true → is_some (place_in (map (λ q. q.name) rules) r.name) ≡ false → Names (map (λ q. q.name) (rules ++ r ∷ []))
rule_names rules r named is new =
    subst Names (sym (map_push (λ q. q.name) rules r)) (names_push (map (λ q. q.name) rules) r.name named is (none_from _ new))

no_sets : (v : VariablesV) (t : TermsV) (r : RuleV) → r.sets ≡ [] → IsOf Formula t r.guard → LawfulRule v t r
no_sets v t r none guard =
    let n : length r.sets ≡ 0 = ap length none in
    record {
      guard = guard;
      few = omega arith;
      sets = λ i a inside. absurd (omega arith);
      once = λ i j a inside within same. absurd (omega arith);
    }

-- A `rule` line keeps the rules lawful.
pub rule_lawful : (v : VariablesV) (t : TermsV) (name : WordV) (guard : Number) (s after : List RuleV) → LawfulRules v t s → is_name name.bytes ≡ true → rule_taken t name guard s ≡ Ok after → LawfulRules v t after
rule_lawful v t name guard s after lawful is_one is =
    let r : RuleV = record { name = name.bytes; guard = guard.value; sets = [] } in
    let out = unless_ok (rule_tests t.sorts name guard s) (s ++ r ∷ []) after is in
    let room : length s < 64 = leb-false 64 (length s) out.1.1.1.1.0 in
    let new = no_sets v t r refl (formula_is t guard out.1.1.0 out.1.1.1.0) in
    subst (λ a. LawfulRules v t a) out.0
    (record {
      few = omega (arith, length_push s r);
      named = rule_names s r lawful.named is_one out.1.0;
      each = λ i none. each_push (λ q. LawfulRule v t q) s r none (λ k inside. lawful.each k none inside) new i;
    })

-- a variable that is not among those that are set
neither : (b c : Bool) → cond b true c ≡ false → (b ≡ false) × (c ≡ false)
neither true c is = absurd (true≢false is)
neither false c is = (refl, is)

unset : (variable : ℕ) (sets : List Assignment) (none : Assignment) → is_set variable sets ≡ false → (i : ℕ) → i < length sets → (get_or sets i none).variable ≡ variable → ⊥
unset variable [] none is i inside same = omega arith
unset variable (a ∷ sets) none is zero inside same = eqb-false a.variable variable (neither (eqb a.variable variable) (is_set variable sets) is).0 same
unset variable (a ∷ sets) none is (suc i) inside same =
    unset variable sets none (neither (eqb a.variable variable) (is_set variable sets) is).1 i (omega arith) same

-- a term that does not differ from a type's values is one of them
same_kind : (k j : ℕ) → cond (eqb k j) false true ≡ false → k ≡ j
same_kind k j is = ⊎_elim (eqb-true k j) (λ other. absurd (true≢false (sym (cond-false (eqb k j) false true other) ∙ is))) (cases_Bool (eqb k j))

same_sort : (k : ℕ) (s : Sort) → differ (Value k) s ≡ false → s ≡ Value k
same_sort k Formula is = absurd (true≢false is)
same_sort k (Value j) is = ap Value (sym (same_kind k j is))

-- a rule with one assignment more
abbrev Assigns : VariablesV → TermsV → Assignment → Type 0
Assigns v t a = (a.variable < length v.names) × IsOf (Value (get_or v.kinds a.variable 0)) t a.term

set_pushed : (v : VariablesV) (t : TermsV) (r : RuleV) (a : Assignment) → LawfulRule v t r → length r.sets < 16 → is_set a.variable r.sets ≡ false → Assigns v t a → LawfulRule v t (more_sets a r)
set_pushed v t r a lawful room new assigns =
    record {
      guard = lawful.guard;
      few = omega (arith, length_push r.sets a);
      sets = λ i none. each_push (Assigns v t) r.sets a none (λ k inside. lawful.sets k none inside) assigns i;
      once = λ i j none. once_push (λ b. b.variable) r.sets a none (unset a.variable r.sets none new) (λ k l. lawful.once k l none) i j;
    }

-- the rules with another of the same name in a rule's place
module _ (v : VariablesV) (t : TermsV) (s : List RuleV) (i : ℕ) (r : RuleV) (inside : i < length s) where
  same_names : (get_or s i no_rule).name ≡ r.name → map (λ q. q.name) (set s i r) ≡ map (λ q. q.name) s
  same_names same =
      let names = map (λ q. q.name) s in
      map-set (λ q. q.name) s i r
      ∙ ap (λ n. set names i n) (sym (get_or-map (λ q. q.name) s i no_rule [] inside ∙ same))
      ∙ set-get_or names i []

  each_set : ((k : ℕ) (none : RuleV) → k < length s → LawfulRule v t (get_or s k none)) → LawfulRule v t r → (k : ℕ) (none : RuleV) → k < length (set s i r) → LawfulRule v t (get_or (set s i r) k none)
  each_set each new k none within =
      ⊎_elim
      (λ here. subst (λ q. LawfulRule v t q) (sym (get_or-set_same s i r none inside) ∙ ap (λ j. get_or (set s i r) j none) (sym here)) new)
      (λ other. subst (λ q. LawfulRule v t q) (sym (get_or-set_other s i k r none other)) (each k none (omega (arith, length-set s i r))))
      (cases_eq k i)

  set_kept : LawfulRules v t s → (get_or s i no_rule).name ≡ r.name → LawfulRule v t r → LawfulRules v t (set s i r)
  set_kept lawful same new =
      record {
        few = omega (arith, lawful.few, length-set s i r);
        named = subst Names (sym (same_names same)) lawful.named;
        each = each_set lawful.each new;
      }

-- A `set` line keeps the rules lawful.
pub set_lawful : (v : VariablesV) (t : TermsV) (name : WordV) (n : Number) (s after : List RuleV) → LawfulRules v t s → assignment_taken v t name n s ≡ Ok after → LawfulRules v t after
set_lawful v t name n s after lawful is =
    let variable = number_in v.names name in
    let rule = last_rule s in
    let a : Assignment = record { variable = variable; term = n.value } in
    let out = unless_ok (set_line_tests v t name n s) (with_set a s) after is in
    let some : 0 < length s = ⊎_elim (λ lt. lt) (λ le. absurd (eqb-false (length s) 0 out.1.0 (omega arith))) (cases_lt 0 (length s)) in
    let inside : length s - 1 < length s = omega arith in
    let known : variable < length v.names = some_inside v.names name.bytes (place_in v.names name.bytes) (placed v.names name.bytes) (not-false _ out.1.1.0) in
    let room : length rule.sets < 16 = leb-false 16 (length rule.sets) out.1.1.1.1.1.0 in
    let of : IsOf (Value (get_or v.kinds variable 0)) t n.value =
    record {
      exists = leb-false (length t.sorts) n.value out.1.1.1.0;
      is = same_sort (get_or v.kinds variable 0) (sort_of_number t.sorts n.value) out.1.1.1.1.0;
    } in
    let new = set_pushed v t rule a (lawful.each (length s - 1) no_rule inside) room out.1.1.1.1.1.1.0 (known, of) in
    subst (λ b. LawfulRules v t b) out.0 (set_kept v t s (length s - 1) (more_sets a rule) inside lawful refl new)
