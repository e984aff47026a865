-- What the lines of the rules add, by their tests and by the program's lists.
use Rattle.std.proofs.Common.{◌≡◌, ◌==◌, ◌||◌, Bool, ℕ, ◌-◌, ◌<◌, true, false, cond, leb, List, [], ◌∷◌, ◌++◌, map, length, get_or, set, is_some, Ok, vec_items, Result, sym, ap, refl, ◌∙◌, arith}
use mathlib.Core.List.{map-map}
use Rattle.std.proofs.lemmas.List.{map-set, get_or-map, length-map}
use Rattle.std.proofs.lemmas.Bool.{cond-false, ne_eqb}
use Rattle.std.specs.List.{list_any}
use Rattle.names.specs.Names.{spelled, place_in}
use Rattle.terms.specs.declared.Assignment.{Assignment}
use Rattle.terms.specs.declared.Sort.{Sort}
use Rattle.text.specs.Faults.{fault}
use Rattle.text.specs.declared.faults.LineFault.{LineFault}
use Rattle.text.specs.declared.faults.Wrong.TheVariants as wrong
use Rattle.words.specs.Words.{WordV, bind}
use Rattle.words.specs.declared.Number.{Number}
use Rattle.tables.proofs.Answered.{unless_ok, passed_on}
use Rattle.tables.specs.Records.{VariablesV, TermsV}
use Rattle.tables.specs.Taking.{unless, number_in, formula_tests, full}
use Rattle.rules.specs.Records.{RuleV}
use Rattle.rules.specs.RuleTests.{rule_tests, set_tests_below, set_line_tests, assignment_of, set_tested, more_sets, with_set}
use Rattle.rules.specs.Taking.{is_set, assignment_taken, no_rule, last_rule}
use Rattle.rules.specs.Views.{rule_seen}
use Rattle.rules.specs.declared.table.Rule.{Rule}

-- a rule's name is its name in the record
pub same_place : (rules : List Rule) (name : List ℕ) → place_in (map (λ r. spelled r.name) rules) name ≡ place_in (map (λ s. s.name) (map rule_seen rules)) name
same_place rules name = ap (λ names. place_in names name) (sym (map-map (λ s. s.name) rule_seen rules))

-- the variable of one of the assignments
or_from_cond : (b r : Bool) → cond b true r ≡ (b || r)
or_from_cond true r = refl
or_from_cond false r = refl

pub set_is_any : (variable : ℕ) (sets : List Assignment) → is_set variable sets ≡ list_any (λ a. a.variable == variable) sets
set_is_any variable [] = refl
set_is_any variable (a ∷ sets) = or_from_cond (a.variable == variable) (is_set variable sets) ∙ ap (λ r. (a.variable == variable) || r) (set_is_any variable sets)

-- an answer once there is room for it
room_first : (none : Bool) (f : LineFault) (x : ℕ) → bind {A = Unit {0}} (unless ((none, f) ∷ []) tt) (λ _. Ok x) ≡ unless ((none, f) ∷ []) x
room_first true f x = refl
room_first false f x = refl

-- the tests of a `rule` line of a new name and a formula leave the number of the rules
pub rule_tested : (sorts : List Sort) (name : WordV) (n : Number) (rules : List Rule) → is_some (place_in (map (λ r. spelled r.name) rules) name.bytes) ≡ false → (guard : ℕ) → Ok guard ≡ unless (formula_tests sorts n) n.value
    → (room : Result (Unit {0}) LineFault) → room ≡ unless (full 64 rules ∷ []) tt → bind room (λ _. Ok guard) ≡ unless (rule_tests sorts name n (map rule_seen rules)) n.value
rule_tested sorts name n rules new guard formula room few =
    let count = full 64 (map rule_seen rules) ∷ [] in
    ap (λ r. bind r (λ _. Ok guard)) few
    ∙ room_first (leb 64 (length rules)) (fault wrong.TooMany 1) guard
    ∙ ap (λ k. unless ((leb 64 k, fault wrong.TooMany 1) ∷ []) guard) (sym (length-map rules rule_seen))
    ∙ ap (λ g. unless count g) (sym (unless_ok (formula_tests sorts n) n.value guard (sym formula)).0)
    ∙ sym (passed_on (formula_tests sorts n) count n.value guard n.value formula)
    ∙ sym (cond-false _ _ _ (ap is_some (sym (same_place rules name.bytes)) ∙ new))

-- the rule that stands last, and the rules after one assignment more for it
module _ (rules : List Rule) (n : ℕ) (rule : Rule) (all : n ≡ length rules) (some : 0 < n) (there : rule ≡ get_or rules (n - 1) rule) where
  pub count_is : length (map rule_seen rules) ≡ n
  count_is = length-map rules rule_seen ∙ sym all

  pub last_is : last_rule (map rule_seen rules) ≡ rule_seen rule
  last_is =
      ap (λ k. get_or (map rule_seen rules) (k - 1) no_rule) count_is
      ∙ get_or-map rule_seen rules (n - 1) rule no_rule (omega arith) ∙ ap rule_seen (sym there)

  pub set_added : (a : Assignment) (new : Rule) → new.name ≡ rule.name → new.guard ≡ rule.guard → vec_items new.sets ≡ vec_items rule.sets ++ a ∷ [] → with_set a (map rule_seen rules) ≡ map rule_seen (set rules (n - 1) new)
  set_added a new named guarded added =
      let is : more_sets a (rule_seen rule) ≡ rule_seen new = cc in
      ap (λ k. set (map rule_seen rules) (k - 1) (more_sets a (last_rule (map rule_seen rules)))) count_is
      ∙ ap (λ r. set (map rule_seen rules) (n - 1) r) (ap (more_sets a) last_is ∙ is)
      ∙ sym (map-set rule_seen rules (n - 1) new)

-- the tests of a `set` line, below the rule that stands last
module _ (variables : VariablesV) (terms : TermsV) (name : WordV) (n : Number) (s : List RuleV) where
  pub below_last : (rule : RuleV) (r : Result Assignment LineFault) → 0 < length s → last_rule s ≡ rule → r ≡ unless (set_tests_below variables terms name n rule) (assignment_of variables name n) → r ≡ set_tested variables terms name n s
  below_last rule r some last tested =
      tested ∙ ap (λ q. unless (set_tests_below variables terms name n q) (assignment_of variables name n)) (sym last)
      ∙ sym (cond-false _ _ _ (ne_eqb (length s) 0 (λ none. omega arith)))

  -- a `set` line that passes its tests adds its assignment
  pub set_taken : (a : Assignment) → Ok a ≡ set_tested variables terms name n s → assignment_taken variables terms name n s ≡ Ok (with_set a s)
  set_taken a ok =
      let tests = set_line_tests variables terms name n s in
      let one : Assignment = record { variable = number_in variables.names name; term = n.value } in
      passed_on tests [] one a (with_set one s) ok ∙ ap (λ b. Ok (with_set b s)) (unless_ok tests one a (sym ok)).0
