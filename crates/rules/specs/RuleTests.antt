-- The lines of the rules in two steps: their tests, and what they add once the tests have passed.
use Rattle.std.specs.Prelude.{ℕ, List, [], ◌∷◌, ◌++◌, map, length, Result, ◌==◌, slice_index}
use Rattle.terms.specs.Sorts.{sort_of_number, differ}
use Rattle.terms.specs.declared.Assignment.{Assignment}
use Rattle.terms.specs.declared.Sort.{Sort}
use Rattle.terms.specs.declared.Sort.TheVariants.{Value}
use Rattle.text.specs.Faults.{fault}
use Rattle.text.specs.declared.faults.LineFault.{LineFault}
use Rattle.text.specs.declared.faults.Wrong.TheVariants as wrong
use Rattle.words.specs.Words.{WordV}
use Rattle.words.specs.declared.Number.{Number}
use Rattle.tables.specs.Records.{VariablesV, TermsV}
use Rattle.tables.specs.Taking.{Tests, unless, used, unknown, number_in, no_such, no_formula, full}
use Rattle.rules.specs.Records.{RuleV}
use Rattle.rules.specs.Taking.{is_set, last_rule, with_last}

-- The tests of a `rule` line.
abbrev pub rule_tests : List Sort → WordV → Number → List RuleV → Tests
rule_tests sorts name guard s = used (map (λ r. r.name) s) name ∷ no_such sorts guard ∷ no_formula sorts guard ∷ full 64 s ∷ []

-- A number that has to be that of a value of this type.
abbrev pub value_tests : ℕ → List Sort → Number → Tests
value_tests kind sorts n = no_such sorts n ∷ (differ (Value kind) (sort_of_number sorts n.value), fault wrong.WrongSort n.column) ∷ []

-- The tests of a `set` line but for the first two: of a variable of this type, whose name stands at this column.
abbrev pub set_tests : ℕ → List Sort → ℕ → ℕ → Number → List Assignment → Tests
set_tests kind sorts variable column n sets =
    no_such sorts n ∷ (differ (Value kind) (sort_of_number sorts n.value), fault wrong.WrongSort n.column)
    ∷ full 16 sets ∷ (is_set variable sets, fault wrong.SetTwice column) ∷ []

-- The tests of a `set` line that stands below this rule.
abbrev pub set_tests_below : VariablesV → TermsV → WordV → Number → RuleV → Tests
set_tests_below variables terms name n rule =
    let variable = number_in variables.names name in
    unknown variables.names name ∷ set_tests (slice_index variables.kinds variable) terms.sorts variable name.column n rule.sets

-- All the tests of a `set` line.
abbrev pub set_line_tests : VariablesV → TermsV → WordV → Number → List RuleV → Tests
set_line_tests variables terms name n s = ((length s == 0), fault wrong.Key 1) ∷ set_tests_below variables terms name n (last_rule s)

-- The assignment that a `set` line says.
abbrev pub assignment_of : VariablesV → WordV → Number → Assignment
assignment_of variables name n = record { variable = number_in variables.names name; term = n.value }

-- The assignment that a `set` line adds, or its fault.
abbrev pub set_tested : VariablesV → TermsV → WordV → Number → List RuleV → Result Assignment LineFault
set_tested variables terms name n s = unless (set_line_tests variables terms name n s) (assignment_of variables name n)

-- The rules with one assignment more for the last of them.
abbrev pub more_sets : Assignment → RuleV → RuleV
more_sets a rule = record { name = rule.name; guard = rule.guard; sets = rule.sets ++ a ∷ [] }

abbrev pub with_set : Assignment → List RuleV → List RuleV
with_set a s = with_last s (more_sets a (last_rule s))
