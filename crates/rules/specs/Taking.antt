-- What the lines of the rules add: `rule` and `set`. Each has its tests in the order of their numbers, and of one number
-- from the left: the first that applies is the line's fault.
use Rattle.std.specs.Prelude.{ℕ, ◌-◌, Bool, true, false, cond, List, [], ◌∷◌, ◌++◌, map, length, Result, ◌==◌, slice_index, slice_index_or, slice_set}
use Rattle.terms.specs.Sorts.{sort_of_number, differ}
use Rattle.terms.specs.declared.Assignment.{Assignment}
use Rattle.terms.specs.declared.Sort.TheVariants.{Value}
use Rattle.text.specs.Faults.{fault}
use Rattle.text.specs.declared.faults.LineFault.{LineFault}
use Rattle.text.specs.declared.faults.Wrong.TheVariants as wrong
use Rattle.words.specs.Words.{WordV}
use Rattle.words.specs.declared.Number.{Number}
use Rattle.tables.specs.Records.{VariablesV, TermsV}
use Rattle.tables.specs.Taking.{unless, used, unknown, number_in, no_such, no_formula, full}
use Rattle.rules.specs.Records.{RuleV}

-- `rule=NAME N`: the guard is a formula; at most 64 rules. It has no assignments yet.
abbrev pub rule_taken : TermsV → WordV → Number → List RuleV → Result (List RuleV) LineFault
rule_taken terms name guard s =
    unless
    (used (map (λ r. r.name) s) name ∷ no_such terms.sorts guard ∷ no_formula terms.sorts guard ∷ full 64 s ∷ [])
    (s ++ record { name = name.bytes; guard = guard.value; sets = [] } ∷ [])

-- The rule that stands last, and the rules with another in its place.
abbrev pub no_rule : RuleV
no_rule = record { name = []; guard = 0; sets = [] }

abbrev pub last_rule : List RuleV → RuleV
last_rule s = slice_index_or s (length s - 1) no_rule

abbrev pub with_last : List RuleV → RuleV → List RuleV
with_last s rule = slice_set s (length s - 1) rule

-- The variable is among those that are set.
abbrev pub is_set : ℕ → List Assignment → Bool
is_set variable [] = false
is_set variable (a ∷ sets) = cond (a.variable == variable) true (is_set variable sets)

-- `set=VAR N`: it needs a rule above it. An assignment of the rule that stands last, of a term of the variable's type; at
-- most 16, and no variable twice. That rule alone changes.
abbrev pub assignment_taken : VariablesV → TermsV → WordV → Number → List RuleV → Result (List RuleV) LineFault
assignment_taken variables terms name n s =
    let variable = number_in variables.names name in
    let rule = last_rule s in
    unless
    (((length s == 0), fault wrong.Key 1) ∷ unknown variables.names name ∷ no_such terms.sorts n
    ∷ (differ (Value (slice_index variables.kinds variable)) (sort_of_number terms.sorts n.value), fault wrong.WrongSort n.column)
    ∷ full 16 rule.sets ∷ (is_set variable rule.sets, fault wrong.SetTwice name.column) ∷ [])
    (with_last s (record { name = rule.name; guard = rule.guard; sets = rule.sets ++ record { variable = variable; term = n.value } ∷ [] }))
