-- The state after a rule, and what a precondition says of it.
use Rattle.std.proofs.Common.{◌≡◌, ℕ, suc, ◌<◌, ◌≤◌, true, false, eqb, ◌≢◌, List, [], ◌∷◌, length, get_or, is_some, Some, None, Option, unwrap_or, sym, refl, ap, ◌∙◌, subst, ⊎_elim, arith, MatchOption}
use Rattle.std.proofs.lemmas.List.FromFn.{length-map-range_with_len, get_or-map-range_with_len}
use Rattle.std.proofs.lemmas.List.{ext_get_or, get_or_past}
use Rattle.std.proofs.lemmas.Bool.{eqb-true, eqb-false, cond_both, cases_lt, cases_Bool}
use Rattle.std.specs.List.{ContainsAt, AllByRecursion}
use Rattle.semantics.specs.Laws.{AssignmentLaw, FiringLaw, IsAfter, StateLaw, ReplacementLaw, PreconditionLaw}
use Rattle.semantics.specs.Trees.{Tree, Var, Declared, Value, State, IsState, type_of, size, value, is_true}
use Rattle.semantics.specs.Firing.{Assignment, Rule, assigned, is_set, next_value, fire, replace}
use Rattle.semantics.proofs.Sorts.{sort_law}
use Rattle.semantics.proofs.Replacing.{SortedFor, kept, replaced, sorted_for}

-- what an assignment says of the variable, said of one assignment more
module _ (a : Assignment) (sets : List Assignment) (v : ℕ) (apart : a.variable ≢ v) where
  one_more : (o : Option Tree) → MatchOption o (AllByRecursion (λ b. b.variable ≢ v) sets) (λ tree. ContainsAt sets (record { variable = v; tree = tree })) → MatchOption o (AllByRecursion (λ b. b.variable ≢ v) (a ∷ sets)) (λ tree. ContainsAt (a ∷ sets) (record { variable = v; tree = tree }))
  one_more None none = (apart, none)
  one_more (Some other) has = (suc has.0, omega (arith, has.1), has.2)

pub assignment_law : AssignmentLaw
assignment_law [] v = tt
assignment_law (a ∷ sets) v =
    cond_both (eqb a.variable v) (Some a.tree) (assigned sets v) (λ o. MatchOption o (AllByRecursion (λ b. b.variable ≢ v) (a ∷ sets)) (λ tree. ContainsAt (a ∷ sets) (record { variable = v; tree = tree })))
    (λ same. (0, omega arith, λ _. λ i. record { variable = eqb-true a.variable v same i; tree = a.tree }))
    (λ other. one_more a sets v (eqb-false a.variable v other) (assigned sets v) (assignment_law sets v))

module _ (rule : Rule) (s : State) where
  abbrev next : ℕ → ℕ
  next v = next_value (assigned rule.sets v) s v

  fire_length : length (fire rule s) ≡ length s
  fire_length = length-map-range_with_len next 0 (length s)

  fire_at : (v : ℕ) → v < length s → get_or (fire rule s) v 0 ≡ next v
  fire_at v inside = get_or-map-range_with_len next 0 (length s) v v 0 inside (omega arith)

pub firing_law : FiringLaw
firing_law rule s s' = (
  λ is. subst (IsAfter rule s) (sym is) (record { as_many = fire_length rule s; each = fire_at rule s }),
  λ after. ext_get_or 0 s' (fire rule s) (after.as_many ∙ sym (fire_length rule s))
      (λ v inside. let within : v < length s = omega arith in after.each v within ∙ sym (fire_at rule s v within)),
)

-- the next value is one of the variable's type
next_below : (d : Declared) (s : State) (v : ℕ) (o : Option Tree) → IsState d s → v < length d.variables → SortedFor d v o → next_value o s v < size d (Value (type_of d v))
next_below d s v None state declared sorted = state.in_its_type v declared
next_below d s v (Some tree) state declared sorted = sort_law d tree (Value (type_of d v)) s state sorted.of_its_type

pub state_law : StateLaw
state_law d rule s sorted state =
    record {
      each_variable = fire_length rule s ∙ state.each_variable;
      in_its_type = λ v declared.
          let within : v < length s = omega arith in
          subst (λ n. n < size d (Value (type_of d v))) (sym (fire_at rule s v within))
          (next_below d s v (assigned rule.sets v) state declared (sorted_for d rule.sets v sorted.sets));
    }

-- the value of what replaces a variable is the variable's next value
next_is : (o : Option Tree) (s : State) (v : ℕ) → value (unwrap_or o (Var v)) s ≡ next_value o s v
next_is None s v = refl
next_is (Some other) s v = refl

-- a variable that the state lacks and that is not set has the value 0 before and after
past : (rule : Rule) (s : State) (v : ℕ) → length s ≤ v → is_set rule.sets v ≡ false → value (replace rule.sets (Var v)) s ≡ get_or (fire rule s) v 0
past rule s v over unset =
    ap (λ tree. value tree s) (kept (assigned rule.sets v) (Var v) unset)
    ∙ get_or_past s v 0 over
    ∙ sym (get_or_past (fire rule s) v 0 (omega (arith, fire_length rule s)))

pub replacement_law : ReplacementLaw
replacement_law rule tree s has =
    replaced rule.sets s (fire rule s) tree
    (λ v here.
    ⊎_elim
    (λ within. next_is (assigned rule.sets v) s v ∙ sym (fire_at rule s v within))
    (λ over.
    ⊎_elim
    (λ set. let within : v < length s = has v here set in absurd (omega arith))
    (λ unset. past rule s v over unset)
    (cases_Bool (is_set rule.sets v)))
    (cases_lt v (length s)))

-- a well-sorted rule sets declared variables only
declared_set : (d : Declared) (v : ℕ) (o : Option Tree) → SortedFor d v o → is_some o ≡ true → v < length d.variables
declared_set d v None sorted set = absurd (let z : ◌≡◌ {A = ℕ} 0 1 = cc in omega arith)
declared_set d v (Some other) sorted set = sorted.declared

pub precondition_law : PreconditionLaw
precondition_law d rule formula s sorted state =
    ap is_true
    (replacement_law rule formula s
    (λ v here set. omega (arith, declared_set d v (assigned rule.sets v) (sorted_for d rule.sets v sorted.sets) set)))
