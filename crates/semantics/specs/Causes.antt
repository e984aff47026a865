-- Why a rule keeps an invariant. A reader must believe the three causes: the three lines of `Keeps`.
use Rattle.std.specs.Prelude.{◌≡◌, List, [], ◌∷◌}
use Rattle.std.specs.List.{ContainsAt, AllByRecursion}
use Rattle.semantics.specs.Trees.{Tree, Declared, State, IsState, TrueIn}
use Rattle.semantics.specs.Firing.{Rule, precondition}
use Rattle.semantics.specs.Reachable.{Protocol, Initial}

-- In every state in which all of the hypotheses are true, the conclusion is true.
abbrev pub Follows : Declared → List Tree → Tree → Type 0
Follows d hypotheses conclusion = (s : State) → IsState d s → AllByRecursion (TrueIn s) hypotheses → TrueIn s conclusion

-- A cause: the guard alone; that nothing changes; or the guard together with a partner, a formula that is true before.
pub data Cause : Type 0 where
  ByGuard : Cause
  Unchanged : Cause
  With : Tree → Cause

-- The rule keeps the formula, by this cause: its precondition follows from the guard; or is the formula itself, sign for
-- sign; or follows from the guard and the partner together.
abbrev pub Keeps : Declared → Rule → Tree → Cause → Type 0
Keeps d rule formula ByGuard = Follows d (rule.guard ∷ []) (precondition rule formula)
Keeps d rule formula Unchanged = precondition rule formula ≡ formula
Keeps d rule formula (With partner) = Follows d (rule.guard ∷ partner ∷ []) (precondition rule formula)

-- The partner, if the cause has one, is one of the formulas.
abbrev pub PartnerAmong : List Tree → Cause → Type 0
PartnerAmong formulas ByGuard = Unit {0}
PartnerAmong formulas Unchanged = Unit {0}
PartnerAmong formulas (With partner) = ContainsAt formulas partner

-- The rule keeps the formula by some cause, with a partner from among the formulas if it needs one.
abbrev pub HasCause : Declared → List Tree → Rule → Tree → Type 0
HasCause d formulas rule formula = (cause : Cause) × Keeps d rule formula cause × PartnerAmong formulas cause

-- Every rule keeps every one of the formulas by some cause.
abbrev pub AllCaused : Protocol → List Tree → Type 0
AllCaused p formulas = AllByRecursion (λ rule. AllByRecursion (HasCause p.declared formulas rule) formulas) p.rules

-- Every one of the formulas is true in every initial state.
abbrev pub InitiallyTrue : Protocol → List Tree → Type 0
InitiallyTrue p formulas = (s : State) → IsState p.declared s → Initial p s → AllByRecursion (TrueIn s) formulas
