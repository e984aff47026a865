-- What is true in every reachable state.
use Rattle.std.proofs.Common.{List, [], ◌∷◌, sym, ap, ◌∙◌, subst}
use Rattle.std.proofs.ByRecursion.{all-has}
use Rattle.std.specs.List.{AllByRecursion}
use Rattle.semantics.specs.Laws.{ReachableLaw, ConsistencyLaw}
use Rattle.semantics.specs.Trees.{Tree, Declared, State, IsState, TrueIn, true_in}
use Rattle.semantics.specs.Firing.{Rule, SortedRule, Fires, precondition}
use Rattle.semantics.specs.Reachable.{Protocol, Reachable, initial, fired, SortedProtocol}
use Rattle.semantics.specs.Causes.{Cause, ByGuard, Unchanged, With, Keeps, PartnerAmong, HasCause, AllCaused, InitiallyTrue}
use Rattle.semantics.proofs.Firings.{state_law, precondition_law}

-- what follows of each from two facts of each
all_both : {X : Type 0} (P Q R : X → Type 0) → ((x : X) → P x → Q x → R x) → (xs : List X) → AllByRecursion P xs → AllByRecursion Q xs → AllByRecursion R xs
all_both P Q R step [] ps qs = tt
all_both P Q R step (x ∷ xs) ps qs = (step x ps.0 qs.0, all_both P Q R step xs ps.1 qs.1)

module _ (p : Protocol) (sorted : SortedProtocol p) where
  reached : {s : State} → Reachable p s → IsState p.declared s
  reached (initial state begins) = state
  reached (fired {s = s} {rule = rule} before has fires) =
      subst (IsState p.declared) (sym fires.after)
      (state_law p.declared rule s (all-has (SortedRule p.declared) p.rules rule sorted.rules has) (reached before))

pub reachable_law : ReachableLaw
reachable_law p s sorted reach = reached p sorted reach

-- where the invariants are true and the guard is, a kept formula's precondition is true
caused : (d : Declared) (invariants : List Tree) (rule : Rule) (formula : Tree) (s : State) (cause : Cause) → IsState d s → TrueIn s rule.guard → AllByRecursion (TrueIn s) invariants → TrueIn s formula → Keeps d rule formula cause → PartnerAmong invariants cause → TrueIn s (precondition rule formula)
caused d invariants rule formula s ByGuard state enabled all here keeps among = keeps s state (enabled, tt)
caused d invariants rule formula s Unchanged state enabled all here keeps among = subst (TrueIn s) (sym keeps) here
caused d invariants rule formula s (With partner) state enabled all here keeps among = keeps s state (enabled, (all-has (TrueIn s) invariants partner all among, tt))

module _ (p : Protocol) (invariants : List Tree) (sorted : SortedProtocol p) (begins : InitiallyTrue p invariants) (causes : AllCaused p invariants) where
  -- a rule that fires keeps all the invariants
  step : (s s' : State) (rule : Rule) → IsState p.declared s → SortedRule p.declared rule → Fires rule s s' → AllByRecursion (HasCause p.declared invariants rule) invariants → AllByRecursion (TrueIn s) invariants → AllByRecursion (TrueIn s') invariants
  step s s' rule state ruled fires kept all =
      all_both (HasCause p.declared invariants rule) (TrueIn s) (TrueIn s')
      (λ formula cause here.
      ap (λ t. true_in t formula) fires.after
      ∙ sym (precondition_law p.declared rule formula s ruled state)
      ∙ caused p.declared invariants rule formula s cause.0 state fires.enabled all here cause.1 cause.2)
      invariants kept all

  always : {s : State} → Reachable p s → AllByRecursion (TrueIn s) invariants
  always (initial {s = s} state start) = begins s state start
  always (fired {s = s} {s' = s'} {rule = rule} before has fires) =
      step s s' rule (reached p sorted before)
      (all-has (SortedRule p.declared) p.rules rule sorted.rules has) fires
      (all-has (λ r. AllByRecursion (HasCause p.declared invariants r) invariants) p.rules rule causes has)
      (always before)

pub consistency_law : ConsistencyLaw
consistency_law p invariants sorted begins causes s reach = always p invariants sorted begins causes reach
