-- What the lines of a proposal add obeys the limits and sorts.
use Rattle.std.proofs.Common.{◌≡◌, ℕ, ◌+◌, ◌-◌, ◌<◌, true, false, not, ◌&&◌, eqb, ltb, List, [], ◌∷◌, ◌++◌, length, get_or, is_some, IfSome, None, Ok, sym, ap, ◌∙◌, subst, inl, inr, ⊎_elim, arith}
use Rattle.std.proofs.lemmas.List.{length_push, get_or_push, get_or_append_left, get_or_default, map_push}
use Rattle.std.proofs.lemmas.Bool.{leb-false, ltb-true, eqb-true, or_cases, and_parts, not-false, cases_lt}
use Rattle.text.specs.Faults.{fault}
use Rattle.text.specs.declared.faults.Wrong.TheVariants as wrong
use Rattle.words.specs.Words.{WordV, is_name}
use Rattle.words.specs.declared.Number.{Number}
use Rattle.names.specs.Names.{place_in}
use Rattle.terms.specs.declared.Sort.TheVariants.{Formula}
use Rattle.line.specs.Forms.{FormV, KindV}
use Rattle.line.specs.Forms as kind
use Rattle.tables.specs.Lawful.{Names, IsOf}
use Rattle.tables.specs.Records.{TermsV}
use Rattle.tables.specs.Taking.{used, unknown, full, number_in, formula_tests}
use Rattle.tables.proofs.Answered.{AllFalse, bind_ok, unless_ok}
use Rattle.tables.proofs.Named.{no_names, names_push, none_from, placed, some_inside, each_push}
use Rattle.tables.proofs.TermLaws.{formula_is}
use Rattle.proposal.specs.Causes.{partner_of}
use Rattle.proposal.specs.Lawful.{LawfulInvariants, LawfulClaim, LawfulClaims, Before}
use Rattle.proposal.specs.Records.{InvariantV}
use Rattle.proposal.specs.Taking.{invariant_names, formula_in, take_invariant, kind_tests, cause_of, claim_of, before, no_claim, comes_after, claim_taken}
use Rattle.proposal.specs.declared.claims.Claim.{Claim}

-- Before the first line there is nothing that could break a limit.
pub no_invariants : (t : TermsV) (first_line : ℕ) → LawfulInvariants t first_line []
no_invariants t first_line =
    record { few = omega arith; named = no_names; each = λ i none inside. absurd (omega arith); lines = λ i none inside. absurd (omega arith) }

pub no_claims : (rules invariants first_line : ℕ) → LawfulClaims rules invariants first_line []
no_claims rules invariants first_line =
    record { few = omega arith; each = λ i none inside. absurd (omega arith); ascending = λ i none inside. absurd (omega arith); lines = λ i none inside. absurd (omega arith) }

-- what holds of each element, by its number, holds of each after a push
pub each_numbered : {X : Type 0} (P : ℕ → X → Type 0) (xs : List X) (y d : X) → ((i : ℕ) → i < length xs → P i (get_or xs i d)) → P (length xs) y → (i : ℕ) → i < length (xs ++ y ∷ []) → P i (get_or (xs ++ y ∷ []) i d)
each_numbered P xs y d each last i inside =
    ⊎_elim
    (λ before. subst (P i) (sym (get_or_append_left xs (y ∷ []) d i before)) (each i before))
    (λ past. let here : length xs ≡ i = omega (arith, length_push xs y) in
    subst (P i) (sym (get_or_push xs y d i here)) (subst (λ n. P n y) here last))
    (cases_lt i (length xs))

-- An `inv` line keeps the invariants lawful, on the line that follows the last of them.
pub invariant_lawful : (t : TermsV) (first_line line : ℕ) (name : WordV) (n : Number) (s after : List InvariantV) → LawfulInvariants t first_line s → is_name name.bytes ≡ true → line ≡ first_line + length s → take_invariant t line name n s ≡ Ok after → LawfulInvariants t first_line after × (length after ≡ length s + 1)
invariant_lawful t first_line line name n s after lawful named numbered is =
    let made = bind_ok (formula_in t name n s) _ after is in
    let tested = unless_ok (used (invariant_names s) name ∷ formula_tests t.sorts n) n.value made.0 made.1 in
    let row : InvariantV = record { name = name.bytes; formula = made.0; line = line } in
    let out = unless_ok (full 64 s ∷ []) (s ++ row ∷ []) after made.2 in
    let room : length s < 64 = leb-false 64 (length s) out.1.0 in
    let new : place_in (invariant_names s) name.bytes ≡ None = none_from _ tested.1.0 in
    let formula : IsOf Formula t made.0 = subst (λ k. IsOf Formula t k) tested.0 (formula_is t n tested.1.1.0 tested.1.1.1.0) in (
      subst (LawfulInvariants t first_line) out.0
          (record {
            few = omega (arith, length_push s row);
            named = subst Names (sym (map_push (λ i. i.name) s row)) (names_push (invariant_names s) name.bytes lawful.named named new);
            each = λ i none. each_push (λ x. IsOf Formula t x.formula) s row none (λ k. lawful.each k none) formula i;
            lines = λ i none. each_numbered (λ k x. x.line ≡ first_line + k) s row none (λ k. lawful.lines k none) numbered i;
          }),
      ap length (sym out.0) ∙ length_push s row,
    )

-- a name that is not unknown has a number below theirs
known_inside : (names : List (List ℕ)) (w : WordV) → (unknown names w).0 ≡ false → number_in names w < length names
known_inside names w is = some_inside names w.bytes (place_in names w.bytes) (placed names w.bytes) (not-false (is_some (place_in names w.bytes)) is)

before_is : (a b : Claim) → before a b ≡ true → Before a b
before_is a b is =
    ⊎_elim
    (λ lower. inl (ltb-true a.invariant b.invariant lower))
    (λ same. let both = and_parts (eqb a.invariant b.invariant) (ltb a.rule b.rule) same in
    inr (eqb-true a.invariant b.invariant both.0, ltb-true a.rule b.rule both.1))
    (or_cases (ltb a.invariant b.invariant) (eqb a.invariant b.invariant && ltb a.rule b.rule) is)

-- the claim that a line makes has a rule, an invariant and a partner that exist
partner_inside : (names : List (List ℕ)) (k : KindV) → AllFalse (kind_tests names k) → IfSome (partner_of (cause_of names k)) (λ partner. partner < length names)
partner_inside names kind.Guard none = tt
partner_inside names kind.Unchanged none = tt
partner_inside names (kind.Partner partner) none = known_inside names partner none.0

-- a claim comes after the last
last_before : (s : List Claim) (c none : Claim) (i : ℕ) → comes_after s c ≡ true → i + 1 ≡ length s → Before (get_or s i none) c
last_before s c none i comes here =
    ⊎_elim
    (λ empty. absurd (omega (arith, eqb-true (length s) 0 empty)))
    (λ is. let there : length s - 1 ≡ i = omega arith in
    subst (λ a. Before a c) (ap (λ k. get_or s k no_claim) there ∙ get_or_default s i no_claim none (omega arith)) (before_is (get_or s (length s - 1) no_claim) c is))
    (or_cases (eqb (length s) 0) (before (get_or s (length s - 1) no_claim) c) comes)

-- A `cause` line keeps the claims lawful, on the line that follows the last of them.
module _ (rules invariants : List (List ℕ)) (first_line : ℕ) (s : List Claim) (lawful : LawfulClaims (length rules) (length invariants) first_line s) where
  ascending_push : (c : Claim) → comes_after s c ≡ true → (i : ℕ) (none : Claim) → i + 1 < length (s ++ c ∷ []) → Before (get_or (s ++ c ∷ []) i none) (get_or (s ++ c ∷ []) (i + 1) none)
  ascending_push c comes i none inside =
      let long = length_push s c in
      let first : get_or (s ++ c ∷ []) i none ≡ get_or s i none = get_or_append_left s (c ∷ []) none i (omega arith) in
      ⊎_elim
      (λ before. subst (λ a. Before a (get_or (s ++ c ∷ []) (i + 1) none)) (sym first)
      (subst (Before (get_or s i none)) (sym (get_or_append_left s (c ∷ []) none (i + 1) before)) (lawful.ascending i none before)))
      (λ past. let here : i + 1 ≡ length s = omega arith in
      subst (λ a. Before a (get_or (s ++ c ∷ []) (i + 1) none)) (sym first)
      (subst (Before (get_or s i none)) (sym (get_or_push s c none (i + 1) (sym here))) (last_before s c none i comes here)))
      (cases_lt (i + 1) (length s))

  pub claim_lawful : (line : ℕ) (rule invariant : WordV) (k : KindV) (after : List Claim) → line ≡ first_line + length s → claim_taken rules invariants line rule invariant k s ≡ Ok after → LawfulClaims (length rules) (length invariants) first_line after × (length after ≡ length s + 1)
  claim_lawful line rule invariant k after numbered is =
      let made = bind_ok (claim_of rules invariants line rule invariant k) _ after is in
      let c = made.0 in
      let tested = unless_ok (unknown rules rule ∷ unknown invariants invariant ∷ kind_tests invariants k) _ c made.1 in
      let out = unless_ok (full 4096 s ∷ (not (comes_after s c), fault wrong.NotAscending 1) ∷ []) (s ++ c ∷ []) after made.2 in
      let room : length s < 4096 = leb-false 4096 (length s) out.1.0 in
      let here : LawfulClaim (length rules) (length invariants) c =
      subst (LawfulClaim (length rules) (length invariants)) tested.0
      (record {
        rule = known_inside rules rule tested.1.0;
        invariant = known_inside invariants invariant tested.1.1.0;
        partner = partner_inside invariants k tested.1.1.1;
      }) in
      let at-line : c.line ≡ first_line + length s = ap (λ (x : Claim). x.line) (sym tested.0) ∙ numbered in (
        subst (LawfulClaims (length rules) (length invariants) first_line) out.0
            (record {
              few = omega (arith, length_push s c);
              each = λ i none. each_push (LawfulClaim (length rules) (length invariants)) s c none (λ j. lawful.each j none) here i;
              ascending = ascending_push c (not-false (comes_after s c) out.1.1.0);
              lines = λ i none. each_numbered (λ j x. x.line ≡ first_line + j) s c none (λ j. lawful.lines j none) at-line i;
            }),
        ap length (sym out.0) ∙ length_push s c,
      )
