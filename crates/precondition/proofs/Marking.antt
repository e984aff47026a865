-- What is marked as a part of a formula.
use Rattle.std.proofs.Common.{◌≡◌, ℕ, zero, suc, ◌+◌, ◌<◌, ◌≤◌, Bool, true, false, List, [], ◌∷◌, ◌++◌, length, get_or, set, replicate, sym, refl, ap, ◌∙◌, subst, ⊎_elim, arith}
use Rattle.std.proofs.ByRecursion.{All-weaker}
use Rattle.std.proofs.lemmas.List.{length-set, get_or-set_same, get_or-set_other, set_past, get_or-take, length-take-le, length-replicate}
use Rattle.std.proofs.lemmas.Bool.{cases_eq, cases_lt, cond_both, cond-true, and_parts}
use Rattle.std.specs.List.{AllByRecursion}
use Rattle.terms.specs.declared.Term.{Term}
use Rattle.terms.specs.declared.Term.TheVariants.{Var}
use Rattle.precondition.specs.Parts.{with_marks, passed_on, marked_from, up_to, parts}
use Rattle.precondition.specs.Steps.{term_at}
use Rattle.precondition.specs.Tables.{arguments, formed_from, formed}
use Rattle.precondition.proofs.Forming.{earlier_from, formed_take}

abbrev pub Marked : List Bool → ℕ → Type 0
Marked marks k = get_or marks k false ≡ true

-- a mark more takes none away
set_keeps : (marks : List Bool) (n k : ℕ) → Marked marks k → Marked (set marks n true) k
set_keeps marks n k is =
    ⊎_elim
    (λ same. ⊎_elim
    (λ inside. subst (Marked (set marks n true)) (sym same) (get_or-set_same marks n true false inside))
    (λ over. ap (λ ms. get_or ms k false) (set_past marks n true over) ∙ is)
    (cases_lt n (length marks)))
    (λ other. get_or-set_other marks n k true false other ∙ is)
    (cases_eq k n)

keeps : (numbers : List ℕ) (marks : List Bool) (k : ℕ) → Marked marks k → Marked (with_marks marks numbers) k
keeps [] marks k is = is
keeps (n ∷ rest) marks k is = keeps rest (set marks n true) k (set_keeps marks n k is)

length_marks : (numbers : List ℕ) (marks : List Bool) → length (with_marks marks numbers) ≡ length marks
length_marks [] marks = refl
length_marks (n ∷ rest) marks = length_marks rest (set marks n true) ∙ length-set marks n true

marks_all : (numbers : List ℕ) (marks : List Bool) → AllByRecursion (λ n. n < length marks) numbers → AllByRecursion (Marked (with_marks marks numbers)) numbers
marks_all [] marks inside = tt
marks_all (n ∷ rest) marks inside = (
  keeps rest (set marks n true) n (get_or-set_same marks n true false inside.0),
  marks_all rest (set marks n true) (All-weaker (λ m. m < length marks) (λ m. m < length (set marks n true)) (λ m less. omega (arith, length-set marks n true)) rest inside.1),
)

-- marks of numbers below `n` change nothing at `n` and after
apart : (numbers : List ℕ) (marks : List Bool) (k : ℕ) → AllByRecursion (λ n. n < k) numbers → get_or (with_marks marks numbers) k false ≡ get_or marks k false
apart [] marks k below = refl
apart (n ∷ rest) marks k below =
    apart rest (set marks n true) k below.1 ∙ get_or-set_other marks n k true false (λ same. let less : n < k = below.0 in absurd (omega arith))

module _ (n : ℕ) (t : Term) (marks : List Bool) where
  passed_keeps : (k : ℕ) → Marked marks k → Marked (passed_on n t marks) k
  passed_keeps k is = cond_both (get_or marks n false) (with_marks marks (arguments t)) marks (λ ms. Marked ms k) (λ _. keeps (arguments t) marks k is) (λ _. is)

  passed_length : length (passed_on n t marks) ≡ length marks
  passed_length = cond_both (get_or marks n false) (with_marks marks (arguments t)) marks (λ ms. length ms ≡ length marks) (λ _. length_marks (arguments t) marks) (λ _. refl)

  passed_apart : (k : ℕ) → AllByRecursion (λ a. a < k) (arguments t) → get_or (passed_on n t marks) k false ≡ get_or marks k false
  passed_apart k below =
      cond_both (get_or marks n false) (with_marks marks (arguments t)) marks (λ ms. get_or ms k false ≡ get_or marks k false) (λ _. apart (arguments t) marks k below) (λ _. refl)

  passed_args : n ≤ length marks → AllByRecursion (λ a. a < n) (arguments t) → Marked marks n → AllByRecursion (Marked (passed_on n t marks)) (arguments t)
  passed_args long below is =
      subst (λ ms. AllByRecursion (Marked ms) (arguments t)) (sym (cond-true (get_or marks n false) (with_marks marks (arguments t)) marks is))
      (marks_all (arguments t) marks (All-weaker (λ a. a < n) (λ a. a < length marks) (λ a less. omega arith) (arguments t) below))

pub marked_keeps : (n : ℕ) (terms : List Term) (marks : List Bool) (k : ℕ) → Marked marks k → Marked (marked_from n terms marks) k
marked_keeps n [] marks k is = is
marked_keeps n (t ∷ terms) marks k is = passed_keeps n t (marked_from (suc n) terms marks) k (marked_keeps (suc n) terms marks k is)

marked_length : (n : ℕ) (terms : List Term) (marks : List Bool) → length (marked_from n terms marks) ≡ length marks
marked_length n [] marks = refl
marked_length n (t ∷ terms) marks = passed_length n t (marked_from (suc n) terms marks) ∙ marked_length (suc n) terms marks

-- the arguments of a marked term are marked
pub closed_from : (n : ℕ) (terms : List Term) (marks : List Bool) (k : ℕ) → formed_from n terms ≡ true → n + length terms ≤ length marks → k < length terms
    → Marked (marked_from n terms marks) (n + k) → AllByRecursion (Marked (marked_from n terms marks)) (arguments (term_at terms k))
closed_from n [] marks k is long inside here = absurd (omega arith)
closed_from n (t ∷ terms) marks zero is long inside here =
    let rest = marked_from (suc n) terms marks in
    let below : AllByRecursion (λ a. a < n) (arguments t) = All-weaker (λ a. a < n + 0) (λ a. a < n) (λ a less. omega arith) (arguments t) (earlier_from n (t ∷ terms) zero is inside) in
    let at_n : Marked (passed_on n t rest) n = subst (Marked (passed_on n t rest)) (omega arith) here in
    passed_args n t rest (omega (arith, marked_length (suc n) terms marks)) below (sym (passed_apart n t rest n below) ∙ at_n)
closed_from n (t ∷ terms) marks (suc k) is long inside here =
    let rest = marked_from (suc n) terms marks in
    let first : AllByRecursion (λ a. a < n + 0) (arguments t) = earlier_from n (t ∷ terms) zero is (omega arith) in
    let below : AllByRecursion (λ a. a < suc n + k) (arguments t) = All-weaker (λ a. a < n + 0) (λ a. a < suc n + k) (λ a less. omega arith) (arguments t) first in
    let there : Marked (passed_on n t rest) (suc n + k) = subst (Marked (passed_on n t rest)) (omega arith) here in
    All-weaker (Marked rest) (Marked (passed_on n t rest)) (λ a marked. passed_keeps n t rest a marked) (arguments (term_at terms k))
    (closed_from (suc n) terms marks k (and_parts _ _ is).1 (omega arith) (omega arith) (sym (passed_apart n t rest (suc n + k) below) ∙ there))

-- what is marked when terms at the front are left
pub record MarkedBut (terms left : List Term) (marks now : List Bool) : Type 0 where
  pub after : List Term
  pub split : terms ≡ left ++ after
  pub so_far : now ≡ marked_from (length left) after marks

-- the terms that a formula is made of
module _ (terms : List Term) (formula : ℕ) (small : length terms ≤ 512) (inside : formula < length terms) where
  start : List Bool
  start = set (replicate 512 false) formula true

  start_length : length start ≡ 512
  unfolding start
  start_length = length-set (replicate 512 false) formula true ∙ length-replicate 512 false

  pub part_length : length (up_to terms formula) ≡ suc formula
  part_length = length-take-le (suc formula) terms inside

  pub parts_length : length (parts terms formula) ≡ 512
  unfolding start
  parts_length = marked_length 0 (up_to terms formula) start ∙ start_length

  pub parts_formula : Marked (parts terms formula) formula
  unfolding start
  parts_formula = marked_keeps 0 (up_to terms formula) start formula (get_or-set_same (replicate 512 false) formula true false (omega (arith, length-replicate 512 false)))

  pub part_at : (k : ℕ) → k < suc formula → term_at (up_to terms formula) k ≡ term_at terms k
  part_at k less = get_or-take (suc formula) terms k (Var 0) less

  pub parts_closed : formed terms ≡ true → (k : ℕ) → k < suc formula → Marked (parts terms formula) k → AllByRecursion (Marked (parts terms formula)) (arguments (term_at terms k))
  unfolding start
  parts_closed is k less here =
      subst (λ t. AllByRecursion (Marked (parts terms formula)) (arguments t)) (part_at k less)
      (closed_from 0 (up_to terms formula) start k (formed_take (suc formula) terms is) (omega (arith, part_length, start_length)) (omega (arith, part_length)) (subst (Marked (parts terms formula)) (omega arith) here))
