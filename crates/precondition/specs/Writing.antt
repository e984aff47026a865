-- The precondition of a formula, written into a scratch of terms that are numbered on after the given ones. A reader must
-- believe what becomes of one term (`taken`); the terms of the formula are taken by ascending number.
use Rattle.std.specs.Prelude.{◌≡◌, ℕ, ◌+◌, Bool, true, false, cond, ◌&&◌, List, [], ◌∷◌, ◌++◌, length, Ok, Err, vec_items, Result, nat_lt, slice_index, slice_index_or}
use Rattle.semantics.specs.Trees.{Tree}
use Rattle.semantics.specs.Firing as firing
use Rattle.terms.specs.Rules.{assignments, rule}
use Rattle.terms.specs.Trees.{tree_at, trees}
use Rattle.terms.specs.declared.Assignment.{Assignment}
use Rattle.terms.specs.declared.Term.{Term}
use Rattle.precondition.specs.Parts.{parts, up_to}
use Rattle.precondition.specs.Places.{place}
use Rattle.precondition.specs.Tables.{renamed}
use Rattle.precondition.specs.declared.answers.Precondition.{Precondition}
use Rattle.failures.specs.Answers.{Answered}
use Rattle.failures.specs.declared.Failure.{Failure}
use Rattle.precondition.specs.declared.faults.Refusal.{Refusal}
use Rattle.precondition.specs.declared.faults.Refusal.TheVariants.{NoSuchTerm, ScratchFull}

-- What is written so far: the result of each term up to here (0 for one that is no part of the formula), and the scratch.
pub record Work : Type 0 where
  pub results : List ℕ
  pub scratch : List Term

-- Nothing is written.
abbrev pub begun : Work
begun = record { results = []; scratch = [] }

-- One result more; one more with a new term.
abbrev pub with_result : Work → ℕ → Work
with_result w n = record { results = w.results ++ n ∷ []; scratch = w.scratch }

abbrev pub with_term : Work → ℕ → Term → Work
with_term w n term = record { results = w.results ++ n ∷ []; scratch = w.scratch ++ term ∷ [] }

-- The number is that of a term that is there: of one of the `count` given ones, or of one in the scratch. Otherwise the term
-- is new, with each argument by its result; it is refused if the scratch has 512 terms.
abbrev pub noted : ℕ → Work → Term → ℕ → Result Work Refusal
noted count w term n =
    cond (nat_lt n (count + length w.scratch)) (Ok (with_result w n))
    (cond (nat_lt (length w.scratch) 512) (Ok (with_term w n (renamed (λ a. slice_index w.results a) term))) (Err ScratchFull))

-- The term's tree with its variables replaced.
abbrev pub replaced : List Term → List Assignment → ℕ → Tree
replaced terms sets n = firing.replace (assignments (trees terms) sets) (tree_at (trees terms) n)

-- The next term is taken: its result is the lowest term with that tree, of the given ones and those in the scratch.
abbrev pub taken : List Term → List Assignment → Term → Work → Result Work Refusal
taken terms sets term w = noted (length terms) w term (place (trees (terms ++ w.scratch)) (replaced terms sets (length w.results)))

abbrev pub then : {A B : Type 0} → Result A Refusal → (A → Result B Refusal) → Result B Refusal
then (Ok a) next = next a
then (Err refusal) next = Err refusal

-- The next term is taken if it is a part of the formula.
abbrev pub next : List Term → List Assignment → List Bool → Term → Work → Result Work Refusal
next terms sets marks term w = cond (slice_index_or marks (length w.results) false) (taken terms sets term w) (Ok (with_result w 0))

-- One term after another.
abbrev pub all_taken : List Term → List Assignment → List Bool → List Term → Work → Result Work Refusal
all_taken terms sets marks [] w = Ok w
all_taken terms sets marks (term ∷ rest) w = then (next terms sets marks term w) (all_taken terms sets marks rest)

-- The answer: the scratch, and the number of the precondition.
pub record Answer : Type 0 where
  pub scratch : List Term
  pub result : ℕ

abbrev pub answer : ℕ → Work → Answer
answer formula w = record { scratch = w.scratch; result = slice_index w.results formula }

-- What the program's answer stands for.
abbrev pub answer_seen : Precondition → Answer
answer_seen p = record { scratch = vec_items p.scratch; result = p.result }

-- Every assignment is to a term of the table.
abbrev pub all_there : ℕ → List Assignment → Bool
all_there count [] = true
all_there count (a ∷ sets) = nat_lt a.term count && all_there count sets

-- The precondition of a formula under assignments, written into a scratch, or why it is refused.
abbrev pub written : List Term → List Assignment → ℕ → Result Answer Refusal
written terms sets formula =
    cond (nat_lt formula (length terms) && all_there (length terms) sets)
    (then (all_taken terms sets (parts terms formula) (up_to terms formula) begun) (λ w. Ok (answer formula w)))
    (Err NoSuchTerm)

-- The tree of the number, in the given terms followed by the scratch, is the precondition of the formula's tree.
abbrev pub IsPrecondition : List Term → List Assignment → ℕ → Answer → Type 0
IsPrecondition terms sets formula a =
    tree_at (trees (terms ++ a.scratch)) a.result ≡ firing.precondition (rule terms 0 sets) (tree_at (trees terms) formula)

-- What a call came to is what the definition says. For want of memory nothing is said.
abbrev pub Came : {A V : Type 0} → (A → V) → Result A (Failure Refusal) → Result V Refusal → Type 0
Came = Answered
