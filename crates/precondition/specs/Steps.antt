-- What the steps of the program come to, said without trees.
use Rattle.std.specs.Prelude.{◌≡◌, ℕ, ◌<◌, ◌≤◌, cond, List, [], ◌∷◌, length, Some, None, vec_items, Option, Result, ◌==◌, ◌≢◌, slice_index, slice_index_or}
use Rattle.terms.specs.declared.Assignment.{Assignment}
use Rattle.terms.specs.declared.Term.{Term}
use Rattle.terms.specs.declared.Term.TheVariants.{Var, Val, True, False, Eq, Not, And, Or, Imp, Ite}
use Rattle.precondition.specs.Tables.{renamed}
use Rattle.precondition.specs.Writing.{Work}
use Rattle.precondition.specs.declared.answers.Draft.{Draft}
use Rattle.failures.specs.Answers.{Came}
use Rattle.failures.specs.declared.Failure.{Failure}
use Rattle.precondition.specs.declared.faults.Refusal.{Refusal}

-- The term of a number.
abbrev pub term_at : List Term → ℕ → Term
term_at terms n = slice_index_or terms n (Var 0)

-- The first place of a term among terms, or the place at their end.
pub record First (terms : List Term) (term : Term) (n : ℕ) : Type 0 where
  pub within : n ≤ length terms
  pub there : n < length terms → term_at terms n ≡ term
  pub before : (k : ℕ) → k < n → term_at terms k ≢ term

-- The number of the term that a variable is set to: of several assignments, of the first.
abbrev pub assigned_term : List Assignment → ℕ → Option ℕ
assigned_term [] v = None
assigned_term (a ∷ sets) v = cond (a.variable == v) (Some a.term) (assigned_term sets v)

-- The number of the term that a term is replaced by, if it is a variable that is set.
abbrev pub replaced_by : List Assignment → Term → Option ℕ
replaced_by sets (Var v) = assigned_term sets v
replaced_by sets (Val of k) = None
replaced_by sets True = None
replaced_by sets False = None
replaced_by sets (Eq a b) = None
replaced_by sets (Not a) = None
replaced_by sets (And a b) = None
replaced_by sets (Or a b) = None
replaced_by sets (Imp a b) = None
replaced_by sets (Ite f a b) = None

-- The result of a term: the lowest copy of what replaces it; or else the first place of the term with each argument by its
-- result, among terms with each argument by its lowest copy.
abbrev pub Numbered : List ℕ → List Term → List ℕ → Term → Option ℕ → ℕ → Type 0
Numbered lowest names results term (Some n) r = r ≡ slice_index lowest n
Numbered lowest names results term None r = First names (renamed (λ a. slice_index results a) term) r

-- What the program has written so far.
abbrev pub work_seen : Draft → Work
work_seen d = record { results = vec_items d.results; scratch = vec_items d.scratch }

-- A call that writes came to what the definition says: the work as it left it, or the refusal. For want of memory nothing is
-- said.
abbrev pub Went : Result (Unit {0}) (Failure Refusal) → Work → Result Work Refusal → Type 0
Went = Came
