-- The tests that lines of both files have, and what a `term` line adds. Each kind of line has its tests in the order of
-- their numbers, and of one number from the left: the first that applies is the line's fault.
use Rattle.std.specs.Prelude.{ℕ, Bool, cond, not, List, [], ◌∷◌, ◌++◌, length, is_some, Ok, Err, Result, nat_le, slice_index, slice_index_or}
use Rattle.std.specs.Option.{unwrap_or}
use Rattle.names.specs.Names.{place_in}
use Rattle.terms.specs.Sorts.{missing_term, sort_of_number, sort_is_value}
use Rattle.terms.specs.Sorts as sorts
use Rattle.terms.specs.declared.Sort.{Sort}
use Rattle.terms.specs.declared.Term.{Term}
use Rattle.terms.specs.declared.Term.TheVariants as term
use Rattle.terms.specs.declared.TermFault.{TermFault}
use Rattle.terms.specs.declared.TermFault.TheVariants as because
use Rattle.text.specs.Faults.{fault}
use Rattle.text.specs.declared.faults.LineFault.{LineFault}
use Rattle.text.specs.declared.faults.Wrong.TheVariants as wrong
use Rattle.words.specs.Repeats.{start}
use Rattle.words.specs.Words.{WordV, bind, words_left}
use Rattle.words.specs.declared.Number.{Number}
use Rattle.line.specs.Forms.{FormV}
use Rattle.line.specs.Forms as form
use Rattle.tables.specs.Records.{TypesV, VariablesV, TermsV}

-- A test and the fault that it tells of.
abbrev pub Tests : Type 0
Tests = List (Bool × LineFault)

-- The answer, unless a test applies: then the fault of the first that does.
abbrev pub unless : {A : Type 0} → Tests → A → Result A LineFault
unless [] answer = Ok answer
unless (test ∷ tests) answer = cond test.0 (Err test.1) (unless tests answer)

-- The name is used already; the name is of nothing that is declared.
abbrev pub used : List (List ℕ) → WordV → Bool × LineFault
used names w = (is_some (place_in names w.bytes), fault wrong.Used w.column)

abbrev pub unknown : List (List ℕ) → WordV → Bool × LineFault
unknown names w = (not (is_some (place_in names w.bytes)), fault wrong.Unknown w.column)

-- Its number where it is declared.
abbrev pub number_in : List (List ℕ) → WordV → ℕ
number_in names w = unwrap_or (place_in names w.bytes) 0

-- No term has the number; the term is no formula.
abbrev pub no_such : List Sort → Number → Bool × LineFault
no_such terms n = (missing_term terms n.value, fault wrong.NoSuch n.column)

abbrev pub no_formula : List Sort → Number → Bool × LineFault
no_formula terms n = (sort_is_value (sort_of_number terms n.value), fault wrong.WrongSort n.column)

-- So many stand already as may stand.
abbrev pub full : {A : Type 0} → ℕ → List A → Bool × LineFault
full most rows = (nat_le most (length rows), fault wrong.TooMany 1)

-- The names of a type's values, which stand together in one word with spaces.
abbrev pub value_words : WordV → List WordV
value_words values = words_left (start values.bytes)

-- A number that has to be a formula's.
abbrev pub formula_tests : List Sort → Number → Tests
formula_tests terms n = no_such terms n ∷ no_formula terms n ∷ []

-- The term that a form is, by numbers; or the fault at a name of nothing.
abbrev pub named_term : TypesV → VariablesV → FormV → Result Term LineFault
named_term types variables (form.Var name) = unless (unknown variables.names name ∷ []) (term.Var (number_in variables.names name))
named_term types variables (form.Val of value) =
    let names = slice_index_or types.values (number_in types.names of) [] in
    unless (unknown types.names of ∷ unknown names value ∷ []) (term.Val (number_in types.names of) (number_in names value))
named_term types variables form.True = Ok term.True
named_term types variables form.False = Ok term.False
named_term types variables (form.Eq a b) = Ok (term.Eq a.value b.value)
named_term types variables (form.Not a) = Ok (term.Not a.value)
named_term types variables (form.And a b) = Ok (term.And a.value b.value)
named_term types variables (form.Or a b) = Ok (term.Or a.value b.value)
named_term types variables (form.Imp a b) = Ok (term.Imp a.value b.value)
named_term types variables (form.Ite f a b) = Ok (term.Ite f.value a.value b.value)

-- The column of each number in a form.
abbrev pub columns : FormV → List ℕ
columns (form.Var name) = []
columns (form.Val of value) = []
columns form.True = []
columns form.False = []
columns (form.Eq a b) = a.column ∷ b.column ∷ []
columns (form.Not a) = a.column ∷ []
columns (form.And a b) = a.column ∷ b.column ∷ []
columns (form.Or a b) = a.column ∷ b.column ∷ []
columns (form.Imp a b) = a.column ∷ b.column ∷ []
columns (form.Ite f a b) = f.column ∷ a.column ∷ b.column ∷ []

-- A term's fault at the column of the argument.
abbrev pub at_argument : {A : Type 0} → List ℕ → Result A TermFault → Result A LineFault
at_argument columns (Ok x) = Ok x
at_argument columns (Err (because.NoSuch argument)) = Err (fault wrong.NoSuch (slice_index columns argument))
at_argument columns (Err (because.WrongSort argument)) = Err (fault wrong.WrongSort (slice_index columns argument))

-- `term=..`: a name of nothing, then the numbers and sorts of its arguments, then at most 512 terms. The term and its sort:
abbrev pub new_term : TypesV → VariablesV → FormV → TermsV → Result (Term × Sort) LineFault
new_term types variables f s =
    bind (named_term types variables f) (λ t.
    bind (at_argument (columns f) (sorts.sort (record { types = types.sizes; variables = variables.kinds }) s.sorts t)) (λ sort.
    unless (full 512 s.terms ∷ []) (t, sort)))

abbrev pub term_taken : TypesV → VariablesV → FormV → TermsV → Result TermsV LineFault
term_taken types variables f s =
    bind (new_term types variables f s) (λ p. Ok (record { terms = s.terms ++ p.0 ∷ []; sorts = s.sorts ++ p.1 ∷ [] }))
