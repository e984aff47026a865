-- A term by the names and numbers that it is written with.
use Rattle.std.specs.Prelude.{[], slice_index_or}
use Rattle.terms.specs.declared.Term.{Term}
use Rattle.terms.specs.declared.Term.TheVariants as term
use Rattle.writing.specs.Forms.{FormSaid, Var, Val, True, False, Eq, Not, And, Or, Imp, Ite}
use Rattle.tables.specs.Records.{TypesV, VariablesV}

-- A variable by its name, a value by its type's name and its own; earlier terms stay numbers.
abbrev pub form_of : TypesV → VariablesV → Term → FormSaid
form_of types variables (term.Var v) = Var (slice_index_or variables.names v [])
form_of types variables (term.Val of value) = Val (slice_index_or types.names of []) (slice_index_or (slice_index_or types.values of []) value [])
form_of types variables term.True = True
form_of types variables term.False = False
form_of types variables (term.Eq a b) = Eq a b
form_of types variables (term.Not a) = Not a
form_of types variables (term.And a b) = And a b
form_of types variables (term.Or a b) = Or a b
form_of types variables (term.Imp a b) = Imp a b
form_of types variables (term.Ite f a b) = Ite f a b
