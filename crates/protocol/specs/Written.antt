-- The text of a protocol's file, from its record.
use Rattle.std.specs.Prelude.{ℕ, List, [], ◌∷◌, ◌++◌, map, slice_index_or}
use Rattle.std.specs.List.{flat_map}
use Rattle.terms.specs.declared.Assignment.{Assignment}
use Rattle.line.specs.declared.lines.File.TheVariants as file
use Rattle.writing.specs.Said.{Said, Protocol, «Type», Var, Term, Init, Rule, Set, End}
use Rattle.writing.specs.Written.{written_lines}
use Rattle.rules.specs.Records.{RuleV}
use Rattle.tables.specs.Records.{TypesV, VariablesV, TermsV}
use Rattle.tables.specs.Written.{form_of}
use Rattle.protocol.specs.Records.{ProtocolV}

-- One of each two that stand at the same place.
abbrev pub paired : {A B C : Type 0} → (A → B → C) → List A → List B → List C
paired f [] ys = []
paired f (x ∷ xs) [] = []
paired f (x ∷ xs) (y ∷ ys) = f x y ∷ paired f xs ys

-- Each type with its values, and each variable with its type's name.
abbrev pub type_lines : TypesV → List Said
type_lines t = paired «Type» t.names t.values

abbrev pub variable_lines : TypesV → VariablesV → List Said
variable_lines t v = paired (λ name kind. Var name (slice_index_or t.names kind [])) v.names v.kinds

-- Each term, and each initial formula.
abbrev pub term_lines : TypesV → VariablesV → TermsV → List Said
term_lines t v s = map (λ term. Term (form_of t v term)) s.terms

abbrev pub initial_lines : List ℕ → List Said
initial_lines initial = map Init initial

-- Each rule, followed by its assignments.
abbrev pub set_line : VariablesV → Assignment → Said
set_line v a = Set (slice_index_or v.names a.variable []) a.term

abbrev pub rule_lines : VariablesV → List RuleV → List Said
rule_lines v rules = flat_map (λ r. Rule r.name r.guard ∷ map (set_line v) r.sets) rules

-- The lines of a protocol: its name, and then each row in turn.
abbrev pub lines_before_end : ProtocolV → List Said
lines_before_end p =
    (Protocol p.name ∷ [])
    ++ type_lines p.types
    ++ variable_lines p.types p.variables
    ++ term_lines p.types p.variables p.terms
    ++ initial_lines p.initial
    ++ rule_lines p.variables p.rules

abbrev pub lines_of : ProtocolV → List Said
lines_of p = lines_before_end p ++ End ∷ []

-- The text of its file.
abbrev pub written : ProtocolV → List ℕ
written p = written_lines file.Protocol (lines_of p)
