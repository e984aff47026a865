-- Reading a protocol file: what each line adds, in its turn, and the record that is left at the end.
use Rattle.std.specs.Prelude.{ℕ, Bool, cond, List, [], ◌∷◌, length, Ok, Err, Result, ◌==◌, nat_lt}
use Rattle.std.specs.Result.{result_map_both}
use Rattle.text.specs.Faults.{fault}
use Rattle.text.specs.declared.faults.FileFault.{FileFault}
use Rattle.text.specs.declared.faults.LineFault.{LineFault}
use Rattle.text.specs.declared.faults.Wrong.TheVariants as wrong
use Rattle.words.specs.Words.{WordV, bind}
use Rattle.line.specs.Lines.{LineV}
use Rattle.line.specs.Lines as line
use Rattle.line.specs.Reading.{read, recognised}
use Rattle.line.specs.Rows.{row_of, last_row, may_follow}
use Rattle.line.specs.declared.lines.File.TheVariants as file
use Rattle.reading.specs.Files.{read_through}
use Rattle.rules.specs.Records.{RuleV}
use Rattle.rules.specs.Taking.{rule_taken, assignment_taken}
use Rattle.tables.specs.Records.{TypesV, VariablesV, TermsV}
use Rattle.tables.specs.Taking.{unless, term_taken}
use Rattle.protocol.specs.Records.{ProtocolV, empty}
use Rattle.protocol.specs.Taking.{type_taken, variable_taken, initial_taken}

-- The protocol with one part changed.
abbrev pub with_name : ProtocolV → List ℕ → ProtocolV
with_name p name = record { name = name; types = p.types; variables = p.variables; terms = p.terms; initial = p.initial; rules = p.rules }

abbrev pub with_types : ProtocolV → TypesV → ProtocolV
with_types p types = record { name = p.name; types = types; variables = p.variables; terms = p.terms; initial = p.initial; rules = p.rules }

abbrev pub with_variables : ProtocolV → VariablesV → ProtocolV
with_variables p variables = record { name = p.name; types = p.types; variables = variables; terms = p.terms; initial = p.initial; rules = p.rules }

abbrev pub with_terms : ProtocolV → TermsV → ProtocolV
with_terms p terms = record { name = p.name; types = p.types; variables = p.variables; terms = terms; initial = p.initial; rules = p.rules }

abbrev pub with_initial : ProtocolV → List ℕ → ProtocolV
with_initial p initial = record { name = p.name; types = p.types; variables = p.variables; terms = p.terms; initial = initial; rules = p.rules }

abbrev pub with_rules : ProtocolV → List RuleV → ProtocolV
with_rules p rules = record { name = p.name; types = p.types; variables = p.variables; terms = p.terms; initial = p.initial; rules = rules }

-- `protocol=NAME`: a second one is one too many.
abbrev pub name_taken : WordV → List ℕ → Result (List ℕ) LineFault
name_taken name before = unless ((nat_lt 0 (length before), fault wrong.TooMany 1) ∷ []) name.bytes

-- What a line adds to a protocol, or its fault. Lines of the other file have no place here.
abbrev pub line_taken : LineV → ProtocolV → Result ProtocolV LineFault
line_taken (line.Protocol name) p = bind (name_taken name p.name) (λ made. Ok (with_name p made))
line_taken (line.«Type» name values) p = bind (type_taken name values p.types) (λ made. Ok (with_types p made))
line_taken (line.Var name of) p = bind (variable_taken p.types name of p.variables) (λ made. Ok (with_variables p made))
line_taken (line.Term form) p = bind (term_taken p.types p.variables form p.terms) (λ made. Ok (with_terms p made))
line_taken (line.Init formula) p = bind (initial_taken p.terms formula p.initial) (λ made. Ok (with_initial p made))
line_taken (line.Rule name guard) p = bind (rule_taken p.terms name guard p.rules) (λ made. Ok (with_rules p made))
line_taken (line.Set variable term) p = bind (assignment_taken p.variables p.terms variable term p.rules) (λ made. Ok (with_rules p made))
line_taken line.End p = Ok p
line_taken (line.Proposal name) p = Err (fault wrong.Key 1)
line_taken (line.Inv name formula) p = Err (fault wrong.Key 1)
line_taken (line.Cause rule invariant kind) p = Err (fault wrong.Key 1)

-- Half a file: the row of the last line, and what the lines made so far.
pub record Draft : Type 0 where
  pub row : ℕ
  pub made : ProtocolV

-- What is made of a line: its key has to be the file's and may stand here; then its words; then what it adds.
abbrev pub taken : Draft → List ℕ → Result Draft LineFault
taken draft bytes =
    bind (recognised file.Protocol bytes) (λ p.
    cond (may_follow file.Protocol draft.row p.0)
    (bind (read file.Protocol p.0 p.1) (λ l.
    bind (line_taken l draft.made) (λ made.
    Ok (record { row = row_of file.Protocol p.0; made = made }))))
    (Err (fault wrong.Key 1)))

-- Before the first line, and after the last.
abbrev pub begun : Draft
begun = record { row = 0; made = empty }

abbrev pub ended : Draft → Bool
ended draft = draft.row == last_row file.Protocol

-- The protocol that a file says, or the file's fault: what its lines made, one after the other.
abbrev pub protocol_of : List ℕ → Result ProtocolV FileFault
protocol_of text = result_map_both (λ draft. draft.made) (λ fault. fault) (read_through (λ draft number line. taken draft line) ended begun text)
