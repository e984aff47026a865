-- Lines that are written one after another are taken one after another, each adding what it says.
use Rattle.std.proofs.Common.{◌≡◌, ℕ, suc, ◌+◌, ◌<◌, ◌≤◌, true, List, [], ◌∷◌, ◌++◌, map, length, get_or, Ok, Err, Result, sym, refl, ap, ◌∙◌, subst, arith}
use Rattle.std.proofs.ByRecursion.{All-from_get_or}
use Rattle.std.proofs.lemmas.List.{map-append}
use Rattle.std.proofs.lemmas.Bool.{cond-true}
use Rattle.std.specs.List.{AllByRecursion}
use Rattle.text.specs.Faults.{fault}
use Rattle.text.specs.declared.faults.LineFault.{LineFault}
use Rattle.text.specs.declared.faults.Wrong.TheVariants as wrong
use Rattle.words.specs.Repeats.{start}
use Rattle.words.specs.Words.{WordV, bind, words_left}
use Rattle.words.specs.declared.Number.{Number}
use Rattle.keys.specs.declared.Key.{Key}
use Rattle.line.specs.Forms.{FormV}
use Rattle.line.specs.Lines.{LineV}
use Rattle.line.specs.Lines as line
use Rattle.line.specs.Reading.{read, recognised}
use Rattle.line.specs.Rows.{row_of, may_follow}
use Rattle.line.specs.declared.lines.File.TheVariants as file
use Rattle.writing.proofs.Kept.{every_line_can_be_kept}
use Rattle.writing.proofs.Oks.{go_on}
use Rattle.writing.specs.Forms.{form_said}
use Rattle.writing.specs.Said.{Said, key_said, said, texts}
use Rattle.writing.specs.Said as says
use Rattle.writing.specs.Sound.{Sound}
use Rattle.writing.specs.Written.{spaced, words_said, written_line}
use Rattle.reading.proofs.Laws.{Leads, leads_on}
use Rattle.protocol.specs.Reading.{Draft, taken, line_taken as line_adds}
use Rattle.protocol.specs.Records.{ProtocolV}
use Rattle.protocol.proofs.LawWhole.{at_row}

-- What a line says turns one protocol into another, wherever its words stand.
abbrev pub Turns : Said → ProtocolV → ProtocolV → Type 0
Turns (says.Protocol name) p q = (w : WordV) → w.bytes ≡ name → line_adds (line.Protocol w) p ≡ Ok q
Turns (says.«Type» name values) p q = (w vs : WordV) → w.bytes ≡ name → texts (words_left (start vs.bytes)) ≡ values → line_adds (line.«Type» w vs) p ≡ Ok q
Turns (says.Var name of) p q = (w o : WordV) → w.bytes ≡ name → o.bytes ≡ of → line_adds (line.Var w o) p ≡ Ok q
Turns (says.Term form) p q = (f : FormV) → form_said f ≡ form → line_adds (line.Term f) p ≡ Ok q
Turns (says.Init formula) p q = (n : Number) → n.value ≡ formula → line_adds (line.Init n) p ≡ Ok q
Turns (says.Rule name guard) p q = (w : WordV) (n : Number) → w.bytes ≡ name → n.value ≡ guard → line_adds (line.Rule w n) p ≡ Ok q
Turns (says.Set variable term) p q = (w : WordV) (n : Number) → w.bytes ≡ variable → n.value ≡ term → line_adds (line.Set w n) p ≡ Ok q
Turns says.End p q = line_adds line.End p ≡ Ok q
Turns (says.Proposal name) p q = ⊥
Turns (says.Inv name formula) p q = ⊥
Turns (says.Cause rule invariant kind) p q = ⊥

turned : (l : LineV) (p q : ProtocolV) → Turns (said l) p q → line_adds l p ≡ Ok q
turned (line.Protocol w) p q turns = turns w refl
turned (line.«Type» w vs) p q turns = turns w vs refl refl
turned (line.Var w o) p q turns = turns w o refl refl
turned (line.Term f) p q turns = turns f refl
turned (line.Init n) p q turns = turns n refl
turned (line.Rule w n) p q turns = turns w n refl refl
turned (line.Set w n) p q turns = turns w n refl refl
turned line.End p q turns = turns
turned (line.Proposal w) p q turns = absurd turns
turned (line.Inv w n) p q turns = absurd turns
turned (line.Cause r v k) p q turns = absurd turns

-- A line of this key that may be written, and turns one protocol into another.
pub record Adds (k : Key) (s : Said) (p q : ProtocolV) : Type 0 where
  pub kind : key_said s ≡ k
  pub sound : Sound file.Protocol s
  pub turns : Turns s p q

abbrev pub text_of : Said → List ℕ
text_of s = written_line file.Protocol s

abbrev pub step : Draft → ℕ → List ℕ → Result Draft LineFault
step draft number line = taken draft line

-- It is taken where its key may stand.
pub line_taken : (k : Key) (s : Said) (p q : ProtocolV) (row : ℕ) → Adds k s p q → may_follow file.Protocol row k ≡ true → taken (at_row row p) (text_of s) ≡ Ok (at_row (row_of file.Protocol k) q)
line_taken k s p q row adds may =
    let again = every_line_can_be_kept file.Protocol s adds.sound in
    let l = again.1.0 in
    let rest = spaced (words_said file.Protocol s) in
    let made : line_adds l p ≡ Ok q = turned l p q (subst (λ t. Turns t p q) (sym again.1.2) adds.turns) in
    let here : may_follow file.Protocol row (key_said s) ≡ true = subst (λ j. may_follow file.Protocol row j ≡ true) (sym adds.kind) may in
    let put : Key → ProtocolV → Result Draft LineFault = λ j m. Ok (at_row (row_of file.Protocol j) m) in
    let words = λ (r : Result LineV LineFault). bind r (λ l. bind (line_adds l p) (put (key_said s))) in
    go_on (recognised file.Protocol (text_of s)) _ (key_said s, rest) again.0
    ∙ cond-true (may_follow file.Protocol row (key_said s)) (words (read file.Protocol (key_said s) rest)) (Err (fault wrong.Key 1)) here
    ∙ ap words again.1.1
    ∙ go_on (line_adds l p) (put (key_said s)) q made
    ∙ ap (λ j. put j q) adds.kind

-- Lines that lead from one half of a file to another, whatever the number of the first.
abbrev pub Reaches : Draft → List Said → Draft → Type 0
Reaches a ss b = (number : ℕ) → Leads step a number (map text_of ss) b

pub reaches_on : (a b c : Draft) (ss more : List Said) → Reaches a ss b → Reaches b more c → Reaches a (ss ++ more) c
reaches_on a b c ss more first then number =
    subst (λ lines. Leads step a number lines c) (sym (map-append text_of ss more))
    (leads_on step a b c number (map text_of ss) (map text_of more) (first number) (then (number + length (map text_of ss))))

-- the row after lines of this key
abbrev pub row_behind : Key → ℕ → List Said → ℕ
row_behind k row [] = row
row_behind k row (s ∷ ss) = row_of file.Protocol k

pub row_behind_some : (k : Key) (row : ℕ) (ss : List Said) → 1 ≤ length ss → row_behind k row ss ≡ row_of file.Protocol k
row_behind_some k row [] some = absurd (omega arith)
row_behind_some k row (s ∷ ss) some = refl

pub row_stays : (k : Key) (ss : List Said) → row_behind k (row_of file.Protocol k) ss ≡ row_of file.Protocol k
row_stays k [] = refl
row_stays k (s ∷ ss) = refl

-- Lines of one key, each of which turns what the lines before it made into what comes next.
pub climbs : (k : Key) → may_follow file.Protocol (row_of file.Protocol k) k ≡ true → (at : ℕ → ProtocolV) (ss : List Said) (row : ℕ) → may_follow file.Protocol row k ≡ true → ((i : ℕ) → i < length ss → Adds k (get_or ss i says.End) (at i) (at (suc i)))
    → Reaches (at_row row (at 0)) ss (at_row (row_behind k row ss) (at (length ss)))
climbs k again at [] row may each number = refl
climbs k again at (s ∷ ss) row may each number = (
  at_row (row_of file.Protocol k) (at 1),
  line_taken k s (at 0) (at 1) row (each 0 (omega arith)) may,
  subst (λ r. Leads step (at_row (row_of file.Protocol k) (at 1)) (number + 1) (map text_of ss) (at_row r (at (suc (length ss))))) (row_stays k ss)
      (climbs k again (λ i. at (suc i)) ss (row_of file.Protocol k) again (λ i inside. each (suc i) (omega arith)) (number + 1)),
)

-- All of them may be written.
pub all_sound : (k : Key) (at : ℕ → ProtocolV) (ss : List Said) → ((i : ℕ) → i < length ss → Adds k (get_or ss i says.End) (at i) (at (suc i))) → AllByRecursion (Sound file.Protocol) ss
all_sound k at ss each = All-from_get_or (Sound file.Protocol) ss says.End (λ i inside. (each i inside).sound)
