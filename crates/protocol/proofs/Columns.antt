-- The values of a `type` line end where its line does.
use Rattle.std.proofs.Common.{◌≡◌, ℕ, ◌+◌, ◌^◌, ◌<◌, ◌≤◌, List, ◌++◌, length, drop, Some, None, Ok, codes, Option, sym, refl, ap, subst, arith, length-append, length-drop}
use Rattle.std.proofs.lemmas.Bool.{ltb-false, cond_both}
use Rattle.keys.proofs.KeyLaws.{keyed}
use Rattle.keys.specs.Keys.{word, key_of, every_key}
use Rattle.text.specs.Faults.{fault}
use Rattle.text.specs.declared.faults.Wrong.TheVariants as wrong
use Rattle.words.specs.Words.{WordV, Place, first_place, next, over, column, column_behind, word_length, name_at, rest_at, words_left, all_names}
use Rattle.keys.specs.declared.Key.{Key}
use Rattle.keys.specs.declared.Key.TheVariants as key
use Rattle.line.specs.Following.{following}
use Rattle.line.specs.Rows.{may_follow}
use Rattle.line.specs.Lines.{LineV, belongs}
use Rattle.line.specs.Lines as line
use Rattle.line.specs.Reading.{read, recognised, known_in}
use Rattle.line.specs.declared.lines.File.TheVariants as file
use Rattle.tables.proofs.Answered.{bind_ok, first_ok, second_ok, same_ok}
use Rattle.tables.proofs.LineLaws.{line_key}
use Rattle.protocol.specs.Ready.{WithinALine}

next_text : (p : Place) → (next p).text ≡ p.text
next_text p = cond_both (over p) p (record { text = p.text; before = p.before; at = p.at + word_length p + 1 }) (λ q. q.text ≡ p.text) (λ _. refl) (λ _. refl)

next_before : (p : Place) → (next p).before ≡ p.before
next_before p = cond_both (over p) p (record { text = p.text; before = p.before; at = p.at + word_length p + 1 }) (λ q. q.before ≡ p.before) (λ _. refl) (λ _. refl)

rest_ends : (p : Place) (w : WordV) → rest_at p ≡ Ok w → w.column + length w.bytes ≤ p.before + length p.text + 1
rest_ends p w is =
    let found = second_ok (over p) (Ok (record { bytes = drop p.at p.text; column = column p })) (fault wrong.Word (column_behind p)) w is in
    let inside : p.at ≤ length p.text = ltb-false (length p.text) p.at found.0 in
    let same = same_ok _ w found.1 in
    let column : column p ≡ w.column = ap (λ v. v.column) same in
    let bytes : length (drop p.at p.text) ≡ length w.bytes = ap (λ (v : WordV). length v.bytes) same in
    omega (arith, length-drop p.at p.text)

type_ends : (rest : List ℕ) (name values : WordV) → read file.Protocol key.«Type» rest ≡ Ok (line.«Type» name values) → values.column + length values.bytes ≤ length rest + 6
type_ends rest name values is =
    let p = first_place key.«Type» rest in
    let l = line.«Type» name values in
    let named = bind_ok (name_at p) _ l is in
    let left = bind_ok (rest_at (next p)) _ l named.2 in
    let first = bind_ok (name_at (next p)) _ l left.2 in
    let second = bind_ok (name_at (next (next p))) _ l first.2 in
    let others = bind_ok (all_names (words_left (next (next (next p))))) _ l second.2 in
    let made : line.«Type» named.0 left.0 ≡ l = same_ok _ l others.2 in
    let same : left.0 ≡ values = cc in
    let found = subst (λ w. w.column + length w.bytes ≤ (next p).before + length (next p).text + 1) same (rest_ends (next p) left.0 left.1) in
    let text = ap length (next_text p) in
    let before = next_before p in
    omega arith

-- the key that is known is the key that was found
known : (o : Option (Key × List ℕ)) (found : Key × List ℕ) → known_in file.Protocol o ≡ Ok found → o ≡ Some found
known None found is = absurd (let z : ◌≡◌ {A = ℕ} 0 1 = cc in omega arith)
known (Some p) found is = ap Some (same_ok p found (first_ok (belongs file.Protocol p.0) (Ok p) (fault wrong.Key 1) found is).1)

-- What follows a key is no longer than the line.
pub rest_shorter : (bytes rest : List ℕ) (k : Key) → recognised file.Protocol bytes ≡ Ok (k, rest) → length rest ≤ length bytes
rest_shorter bytes rest k is =
    let whole = keyed every_key bytes k rest (known (key_of bytes) (k, rest) is) in
    omega (arith, ap length whole, length-append (word k ++ codes "=") rest)

-- A line that was read from what memory holds ends within it.
pub within_a_line : (k : Key) (rest : List ℕ) (l : LineV) → length rest < 2 ^ 63 → read file.Protocol k rest ≡ Ok l → WithinALine l
within_a_line k rest (line.Protocol name) short is = tt
within_a_line k rest (line.«Type» name values) short is =
    let same : key.«Type» ≡ k = line_key file.Protocol k (first_place k rest) (line.«Type» name values) is in
    let ends = type_ends rest name values (subst (λ j. read file.Protocol j rest ≡ Ok (line.«Type» name values)) (sym same) is) in
    omega arith
within_a_line k rest (line.Var name of) short is = tt
within_a_line k rest (line.Term form) short is = tt
within_a_line k rest (line.Init formula) short is = tt
within_a_line k rest (line.Rule name guard) short is = tt
within_a_line k rest (line.Set variable term) short is = tt
within_a_line k rest line.End short is = tt
within_a_line k rest (line.Proposal name) short is = tt
within_a_line k rest (line.Inv name formula) short is = tt
within_a_line k rest (line.Cause rule invariant kind) short is = tt

-- so does the next line of a file that memory can hold
pub following_within : (last row : ℕ) (bytes : List ℕ) (l : LineV) → length bytes < 2 ^ 63 → following file.Protocol last bytes ≡ Ok (row, l) → WithinALine l
following_within last row bytes l short is =
    let found = bind_ok (recognised file.Protocol bytes) _ (row, l) is in
    let here = first_ok (may_follow file.Protocol last found.0.0) _ (fault wrong.Key 1) (row, l) found.2 in
    let words = bind_ok (read file.Protocol found.0.0 found.0.1) _ (row, l) here.1 in
    let shorter = rest_shorter bytes found.0.1 found.0.0 found.1 in
    subst WithinALine (ap (λ (p : ℕ × LineV). p.1) (same_ok _ (row, l) words.2)) (within_a_line found.0.0 found.0.1 words.0 (omega arith) words.1)
