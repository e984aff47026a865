-- A line that was read has the key that was asked for, and the names in it are names.
use Rattle.std.proofs.Common.{◌≡◌, ℕ, zero, suc, ◌+◌, ◌<◌, ◌≤◌, Bool, true, false, cond, eqb, ltb, List, [], ◌∷◌, map, length, get_or, drop, Ok, Err, Result, sym, refl, ap, ◌∙◌, subst, arith}
use Rattle.std.proofs.lemmas.List.{length-map}
use Rattle.std.proofs.lemmas.Bool.{ltb-false, le-ltb, cond-false}
use Rattle.std.specs.Str.{bytes_eq}
use Rattle.words.proofs.Splits.{words_left_more, names_more}
use Rattle.text.specs.Faults.{fault}
use Rattle.words.specs.Repeats.{start}
use Rattle.words.specs.Words.{WordV, Place, first_place, is_name, next, over, column, column_behind, word, lengthened, words, words_left, bind, word_at, name_at, number_at, nothing_at, rest_at, all_names}
use Rattle.text.specs.declared.faults.LineFault.{LineFault}
use Rattle.text.specs.declared.faults.Wrong.TheVariants as wrong
use Rattle.keys.specs.declared.Key.{Key}
use Rattle.keys.specs.declared.Key.TheVariants as key
use Rattle.words.specs.declared.Number.{Number}
use Rattle.line.specs.Lines.{LineV, key_of_line, ending}
use Rattle.line.specs.Lines as line
use Rattle.line.specs.Reading.{read, line_at, last, one_name, two_names, one_number, name_and_number, form_at, kind_at, type_at, end_at, cause_at}
use Rattle.line.specs.declared.lines.File.{File}
use Rattle.tables.specs.Taking.{value_words}
use Rattle.tables.proofs.Answered.{bind_ok, first_ok, second_ok, same_ok}

-- a line that is read has the key that was asked for
abbrev Has : Key → Result LineV LineFault → Type 0
Has k r = (l : LineV) → r ≡ Ok l → key_of_line l ≡ k

has_then : {A : Type 0} (k : Key) (r : Result A LineFault) (f : A → Result LineV LineFault) → ((a : A) → Has k (f a)) → Has k (bind r f)
has_then k (Ok a) f has = has a
has_then k (Err e) f has = λ l is. absurd (let z : ◌≡◌ {A = ℕ} 0 1 = cc in omega arith)

has_line : (made : LineV) → Has (key_of_line made) (Ok made)
has_line made l is = ap key_of_line (sym (same_ok made l is))

has_end : (file : File) (p : Place) → Has key.End (end_at file p)
has_end file p =
    has_then key.End (word_at p) (λ w. cond (bytes_eq w.bytes (ending file)) (last (next p) line.End) (Err (fault wrong.Word w.column)))
    (λ w l is. has_then key.End (nothing_at (next p)) (λ _. Ok line.End) (λ _. has_line line.End) l
    (first_ok (bytes_eq w.bytes (ending file)) (last (next p) line.End) (fault wrong.Word w.column) l is).1)

has_type : (p : Place) → Has key.«Type» (type_at p)
has_type p =
    has_then key.«Type» (name_at p) _ (λ name.
    has_then key.«Type» (rest_at (next p)) _ (λ values.
    has_then key.«Type» (name_at (next p)) _ (λ _.
    has_then key.«Type» (name_at (next (next p))) _ (λ _.
    has_then key.«Type» (all_names (words_left (next (next (next p))))) _ (λ _.
    has_line (line.«Type» name values))))))

has_cause : (p : Place) → Has key.Cause (cause_at p)
has_cause p =
    has_then key.Cause (name_at p) _ (λ rule.
    has_then key.Cause (name_at (next p)) _ (λ invariant.
    has_then key.Cause (kind_at (next (next p))) _ (λ kind.
    has_line (line.Cause rule invariant kind))))

pub line_key : (file : File) (k : Key) (p : Place) → Has k (line_at file k p)
line_key file key.Protocol p = has_then key.Protocol (one_name p) _ (λ a. has_line (line.Protocol a))
line_key file key.«Type» p = has_type p
line_key file key.Var p = has_then key.Var (two_names p) _ (λ a. has_line (line.Var a.0 a.1))
line_key file key.Term p = has_then key.Term (form_at p) _ (λ a. has_line (line.Term a))
line_key file key.Init p = has_then key.Init (one_number p) _ (λ a. has_line (line.Init a))
line_key file key.Rule p = has_then key.Rule (name_and_number p) _ (λ a. has_line (line.Rule a.0 a.1))
line_key file key.Set p = has_then key.Set (name_and_number p) _ (λ a. has_line (line.Set a.0 a.1))
line_key file key.End p = has_end file p
line_key file key.Proposal p = has_then key.Proposal (one_name p) _ (λ a. has_line (line.Proposal a))
line_key file key.Inv p = has_then key.Inv (name_and_number p) _ (λ a. has_line (line.Inv a.0 a.1))
line_key file key.Cause p = has_cause p

-- The values that a `type` line was read with: at least two, all of them names.
pub record ValuesNamed (values : WordV) : Type 0 where
  pub two : 2 ≤ length (value_words values)
  pub each : (i : ℕ) → i < length (value_words values) → is_name (get_or (map (λ w. w.bytes) (value_words values)) i []) ≡ true

abbrev Named : WordV → Type 0
Named w = is_name w.bytes ≡ true

-- The names that a line declares are names.
abbrev pub LineNamed : LineV → Type 0
LineNamed (line.Protocol name) = is_name name.bytes ≡ true
LineNamed (line.«Type» name values) = (is_name name.bytes ≡ true) × ValuesNamed values
LineNamed (line.Var name of) = is_name name.bytes ≡ true
LineNamed (line.Term form) = Unit {0}
LineNamed (line.Init formula) = Unit {0}
LineNamed (line.Rule name guard) = is_name name.bytes ≡ true
LineNamed (line.Set variable term) = Unit {0}
LineNamed line.End = Unit {0}
LineNamed (line.Proposal name) = is_name name.bytes ≡ true
LineNamed (line.Inv name formula) = is_name name.bytes ≡ true
LineNamed (line.Cause rule invariant kind) = Unit {0}

-- a name that was read: words were left, and the next is one
name_left : (p : Place) (w : WordV) → name_at p ≡ Ok w → p.at ≤ length p.text
name_left p w is =
    let found = bind_ok (word_at p) _ w is in
    ltb-false (length p.text) p.at (second_ok (over p) (Ok (word p)) (fault wrong.Word (column_behind p)) found.0 found.1).0

name_is : (p : Place) (w : WordV) → name_at p ≡ Ok w → Named w
name_is p w is =
    let found = bind_ok (word_at p) _ w is in
    let good = first_ok (is_name found.0.bytes) (Ok found.0) (fault wrong.Word found.0.column) w found.2 in
    subst Named (same_ok found.0 w good.1) good.0

one_is : (p : Place) (w : WordV) → one_name p ≡ Ok w → Named w
one_is p w is =
    let first = bind_ok (name_at p) _ w is in
    let ends = bind_ok (nothing_at (next p)) _ w first.2 in
    subst Named (same_ok first.0 w ends.2) (name_is p first.0 first.1)

two_is : (p : Place) (w : WordV × WordV) → two_names p ≡ Ok w → Named w.0
two_is p w is =
    let first = bind_ok (name_at p) _ w is in
    let second = bind_ok (name_at (next p)) _ w first.2 in
    let ends = bind_ok (nothing_at (next (next p))) _ w second.2 in
    subst (λ v. Named v.0) (same_ok (first.0, second.0) w ends.2) (name_is p first.0 first.1)

with_number_is : (p : Place) (w : WordV × Number) → name_and_number p ≡ Ok w → Named w.0
with_number_is p w is =
    let first = bind_ok (name_at p) _ w is in
    let second = bind_ok (number_at (next p)) _ w first.2 in
    let ends = bind_ok (nothing_at (next (next p))) _ w second.2 in
    subst (λ v. Named v.0) (same_ok (first.0, second.0) w ends.2) (name_is p first.0 first.1)

abbrev spelled : List WordV → List (List ℕ)
spelled ws = map (λ w. w.bytes) ws

-- the bytes of words do not depend on where they stand
headed : ℕ → List (List ℕ) → List (List ℕ)
headed b [] = (b ∷ []) ∷ []
headed b (w ∷ ws) = (b ∷ w) ∷ ws

lengthened_spelled : (b c : ℕ) (ws : List WordV) → spelled (lengthened b c ws) ≡ headed b (spelled ws)
unfolding headed
lengthened_spelled b c [] = refl
lengthened_spelled b c (w ∷ ws) = refl

same_more : (space : Bool) (b c d : ℕ) (us vs : List WordV) → spelled us ≡ spelled vs
    → spelled (cond space (record { bytes = []; column = c } ∷ us) (lengthened b c us)) ≡ spelled (cond space (record { bytes = []; column = d } ∷ vs) (lengthened b d vs))
same_more true b c d us vs same = ap (λ l. [] ∷ l) same
same_more false b c d us vs same = lengthened_spelled b c us ∙ ap (headed b) same ∙ sym (lengthened_spelled b d vs)

same_spelled : (c d : ℕ) (xs : List ℕ) → spelled (words c xs) ≡ spelled (words d xs)
same_spelled c d [] = refl
same_spelled c d (b ∷ xs) = same_more (eqb b 32) b c d (words (c + 1) xs) (words (d + 1) xs) (same_spelled (c + 1) (d + 1) xs)

-- the words of a text that stands alone are those from the place that it was taken from
alone_spelled : (p : Place) → p.at ≤ length p.text → spelled (words_left (start (drop p.at p.text))) ≡ spelled (words_left p)
alone_spelled p more =
    let xs = drop p.at p.text in
    ap spelled (cond-false (ltb (length xs) 0) [] (words 1 xs) (le-ltb (length xs) 0 (omega arith)))
    ∙ same_spelled 1 (column p) xs
    ∙ ap spelled (sym (cond-false (over p) [] (words (column p) xs) (le-ltb (length p.text) p.at more)))

-- words that are all names
all_named : (ws : List WordV) (u : Unit {0}) → all_names ws ≡ Ok u → (i : ℕ) → i < length ws → is_name (get_or (spelled ws) i []) ≡ true
all_named [] u is i inside = absurd (omega arith)
all_named (w ∷ ws) u is zero inside = (first_ok (is_name w.bytes) (all_names ws) (fault wrong.Word w.column) u is).0
all_named (w ∷ ws) u is (suc i) inside = all_named ws u (first_ok (is_name w.bytes) (all_names ws) (fault wrong.Word w.column) u is).1 i (omega arith)

values_named : (p : Place) (values a b : WordV) (u : Unit {0}) → rest_at p ≡ Ok values → name_at p ≡ Ok a → name_at (next p) ≡ Ok b → all_names (words_left (next (next p))) ≡ Ok u → ValuesNamed values
values_named p values a b u rest first second others =
    let more = name_left p a first in
    let on = name_left (next p) b second in
    let left = words_left p in
    let there : drop p.at p.text ≡ values.bytes = ap (λ w. w.bytes) (same_ok _ values (second_ok (over p) _ (fault wrong.Word (column_behind p)) values rest).1) in
    let same : spelled (value_words values) ≡ spelled left = ap (λ xs. spelled (words_left (start xs))) (sym there) ∙ alone_spelled p more in
    let long : length (value_words values) ≡ length left = sym (length-map (value_words values) (λ w. w.bytes)) ∙ ap length same ∙ length-map left (λ w. w.bytes) in
    let good : all_names left ≡ Ok u = sym (names_more p (next p) refl more a (sym first)) ∙ sym (names_more (next p) (next (next p)) refl on b (sym second)) ∙ others in
    let some : left ≡ word p ∷ word (next p) ∷ words_left (next (next p)) = words_left_more p more ∙ ap (λ ws. word p ∷ ws) (words_left_more (next p) on) in
    record {
      two = omega (arith, long, ap length some);
      each = λ i inside. subst (λ row. is_name (get_or row i []) ≡ true) (sym same) (all_named left u good i (omega (arith, long)));
    }

type_named : (p : Place) (l : LineV) → type_at p ≡ Ok l → LineNamed l
type_named p l is =
    let named = bind_ok (name_at p) _ l is in
    let left = bind_ok (rest_at (next p)) _ l named.2 in
    let first = bind_ok (name_at (next p)) _ l left.2 in
    let second = bind_ok (name_at (next (next p))) _ l first.2 in
    let others = bind_ok (all_names (words_left (next (next (next p))))) _ l second.2 in
    subst LineNamed (same_ok (line.«Type» named.0 left.0) l others.2)
    (name_is p named.0 named.1, values_named (next p) left.0 first.0 second.0 others.0 left.1 first.1 second.1 others.1)

end_named : (file : File) (p : Place) (l : LineV) → end_at file p ≡ Ok l → LineNamed l
end_named file p l is =
    let found = bind_ok (word_at p) _ l is in
    let good = first_ok (bytes_eq found.0.bytes (ending file)) (last (next p) line.End) (fault wrong.Word found.0.column) l found.2 in
    let ends = bind_ok (nothing_at (next p)) _ l good.1 in
    subst LineNamed (same_ok line.End l ends.2) tt

cause_named : (p : Place) (l : LineV) → cause_at p ≡ Ok l → LineNamed l
cause_named p l is =
    let rule = bind_ok (name_at p) _ l is in
    let invariant = bind_ok (name_at (next p)) _ l rule.2 in
    let kind = bind_ok (kind_at (next (next p))) _ l invariant.2 in
    subst LineNamed (same_ok (line.Cause rule.0 invariant.0 kind.0) l kind.2) tt

-- what was read makes the line
made_named : {A : Type 0} (r : Result A LineFault) (make : A → LineV) (l : LineV) → ((a : A) → r ≡ Ok a → LineNamed (make a)) → bind r (λ a. Ok (make a)) ≡ Ok l → LineNamed l
made_named r make l named is =
    let got = bind_ok r (λ a. Ok (make a)) l is in
    subst LineNamed (same_ok (make got.0) l got.2) (named got.0 got.1)

line_at_named : (file : File) (k : Key) (p : Place) (l : LineV) → line_at file k p ≡ Ok l → LineNamed l
line_at_named file key.Protocol p l is = made_named (one_name p) line.Protocol l (one_is p) is
line_at_named file key.«Type» p l is = type_named p l is
line_at_named file key.Var p l is = made_named (two_names p) (λ a. line.Var a.0 a.1) l (two_is p) is
line_at_named file key.Term p l is = made_named (form_at p) line.Term l (λ a at. tt) is
line_at_named file key.Init p l is = made_named (one_number p) line.Init l (λ a at. tt) is
line_at_named file key.Rule p l is = made_named (name_and_number p) (λ a. line.Rule a.0 a.1) l (with_number_is p) is
line_at_named file key.Set p l is = made_named (name_and_number p) (λ a. line.Set a.0 a.1) l (λ a at. tt) is
line_at_named file key.End p l is = end_named file p l is
line_at_named file key.Proposal p l is = made_named (one_name p) line.Proposal l (one_is p) is
line_at_named file key.Inv p l is = made_named (name_and_number p) (λ a. line.Inv a.0 a.1) l (with_number_is p) is
line_at_named file key.Cause p l is = cause_named p l is

pub line_named : (file : File) (k : Key) (rest : List ℕ) (l : LineV) → read file k rest ≡ Ok l → LineNamed l
line_named file k rest l is = line_at_named file k (first_place k rest) l is
