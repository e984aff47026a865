-- A line that was read: the words that were left are those that are written from what it says, and that is sound.
use Rattle.std.proofs.Common.{◌≡◌, ℕ, true, cond, List, [], ◌∷◌, length, drop, Some, None, Ok, Err, codes, Option, sym, refl, ap, ◌∙◌, subst, ⊎_elim, arith}
use Rattle.std.proofs.lemmas.Slice.Eq.{bytes_eq-Decides}
use Rattle.std.proofs.lemmas.Bool.{ltb-false, cond-true, cond-false, cases_Bool}
use Rattle.std.specs.List.{AllByRecursion}
use Rattle.std.specs.Str.{bytes_eq}
use Rattle.text.specs.Faults.{fault}
use Rattle.text.specs.declared.faults.Wrong.TheVariants as wrong
use Rattle.keys.proofs.KeyLaws.{keyed}
use Rattle.keys.specs.Keys.{line_with, every_key, key_of}
use Rattle.keys.specs.declared.Key.{Key}
use Rattle.keys.specs.declared.Key.TheVariants as key
use Rattle.words.specs.Repeats.{start}
use Rattle.words.specs.Words.{WordV, Place, over, column, column_behind, next, bind, word_at, name_at, rest_at, words_left, all_names, is_name, first_place}
use Rattle.line.specs.Forms.{FormV, KindV}
use Rattle.line.specs.Forms as form
use Rattle.line.specs.Lines.{LineV, belongs, ending}
use Rattle.line.specs.Lines as line
use Rattle.line.specs.Operators.{spelled, first_of, operator_of}
use Rattle.line.specs.Reading.{last, one_name, two_names, one_number, two_numbers, three_numbers, name_and_number, form_behind, form_by, form_at, kind_by, kind_at, type_at, cause_at, end_at, line_at, known_in}
use Rattle.line.specs.declared.lines.File.{File}
use Rattle.line.specs.declared.operators.Operator.{Operator}
use Rattle.line.specs.declared.operators.Operator.TheVariants as operator
use Rattle.writing.specs.Forms.{form_said, kind_said}
use Rattle.writing.specs.Said.{key_said, said, texts}
use Rattle.writing.specs.Sound.{Named, FormSound, KindSound, PartsSound}
use Rattle.writing.specs.Written.{spaced, form_words, kind_words, words_said}
use Rattle.writing.specs.Laws.{NothingIsLost, OnlySoundLinesAreRead}
use Rattle.writing.proofs.Oks.{bind_ok, first_ok, second_ok, same_ok, made_ok}
use Rattle.writing.proofs.Spaces.{pieces, left, left_at, left_start, left_first, spaced_pieces}
use Rattle.writing.proofs.Items.{took_word, took_last, a_name, a_number, one_took, two_took, three_took}

-- the operator that was found is written so
operator_first : (ops : List Operator) (w : List ℕ) (op : Operator) → first_of ops w ≡ Some op → w ≡ spelled op
operator_first [] w op is = cc
operator_first (o ∷ ops) w op is =
    ⊎_elim
    (λ same.
    let here : o ≡ op = (let e : Some o ≡ Some op = sym (cond-true (bytes_eq w (spelled o)) (Some o) (first_of ops w) same) ∙ is in cc) in
    (bytes_eq-Decides w (spelled o)).0 same ∙ ap spelled here)
    (λ other. operator_first ops w op (sym (cond-false (bytes_eq w (spelled o)) (Some o) (first_of ops w) other) ∙ is))
    (cases_Bool (bytes_eq w (spelled o)))

operator_is : (w : List ℕ) (op : Operator) → operator_of w ≡ Some op → w ≡ spelled op
operator_is =
    operator_first (operator.Var ∷ operator.Val ∷ operator.True ∷ operator.False ∷ operator.Eq ∷ operator.Not ∷ operator.And ∷ operator.Or ∷ operator.Imp ∷ operator.Ite ∷ [])

-- the words that a form was read from, and that it is sound
abbrev FormTook : List (List ℕ) → FormV → Type 0
FormTook ws f = (ws ≡ form_words (form_said f)) × FormSound (form_said f)

after_took : (op : Operator) (p : Place) (f : FormV) → form_behind op p ≡ Ok f → FormTook (spelled op ∷ left p) f
after_took operator.Var p f is =
    made_ok (one_name p) form.Var (FormTook (spelled operator.Var ∷ left p)) (λ a at. let t = one_took a_name p a at in (ap (λ l. spelled operator.Var ∷ l) t.0, t.1)) f is
after_took operator.Val p f is =
    made_ok (two_names p) (λ a. form.Val a.0 a.1) (FormTook (spelled operator.Val ∷ left p)) (λ a at. let t = two_took a_name a_name p a at in (ap (λ l. spelled operator.Val ∷ l) t.0, t.1)) f is
after_took operator.True p f is =
    let ends = took_last p form.True f is in
    subst (FormTook (spelled operator.True ∷ left p)) ends.0 (ap (λ l. spelled operator.True ∷ l) ends.1, tt)
after_took operator.False p f is =
    let ends = took_last p form.False f is in
    subst (FormTook (spelled operator.False ∷ left p)) ends.0 (ap (λ l. spelled operator.False ∷ l) ends.1, tt)
after_took operator.Eq p f is =
    made_ok (two_numbers p) (λ a. form.Eq a.0 a.1) (FormTook (spelled operator.Eq ∷ left p)) (λ a at. let t = two_took a_number a_number p a at in (ap (λ l. spelled operator.Eq ∷ l) t.0, t.1)) f is
after_took operator.Not p f is =
    made_ok (one_number p) form.Not (FormTook (spelled operator.Not ∷ left p)) (λ a at. let t = one_took a_number p a at in (ap (λ l. spelled operator.Not ∷ l) t.0, t.1)) f is
after_took operator.And p f is =
    made_ok (two_numbers p) (λ a. form.And a.0 a.1) (FormTook (spelled operator.And ∷ left p)) (λ a at. let t = two_took a_number a_number p a at in (ap (λ l. spelled operator.And ∷ l) t.0, t.1)) f is
after_took operator.Or p f is =
    made_ok (two_numbers p) (λ a. form.Or a.0 a.1) (FormTook (spelled operator.Or ∷ left p)) (λ a at. let t = two_took a_number a_number p a at in (ap (λ l. spelled operator.Or ∷ l) t.0, t.1)) f is
after_took operator.Imp p f is =
    made_ok (two_numbers p) (λ a. form.Imp a.0 a.1) (FormTook (spelled operator.Imp ∷ left p)) (λ a at. let t = two_took a_number a_number p a at in (ap (λ l. spelled operator.Imp ∷ l) t.0, t.1)) f is
after_took operator.Ite p f is =
    made_ok (three_numbers p) (λ a. form.Ite a.0 a.1 a.2) (FormTook (spelled operator.Ite ∷ left p)) (λ a at. let t = three_took a_number p a at in (ap (λ l. spelled operator.Ite ∷ l) t.0, t.1)) f is

by_took : (o : Option Operator) (c : ℕ) (p : Place) (f : FormV) → form_by o c p ≡ Ok f → (op : Operator) × (o ≡ Some op) × (form_behind op p ≡ Ok f)
by_took (Some op) c p f is = (op, refl, is)
by_took None c p f is = cc

form_took : (p : Place) (f : FormV) → form_at p ≡ Ok f → FormTook (left p) f
form_took p f is =
    let found = bind_ok (word_at p) (λ w. form_by (operator_of w.bytes) w.column (next p)) f is in
    let by = by_took (operator_of found.0.bytes) found.0.column (next p) f found.2 in
    let after = after_took by.0 (next p) f by.2 in
    let first : left p ≡ spelled by.0 ∷ left (next p) =
    (took_word p found.0 found.1).1 ∙ ap (λ w. w ∷ left (next p)) (operator_is found.0.bytes by.0 by.1) in
    (first ∙ after.0, after.1)

-- the words that a kind was read from, and that it is sound
abbrev KindTook : List (List ℕ) → KindV → Type 0
KindTook ws k = (ws ≡ kind_words (kind_said k)) × KindSound (kind_said k)

kind_by_took : (w : WordV) (p : Place) (k : KindV) → kind_by w p ≡ Ok k → KindTook (w.bytes ∷ left p) k
kind_by_took w p k is =
    let is-1 = bytes_eq w.bytes (codes "1") in
    let is-2 = bytes_eq w.bytes (codes "2") in
    let is-3 = bytes_eq w.bytes (codes "3") in
    let named = bind (one_name p) (λ a. Ok (form.Partner a)) in
    let third = cond is-3 named (Err (fault wrong.Word w.column)) in
    let second = cond is-2 (last p form.Unchanged) third in
    ⊎_elim
    (λ one.
    let ends = took_last p form.Guard k (sym (cond-true is-1 (last p form.Guard) second one) ∙ is) in
    subst (KindTook (w.bytes ∷ left p)) ends.0 ((λ i. (bytes_eq-Decides w.bytes (codes "1")).0 one i ∷ ends.1 i), tt))
    (λ other.
    let is = sym (cond-false is-1 (last p form.Guard) second other) ∙ is in
    ⊎_elim
    (λ two.
    let ends = took_last p form.Unchanged k (sym (cond-true is-2 (last p form.Unchanged) third two) ∙ is) in
    subst (KindTook (w.bytes ∷ left p)) ends.0 ((λ i. (bytes_eq-Decides w.bytes (codes "2")).0 two i ∷ ends.1 i), tt))
    (λ other.
    let got = first_ok is-3 named (fault wrong.Word w.column) k (sym (cond-false is-2 (last p form.Unchanged) third other) ∙ is) in
    made_ok (one_name p) form.Partner (KindTook (w.bytes ∷ left p))
    (λ a at. let t = one_took a_name p a at in ((λ i. (bytes_eq-Decides w.bytes (codes "3")).0 got.0 i ∷ t.0 i), t.1)) k got.1)
    (cases_Bool is-2))
    (cases_Bool is-1)

kind_took : (p : Place) (k : KindV) → kind_at p ≡ Ok k → KindTook (left p) k
kind_took p k is =
    let found = bind_ok (word_at p) (λ w. kind_by w (next p)) k is in
    let by = kind_by_took found.0 (next p) k found.2 in
    ((took_word p found.0 found.1).1 ∙ by.0, by.1)

-- the words that a line was read from, its key, and that it is sound
abbrev LineTook : File → Key → List (List ℕ) → LineV → Type 0
LineTook file k ws l = (key_said (said l) ≡ k) × (ws ≡ words_said file (said l)) × PartsSound (said l)

all_named : (ws : List WordV) (u : Unit {0}) → all_names ws ≡ Ok u → AllByRecursion Named (texts ws)
all_named [] u is = tt
all_named (w ∷ ws) u is =
    let first = first_ok (is_name w.bytes) (all_names ws) (fault wrong.Word w.column) u is in
    (first.0, all_named ws u first.1)

type_took : (file : File) (p : Place) (l : LineV) → type_at p ≡ Ok l → LineTook file key.«Type» (left p) l
type_took file p l is =
    let name = bind_ok (name_at p) _ l is in
    let values = bind_ok (rest_at (next p)) _ l name.2 in
    let first = bind_ok (name_at (next p)) _ l values.2 in
    let second = bind_ok (name_at (next (next p))) _ l first.2 in
    let others = bind_ok (all_names (words_left (next (next (next p))))) _ l second.2 in
    let named = a_name.took p name.0 name.1 in
    let one = a_name.took (next p) first.0 first.1 in
    let two = a_name.took (next (next p)) second.0 second.1 in
    let there = second_ok (over (next p)) (Ok (record { bytes = drop (next p).at (next p).text; column = column (next p) })) (fault wrong.Word (column_behind (next p))) values.0 values.1 in
    let row = texts (words_left (start values.0.bytes)) in
    let same : row ≡ left (next p) =
    left_start values.0.bytes
    ∙ ap (λ w. pieces w.bytes) (sym (same_ok (record { bytes = drop (next p).at (next p).text; column = column (next p) }) values.0 there.1))
    ∙ sym (left_at (next p) (ltb-false (length (next p).text) (next p).at there.0)) in
    let begins : left (next p) ≡ first.0.bytes ∷ second.0.bytes ∷ left (next (next (next p))) = one.0 ∙ ap (λ l. first.0.bytes ∷ l) two.0 in
    let all : AllByRecursion Named row = subst (AllByRecursion Named) (sym (same ∙ begins)) (one.1, (two.1, all_named (words_left (next (next (next p)))) others.0 others.1)) in
    subst (LineTook file key.«Type» (left p)) (same_ok (line.«Type» name.0 values.0) l others.2)
    (refl, named.0 ∙ ap (λ l. name.0.bytes ∷ l) (sym same), (named.1, omega (arith, ap length (same ∙ begins)), all))

end_took : (file : File) (p : Place) (l : LineV) → end_at file p ≡ Ok l → LineTook file key.End (left p) l
end_took file p l is =
    let found = bind_ok (word_at p) (λ w. cond (bytes_eq w.bytes (ending file)) (last (next p) line.End) (Err (fault wrong.Word w.column))) l is in
    let good = first_ok (bytes_eq found.0.bytes (ending file)) (last (next p) line.End) (fault wrong.Word found.0.column) l found.2 in
    let ends = took_last (next p) line.End l good.1 in
    let words : left p ≡ ending file ∷ [] =
    (took_word p found.0 found.1).1 ∙ (λ i. (bytes_eq-Decides found.0.bytes (ending file)).0 good.0 i ∷ ends.1 i) in
    subst (LineTook file key.End (left p)) ends.0 (refl, words, tt)

cause_took : (file : File) (p : Place) (l : LineV) → cause_at p ≡ Ok l → LineTook file key.Cause (left p) l
cause_took file p l is =
    let rule = bind_ok (name_at p) _ l is in
    let invariant = bind_ok (name_at (next p)) _ l rule.2 in
    let kind = bind_ok (kind_at (next (next p))) _ l invariant.2 in
    let a = a_name.took p rule.0 rule.1 in
    let b = a_name.took (next p) invariant.0 invariant.1 in
    let d = kind_took (next (next p)) kind.0 kind.1 in
    subst (LineTook file key.Cause (left p)) (same_ok (line.Cause rule.0 invariant.0 kind.0) l kind.2)
    (refl, a.0 ∙ ap (λ l. rule.0.bytes ∷ l) (b.0 ∙ ap (λ l. invariant.0.bytes ∷ l) d.0), (a.1, b.1, d.1))

line_took : (file : File) (k : Key) (p : Place) (l : LineV) → line_at file k p ≡ Ok l → LineTook file k (left p) l
line_took file key.Protocol p l is = made_ok (one_name p) line.Protocol (LineTook file key.Protocol (left p)) (λ a at. let t = one_took a_name p a at in (refl, t.0, t.1)) l is
line_took file key.«Type» p l is = type_took file p l is
line_took file key.Var p l is = made_ok (two_names p) (λ a. line.Var a.0 a.1) (LineTook file key.Var (left p)) (λ a at. let t = two_took a_name a_name p a at in (refl, t.0, t.1)) l is
line_took file key.Term p l is = made_ok (form_at p) line.Term (LineTook file key.Term (left p)) (λ a at. let t = form_took p a at in (refl, t.0, t.1)) l is
line_took file key.Init p l is = made_ok (one_number p) line.Init (LineTook file key.Init (left p)) (λ a at. let t = one_took a_number p a at in (refl, t.0, t.1)) l is
line_took file key.Rule p l is = made_ok (name_and_number p) (λ a. line.Rule a.0 a.1) (LineTook file key.Rule (left p)) (λ a at. let t = two_took a_name a_number p a at in (refl, t.0, t.1)) l is
line_took file key.Set p l is = made_ok (name_and_number p) (λ a. line.Set a.0 a.1) (LineTook file key.Set (left p)) (λ a at. let t = two_took a_name a_number p a at in (refl, t.0, t.1)) l is
line_took file key.End p l is = end_took file p l is
line_took file key.Proposal p l is = made_ok (one_name p) line.Proposal (LineTook file key.Proposal (left p)) (λ a at. let t = one_took a_name p a at in (refl, t.0, t.1)) l is
line_took file key.Inv p l is = made_ok (name_and_number p) (λ a. line.Inv a.0 a.1) (LineTook file key.Inv (left p)) (λ a at. let t = two_took a_name a_number p a at in (refl, t.0, t.1)) l is
line_took file key.Cause p l is = cause_took file p l is

known_ok : (file : File) (o : Option (Key × List ℕ)) (k : Key) (rest : List ℕ) → known_in file o ≡ Ok (k, rest) → (o ≡ Some (k, rest)) × (belongs file k ≡ true)
known_ok file (Some p) k rest is =
    let got = first_ok (belongs file p.0) (Ok p) (fault wrong.Key 1) (k, rest) is in
    let same = same_ok p (k, rest) got.1 in
    (ap Some same, subst (λ q. belongs file q.0 ≡ true) same got.0)
known_ok file None k rest is = cc

pub nothing_is_lost : NothingIsLost
nothing_is_lost file bytes rest k l known is =
    let took = line_took file k (first_place k rest) l is in
    let text : spaced (words_said file (said l)) ≡ rest = ap spaced (sym took.1 ∙ left_first k rest) ∙ spaced_pieces rest in
    (λ i. line_with (took.0 i) (text i)) ∙ keyed every_key bytes k rest (known_ok file (key_of bytes) k rest known).0

pub only_sound_lines_are_read : OnlySoundLinesAreRead
only_sound_lines_are_read file bytes rest k l known is =
    let took = line_took file k (first_place k rest) l is in
    record {
      belonging = ap (belongs file) took.0 ∙ (known_ok file (key_of bytes) k rest known).1;
      parts = took.2;
    }
