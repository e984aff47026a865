-- What is written from something sound is read again, and says that.
use Rattle.std.proofs.Common.{◌≡◌, ℕ, ◌≤◌, cond, List, [], ◌∷◌, length, drop, Some, Ok, Err, codes, sym, refl, ap, ◌∙◌, subst, arith}
use Rattle.std.proofs.lemmas.Slice.Eq.{bytes_eq-Decides}
use Rattle.std.proofs.lemmas.Bool.{ltb-false, cond-true, cond-false}
use Rattle.std.specs.List.{AllByRecursion}
use Rattle.std.specs.Str.{bytes_eq}
use Rattle.text.specs.Faults.{fault}
use Rattle.text.specs.declared.faults.Wrong.TheVariants as wrong
use Rattle.keys.specs.Keys.{line_with, key_of}
use Rattle.keys.specs.declared.Key.{Key}
use Rattle.keys.specs.declared.Key.TheVariants as key
use Rattle.words.specs.Repeats.{start}
use Rattle.words.specs.Words.{WordV, Place, over, column, column_behind, word, next, bind, word_at, name_at, rest_at, words_left, all_names, is_name, first_place}
use Rattle.line.specs.Forms.{FormV, KindV}
use Rattle.line.specs.Forms as form
use Rattle.line.specs.Lines.{LineV, belongs, ending}
use Rattle.line.specs.Lines as line
use Rattle.line.specs.Operators.{operator_of}
use Rattle.line.specs.Reading.{last, one_name, two_names, one_number, two_numbers, three_numbers, name_and_number, form_by, form_at, kind_by, kind_at, line_at, known_in}
use Rattle.line.specs.declared.lines.File.{File}
use Rattle.writing.specs.Forms.{FormSaid, KindSaid, form_said, kind_said}
use Rattle.writing.specs.Forms as says_form
use Rattle.writing.specs.Said.{Said, key_said, said, texts}
use Rattle.writing.specs.Said as says
use Rattle.writing.specs.Sound.{Named, Short, FormSound, KindSound, PartsSound}
use Rattle.writing.specs.Written.{spaced, written_number, form_words, kind_words, words_said}
use Rattle.writing.specs.Laws.{EveryLineCanBeKept}
use Rattle.writing.proofs.Oks.{go_on}
use Rattle.writing.proofs.Spaces.{left, left_at, left_start, left_first}
use Rattle.writing.proofs.Items.{gave_word, gave_last, a_name, a_number, one_gave, two_gave, three_gave}
use Rattle.writing.proofs.Visible.{pieces_said}

-- a form after its operator's word
form_here : (p : Place) (w : List ℕ) (ws : List (List ℕ)) → left p ≡ w ∷ ws → (form_at p ≡ form_by (operator_of w) (column p) (next p)) × (left (next p) ≡ ws)
form_here p w ws is =
    let given = gave_word p w ws is in (
      go_on (word_at p) (λ v. form_by (operator_of v.bytes) v.column (next p)) (word p) given.here
          ∙ ap (λ b. form_by (operator_of b) (column p) (next p)) given.bytes,
      given.rest,
    )

abbrev FormGave : Place → FormSaid → Type 0
FormGave p f = (v : FormV) × (form_at p ≡ Ok v) × (form_said v ≡ f)

one_name_gave : (p : Place) (make : WordV → FormV) (say : List ℕ → FormSaid) (w : List ℕ) → form_at p ≡ bind (one_name (next p)) (λ a. Ok (make a))
    → ((a : WordV) → form_said (make a) ≡ say a.bytes) → Named w → left (next p) ≡ w ∷ [] → FormGave p (say w)
one_name_gave p make say w here means good is =
    let a = one_gave a_name (next p) w good is in
    (make a.0, here ∙ go_on (one_name (next p)) (λ a. Ok (make a)) a.0 a.1, means a.0 ∙ ap say a.2)

two_numbers_gave : (p : Place) (make : _ → FormV) (say : ℕ → ℕ → FormSaid) (m n : ℕ) → form_at p ≡ bind (two_numbers (next p)) (λ a. Ok (make a))
    → ((a : _) → form_said (make a) ≡ say a.0.value a.1.value) → Short m × Short n → left (next p) ≡ written_number m ∷ written_number n ∷ [] → FormGave p (say m n)
two_numbers_gave p make say m n here means good is =
    let a = two_gave a_number a_number (next p) m n good.0 good.1 is in
    (make a.0, here ∙ go_on (two_numbers (next p)) (λ a. Ok (make a)) a.0 a.1, means a.0 ∙ (λ i. say (a.2 i) (a.3 i)))

form_gave : (p : Place) (f : FormSaid) → FormSound f → left p ≡ form_words f → FormGave p f
form_gave p (says_form.Var name) good is =
    let h = form_here p (codes "var") (name ∷ []) is in
    one_name_gave p form.Var says_form.Var name h.0 (λ a. refl) good h.1
form_gave p (says_form.Val of value) good is =
    let h = form_here p (codes "val") (of ∷ value ∷ []) is in
    let a = two_gave a_name a_name (next p) of value good.0 good.1 h.1 in
    (form.Val a.0.0 a.0.1, h.0 ∙ go_on (two_names (next p)) (λ a. Ok (form.Val a.0 a.1)) a.0 a.1, (λ i. says_form.Val (a.2 i) (a.3 i)))
form_gave p says_form.True good is =
    let h = form_here p (codes "true") [] is in
    (form.True, h.0 ∙ gave_last (next p) form.True h.1, refl)
form_gave p says_form.False good is =
    let h = form_here p (codes "false") [] is in
    (form.False, h.0 ∙ gave_last (next p) form.False h.1, refl)
form_gave p (says_form.Eq m n) good is =
    let h = form_here p (codes "eq") (written_number m ∷ written_number n ∷ []) is in
    two_numbers_gave p (λ a. form.Eq a.0 a.1) says_form.Eq m n h.0 (λ a. refl) good h.1
form_gave p (says_form.Not n) good is =
    let h = form_here p (codes "not") (written_number n ∷ []) is in
    let a = one_gave a_number (next p) n good h.1 in
    (form.Not a.0, h.0 ∙ go_on (one_number (next p)) (λ a. Ok (form.Not a)) a.0 a.1, ap says_form.Not a.2)
form_gave p (says_form.And m n) good is =
    let h = form_here p (codes "and") (written_number m ∷ written_number n ∷ []) is in
    two_numbers_gave p (λ a. form.And a.0 a.1) says_form.And m n h.0 (λ a. refl) good h.1
form_gave p (says_form.Or m n) good is =
    let h = form_here p (codes "or") (written_number m ∷ written_number n ∷ []) is in
    two_numbers_gave p (λ a. form.Or a.0 a.1) says_form.Or m n h.0 (λ a. refl) good h.1
form_gave p (says_form.Imp m n) good is =
    let h = form_here p (codes "imp") (written_number m ∷ written_number n ∷ []) is in
    two_numbers_gave p (λ a. form.Imp a.0 a.1) says_form.Imp m n h.0 (λ a. refl) good h.1
form_gave p (says_form.Ite l m n) good is =
    let h = form_here p (codes "ite") (written_number l ∷ written_number m ∷ written_number n ∷ []) is in
    let a = three_gave a_number (next p) l m n good.0 good.1 good.2 h.1 in
    (form.Ite a.0.0 a.0.1 a.0.2, h.0 ∙ go_on (three_numbers (next p)) (λ a. Ok (form.Ite a.0 a.1 a.2)) a.0 a.1, (λ i. says_form.Ite (a.2 i) (a.3 i) (a.4 i)))

-- a kind after its number's word
kind_here : (p : Place) (w : List ℕ) (ws : List (List ℕ)) → left p ≡ w ∷ ws → (kind_at p ≡ kind_by (record { bytes = w; column = column p }) (next p)) × (left (next p) ≡ ws)
kind_here p w ws is =
    let given = gave_word p w ws is in (
      go_on (word_at p) (λ v. kind_by v (next p)) (word p) given.here ∙ ap (λ b. kind_by (record { bytes = b; column = column p }) (next p)) given.bytes,
      given.rest,
    )

kind_gave : (p : Place) (k : KindSaid) → KindSound k → left p ≡ kind_words k → (v : KindV) × (kind_at p ≡ Ok v) × (kind_said v ≡ k)
kind_gave p says_form.Guard good is =
    let h = kind_here p (codes "1") [] is in
    (form.Guard, h.0 ∙ gave_last (next p) form.Guard h.1, refl)
kind_gave p says_form.Unchanged good is =
    let h = kind_here p (codes "2") [] is in
    (form.Unchanged, h.0 ∙ gave_last (next p) form.Unchanged h.1, refl)
kind_gave p (says_form.Partner name) good is =
    let h = kind_here p (codes "3") (name ∷ []) is in
    let a = one_gave a_name (next p) name good h.1 in
    (form.Partner a.0, h.0 ∙ go_on (one_name (next p)) (λ a. Ok (form.Partner a)) a.0 a.1, ap says_form.Partner a.2)

abbrev LineGave : File → Place → Said → Type 0
LineGave file p s = (l : LineV) × (line_at file (key_said s) p ≡ Ok l) × (said l ≡ s)

all_names_gave : (ws : List WordV) → AllByRecursion Named (texts ws) → all_names ws ≡ Ok tt
all_names_gave [] all = refl
all_names_gave (w ∷ ws) all = cond-true (is_name w.bytes) (all_names ws) (Err (fault wrong.Word w.column)) all.0 ∙ all_names_gave ws all.1

-- a type of the values `a`, `b` and others
type_gave : (file : File) (p : Place) (name a b : List ℕ) (others : List (List ℕ)) → Named name → Named a → Named b → AllByRecursion Named others → left p ≡ name ∷ a ∷ b ∷ others
    → LineGave file p (says.«Type» name (a ∷ b ∷ others))
type_gave file p name a b others good good-a good-b all is =
    let q = next p in
    let n = a_name.gave p name (a ∷ b ∷ others) good is in
    let here = gave_word q a (b ∷ others) n.rest in
    let values : WordV = record { bytes = drop q.at q.text; column = column q } in
    let first = a_name.gave q a (b ∷ others) good-a n.rest in
    let second = a_name.gave (next q) b others good-b first.rest in
    let row : texts (words_left (start values.bytes)) ≡ a ∷ b ∷ others =
    left_start values.bytes ∙ sym (left_at q (ltb-false (length q.text) q.at here.more)) ∙ n.rest in
    let left-names = all_names_gave (words_left (next (next q))) (subst (AllByRecursion Named) (sym second.rest) all) in
    let made = line.«Type» n.x values in (
      made,
      go_on (name_at p) (λ name. bind (rest_at q) (λ values. bind (name_at q) (λ _. bind (name_at (next q)) (λ _. bind (all_names (words_left (next (next q)))) (λ _. Ok (line.«Type» name values)))))) n.x n.is
          ∙ go_on (rest_at q) (λ values. bind (name_at q) (λ _. bind (name_at (next q)) (λ _. bind (all_names (words_left (next (next q)))) (λ _. Ok (line.«Type» n.x values))))) values
          (cond-false (over q) (Err (fault wrong.Word (column_behind q))) (Ok values) here.more)
          ∙ go_on (name_at q) (λ _. bind (name_at (next q)) (λ _. bind (all_names (words_left (next (next q)))) (λ _. Ok made))) first.x first.is
          ∙ go_on (name_at (next q)) (λ _. bind (all_names (words_left (next (next q)))) (λ _. Ok made)) second.x second.is
          ∙ go_on (all_names (words_left (next (next q)))) (λ _. Ok made) tt left-names,
      (λ i. says.«Type» (n.says i) (row i)),
    )

values_gave : (file : File) (p : Place) (name : List ℕ) (values : List (List ℕ)) → Named name → 2 ≤ length values → AllByRecursion Named values → left p ≡ name ∷ values
    → LineGave file p (says.«Type» name values)
values_gave file p name [] good two all is = absurd (omega arith)
values_gave file p name (a ∷ []) good two all is = absurd (omega arith)
values_gave file p name (a ∷ b ∷ others) good two all is = type_gave file p name a b others good all.0 all.1.0 all.1.1 is

end_gave : (file : File) (p : Place) → left p ≡ ending file ∷ [] → LineGave file p says.End
end_gave file p is =
    let given = gave_word p (ending file) [] is in
    let go = λ (b : List ℕ). cond (bytes_eq b (ending file)) (last (next p) line.End) (Err (fault wrong.Word (column p))) in (
      line.End,
      go_on (word_at p) (λ w. cond (bytes_eq w.bytes (ending file)) (last (next p) line.End) (Err (fault wrong.Word w.column))) (word p) given.here
          ∙ ap go given.bytes
          ∙ cond-true (bytes_eq (ending file) (ending file)) (last (next p) line.End) (Err (fault wrong.Word (column p))) ((bytes_eq-Decides (ending file) (ending file)).1 refl)
          ∙ gave_last (next p) line.End given.rest,
      refl,
    )

cause_gave : (file : File) (p : Place) (rule invariant : List ℕ) (kind : KindSaid) → Named rule → Named invariant → KindSound kind → left p ≡ rule ∷ invariant ∷ kind_words kind
    → LineGave file p (says.Cause rule invariant kind)
cause_gave file p rule invariant kind good good' fine is =
    let r = a_name.gave p rule (invariant ∷ kind_words kind) good is in
    let v = a_name.gave (next p) invariant (kind_words kind) good' r.rest in
    let k = kind_gave (next (next p)) kind fine v.rest in (
      line.Cause r.x v.x k.0,
      go_on (name_at p) (λ rule. bind (name_at (next p)) (λ invariant. bind (kind_at (next (next p))) (λ kind. Ok (line.Cause rule invariant kind)))) r.x r.is
          ∙ go_on (name_at (next p)) (λ invariant. bind (kind_at (next (next p))) (λ kind. Ok (line.Cause r.x invariant kind))) v.x v.is
          ∙ go_on (kind_at (next (next p))) (λ kind. Ok (line.Cause r.x v.x kind)) k.0 k.1,
      (λ i. says.Cause (r.says i) (v.says i) (k.2 i)),
    )

line_gave : (file : File) (p : Place) (s : Said) → PartsSound s → left p ≡ words_said file s → LineGave file p s
line_gave file p (says.Protocol name) good is =
    let a = one_gave a_name p name good is in
    (line.Protocol a.0, go_on (one_name p) (λ a. Ok (line.Protocol a)) a.0 a.1, ap says.Protocol a.2)
line_gave file p (says.«Type» name values) good is = values_gave file p name values good.0 good.1 good.2 is
line_gave file p (says.Var name of) good is =
    let a = two_gave a_name a_name p name of good.0 good.1 is in
    (line.Var a.0.0 a.0.1, go_on (two_names p) (λ a. Ok (line.Var a.0 a.1)) a.0 a.1, (λ i. says.Var (a.2 i) (a.3 i)))
line_gave file p (says.Term form) good is =
    let a = form_gave p form good is in
    (line.Term a.0, go_on (form_at p) (λ a. Ok (line.Term a)) a.0 a.1, ap says.Term a.2)
line_gave file p (says.Init formula) good is =
    let a = one_gave a_number p formula good is in
    (line.Init a.0, go_on (one_number p) (λ a. Ok (line.Init a)) a.0 a.1, ap says.Init a.2)
line_gave file p (says.Rule name guard) good is =
    let a = two_gave a_name a_number p name guard good.0 good.1 is in
    (line.Rule a.0.0 a.0.1, go_on (name_and_number p) (λ a. Ok (line.Rule a.0 a.1)) a.0 a.1, (λ i. says.Rule (a.2 i) (a.3 i)))
line_gave file p (says.Set variable term) good is =
    let a = two_gave a_name a_number p variable term good.0 good.1 is in
    (line.Set a.0.0 a.0.1, go_on (name_and_number p) (λ a. Ok (line.Set a.0 a.1)) a.0 a.1, (λ i. says.Set (a.2 i) (a.3 i)))
line_gave file p says.End good is = end_gave file p is
line_gave file p (says.Proposal name) good is =
    let a = one_gave a_name p name good is in
    (line.Proposal a.0, go_on (one_name p) (λ a. Ok (line.Proposal a)) a.0 a.1, ap says.Proposal a.2)
line_gave file p (says.Inv name formula) good is =
    let a = two_gave a_name a_number p name formula good.0 good.1 is in
    (line.Inv a.0.0 a.0.1, go_on (name_and_number p) (λ a. Ok (line.Inv a.0 a.1)) a.0 a.1, (λ i. says.Inv (a.2 i) (a.3 i)))
line_gave file p (says.Cause rule invariant kind) good is = cause_gave file p rule invariant kind good.0 good.1 good.2 is

-- the key that a line was written with is found
key_found : (k : Key) (rest : List ℕ) → key_of (line_with k rest) ≡ Some (k, rest)
key_found key.Protocol rest = refl
key_found key.«Type» rest = refl
key_found key.Var rest = refl
key_found key.Term rest = refl
key_found key.Init rest = refl
key_found key.Rule rest = refl
key_found key.Set rest = refl
key_found key.End rest = refl
key_found key.Proposal rest = refl
key_found key.Inv rest = refl
key_found key.Cause rest = refl

pub every_line_can_be_kept : EveryLineCanBeKept
every_line_can_be_kept file s sound =
    let k = key_said s in
    let rest = spaced (words_said file s) in (
      ap (known_in file) (key_found k rest) ∙ cond-true (belongs file k) (Ok (k, rest)) (Err (fault wrong.Key 1)) sound.belonging,
      line_gave file (first_place k rest) s sound.parts (left_first k rest ∙ pieces_said file s sound.parts),
    )
