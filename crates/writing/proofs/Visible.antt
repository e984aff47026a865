-- The bytes of words: none is a space, and all may stand in a line.
use Rattle.std.proofs.Common.{◌≡◌, ℕ, ◌+◌, ◌≤◌, Bool, true, cond, ◌&&◌, eqb, ltb, leb, List, [], ◌∷◌, ◌++◌, length, Some, None, codes, refl, ◌∙◌, ⊎_elim, arith}
use Rattle.std.proofs.ByRecursion.{All-weaker}
use Rattle.std.proofs.lemmas.Bool.{leb-true, le-leb, le-ltb, eqb-true, ne_eqb, and_parts, and_from, or_cases, not_from_false, cond-true, cond-false}
use Rattle.std.specs.List.{prefix_len, AllByRecursion}
use Rattle.text.specs.Faults.{fault}
use Rattle.text.specs.Lines.{printable, byte_fault}
use Rattle.text.specs.declared.faults.Wrong.TheVariants as wrong
use Rattle.keys.specs.Keys.{word}
use Rattle.keys.specs.declared.Key.{Key}
use Rattle.keys.specs.declared.Key.TheVariants as key
use Rattle.words.specs.Words.{every, digit, name_byte, letter, no_space}
use Rattle.line.specs.Lines.{ending}
use Rattle.line.specs.declared.lines.File.{File}
use Rattle.line.specs.declared.lines.File.TheVariants as file
use Rattle.writing.specs.Forms.{FormSaid, KindSaid}
use Rattle.writing.specs.Forms as form
use Rattle.writing.specs.Said.{Said, key_said}
use Rattle.writing.specs.Said as line
use Rattle.writing.specs.Sound.{Named, Short, FormSound, KindSound, PartsSound}
use Rattle.writing.specs.Written.{each_spaced, spaced, written_number, form_words, kind_words, words_said, written_line}
use Rattle.writing.specs.Laws.{EveryByteMayStand}
use Rattle.writing.proofs.Numbers.{number_digits}
use Rattle.writing.proofs.Spaces.{Solid, pieces, pieces_spaced}

-- what may stand in a line, but for the space
abbrev visible : ℕ → Bool
visible b = leb 33 b && leb b 126

abbrev Seen : List ℕ → Type 0
Seen w = every visible w ≡ true

within : (b : ℕ) → 33 ≤ b → b ≤ 126 → visible b ≡ true
within b low high = and_from (leb 33 b) (leb b 126) (le-leb 33 b low) (le-leb b 126 high)

between : (lo hi b : ℕ) → 33 ≤ lo → hi ≤ 126 → (leb lo b && leb b hi) ≡ true → visible b ≡ true
between lo hi b low high is =
    let sides = and_parts (leb lo b) (leb b hi) is in
    let least = leb-true lo b sides.0 in
    let most = leb-true b hi sides.1 in
    within b (omega arith) (omega arith)

equal : (n b : ℕ) → 33 ≤ n → n ≤ 126 → eqb b n ≡ true → visible b ≡ true
equal n b low high is = let e = eqb-true b n is in within b (omega arith) (omega arith)

digit_visible : (b : ℕ) → digit b ≡ true → visible b ≡ true
digit_visible b is = between 48 57 b (omega arith) (omega arith) is

letter_visible : (b : ℕ) → letter b ≡ true → visible b ≡ true
letter_visible b is = ⊎_elim (between 65 90 b (omega arith) (omega arith)) (between 97 122 b (omega arith) (omega arith)) (or_cases (leb 65 b && leb b 90) (leb 97 b && leb b 122) is)

name_visible : (b : ℕ) → name_byte b ≡ true → visible b ≡ true
name_visible b is =
    ⊎_elim (letter_visible b) (λ r.
    ⊎_elim (digit_visible b) (λ r.
    ⊎_elim (equal 95 b (omega arith) (omega arith)) (λ r.
    ⊎_elim (equal 46 b (omega arith) (omega arith)) (λ r.
    ⊎_elim (equal 91 b (omega arith) (omega arith)) (equal 93 b (omega arith) (omega arith))
    (or_cases (eqb b 91) (eqb b 93) r)) (or_cases (eqb b 46) _ r)) (or_cases (eqb b 95) _ r)) (or_cases (digit b) _ r)) (or_cases (letter b) _ is)

every_weaker : (p q : ℕ → Bool) → ((b : ℕ) → p b ≡ true → q b ≡ true) → (xs : List ℕ) → every p xs ≡ true → every q xs ≡ true
every_weaker p q weaker [] all = refl
every_weaker p q weaker (x ∷ xs) all =
    let parts = and_parts (p x) (every p xs) all in
    and_from (q x) (every q xs) (weaker x parts.0) (every_weaker p q weaker xs parts.1)

every_append : (p : ℕ → Bool) (xs ys : List ℕ) → every p xs ≡ true → every p ys ≡ true → every p (xs ++ ys) ≡ true
every_append p [] ys all more = more
every_append p (x ∷ xs) ys all more =
    let parts = and_parts (p x) (every p xs) all in
    and_from (p x) (every p (xs ++ ys)) parts.0 (every_append p xs ys parts.1 more)

name_seen : (w : List ℕ) → Named w → Seen w
name_seen w named =
    let least = and_parts (leb 1 (length w)) _ named in
    let most = and_parts (leb (length w) 16) (every name_byte w) least.1 in
    every_weaker name_byte visible name_visible w most.1

number_seen : (n : ℕ) → Short n → Seen (written_number n)
number_seen n short = every_weaker digit visible digit_visible (written_number n) (number_digits n short)

-- one word or more, all visible
abbrev AllSeen : List (List ℕ) → Type 0
AllSeen [] = ⊥
AllSeen (w ∷ ws) = Seen w × AllByRecursion Seen ws

form_seen : (f : FormSaid) → FormSound f → AllSeen (form_words f)
form_seen (form.Var name) good = (refl, (name_seen name good, tt))
form_seen (form.Val of value) good = (refl, (name_seen of good.0, (name_seen value good.1, tt)))
form_seen form.True good = (refl, tt)
form_seen form.False good = (refl, tt)
form_seen (form.Eq left right) good = (refl, (number_seen left good.0, (number_seen right good.1, tt)))
form_seen (form.Not of) good = (refl, (number_seen of good, tt))
form_seen (form.And left right) good = (refl, (number_seen left good.0, (number_seen right good.1, tt)))
form_seen (form.Or left right) good = (refl, (number_seen left good.0, (number_seen right good.1, tt)))
form_seen (form.Imp left right) good = (refl, (number_seen left good.0, (number_seen right good.1, tt)))
form_seen (form.Ite test then other) good = (refl, (number_seen test good.0, (number_seen then good.1, (number_seen other good.2, tt))))

kind_seen : (k : KindSaid) → KindSound k → AllByRecursion Seen (kind_words k)
kind_seen form.Guard good = (refl, tt)
kind_seen form.Unchanged good = (refl, tt)
kind_seen (form.Partner name) good = (refl, (name_seen name good, tt))

ending_seen : (f : File) → Seen (ending f)
ending_seen file.Protocol = refl
ending_seen file.Proposal = refl

words_seen : (file : File) (s : Said) → PartsSound s → AllSeen (words_said file s)
words_seen file (line.Protocol name) good = (name_seen name good, tt)
words_seen file (line.«Type» name values) good = (name_seen name good.0, All-weaker Named Seen name_seen values good.2)
words_seen file (line.Var name of) good = (name_seen name good.0, (name_seen of good.1, tt))
words_seen file (line.Term form) good = form_seen form good
words_seen file (line.Init formula) good = (number_seen formula good, tt)
words_seen file (line.Rule name guard) good = (name_seen name good.0, (number_seen guard good.1, tt))
words_seen file (line.Set variable term) good = (name_seen variable good.0, (number_seen term good.1, tt))
words_seen file line.End good = (ending_seen file, tt)
words_seen file (line.Proposal name) good = (name_seen name good, tt)
words_seen file (line.Inv name formula) good = (name_seen name good.0, (number_seen formula good.1, tt))
words_seen file (line.Cause rule invariant kind) good = (name_seen rule good.0, (name_seen invariant good.1, kind_seen kind good.2))

visible_solid : (w : List ℕ) → Seen w → Solid w
visible_solid = every_weaker visible no_space (λ b is.
    let least = leb-true 33 b (and_parts (leb 33 b) (leb b 126) is).0 in
    not_from_false (eqb b 32) (ne_eqb b 32 (λ e. omega arith)))

seen_pieces : (ws : List (List ℕ)) → AllSeen ws → pieces (spaced ws) ≡ ws
seen_pieces [] seen = absurd seen
seen_pieces (w ∷ ws) seen = pieces_spaced w ws (visible_solid w seen.0) (All-weaker Seen Solid visible_solid ws seen.1)

-- the words of a sound line come apart again
pub pieces_said : (file : File) (s : Said) → PartsSound s → pieces (spaced (words_said file s)) ≡ words_said file s
pieces_said file s good = seen_pieces (words_said file s) (words_seen file s good)

-- its bytes may stand in a line
visible_printable : (w : List ℕ) → Seen w → every printable w ≡ true
visible_printable = every_weaker visible printable (λ b is.
    let sides = and_parts (leb 33 b) (leb b 126) is in
    let least = leb-true 33 b sides.0 in
    and_from (leb 32 b) (leb b 126) (le-leb 32 b (omega arith)) sides.1)

each_printable : (ws : List (List ℕ)) → AllByRecursion Seen ws → every printable (each_spaced ws) ≡ true
each_printable [] seen = refl
each_printable (w ∷ ws) seen = every_append printable w (each_spaced ws) (visible_printable w seen.0) (each_printable ws seen.1)

spaced_printable : (ws : List (List ℕ)) → AllSeen ws → every printable (spaced ws) ≡ true
spaced_printable [] seen = absurd seen
spaced_printable (w ∷ ws) seen = every_append printable w (each_spaced ws) (visible_printable w seen.0) (each_printable ws seen.1)

key_printable : (k : Key) → every printable (word k ++ codes "=") ≡ true
key_printable key.Protocol = refl
key_printable key.«Type» = refl
key_printable key.Var = refl
key_printable key.Term = refl
key_printable key.Init = refl
key_printable key.Rule = refl
key_printable key.Set = refl
key_printable key.End = refl
key_printable key.Proposal = refl
key_printable key.Inv = refl
key_printable key.Cause = refl

leading_all : (p : ℕ → Bool) (xs : List ℕ) → every p xs ≡ true → prefix_len p xs ≡ length xs
leading_all p [] all = refl
leading_all p (x ∷ xs) all =
    let parts = and_parts (p x) (every p xs) all in
    let more = leading_all p xs parts.1 in
    cond-true (p x) (1 + prefix_len p xs) 0 parts.0 ∙ omega arith

no_fault : (xs : List ℕ) → every printable xs ≡ true → length xs ≤ 255 → byte_fault xs ≡ None
no_fault xs all short =
    let n = prefix_len printable xs in
    let e : n ≡ length xs = leading_all printable xs all in
    cond-false (ltb 255 n) (Some (fault wrong.Byte 256)) (cond (ltb n (length xs)) (Some (fault wrong.Byte (n + 1))) None) (le-ltb 255 n (omega arith))
    ∙ cond-false (ltb n (length xs)) (Some (fault wrong.Byte (n + 1))) None (le-ltb n (length xs) (omega arith))

pub every_byte_may_stand : EveryByteMayStand
every_byte_may_stand file s sound =
    let all = every_append printable (word (key_said s) ++ codes "=") (spaced (words_said file s)) (key_printable (key_said s)) (spaced_printable (words_said file s) (words_seen file s sound.parts)) in
    (all, no_fault (written_line file s) all)
