-- A text and the words between its spaces, wherever they stand.
use Rattle.std.proofs.Common.{◌≡◌, ℕ, ◌+◌, ◌≤◌, Bool, true, false, cond, eqb, List, [], ◌∷◌, ◌++◌, length, drop, sym, refl, ap, ◌∙◌, arith}
use Rattle.std.proofs.lemmas.Bool.{eqb-true, le-ltb, cond-false, and_parts, not-true}
use Rattle.std.specs.List.{AllByRecursion}
use Rattle.keys.specs.declared.Key.{Key}
use Rattle.words.specs.Repeats.{start}
use Rattle.words.specs.Words.{WordV, Place, over, column, lengthened, words, words_left, no_space, every, first_place}
use Rattle.writing.specs.Said.{texts}
use Rattle.writing.specs.Written.{each_spaced, spaced}

-- one byte more in front of the first word; a space opens a word of its own
abbrev pub opened : Bool → ℕ → List (List ℕ) → List (List ℕ)
opened true b ws = [] ∷ ws
opened false b [] = (b ∷ []) ∷ []
opened false b (w ∷ ws) = (b ∷ w) ∷ ws

-- the words of a text, without their columns
abbrev pub pieces : List ℕ → List (List ℕ)
pieces [] = [] ∷ []
pieces (b ∷ text) = opened (eqb b 32) b (pieces text)

texts_opened : (space : Bool) (b c : ℕ) (ws : List WordV) → texts (cond space (record { bytes = []; column = c } ∷ ws) (lengthened b c ws)) ≡ opened space b (texts ws)
texts_opened true b c ws = refl
texts_opened false b c [] = refl
texts_opened false b c (w ∷ ws) = refl

pub texts_words : (c : ℕ) (text : List ℕ) → texts (words c text) ≡ pieces text
texts_words c [] = refl
texts_words c (b ∷ text) = texts_opened (eqb b 32) b c (words (c + 1) text) ∙ ap (opened (eqb b 32) b) (texts_words (c + 1) text)

abbrev behind : List ℕ → List ℕ
behind [] = []
behind (b ∷ text) = text

each_more : (b : ℕ) (ws : List (List ℕ)) (text : List ℕ) → each_spaced ws ≡ 32 ∷ text → each_spaced (opened false b ws) ≡ 32 ∷ b ∷ text
each_more b [] text is = cc
each_more b (w ∷ ws) text is = ap (λ l. 32 ∷ b ∷ behind l) is

each_opened : (space : Bool) (b : ℕ) (ws : List (List ℕ)) (text : List ℕ) → (space ≡ true → b ≡ 32) → each_spaced ws ≡ 32 ∷ text → each_spaced (opened space b ws) ≡ 32 ∷ b ∷ text
each_opened true b ws text only is = ap (λ l. 32 ∷ l) is ∙ ap (λ x. 32 ∷ x ∷ text) (sym (only refl))
each_opened false b ws text only is = each_more b ws text is

-- its words, each with a space in front, are the text with one more in front
pub each_pieces : (text : List ℕ) → each_spaced (pieces text) ≡ 32 ∷ text
each_pieces [] = refl
each_pieces (b ∷ text) = each_opened (eqb b 32) b (pieces text) text (eqb-true b 32) (each_pieces text)

spaced_behind : (ws : List (List ℕ)) → spaced ws ≡ behind (each_spaced ws)
spaced_behind [] = refl
spaced_behind (w ∷ ws) = refl

-- a text is its words with single spaces between them
pub spaced_pieces : (text : List ℕ) → spaced (pieces text) ≡ text
spaced_pieces text = spaced_behind (pieces text) ∙ ap behind (each_pieces text)

-- a word has no space in it
abbrev pub Solid : List ℕ → Type 0
Solid w = every no_space w ≡ true

pieces_led : (ws : List (List ℕ)) → pieces (each_spaced ws) ≡ [] ∷ ws → (w : List ℕ) → Solid w → pieces (w ++ each_spaced ws) ≡ w ∷ ws
pieces_led ws is [] solid = is
pieces_led ws is (b ∷ w) solid =
    let parts = and_parts (no_space b) (every no_space w) solid in
    ap (λ t. opened t b (pieces (w ++ each_spaced ws))) (not-true (eqb b 32) parts.0)
    ∙ ap (opened false b) (pieces_led ws is w parts.1)

pieces_behind : (ws : List (List ℕ)) → AllByRecursion Solid ws → pieces (each_spaced ws) ≡ [] ∷ ws
pieces_behind [] all = refl
pieces_behind (w ∷ ws) all = ap (λ l. [] ∷ l) (pieces_led ws (pieces_behind ws all.1) w all.0)

-- the words of words with single spaces between them are those words
pub pieces_spaced : (w : List ℕ) (ws : List (List ℕ)) → Solid w → AllByRecursion Solid ws → pieces (spaced (w ∷ ws)) ≡ w ∷ ws
pieces_spaced w ws solid all = pieces_led ws (pieces_behind ws all) w solid

-- the words that are left at a place
abbrev pub left : Place → List (List ℕ)
left p = texts (words_left p)

pub left_at : (p : Place) → p.at ≤ length p.text → left p ≡ pieces (drop p.at p.text)
left_at p more =
    ap texts (cond-false (over p) [] (words (column p) (drop p.at p.text)) (le-ltb (length p.text) p.at more))
    ∙ texts_words (column p) (drop p.at p.text)

pub left_start : (text : List ℕ) → left (start text) ≡ pieces text
left_start text = left_at (start text) (omega arith)

pub left_first : (k : Key) (rest : List ℕ) → left (first_place k rest) ≡ pieces rest
left_first k rest = left_at (first_place k rest) (omega arith)
