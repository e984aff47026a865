-- The key of a line: the word before its first equals sign. (No key's word has one.)
use Rattle.std.specs.Prelude.{ℕ, cond, List, [], ◌∷◌, ◌++◌, Some, None, codes, Option, ◌==◌, ◌≢◌}
use Rattle.std.specs.Borrow.{Bor}
use Rattle.std.specs.Option.{option_map}
use Rattle.keys.specs.declared.Key.{Key}
use Rattle.keys.specs.declared.Key.TheVariants.{Protocol, «Type», Var, Term, Init, Rule, Set, End, Proposal, Inv, Cause}

-- The word of each key.
abbrev pub word : Key → List ℕ
word Protocol = codes "protocol"
word «Type» = codes "type"
word Var = codes "var"
word Term = codes "term"
word Init = codes "init"
word Rule = codes "rule"
word Set = codes "set"
word End = codes "end"
word Proposal = codes "proposal"
word Inv = codes "inv"
word Cause = codes "cause"

-- The number of each key: a protocol file's in the order of its lines, then those that only a proposal file has.
abbrev pub key_number : Key → ℕ
key_number Protocol = 0
key_number «Type» = 1
key_number Var = 2
key_number Term = 3
key_number Init = 4
key_number Rule = 5
key_number Set = 6
key_number End = 7
key_number Proposal = 8
key_number Inv = 9
key_number Cause = 10

-- A line with this key: its word, an equals sign and the rest.
abbrev pub line_with : Key → List ℕ → List ℕ
line_with key rest = (word key ++ codes "=") ++ rest

-- What follows `front` in a text that begins with it.
abbrev pub after : List ℕ → List ℕ → Option (List ℕ)
after [] text = Some text
after (x ∷ front) [] = None
after (x ∷ front) (y ∷ text) = cond (y == x) (after front text) None

-- The first answer, or else the second.
abbrev pub or_else : {A : Type 0} → Option A → Option A → Option A
or_else (Some x) other = Some x
or_else None other = other

-- The first of these keys that the line has, and what follows its equals sign.
abbrev pub first_of : List Key → List ℕ → Option (Key × List ℕ)
first_of [] line = None
first_of (key ∷ keys) line = or_else (option_map (λ rest. (key, rest)) (after (word key ++ codes "=") line)) (first_of keys line)

-- Every key. No key's word and equals sign begin another's, so that the order in which they are asked plays no part.
abbrev pub every_key : List Key
every_key = «Type» ∷ Term ∷ Init ∷ Rule ∷ Var ∷ Set ∷ Inv ∷ End ∷ Cause ∷ Protocol ∷ Proposal ∷ []

-- The key of a line and what follows its equals sign, or none.
abbrev pub key_of : List ℕ → Option (Key × List ℕ)
key_of line = first_of every_key line

-- No key fits the line.
abbrev pub Keyless : List ℕ → Type 0
Keyless line = (key : Key) (rest : List ℕ) → line ≢ line_with key rest

-- The key and the bytes of the rest that a call answers with.
abbrev pub seen : Option (Key × Bor (List ℕ)) → Option (Key × List ℕ)
seen = option_map (λ p. (p.0, p.1.now))
