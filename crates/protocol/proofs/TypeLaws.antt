-- Where the value that comes again stands in a text, what a push adds to what a list stands for, and what the tests of a
-- `type` and of a `var` line leave.
use Rattle.std.proofs.Common.{◌≡◌, ℕ, ◌+◌, ◌*◌, ◌^◌, ◌<◌, ◌≤◌, false, cond, not, eqb, ltb, List, [], ◌∷◌, ◌++◌, map, length, get_or, is_some, IfSome, Some, Ok, Err, unwrap_or, sym, ap, ◌∙◌, subst, ⊎_elim, arith}
use Rattle.std.proofs.lemmas.List.{map_push, append_assoc, length_push, get_or_append_left, get_or_push, get_or_past}
use Rattle.std.proofs.lemmas.Bool.{cond_both, cond-false, cases_order, leb-false, lt-leb, ltb-false}
use Rattle.std.specs.List.{AllByRecursion}
use Rattle.names.specs.Names.{place_in}
use Rattle.text.specs.Faults.{fault}
use Rattle.text.specs.declared.faults.Wrong.TheVariants as wrong
use Rattle.words.specs.Repeats.{start, repeat_in, seen_before}
use Rattle.words.specs.Words.{WordV, words, words_left, lengthened}
use Rattle.tables.proofs.Answered.{unless_ok}
use Rattle.tables.specs.Records.{TypesV, VariablesV}
use Rattle.tables.specs.Taking.{unless, full, value_words}
use Rattle.protocol.specs.Taking.{type_tests}
use Rattle.protocol.specs.TypeTests.{type_size}
use Rattle.protocol.specs.VariableTests.{row, row_or_fault, variable_tests}
use Rattle.protocol.specs.declared.variables.VariableRow.{VariableRow}

-- a column from 1 to `most`
abbrev Inside : ℕ → ℕ → Type 0
Inside most column = (1 ≤ column) × (column ≤ most)

abbrev AllInside : ℕ → List WordV → Type 0
AllInside most ws = AllByRecursion (λ w. Inside most w.column) ws

inside_lengthened : (most b c : ℕ) (ws : List WordV) → Inside most c → AllInside most ws → AllInside most (lengthened b c ws)
inside_lengthened most b c [] here behind = (here, tt)
inside_lengthened most b c (w ∷ ws) here behind = (here, behind.1)

inside_words : (most c : ℕ) (xs : List ℕ) → 1 ≤ c → c + length xs ≤ most → AllInside most (words c xs)
inside_words most c [] low high = ((low, omega arith), tt)
inside_words most c (b ∷ xs) low high =
    let behind = inside_words most (c + 1) xs (omega arith) (omega arith) in
    let here : Inside most c = (low, omega arith) in
    cond_both (eqb b 32) _ _ (AllInside most) (λ space. (here, behind)) (λ other. inside_lengthened most b c (words (c + 1) xs) here behind)

inside_first : (most : ℕ) (all ws : List WordV) → AllInside most ws → IfSome (repeat_in all ws) (Inside most)
inside_first most all [] h = tt
inside_first most all (w ∷ ws) h =
    cond_both (seen_before all w.column w.bytes) (Some w.column) (repeat_in all ws) (λ o. IfSome o (Inside most)) (λ seen. h.0) (λ new. inside_first most all ws h.1)

-- a word that comes again begins within the text
pub repeat_inside : (text : List ℕ) (column : ℕ) → Some column ≡ repeat_in (words_left (start text)) (words_left (start text)) → Inside (length text + 1) column
repeat_inside text column is =
    let most = length text + 1 in
    let all = words_left (start text) in
    let inside : AllInside most all = cond_both _ [] (words 1 text) (AllInside most) (λ over. tt) (λ left. inside_words most 1 text (omega arith) (omega arith)) in
    subst (λ o. IfSome o (Inside most)) (sym is) (inside_first most all all inside)

-- A list with one more, of which the last is `y` to `f`.
module _ {X Y : Type 0} (f : X → Y) (xs ys : List X) (x : X) (y : Y) (pushed : ys ≡ xs ++ x ∷ []) (same : f x ≡ y) where
  pub mapped_push : map f ys ≡ map f xs ++ y ∷ []
  mapped_push = ap (map f) pushed ∙ map_push f xs x ∙ ap (λ z. map f xs ++ z ∷ []) same

  -- where it was the first of what is left, both together stay the same
  pub mapped_moved : (left less : List Y) → left ≡ y ∷ less → map f ys ++ less ≡ map f xs ++ left
  mapped_moved left less taken =
      ap (λ zs. zs ++ less) mapped_push ∙ append_assoc (map f xs) (y ∷ []) less ∙ ap (λ zs. map f xs ++ zs) (sym taken)

-- at most 16 values in each row, one row more
pub few_pushed : (rows : List (List (List ℕ))) (row : List (List ℕ)) → ((k : ℕ) → length (get_or rows k []) ≤ 16) → length row ≤ 16 → (k : ℕ) → length (get_or (rows ++ row ∷ []) k []) ≤ 16
few_pushed rows row few small k =
    ⊎_elim
    (λ here. omega (arith, ap length (get_or_push rows row [] k (sym here))))
    (⊎_elim
    (λ before. omega (arith, few k, ap length (get_or_append_left rows (row ∷ []) [] k before)))
    (λ past. let behind : length (rows ++ row ∷ []) ≤ k = omega (arith, length_push rows row) in
    let none : length (get_or (rows ++ row ∷ []) k []) ≡ 0 = ap length (get_or_past (rows ++ row ∷ []) k [] behind) in
    omega arith))
    (cases_order k (length rows))

-- a `type` line that passes its tests has room for its type, and few values
pub type_room : (names : List (List ℕ)) (name values : WordV) (size : ℕ) → type_size names name values ≡ Ok size → (length names < 8) × (length (value_words values) ≤ 16)
type_room names name values size is =
    let out = unless_ok (type_tests names name values) (length (value_words values)) size is in
    (leb-false 8 (length names) out.1.1.1.0, ltb-false 16 (length (value_words values)) out.1.1.1.1.0)

-- a `var` line that passes its tests has room for its variable, and few states
pub variable_room : (types : TypesV) (name of : WordV) (s : VariablesV) (r : VariableRow) → row_or_fault types name of s ≡ Ok r → (length s.names < 32) × (r.states ≤ 2 ^ 40)
variable_room types name of s r is =
    let out = unless_ok (variable_tests types name of s) (row types of s) r is in
    (leb-false 32 (length s.names) out.1.1.1.0, subst (λ (q : VariableRow). q.states ≤ 2 ^ 40) out.0 (ltb-false (2 ^ 40) (row types of s).states out.1.1.1.1.0))

-- a `var` line whose names are right, where there is room
pub row_tested : (types : TypesV) (name of : WordV) (s : VariablesV) (k size : ℕ) → false ≡ is_some (place_in s.names name.bytes) → Some k ≡ place_in types.names of.bytes → length s.names < 32 → size ≡ get_or types.sizes k 0
    → cond (ltb (2 ^ 40) (s.states * size)) (Err (fault wrong.TooManyStates 1)) (Ok (record { kind = k; states = s.states * size })) ≡ row_or_fault types name of s
row_tested types name of s k size new named room sized =
    ap (λ n. cond (ltb (2 ^ 40) (s.states * n)) (Err (fault wrong.TooManyStates 1)) (Ok (record { kind = k; states = s.states * n }))) sized
    ∙ sym
    (cond-false _ _ _ (sym new)
    ∙ ap (λ o. unless ((not (is_some o), fault wrong.Unknown of.column) ∷ full 32 s.names ∷ (ltb (2 ^ 40) (s.states * get_or types.sizes (unwrap_or o 0) 0), fault wrong.TooManyStates 1) ∷ []) (record { kind = unwrap_or o 0; states = s.states * get_or types.sizes (unwrap_or o 0) 0 })) (sym named)
    ∙ cond-false _ _ _ (lt-leb 32 (length s.names) room))
