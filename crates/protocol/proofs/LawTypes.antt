-- What is lawful before a `type` or a `var` line is so after it.
use Rattle.std.proofs.Common.{◌≡◌, ℕ, zero, suc, ◌+◌, ◌*◌, ◌^◌, ◌<◌, ◌≤◌, true, eqb, List, [], ◌∷◌, ◌++◌, map, length, get_or, None, Ok, sym, refl, ap, ◌∙◌, subst, mul_assoc, one-mul, mul-one, arith, lit≤}
use Rattle.std.proofs.ByRecursion.{has_get_or}
use Rattle.std.proofs.lemmas.List.{length-map, length_push, get_or-map, map_push}
use Rattle.std.proofs.lemmas.Bool.{ltb-false, leb-false, cond_both, not-false}
use Rattle.names.specs.Names.{place_in}
use Rattle.words.proofs.Repeated.{all_differ}
use Rattle.words.specs.Repeats.{repeat_in}
use Rattle.words.specs.Words.{WordV, words, lengthened, is_name}
use Rattle.tables.proofs.Answered.{unless_ok}
use Rattle.tables.proofs.LineLaws.{ValuesNamed}
use Rattle.tables.proofs.Named.{no_names, none_from, placed, some_inside, each_push, names_push}
use Rattle.tables.specs.Lawful.{Names, LawfulTypes, LawfulVariables, product}
use Rattle.tables.specs.Records.{TypesV, VariablesV, no_types, no_variables}
use Rattle.tables.specs.Taking.{number_in, value_words}
use Rattle.protocol.specs.Taking.{type_taken, variable_taken, type_tests}
use Rattle.protocol.specs.VariableTests.{variable_tests}

-- Where nothing is declared, all is lawful.
pub lawful_no_types : LawfulTypes (no_types)
lawful_no_types = record { few = omega arith; named = no_names; all_valued = refl; values = λ i inside. absurd (omega arith); sizes = refl }

pub lawful_no_variables : (t : TypesV) → LawfulVariables t (no_variables)
lawful_no_variables t =
    record { few = omega arith; named = no_names; all_typed = refl; kinds = λ i inside. absurd (omega arith); states = refl; few_states = lit≤ tt }

-- each word begins behind the one before it, and the first at `c` or later
abbrev Rising : ℕ → List WordV → Type 0
Rising c [] = Unit {0}
Rising c (w ∷ ws) = (c ≤ w.column) × Rising (w.column + 1) ws

rising_earlier : (b c : ℕ) (ws : List WordV) → b ≤ c → Rising c ws → Rising b ws
rising_earlier b c [] le rises = tt
rising_earlier b c (w ∷ ws) le rises = (omega arith, rises.1)

rising_lengthened : (b c : ℕ) (ws : List WordV) → Rising (c + 1) ws → Rising c (lengthened b c ws)
rising_lengthened b c [] rises = (omega arith, tt)
rising_lengthened b c (w ∷ ws) rises = (omega arith, rising_earlier (c + 1) (w.column + 1) ws (omega arith) rises.1)

rising_words : (c : ℕ) (xs : List ℕ) → Rising c (words c xs)
rising_words c [] = (omega arith, tt)
rising_words c (b ∷ xs) =
    let behind = rising_words (c + 1) xs in
    cond_both (eqb b 32) _ _ (Rising c) (λ space. (omega arith, behind)) (λ other. rising_lengthened b c (words (c + 1) xs) behind)

least : (c : ℕ) (ws : List WordV) (d : WordV) (i : ℕ) → Rising c ws → i < length ws → c ≤ (get_or ws i d).column
least c [] d i rises inside = absurd (omega arith)
least c (w ∷ ws) d zero rises inside = rises.0
least c (w ∷ ws) d (suc i) rises inside = omega (arith, rises.0, least (w.column + 1) ws d i rises.1 (omega arith))

-- so that no two begin at the same column
one_column : (c : ℕ) (ws : List WordV) (d : WordV) (i j : ℕ) → Rising c ws → i < length ws → j < length ws → (get_or ws i d).column ≡ (get_or ws j d).column → i ≡ j
one_column c [] d i j rises in-i in-j same = absurd (omega arith)
one_column c (w ∷ ws) d zero zero rises in-i in-j same = refl
one_column c (w ∷ ws) d zero (suc j) rises in-i in-j same = absurd (omega (arith, least (w.column + 1) ws d j rises.1 (omega arith)))
one_column c (w ∷ ws) d (suc i) zero rises in-i in-j same = absurd (omega (arith, least (w.column + 1) ws d i rises.1 (omega arith)))
one_column c (w ∷ ws) d (suc i) (suc j) rises in-i in-j same = ap suc (one_column (w.column + 1) ws d i j rises.1 (omega arith) (omega arith) same)

-- and the bytes of no two are the same
one_word : (ws : List WordV) → Rising 1 ws → repeat_in ws ws ≡ None → (i j : ℕ) → i < length ws → j < length ws → get_or (map (λ w. w.bytes) ws) i [] ≡ get_or (map (λ w. w.bytes) ws) j [] → i ≡ j
one_word ws rises none i j in-i in-j same =
    let d : WordV = record { bytes = []; column = 0 } in
    let bytes : WordV → List ℕ = λ w. w.bytes in
    let alike = sym (get_or-map bytes ws i d [] in-i) ∙ same ∙ get_or-map bytes ws j d [] in-j in
    one_column 1 ws d i j rises in-i in-j (all_differ ws none (get_or ws i d) (get_or ws j d) (has_get_or ws i d in-i) (has_get_or ws j d in-j) alike)

values_names : (values : WordV) → ValuesNamed values → repeat_in (value_words values) (value_words values) ≡ None → Names (map (λ w. w.bytes) (value_words values))
values_names values named none =
    let ws = value_words values in
    let long : length (map (λ w. w.bytes) ws) ≡ length ws = length-map ws (λ w. w.bytes) in
    let rises : Rising 1 ws = cond_both _ [] (words 1 values.bytes) (Rising 1) (λ over. tt) (λ left. rising_words 1 values.bytes) in
    record {
      each = λ i inside. named.each i (omega arith);
      once = λ i j in-i in-j. one_word ws rises none i j (omega arith) (omega arith);
    }

-- A `type` line keeps the types lawful.
pub type_lawful : (name values : WordV) (s after : TypesV) → LawfulTypes s → is_name name.bytes ≡ true → ValuesNamed values → type_taken name values s ≡ Ok after → LawfulTypes after
type_lawful name values s after lawful good named is =
    let ws = value_words values in
    let row = map (λ w. w.bytes) ws in
    let out = unless_ok (type_tests s.names name values) _ after is in
    let room : length s.names < 8 = leb-false 8 (length s.names) out.1.1.1.0 in
    let short : length ws ≤ 16 = ltb-false 16 (length ws) out.1.1.1.1.0 in
    let long : length row ≡ length ws = length-map ws (λ w. w.bytes) in
    let two : 2 ≤ length ws = named.two in
    subst (λ t. LawfulTypes t) out.0
    (record {
      few = omega (arith, length_push s.names name.bytes);
      named = names_push s.names name.bytes lawful.named good (none_from _ out.1.0);
      all_valued = omega (arith, lawful.all_valued, length_push s.names name.bytes, length_push s.values row);
      values = each_push (λ r. (2 ≤ length r) × (length r ≤ 16) × Names r) s.values row [] lawful.values (omega arith, omega arith, values_names values named (none_from _ out.1.1.0));
      sizes = ap (λ sizes. sizes ++ length ws ∷ []) lawful.sizes ∙ ap (λ n. map length s.values ++ n ∷ []) (sym long) ∙ sym (map_push length s.values row);
    })

pub product_push : (sizes kinds : List ℕ) (k : ℕ) → product sizes (kinds ++ k ∷ []) ≡ product sizes kinds * get_or sizes k 0
product_push sizes [] k = mul-one (get_or sizes k 0) ∙ sym (one-mul (get_or sizes k 0))
product_push sizes (j ∷ kinds) k = ap (λ n. get_or sizes j 0 * n) (product_push sizes kinds k) ∙ sym (mul_assoc (get_or sizes j 0) (product sizes kinds) (get_or sizes k 0))

-- A `var` line keeps the variables lawful.
pub variable_lawful : (t : TypesV) (name of : WordV) (s after : VariablesV) → LawfulTypes t → LawfulVariables t s → is_name name.bytes ≡ true → variable_taken t name of s ≡ Ok after → LawfulVariables t after
variable_lawful t name of s after types lawful good is =
    let kind = number_in t.names of in
    let size = get_or t.sizes kind 0 in
    let states = s.states * size in
    let out = unless_ok (variable_tests t name of s) _ after is in
    let room : length s.names < 32 = leb-false 32 (length s.names) out.1.1.1.0 in
    let known : kind < length t.names = some_inside t.names of.bytes (place_in t.names of.bytes) (placed t.names of.bytes) (not-false _ out.1.1.0) in
    subst (λ v. LawfulVariables t v) out.0
    (record {
      few = omega (arith, length_push s.names name.bytes);
      named = names_push s.names name.bytes lawful.named good (none_from _ out.1.0);
      all_typed = omega (arith, lawful.all_typed, length_push s.names name.bytes, length_push s.kinds kind);
      kinds = each_push (λ k. k < length t.names) s.kinds kind 0 lawful.kinds known;
      states = ap (λ n. n * size) lawful.states ∙ sym (product_push t.sizes s.kinds kind);
      few_states = ltb-false (2 ^ 40) states out.1.1.1.1.0;
    })
