-- The written lines of the types and of the variables are taken again, one after another.
use Rattle.std.proofs.Common.{◌≡◌, ℕ, zero, suc, ◌*◌, ◌^◌, ◌<◌, ◌≤◌, false, not, ◌&&◌, ltb, List, [], ◌∷◌, ◌++◌, length, get_or, take, is_some, Some, None, Ok, unwrap_or, sym, refl, ap, ◌∙◌, subst, ⊎_elim, le_trans, mul-le-mul_left, arith, take-suc}
use native.Mathlib.Nat.{one-le-mul}
use Rattle.std.proofs.ByRecursion.{All-from_get_or}
use Rattle.std.proofs.lemmas.Slice.Eq.{bytes_eq-Decides}
use Rattle.std.proofs.lemmas.List.{length-map, length-take-le, get_or-map}
use Rattle.std.proofs.lemmas.Bool.{le-ltb, lt-leb, cases_Bool, and_left, and_right, or_from, cond-false}
use Rattle.std.specs.List.{AllByRecursion}
use Rattle.std.specs.Str.{bytes_eq}
use Rattle.names.specs.Names.{place_in}
use Rattle.words.specs.Repeats.{seen_before, repeat_in}
use Rattle.words.specs.Words.{WordV}
use Rattle.keys.specs.declared.Key.TheVariants as key
use Rattle.writing.proofs.Oks.{go_on}
use Rattle.writing.specs.Said.{Said, texts}
use Rattle.writing.specs.Said as says
use Rattle.writing.specs.Sound.{Named}
use Rattle.tables.proofs.Answered.{unless_none}
use Rattle.tables.proofs.FormLaws.{name_new, place_found}
use Rattle.tables.specs.Lawful.{Names, LawfulTypes, LawfulVariables, product}
use Rattle.tables.specs.Records.{TypesV, VariablesV}
use Rattle.tables.specs.Taking.{number_in, value_words}
use Rattle.protocol.specs.Reading.{with_types, with_variables}
use Rattle.protocol.specs.Records.{ProtocolV}
use Rattle.protocol.specs.Taking.{type_taken, variable_taken, type_tests}
use Rattle.protocol.specs.VariableTests.{variable_tests}
use Rattle.protocol.specs.Written.{paired, type_lines, variable_lines}
use Rattle.protocol.proofs.Climbs.{Adds}
use Rattle.protocol.proofs.LawTypes.{product_push}

-- lists of the same length, one by one
module _ {A B C : Type 0} (f : A → B → C) where
  pub length_paired : (xs : List A) (ys : List B) → length xs ≡ length ys → length (paired f xs ys) ≡ length xs
  length_paired [] ys same = refl
  length_paired (x ∷ xs) [] same = absurd (omega arith)
  length_paired (x ∷ xs) (y ∷ ys) same = omega (arith, length_paired xs ys (omega arith))

  pub getD_paired : (xs : List A) (ys : List B) (i : ℕ) (a : A) (b : B) (c : C) → length xs ≡ length ys → i < length xs → get_or (paired f xs ys) i c ≡ f (get_or xs i a) (get_or ys i b)
  getD_paired [] ys i a b c same inside = absurd (omega arith)
  getD_paired (x ∷ xs) [] i a b c same inside = absurd (omega arith)
  getD_paired (x ∷ xs) (y ∷ ys) zero a b c same inside = refl
  getD_paired (x ∷ xs) (y ∷ ys) (suc i) a b c same inside = getD_paired xs ys i a b c (omega arith) (omega arith)

-- words of which no two have the same bytes: none comes again
seen_none : (all : List WordV) (column : ℕ) (bytes : List ℕ) → AllByRecursion (λ (u : WordV). u.bytes ≡ bytes → u.column ≡ column) all → seen_before all column bytes ≡ false
seen_none [] column bytes same = refl
seen_none (u ∷ all) column bytes same =
    or_from (ltb u.column column && bytes_eq u.bytes bytes) (seen_before all column bytes)
    (⊎_elim
    (λ alike. and_left (ltb u.column column) (bytes_eq u.bytes bytes) (le-ltb u.column column (omega (arith, same.0 ((bytes_eq-Decides u.bytes bytes).0 alike)))))
    (λ other. and_right (ltb u.column column) (bytes_eq u.bytes bytes) other)
    (cases_Bool (bytes_eq u.bytes bytes)))
    (seen_none all column bytes same.1)

first_none : (all ws : List WordV) → AllByRecursion (λ (w : WordV). AllByRecursion (λ (u : WordV). u.bytes ≡ w.bytes → u.column ≡ w.column) all) ws → repeat_in all ws ≡ None
first_none all [] same = refl
first_none all (w ∷ ws) same = cond-false (seen_before all w.column w.bytes) _ _ (seen_none all w.column w.bytes same.0) ∙ first_none all ws same.1

no_repeat : (ws : List WordV) → Names (texts ws) → repeat_in ws ws ≡ None
no_repeat ws named =
    let d : WordV = record { bytes = []; column = 0 } in
    let bytes : WordV → List ℕ = λ w. w.bytes in
    let long = length-map ws bytes in
    first_none ws ws
    (All-from_get_or _ ws d (λ i in-i.
    All-from_get_or _ ws d (λ j in-j same.
    let here : j ≡ i = named.once j i (omega arith) (omega arith) (get_or-map bytes ws j d [] in-j ∙ same ∙ sym (get_or-map bytes ws i d [] in-i)) in
    ap (λ k. (get_or ws k d).column) here)))

-- the first types, and the first variables
abbrev pub first_types : ℕ → TypesV → TypesV
first_types i t = record { names = take i t.names; values = take i t.values; sizes = take i t.sizes }

abbrev pub first_variables : TypesV → ℕ → VariablesV → VariablesV
first_variables t i v = record { names = take i v.names; kinds = take i v.kinds; states = product t.sizes (take i v.kinds) }

module _ (t : TypesV) (laws : LawfulTypes t) where
  sizes_long : length t.sizes ≡ length t.names
  sizes_long = ap length laws.sizes ∙ length-map t.values length ∙ laws.all_valued

  pub size_is : (i : ℕ) → i < length t.names → get_or t.sizes i 0 ≡ length (get_or t.values i [])
  size_is i inside = ap (λ sizes. get_or sizes i 0) laws.sizes ∙ get_or-map length t.values i [] 0 (omega (arith, laws.all_valued))

  -- the line of a type turns the types before it into those up to it
  pub type_again : (i : ℕ) → i < length t.names → (w vs : WordV) → w.bytes ≡ get_or t.names i [] → texts (value_words vs) ≡ get_or t.values i [] → type_taken w vs (first_types i t) ≡ Ok (first_types (suc i) t)
  type_again i inside w vs named valued =
      let ws = value_words vs in
      let names = take i t.names in
      let in-values : i < length t.values = omega (arith, laws.all_valued) in
      let in-sizes : i < length t.sizes = omega (arith, sizes_long) in
      let of = laws.values i in-values in
      let counted : length ws ≡ length (get_or t.values i []) = sym (length-map ws (λ w. w.bytes)) ∙ ap length valued in
      let sized : length ws ≡ get_or t.sizes i 0 = counted ∙ sym (size_is i inside) in
      let many : length names ≡ i = length-take-le i t.names (omega arith) in
      unless_none (type_tests names w vs) _ (
        ap (λ n. is_some (place_in names n)) named ∙ name_new t.names i laws.named inside,
        (
          ap is_some (no_repeat ws (subst Names (sym valued) of.2)),
          (
            lt-leb 8 (length names) (omega (arith, laws.few)),
            (
              le-ltb 16 (length ws) (omega (arith, of.1)),
              tt,
            ),
          ),
        ),
      )
      ∙ ap Ok
      (λ k. record {
        names = (ap (λ n. names ++ n ∷ []) named ∙ sym (take-suc t.names i [] inside)) k;
        values = (ap (λ n. take i t.values ++ n ∷ []) valued ∙ sym (take-suc t.values i [] in-values)) k;
        sizes = (ap (λ n. take i t.sizes ++ n ∷ []) sized ∙ sym (take-suc t.sizes i 0 in-sizes)) k;
      })

  -- Each type's line adds it.
  pub type_adds : (p : ProtocolV) (i : ℕ) → i < length (type_lines t) → Adds key.«Type» (get_or (type_lines t) i says.End) (with_types p (first_types i t)) (with_types p (first_types (suc i) t))
  type_adds p i within =
      let even = sym laws.all_valued in
      let inside : i < length t.names = omega (arith, length_paired says.«Type» t.names t.values even) in
      let of = laws.values i (omega (arith, laws.all_valued)) in
      let values = get_or t.values i [] in
      let is = getD_paired says.«Type» t.names t.values i [] [] says.End even inside in
      subst (λ s. Adds key.«Type» s (with_types p (first_types i t)) (with_types p (first_types (suc i) t))) (sym is)
      (record {
        kind = refl;
        sound = record { belonging = refl; parts = (laws.named.each i inside, of.0, All-from_get_or Named values [] of.2.each) };
        turns = λ w vs named valued. go_on (type_taken w vs (first_types i t)) _ (first_types (suc i) t) (type_again i inside w vs named valued);
      })

-- fewer variables have no more states
positive : (sizes kinds : List ℕ) → AllByRecursion (λ k. 1 ≤ get_or sizes k 0) kinds → 1 ≤ product sizes kinds
positive sizes [] each = omega arith
positive sizes (k ∷ kinds) each = one-le-mul each.0 (positive sizes kinds each.1)

fewer : (sizes kinds : List ℕ) (i : ℕ) → AllByRecursion (λ k. 1 ≤ get_or sizes k 0) kinds → product sizes (take i kinds) ≤ product sizes kinds
fewer sizes kinds zero each = positive sizes kinds each
fewer sizes [] (suc i) each = omega arith
fewer sizes (k ∷ kinds) (suc i) each = mul-le-mul_left (get_or sizes k 0) (fewer sizes kinds i each.1)

module _ (t : TypesV) (types : LawfulTypes t) (v : VariablesV) (laws : LawfulVariables t v) where
  all_sized : AllByRecursion (λ k. 1 ≤ get_or t.sizes k 0) v.kinds
  all_sized =
      All-from_get_or (λ k. 1 ≤ get_or t.sizes k 0) v.kinds 0
      (λ i inside.
      let k = get_or v.kinds i 0 in
      let known : k < length t.names = laws.kinds i inside in
      omega (arith, size_is t types k known, (types.values k (omega (arith, types.all_valued))).0))

  pub variable_again : (i : ℕ) → i < length v.names → (w o : WordV) → w.bytes ≡ get_or v.names i [] → o.bytes ≡ get_or t.names (get_or v.kinds i 0) []
      → variable_taken t w o (first_variables t i v) ≡ Ok (first_variables t (suc i) v)
  variable_again i inside w o named typed =
      let names = take i v.names in
      let kinds = take i v.kinds in
      let k = get_or v.kinds i 0 in
      let in-kinds : i < length v.kinds = omega (arith, laws.all_typed) in
      let found : place_in t.names o.bytes ≡ Some k = ap (place_in t.names) typed ∙ place_found t.names k types.named (laws.kinds i in-kinds) in
      let kind : number_in t.names o ≡ k = ap (λ q. unwrap_or q 0) found in
      let one_more = take-suc v.kinds i 0 in-kinds in
      let states : product t.sizes kinds * get_or t.sizes (number_in t.names o) 0 ≡ product t.sizes (take (suc i) v.kinds) =
      ap (λ n. product t.sizes kinds * get_or t.sizes n 0) kind ∙ sym (product_push t.sizes kinds k) ∙ ap (product t.sizes) (sym one_more) in
      let few : product t.sizes (take (suc i) v.kinds) ≤ product t.sizes v.kinds = fewer t.sizes v.kinds (suc i) all_sized in
      let most : product t.sizes kinds * get_or t.sizes (number_in t.names o) 0 ≤ 2 ^ 40 = subst (λ n. n ≤ 2 ^ 40) (sym states) (le_trans few (subst (λ n. n ≤ 2 ^ 40) laws.states laws.few_states)) in
      let many : length names ≡ i = length-take-le i v.names (omega arith) in
      unless_none (variable_tests t w o (first_variables t i v)) _ (
        ap (λ n. is_some (place_in names n)) named ∙ name_new v.names i laws.named inside,
        (
          ap (λ q. not (is_some q)) found,
          (
            lt-leb 32 (length names) (omega (arith, laws.few)),
            (
              le-ltb (2 ^ 40) (product t.sizes kinds * get_or t.sizes (number_in t.names o) 0) most,
              tt,
            ),
          ),
        ),
      )
      ∙ ap Ok
      (λ j. record {
        names = (ap (λ n. names ++ n ∷ []) named ∙ sym (take-suc v.names i [] inside)) j;
        kinds = (ap (λ n. kinds ++ n ∷ []) kind ∙ sym one_more) j;
        states = states j;
      })

  -- Each variable's line adds it.
  pub variable_adds : (p : ProtocolV) → p.types ≡ t → (i : ℕ) → i < length (variable_lines t v) → Adds key.Var (get_or (variable_lines t v) i says.End) (with_variables p (first_variables t i v)) (with_variables p (first_variables t (suc i) v))
  variable_adds p of_types i within =
      let line = λ (name : List ℕ) (kind : ℕ). says.Var name (get_or t.names kind []) in
      let even = sym laws.all_typed in
      let inside : i < length v.names = omega (arith, length_paired line v.names v.kinds even) in
      let known = laws.kinds i (omega (arith, laws.all_typed)) in
      let is = getD_paired line v.names v.kinds i [] 0 says.End even inside in
      subst (λ s. Adds key.Var s (with_variables p (first_variables t i v)) (with_variables p (first_variables t (suc i) v))) (sym is)
      (record {
        kind = refl;
        sound = record { belonging = refl; parts = (laws.named.each i inside, types.named.each (get_or v.kinds i 0) known) };
        turns = λ w o named typed.
            go_on (variable_taken p.types w o (first_variables t i v)) _ (first_variables t (suc i) v)
            (ap (λ types. variable_taken types w o (first_variables t i v)) of_types ∙ variable_again i inside w o named typed);
      })
