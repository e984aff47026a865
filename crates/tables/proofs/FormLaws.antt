-- A term that was read is written with the words it was read from, and a term that is written is read again.
use Rattle.std.proofs.Common.{◌≡◌, ℕ, ◌<◌, ◌≤◌, true, false, cond, not, leb, List, [], ◌∷◌, ◌++◌, length, get_or, take, is_some, Some, None, Ok, Err, Option, Result, unwrap_or, sym, refl, ap, ◌∙◌, subst, arith}
use Rattle.std.proofs.lemmas.List.{length-map, get_or-map, get_or_at, get_or-take, take_at, length-append, length-take-le}
use Rattle.std.proofs.lemmas.Bool.{leb-false, lt-leb, cond-false, not-false, false≢true}
use Rattle.names.specs.Names.{place_in}
use Rattle.terms.specs.Sorts.{Declared, sort, first_fault, tests}
use Rattle.terms.specs.Sorts as sorts
use Rattle.terms.specs.declared.Sort.{Sort}
use Rattle.terms.specs.declared.Sort.TheVariants.{Formula}
use Rattle.terms.specs.declared.Term.{Term}
use Rattle.terms.specs.declared.Term.TheVariants as term
use Rattle.text.specs.declared.faults.LineFault.{LineFault}
use Rattle.words.specs.Words.{WordV}
use Rattle.line.specs.Forms.{FormV}
use Rattle.line.specs.Forms as form
use Rattle.writing.proofs.Oks.{go_on}
use Rattle.writing.specs.Forms.{FormSaid, form_said}
use Rattle.writing.specs.Forms as says
use Rattle.writing.specs.Sound.{FormSound}
use Rattle.tables.specs.Lawful.{Names, LawfulTypes, LawfulVariables, LawfulTerms, declared_by}
use Rattle.tables.specs.Records.{TypesV, VariablesV, TermsV}
use Rattle.tables.specs.Taking.{unless, unknown, full, number_in, named_term, columns, at_argument, new_term, term_taken}
use Rattle.tables.specs.Written.{form_of}
use Rattle.tables.proofs.Answered.{unless_ok}
use Rattle.tables.proofs.Named.{Placed, placed}

-- a name that is found stands at its number
name_at_place : (names : List (List ℕ)) (name : List ℕ) (o : Option ℕ) → Placed names name o → is_some o ≡ true → get_or names (unwrap_or o 0) [] ≡ name
name_at_place names name None so is = absurd (false≢true is)
name_at_place names name (Some i) so is = so.1

pub found_name : (names : List (List ℕ)) (name : List ℕ) → is_some (place_in names name) ≡ true → get_or names (unwrap_or (place_in names name) 0) [] ≡ name
found_name names name is = name_at_place names name (place_in names name) (placed names name) is

-- and among names of which none occurs twice, a name is found at its number
place_is : (names : List (List ℕ)) (i : ℕ) (o : Option ℕ) → Names names → i < length names → Placed names (get_or names i []) o → o ≡ Some i
place_is names i None named inside so = absurd (so i inside refl)
place_is names i (Some k) named inside so = ap Some (named.once k i so.0 inside so.1)

pub place_found : (names : List (List ℕ)) (i : ℕ) → Names names → i < length names → place_in names (get_or names i []) ≡ Some i
place_found names i named inside = place_is names i (place_in names (get_or names i [])) named inside (placed names (get_or names i []))

-- and it is new among those before it
nowhere : (names : List (List ℕ)) (name : List ℕ) (o : Option ℕ) → ((k : ℕ) → k < length names → get_or names k [] ≡ name → ⊥) → Placed names name o → is_some o ≡ false
nowhere names name None other so = refl
nowhere names name (Some k) other so = absurd (other k so.0 so.1)

pub name_new : (names : List (List ℕ)) (i : ℕ) → Names names → i < length names → is_some (place_in (take i names) (get_or names i [])) ≡ false
name_new names i named inside =
    let long = length-take-le i names (omega arith) in
    nowhere (take i names) (get_or names i []) (place_in (take i names) (get_or names i []))
    (λ k before same.
    let low : k < i = omega arith in
    let here : k ≡ i = named.once k i (omega arith) inside (sym (get_or-take i names k [] low) ∙ same) in omega arith)
    (placed (take i names) (get_or names i []))

-- A name that is found passes the test of an unknown one.
pub passes_known : {A : Type 0} (names : List (List ℕ)) (w : WordV) (answer : Result A LineFault) (e : LineFault) → is_some (place_in names w.bytes) ≡ true → cond (unknown names w).0 (Err e) answer ≡ answer
passes_known names w answer e is = cond-false (unknown names w).0 (Err e) answer (ap not is)

module _ (types : TypesV) (variables : VariablesV) where
  -- the term that is said, by numbers
  abbrev number_of : List (List ℕ) → List ℕ → ℕ
  number_of names name = unwrap_or (place_in names name) 0

  abbrev values_of : List ℕ → List (List ℕ)
  values_of of = get_or types.values (number_of types.names of) []

  abbrev term_said : FormSaid → Term
  term_said (says.Var name) = term.Var (number_of variables.names name)
  term_said (says.Val of value) = term.Val (number_of types.names of) (number_of (values_of of) value)
  term_said says.True = term.True
  term_said says.False = term.False
  term_said (says.Eq a b) = term.Eq a b
  term_said (says.Not a) = term.Not a
  term_said (says.And a b) = term.And a b
  term_said (says.Or a b) = term.Or a b
  term_said (says.Imp a b) = term.Imp a b
  term_said (says.Ite f a b) = term.Ite f a b

  -- its names are declared
  abbrev Declares : FormSaid → Type 0
  Declares (says.Var name) = is_some (place_in variables.names name) ≡ true
  Declares (says.Val of value) = (is_some (place_in types.names of) ≡ true) × (is_some (place_in (values_of of) value) ≡ true)
  Declares says.True = Unit {0}
  Declares says.False = Unit {0}
  Declares (says.Eq a b) = Unit {0}
  Declares (says.Not a) = Unit {0}
  Declares (says.And a b) = Unit {0}
  Declares (says.Or a b) = Unit {0}
  Declares (says.Imp a b) = Unit {0}
  Declares (says.Ite f a b) = Unit {0}

  -- a form that is read says its term
  abbrev Says : FormSaid → Term → Type 0
  Says s t = form_of types variables t ≡ s

  said_ok : (s : FormSaid) (t u : Term) → Says s t → ◌≡◌ {A = Result Term LineFault} (Ok t) (Ok u) → Says s u
  said_ok s t u so is = let same : t ≡ u = cc in subst (Says s) same so

  -- A term that is read from a form is written as that form.
  pub form_kept : (f : FormV) (t : Term) → named_term types variables f ≡ Ok t → form_of types variables t ≡ form_said f
  form_kept (form.Var name) t is =
      let out = unless_ok (unknown variables.names name ∷ []) (term.Var (number_in variables.names name)) t is in
      subst (Says (says.Var name.bytes)) out.0 (ap says.Var (found_name variables.names name.bytes (not-false _ out.1.0)))
  form_kept (form.Val of value) t is =
      let names = get_or types.values (number_in types.names of) [] in
      let out = unless_ok (unknown types.names of ∷ unknown names value ∷ []) (term.Val (number_in types.names of) (number_in names value)) t is in
      let kind = found_name types.names of.bytes (not-false _ out.1.0) in
      let one = found_name names value.bytes (not-false _ out.1.1.0) in
      subst (Says (says.Val of.bytes value.bytes)) out.0 (λ i. says.Val (kind i) (one i))
  form_kept form.True t is = said_ok says.True term.True t refl is
  form_kept form.False t is = said_ok says.False term.False t refl is
  form_kept (form.Eq a b) t is = said_ok (says.Eq a.value b.value) (term.Eq a.value b.value) t refl is
  form_kept (form.Not a) t is = said_ok (says.Not a.value) (term.Not a.value) t refl is
  form_kept (form.And a b) t is = said_ok (says.And a.value b.value) (term.And a.value b.value) t refl is
  form_kept (form.Or a b) t is = said_ok (says.Or a.value b.value) (term.Or a.value b.value) t refl is
  form_kept (form.Imp a b) t is = said_ok (says.Imp a.value b.value) (term.Imp a.value b.value) t refl is
  form_kept (form.Ite f a b) t is = said_ok (says.Ite f.value a.value b.value) (term.Ite f.value a.value b.value) t refl is

  -- the term is up to what the form says, if its names are declared
  named_said : (f : FormV) → Declares (form_said f) → named_term types variables f ≡ Ok (term_said (form_said f))
  named_said (form.Var name) known = passes_known variables.names name _ _ known
  named_said (form.Val of value) known =
      passes_known types.names of _ _ known.0 ∙ passes_known (values_of of.bytes) value _ _ known.1
  named_said form.True known = refl
  named_said form.False known = refl
  named_said (form.Eq a b) known = refl
  named_said (form.Not a) known = refl
  named_said (form.And a b) known = refl
  named_said (form.Or a b) known = refl
  named_said (form.Imp a b) known = refl
  named_said (form.Ite f a b) known = refl

  -- what a term speaks of is there: variables, types and values that are declared, and terms among the first `n`
  abbrev pub Within : ℕ → Term → Type 0
  Within n (term.Var v) = v < length variables.names
  Within n (term.Val of value) = (of < length types.names) × (value < length (get_or types.values of []))
  Within n term.True = Unit {0}
  Within n term.False = Unit {0}
  Within n (term.Eq a b) = (a < n) × (b < n)
  Within n (term.Not a) = a < n
  Within n (term.And a b) = (a < n) × (b < n)
  Within n (term.Or a b) = (a < n) × (b < n)
  Within n (term.Imp a b) = (a < n) × (b < n)
  Within n (term.Ite f a b) = (f < n) × (a < n) × (b < n)

  module _ (laws : LawfulTypes types) (declares : LawfulVariables types variables) where
    values_named : (of : ℕ) → of < length types.names → Names (get_or types.values of [])
    values_named of inside = (laws.values of (omega (arith, laws.all_valued))).2

    -- its names are found where they were taken from
    declared_again : (n : ℕ) (t : Term) → Within n t → Declares (form_of types variables t) × (term_said (form_of types variables t) ≡ t)
    declared_again n (term.Var v) inside =
        let at = place_found variables.names v declares.named inside in
        (ap is_some at, ap (λ o. term.Var (unwrap_or o 0)) at)
    declared_again n (term.Val of value) inside =
        let at = place_found types.names of laws.named inside.0 in
        let one = place_found (get_or types.values of []) value (values_named of inside.0) inside.1 in
        let among = λ (o : Option ℕ). place_in (get_or types.values (unwrap_or o 0) []) (get_or (get_or types.values of []) value []) in
        let there : among (place_in types.names (get_or types.names of [])) ≡ Some value = ap among at ∙ one in
        ((ap is_some at, ap is_some there), (λ i. term.Val (unwrap_or (at i) 0) (unwrap_or (there i) 0)))
    declared_again n term.True inside = (tt, refl)
    declared_again n term.False inside = (tt, refl)
    declared_again n (term.Eq a b) inside = (tt, refl)
    declared_again n (term.Not a) inside = (tt, refl)
    declared_again n (term.And a b) inside = (tt, refl)
    declared_again n (term.Or a b) inside = (tt, refl)
    declared_again n (term.Imp a b) inside = (tt, refl)
    declared_again n (term.Ite f a b) inside = (tt, refl)

    -- A form that says a term is read as that term.
    pub form_again : (n : ℕ) (t : Term) (f : FormV) → Within n t → form_said f ≡ form_of types variables t → named_term types variables f ≡ Ok t
    form_again n t f inside says-it =
        let again = declared_again n t inside in
        named_said f (subst Declares (sym says-it) again.0) ∙ ap (λ s. Ok (term_said s)) says-it ∙ ap Ok again.1

    -- The words of a term are names and short numbers.
    pub form_sound : (n : ℕ) (t : Term) → n ≤ 512 → Within n t → FormSound (form_of types variables t)
    form_sound n (term.Var v) few inside = declares.named.each v inside
    form_sound n (term.Val of value) few inside = (laws.named.each of inside.0, (values_named of inside.0).each value inside.1)
    form_sound n term.True few inside = tt
    form_sound n term.False few inside = tt
    form_sound n (term.Eq a b) few inside = (omega (arith, inside.0), omega (arith, inside.1))
    form_sound n (term.Not a) few inside = omega arith
    form_sound n (term.And a b) few inside = (omega (arith, inside.0), omega (arith, inside.1))
    form_sound n (term.Or a b) few inside = (omega (arith, inside.0), omega (arith, inside.1))
    form_sound n (term.Imp a b) few inside = (omega (arith, inside.0), omega (arith, inside.1))
    form_sound n (term.Ite f a b) few inside = (omega (arith, inside.0), omega (arith, inside.1), omega (arith, inside.2))

    -- A term that has a sort speaks of what is there.
    abbrev d : Declared
    d = declared_by types variables

    abbrev NoneApplies : sorts.Tests → Type 0
    NoneApplies [] = Unit {0}
    NoneApplies (test ∷ others) = (test.0 ≡ false) × NoneApplies others

    none_applies : (ts : sorts.Tests) (a x : Sort) → sorts.unless (first_fault ts) a ≡ Ok x → NoneApplies ts
    none_applies [] a x is = tt
    none_applies ((true, fault) ∷ ts) a x is = absurd (let z : ◌≡◌ {A = ℕ} 0 1 = cc in omega arith)
    none_applies ((false, fault) ∷ ts) a x is = (refl, none_applies ts a x is)

    within_from : (s : List Sort) (t : Term) → NoneApplies (tests d s t) → Within (length s) t
    within_from s (term.Var v) none = omega (arith, leb-false (length variables.kinds) v none.0, declares.all_typed)
    within_from s (term.Val of value) none =
        let long : length types.sizes ≡ length types.values = ap length laws.sizes ∙ length-map types.values length in
        let inside : of < length types.values = omega (arith, leb-false (length types.sizes) of none.0) in
        let size : get_or types.sizes of 0 ≡ length (get_or types.values of []) = ap (λ sizes. get_or sizes of 0) laws.sizes ∙ get_or-map length types.values of [] 0 inside in
        (omega (arith, laws.all_valued), omega (arith, leb-false (get_or types.sizes of 0) value none.1.0))
    within_from s term.True none = tt
    within_from s term.False none = tt
    within_from s (term.Eq a b) none = (leb-false (length s) a none.0, leb-false (length s) b none.1.0)
    within_from s (term.Not a) none = leb-false (length s) a none.0
    within_from s (term.And a b) none = (leb-false (length s) a none.0, leb-false (length s) b none.1.0)
    within_from s (term.Or a b) none = (leb-false (length s) a none.0, leb-false (length s) b none.1.0)
    within_from s (term.Imp a b) none = (leb-false (length s) a none.0, leb-false (length s) b none.1.0)
    within_from s (term.Ite f a b) none = (leb-false (length s) f none.0, leb-false (length s) a none.1.0, leb-false (length s) b none.1.1.0)

    pub sorted_within : (s : List Sort) (t : Term) (x : Sort) → sort d s t ≡ Ok x → Within (length s) t
    sorted_within s t x is = within_from s t (none_applies (tests d s t) (sorts.result_sort d s t) x is)

    -- A `term` line that says a term that has its sort adds just that term, if there is room.
    module _ (done : TermsV) (t : Term) (x : Sort) (sorted : sort d done.sorts t ≡ Ok x) (room : length done.terms < 512) where
      pub said_again : (f : FormV) → form_said f ≡ form_of types variables t → new_term types variables f done ≡ Ok (t, x)
      said_again f says-it =
          go_on (named_term types variables f) _ t (form_again (length done.sorts) t f (sorted_within done.sorts t x sorted) says-it)
          ∙ go_on (at_argument (columns f) (sort d done.sorts t)) (λ s. unless (full 512 done.terms ∷ []) (t, s)) x (ap (at_argument (columns f)) sorted)
          ∙ cond-false (leb 512 (length done.terms)) _ _ (lt-leb 512 (length done.terms) room)

      pub said_taken_again : (f : FormV) → form_said f ≡ form_of types variables t → term_taken types variables f done ≡ Ok (record { terms = done.terms ++ t ∷ []; sorts = done.sorts ++ x ∷ [] })
      said_taken_again f says-it = go_on (new_term types variables f done) _ (t, x) (said_again f says-it)

    -- The next of the terms of a lawful table has its sort among those before it, and there is room for it.
    module _ (done : TermsV) (t : Term) (x : Sort) (ts : List Term) (xs : List Sort) (even : length done.sorts ≡ length done.terms) (whole : LawfulTerms d (record { terms = done.terms ++ t ∷ ts; sorts = done.sorts ++ x ∷ xs })) where
      pub term_room : length done.terms < 512
      term_room = omega (arith, whole.few, length-append done.terms (t ∷ ts))

      pub next_sorted : sort d done.sorts t ≡ Ok x
      next_sorted =
          let n = length done.terms in
          (λ i. sort d (sym (take_at done.sorts (x ∷ xs) n even) i) (sym (get_or_at done.terms t ts term.True n refl) i))
          ∙ whole.sorted n (omega (arith, length-append done.terms (t ∷ ts)))
          ∙ ap Ok (get_or_at done.sorts x xs Formula n even)

      pub next_within : Within (length done.sorts) t
      next_within = sorted_within done.sorts t x next_sorted

      -- What is written from it may stand in a file.
      pub next_sound : FormSound (form_of types variables t)
      next_sound = form_sound (length done.sorts) t (omega (arith, term_room)) next_within

      -- A `term` line that says it adds just it.
      pub term_again : (f : FormV) → form_said f ≡ form_of types variables t → new_term types variables f done ≡ Ok (t, x)
      term_again f says-it = said_again done t x next_sorted term_room f says-it

      pub term_taken_again : (f : FormV) → form_said f ≡ form_of types variables t → term_taken types variables f done ≡ Ok (record { terms = done.terms ++ t ∷ []; sorts = done.sorts ++ x ∷ [] })
      term_taken_again f says-it = said_taken_again done t x next_sorted term_room f says-it
