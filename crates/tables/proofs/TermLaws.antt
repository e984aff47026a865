-- What a `term` line adds obeys the limits and sorts.
use Rattle.std.proofs.Common.{◌≡◌, ℕ, ◌<◌, false, List, [], ◌∷◌, ◌++◌, length, get_or, take, Ok, Err, Result, sym, refl, ap, ◌∙◌, subst, ⊎_elim, arith}
use Rattle.std.proofs.lemmas.List.{length_push, get_or_push, get_or_append_left, take-append-le, take_at}
use Rattle.std.proofs.lemmas.Bool.{leb-false, cases_lt, true≢false}
use Rattle.terms.specs.Sorts.{Declared, sort, sort_of_number, sort_is_value}
use Rattle.terms.specs.declared.Sort.{Sort}
use Rattle.terms.specs.declared.Sort.TheVariants.{Formula, Value}
use Rattle.terms.specs.declared.Term.{Term}
use Rattle.terms.specs.declared.Term.TheVariants.{True}
use Rattle.terms.specs.declared.TermFault.{TermFault}
use Rattle.terms.specs.declared.TermFault.TheVariants as because
use Rattle.words.specs.declared.Number.{Number}
use Rattle.line.specs.Forms.{FormV}
use Rattle.tables.specs.Lawful.{LawfulTerms, IsOf, declared_by}
use Rattle.tables.specs.Records.{TypesV, VariablesV, TermsV, no_terms}
use Rattle.tables.specs.Taking.{no_such, no_formula, full, named_term, columns, at_argument, new_term, term_taken}
use Rattle.tables.proofs.Answered.{bind_ok, same_ok, unless_ok}

-- Before the first line there is nothing that could break a limit.
pub lawful_no_terms : (d : Declared) → LawfulTerms d no_terms
lawful_no_terms d = record { few = omega arith; all_sorted = refl; sorted = λ i inside. absurd (omega arith) }

-- a term that is at no fault has its sort
argument_ok : {A : Type 0} (at : List ℕ) (r : Result A TermFault) (x : A) → at_argument at r ≡ Ok x → r ≡ Ok x
argument_ok at (Ok y) x is = cc
argument_ok at (Err (because.NoSuch a)) x is = absurd (let z : ◌≡◌ {A = ℕ} 0 1 = cc in omega arith)
argument_ok at (Err (because.WrongSort a)) x is = absurd (let z : ◌≡◌ {A = ℕ} 0 1 = cc in omega arith)

-- one term more, of a sort that it has among the terms so far
abbrev with_term : TermsV → Term × Sort → TermsV
with_term s p = record { terms = s.terms ++ p.0 ∷ []; sorts = s.sorts ++ p.1 ∷ [] }

module _ (d : Declared) (s : TermsV) (t : Term) (x : Sort) (lawful : LawfulTerms d s) (is : sort d s.sorts t ≡ Ok x) where
  sorted_push : (i : ℕ) → i < length (s.terms ++ t ∷ []) → sort d (take i (s.sorts ++ x ∷ [])) (get_or (s.terms ++ t ∷ []) i True) ≡ Ok (get_or (s.sorts ++ x ∷ []) i Formula)
  sorted_push i inside =
      let all = lawful.all_sorted in
      ⊎_elim
      (λ before. let within : i < length s.sorts = omega arith in
      ap (λ ss. sort d ss (get_or (s.terms ++ t ∷ []) i True)) (take-append-le i s.sorts (x ∷ []) (omega arith))
      ∙ ap (λ u. sort d (take i s.sorts) u) (get_or_append_left s.terms (t ∷ []) True i before)
      ∙ lawful.sorted i before ∙ ap Ok (sym (get_or_append_left s.sorts (x ∷ []) Formula i within)))
      (λ past. let here : length s.terms ≡ i = omega (arith, length_push s.terms t) in
      let there : length s.sorts ≡ i = omega arith in
      ap (λ ss. sort d ss (get_or (s.terms ++ t ∷ []) i True)) (take_at s.sorts (x ∷ []) i there)
      ∙ ap (λ u. sort d s.sorts u) (get_or_push s.terms t True i here)
      ∙ is ∙ ap Ok (sym (get_or_push s.sorts x Formula i there)))
      (cases_lt i (length s.terms))

  term_pushed : length s.terms < 512 → LawfulTerms d (with_term s (t, x))
  term_pushed room =
      record {
        few = omega (arith, length_push s.terms t);
        all_sorted = omega (arith, lawful.all_sorted, length_push s.terms t, length_push s.sorts x);
        sorted = sorted_push;
      }

-- A `term` line keeps the terms lawful.
pub term_lawful : (types : TypesV) (variables : VariablesV) (f : FormV) (s after : TermsV) → LawfulTerms (declared_by types variables) s → term_taken types variables f s ≡ Ok after → LawfulTerms (declared_by types variables) after
term_lawful types variables f s after lawful is =
    let d = declared_by types variables in
    let made = bind_ok (new_term types variables f s) _ after is in
    let named = bind_ok (named_term types variables f) _ made.0 made.1 in
    let t = named.0 in
    let sorted = bind_ok (at_argument (columns f) (sort d s.sorts t)) _ made.0 named.2 in
    let x = sorted.0 in
    let out = unless_ok (full 512 s.terms ∷ []) (t, x) made.0 sorted.2 in
    let room : length s.terms < 512 = leb-false 512 (length s.terms) out.1.0 in
    subst (λ a. LawfulTerms d a) (ap (with_term s) out.0 ∙ same_ok (with_term s made.0) after made.2)
    (term_pushed d s t x lawful (argument_ok (columns f) (sort d s.sorts t) x sorted.1) room)

-- a term that exists and is no value is a formula
pub not_value : (s : Sort) → sort_is_value s ≡ false → s ≡ Formula
not_value Formula is = refl
not_value (Value k) is = absurd (true≢false is)

pub formula_is : (t : TermsV) (n : Number) → (no_such t.sorts n).0 ≡ false → (no_formula t.sorts n).0 ≡ false → IsOf Formula t n.value
formula_is t n there formula = record { exists = leb-false (length t.sorts) n.value there; is = not_value (sort_of_number t.sorts n.value) formula }
