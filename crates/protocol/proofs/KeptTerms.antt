-- The written lines of the terms and of the initial formulas are taken again, one after another.
use Rattle.std.proofs.Common.{◌≡◌, ℕ, suc, ◌<◌, List, [], ◌∷◌, ◌++◌, length, get_or, take, Ok, sym, refl, ap, ◌∙◌, subst, arith, take-suc}
use Rattle.std.proofs.lemmas.List.{length-map, length-take-le, get_or-map}
use Rattle.std.proofs.lemmas.Bool.{lt-leb}
use Rattle.terms.specs.Sorts.{sort_is_value}
use Rattle.terms.specs.declared.Sort.TheVariants.{Formula}
use Rattle.terms.specs.declared.Term.TheVariants as term
use Rattle.keys.specs.declared.Key.TheVariants as key
use Rattle.writing.proofs.Oks.{go_on}
use Rattle.writing.specs.Said as says
use Rattle.tables.proofs.Answered.{unless_none}
use Rattle.tables.proofs.FormLaws.{form_sound, sorted_within, said_taken_again}
use Rattle.tables.specs.Lawful.{LawfulTypes, LawfulVariables, LawfulTerms, declared_by}
use Rattle.tables.specs.Records.{TermsV}
use Rattle.tables.specs.Taking.{term_taken, no_such, no_formula, full}
use Rattle.tables.specs.Written.{form_of}
use Rattle.protocol.specs.Lawful.{LawfulInitial}
use Rattle.protocol.specs.Reading.{with_terms, with_initial}
use Rattle.protocol.specs.Records.{ProtocolV}
use Rattle.protocol.specs.Taking.{initial_taken}
use Rattle.protocol.specs.Written.{term_lines, initial_lines}
use Rattle.protocol.proofs.Climbs.{Adds}

-- the first terms
abbrev pub first_terms : ℕ → TermsV → TermsV
first_terms i s = record { terms = take i s.terms; sorts = take i s.sorts }

-- Each term's line adds it.
pub term_adds : (p : ProtocolV) (s : TermsV) → LawfulTypes p.types → LawfulVariables p.types p.variables → LawfulTerms (declared_by p.types p.variables) s → (i : ℕ) → i < length (term_lines p.types p.variables s)
    → Adds key.Term (get_or (term_lines p.types p.variables s) i says.End) (with_terms p (first_terms i s)) (with_terms p (first_terms (suc i) s))
term_adds p s types variables laws i within =
    let t = p.types in
    let v = p.variables in
    let inside : i < length s.terms = omega (arith, length-map s.terms (λ x. says.Term (form_of t v x))) in
    let in-sorts : i < length s.sorts = omega (arith, laws.all_sorted) in
    let x = get_or s.terms i term.True in
    let sorted = laws.sorted i inside in
    let long : length (take i s.sorts) ≡ i = length-take-le i s.sorts (omega arith) in
    let many : length (take i s.terms) ≡ i = length-take-le i s.terms (omega arith) in
    let few : i < 512 = omega (arith, laws.few) in
    subst (λ said. Adds key.Term said (with_terms p (first_terms i s)) (with_terms p (first_terms (suc i) s))) (sym (get_or-map (λ x. says.Term (form_of t v x)) s.terms i term.True says.End inside))
    (record {
      kind = refl;
      sound = record { belonging = refl; parts = form_sound t v types variables (length (take i s.sorts)) x (omega arith) (sorted_within t v types variables (take i s.sorts) x (get_or s.sorts i Formula) sorted) };
      turns = λ f says-it.
          go_on (term_taken t v f (first_terms i s)) _ (first_terms (suc i) s)
          (said_taken_again t v types variables (first_terms i s) x (get_or s.sorts i Formula) sorted (omega arith) f says-it
          ∙ ap Ok (λ j. record { terms = sym (take-suc s.terms i term.True inside) j; sorts = sym (take-suc s.sorts i Formula in-sorts) j }));
    })

-- Each initial formula's line adds it.
pub initial_adds : (p : ProtocolV) (s : List ℕ) → LawfulTerms (declared_by p.types p.variables) p.terms → LawfulInitial p.terms s → (i : ℕ) → i < length (initial_lines s)
    → Adds key.Init (get_or (initial_lines s) i says.End) (with_initial p (take i s)) (with_initial p (take (suc i) s))
initial_adds p s terms laws i within =
    let inside : i < length s = omega (arith, length-map s says.Init) in
    let sorts = p.terms.sorts in
    let k = get_or s i 0 in
    let of = laws.each i inside in
    let there : k < length sorts = of.exists in
    let many : length (take i s) ≡ i = length-take-le i s (omega arith) in
    subst (λ said. Adds key.Init said (with_initial p (take i s)) (with_initial p (take (suc i) s))) (sym (get_or-map says.Init s i 0 says.End inside))
    (record {
      kind = refl;
      sound = record { belonging = refl; parts = omega (arith, terms.few, terms.all_sorted) };
      turns = λ n is.
          go_on (initial_taken p.terms n (take i s)) _ (take (suc i) s)
          (unless_none (no_such sorts n ∷ no_formula sorts n ∷ full 8 (take i s) ∷ []) (take i s ++ n.value ∷ []) (
            lt-leb (length sorts) n.value (omega arith),
            (
              ap (λ m. sort_is_value (get_or sorts m Formula)) is ∙ ap sort_is_value of.is,
              (
                lt-leb 8 (length (take i s)) (omega (arith, laws.few)),
                tt,
              ),
            ),
          )
          ∙ ap (λ m. Ok (take i s ++ m ∷ [])) is ∙ ap Ok (sym (take-suc s i 0 inside)));
    })
