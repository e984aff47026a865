-- What an `init` line adds obeys the limits and sorts.
use Rattle.std.proofs.Common.{◌≡◌, ℕ, ◌<◌, List, [], ◌∷◌, ◌++◌, length, Ok, subst, arith}
use Rattle.std.proofs.lemmas.List.{length_push}
use Rattle.std.proofs.lemmas.Bool.{leb-false}
use Rattle.terms.specs.declared.Sort.TheVariants.{Formula}
use Rattle.words.specs.declared.Number.{Number}
use Rattle.tables.proofs.Answered.{unless_ok}
use Rattle.tables.proofs.Named.{each_push}
use Rattle.tables.proofs.TermLaws.{formula_is}
use Rattle.tables.specs.Lawful.{IsOf}
use Rattle.tables.specs.Records.{TermsV}
use Rattle.tables.specs.Taking.{no_such, no_formula, full}
use Rattle.protocol.specs.Lawful.{LawfulInitial}
use Rattle.protocol.specs.Taking.{initial_taken}

-- Before the first line there is nothing that could break a limit.
pub lawful_no_initial : (t : TermsV) → LawfulInitial t []
lawful_no_initial t = record { few = omega arith; each = λ i inside. absurd (omega arith) }

-- An `init` line keeps the initial formulas lawful.
pub initial_lawful : (t : TermsV) (n : Number) (s after : List ℕ) → LawfulInitial t s → initial_taken t n s ≡ Ok after → LawfulInitial t after
initial_lawful t n s after lawful is =
    let out = unless_ok (no_such t.sorts n ∷ no_formula t.sorts n ∷ full 8 s ∷ []) (s ++ n.value ∷ []) after is in
    let room : length s < 8 = leb-false 8 (length s) out.1.1.1.0 in
    subst (λ a. LawfulInitial t a) out.0
    (record {
      few = omega (arith, length_push s n.value);
      each = each_push (λ k. IsOf Formula t k) s n.value 0 lawful.each (formula_is t n out.1.0 out.1.1.0);
    })
