-- What chains of iterators come to, by the definitions.
use Rattle.std.proofs.Common.{◌≡◌, ℕ, ◌+◌, Bool, true, false, cond, ◌&&◌, eqb, ltb, List, [], ◌∷◌, Some, Option, refl, ap, ◌∙◌, add-one}
use Rattle.std.specs.List.{list_all, find, enumerate_from}
use Rattle.std.specs.Option.{option_map}
use Rattle.terms.specs.declared.Assignment.{Assignment}
use Rattle.terms.specs.declared.Term.{Term}
use Rattle.precondition.specs.Steps.{assigned_term}
use Rattle.precondition.specs.Tables.{arguments, all_below, formed_from}
use Rattle.precondition.specs.Writing.{all_there}

pub all_there_is : (count : ℕ) (sets : List Assignment) → list_all (λ a. ltb a.term count) sets ≡ all_there count sets
all_there_is count [] = refl
all_there_is count (a ∷ sets) = ap (λ b. ltb a.term count && b) (all_there_is count sets)

pub formed_is : (n : ℕ) (terms : List Term) → list_all (λ p. all_below p.0 (arguments p.1)) (enumerate_from n terms) ≡ formed_from n terms
formed_is n [] = refl
formed_is n (t ∷ terms) = ap (λ b. all_below n (arguments t) && b) (formed_is (n + 1) terms ∙ ap (λ m. formed_from m terms) (add-one n))

-- the first that passes, or that of the rest
first_term : (b : Bool) (a : Assignment) (o : Option Assignment) (p : Option ℕ) → option_map (λ x. x.term) o ≡ p → option_map (λ x. x.term) (cond b (Some a) o) ≡ cond b (Some a.term) p
first_term true a o p is = refl
first_term false a o p is = is

pub assigned_is : (sets : List Assignment) (v : ℕ) → option_map (λ a. a.term) (find (λ a. eqb a.variable v) sets) ≡ assigned_term sets v
assigned_is [] v = refl
assigned_is (a ∷ sets) v = first_term (eqb a.variable v) a _ _ (assigned_is sets v)
