-- The work as it goes on: every result is the lowest number of its tree.
use Rattle.std.proofs.Common.{◌≡◌, ℕ, ◌+◌, ◌<◌, ◌≤◌, Bool, true, false, cond, eqb, ltb, List, [], ◌∷◌, ◌++◌, map, length, get_or, drop, Some, None, Ok, Option, Result, unwrap_or, sym, refl, ap, ◌∙◌, subst, ap₂, subst₂, ⊎_elim, arith}
use Rattle.std.proofs.ByRecursion.{All-weaker}
use Rattle.std.proofs.lemmas.List.{append-nil, append_assoc, length-append, length_push, take-append-drop, get_or_append_left, get_or_push}
use Rattle.std.proofs.lemmas.Bool.{cases_lt, cond_both, and_parts, ltb-true, ltb-false, both_ways}
use Rattle.std.specs.Option.{option_map}
use Rattle.std.specs.List.{AllByRecursion}
use Rattle.semantics.specs.Firing as firing
use Rattle.semantics.specs.Trees.{Tree}
use Rattle.semantics.specs.Trees as tree
use Rattle.std.proofs.Math.ListN.{get_or-map}
use Rattle.terms.proofs.Tables.{prefix_law, trees_length, trees_push}
use Rattle.terms.specs.Rules.{assignments}
use Rattle.terms.specs.Trees.{tree_at, tree_of, trees}
use Rattle.terms.specs.declared.Assignment.{Assignment}
use Rattle.terms.specs.declared.Term.{Term}
use Rattle.terms.specs.declared.Term.TheVariants.{Var, Val, True, False, Eq, Not, And, Or, Imp, Ite}
use Rattle.precondition.specs.Places.{place}
use Rattle.precondition.specs.Steps.{First, Numbered, assigned_term, replaced_by, term_at}
use Rattle.precondition.specs.Tables.{arguments, renamed, formed, lowest, named}
use Rattle.precondition.specs.Writing.{Work, begun, with_result, with_term, noted, replaced, taken, all_there}
use Rattle.precondition.specs.declared.faults.Refusal.{Refusal}
use Rattle.precondition.proofs.Canonical.{Known, Canonical, lower, rebuilt, canonical_push, found_place}
use Rattle.precondition.proofs.Forming.{tree_here, earlier, lower_term, known_term, lowest_at, place_own, table_canonical}
use Rattle.precondition.proofs.Marking.{Marked}
use Rattle.precondition.proofs.Placing.{place_within, place_there, place_append, place_push}

-- what follows of each from two facts of each
all_both : {X : Type 0} (P Q R : X → Type 0) → ((x : X) → P x → Q x → R x) → (xs : List X) → AllByRecursion P xs → AllByRecursion Q xs → AllByRecursion R xs
all_both P Q R step [] ps qs = tt
all_both P Q R step (x ∷ xs) ps qs = (step x ps.0 qs.0, all_both P Q R step xs ps.1 qs.1)

-- the tree that a variable is set to is that of the term that it is set to
assigned_is : (forest : List Tree) (sets : List Assignment) (v : ℕ) → firing.assigned (assignments forest sets) v ≡ option_map (tree_at forest) (assigned_term sets v)
assigned_is forest [] v = refl
assigned_is forest (a ∷ sets) v = chosen (eqb a.variable v) (assigned_is forest sets v)
  where
    chosen : (b : Bool) → firing.assigned (assignments forest sets) v ≡ option_map (tree_at forest) (assigned_term sets v)
        → cond b (Some (tree_at forest a.term)) (firing.assigned (assignments forest sets) v) ≡ option_map (tree_at forest) (cond b (Some a.term) (assigned_term sets v))
    chosen true rest = refl
    chosen false rest = rest

assigned_there : (count : ℕ) (sets : List Assignment) (v m : ℕ) → all_there count sets ≡ true → assigned_term sets v ≡ Some m → m < count
assigned_there count [] v m there = λ is. absurd (let z : ◌≡◌ {A = ℕ} 0 1 = cc in omega arith)
assigned_there count (a ∷ sets) v m there =
    let both = and_parts (ltb a.term count) (all_there count sets) there in
    cond_both (eqb a.variable v) (Some a.term) (assigned_term sets v) (λ o. o ≡ Some m → m < count)
    (λ here is. let same : a.term ≡ m = cc in omega (arith, ltb-true a.term count both.0))
    (λ later is. assigned_there count sets v m both.1 is)

module _ (forest : List Tree) (sets : List Assignment) where
  abbrev rep : Tree → Tree
  rep t = firing.replace (assignments forest sets) t

  abbrev Never : Type 0
  Never = ◌≡◌ {A = ℕ} 0 1

  -- a variable that is set becomes the tree that it is set to
  replaced_some : (t : Term) (m : ℕ) → replaced_by sets t ≡ Some m → rep (tree_of forest t) ≡ tree_at forest m
  replaced_some (Var v) m is = ap (λ o. unwrap_or o (tree.Var v)) (assigned_is forest sets v ∙ ap (option_map (tree_at forest)) is)
  replaced_some (Val of k) m is = absurd (let z : Never = cc in omega arith)
  replaced_some True m is = absurd (let z : Never = cc in omega arith)
  replaced_some False m is = absurd (let z : Never = cc in omega arith)
  replaced_some (Eq a b) m is = absurd (let z : Never = cc in omega arith)
  replaced_some (Not a) m is = absurd (let z : Never = cc in omega arith)
  replaced_some (And a b) m is = absurd (let z : Never = cc in omega arith)
  replaced_some (Or a b) m is = absurd (let z : Never = cc in omega arith)
  replaced_some (Imp a b) m is = absurd (let z : Never = cc in omega arith)
  replaced_some (Ite f a b) m is = absurd (let z : Never = cc in omega arith)

  some_there : (count : ℕ) (t : Term) (m : ℕ) → all_there count sets ≡ true → replaced_by sets t ≡ Some m → m < count
  some_there count (Var v) m there is = assigned_there count sets v m there is
  some_there count (Val of k) m there is = absurd (let z : Never = cc in omega arith)
  some_there count True m there is = absurd (let z : Never = cc in omega arith)
  some_there count False m there is = absurd (let z : Never = cc in omega arith)
  some_there count (Eq a b) m there is = absurd (let z : Never = cc in omega arith)
  some_there count (Not a) m there is = absurd (let z : Never = cc in omega arith)
  some_there count (And a b) m there is = absurd (let z : Never = cc in omega arith)
  some_there count (Or a b) m there is = absurd (let z : Never = cc in omega arith)
  some_there count (Imp a b) m there is = absurd (let z : Never = cc in omega arith)
  some_there count (Ite f a b) m there is = absurd (let z : Never = cc in omega arith)

  pub there_at : (n : ℕ) → tree_at (map rep forest) n ≡ rep (tree_at forest n)
  there_at n = get_or-map rep forest n tree.False

  -- any other term has its arguments replaced
  replaced_none : (t : Term) → replaced_by sets t ≡ None → rep (tree_of forest t) ≡ tree_of (map rep forest) t
  replaced_none (Var v) is = ap (λ o. unwrap_or o (tree.Var v)) (assigned_is forest sets v ∙ ap (option_map (tree_at forest)) is)
  replaced_none (Val of k) is = refl
  replaced_none True is = refl
  replaced_none False is = refl
  replaced_none (Eq a b) is = ap₂ tree.Eq (sym (there_at a)) (sym (there_at b))
  replaced_none (Not a) is = ap tree.Not (sym (there_at a))
  replaced_none (And a b) is = ap₂ tree.And (sym (there_at a)) (sym (there_at b))
  replaced_none (Or a b) is = ap₂ tree.Or (sym (there_at a)) (sym (there_at b))
  replaced_none (Imp a b) is = ap₂ tree.Imp (sym (there_at a)) (sym (there_at b))
  replaced_none (Ite f a b) is = λ i. tree.Ite (sym (there_at f) i) (sym (there_at a) i) (sym (there_at b) i)

-- the trees of the table and of the scratch
abbrev pub forest_of : List Term → Work → List Tree
forest_of terms w = trees (terms ++ w.scratch)

-- the tree has this number, the lowest
pub record Placed (ts : List Tree) (t : Tree) (n : ℕ) : Type 0 where
  pub lowest_number : n ≡ place ts t
  pub inside : place ts t < length ts

pub record Good (terms : List Term) (sets : List Assignment) (marks : List Bool) (w : Work) : Type 0 where
  pub few : length w.scratch ≤ 512
  pub canonical : Canonical (forest_of terms w) (named terms ++ w.scratch)
  pub placed : (k : ℕ) → k < length w.results → Marked marks k → Placed (forest_of terms w) (replaced terms sets k) (get_or w.results k 0)

-- the number of a term: where its tree is, or at the end, where its term names the parts of its tree by their places
pub record Numbering (terms : List Term) (sets : List Assignment) (w : Work) (term : Term) (n : ℕ) : Type 0 where
  pub is : n ≡ place (forest_of terms w) (replaced terms sets (length w.results))
  pub new : length (forest_of terms w) ≤ n → (renamed (λ a. get_or w.results a 0) term ≡ lower (forest_of terms w) (replaced terms sets (length w.results))) × Known (forest_of terms w) (replaced terms sets (length w.results))

module _ (terms : List Term) (sets : List Assignment) (marks : List Bool) where
  pub good_begun : formed terms ≡ true → Good terms sets marks begun
  good_begun is =
      record {
        few = omega arith;
        canonical = subst₂ Canonical (ap trees (sym (append-nil terms))) (sym (append-nil (named terms))) (table_canonical terms is);
        placed = λ k inside here. absurd (omega arith);
      }

  module _ (is : formed terms ≡ true) (there : all_there (length terms) sets ≡ true) (w : Work) (good : Good terms sets marks w) (inside : length w.results < length terms) (closed : AllByRecursion (Marked marks) (arguments (term_at terms (length w.results)))) where
    abbrev n : ℕ
    n = length w.results

    abbrev term : Term
    term = term_at terms n

    abbrev ts : List Tree
    ts = forest_of terms w

    abbrev us : List Tree
    us = map (rep (trees terms) sets) (trees terms)

    own : replaced terms sets n ≡ rep (trees terms) sets (tree_of (trees terms) term)
    own = ap (rep (trees terms) sets) (tree_here terms n is inside)

    -- a tree of the table has the place in all that it has in the table
    given_place : (m : ℕ) → m < length terms → (place ts (tree_at (trees terms) m) ≡ place (trees terms) (tree_at (trees terms) m)) × (place ts (tree_at (trees terms) m) < length ts)
    given_place m less =
        let base = trees terms in
        let t = tree_at base m in
        let early : place base t < length base = omega (arith, trees_length terms, place_own base m (omega (arith, trees_length terms))) in
        let split : ts ≡ base ++ drop (length terms) ts = sym (take-append-drop (length terms) ts) ∙ ap (λ xs. xs ++ drop (length terms) ts) (prefix_law terms w.scratch) in
        let same : place ts t ≡ place base t = ap (λ xs. place xs t) split ∙ place_append base (drop (length terms) ts) t early in
        let long : length ts ≡ length terms + length w.scratch = trees_length (terms ++ w.scratch) ∙ length-append terms w.scratch in
        (same, omega (arith, trees_length terms))

    by_another : (m r : ℕ) → replaced_by sets term ≡ Some m → r ≡ get_or (lowest terms) m 0 → Numbering terms sets w term r
    by_another m r by this =
        let less : m < length terms = some_there (trees terms) sets (length terms) term m there by in
        let tree_is : replaced terms sets n ≡ tree_at (trees terms) m = own ∙ replaced_some (trees terms) sets term m by in
        let at = given_place m less in
        let number : r ≡ place ts (replaced terms sets n) = this ∙ lowest_at terms m (omega (arith, trees_length terms)) ∙ sym at.0 ∙ ap (place ts) (sym tree_is) in
        let early : place ts (replaced terms sets n) < length ts = subst (λ t. place ts t < length ts) (sym tree_is) at.1 in
        record { is = number; new = λ over. absurd (omega arith) }

    abbrev Arg : ℕ → Type 0
    Arg a = (get_or w.results a 0 ≡ place ts (tree_at us a)) × (place ts (tree_at us a) < length ts)

    args : AllByRecursion Arg (arguments term)
    args =
        all_both (λ a. a < n) (Marked marks) Arg
        (λ a less marked.
        let p = good.placed a less marked in
        let e : tree_at us a ≡ replaced terms sets a = there_at (trees terms) sets a in
        (p.lowest_number ∙ ap (place ts) (sym e), subst (λ t. place ts t < length ts) (sym e) p.inside))
        (arguments term) (earlier terms n is inside) closed

    by_itself : (r : ℕ) → replaced_by sets term ≡ None → First (named terms ++ w.scratch) (renamed (λ a. get_or w.results a 0) term) r → Numbering terms sets w term r
    by_itself r none first =
        let tree_is : replaced terms sets n ≡ tree_of us term = own ∙ replaced_none (trees terms) sets term none in
        let name : renamed (λ a. get_or w.results a 0) term ≡ lower ts (replaced terms sets n) =
        lower_term (λ a. get_or w.results a 0) ts us term (All-weaker Arg (λ a. get_or w.results a 0 ≡ place ts (tree_at us a)) (λ a both. both.0) (arguments term) args)
        ∙ ap (lower ts) (sym tree_is) in
        let known : Known ts (replaced terms sets n) =
        subst (Known ts) (sym tree_is) (known_term ts us term (All-weaker Arg (λ a. place ts (tree_at us a) < length ts) (λ a both. both.1) (arguments term) args)) in
        record {
          is = found_place ts (named terms ++ w.scratch) good.canonical (replaced terms sets n) known r (subst (λ t. First (named terms ++ w.scratch) t r) name first);
          new = λ over. (name, known);
        }

    by_either : (o : Option ℕ) (r : ℕ) → replaced_by sets term ≡ o → Numbered (lowest terms) (named terms ++ w.scratch) w.results term o r → Numbering terms sets w term r
    by_either (Some m) r by this = by_another m r by this
    by_either None r none first = by_itself r none first

    pub numbering : (r : ℕ) → Numbered (lowest terms) (named terms ++ w.scratch) w.results term (replaced_by sets term) r → Numbering terms sets w term r
    numbering r this = by_either (replaced_by sets term) r refl this

  -- the work with one result more is good if that result is
  module _ (w : Work) (good : Good terms sets marks w) where
    abbrev here : Tree
    here = replaced terms sets (length w.results)

    one_more : (n : ℕ) (scratch : List Term) → length scratch ≤ 512 → Canonical (trees (terms ++ scratch)) (named terms ++ scratch)
        → ((t : Tree) (k : ℕ) → Placed (forest_of terms w) t k → Placed (trees (terms ++ scratch)) t k)
        → (Marked marks (length w.results) → Placed (trees (terms ++ scratch)) here n)
        → Good terms sets marks (record { results = w.results ++ n ∷ []; scratch = scratch })
    one_more n scratch few canonical keeps this =
        record {
          few = few;
          canonical = canonical;
          placed = λ k inside marked.
              ⊎_elim
              (λ old.
              subst (Placed (trees (terms ++ scratch)) (replaced terms sets k)) (sym (get_or_append_left w.results (n ∷ []) 0 k old))
              (keeps (replaced terms sets k) (get_or w.results k 0) (good.placed k old marked)))
              (λ new.
              let same : length w.results ≡ k = omega (arith, length_push w.results n) in
              subst₂ (λ j x. Placed (trees (terms ++ scratch)) (replaced terms sets j) x) same (sym (get_or_push w.results n 0 k same))
              (this (subst (Marked marks) (sym same) marked)))
              (cases_lt k (length w.results));
        }

    pub good_skipped : get_or marks (length w.results) false ≡ false → Good terms sets marks (with_result w 0)
    good_skipped no' = one_more 0 w.scratch good.few good.canonical (λ t k p. p) (λ marked. absurd (both_ways _ no' marked))

    module _ (term : Term) (r : ℕ) (num : Numbering terms sets w term r) where
      long : length (forest_of terms w) ≡ length terms + length w.scratch
      long = trees_length (terms ++ w.scratch) ∙ length-append terms w.scratch

      good_found : r < length terms + length w.scratch → Good terms sets marks (with_result w r)
      good_found less =
          one_more r w.scratch good.few good.canonical (λ t k p. p)
          (λ _. record { lowest_number = num.is; inside = omega (arith, long, num.is) })

      good_new : length terms + length w.scratch ≤ r → length w.scratch < 512 → Good terms sets marks (with_term w r (renamed (λ a. get_or w.results a 0) term))
      good_new over room =
          let ts = forest_of terms w in
          let c = renamed (λ a. get_or w.results a 0) term in
          let both = num.new (omega (arith, long)) in
          let tree_is : tree_of ts c ≡ here = ap (tree_of ts) both.0 ∙ rebuilt ts here both.1 in
          let all-is : trees (terms ++ (w.scratch ++ c ∷ [])) ≡ ts ++ here ∷ [] =
          ap trees (sym (append_assoc terms w.scratch (c ∷ []))) ∙ trees_push (terms ++ w.scratch) c ∙ ap (λ t. ts ++ t ∷ []) tree_is in
          let canonical : Canonical (trees (terms ++ (w.scratch ++ c ∷ []))) (named terms ++ (w.scratch ++ c ∷ [])) =
          subst₂ Canonical (sym all-is) (append_assoc (named terms) w.scratch (c ∷ []))
          (subst (λ x. Canonical (ts ++ here ∷ []) ((named terms ++ w.scratch) ++ x ∷ [])) (sym both.0) (canonical_push ts (named terms ++ w.scratch) here good.canonical both.1)) in
          let keeps : (t : Tree) (k : ℕ) → Placed ts t k → Placed (trees (terms ++ (w.scratch ++ c ∷ []))) t k =
          λ t k p.
          let same : place (ts ++ here ∷ []) t ≡ place ts t = place_append ts (here ∷ []) t p.inside in
          subst (λ xs. Placed xs t k) (sym all-is) (record { lowest_number = p.lowest_number ∙ sym same; inside = omega (arith, p.inside, length_push ts here) }) in
          let this : Placed (trees (terms ++ (w.scratch ++ c ∷ []))) here r =
          subst (λ xs. Placed xs here r) (sym all-is)
          (record { lowest_number = num.is ∙ sym (place_push ts here); inside = omega (arith, place_push ts here, place_within ts here, length_push ts here) }) in
          one_more r (w.scratch ++ c ∷ []) (omega (arith, length_push w.scratch c)) canonical keeps (λ _. this)

      ok_same : (a b : Work) → ◌≡◌ {A = Result Work Refusal} (Ok a) (Ok b) → Good terms sets marks a → Good terms sets marks b
      ok_same a b same g = let e : a ≡ b = cc in subst (Good terms sets marks) e g

      pub good_noted : (after : Work) → noted (length terms) w term r ≡ Ok after → Good terms sets marks after
      good_noted after =
          cond_both (ltb r (length terms + length w.scratch)) _ _ (λ x. x ≡ Ok after → Good terms sets marks after)
          (λ less same. ok_same (with_result w r) after same (good_found (ltb-true _ _ less)))
          (λ over.
          cond_both (ltb (length w.scratch) 512) _ _ (λ x. x ≡ Ok after → Good terms sets marks after)
          (λ room same. ok_same (with_term w r (renamed (λ a. get_or w.results a 0) term)) after same (good_new (ltb-false _ _ over) (ltb-true _ _ room)))
          (λ full same. absurd (let z : ◌≡◌ {A = ℕ} 0 1 = cc in omega arith)))

      -- and the definition says the same
      pub noted_taken : noted (length terms) w term r ≡ taken terms sets term w
      noted_taken = ap (noted (length terms) w term) num.is

    -- the tree of a result
    pub result_tree : (k : ℕ) → k < length w.results → Marked marks k → tree_at (forest_of terms w) (get_or w.results k 0) ≡ replaced terms sets k
    result_tree k inside marked =
        let p = good.placed k inside marked in
        ap (tree_at (forest_of terms w)) p.lowest_number ∙ place_there (forest_of terms w) (replaced terms sets k) p.inside
