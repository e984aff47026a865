-- Two trees that are written alike are one tree.
use Rattle.std.proofs.Common.{◌≡◌, ℕ, true, cond, eqb, List, [], ◌∷◌, ◌++◌, sym, refl, ap, ◌∙◌, subst, ap₂, arith}
use Rattle.std.proofs.lemmas.List.{append-nil, append_assoc}
use Rattle.std.proofs.lemmas.Bool.{and_parts, and_from, eqb-true, eq-eqb}
use Rattle.semantics.specs.Trees.{Tree, Var, Val, True, False, Eq, Not, And, Or, Imp, Ite}
use Rattle.precondition.specs.Signs.{Sign, signs, same_sign, same_signs, same}

-- the signs are read back onto a pile of trees
abbrev top : List Tree → Tree
top [] = False
top (t ∷ pile) = t

abbrev under : List Tree → List Tree
under [] = []
under (t ∷ pile) = pile

abbrev two : (Tree → Tree → Tree) → List Tree → List Tree
two make pile = make (top (under pile)) (top pile) ∷ under (under pile)

abbrev put : Sign → List Tree → List Tree
put s pile =
    cond (eqb s.0 0) (Var s.1 ∷ pile)
    (cond (eqb s.0 1) (Val s.1 s.2 ∷ pile)
    (cond (eqb s.0 2) (True ∷ pile)
    (cond (eqb s.0 3) (False ∷ pile)
    (cond (eqb s.0 4) (two Eq pile)
    (cond (eqb s.0 5) (Not (top pile) ∷ under pile)
    (cond (eqb s.0 6) (two And pile)
    (cond (eqb s.0 7) (two Or pile)
    (cond (eqb s.0 8) (two Imp pile)
    (Ite (top (under (under pile))) (top (under pile)) (top pile) ∷ under (under (under pile)))))))))))

abbrev read : List Sign → List Tree → List Tree
read [] pile = pile
read (s ∷ rest) pile = read rest (put s pile)

abbrev Reads : Tree → Type 0
Reads t = (rest : List Sign) (pile : List Tree) → read (signs t ++ rest) pile ≡ read rest (t ∷ pile)

-- two trees and then the rest
after_two : (a b : Tree) → Reads a → Reads b → (end rest : List Sign) (pile : List Tree) → read ((signs a ++ (signs b ++ end)) ++ rest) pile ≡ read (end ++ rest) (b ∷ a ∷ pile)
after_two a b one other end rest pile =
    ap (λ xs. read xs pile) (append_assoc (signs a) (signs b ++ end) rest ∙ ap (λ ys. signs a ++ ys) (append_assoc (signs b) end rest))
    ∙ one (signs b ++ (end ++ rest)) pile
    ∙ other (end ++ rest) (a ∷ pile)

after_one : (a : Tree) → Reads a → (end rest : List Sign) (pile : List Tree) → read ((signs a ++ end) ++ rest) pile ≡ read (end ++ rest) (a ∷ pile)
after_one a one end rest pile = ap (λ xs. read xs pile) (append_assoc (signs a) end rest) ∙ one (end ++ rest) pile

reads : (t : Tree) → Reads t
reads (Var v) rest pile = refl
reads (Val of k) rest pile = refl
reads True rest pile = refl
reads False rest pile = refl
reads (Eq a b) rest pile = after_two a b (reads a) (reads b) ((4, 0, 0) ∷ []) rest pile
reads (Not a) rest pile = after_one a (reads a) ((5, 0, 0) ∷ []) rest pile
reads (And a b) rest pile = after_two a b (reads a) (reads b) ((6, 0, 0) ∷ []) rest pile
reads (Or a b) rest pile = after_two a b (reads a) (reads b) ((7, 0, 0) ∷ []) rest pile
reads (Imp a b) rest pile = after_two a b (reads a) (reads b) ((8, 0, 0) ∷ []) rest pile
reads (Ite f a b) rest pile =
    after_one f (reads f) (signs a ++ (signs b ++ (9, 0, 0) ∷ [])) rest pile ∙ after_two a b (reads a) (reads b) ((9, 0, 0) ∷ []) rest (f ∷ pile)

read_back : (t : Tree) → read (signs t) [] ≡ t ∷ []
read_back t = ap (λ xs. read xs []) (sym (append-nil (signs t))) ∙ reads t [] []

signs_same : (xs ys : List Sign) → same_signs xs ys ≡ true → xs ≡ ys
signs_same [] [] is = refl
signs_same [] (y ∷ ys) is = absurd (let z : ◌≡◌ {A = ℕ} 0 1 = cc in omega arith)
signs_same (x ∷ xs) [] is = absurd (let z : ◌≡◌ {A = ℕ} 0 1 = cc in omega arith)
signs_same (x ∷ xs) (y ∷ ys) is =
    let both = and_parts (same_sign x y) (same_signs xs ys) is in
    let first = and_parts _ _ both.0 in
    let second = and_parts _ _ first.1 in
    let one : x ≡ y = λ i. (eqb-true x.0 y.0 first.0 i, eqb-true x.1 y.1 second.0 i, eqb-true x.2 y.2 second.1 i) in
    ap₂ (λ s rest. s ∷ rest) one (signs_same xs ys both.1)

signs_itself : (xs : List Sign) → same_signs xs xs ≡ true
signs_itself [] = refl
signs_itself (x ∷ xs) = and_from _ _ (and_from _ _ (eq-eqb x.0 x.0 refl) (and_from _ _ (eq-eqb x.1 x.1 refl) (eq-eqb x.2 x.2 refl))) (signs_itself xs)

pub same_true : (a b : Tree) → same a b ≡ true → a ≡ b
unfolding same
same_true a b is = ap top (sym (read_back a) ∙ ap (λ xs. read xs []) (signs_same (signs a) (signs b) is) ∙ read_back b)

pub same_itself : (a b : Tree) → a ≡ b → same a b ≡ true
unfolding same
same_itself a b is = subst (λ c. same_signs (signs a) (signs c) ≡ true) is (signs_itself (signs a))
