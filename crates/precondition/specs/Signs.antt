-- When two trees are the same, sign for sign. A reader must believe how a tree is written out.
use Rattle.std.specs.Prelude.{ℕ, Bool, true, false, ◌&&◌, List, [], ◌∷◌, ◌++◌, ◌==◌}
use Rattle.semantics.specs.Trees.{Tree, Var, Val, True, False, Eq, Not, And, Or, Imp, Ite}

-- A sign: the number of an operator and, for a variable or a value, its own numbers.
abbrev pub Sign : Type 0
Sign = ℕ × ℕ × ℕ

-- A tree written out, each operator after its arguments.
abbrev pub signs : Tree → List Sign
signs (Var v) = (0, v, 0) ∷ []
signs (Val of k) = (1, of, k) ∷ []
signs True = (2, 0, 0) ∷ []
signs False = (3, 0, 0) ∷ []
signs (Eq a b) = signs a ++ (signs b ++ (4, 0, 0) ∷ [])
signs (Not a) = signs a ++ (5, 0, 0) ∷ []
signs (And a b) = signs a ++ (signs b ++ (6, 0, 0) ∷ [])
signs (Or a b) = signs a ++ (signs b ++ (7, 0, 0) ∷ [])
signs (Imp a b) = signs a ++ (signs b ++ (8, 0, 0) ∷ [])
signs (Ite f a b) = signs f ++ (signs a ++ (signs b ++ (9, 0, 0) ∷ []))

abbrev pub same_sign : Sign → Sign → Bool
same_sign x y = x.0 == y.0 && (x.1 == y.1 && x.2 == y.2)

abbrev pub same_signs : List Sign → List Sign → Bool
same_signs [] [] = true
same_signs [] (y ∷ ys) = false
same_signs (x ∷ xs) [] = false
same_signs (x ∷ xs) (y ∷ ys) = same_sign x y && same_signs xs ys

-- The two trees are the same, sign for sign.
unfoldable pub same : Tree → Tree → Bool
same a b = same_signs (signs a) (signs b)
