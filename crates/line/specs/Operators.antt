-- The operators of terms, by the words that stand for them.
use Rattle.std.specs.Prelude.{ℕ, cond, List, [], ◌∷◌, Some, None, codes, Option}
use Rattle.std.specs.Str.{bytes_eq}
use Rattle.line.specs.declared.operators.Operator.{Operator}
use Rattle.line.specs.declared.operators.Operator.TheVariants.{Var, Val, True, False, Eq, Not, And, Or, Imp, Ite}

-- The word of each operator.
abbrev pub spelled : Operator → List ℕ
spelled Var = codes "var"
spelled Val = codes "val"
spelled True = codes "true"
spelled False = codes "false"
spelled Eq = codes "eq"
spelled Not = codes "not"
spelled And = codes "and"
spelled Or = codes "or"
spelled Imp = codes "imp"
spelled Ite = codes "ite"

-- The number of each operator.
abbrev pub operator_number : Operator → ℕ
operator_number Var = 0
operator_number Val = 1
operator_number True = 2
operator_number False = 3
operator_number Eq = 4
operator_number Not = 5
operator_number And = 6
operator_number Or = 7
operator_number Imp = 8
operator_number Ite = 9

-- The first of these operators that is written so.
abbrev pub first_of : List Operator → List ℕ → Option Operator
first_of [] word = None
first_of (operator ∷ others) word = cond (bytes_eq word (spelled operator)) (Some operator) (first_of others word)

-- The operator that is written so, or none.
abbrev pub operator_of : List ℕ → Option Operator
operator_of word = first_of (Var ∷ Val ∷ True ∷ False ∷ Eq ∷ Not ∷ And ∷ Or ∷ Imp ∷ Ite ∷ []) word
