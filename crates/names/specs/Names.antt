-- Names, and finding one among others.
use Rattle.std.specs.Prelude.{ℕ, suc, cond, List, [], ◌∷◌, Some, None, vec_items, Option}
use Rattle.std.specs.Option.{option_map}
use Rattle.std.specs.Str.{bytes_eq}
use Rattle.names.specs.declared.Name.{Name}

-- The bytes of an owned name.
abbrev pub spelled : Name → List ℕ
spelled n = vec_items n.bytes

-- The number, from 0, of the first of these names that is this one; none if none of them is.
abbrev pub place_in : List (List ℕ) → List ℕ → Option ℕ
place_in [] name = None
place_in (n ∷ names) name = cond (bytes_eq n name) (Some 0) (option_map suc (place_in names name))
