-- How the names in lists of names are spelled.
use Rattle.std.specs.Prelude.{ℕ, List, map, vec_items, Vec}
use Rattle.std.specs.declared.alloc.Global.{Global}
use Rattle.names.specs.Names.{spelled}
use Rattle.names.specs.declared.Name.{Name}

abbrev pub spellings : Vec (Vec Name Global) Global → List (List (List ℕ))
spellings lists = map (λ list. map spelled (vec_items list)) (vec_items lists)
