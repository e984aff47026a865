-- What is known of the bytes of a word says of it as a name or a number.
use Rattle.std.proofs.Common.{◌≡◌, ℕ, ◌^◌, ◌<◌, Bool, ◌&&◌, true, leb, List, length, take, sym, ◌∙◌}
use Rattle.std.proofs.lemmas.Bool.{and_parts}
use Rattle.std.specs.List.{list_all}
use Rattle.words.specs.Words.{name_byte, is_name, digit, decimal}

module _ (xs : List ℕ) where
  -- of a text of 1 to 16 bytes, the bytes alone say whether it is a name
  pub by_bytes : (b : Bool) → true ≡ (leb 1 (length xs) && leb (length xs) 16) → b ≡ list_all name_byte xs → b ≡ is_name xs
  by_bytes b fits is =
      let parts = and_parts (leb 1 (length xs)) (leb (length xs) 16) (sym fits) in
      is ∙ (λ i. sym parts.0 i && (sym parts.1 i && list_all name_byte xs))

  -- a number: the digits so far have this value
  pub record Read (value i : ℕ) : Type 0 where
    pub is : value ≡ decimal (take i xs)
    pub low : value < 10 ^ i
    pub digits : list_all digit (take i xs) ≡ true
