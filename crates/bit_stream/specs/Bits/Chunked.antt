-- For `what_is_read_is_in_chunks`: a number in chunks, as the format says it: by the list of the chunks' data.
use Rattle.std.specs.Prelude.{◌≡◌, ℕ, ◌+◌, ◌-◌, ◌*◌, ◌^◌, ◌<◌, Bool, true, false, List, [], ◌∷◌, ◌++◌}
use Rattle.std.specs.List.{AllByRecursion}
use Rattle.bit_stream.specs.Bits.Bits.{bits_of}

-- each chunk is w - 1 bits of data, and a bit that is set where another chunk follows
unfoldable pub chunked : ℕ → List ℕ → List Bool
chunked w [] = []
chunked w (d ∷ []) = bits_of (w - 1) d ++ false ∷ []
chunked w (d ∷ e ∷ ds) = bits_of (w - 1) d ++ true ∷ chunked w (e ∷ ds)

-- the chunks' data as one number, the first chunk's lowest
unfoldable pub chunked_number : ℕ → List ℕ → ℕ
chunked_number w [] = 0
chunked_number w (d ∷ ds) = d + 2 ^ (w - 1) * chunked_number w ds

-- these bits are the number in chunks of w bits
pub record IsVbr (w : ℕ) (bits : List Bool) (n : ℕ) : Type 0 where
  pub first : ℕ
  pub others : List ℕ
  pub small : AllByRecursion (λ d. d < 2 ^ (w - 1)) (first ∷ others)
  pub bits_are : bits ≡ chunked w (first ∷ others)
  pub number_is : n ≡ chunked_number w (first ∷ others)
