-- For all calls of `MaskedBytes`: bytes of which some are poison, as a plain list; and how a mask keeps them.
use Rattle.std.specs.Prelude.{ℕ, ◌+◌, ◌*◌, ◌/◌, ◌%◌, ◌^◌, Bool, true, false, ◌&&◌, nat_eq, nat_le, nat_lt, List, [], ◌∷◌, ◌++◌, take, drop, length, map, Option, Some, None, slice_index_or}
use Rattle.std.specs.Int.{bit_at}
use Rattle.std.specs.List.{range_with_len}

-- new elements in place of as many
abbrev pub put : {X : Type 0} → ℕ → List X → List X → List X
put at new old = take at old ++ new ++ drop (at + length new) old

-- the byte at a place of a number, the least first
abbrev pub digit : ℕ → ℕ → ℕ
digit number k = number / 256 ^ k % 256

-- so many bytes of a number
abbrev pub digits : ℕ → ℕ → List ℕ
digits count number = map (λ k. digit number k) (range_with_len 0 count)

-- so many bytes of a number, none of them poison
abbrev pub bytes : ℕ → ℕ → List (Option ℕ)
bytes count number = map (λ k. Some (digit number k)) (range_with_len 0 count)

-- the number that bytes spell
abbrev pub number_of_bytes : List ℕ → ℕ
number_of_bytes [] = 0
number_of_bytes (b ∷ bs) = b + 256 * number_of_bytes bs

-- a byte before a number, where neither is poison
abbrev pub joined : Option ℕ → Option ℕ → Option ℕ
joined None rest = None
joined (Some b) None = None
joined (Some b) (Some rest) = Some (b + 256 * rest)

-- the number that bytes spell, where none is poison
abbrev pub number_of : List (Option ℕ) → Option ℕ
number_of [] = Some 0
number_of (b ∷ bs) = joined b (number_of bs)

-- a place is one of a range
abbrev pub is_within : ℕ → ℕ → ℕ → Bool
is_within from to k = nat_le from k && nat_lt k to

-- the bit of a place, 64 in a word
abbrev pub is_marked : List ℕ → ℕ → Bool
is_marked words k = nat_eq (bit_at (slice_index_or words (k / 64) 0) (k % 64)) 1

-- what a function gives for each element and its place, the first of which is given
abbrev pub mapped_with_places : {X Y : Type 0} → (ℕ → X → Y) → ℕ → List X → List Y
mapped_with_places f k [] = []
mapped_with_places f k (x ∷ xs) = f k x ∷ mapped_with_places f (k + 1) xs

-- poison where there is a mark, else the byte
abbrev pub unless : Bool → ℕ → Option ℕ
unless true byte = None
unless false byte = Some byte

-- bytes under a mask
abbrev pub masked : List ℕ → List ℕ → List (Option ℕ)
masked words = mapped_with_places (λ k byte. unless (is_marked words k) byte) 0
