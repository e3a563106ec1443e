-- For all calls of `BitCursor` and `BitSink`: the bits of a stream, least significant first, and the numbers that runs
-- of them stand for.
use Rattle.std.specs.Prelude.{ℕ, zero, suc, ◌+◌, ◌*◌, ◌/◌, ◌%◌, Bool, true, false, List, [], ◌∷◌, ◌++◌, ◌==◌}

-- a bit as a number
abbrev pub bit : Bool → ℕ
bit true = 1
bit false = 0

-- the number that a run of bits stands for
unfoldable pub value : List Bool → ℕ
value [] = 0
value (b ∷ bs) = bit b + 2 * value bs

-- the lowest w bits of n
unfoldable pub bits_of : ℕ → ℕ → List Bool
bits_of zero n = []
bits_of (suc w) n = (n % 2 == 1) ∷ bits_of w (n / 2)

-- the bits of a list of bytes
unfoldable pub stream_bits : List ℕ → List Bool
stream_bits [] = []
stream_bits (b ∷ bs) = bits_of 8 b ++ stream_bits bs
