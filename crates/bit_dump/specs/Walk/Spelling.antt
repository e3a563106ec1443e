-- Says how the code reads: which operands of an abbreviation a record spells with bits.
use Rattle.std.specs.Prelude.{Bool, true, false, List, [], ◌∷◌, filter}
use Rattle.bit_stream.specs.declared.abbreviation.ValueSpelling.{ValueSpelling}
use Rattle.bit_stream.specs.declared.abbreviation.ValueSpelling.TheVariants.{Known, Field, Chunks, Letter}

-- a value of this spelling is read, and is no literal
abbrev pub has_bits : ValueSpelling → Bool
has_bits (Known number) = false
has_bits (Field width) = true
has_bits (Chunks width) = true
has_bits Letter = true

-- the first, and the others that are no literals
abbrev pub spelled_out : List ValueSpelling → List ValueSpelling
spelled_out [] = []
spelled_out (s ∷ ss) = s ∷ filter has_bits ss
