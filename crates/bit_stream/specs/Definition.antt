-- For `defined_abbreviation`: the definition of an abbreviation (LLVM Bitcode File Format, "DEFINE_ABBREV Encoding").
use Rattle.std.specs.Prelude.{ℕ, zero, suc, ◌-◌, List, [], ◌∷◌, ◌++◌, Ok, if◌then◌else◌, ◌==◌, ◌||◌, nat_lt}
use Rattle.bit_stream.specs.Bits.Cursor.{Cursor, Found, ◌>>=◌}
use Rattle.bit_stream.specs.Bits.Reading.{fixed, vbr}
use Rattle.bit_stream.specs.declared.abbreviation.TheConstants.{MOST_OPERANDS, WIDEST_CHUNK, WIDEST_FIELD}
use Rattle.bit_stream.specs.declared.abbreviation.ValueSpelling.{ValueSpelling}
use Rattle.bit_stream.specs.declared.abbreviation.ValueSpelling.TheVariants.{Known, Field, Chunks, Letter}
use Rattle.bit_stream.specs.declared.abbreviation.Tail.{Tail}
use Rattle.bit_stream.specs.declared.abbreviation.Tail.TheVariants.{NoTail, Elements, Bytes}
use Rattle.bit_stream.specs.declared.definition.Encoding.{Encoding}
use Rattle.bit_stream.specs.declared.definition.Encoding.TheVariants.{AsField, AsChunks, AsArray, AsLetter, AsBlob}
use Rattle.bit_stream.specs.declared.definition.DefinitionPart.{DefinitionPart}
use Rattle.bit_stream.specs.declared.definition.DefinitionPart.TheVariants.{Value, End}
use Rattle.bit_stream.specs.Abbreviation.{AdmittedAbbreviation}
use Rattle.bit_stream.specs.Answers.{refuse}

-- the width of a field: 0 stands for the literal 0, and one over the widest is refused
unfoldable pub field_width : Cursor → Found ValueSpelling
field_width c = vbr 5 c >>= λ width d.
    if width == 0 then Ok (Known 0, d)
    else (if nat_lt WIDEST_FIELD width then refuse c.at else Ok (Field width, d))

-- the width of chunks: 0 stands for the literal 0, and 1 or one over the widest is refused
unfoldable pub chunk_width : Cursor → Found ValueSpelling
chunk_width c = vbr 5 c >>= λ width d.
    if width == 0 then Ok (Known 0, d)
    else (if width == 1 || nat_lt WIDEST_CHUNK width then refuse c.at else Ok (Chunks width, d))

-- an encoding is one of the numbers from 1 to 5; it stands at this bit
abbrev pub encoding_of : ℕ → ℕ → Cursor → Found Encoding
encoding_of bit number d =
    if number == 1 then Ok (AsField, d)
    else (if number == 2 then Ok (AsChunks, d)
    else (if number == 3 then Ok (AsArray, d)
    else (if number == 4 then Ok (AsLetter, d)
    else (if number == 5 then Ok (AsBlob, d)
    else refuse bit))))

-- the encoding of an operand: a number of 3 bits, and what stands behind it
unfoldable pub encoding : Cursor → Found Encoding
encoding c = fixed 3 c >>= λ number d. encoding_of c.at number d

-- one value by its encoding, which stands at this bit; an array and a blob are none
unfoldable pub scalar_by : Encoding → ℕ → Cursor → Found ValueSpelling
scalar_by AsField bit c = field_width c
scalar_by AsChunks bit c = chunk_width c
scalar_by AsArray bit c = refuse bit
scalar_by AsLetter bit c = Ok (Letter, c)
scalar_by AsBlob bit c = refuse bit

-- the value of a literal operand
unfoldable pub literal : Cursor → Found ValueSpelling
literal c = vbr 8 c >>= λ number d. Ok (Known number, d)

-- the first operand, which spells the code: no array and no blob
unfoldable pub first_operand : Cursor → Found ValueSpelling
first_operand c = fixed 1 c >>= λ flag d.
    if flag == 1 then literal d else (encoding d >>= λ e f. scalar_by e d.at f)

-- a literal is no element, nor is a width of 0 that stands for one
abbrev pub element_of : ℕ → ValueSpelling → Cursor → Found ValueSpelling
element_of bit (Known number) d = refuse bit
element_of bit (Field width) d = Ok (Field width, d)
element_of bit (Chunks width) d = Ok (Chunks width, d)
element_of bit Letter d = Ok (Letter, d)

-- an array's element
unfoldable pub element : Cursor → Found ValueSpelling
element c = fixed 1 c >>= λ flag d.
    if flag == 1 then refuse c.at
    else (encoding d >>= λ e f. scalar_by e d.at f >>= λ s g. element_of f.at s g)

-- a later operand, where so many are left with it: an array is the second to last, a blob the last
unfoldable pub part_by : Encoding → ℕ → ℕ → Cursor → Found DefinitionPart
part_by AsArray left bit c = if left == 2 then (element c >>= λ s d. Ok (End (Elements s), d)) else refuse bit
part_by AsBlob left bit c = if left == 1 then Ok (End Bytes, c) else refuse bit
part_by AsField left bit c = scalar_by AsField bit c >>= λ s d. Ok (Value s, d)
part_by AsChunks left bit c = scalar_by AsChunks bit c >>= λ s d. Ok (Value s, d)
part_by AsLetter left bit c = scalar_by AsLetter bit c >>= λ s d. Ok (Value s, d)

-- the next operand of a definition, of which so many are left: a literal or an encoding
unfoldable pub part : ℕ → Cursor → Found DefinitionPart
part left c = fixed 1 c >>= λ flag d.
    if flag == 1 then (literal d >>= λ s e. Ok (Value s, e)) else (encoding d >>= λ e f. part_by e left d.at f)

-- one thing for a scalar, another for what ends the operands
abbrev pub by_part : {X : Type 0} → DefinitionPart → (ValueSpelling → X) → (Tail → X) → X
by_part (Value s) more done = more s
by_part (End t) more done = done t

-- so many operands, behind those in front
unfoldable pub parts : ℕ → List ValueSpelling → Cursor → Found (List ValueSpelling × Tail)
parts zero front c = Ok ((front, NoTail), c)
parts (suc n) front c = part (suc n) c >>= λ p d.
    by_part p (λ s. parts n (front ++ s ∷ []) d) (λ t. Ok ((front, t), d))

-- the whole definition: at least one operand, and no more than there may be
unfoldable pub defined_abbreviation : Cursor → Found AdmittedAbbreviation
defined_abbreviation c = vbr 5 c >>= λ count d.
    if count == 0 || nat_lt MOST_OPERANDS count then refuse c.at
    else (first_operand d >>= λ code e. parts (count - 1) [] e >>= λ rest f. Ok (record { code = code; operands = rest.0; tail = rest.1 }, f))
