-- For `define_abbreviation`, `put_record` and `abbreviated` of `BitWriter`: how entries are spelled (LLVM Bitcode File
-- Format, "Abbreviation IDs", "DEFINE_ABBREV Encoding", "Data Records").
use Rattle.std.specs.Prelude.{ℕ, suc, ◌+◌, ◌-◌, ◌^◌, Bool, true, false, List, [], ◌∷◌, ◌++◌, length, take, drop, Option, Some, None, option_map, if◌then◌else◌, ◌==◌, ◌&&◌, ◌||◌, nat_lt, nat_le}
use Rattle.std.specs.List.{flat_map, list_all}
use Rattle.bit_stream.specs.Bits.Bits.{bits_of}
use Rattle.bit_stream.specs.Bits.Writing.{vbr_bits, pad_bits}
use Rattle.bit_stream.specs.declared.abbreviation.TheConstants.{MOST_OPERANDS, WIDEST_CHUNK, WIDEST_FIELD}
use Rattle.bit_stream.specs.declared.abbreviation.AbbrevOp.{AbbrevOp}
use Rattle.bit_stream.specs.declared.abbreviation.AbbrevOp.TheVariants.{Literal, Fixed, Vbr, Array, Char6, Blob}
use Rattle.bit_stream.specs.declared.abbreviation.ValueSpelling.{ValueSpelling}
use Rattle.bit_stream.specs.declared.abbreviation.ValueSpelling.TheVariants.{Known, Field, Chunks, Letter}
use Rattle.bit_stream.specs.declared.abbreviation.Tail.{Tail}
use Rattle.bit_stream.specs.declared.abbreviation.Tail.TheVariants.{NoTail, Elements, Bytes}
use Rattle.bit_stream.specs.Abbreviation.{AdmittedAbbreviation}

-- a number in chunks of w bits, as few as it has
abbrev pub chunks : ℕ → ℕ → List Bool
chunks w n = vbr_bits 64 w n

-- an operand of a definition
abbrev pub operand_bits : AbbrevOp → List Bool
operand_bits (Literal n) = bits_of 1 1 ++ chunks 8 n
operand_bits (Fixed w) = bits_of 1 0 ++ bits_of 3 1 ++ chunks 5 w
operand_bits (Vbr w) = bits_of 1 0 ++ bits_of 3 2 ++ chunks 5 w
operand_bits Array = bits_of 1 0 ++ bits_of 3 3
operand_bits Char6 = bits_of 1 0 ++ bits_of 3 4
operand_bits Blob = bits_of 1 0 ++ bits_of 3 5

-- DEFINE_ABBREV behind its id: how many operands, and the operands
unfoldable pub definition_bits : List AbbrevOp → List Bool
definition_bits ops = chunks 5 (length ops) ++ flat_map operand_bits ops

-- one value of an abbreviation; a width of 0 stands for the literal 0
abbrev pub scalar_of : AbbrevOp → Option ValueSpelling
scalar_of (Literal n) = Some (Known n)
scalar_of (Fixed w) = if w == 0 then Some (Known 0) else (if nat_lt WIDEST_FIELD w then None else Some (Field w))
scalar_of (Vbr w) = if w == 0 then Some (Known 0) else (if w == 1 || nat_lt WIDEST_CHUNK w then None else Some (Chunks w))
scalar_of Array = None
scalar_of Char6 = Some Letter
scalar_of Blob = None

-- an array's element: no literal
abbrev pub element_scalar : Option ValueSpelling → Option Tail
element_scalar None = None
element_scalar (Some (Known n)) = None
element_scalar (Some (Field w)) = Some (Elements (Field w))
element_scalar (Some (Chunks w)) = Some (Elements (Chunks w))
element_scalar (Some Letter) = Some (Elements Letter)

-- what stands for an encoding, where there is one
abbrev pub with_scalar : {X : Type 0} → Option ValueSpelling → (ValueSpelling → Option X) → Option X
with_scalar None f = None
with_scalar (Some s) f = f s

-- the operands behind the first, and those in front of them: an array is the second to last, a blob the last
unfoldable pub rest_of : List ValueSpelling → List AbbrevOp → Option (List ValueSpelling × Tail)
rest_of front [] = Some (front, NoTail)
rest_of front (Array ∷ e ∷ []) = option_map (λ tail. (front, tail)) (element_scalar (scalar_of e))
rest_of front (Blob ∷ []) = Some (front, Bytes)
rest_of front (op ∷ ops) = with_scalar (scalar_of op) (λ s. rest_of (front ++ s ∷ []) ops)

-- the abbreviation that these operands define, where the format admits them
unfoldable pub abbreviation_for : List AbbrevOp → Option AdmittedAbbreviation
abbreviation_for [] = None
abbreviation_for (op ∷ ops) = if nat_lt MOST_OPERANDS (suc (length ops)) then None
    else with_scalar (scalar_of op) (λ code. option_map (λ rest. record { code = code; operands = rest.0; tail = rest.1 }) (rest_of [] ops))

-- one of the 64 characters, and its number
abbrev pub is_letter : ℕ → Bool
is_letter n = (nat_le 97 n && nat_le n 122) || (nat_le 65 n && nat_le n 90) || (nat_le 48 n && nat_le n 57) || (n == 46) || (n == 95)

-- the number of a letter among a-z, A-Z, 0-9, `.` and `_`
abbrev pub letter_number : ℕ → ℕ
letter_number n = if nat_le 97 n then n - 97 else (if n == 95 then 63 else (if nat_le 65 n then n - 65 + 26 else (if nat_le 48 n then n - 48 + 52 else 62)))

-- a value is spelled so, and by these bits
abbrev pub fits : ValueSpelling → ℕ → Bool
fits (Known v) n = n == v
fits (Field w) n = nat_lt n (2 ^ w)
fits (Chunks w) n = true
fits Letter n = is_letter n

-- the bits of a value in an encoding
unfoldable pub value_bits : ValueSpelling → ℕ → List Bool
value_bits (Known v) n = []
value_bits (Field w) n = bits_of w n
value_bits (Chunks w) n = chunks w n
value_bits Letter n = bits_of 6 (letter_number n)

-- values of one spelling
abbrev pub all_fit : ValueSpelling → List ℕ → Bool
all_fit s ns = list_all (fits s) ns

-- the bits of several values in one encoding
abbrev pub all_bits : ValueSpelling → List ℕ → List Bool
all_bits s ns = flat_map (value_bits s) ns

-- UNABBREV_RECORD behind its id
unfoldable pub record_bits : ℕ → List ℕ → List Bool
record_bits code ns = chunks 6 code ++ chunks 6 (length ns) ++ all_bits (Chunks 6) ns

-- as many values as there are spellings, each by its own
unfoldable pub each_fit : List ValueSpelling → List ℕ → Bool
each_fit [] [] = true
each_fit [] (n ∷ ns) = false
each_fit (s ∷ ss) [] = false
each_fit (s ∷ ss) (n ∷ ns) = fits s n && each_fit ss ns

-- the bits of several values, each in an encoding of its own
unfoldable pub each_bits : List ValueSpelling → List ℕ → List Bool
each_bits [] ns = []
each_bits (s ∷ ss) [] = []
each_bits (s ∷ ss) (n ∷ ns) = value_bits s n ++ each_bits ss ns

-- zero bits up to a word of 32
abbrev pub aligned : List Bool → List Bool
aligned bits = bits ++ pad_bits (length bits)

-- what follows the values that are spelled one by one; of a blob, the bytes
unfoldable pub tail_fits : Tail → List ℕ → Bool
tail_fits NoTail ns = length ns == 0
tail_fits (Elements s) ns = all_fit s ns
tail_fits Bytes ns = all_fit (Field 8) ns

-- bits with a tail behind them
unfoldable pub with_tail : Tail → List ℕ → List Bool → List Bool
with_tail NoTail ns bits = bits
with_tail (Elements s) ns bits = bits ++ chunks 6 (length ns) ++ all_bits s ns
with_tail Bytes ns bits = aligned (aligned (bits ++ chunks 6 (length ns)) ++ all_bits (Field 8) ns)

-- A record by an abbreviation: its code, its operands, and behind them the elements of an array or the bytes of a blob.
unfoldable pub record_fits : Option AdmittedAbbreviation → ℕ → List ℕ → Bool
record_fits None code ns = false
record_fits (Some t) code ns =
    fits t.code code && nat_le (length t.operands) (length ns) && each_fit t.operands (take (length t.operands) ns) && tail_fits t.tail (drop (length t.operands) ns)

-- bits with a record behind them, by an abbreviation or without one
unfoldable pub with_record : Option AdmittedAbbreviation → ℕ → List ℕ → List Bool → List Bool
with_record None code ns bits = bits
with_record (Some t) code ns bits =
    with_tail t.tail (drop (length t.operands) ns) (bits ++ value_bits t.code code ++ each_bits t.operands (take (length t.operands) ns))
