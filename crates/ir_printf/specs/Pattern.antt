-- For `next_piece`: the pieces of a pattern: literals, and conversions as they are written.
use Rattle.std.specs.Prelude.{◌≡◌, ℕ, ◌+◌, ◌-◌, ◌*◌, ◌==◌, ◌&&◌, ◌||◌, nat_le, Bool, true, false, not, List, [], ◌∷◌, ◌++◌, drop, take, length, slice_get, slice_range, Option, Some, None, Result, Ok, Err, if◌then◌else◌}
use Rattle.std.specs.List.{prefix_len, list_any}
use Rattle.ir_printf.specs.declared.conversion.ConversionKind.{ConversionKind}
use Rattle.ir_printf.specs.declared.conversion.ConversionKind.TheVariants as kind
use Rattle.ir_printf.specs.declared.conversion.Length.{Length}
use Rattle.ir_printf.specs.declared.conversion.Length.TheVariants as size
use Rattle.ir_printf.specs.declared.conversion.Conversion.{Conversion}
use Rattle.ir_printf.specs.declared.pattern.PatternPiece.{PatternPiece}
use Rattle.ir_printf.specs.declared.pattern.PatternPiece.TheVariants as piece
use Rattle.ir_printf.specs.declared.pattern.TheConstants.{MOST}
use Rattle.ir_printf.specs.declared.pattern.BadFormat.{BadFormat}
use Rattle.ir_printf.specs.Printed.{is_number}

-- ---- what stands behind the `%` of a conversion, from left to right

-- `-`, `0`, `+` and space
abbrev pub is_flag : ℕ → Bool
is_flag byte = byte == 45 || (byte == 48 || (byte == 43 || byte == 32))

-- `0` to `9`
abbrev pub is_digit : ℕ → Bool
is_digit byte = nat_le 48 byte && nat_le byte 57

-- the byte stands in front
abbrev pub begins_with : ℕ → List ℕ → Bool
begins_with byte [] = false
begins_with byte (first ∷ others) = first == byte

-- the count of flags: they come in any order
abbrev pub flags_size : List ℕ → ℕ
flags_size bytes = prefix_len is_flag bytes

-- how many digits stand in front
abbrev pub digits_size : List ℕ → ℕ
digits_size bytes = prefix_len is_digit bytes

-- a dot and digits
abbrev pub precision_size : List ℕ → ℕ
precision_size bytes = if begins_with 46 bytes then digits_size (drop 1 bytes) + 1 else 0

-- `j`, `z` and `t`
abbrev pub is_long : List ℕ → Bool
is_long bytes = begins_with 106 bytes || (begins_with 122 bytes || begins_with 116 bytes)

-- the length that is written, and the count of its bytes: `hh`, `h`, `ll`, `l`, `j`, `z`, `t` or none
abbrev pub length_in : List ℕ → Length × ℕ
length_in bytes =
    if begins_with 104 bytes then (if begins_with 104 (drop 1 bytes) then (size.Byte, 2) else (size.Half, 1))
    else if begins_with 108 bytes then (if begins_with 108 (drop 1 bytes) then (size.Long, 2) else (size.Long, 1))
    else if is_long bytes then (size.Long, 1)
    else (size.Word, 0)

-- the letter of a conversion
abbrev pub kind_of : ℕ → Option ConversionKind
kind_of byte =
    if byte == 100 || byte == 105 then Some kind.Signed
    else if byte == 117 then Some kind.Unsigned
    else if byte == 120 then Some kind.LowerHex
    else if byte == 88 then Some kind.UpperHex
    else if byte == 111 then Some kind.Octal
    else if byte == 99 then Some kind.Char
    else if byte == 115 then Some kind.Bytes
    else None

-- ---- their values

-- the number that digits write behind those of a number
abbrev pub decimal_after : ℕ → List ℕ → ℕ
decimal_after number [] = number
decimal_after number (digit ∷ digits) = decimal_after (number * 10 + (digit - 48)) digits

-- the number that digits write, where it is no more than a width may be; no digits write 0
unfoldable pub small_number : List ℕ → Option ℕ
small_number digits = if nat_le (decimal_after 0 digits) MOST then Some (decimal_after 0 digits) else None

-- a precision as it is written: none, or a dot and digits, where it is no more than it may be
abbrev pub precision_in : List ℕ → Option (Option ℕ)
precision_in [] = Some None
precision_in (dot ∷ digits) = elim (small_number digits) [ None ↦ None | Some n ↦ Some (Some n) ]

-- the byte is among them
abbrev pub has_byte : ℕ → List ℕ → Bool
has_byte byte bytes = list_any (λ b. b == byte) bytes

-- the length of an `int`
abbrev pub is_word : Length → Bool
is_word size.Word = true
is_word _ = false

-- `c` and `s` have no length
abbrev pub may_have : ConversionKind → Length → Bool
may_have which span = is_number which || is_word span

-- ---- conversions

-- `%` behind the `%`
abbrev pub percent : Conversion
percent = record { kind = kind.Percent; left_justified = false; zero = false; plus = false; space = false; width = 0; precision = None; length = size.Word }

-- the conversion of these flags, this kind, length, width and precision
abbrev pub with_parts : List ℕ → ConversionKind → Length → ℕ → Option ℕ → Conversion
with_parts flags which span width precision = record {
  kind = which;
  left_justified = has_byte 45 flags;
  zero = has_byte 48 flags;
  plus = has_byte 43 flags;
  space = has_byte 32 flags;
  width = width;
  precision = precision;
  length = span;
}

-- the conversion of these parts, where each of them is right
abbrev pub joined : List ℕ → Option ConversionKind → Length → Option ℕ → Option (Option ℕ) → Option Conversion
joined flags (Some which) span (Some width) (Some precision) = if may_have which span then Some (with_parts flags which span width precision) else None
joined _ _ _ _ _ = None

-- where each part behind the flags ends
abbrev pub width_end : List ℕ → ℕ
width_end bytes = flags_size bytes + digits_size (drop (flags_size bytes) bytes)

-- how many bytes there are up to the end of the precision
abbrev pub precision_end : List ℕ → ℕ
precision_end bytes = width_end bytes + precision_size (drop (width_end bytes) bytes)

-- how many bytes there are up to the end of the length
abbrev pub length_end : List ℕ → ℕ
length_end bytes = precision_end bytes + (length_in (drop (precision_end bytes) bytes)).1

-- the kind of the conversion whose letter stands there
abbrev pub kind_at : List ℕ → ℕ → Option ConversionKind
kind_at bytes at = elim (slice_get bytes at) [ None ↦ None | Some byte ↦ kind_of byte ]

-- flags, a width, a precision, a length and a letter
unfoldable pub written_conversion : List ℕ → Option Conversion
written_conversion bytes =
    joined (take (flags_size bytes) bytes) (kind_at bytes (length_end bytes)) (length_in (drop (precision_end bytes) bytes)).0
    (small_number (slice_range bytes (flags_size bytes) (width_end bytes))) (precision_in (slice_range bytes (width_end bytes) (precision_end bytes)))

-- the conversion with which the bytes behind a `%` begin
unfoldable pub conversion_in : List ℕ → Option Conversion
conversion_in bytes = if begins_with 37 bytes then Some percent else written_conversion bytes

-- how many bytes it takes
unfoldable pub conversion_size : List ℕ → ℕ
conversion_size bytes = if begins_with 37 bytes then 1 else length_end bytes + 1

-- ---- pieces

-- a byte that is written as it is: any but `%`
abbrev pub is_literal : ℕ → Bool
is_literal byte = not (byte == 37)

-- behind a `%`, the pattern's byte at this place
abbrev pub conversion_piece : ℕ → ℕ → Option Conversion → Result PatternPiece BadFormat
conversion_piece at size None = Err (record { at = at })
conversion_piece at size (Some conversion) = Ok (piece.Convert conversion (at + 1 + size))

-- the piece that begins a rest of the pattern, which stands at this place
abbrev pub first_piece : ℕ → List ℕ → Result PatternPiece BadFormat
first_piece at [] = Ok piece.End
first_piece at (byte ∷ bytes) =
    if byte == 37 then conversion_piece at (conversion_size bytes) (conversion_in bytes)
    else Ok (piece.Literal at (at + prefix_len is_literal (byte ∷ bytes)))

-- the piece at this place of a pattern, or that a `%` there begins no conversion
abbrev pub piece_at : List ℕ → ℕ → Result PatternPiece BadFormat
piece_at pattern at = first_piece at (drop at pattern)

-- where a piece that begins at this place ends
abbrev pub piece_end : ℕ → PatternPiece → ℕ
piece_end at (piece.Literal from to) = to
piece_end at (piece.Convert conversion to) = to
piece_end at piece.End = at

-- the pieces from a place of a pattern on, to its end
abbrev pub AreRead : List ℕ → ℕ → List PatternPiece → Type 0
AreRead pattern at [] = at ≡ length pattern
AreRead pattern at (p ∷ ps) = (piece_at pattern at ≡ Ok p) × AreRead pattern (piece_end at p) ps

-- the bytes of the pieces, one behind the other
abbrev pub read_bytes : List ℕ → ℕ → List PatternPiece → List ℕ
read_bytes pattern at [] = []
read_bytes pattern at (p ∷ ps) = slice_range pattern at (piece_end at p) ++ read_bytes pattern (piece_end at p) ps

-- a pattern that is read piece by piece is the pattern
abbrev pub ReadsWhole : Type 0
ReadsWhole = (pattern : List ℕ) (pieces : List PatternPiece) → AreRead pattern 0 pieces → read_bytes pattern 0 pieces ≡ pattern
