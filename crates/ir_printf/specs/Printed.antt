-- For `number_text`, `bytes_text`, `put_number` and `put_bytes`: what a conversion writes.
use Rattle.std.specs.Prelude.{ℕ, ◌+◌, ◌-◌, ◌%◌, ◌^◌, ◌≡◌, ◌==◌, ◌&&◌, nat_le, Bool, true, false, not, List, [], ◌∷◌, ◌++◌, take, length, replicate, Option, Some, None, is_none, if◌then◌else◌}
use Rattle.std.specs.Fmt.{decimal, digits}
use Rattle.ir_printf.specs.declared.conversion.ConversionKind.{ConversionKind}
use Rattle.ir_printf.specs.declared.conversion.ConversionKind.TheVariants as kind
use Rattle.ir_printf.specs.declared.conversion.Length.{Length}
use Rattle.ir_printf.specs.declared.conversion.Length.TheVariants as size
use Rattle.ir_printf.specs.declared.conversion.Conversion.{Conversion}

-- ---- numbers

-- how many bits of the argument count
abbrev pub bits_of : Length → ℕ
bits_of size.Byte = 8
bits_of size.Half = 16
bits_of size.Word = 32
bits_of size.Long = 64

-- the argument, cut to these bits
abbrev pub cut : Length → ℕ → ℕ
cut span bits = bits % 2 ^ bits_of span

-- the conversion that writes signed numbers
abbrev pub is_signed : ConversionKind → Bool
is_signed kind.Signed = true
is_signed _ = false

-- the top bit of a signed number is set
abbrev pub is_negative : ConversionKind → Length → ℕ → Bool
is_negative which span bits = is_signed which && nat_le (2 ^ (bits_of span - 1)) (cut span bits)

-- the number without its sign
abbrev pub magnitude : ConversionKind → Length → ℕ → ℕ
magnitude which span bits = if is_negative which span bits then 2 ^ bits_of span - cut span bits else cut span bits

-- a number in the base of a conversion, without leading zeros; 0 is one zero
abbrev pub numeral : ConversionKind → ℕ → List ℕ
numeral kind.LowerHex number = digits 16 false number
numeral kind.UpperHex number = digits 16 true number
numeral kind.Octal number = digits 8 false number
numeral _ number = digits 10 false number

-- zeros before the digits, up to a least count of digits
abbrev pub with_zeros : ℕ → List ℕ → List ℕ
with_zeros least ds = replicate (least - length ds) 48 ++ ds

-- the digits that a precision asks for: with precision 0 the number 0 has none
abbrev pub precise_digits : ConversionKind → Option ℕ → ℕ → List ℕ
precise_digits which None number = numeral which number
precise_digits which (Some least) number = if least == 0 && number == 0 then [] else with_zeros least (numeral which number)

-- `-`, or before a signed number that is not negative `+` or a space
abbrev pub sign : Conversion → Bool → List ℕ
sign conversion negative =
    if negative then 45 ∷ []
    else if is_signed conversion.kind && conversion.plus then 43 ∷ []
    else if is_signed conversion.kind && conversion.space then 32 ∷ []
    else []

-- zeros fill the width where `0` is there without `-` and without a precision
abbrev pub fills_with_zeros : Conversion → Bool
fills_with_zeros conversion = conversion.zero && (not conversion.left_justified && is_none conversion.precision)

-- a sign and digits, filled to the width: on the right with spaces, behind the sign with zeros, or on the left with spaces
abbrev pub filled : Conversion → List ℕ → List ℕ → List ℕ
filled conversion front ds =
    let room = conversion.width - (length front + length ds) in
    if conversion.left_justified then front ++ ds ++ replicate room 32
    else if fills_with_zeros conversion then front ++ replicate room 48 ++ ds
    else replicate room 32 ++ front ++ ds

-- a number as a conversion writes it
abbrev pub printed_number : Conversion → ℕ → List ℕ
printed_number conversion bits =
    filled conversion (sign conversion (is_negative conversion.kind conversion.length bits))
    (precise_digits conversion.kind conversion.precision (magnitude conversion.kind conversion.length bits))

-- a conversion to decimal that neither a width nor a precision fills
abbrev pub fills_nothing : ConversionKind → ℕ → Option ℕ → Bool
fills_nothing kind.Signed width precision = width == 0 && is_none precision
fills_nothing kind.Unsigned width precision = width == 0 && is_none precision
fills_nothing _ width precision = false

-- it writes no more than a sign and digits
abbrev pub is_short : Conversion → Bool
is_short conversion = fills_nothing conversion.kind conversion.width conversion.precision

-- the sign and the digits
abbrev pub short_number : Conversion → ℕ → List ℕ
short_number conversion bits = sign conversion (is_negative conversion.kind conversion.length bits) ++ decimal (magnitude conversion.kind conversion.length bits)

-- ---- bytes

-- no more bytes of a string than a precision allows
abbrev pub precise_bytes : ConversionKind → Option ℕ → List ℕ → List ℕ
precise_bytes kind.Bytes (Some most) bytes = take most bytes
precise_bytes _ _ bytes = bytes

-- filled to the width with spaces
abbrev pub spaced : Conversion → List ℕ → List ℕ
spaced conversion bytes =
    let room = conversion.width - length bytes in
    if conversion.left_justified then bytes ++ replicate room 32 else replicate room 32 ++ bytes

-- a byte or a string as a conversion writes it
abbrev pub printed_bytes : Conversion → List ℕ → List ℕ
printed_bytes conversion bytes = spaced conversion (precise_bytes conversion.kind conversion.precision bytes)

-- ---- what the calls ask for

-- the conversions that write numbers
abbrev pub is_number : ConversionKind → Bool
is_number kind.Char = false
is_number kind.Bytes = false
is_number kind.Percent = false
is_number _ = true

-- the length of a `long`
abbrev pub is_long : Length → Bool
is_long size.Long = true
is_long _ = false

-- one byte for `c`, any bytes for `s`
abbrev pub AreBytesFor : ConversionKind → List ℕ → Type 0
AreBytesFor kind.Char bytes = length bytes ≡ 1
AreBytesFor kind.Bytes bytes = Unit {0}
AreBytesFor _ bytes = ⊥
