-- Conversions that fill nothing.
use Rattle.std.proofs.Common.{◌≡◌, ℕ, ◌+◌, ◌-◌, List, ◌++◌, length, replicate, Bool, true, false, ◌&&◌, Option, Some, None, refl, sym, ap, ◌∙◌, append-nil, arith, true≢false}
use Rattle.std.specs.Prelude.{◌==◌, is_none, if◌then◌else◌}
use Rattle.std.proofs.lemmas.Bool.{and_parts, eqb-true}
use Rattle.std.specs.Fmt.{decimal}
use Rattle.ir_printf.specs.declared.conversion.Conversion.{Conversion}
use Rattle.ir_printf.specs.declared.conversion.ConversionKind.{ConversionKind}
use Rattle.ir_printf.specs.declared.conversion.ConversionKind.TheVariants as kind
use Rattle.ir_printf.specs.Printed.{fills_nothing, fills_with_zeros, is_negative, is_short, magnitude, numeral, precise_bytes, precise_digits, printed_bytes, printed_number, short_number, sign}

-- what the test tells
none_there : (p : Option ℕ) → is_none p ≡ true → p ≡ None
none_there None h = refl
none_there (Some n) h = absurd (true≢false (sym h))

bare : (width : ℕ) (p : Option ℕ) → (width == 0 && is_none p) ≡ true → (width ≡ 0) × (p ≡ None)
bare width p h =
    let parts = and_parts (width == 0) (is_none p) h in (eqb-true width 0 parts.0, none_there p parts.1)

nothing_fills : (k : ConversionKind) (width : ℕ) (p : Option ℕ) → fills_nothing k width p ≡ true → (width ≡ 0) × (p ≡ None)
nothing_fills kind.Signed width p h = bare width p h
nothing_fills kind.Unsigned width p h = bare width p h
nothing_fills kind.LowerHex width p h = absurd (true≢false (sym h))
nothing_fills kind.UpperHex width p h = absurd (true≢false (sym h))
nothing_fills kind.Octal width p h = absurd (true≢false (sym h))
nothing_fills kind.Char width p h = absurd (true≢false (sym h))
nothing_fills kind.Bytes width p h = absurd (true≢false (sym h))
nothing_fills kind.Percent width p h = absurd (true≢false (sym h))

in_decimal : (k : ConversionKind) (width : ℕ) (p : Option ℕ) (number : ℕ) → fills_nothing k width p ≡ true → numeral k number ≡ decimal number
in_decimal kind.Signed width p number h = refl
in_decimal kind.Unsigned width p number h = refl
in_decimal kind.LowerHex width p number h = absurd (true≢false (sym h))
in_decimal kind.UpperHex width p number h = absurd (true≢false (sym h))
in_decimal kind.Octal width p number h = absurd (true≢false (sym h))
in_decimal kind.Char width p number h = refl
in_decimal kind.Bytes width p number h = refl
in_decimal kind.Percent width p number h = refl

-- no room is left to be filled
unfilled : (left zeros : Bool) (room : ℕ) (front ds : List ℕ) → room ≡ 0
    → (if left then front ++ ds ++ replicate room 32 else if zeros then front ++ replicate room 48 ++ ds else replicate room 32 ++ front ++ ds) ≡ front ++ ds
unfilled true zeros room front ds e = ap (λ n. front ++ ds ++ replicate n 32) e ∙ append-nil (front ++ ds)
unfilled false true room front ds e = ap (λ n. front ++ replicate n 48 ++ ds) e ∙ ap (λ (xs : List ℕ). xs ++ ds) (append-nil front)
unfilled false false room front ds e = ap (λ n. replicate n 32 ++ front ++ ds) e

unspaced : (left : Bool) (room : ℕ) (bytes : List ℕ) → room ≡ 0 → (if left then bytes ++ replicate room 32 else replicate room 32 ++ bytes) ≡ bytes
unspaced true room bytes e = ap (λ n. bytes ++ replicate n 32) e ∙ append-nil bytes
unspaced false room bytes e = ap (λ n. replicate n 32 ++ bytes) e

-- a short number is the number as the conversion writes it
pub short_is : (c : Conversion) (bits : ℕ) → is_short c ≡ true → short_number c bits ≡ printed_number c bits
short_is c bits h =
    let number = magnitude c.kind c.length bits in
    let front = sign c (is_negative c.kind c.length bits) in
    let parts = nothing_fills c.kind c.width c.precision h in
    let none : c.precision ≡ None = parts.1 in
    let narrow : c.width ≡ 0 = parts.0 in
    let ds : precise_digits c.kind c.precision number ≡ decimal number = ap (λ p. precise_digits c.kind p number) none ∙ in_decimal c.kind c.width c.precision number h in
    let room : c.width - (length front + length (precise_digits c.kind c.precision number)) ≡ 0 = omega (arith, narrow) in
    sym
    (unfilled c.left_justified (fills_with_zeros c) (c.width - (length front + length (precise_digits c.kind c.precision number))) front (precise_digits c.kind c.precision number) room
    ∙ ap (λ (xs : List ℕ). front ++ xs) ds)

-- and bytes without a width are as the precision leaves them
pub narrow_is : (c : Conversion) (bytes : List ℕ) → c.width ≡ 0 → precise_bytes c.kind c.precision bytes ≡ printed_bytes c bytes
narrow_is c bytes narrow =
    let room : c.width - length (precise_bytes c.kind c.precision bytes) ≡ 0 = omega (arith, narrow) in
    sym (unspaced c.left_justified (c.width - length (precise_bytes c.kind c.precision bytes)) (precise_bytes c.kind c.precision bytes) room)
