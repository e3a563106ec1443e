-- A conversion that a letter tells alone.
use Rattle.std.proofs.Common.{◌≡◌, ℕ, List, [], ◌∷◌, Bool, true, false, Option, Some, None, ◌||◌, refl, sym, subst}
use Rattle.std.specs.Prelude.{◌==◌, if◌then◌else◌}
use Rattle.std.proofs.lemmas.Bool.{eqb-true}
use Rattle.std.proofs.lemmas.Option.{same_Some}
use Rattle.ir_printf.specs.declared.conversion.ConversionKind.{ConversionKind}
use Rattle.ir_printf.specs.declared.conversion.ConversionKind.TheVariants as kind
use Rattle.ir_printf.specs.declared.conversion.Length.TheVariants as size
use Rattle.ir_printf.specs.Pattern.{kind_at, length_end, small_number, with_parts, written_conversion}

-- the bytes begin with a letter that tells the conversion alone
abbrev pub IsLetter : List ℕ → ConversionKind → Type 0
IsLetter bytes which = (written_conversion bytes ≡ Some (with_parts [] which size.Word 0 None)) × (length_end bytes ≡ 0)

module _ (byte : ℕ) (rest : List ℕ) (which : ConversionKind) where
  is_that : (letter : ℕ) (told : ConversionKind) → (byte == letter) ≡ true → Some told ≡ Some which → IsLetter (letter ∷ rest) told → IsLetter (byte ∷ rest) which
  is_that letter told test e h = subst (λ b. IsLetter (b ∷ rest) which) (sym (eqb-true byte letter test)) (subst (IsLetter (letter ∷ rest)) (same_Some told which e) h)

  -- the letters in the order of their tests, from the last on
  abbrev from_bytes : Bool → Option ConversionKind
  from_bytes t = if t then Some kind.Bytes else None

  abbrev from_char : Bool → Option ConversionKind
  from_char t = if t then Some kind.Char else from_bytes (byte == 115)

  abbrev from_octal : Bool → Option ConversionKind
  from_octal t = if t then Some kind.Octal else from_char (byte == 99)

  abbrev from_upper : Bool → Option ConversionKind
  from_upper t = if t then Some kind.UpperHex else from_octal (byte == 111)

  abbrev from_lower : Bool → Option ConversionKind
  from_lower t = if t then Some kind.LowerHex else from_upper (byte == 88)

  abbrev from_unsigned : Bool → Option ConversionKind
  from_unsigned t = if t then Some kind.Unsigned else from_lower (byte == 120)

  abbrev from_signed : Bool → Bool → Option ConversionKind
  from_signed t u = if t || u then Some kind.Signed else from_unsigned (byte == 117)

  at_bytes : (t : Bool) → (byte == 115) ≡ t → from_bytes t ≡ Some which → IsLetter (byte ∷ rest) which
  unfolding written_conversion small_number
  at_bytes true test e = is_that 115 kind.Bytes test e (refl, refl)
  at_bytes false test e = cc

  at_char : (t : Bool) → (byte == 99) ≡ t → from_char t ≡ Some which → IsLetter (byte ∷ rest) which
  unfolding written_conversion small_number
  at_char true test e = is_that 99 kind.Char test e (refl, refl)
  at_char false test e = at_bytes (byte == 115) refl e

  at_octal : (t : Bool) → (byte == 111) ≡ t → from_octal t ≡ Some which → IsLetter (byte ∷ rest) which
  unfolding written_conversion small_number
  at_octal true test e = is_that 111 kind.Octal test e (refl, refl)
  at_octal false test e = at_char (byte == 99) refl e

  at_upper : (t : Bool) → (byte == 88) ≡ t → from_upper t ≡ Some which → IsLetter (byte ∷ rest) which
  unfolding written_conversion small_number
  at_upper true test e = is_that 88 kind.UpperHex test e (refl, refl)
  at_upper false test e = at_octal (byte == 111) refl e

  at_lower : (t : Bool) → (byte == 120) ≡ t → from_lower t ≡ Some which → IsLetter (byte ∷ rest) which
  unfolding written_conversion small_number
  at_lower true test e = is_that 120 kind.LowerHex test e (refl, refl)
  at_lower false test e = at_upper (byte == 88) refl e

  at_unsigned : (t : Bool) → (byte == 117) ≡ t → from_unsigned t ≡ Some which → IsLetter (byte ∷ rest) which
  unfolding written_conversion small_number
  at_unsigned true test e = is_that 117 kind.Unsigned test e (refl, refl)
  at_unsigned false test e = at_lower (byte == 120) refl e

  at_signed : (t u : Bool) → (byte == 100) ≡ t → (byte == 105) ≡ u → from_signed t u ≡ Some which → IsLetter (byte ∷ rest) which
  unfolding written_conversion small_number
  at_signed true u test other e = is_that 100 kind.Signed test e (refl, refl)
  at_signed false true test other e = is_that 105 kind.Signed other e (refl, refl)
  at_signed false false test other e = at_unsigned (byte == 117) refl e

-- a letter that stands first
pub first_letter : (bytes : List ℕ) (which : ConversionKind) → kind_at bytes 0 ≡ Some which → IsLetter bytes which
first_letter [] which e = cc
first_letter (byte ∷ rest) which e = at_signed byte rest which (byte == 100) (byte == 105) refl refl e
