-- For `unquote` and `strings_stand_for_their_bytes`: strings: what stands between the quotes, and the bytes that it
-- stands for.
use Rattle.std.specs.Prelude.{◌≡◌, ◌≢◌, ◌⊎◌, ◌++◌, ℕ, ◌+◌, ◌-◌, ◌*◌, ◌<◌, ◌==◌, Bool, true, false, not, cond, List, [], ◌∷◌, Option, Some, None, if◌then◌else◌}
use Rattle.ir_lexer.specs.Class.{from_to}
use Rattle.ir_lexer.specs.declared.quoted.Escape.{Escape}
use Rattle.ir_lexer.specs.declared.quoted.Escape.TheVariants.{Plain, Slash, High}
use Rattle.ir_lexer.specs.declared.quoted.Unescaped.{Unescaped}
use Rattle.ir_lexer.specs.declared.quoted.Unescaped.TheVariants.{More, Byte, Bad}

-- the value of a hexadecimal digit
unfoldable pub digit_value : ℕ → Option ℕ
digit_value b =
    if from_to 48 57 b then Some (b - 48)
    else (if from_to 97 102 b then Some (b - 87)
    else (if from_to 65 70 b then Some (b - 55) else None))

-- a backslash and two hexadecimal digits, which stand for the byte of this value
pub record IsHexByte (part : List ℕ) (byte : ℕ) : Type 0 where
  pub high : ℕ
  pub low : ℕ
  pub high_value : ℕ
  pub low_value : ℕ
  pub part_is : part ≡ 92 ∷ high ∷ low ∷ []
  pub high_is : digit_value high ≡ Some high_value
  pub low_is : digit_value low ≡ Some low_value
  pub byte_is : byte ≡ 16 * high_value + low_value

-- the spelling of a byte in a string: the byte itself if it is no backslash; two backslashes for one; or `\xx`
abbrev pub SpellsByte : List ℕ → ℕ → Type 0
SpellsByte part byte = ((part ≡ byte ∷ []) × (byte ≢ 92)) ⊎ (((part ≡ 92 ∷ 92 ∷ []) × (byte ≡ 92)) ⊎ IsHexByte part byte)

-- the inside of a string stands for these bytes
abbrev pub StandsFor : List ℕ → List ℕ → Type 0
StandsFor inside [] = inside ≡ []
StandsFor inside (byte ∷ bytes) = (part : List ℕ) × (rest : List ℕ) × (inside ≡ part ++ rest) × SpellsByte part byte × StandsFor rest bytes

-- a byte in front of the others, where there are any
abbrev pub with_byte : ℕ → Option (List ℕ) → Option (List ℕ)
with_byte b (Some bs) = Some (b ∷ bs)
with_byte b None = None

-- behind a backslash and what may be a digit
abbrev pub after_slash : Option ℕ → Unescaped
after_slash (Some high) = More (High high)
after_slash None = Bad

-- behind a backslash, a digit and what may be another
abbrev pub after_high : ℕ → Option ℕ → Unescaped
after_high high (Some low) = Byte (16 * high + low)
after_high high None = Bad

-- what a byte of the inside of a string completes
unfoldable pub unescaped : Escape → ℕ → Unescaped
unescaped Plain b = if b == 92 then More Slash else Byte b
unescaped Slash b = if b == 92 then Byte 92 else after_slash (digit_value b)
unescaped (High high) b = after_high high (digit_value b)

-- what a byte completes, and the bytes behind it
abbrev pub decoded : Unescaped → (Escape → Option (List ℕ)) → Option (List ℕ)
decoded (More state) f = f state
decoded (Byte b) f = with_byte b (f Plain)
decoded Bad f = None

-- a string may not end inside an escape
abbrev pub at_end : Escape → Option (List ℕ)
at_end Plain = Some []
at_end _ = None

-- reading: the bytes that the inside of a string stands for, or None where it stands for none
unfoldable pub decode : Escape → List ℕ → Option (List ℕ)
decode state [] = at_end state
decode state (b ∷ bs) = decoded (unescaped state b) (λ next. decode next bs)

-- a zero byte is among them
abbrev pub has_zero : List ℕ → Bool
has_zero [] = false
has_zero (b ∷ bs) = cond (b == 0) true (has_zero bs)

-- whether a zero byte is among these, or was before
abbrev pub zero_in : Bool → Option (List ℕ) → Option Bool
zero_in before None = None
zero_in before (Some bs) = Some (cond before true (has_zero bs))

-- whether the inside of a string has a zero byte, if it stands for bytes
abbrev pub zeros : List ℕ → Option Bool
zeros inside = zero_in false (decode Plain inside)

-- the string stands for bytes
abbrev pub is_whole : Option Bool → Bool
is_whole None = false
is_whole (Some z) = true

-- the string stands for bytes, none of which is zero
abbrev pub is_clean : Option Bool → Bool
is_clean None = false
is_clean (Some z) = not z

-- whether the inside of a string stands for bytes
abbrev pub is_text : List ℕ → Bool
is_text inside = is_whole (zeros inside)

-- whether the inside of a string stands for a name: it is not empty, and no byte is zero
abbrev pub is_name : List ℕ → Bool
is_name [] = false
is_name (b ∷ bs) = is_clean (zeros (b ∷ bs))

-- what the code keeps of a half-read escape
abbrev pub HighFits : Escape → Type 0
HighFits (High high) = high < 16
HighFits _ = Unit {0}

-- a digit that is kept is below 16
abbrev pub UnescapedFits : Unescaped → Type 0
UnescapedFits (More state) = HighFits state
UnescapedFits _ = Unit {0}
