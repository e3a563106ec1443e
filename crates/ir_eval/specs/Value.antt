-- For `binary`, `compare`, `cast`, `select` and `freeze`: leaves of values, and integers of a width as whole numbers (LangRef,
-- "Integer Type", "Poison Values").
use Rattle.std.specs.Prelude.{ℕ, ◌-◌, ◌<◌, ◌≤◌, ◌^◌, ℤ, pos, negsuc, ◌-ℤ◌, Bool, true, false, ◌≡◌, None, nat_lt, nat_le, ⊤, unsigned_abs, if◌then◌else◌}
use Rattle.std.specs.Int.{int_rem_euclid}
use Rattle.ir_tables.specs.declared.width.TheConstants.{WIDEST}
use Rattle.ir_eval.specs.declared.value.Scalar.{Scalar}
use Rattle.ir_eval.specs.declared.value.Scalar.TheVariants.{Int, Ptr, Poison}

-- how many bits an integer may have
pub record IsWidth (width : ℕ) : Type 0 where
  pub some : 1 ≤ width
  pub most : width ≤ WIDEST

-- an integer of this width, or poison
abbrev pub IsInteger : ℕ → Scalar → Type 0
IsInteger width (Int number) = number < 2 ^ width
IsInteger width (Ptr pointer) = ⊥
IsInteger width Poison = ⊤

-- a pointer, or poison
abbrev pub IsPointer : Scalar → Type 0
IsPointer (Int number) = ⊥
IsPointer (Ptr pointer) = ⊤
IsPointer Poison = ⊤

-- a pointer where that is asked for, and else an integer of this width, or poison
abbrev pub IsLeaf : Bool → ℕ → Scalar → Type 0
IsLeaf true width leaf = IsPointer leaf
IsLeaf false width leaf = IsInteger width leaf

-- a pointer that came from no block, or poison
abbrev pub HasNoBlock : Scalar → Type 0
HasNoBlock (Int number) = ⊥
HasNoBlock (Ptr pointer) = pointer.block ≡ None
HasNoBlock Poison = ⊤

-- no poison
abbrev pub IsDefined : Scalar → Type 0
IsDefined (Int number) = ⊤
IsDefined (Ptr pointer) = ⊤
IsDefined Poison = ⊥

-- the number read with its sign, as two's complement
abbrev pub signed : ℕ → ℕ → ℤ
signed width number = if nat_lt number (2 ^ (width - 1)) then pos number else pos number -ℤ pos (2 ^ width)

-- the number of this width to which a whole number is congruent modulo 2^width
abbrev pub reduced : ℕ → ℤ → ℕ
reduced width whole = unsigned_abs (int_rem_euclid whole (pos (2 ^ width)))

-- the whole number is from 0 to 2^width - 1
abbrev pub fits_unsigned : ℕ → ℤ → Bool
fits_unsigned width (pos n) = nat_lt n (2 ^ width)
fits_unsigned width (negsuc n) = false

-- the whole number, n or -(n + 1), is from -2^(width - 1) to 2^(width - 1) - 1
abbrev pub fits_signed : ℕ → ℤ → Bool
fits_signed width (pos n) = nat_lt n (2 ^ (width - 1))
fits_signed width (negsuc n) = nat_lt n (2 ^ (width - 1))

-- the sign bit is set
abbrev pub has_sign : ℕ → ℕ → Bool
has_sign width number = nat_le (2 ^ (width - 1)) number
