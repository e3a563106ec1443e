-- Says how the code reads: what a number keeps.
use Rattle.std.specs.Prelude.{◌≡◌, ℕ, ◌^◌, ◌≤◌, ◌<◌, true}
use Rattle.ir_terminals.specs.Digits.{are_digits, decimal}
use Rattle.ir_terminals.specs.declared.number.Magnitude.{Magnitude}
use Rattle.ir_terminals.specs.declared.number.Magnitude.TheVariants.{Small, Large}

-- the number that is kept
abbrev pub value_of : Magnitude → ℕ
value_of (Small value) = value
value_of (Large digits) = decimal digits.value

-- digits are kept only of a number that has no 64 bits
abbrev pub IsLarge : Magnitude → Type 0
IsLarge (Small value) = value < 2 ^ 64
IsLarge (Large digits) = (are_digits digits.value ≡ true) × (2 ^ 64 ≤ decimal digits.value)
