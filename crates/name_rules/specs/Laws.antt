-- For `one_module`, `numbers_are_told_as_written` and `what_bytes_read_to_is_well_formed`: laws of reading.
use Rattle.std.specs.Prelude.{◌≡◌, ℕ, ◌==◌, true, false, List, [], ◌∷◌}
use Rattle.ir_terminals.specs.Digits.{are_digits, decimal as number_of_digits}
use Rattle.module_arena.specs.Module.{Bytes, Module}
use Rattle.module_arena.specs.Names.{are_bytes}
use Rattle.module_arena.specs.WellFormed.{IsWellFormed}
use Rattle.name_rules.specs.Spelled.{decimal}
use Rattle.name_rules.specs.Reads.{Reads}

-- a text reads to at most one module
abbrev pub ReadsOnce : Type 0
ReadsOnce = (text : List ℕ) (m n : Module) → Reads text m → Reads text n → m ≡ n

-- what bytes read to is well formed
abbrev pub ReadsWell : Type 0
ReadsWell = (text : List ℕ) (m : Module) → are_bytes text ≡ true → Reads text m → IsWellFormed m

-- ---- the number that was found

-- digits without leading zeros, of which the last digit is none
abbrev pub without_zeros : Bytes → Bytes
without_zeros [] = []
without_zeros (digit ∷ []) = digit ∷ []
without_zeros (digit ∷ next ∷ digits) = elim (digit == 48) [ true ↦ without_zeros (next ∷ digits) | false ↦ digit ∷ next ∷ digits ]

-- a number that digits write is told as these digits without leading zeros, and 0 as `0`
abbrev pub ToldAsWritten : Type 0
ToldAsWritten = (digits : Bytes) → are_digits digits ≡ true → decimal (number_of_digits digits) ≡ without_zeros digits
