-- Says how the code reads: how texts that do not change are kept.
use Rattle.std.specs.Prelude.{◌≡◌, ℕ, ◌≤◌, List, take}
use Rattle.ir_terminals.specs.declared.compact.Stored.{Stored}
use Rattle.ir_terminals.specs.declared.compact.Stored.TheVariants.{Short, Long}

-- the bytes that are kept
abbrev pub stored_bytes : Stored → List ℕ
stored_bytes (Short count bytes) = take count bytes
stored_bytes (Long text) = text.value

-- no more bytes are counted than stand in a word
abbrev pub IsShort : Stored → Type 0
IsShort (Short count bytes) = count ≤ 14
IsShort (Long text) = Unit {0}

-- these bytes are kept
abbrev pub IsKept : Stored → List ℕ → Type 0
IsKept stored bytes = IsShort stored × (stored_bytes stored ≡ bytes)
