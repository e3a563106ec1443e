-- For `read_file` and `write_file` of `MemoryFiles`: when a call answers what is expected of it, want of memory aside.
use Rattle.std.specs.Prelude.{◌≡◌, ◌⊎◌, Result, Err}

-- The expected result, or want of memory, which is free: `memory` is the fault that tells of it.
abbrev pub Answers : {T E : Type 0} → E → Result T E → Result T E → Type 0
Answers memory result expected = (result ≡ Err memory) ⊎ (result ≡ expected)
