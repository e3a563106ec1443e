-- For `with` and `has` of `Flags`: sets of flags, as the sums of the codes of their flags.
use Rattle.std.specs.Prelude.{ℕ, ◌+◌, ◌/◌, ◌%◌, ◌==◌, Bool, if◌then◌else◌}
use Rattle.ir_tables.specs.declared.flag.Flag.{Flag}
use Rattle.ir_tables.specs.Flag.{flag_code}

-- the flag's code is a power of two, and occurs in the sum
abbrev pub has_flag : ℕ → Flag → Bool
has_flag flags flag = flags / flag_code flag % 2 == 1

-- a set with one flag more, unless it has that flag
abbrev pub flags_with : ℕ → Flag → ℕ
flags_with flags flag = if has_flag flags flag then flags else flags + flag_code flag
