-- Each host function with a name of its own is found by it.
use Rattle.std.proofs.Common.{◌≡◌, Bool, true, false, Some, refl, ◌+◌, ◌++◌}
use Rattle.std.proofs.lemmas.Bool.{false≢true}
use Rattle.std.specs.Fmt.{decimal}
use Rattle.ir_tables.specs.IntrinsicName.{name_front}
use Rattle.module_arena.specs.HostRows.{HostRow, Putchar, Puts, Getchar, Exit, Abort, Malloc, Free, Memcpy, Memmove, Memset, Strlen, MemcpyI64, MemmoveI64, MemsetI64, MemcpyI32, MemmoveI32, MemsetI32, LifetimeStart, LifetimeEnd, Printf, Integer, host_row, fixed_name}
use Rattle.module_arena.specs.Module.{Bytes}

-- the name of the function
abbrev pub host_name : HostRow → Bytes
host_name (Integer which width) = name_front which ++ decimal width
host_name row = fixed_name row

abbrev pub is_fixed : HostRow → Bool
is_fixed (Integer which width) = false
is_fixed row = true

pub host_row_of_name : (row : HostRow) → is_fixed row ≡ true → host_row (host_name row) ≡ Some row
unfolding host_row
host_row_of_name Putchar is = refl
host_row_of_name Puts is = refl
host_row_of_name Getchar is = refl
host_row_of_name Exit is = refl
host_row_of_name Abort is = refl
host_row_of_name Malloc is = refl
host_row_of_name Free is = refl
host_row_of_name Memcpy is = refl
host_row_of_name Memmove is = refl
host_row_of_name Memset is = refl
host_row_of_name Strlen is = refl
host_row_of_name MemcpyI64 is = refl
host_row_of_name MemmoveI64 is = refl
host_row_of_name MemsetI64 is = refl
host_row_of_name MemcpyI32 is = refl
host_row_of_name MemmoveI32 is = refl
host_row_of_name MemsetI32 is = refl
host_row_of_name LifetimeStart is = refl
host_row_of_name LifetimeEnd is = refl
host_row_of_name Printf is = refl
host_row_of_name (Integer which width) is = absurd (false≢true is)
