-- Says how the code reads: which instructions are taken apart from the others by what copies and prints them.
use Rattle.std.specs.Prelude.{Bool, true, false}
use Rattle.module_arena.specs.declared.instruction.Inst.{Inst}
use Rattle.module_arena.specs.declared.instruction.Inst.TheVariants as inst

-- it works on memory, or computes an address
abbrev pub is_access : Inst → Bool
is_access (inst.Load flags result ty address alignment) = true
is_access (inst.Store flags stored address alignment) = true
is_access (inst.Alloca result ty count alignment) = true
is_access (inst.GetElementPtr flags result source base indices) = true
is_access _ = false
