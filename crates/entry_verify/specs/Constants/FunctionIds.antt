-- Says how the code of `is_only_called` reads: which entries are functions.
use Rattle.std.specs.Prelude.{Bool, true, false}
use Rattle.module_arena.specs.declared.entry.GlobalId.{GlobalId}
use Rattle.module_arena.specs.declared.entry.GlobalId.TheVariants as global

-- the entry is a function
abbrev pub is_function : GlobalId → Bool
is_function (global.Function id) = true
is_function (global.Variable id) = false
is_function (global.Alias id) = false
