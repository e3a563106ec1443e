-- For `declare_functions`: how far it is, and the module as far as it is made.
use Rattle.std.specs.Prelude.{ℕ, List, length}
use Rattle.module_arena.specs.Known.{Counts}
use Rattle.module_arena.specs.Lists.{Lists}
use Rattle.module_arena.specs.Module.{Function, Module}

-- all variables, and so many of the functions
abbrev pub functions_through : Lists → ℕ → Counts
functions_through a id = record { variables = length a.variables; aliases = 0; functions = id }

-- the module with these functions
abbrev pub with_functions : Module → List Function → Module
with_functions m functions = record m { functions = functions }
