-- Says how the code reads: the initialiser that a variable gets, by its id in the new arena.
use Rattle.std.specs.Prelude.{ℕ, Option, Some, None}
use Rattle.module_arena.specs.Lists.{Lists}
use Rattle.module_arena.specs.Module.{Constant}
use Rattle.item_build.specs.Types.Stands.{IsConstant}

-- the id, where there is one, is that of the initialiser
abbrev pub IsInitialiser : Lists → Option Constant → Option ℕ → Type 0
IsInitialiser b None None = Unit {0}
IsInitialiser b (Some c) (Some id) = IsConstant b id c
IsInitialiser b None (Some id) = ⊥
IsInitialiser b (Some c) None = ⊥
