-- Says how the code of `declare_symbols` reads: an entry is declared.
use Rattle.std.specs.Prelude.{◌≡◌, List}
use Rattle.module_arena.specs.Known.{counts}
use Rattle.module_arena.specs.Lists.{Lists}
use Rattle.module_arena.specs.View.{module_of}
use Rattle.module_arena.specs.declared.entry.GlobalId.{GlobalId}
use Rattle.module_arena.specs.declared.entry.GlobalId.TheVariants as global
use Rattle.linkage_rules.specs.Globals.{Global, OfVariable, OfFunction, OfAlias}
use Rattle.item_build.specs.Types.Declarations.{AreUntargeted}
use Rattle.entry_copy.specs.Tables.{Tables}
use Rattle.module_linker.specs.Stages.Declared.{bare, with_global}
use Rattle.module_linker.specs.Stages.Ground.{HaveTypes}

-- the id of an entry of this kind that is declared next
abbrev pub next_id : Lists → Global → GlobalId
next_id b (OfVariable v) = global.Variable (counts b).variables
next_id b (OfFunction f) = global.Function (counts b).functions
next_id b (OfAlias x) = global.Alias (counts b).aliases

-- It was declared, under this id, and all types are still copied.
pub record IsDeclared (parts : List Lists) (before now : Lists) (tables : List Tables) (g : Global) (id : GlobalId) : Type 0 where
  pub joined : module_of now ≡ with_global (module_of before) (bare g)
  pub next : id ≡ next_id before g
  pub types : HaveTypes parts now tables
  pub untargeted : AreUntargeted 0 before → AreUntargeted 0 now
