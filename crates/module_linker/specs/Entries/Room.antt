-- Says how the code of `declare_symbols` reads: how many entries are declared, and that there is room for one more.
use Rattle.std.specs.Prelude.{◌≡◌, ℕ, true, List, map, take}
use Rattle.type_table.specs.Tree.{Structs}
use Rattle.type_table.specs.Types.{structs}
use Rattle.module_arena.specs.Known.{Counts}
use Rattle.module_arena.specs.Lists.{Lists}
use Rattle.module_arena.specs.View.{module_of}
use Rattle.module_arena.specs.WellFormed.{is_good_type}
use Rattle.linkage_rules.specs.Globals.{Global, OfVariable, OfFunction, OfAlias, name_of}
use Rattle.linkage_rules.specs.Ids.{modules}
use Rattle.link_rules.specs.Linked.{linked_globals}
use Rattle.item_build.specs.Types.Declarations.{IsFree, AreFew, AreUntargeted, one_variable_more, one_alias_more, one_function_more}
use Rattle.entry_copy.specs.Tables.{Tables}
use Rattle.module_linker.specs.Stages.Declared.{bare, with_globals}
use Rattle.module_linker.specs.Stages.Ground.{HaveTypes, ground}

-- The first so many entries of the linked module are declared in b, and nothing else is.
pub record IsDeclaring (parts : List Lists) (count : ℕ) (b : Lists) (tables : List Tables) : Type 0 where
  pub types : HaveTypes parts b tables
  pub joined : module_of b ≡ with_globals (ground (modules parts)) (map bare (take count (linked_globals (modules parts))))
  pub untargeted : AreUntargeted 0 b

-- the counts with an entry of that kind more
abbrev pub one_more : Lists → Global → Counts
one_more b (OfVariable v) = one_variable_more b
one_more b (OfFunction f) = one_function_more b
one_more b (OfAlias x) = one_alias_more b

-- a variable's type is within the limits, where structs have these bodies
abbrev pub HasGoodType : Structs → Global → Type 0
HasGoodType ss (OfVariable v) = is_good_type ss v.ty ≡ true
HasGoodType ss (OfFunction f) = Unit {0}
HasGoodType ss (OfAlias x) = Unit {0}

-- There is room for that entry in b: its name is free, there may be one of its kind more, and its type is within the limits.
pub record HasRoom (b : Lists) (g : Global) : Type 0 where
  pub free : IsFree b (name_of g)
  pub few : AreFew (one_more b g)
  pub good : HasGoodType (structs b.table) g
