use Rattle.std.proofs.Common.{◌≡◌, ◌≤◌, length}
use Rattle.type_table.specs.Types.{structs}
use Rattle.module_arena.specs.Lists.{no_lists}
use Rattle.module_arena.specs.View.{module_of}
use Rattle.linkage_rules.specs.Ids.{modules}
use Rattle.item_build.specs.Types.Holding.{entries}
use Rattle.item_build.specs.Partly.{with_structs}
use Rattle.module_linker.specs.Head.Head.{texts_of}
use Rattle.module_linker.specs.Ground.Making.{IsMade}
use Rattle.module_linker.proofs.ground.ground.copy_ground.Given as goal

abbrev pub invariant-parts : goal.invariant-parts
invariant-parts l = record {
  upto : l.part ≤ length l.parts;
  one_each : length l.copiers.items ≡ l.part;
  made : IsMade l.parts l.into.arena l.copiers.items;
  joined : module_of l.into.arena ≡ with_structs (texts_of (modules l.parts)) (structs l.into.arena.table);
  others : entries l.into.arena ≡ no_lists;
}
