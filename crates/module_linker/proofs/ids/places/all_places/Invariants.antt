use Rattle.std.proofs.Common.{◌≡◌, ◌≤◌, length, map, take, All}
use Rattle.module_arena.specs.Known.{AreDistinct, counts}
use Rattle.module_linker.specs.Ids.Filing.{places}
use Rattle.module_linker.proofs.ids.places.all_places.Given as goal

-- the first parts have their places
abbrev pub invariant-parts : goal.invariant-parts
invariant-parts l = record {
  upto : l.part ≤ length l.parts;
  places : map places l.ids.items ≡ map counts (take l.part l.parts);
  distinct : All AreDistinct (take l.part l.parts);
}
