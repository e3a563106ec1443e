use Rattle.std.proofs.Common.{◌≡◌, ◌≤◌, length, map}
use Rattle.module_arena.specs.Known.{counts}
use Rattle.module_linker.specs.Ids.Filing.{places}
use Rattle.module_linker.proofs.OnIds.Among.{AreFiledTo}
use Rattle.module_linker.proofs.ids.filing.filed.Given as goal

-- the entries of the first symbols have their ids
abbrev pub invariant-each : goal.invariant-each
invariant-each l = record {
  upto : l.index ≤ length l.bindings.symbols;
  room : map places l.ids.items ≡ map counts l.parts;
  through : AreFiledTo l.index l.parts l.bindings.symbols l.new l.ids.items;
}
