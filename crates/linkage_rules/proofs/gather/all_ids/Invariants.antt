use Rattle.std.proofs.Common.{◌≡◌, ◌++◌, take, drop, All}
use Rattle.module_arena.specs.Sound.{IsSound}
use Rattle.linkage_rules.specs.Grouped.{ids_from}
use Rattle.linkage_rules.proofs.gather.all_ids.Given as goal

abbrev pub invariant-loop-part : goal.invariant-loop-part
invariant-loop-part l = record {
  rest : l.ids.items ++ ids_from l.part (drop l.part l.parts) ≡ ids_from 0 l.parts;
  sound : All IsSound (take l.part l.parts);
}
