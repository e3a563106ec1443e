use Rattle.std.proofs.Common.{◌≡◌, take}
use Rattle.module_arena.proofs.names.copied_names.Given as goal

abbrev pub invariant-loop-index : goal.invariant-loop-index
invariant-loop-index l = l.copy.entries ≡ take l.index l.names.entries
