use Rattle.std.proofs.Common.{◌≡◌, take}
use Rattle.type_table.proofs.structs.copy_structs.Given as goal

abbrev pub invariant-loop-i : goal.invariant-loop-i
invariant-loop-i l = l.copy.entries ≡ take l.i l.structs.entries
