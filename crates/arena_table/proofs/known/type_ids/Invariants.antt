use Rattle.std.proofs.Common.{◌<◌, All, length}
use Rattle.arena_table.proofs.known.type_ids.Given as goal

abbrev pub invariant-loop-number : goal.invariant-loop-number
invariant-loop-number l =
    record {
      known : All (λ ty. ty < length l.arena.table.types) l.list;
    }
