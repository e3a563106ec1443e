use Rattle.std.proofs.Common.{◌<◌, All, length}
use Rattle.arena_table.proofs.known.parameters.Given as goal

abbrev pub invariant-loop-number : goal.invariant-loop-number
invariant-loop-number l =
    record {
      known : All (λ p. p.ty < length l.arena.table.types) l.list;
    }
