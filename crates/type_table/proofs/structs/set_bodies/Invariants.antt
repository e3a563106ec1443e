use Rattle.std.proofs.Common.{◌≡◌, ◌+◌, ◌≤◌, List, length}
use Rattle.std.specs.Vec.Iter.{into_iter_items}
use Rattle.type_table.specs.declared.ir_type.IrType.{IrType}
use Rattle.type_table.specs.Batch.{with_bodies}
use Rattle.type_table.proofs.Flags.{table_of}
use Rattle.type_table.proofs.structs.set_bodies.Given as goal

abbrev pub invariant-bodies : goal.invariant-bodies
invariant-bodies l =
    record {
      set_so_far : (types : List IrType) → with_bodies (table_of types l.structs.entries) l.index (into_iter_items l.rest) ≡ with_bodies (table_of types l.initial.structs.entries) l.first l.fn.given.items;
      many : length l.structs.entries ≡ length l.initial.structs.entries;
      fit : l.index + length (into_iter_items l.rest) ≤ length l.structs.entries;
    }

abbrev pub decreases-bodies : goal.decreases-bodies
decreases-bodies l = length (into_iter_items l.rest)
