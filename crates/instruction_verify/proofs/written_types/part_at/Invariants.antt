use Rattle.std.proofs.Common.{◌≡◌, ◌<◌, drop, length}
use Rattle.type_table.specs.Types.{tree, structs}
use Rattle.module_arena.specs.TypeTests.{part_at}
use Rattle.instruction_verify.proofs.written_types.part_at.Given as goal

abbrev pub invariant-indices : goal.invariant-indices
invariant-indices l = record {
  known : l.ty < length l.types.types;
  left : part_at (structs l.types) (tree l.types l.ty) (drop l.index-index l.indices) ≡ part_at (structs l.types) (tree l.types l.fn.whole) l.indices;
}
