use Rattle.std.proofs.Common.{◌≡◌, ◌<◌, map, drop, length}
use Rattle.type_table.specs.Types.{tree, structs}
use Rattle.module_arena.specs.Constants.{leads_to_part}
use Rattle.entry_verify.specs.Constants.ConstantParts.{index_at}
use Rattle.entry_verify.proofs.constants.fits.leads_to_part.Given as goal

abbrev pub invariant-loop-index : goal.invariant-loop-index
invariant-loop-index l = record {
  known : l.ty < length l.arena.table.types;
  left : leads_to_part (structs l.arena.table) (tree l.arena.table l.ty) (map (index_at l.arena) (drop l.index-index l.indices)) ≡ leads_to_part (structs l.arena.table) (tree l.arena.table l.fn.source) (map (index_at l.arena) l.indices);
}
