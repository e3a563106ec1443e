use Rattle.std.proofs.Common.{◌≡◌, ◌<◌, List, map, drop, length}
use Rattle.type_table.specs.Types.{tree, structs}
use Rattle.module_arena.specs.Constants.{leads_to_part}
use Rattle.module_arena.specs.Module.{LocalName}
use Rattle.instruction_verify.specs.ArenaOperands.{index_in}
use Rattle.instruction_verify.proofs.elements.leads_to_part.Given as goal

abbrev pub invariant-indices : goal.invariant-indices
invariant-indices l = record {
  known : l.ty < length l.judge.table.types;
  left : (values blocks : List LocalName) → leads_to_part (structs l.judge.table) (tree l.judge.table l.ty) (map (index_in l.judge values blocks) (drop l.index-index l.indices)) ≡ leads_to_part (structs l.judge.table) (tree l.judge.table l.fn.source) (map (index_in l.judge values blocks) l.indices);
}
