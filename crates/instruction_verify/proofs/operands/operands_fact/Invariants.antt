use Rattle.std.proofs.Common.{◌≡◌, List, map, take}
use Rattle.module_arena.specs.Module.{LocalName}
use Rattle.module_arena.specs.View.{module_of}
use Rattle.instruction_verify.specs.ArenaOperands.{operands_fact, operand_in}
use Rattle.instruction_verify.proofs.operands.operands_fact.Given as goal

abbrev pub invariant-operands : goal.invariant-operands
invariant-operands l = (values blocks : List LocalName) → l.all ≡ operands_fact (module_of l.judge) (map (operand_in l.judge values blocks) (take l.operand-index l.operands))
