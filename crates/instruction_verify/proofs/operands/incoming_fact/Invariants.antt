use Rattle.std.proofs.Common.{◌≡◌, List, map, take}
use Rattle.module_arena.specs.Module.{LocalName}
use Rattle.module_arena.specs.View.{module_of}
use Rattle.instruction_verify.specs.ArenaOperands.{operands_fact, phi_operand_in}
use Rattle.instruction_verify.proofs.operands.incoming_fact.Given as goal

abbrev pub invariant-values : goal.invariant-values
invariant-values l = (values blocks : List LocalName) → l.all ≡ operands_fact (module_of l.judge) (map (phi_operand_in l.judge values blocks l.ty) (take l.entry-index l.incoming))
