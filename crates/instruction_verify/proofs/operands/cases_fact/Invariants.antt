use Rattle.std.proofs.Common.{◌≡◌, List, map, take}
use Rattle.module_arena.specs.Module.{LocalName}
use Rattle.module_arena.specs.View.{module_of}
use Rattle.instruction_verify.specs.ArenaOperands.{operands_fact, case_operand_in}
use Rattle.instruction_verify.proofs.operands.cases_fact.Given as goal

abbrev pub invariant-cases : goal.invariant-cases
invariant-cases l = (values blocks : List LocalName) → l.all ≡ operands_fact (module_of l.judge) (map (case_operand_in l.judge values blocks) (take l.case-index l.cases))
