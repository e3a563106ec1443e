use Rattle.ir_phrases.specs.Instructions.View.{instruction_view}
use Rattle.name_rules.specs.FunctionDemands.{instruction_demands, instructions_demands}
use Rattle.name_rules.specs.Locals.{announced_result}
use Rattle.type_judge.specs.Gathered.{known_of}
use Rattle.name_judge.specs.Locals.Names.{locals_of}
use Rattle.name_judge.proofs.OnLocals.Loops.{Going, whole, rest_at, then_at}
use Rattle.name_judge.proofs.locals.functions.check_instructions.Given as goal

abbrev pub invariant-instructions : goal.invariant-instructions
invariant-instructions l = Going l.initial.called l.called (whole instruction_view (instruction_demands (known_of l.known) (locals_of l.locals)) announced_result (instructions_demands (known_of l.known) (locals_of l.locals)) l.instructions) (rest_at instruction_view (instruction_demands (known_of l.known) (locals_of l.locals)) announced_result (instructions_demands (known_of l.known) (locals_of l.locals)) l.instructions l.instruction-index) (then_at instruction_view (instruction_demands (known_of l.known) (locals_of l.locals)) announced_result (instructions_demands (known_of l.known) (locals_of l.locals)) l.instructions l.instruction-index)
