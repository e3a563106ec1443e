use Rattle.std.proofs.Common.{take, map}
use Rattle.std.specs.Prelude.{flat_map}
use Rattle.ir_phrases.specs.Instructions.View.{instruction_view}
use Rattle.name_rules.specs.Locals.{announced_result}
use Rattle.name_judge.specs.Locals.Names.{Announces}
use Rattle.name_judge.proofs.locals.gathered.add_results.Given as goal

abbrev pub invariant-instructions : goal.invariant-instructions
invariant-instructions l = Announces l.initial.names l.names (flat_map announced_result (map instruction_view (take l.instruction-index l.instructions)))
