use Rattle.item_build.proofs.OnTypes.Growing.{grows_not}
use Rattle.ir_resolve.proofs.instruction_build.values.build_operand.Goals as goal

pub returns-in-Some-clause-grows : goal.returns-in-Some-clause-grows
returns-in-Some-clause-grows c = grows_not c.args.builder.now.arena
