use Rattle.ir_printer.specs.Phrases.Printing.{separator_of}
use Rattle.ir_printer.proofs.OnInstructions.Results.{instruction_put}
use Rattle.ir_printer.proofs.instructions.instruction.put_instruction.Goals as goal

pub returns : goal.returns
returns g c =
    instruction_put c.args.arena.now c.args.function.now (separator_of c.args.behind) c.args.inst.now c.result.result c.result.ensures (c.put_result.ensures c.args.arena.now) c.put_operation.ensures
