use Rattle.std.proofs.Common.{ap}
use Rattle.canonical.specs.Phrase.{Phrase}
use Rattle.canonical.specs.Constants.{operand}
use Rattle.ir_printer.specs.Phrases.Printing.{separator_of}
use Rattle.ir_printer.proofs.OnPhrases.Printing.{prints_same}
use Rattle.ir_printer.specs.Instructions.Named.{operand_of}
use Rattle.ir_printer.proofs.OnInstructions.Chained.{aligned_put}
use Rattle.ir_printer.proofs.instructions.memory.put_aligned.Goals as goal

pub returns : goal.returns
returns g c =
    let a = c.args.arena.now in
    let f = c.args.function.now in
    let behind = separator_of c.args.behind in
    let part : Phrase = operand (operand_of a f c.args.part) in
    aligned_put part c.args.alignment behind (prints_same (ap part c.before_alignment.ensures) c.put_operand.ensures) c.put_alignment.ensures
