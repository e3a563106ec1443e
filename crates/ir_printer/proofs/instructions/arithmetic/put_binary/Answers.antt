use Rattle.canonical.specs.Phrase.{Phrase, ◌␣◌}
use Rattle.canonical.specs.Constants.{opcode, flags_phrase}
use Rattle.ir_printer.specs.Phrases.Printing.{separator_of}
use Rattle.ir_printer.specs.Instructions.Parts.{pair}
use Rattle.ir_printer.proofs.OnInstructions.Chained.{spaced}
use Rattle.ir_printer.proofs.instructions.arithmetic.put_binary.Goals as goal

pub returns : goal.returns
returns g c =
    let a = c.args.arena.now in
    let f = c.args.function.now in
    let behind = separator_of c.args.behind in
    let both : Phrase = pair a f c.args.left c.args.right in
    spaced (opcode c.args.code) (flags_phrase c.args.flags ␣ both) behind c.put_opcode.ensures (spaced (flags_phrase c.args.flags) both behind c.put_flags.ensures c.put_pair.ensures)
