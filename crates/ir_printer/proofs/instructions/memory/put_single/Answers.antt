use Rattle.std.proofs.Common.{ap}
use Rattle.ir_tables.specs.declared.opcode.Opcode.TheVariants as op
use Rattle.type_table.specs.Types.{Types, tree}
use Rattle.canonical.specs.Phrase.{Phrase}
use Rattle.canonical.specs.Types.{type_phrase}
use Rattle.canonical.specs.Constants.{opcode}
use Rattle.canonical.specs.Operations.{aligned}
use Rattle.ir_printer.specs.Phrases.Printing.{separator_of}
use Rattle.ir_printer.proofs.OnPhrases.Printing.{prints_same}
use Rattle.ir_printer.proofs.OnInstructions.Chained.{spaced, aligned_put}
use Rattle.ir_printer.proofs.instructions.memory.put_single.Goals as goal

pub returns : goal.returns
returns g c =
    let a = c.args.arena.now in
    let behind = separator_of c.args.behind in
    let ty : Phrase = type_phrase (tree a.table c.args.ty) in
    spaced (opcode op.Alloca) (aligned ty c.args.alignment) behind c.put_opcode.ensures
    (aligned_put ty c.args.alignment behind
    (prints_same (ap ty c.before_alignment.ensures) (prints_same (ap (λ (x : Types). type_phrase (tree x c.args.ty) (separator_of c.before_alignment.result)) c.types.ensures) c.put_type.ensures))
    c.put_alignment.ensures)
