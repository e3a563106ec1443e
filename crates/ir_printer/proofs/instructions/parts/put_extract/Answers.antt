use Rattle.std.proofs.Common.{map, sym}
use Rattle.std.proofs.lemmas.List.{length-map}
use Rattle.canonical.specs.Names.{natural}
use Rattle.ir_tables.specs.declared.opcode.Opcode.TheVariants as op
use Rattle.canonical.specs.Phrase.{Phrase, with_more}
use Rattle.canonical.specs.Constants.{opcode, operand}
use Rattle.ir_printer.specs.Phrases.Printing.{separator_of}
use Rattle.ir_printer.specs.Instructions.Named.{operand_of}
use Rattle.ir_printer.proofs.OnInstructions.Chained.{spaced, more_put}
use Rattle.ir_printer.proofs.instructions.parts.put_extract.Goals as goal

pub returns : goal.returns
returns g c =
    let a = c.args.arena.now in
    let f = c.args.function.now in
    let behind = separator_of c.args.behind in
    let aggregate : Phrase = operand (operand_of a f c.args.aggregate) in
    let indices = map natural c.args.indices.now in
    spaced (opcode op.ExtractValue) (with_more aggregate indices) behind c.put_opcode.ensures
    (more_put aggregate indices _ _ behind (sym (length-map c.args.indices.now natural)) c.before-2.ensures c.put_operand.ensures c.put_comma.ensures c.put_indices.ensures)
