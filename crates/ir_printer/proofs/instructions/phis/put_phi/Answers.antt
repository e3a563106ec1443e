use Rattle.std.proofs.Common.{ap}
use Rattle.ir_lexer.specs.Pieces.{Space}
use Rattle.ir_tables.specs.declared.opcode.Opcode.TheVariants as op
use Rattle.type_table.specs.Types.{Types, tree}
use Rattle.canonical.specs.Phrase.{Phrase, listed, ◌␣◌}
use Rattle.canonical.specs.Types.{type_phrase}
use Rattle.canonical.specs.Constants.{opcode}
use Rattle.ir_printer.specs.Phrases.Printing.{separator_of}
use Rattle.ir_printer.proofs.OnPhrases.Printing.{prints_same}
use Rattle.ir_printer.proofs.OnInstructions.Chained.{incoming_phrases, spaced}
use Rattle.ir_printer.proofs.instructions.phis.put_phi.Goals as goal

pub returns : goal.returns
returns g c =
    let a = c.args.arena.now in
    let f = c.args.function.now in
    let behind = separator_of c.args.behind in
    let ty = tree a.table c.args.ty in
    let all : Phrase = listed (incoming_phrases a f ty c.args.incoming.now) in
    spaced (opcode op.Phi) (type_phrase ty ␣ all) behind c.put_opcode.ensures
    (spaced (type_phrase ty) all behind (prints_same (ap (λ (x : Types). type_phrase (tree x c.args.ty) Space) c.types.ensures) c.put_type.ensures) c.put_all_incoming.ensures)
