use Rattle.std.proofs.Common.{ap}
use Rattle.ir_lexer.specs.Pieces.{Nothing}
use Rattle.ir_lexer.specs.declared.token.TokenKind.TheVariants as kind
use Rattle.ir_tables.specs.declared.opcode.Opcode.TheVariants as op
use Rattle.type_table.specs.Types.{Types, tree}
use Rattle.canonical.specs.Phrase.{Phrase, comma, ◌␣◌, ◌⌢◌}
use Rattle.canonical.specs.Types.{type_phrase}
use Rattle.canonical.specs.Constants.{opcode, flags_phrase, operand}
use Rattle.canonical.specs.Operations.{aligned}
use Rattle.ir_printer.specs.Phrases.Printing.{separator_of}
use Rattle.ir_printer.proofs.OnPhrases.Printing.{prints_same}
use Rattle.ir_printer.specs.Instructions.Named.{operand_of}
use Rattle.ir_printer.proofs.OnInstructions.Chained.{spaced, touching}
use Rattle.ir_printer.proofs.instructions.memory.put_load.Goals as goal

pub returns : goal.returns
returns g c =
    let a = c.args.arena.now in
    let f = c.args.function.now in
    let behind = separator_of c.args.behind in
    let ty : Phrase = type_phrase (tree a.table c.args.ty) in
    let address : Phrase = aligned (operand (operand_of a f c.args.address)) c.args.alignment in
    spaced (opcode op.Load) (flags_phrase c.args.flags ␣ ty ⌢ comma ␣ address) behind c.put_opcode.ensures
    (spaced (flags_phrase c.args.flags) (ty ⌢ comma ␣ address) behind c.put_flags.ensures
    (touching ty (comma ␣ address) behind (prints_same (ap (λ (x : Types). type_phrase (tree x c.args.ty) Nothing) c.types.ensures) c.put_type.ensures)
    (spaced comma address behind (c.put_token.ensures kind.Punctuation) c.put_aligned.ensures)))
