use Rattle.ir_lexer.specs.declared.token.TokenKind.TheVariants as kind
use Rattle.ir_tables.specs.declared.opcode.Opcode.TheVariants as op
use Rattle.canonical.specs.Phrase.{Phrase, comma, ◌␣◌, ◌⌢◌}
use Rattle.canonical.specs.Constants.{opcode, flags_phrase, operand}
use Rattle.canonical.specs.Operations.{aligned}
use Rattle.ir_printer.specs.Phrases.Printing.{separator_of}
use Rattle.ir_printer.specs.Instructions.Named.{operand_of}
use Rattle.ir_printer.proofs.OnInstructions.Chained.{spaced, touching}
use Rattle.ir_printer.proofs.instructions.memory.put_store.Goals as goal

pub returns : goal.returns
returns g c =
    let a = c.args.arena.now in
    let f = c.args.function.now in
    let behind = separator_of c.args.behind in
    let stored : Phrase = operand (operand_of a f c.args.stored) in
    let address : Phrase = aligned (operand (operand_of a f c.args.address)) c.args.alignment in
    spaced (opcode op.Store) (flags_phrase c.args.flags ␣ stored ⌢ comma ␣ address) behind c.put_opcode.ensures
    (spaced (flags_phrase c.args.flags) (stored ⌢ comma ␣ address) behind c.put_flags.ensures
    (touching stored (comma ␣ address) behind c.put_operand.ensures
    (spaced comma address behind (c.put_token.ensures kind.Punctuation) c.put_aligned.ensures)))
