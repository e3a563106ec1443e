use Rattle.ir_lexer.specs.declared.token.TokenKind.TheVariants as kind
use Rattle.ir_tables.specs.declared.opcode.Opcode.TheVariants as op
use Rattle.canonical.specs.Phrase.{Phrase, comma, ◌␣◌, ◌⌢◌}
use Rattle.canonical.specs.Constants.{opcode, operand}
use Rattle.ir_printer.specs.Phrases.Printing.{separator_of}
use Rattle.ir_printer.specs.Instructions.Named.{operand_of}
use Rattle.ir_printer.proofs.OnInstructions.Chained.{spaced, touching}
use Rattle.ir_printer.proofs.instructions.arithmetic.put_select.Goals as goal

pub returns : goal.returns
returns g c =
    let a = c.args.arena.now in
    let f = c.args.function.now in
    let behind = separator_of c.args.behind in
    let choice = c.args.choice.now in
    let condition : Phrase = operand (operand_of a f choice.condition) in
    let first : Phrase = operand (operand_of a f choice.first) in
    let second : Phrase = operand (operand_of a f choice.second) in
    spaced (opcode op.Select) (condition ⌢ comma ␣ first ⌢ comma ␣ second) behind c.put_opcode.ensures
    (touching condition (comma ␣ first ⌢ comma ␣ second) behind c.put_operand.ensures
    (spaced comma (first ⌢ comma ␣ second) behind (c.put_token.ensures kind.Punctuation)
    (touching first (comma ␣ second) behind c.put_operand-2.ensures
    (spaced comma second behind (c.put_token-2.ensures kind.Punctuation) c.put_operand-3.ensures))))
