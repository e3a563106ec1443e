use Rattle.ir_lexer.specs.declared.token.TokenKind.TheVariants as kind
use Rattle.type_table.specs.Types.{tree}
use Rattle.canonical.specs.Phrase.{Phrase, comma, ◌␣◌}
use Rattle.canonical.specs.Constants.{value_phrase, operand}
use Rattle.ir_printer.specs.Phrases.Printing.{separator_of}
use Rattle.ir_printer.specs.Instructions.Named.{value_of, operand_of}
use Rattle.ir_printer.proofs.OnInstructions.Chained.{spaced, touching}
use Rattle.ir_printer.proofs.instructions.arithmetic.put_pair.Goals as goal

pub returns : goal.returns
returns g c =
    let a = c.args.arena.now in
    let f = c.args.function.now in
    let behind = separator_of c.args.behind in
    let value : Phrase = value_phrase (tree a.table c.args.left.ty) (value_of a f c.args.right) in
    touching (operand (operand_of a f c.args.left)) (comma ␣ value) behind c.put_operand.ensures (spaced comma value behind (c.put_token.ensures kind.Punctuation) c.put_value.ensures)
