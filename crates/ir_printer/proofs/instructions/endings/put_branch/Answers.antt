use Rattle.ir_lexer.specs.declared.token.TokenKind.TheVariants as kind
use Rattle.ir_tables.specs.declared.opcode.Opcode.TheVariants as op
use Rattle.canonical.specs.Phrase.{Phrase, comma, ◌␣◌, ◌⌢◌}
use Rattle.canonical.specs.Constants.{opcode, operand}
use Rattle.canonical.specs.Instructions.{target}
use Rattle.ir_printer.specs.Phrases.Printing.{separator_of}
use Rattle.ir_printer.specs.Instructions.Named.{operand_of, label_of}
use Rattle.ir_printer.proofs.OnInstructions.Chained.{spaced, touching}
use Rattle.ir_printer.proofs.instructions.endings.put_branch.Goals as goal

pub returns : goal.returns
returns g c =
    let a = c.args.arena.now in
    let f = c.args.function.now in
    let behind = separator_of c.args.behind in
    let condition : Phrase = operand (operand_of a f c.args.condition) in
    let first : Phrase = target (label_of a f c.args.then_to) in
    let second : Phrase = target (label_of a f c.args.else_to) in
    spaced (opcode op.Br) (condition ⌢ comma ␣ first ⌢ comma ␣ second) behind (c.put_token.ensures kind.Word)
    (touching condition (comma ␣ first ⌢ comma ␣ second) behind c.put_operand.ensures
    (spaced comma (first ⌢ comma ␣ second) behind (c.put_token-2.ensures kind.Punctuation)
    (touching first (comma ␣ second) behind (c.put_target.ensures a)
    (spaced comma second behind (c.put_token-3.ensures kind.Punctuation) (c.put_target-2.ensures a)))))
