use Rattle.std.proofs.Common.{map}
use Rattle.std.specs.Prelude.{codes}
use Rattle.ir_lexer.specs.Pieces.{Space}
use Rattle.ir_lexer.specs.declared.token.TokenKind.TheVariants as kind
use Rattle.ir_tables.specs.declared.opcode.Opcode.TheVariants as op
use Rattle.canonical.specs.Phrase.{Phrase, mark, comma, ◌␣◌, ◌⌢◌, each}
use Rattle.canonical.specs.Constants.{opcode, operand}
use Rattle.canonical.specs.Instructions.{target, case_phrase}
use Rattle.ir_printer.specs.Phrases.Printing.{separator_of}
use Rattle.ir_printer.specs.Instructions.Named.{operand_of, label_of}
use Rattle.ir_printer.proofs.OnInstructions.Chained.{spaced, touching}
use Rattle.ir_printer.specs.Instructions.Lines.{case_of}
use Rattle.ir_printer.proofs.instructions.endings.put_switch.Goals as goal

pub returns : goal.returns
returns g c =
    let a = c.args.arena.now in
    let f = c.args.function.now in
    let behind = separator_of c.args.behind in
    let part : Phrase = operand (operand_of a f c.args.part) in
    let otherwise : Phrase = target (label_of a f c.args.otherwise) in
    let cases : Phrase = each Space (map case_phrase (map (case_of a f) c.args.cases.now)) in
    spaced (opcode op.Switch) (part ⌢ comma ␣ otherwise ␣ mark (codes "[") ␣ cases ␣ mark (codes "]")) behind (c.put_token.ensures kind.Word)
    (touching part (comma ␣ otherwise ␣ mark (codes "[") ␣ cases ␣ mark (codes "]")) behind c.put_operand.ensures
    (spaced comma (otherwise ␣ mark (codes "[") ␣ cases ␣ mark (codes "]")) behind (c.put_token-2.ensures kind.Punctuation)
    (spaced otherwise (mark (codes "[") ␣ cases ␣ mark (codes "]")) behind (c.put_target.ensures a)
    (spaced (mark (codes "[")) (cases ␣ mark (codes "]")) behind (c.put_token-3.ensures kind.Punctuation)
    (spaced cases (mark (codes "]")) behind c.put_cases.ensures (c.put_token-4.ensures kind.Punctuation))))))
