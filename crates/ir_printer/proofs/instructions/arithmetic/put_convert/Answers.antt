use Rattle.std.proofs.Common.{ap}
use Rattle.std.specs.Prelude.{codes}
use Rattle.ir_lexer.specs.declared.token.TokenKind.TheVariants as kind
use Rattle.type_table.specs.Types.{Types, tree}
use Rattle.canonical.specs.Phrase.{Phrase, word, ◌␣◌}
use Rattle.canonical.specs.Types.{type_phrase}
use Rattle.canonical.specs.Constants.{opcode, flags_phrase, operand}
use Rattle.ir_printer.specs.Phrases.Printing.{separator_of}
use Rattle.ir_printer.proofs.OnPhrases.Printing.{prints_same}
use Rattle.ir_printer.specs.Instructions.Named.{operand_of}
use Rattle.ir_printer.proofs.OnInstructions.Chained.{spaced}
use Rattle.ir_printer.proofs.instructions.arithmetic.put_convert.Goals as goal

pub returns : goal.returns
returns g c =
    let a = c.args.arena.now in
    let f = c.args.function.now in
    let behind = separator_of c.args.behind in
    let part : Phrase = operand (operand_of a f c.args.part) in
    let to : Phrase = type_phrase (tree a.table c.args.to) in
    spaced (opcode c.args.code) (flags_phrase c.args.flags ␣ part ␣ word (codes "to") ␣ to) behind c.put_opcode.ensures
    (spaced (flags_phrase c.args.flags) (part ␣ word (codes "to") ␣ to) behind c.put_flags.ensures
    (spaced part (word (codes "to") ␣ to) behind c.put_operand.ensures
    (spaced (word (codes "to")) to behind (c.put_token.ensures kind.Word) (prints_same (ap (λ (x : Types). type_phrase (tree x c.args.to) behind) c.types.ensures) c.put_type.ensures))))
