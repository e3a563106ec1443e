use Rattle.std.proofs.Common.{List, map, ap}
use Rattle.ir_lexer.specs.Pieces.{Nothing, Space}
use Rattle.ir_lexer.specs.declared.token.TokenKind.TheVariants as kind
use Rattle.ir_tables.specs.declared.opcode.Opcode.TheVariants as op
use Rattle.type_table.specs.Tree.{ptr}
use Rattle.type_table.specs.Types.{Types, tree}
use Rattle.module_arena.specs.declared.instruction.Operand as the_operand
use Rattle.canonical.specs.Phrase.{Phrase, ◌␣◌, ◌⌢◌, listed, in_parentheses}
use Rattle.canonical.specs.Types.{type_phrase}
use Rattle.canonical.specs.Constants.{opcode, value_phrase, operand}
use Rattle.canonical.specs.Operations.{signature_phrase}
use Rattle.ir_printer.specs.Phrases.Printing.{separator_of}
use Rattle.ir_printer.proofs.OnPhrases.Printing.{prints_same}
use Rattle.ir_printer.proofs.OnPhrases.Parts.{parentheses_put}
use Rattle.ir_printer.specs.Instructions.Named.{value_of, operand_of}
use Rattle.ir_printer.specs.Instructions.Parts.{signature_of}
use Rattle.ir_printer.proofs.OnInstructions.Chained.{spaced, touching}
use Rattle.ir_printer.proofs.instructions.calls.put_call.Goals as goal

pub returns : goal.returns
returns g c =
    let a = c.args.arena.now in
    let f = c.args.function.now in
    let behind = separator_of c.args.behind in
    let signature = signature_of a c.args.call.now.signature in
    let returned : Phrase = type_phrase signature.returns in
    let written : Phrase = signature_phrase signature signature.variadic in
    let callee : Phrase = value_phrase ptr (value_of a f c.args.call.now.callee) in
    let arguments : Phrase = listed (map operand (map (operand_of a f) c.args.call.now.arguments)) in
    spaced (opcode op.Call) (returned ␣ written ␣ callee ⌢ in_parentheses arguments) behind c.put_opcode.ensures
    (spaced returned (written ␣ callee ⌢ in_parentheses arguments) behind (prints_same (ap (λ (x : Types). type_phrase (tree x c.args.call.now.signature.returns) Space) c.types.ensures) c.put_type.ensures)
    (spaced written (callee ⌢ in_parentheses arguments) behind c.put_signature.ensures
    (touching callee (in_parentheses arguments) behind c.put_callee.ensures
    (parentheses_put arguments behind (c.put_token.ensures kind.Punctuation)
    (prints_same (ap (λ (ps : List the_operand.Operand). listed (map operand (map (operand_of a f) ps)) Nothing) c.as_slice.ensures) c.put_operands.ensures)
    (c.put_token-2.ensures kind.Punctuation)))))
