use Rattle.std.proofs.Common.{map, sym, ap, ◌∙◌}
use Rattle.std.proofs.lemmas.List.{length-map}
use Rattle.ir_lexer.specs.Pieces.{Nothing}
use Rattle.ir_lexer.specs.declared.token.TokenKind.TheVariants as kind
use Rattle.ir_tables.specs.declared.opcode.Opcode.TheVariants as op
use Rattle.type_table.specs.Types.{Types, tree}
use Rattle.canonical.specs.Phrase.{Phrase, with_more, comma, ◌␣◌, ◌⌢◌}
use Rattle.canonical.specs.Types.{type_phrase}
use Rattle.canonical.specs.Constants.{opcode, address_flags_phrase, operand}
use Rattle.ir_printer.specs.Phrases.Printing.{separator_of}
use Rattle.ir_printer.proofs.OnPhrases.Printing.{prints_same}
use Rattle.ir_printer.specs.Instructions.Named.{operand_of}
use Rattle.ir_printer.proofs.OnInstructions.Chained.{spaced, touching, more_put}
use Rattle.ir_printer.proofs.instructions.memory.put_element_address.Goals as goal

pub returns : goal.returns
returns g c =
    let a = c.args.arena.now in
    let f = c.args.function.now in
    let behind = separator_of c.args.behind in
    let source : Phrase = type_phrase (tree a.table c.args.source) in
    let base : Phrase = operand (operand_of a f c.args.base) in
    let indices = map operand (map (operand_of a f) c.args.indices.now) in
    let many = length-map (map (operand_of a f) c.args.indices.now) operand ∙ length-map c.args.indices.now (operand_of a f) in
    spaced (opcode op.GetElementPtr) (address_flags_phrase c.args.flags ␣ source ⌢ comma ␣ with_more base indices) behind c.put_opcode.ensures
    (spaced (address_flags_phrase c.args.flags) (source ⌢ comma ␣ with_more base indices) behind c.put_address_flags.ensures
    (touching source (comma ␣ with_more base indices) behind (prints_same (ap (λ (x : Types). type_phrase (tree x c.args.source) Nothing) c.types.ensures) c.put_type.ensures)
    (spaced comma (with_more base indices) behind (c.put_token.ensures kind.Punctuation)
    (more_put base indices _ _ behind (sym many) c.before-2.ensures c.put_operand.ensures c.put_comma.ensures c.put_operands.ensures))))
