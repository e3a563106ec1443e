use Rattle.std.proofs.Common.{ℕ, List, length, map, sym, ap, ◌∙◌}
use Rattle.std.proofs.lemmas.List.{length-map}
use Rattle.canonical.specs.Names.{natural}
use Rattle.ir_lexer.specs.declared.token.TokenKind.TheVariants as kind
use Rattle.ir_tables.specs.declared.opcode.Opcode.TheVariants as op
use Rattle.canonical.specs.Phrase.{Phrase, with_more, listed, comma, ◌␣◌, ◌⌢◌}
use Rattle.canonical.specs.Constants.{opcode, operand}
use Rattle.ir_printer.specs.Phrases.Printing.{separator_of}
use Rattle.ir_printer.proofs.OnPhrases.Printing.{prints_same}
use Rattle.ir_printer.specs.Instructions.Named.{operand_of}
use Rattle.ir_printer.proofs.OnInstructions.Chained.{spaced, touching, more_put}
use Rattle.ir_printer.proofs.instructions.parts.put_insert.Goals as goal

pub returns : goal.returns
returns g c =
    let a = c.args.arena.now in
    let f = c.args.function.now in
    let behind = separator_of c.args.behind in
    let aggregate : Phrase = operand (operand_of a f c.args.insertion.now.aggregate) in
    let part : Phrase = operand (operand_of a f c.args.insertion.now.part) in
    let indices = map natural c.args.insertion.now.indices in
    spaced (opcode op.InsertValue) (aggregate ⌢ comma ␣ with_more part indices) behind c.put_opcode.ensures
    (touching aggregate (comma ␣ with_more part indices) behind c.put_operand.ensures
    (spaced comma (with_more part indices) behind (c.put_token.ensures kind.Punctuation)
    (more_put part indices _ _ behind (ap (λ (xs : List ℕ). length xs) c.as_slice-indices.ensures ∙ sym (length-map c.args.insertion.now.indices natural)) c.before-2.ensures c.put_operand-2.ensures c.put_comma.ensures
    (prints_same (ap (λ (xs : List ℕ). listed (map natural xs) behind) c.as_slice-indices.ensures) c.put_indices.ensures))))
