use Rattle.std.proofs.Common.{ap}
use Rattle.module_arena.specs.Module.{LocalName}
use Rattle.module_arena.specs.declared.entry.Block as the_block
use Rattle.module_arena.specs.Lists.{function_blocks}
use Rattle.module_arena.specs.View.{local_view}
use Rattle.canonical.specs.Names.{local}
use Rattle.ir_printer.proofs.OnInstructions.Locals.{mapped_at}
use Rattle.std.specs.Prelude.{codes}
use Rattle.ir_lexer.specs.Pieces.{Space}
use Rattle.ir_lexer.specs.declared.token.TokenKind.TheVariants as kind
use Rattle.type_table.specs.Types.{tree}
use Rattle.canonical.specs.Phrase.{Phrase, mark, comma, ◌␣◌, ◌⌢◌}
use Rattle.canonical.specs.Constants.{value_phrase}
use Rattle.ir_printer.specs.Phrases.Printing.{separator_of}
use Rattle.ir_printer.proofs.OnPhrases.Printing.{prints_same}
use Rattle.ir_printer.specs.Instructions.Named.{value_of, label_of}
use Rattle.ir_printer.proofs.OnInstructions.Chained.{spaced, touching}
use Rattle.ir_printer.proofs.instructions.phis.put_incoming.Goals as goal

pub returns : goal.returns
returns g c =
    let a = c.args.arena.now in
    let f = c.args.function.now in
    let behind = separator_of c.args.behind in
    let value : Phrase = value_phrase (tree a.table c.args.ty) (value_of a f c.args.incoming.value) in
    let block : Phrase = local (label_of a f c.args.incoming.block) in
    spaced (mark (codes "[")) (value ⌢ comma ␣ block ␣ mark (codes "]")) behind (c.put_token.ensures kind.Punctuation)
    (touching value (comma ␣ block ␣ mark (codes "]")) behind c.put_value.ensures
    (spaced comma (block ␣ mark (codes "]")) behind (c.put_token-2.ensures kind.Punctuation)
    (spaced block (mark (codes "]")) behind
    (prints_same (ap (λ (n : LocalName). local n Space) (mapped_at (λ (b : the_block.Block). local_view b.name) (function_blocks f) c.args.incoming.block c.block.result.now (LocalName.Numbered 0) c.block.ensures)) c.put_local.ensures)
    (c.put_token-3.ensures kind.Punctuation))))
