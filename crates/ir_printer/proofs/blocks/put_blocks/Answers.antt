use Rattle.std.proofs.Common.{List, refl, sym, subst}
use Rattle.ir_lexer.specs.Pieces.{Line}
use Rattle.module_arena.specs.declared.entry.Block as the_block
use Rattle.canonical.specs.Instructions.{block_phrase}
use Rattle.ir_printer.specs.Blocks.{HasBlock, block_of}
use Rattle.ir_printer.proofs.Lines.{block_lines}
use Rattle.ir_printer.proofs.Lined.{line_more, lines_end}
use Rattle.ir_printer.proofs.blocks.put_blocks.Goals as goal

pub parts-preserved : goal.parts-preserved
parts-preserved g c = λ s now h.
    let a = c.args.arena.now in
    let f = c.args.function.now in
    c.parts.invariant s now (line_more Line (λ (x : the_block.Block). block_phrase (block_of a f x)) (λ (xs : List the_block.Block). block_lines a f xs) refl (λ x xs. refl) c.args.blocks.now c.parts.place c.index-blocks-place.result s c.parts-test.true c.index-blocks-place.is c.put_block.ensures h)

pub returns : goal.returns
returns g c = λ s.
    let a = c.args.arena.now in
    let f = c.args.function.now in
    c.parts.invariant s _ (lines_end Line (λ (x : the_block.Block). block_phrase (block_of a f x)) (λ (xs : List the_block.Block). block_lines a f xs) refl (λ x xs. refl) c.args.blocks.now c.parts.place s _ c.parts-test.false)

pub put_block-requires : goal.put_block-requires
put_block-requires g c =
    subst (HasBlock c.args.arena.now c.args.function.now) (sym c.index-blocks-place.is) (c.requires c.parts.place c.index-blocks-place.result c.parts-test.true)
