use Rattle.std.proofs.Common.{List, flat_map, map, refl, subst, sym}
use Rattle.bitcode_write.proofs.Lined.{things_end, things_more}
use Rattle.bitcode_write.specs.Entries.{IsBlock, block_of}
use Rattle.record_write.specs.Operands.Numbered.{inside, texts}
use Rattle.record_table.specs.Spelling.{block_lines}
use Rattle.module_arena.specs.declared.entry.Block.{Block}
use Rattle.bitcode_write.proofs.bodies.put_blocks.Goals as goal

pub parts-preserved : goal.parts-preserved
parts-preserved c =
    let a = c.args.numbering.now in
    let f = c.args.function.now in
    record {
      ready = c.in_ok-put_block.ensures.put.ready;
      none = c.in_ok-put_block.ensures.none;
      rest = λ now h. c.parts.invariant.rest now (things_more (λ (x : Block). block_lines (texts a) (inside a f) (block_of a f x)) (λ (xs : List Block). flat_map (block_lines (texts a) (inside a f)) (map (block_of a f) xs)) refl (λ x xs. refl) c.args.blocks.now c.parts.place c.index-blocks-place.result c.parts-test.true c.index-blocks-place.is c.in_ok-put_block.ensures.put h);
    }

pub returns-clause-put : goal.returns-clause-put
returns-clause-put c =
    let a = c.args.numbering.now in
    let f = c.args.function.now in
    c.parts.invariant.rest _ (things_end (λ (x : Block). block_lines (texts a) (inside a f) (block_of a f x)) (λ (xs : List Block). flat_map (block_lines (texts a) (inside a f)) (map (block_of a f) xs)) refl (λ x xs. refl) c.args.blocks.now c.parts.place _ c.parts-test.false c.parts.invariant.ready)

pub put_block-requires-clause-ready : goal.put_block-requires-clause-ready
put_block-requires-clause-ready c = c.parts.invariant.ready

pub put_block-requires-clause-empty : goal.put_block-requires-clause-empty
put_block-requires-clause-empty c = c.parts.invariant.none

pub put_block-requires-clause-known : goal.put_block-requires-clause-known
put_block-requires-clause-known c =
    let a = c.args.numbering.now in
    let f = c.args.function.now in
    subst (λ (x : Block). IsBlock a f x) (sym c.index-blocks-place.is) (c.requires.known c.parts.place c.index-blocks-place.result c.parts-test.true)
