use Rattle.std.proofs.Common.{sym, ◌∙◌}
use Rattle.std.proofs.lemmas.Bool.{and_parts}
use Rattle.bitcode_read.proofs.BlockKinds.{block_by, block_misplaced}
use Rattle.bitcode_read.proofs.blocks.read_block.Goals as goal

pub read_types_block-requires-clause-begun : goal.read_types_block-requires-clause-begun
read_types_block-requires-clause-begun c =
    let p = and_parts _ _ (sym c.takes_types.ensures ∙ c.if-takes_types.true) in
    c.requires.types p.0 p.1

pub returns-then-takes_types-clause-reads : goal.returns-then-takes_types-clause-reads
returns-then-takes_types-clause-reads c = λ tree stream.
    block_by _ _ c.args.m.now c.read_types_block.new.m c.args.sofar.now c.read_types_block.new.sofar c.args.known.now c.read_types_block.new.known c.args.id 17 5 c.read_types_block.result (sym c.takes_types.ensures ∙ c.if-takes_types.true)
    (c.read_types_block.ensures.reads tree stream)

pub returns-then-takes_body-clause-reads : goal.returns-then-takes_body-clause-reads
returns-then-takes_body-clause-reads c = λ tree stream.
    block_by _ _ c.args.m.now c.read_body_block.new.m c.args.sofar.now c.read_body_block.new.sofar c.args.known.now c.args.known.now c.args.id 12 9 c.read_body_block.result (sym c.takes_body.ensures ∙ c.if-takes_body.true)
    (c.read_body_block.ensures.reads _ c.args.known.now)

pub returns-clause-reads : goal.returns-clause-reads
returns-clause-reads c = λ tree stream.
    block_misplaced _ _ c.args.m.now c.args.m.now c.args.sofar.now c.args.sofar.now c.args.known.now c.args.known.now c.args.id c.at.result c.misplaced.result (sym c.takes_types.ensures ∙ c.if-takes_types.false) (sym c.takes_body.ensures ∙ c.if-takes_body.false) c.at.ensures
    c.misplaced.ensures
