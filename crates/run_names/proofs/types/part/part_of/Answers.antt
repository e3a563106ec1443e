use Rattle.std.proofs.Common.{get_or, refl, arith}
use Rattle.run_names.proofs.OnTypes.OnTheWay.{at_first, at_the_end, next_there, one_further}
use Rattle.run_names.proofs.types.part.part_of.Goals as goal

pub indices-init : goal.indices-init
indices-init c = at_first c.args.types.now c.args.whole c.args.indices.now c.requires.known c.requires.laid c.requires.there

pub part_in-part-requires-clause-there : goal.part_in-part-requires-clause-there
part_in-part-requires-clause-there c =
    next_there c.args.types.now c.args.whole c.args.indices.now c.indices.index-index (get_or c.args.indices.now c.indices.index-index 0) c.indices.part c.indices-test.true refl c.indices.invariant

pub indices-preserved : goal.indices-preserved
indices-preserved c =
    let e = c.part_in-part.ensures in
    one_further c.args.types.now c.args.whole c.args.indices.now c.indices.index-index (get_or c.args.indices.now c.indices.index-index 0) c.indices.part c.part_in-part.result
    c.indices-test.true refl c.indices.invariant e.known e.laid e.shape e.before e.within

pub returns-clause-shape : goal.returns-clause-shape
returns-clause-shape c = (at_the_end c.args.types.now c.args.whole c.args.indices.now c.indices.index-index c.indices.part (omega arith) c.indices.invariant).0

pub returns-clause-before : goal.returns-clause-before
returns-clause-before c = (at_the_end c.args.types.now c.args.whole c.args.indices.now c.indices.index-index c.indices.part (omega arith) c.indices.invariant).1
