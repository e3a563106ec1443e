use Rattle.std.proofs.Common.{arith}
use Rattle.run_names.proofs.OnShapes.Outlines.{laid_is, shape_fits}
use Rattle.run_decode.proofs.operands.pooled.put_slots.Goals as goal

pub push_slots-requires-clause-ends : goal.push_slots-requires-clause-ends
push_slots-requires-clause-ends c =
    let types = c.args.types.now in
    let laid = laid_is types c.args.ty c.requires.laid in
    let fits = (shape_fits types c.type_count-count.ensures.good c.type_count-count.ensures.within c.args.ty c.requires.known).size_fits laid in
    omega (arith, fits)
