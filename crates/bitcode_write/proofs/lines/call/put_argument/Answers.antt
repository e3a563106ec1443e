use Rattle.std.proofs.Common.{arith}
use Rattle.record_write.proofs.OnOperands.Chain.{reworded}
use Rattle.bitcode_write.proofs.OnLines.Arguments.{argument_at}
use Rattle.bitcode_write.proofs.lines.call.put_argument.Goals as goal

pub returns : goal.returns
returns c = λ f body has.
    let a = c.args.numbering.now in
    let lt = c.if-place-parameters.false in
    let both = argument_at a f c.args.parameters.now c.args.place c.index-parameters-place.result c.args.argument (omega (arith, lt)) c.index-parameters-place.is has in
    reworded _ _ _ _ _ (c.put_value_at.ensures f body both.0) both.1
