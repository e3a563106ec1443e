use Rattle.std.proofs.Common.{◌-◌, ◌∙◌, arith}
use Rattle.std.proofs.lemmas.Result.{on_ok_weaker}
use Rattle.std.proofs.lemmas.Nat.{one_shl}
use Rattle.bit_stream.proofs.OnBits.Appends.{chunk-lt, rest-smaller, vbr_step, vbr_done}
use Rattle.bit_stream.proofs.bits.sink.BitSink.chunks.Goals as goal

pub narrow-requires-clause-fits : goal.narrow-requires-clause-fits
narrow-requires-clause-fits c = chunk-lt c.args.width c.loop-rest.rest c.requires.width_low c.requires.width_high

pub loop-rest-smaller : goal.loop-rest-smaller
loop-rest-smaller c =
    let more = rw (one_shl (c.args.width - 1) 64 (omega arith)) at c.loop-rest-test.true in
    rest-smaller c.args.width c.loop-rest.rest c.requires.width_low more

pub loop-rest-preserved : goal.loop-rest-preserved
loop-rest-preserved c =
    let more = rw (one_shl (c.args.width - 1) 64 (omega arith)) at c.loop-rest-test.true in
    vbr_step c.loop-rest.self _ _ c.args.width c.loop-rest.rest c.requires.width_low c.requires.width_high (omega arith) more c.in_ok-narrow.ensures.ok c.loop-rest.invariant

pub returns : goal.returns
returns c =
    let small = rw (one_shl (c.args.width - 1) 64 (omega arith)) at c.loop-rest-test.false in
    on_ok_weaker c.narrow-2.result (λ written. written ∙ vbr_done c.loop-rest.self _ c.args.width c.loop-rest.rest c.requires.width_low small c.loop-rest.invariant) c.narrow-2.ensures.ok
