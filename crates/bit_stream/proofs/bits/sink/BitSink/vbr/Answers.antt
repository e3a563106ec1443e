use Rattle.std.proofs.Common.{◌≤◌, ◌-◌, ◌^◌, ◌∙◌, refl, arith}
use Rattle.std.proofs.Math.Pow.{pow_mono}
use Rattle.std.proofs.lemmas.Result.{on_ok_weaker}
use Rattle.std.proofs.lemmas.Nat.{one_shl}
use Rattle.bit_stream.proofs.OnBits.Appends.{vbr_done}
use Rattle.bit_stream.proofs.bits.sink.BitSink.vbr.Goals as goal

pub narrow-requires-clause-fits : goal.narrow-requires-clause-fits
narrow-requires-clause-fits c =
    let small = rw (one_shl (c.args.width - 1) 64 (omega arith)) at c.if-value-next.true in
    let less : c.args.width - 1 ≤ c.args.width = omega arith in
    let bound : 2 ^ (c.args.width - 1) ≤ 2 ^ c.args.width = pow_mono less in
    omega (arith, small, bound)

pub returns-then-value-next : goal.returns-then-value-next
returns-then-value-next c =
    let small = rw (one_shl (c.args.width - 1) 64 (omega arith)) at c.if-value-next.true in
    on_ok_weaker c.narrow.result (λ written. written ∙ vbr_done c.args.self.now _ c.args.width c.args.value c.requires.width_low small refl) c.narrow.ensures.ok
