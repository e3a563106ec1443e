use Rattle.std.proofs.Common.{◌≤◌, ◌^◌, arith}
use Rattle.std.proofs.Math.Pow.{pow_mono}
use Rattle.bit_stream.proofs.writer.put_id.Goals as goal

pub fixed-requires-clause-fits : goal.fixed-requires-clause-fits
fixed-requires-clause-fits c =
    let size : 2 ≤ c.bits.result = c.bits.ensures.low in
    let least : 2 ^ 2 ≤ 2 ^ c.bits.result = pow_mono size in
    omega arith
