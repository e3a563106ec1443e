use Rattle.std.proofs.Common.{◌≡◌, ◌+◌, ◌-◌, ◌/◌, arith}
use Rattle.bit_stream.proofs.OnBits.Places.{bytes_are_there}
use Rattle.bit_stream.proofs.bits.field.bytes_at.Goals as goal

pub returns : goal.returns
returns c =
    let size : c.args.at / 8 + c.args.count - c.args.at / 8 ≡ c.args.count = omega arith in
    rw size (bytes_are_there c.args.bytes.now c.args.at c.args.count c.requires.byte c.requires.whole (λ i. omega (arith, c.type_inv.bytes i)))
