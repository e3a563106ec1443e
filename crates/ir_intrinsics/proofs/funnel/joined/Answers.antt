use Rattle.std.proofs.Common.{◌∙◌, ap, bit_or, ◌*◌, ◌%◌, ◌^◌, ◌/◌, ◌-◌}
use Rattle.ir_intrinsics.proofs.Halves.{joined_is}
use Rattle.ir_intrinsics.proofs.funnel.joined.Goals as goal

pub returns : goal.returns
returns c =
    ap (λ n. bit_or (n * 2 ^ c.args.up % 2 ^ 128) (c.args.low / 2 ^ (c.args.width - c.args.up))) c.low_bits.ensures
    ∙ joined_is c.args.width c.args.high c.args.low c.args.up c.requires.width c.requires.few c.requires.low
