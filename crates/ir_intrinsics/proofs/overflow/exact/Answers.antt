use Rattle.std.proofs.Common.{◌∙◌, sym}
use Rattle.ir_intrinsics.proofs.Flagged.{binary_exact}
use Rattle.ir_intrinsics.proofs.overflow.exact.Goals as goal

pub unreachable-requires : goal.unreachable-requires
unreachable-requires c =
    let e = sym c.in-Err.is ∙ c.binary.ensures.value ∙ binary_exact c.args.op c.args.flags c.args.width c.args.a c.args.b c.requires.op in
    cc

pub returns : goal.returns
returns c =
    let e = sym c.in-Ok.is ∙ c.binary.ensures.value ∙ binary_exact c.args.op c.args.flags c.args.width c.args.a c.args.b c.requires.op in
    cc
