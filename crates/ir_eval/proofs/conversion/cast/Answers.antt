use Rattle.ir_tables.specs.declared.opcode.Opcode.TheVariants.{Trunc, ZExt}
use Rattle.ir_eval.specs.Cast.{cast_of, IsCast}
use Rattle.ir_eval.specs.declared.value.Scalar.TheVariants.{Int}
use Rattle.ir_eval.proofs.Ranges.{cast_kind}
use Rattle.ir_eval.proofs.conversion.cast.Goals as goal

pub returns-in-Trunc-Int-clause-kind : goal.returns-in-Trunc-Int-clause-kind
unfolding cast_of
returns-in-Trunc-Int-clause-kind c =
    let is : IsCast Trunc c.args.from c.args.to (Int c.in-Trunc-Int.number) = rw (c.in-Trunc-Int.is-0, c.in-Trunc-Int.is-1) at c.requires.cast in
    rw (c.in-Trunc-Int.is-0, c.truncated.ensures) (cast_kind Trunc c.args.flags c.args.from c.args.to (Int c.in-Trunc-Int.number) is)

pub returns-in-ZExt-Int-clause-kind : goal.returns-in-ZExt-Int-clause-kind
unfolding cast_of
returns-in-ZExt-Int-clause-kind c =
    let is : IsCast ZExt c.args.from c.args.to (Int c.in-ZExt-Int.number) = rw (c.in-ZExt-Int.is-0, c.in-ZExt-Int.is-1) at c.requires.cast in
    rw (c.in-ZExt-Int.is-0, c.zero_extended.ensures) (cast_kind ZExt c.args.flags c.args.from c.args.to (Int c.in-ZExt-Int.number) is)
