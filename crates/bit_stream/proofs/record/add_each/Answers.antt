use Rattle.std.proofs.Common.{sym, ◌∙◌, arith}
use Rattle.std.proofs.lemmas.List.{drop_all}
use Rattle.std.proofs.lemmas.Result.{err_from_is_err_and}
use Rattle.bit_stream.proofs.Loops.{stops_with, each_none, each_err_at, each_more_at}
use Rattle.bit_stream.proofs.record.add_each.Goals as goal

pub returns-in_err-add_operand : goal.returns-in_err-add_operand
returns-in_err-add_operand c =
    let p = err_from_is_err_and c.from_residual.result c.from_residual.ensures.1 in
    rw (p.1, p.2) (stops_with _ _ _ (λ e found. sym c.loop-scalar.invariant ∙ each_err_at _ c.args.scalars.now c.loop-scalar.scalar-index c.scalar-item.result _ _ e (omega arith) (rw c.scalar-item.is at found)) c.in_err-add_operand.ensures)

pub loop-scalar-preserved : goal.loop-scalar-preserved
loop-scalar-preserved c = sym (each_more_at _ c.args.scalars.now c.loop-scalar.scalar-index c.scalar-item.result _ _ _ _ (omega arith) (rw c.scalar-item.is at c.in_ok-add_operand.ensures)) ∙ c.loop-scalar.invariant

pub returns : goal.returns
returns c = sym c.loop-scalar.invariant ∙ each_none _ _ _ _ (drop_all c.loop-scalar.scalar-index c.args.scalars.now (omega arith))
