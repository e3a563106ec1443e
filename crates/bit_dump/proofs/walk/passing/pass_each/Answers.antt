use Rattle.std.proofs.Common.{sym, ◌∙◌, arith}
use Rattle.std.proofs.lemmas.List.{drop_all}
use Rattle.std.proofs.lemmas.Result.{err_from_is_err_and}
use Rattle.bit_dump.proofs.OnWalk.PassingLoops.{each_none, each_err, each_more}
use Rattle.bit_dump.proofs.walk.passing.pass_each.Goals as goal

pub returns-in_err-first : goal.returns-in_err-first
returns-in_err-first c =
    let p = err_from_is_err_and c.from_residual.result c.from_residual.ensures.1 in
    rw (p.1, p.2) (sym (sym c.loop-scalar.invariant ∙ each_err _ c.args.scalars.now c.loop-scalar.scalar-index c.scalar-item.result _ _ _ (omega arith) (rw c.scalar-item.is at (sym c.in_err-first.ensures))))

pub loop-scalar-preserved : goal.loop-scalar-preserved
loop-scalar-preserved c = sym (each_more _ c.args.scalars.now c.loop-scalar.scalar-index c.scalar-item.result _ _ _ _ (omega arith) (rw c.scalar-item.is at (sym c.in_ok-first.ensures))) ∙ c.loop-scalar.invariant

pub returns : goal.returns
returns c = sym (sym c.loop-scalar.invariant ∙ each_none _ _ _ _ (drop_all c.loop-scalar.scalar-index c.args.scalars.now (omega arith)))
