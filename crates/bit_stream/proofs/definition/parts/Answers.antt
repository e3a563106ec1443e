use Rattle.std.proofs.Common.{sym, ◌∙◌, arith}
use Rattle.std.proofs.lemmas.Result.{err_from_is_err_and}
use Rattle.bit_stream.proofs.Loops.{parts_none, parts_err, parts_end, parts_more}
use Rattle.bit_stream.proofs.definition.parts.Goals as goal

pub returns-in_err-scalar : goal.returns-in_err-scalar
returns-in_err-scalar c =
    let p = err_from_is_err_and c.from_residual.result c.from_residual.ensures.1 in
    rw (p.1, p.2) (sym c.loop-left.invariant ∙ parts_err _ _ _ _ (omega arith) (sym c.in_err-scalar.ensures))

pub returns-in-End : goal.returns-in-End
returns-in-End c = sym c.loop-left.invariant ∙ parts_end _ _ _ _ _ (omega arith) (rw c.in-End.is at (sym c.in_ok-scalar.ensures))

pub loop-left-preserved : goal.loop-left-preserved
loop-left-preserved c =
    let more = parts_more _ c.loop-left.operands.items _ _ c.in-Value.scalar (omega arith) (rw c.in-Value.is at (sym c.in_ok-scalar.ensures)) in
    rw c.in_ok-push-in-Value.ensures.items (sym more ∙ c.loop-left.invariant)

pub returns : goal.returns
returns c = sym c.loop-left.invariant ∙ parts_none _ _ _ (omega arith)
