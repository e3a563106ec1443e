use Rattle.std.proofs.Common.{◌≡◌, ◌+◌, ◌-◌, sym, ◌∙◌, arith}
use Rattle.std.proofs.lemmas.Result.{err_from_is_err_and}
use Rattle.bit_dump.proofs.OnWalk.PassingLoops.{elements_none, elements_err, elements_more}
use Rattle.bit_dump.proofs.walk.passing.pass_elements.Goals as goal

pub returns-in_err-first : goal.returns-in_err-first
returns-in_err-first c =
    let p = err_from_is_err_and c.from_residual.result c.from_residual.ensures.1 in
    rw (p.1, p.2) (sym (sym c.loop.invariant ∙ elements_err _ _ _ _ _ _ (omega arith) (sym c.in_err-first.ensures)))

pub loop-preserved : goal.loop-preserved
loop-preserved c =
    let less : c.args.count - c.loop.counter - 1 ≡ c.args.count - (c.loop.counter + 1) = omega arith in
    rw less at (sym (elements_more _ _ (c.args.count - c.loop.counter) _ _ _ _ (omega arith) (sym c.in_ok-first.ensures))) ∙ c.loop.invariant

pub returns : goal.returns
returns c = sym (sym c.loop.invariant ∙ elements_none _ _ _ _ _ (omega arith))
