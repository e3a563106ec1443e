use Rattle.std.proofs.Common.{None, sym}
use Rattle.std.proofs.lemmas.Result.{err_from_is_err_and}
use Rattle.bit_dump.proofs.OnWalk.PassingLoops.{elements_none}
use Rattle.bit_dump.proofs.walk.passing.pass_plain.Goals as goal

pub returns-then-count-eq0 : goal.returns-then-count-eq0
returns-then-count-eq0 c = (None, elements_none _ _ c.args.count _ _ c.if-count-eq0.true)

pub returns-in_err-pass_elements : goal.returns-in_err-pass_elements
returns-in_err-pass_elements c =
    let p = err_from_is_err_and c.from_residual.result c.from_residual.ensures.1 in
    rw (p.1, p.2) (sym (rw c.plain_spelling-spelling.ensures at c.in_err-pass_elements.ensures))

pub returns : goal.returns
returns c = (_, sym (rw c.plain_spelling-spelling.ensures at c.in_ok-pass_elements.ensures))
