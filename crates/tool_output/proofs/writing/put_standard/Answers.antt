use Rattle.std.proofs.Common.{refl}
use Rattle.std.proofs.lemmas.Result.{err_from_is_err_and}
use Rattle.tool_output.proofs.writing.put_standard.Goals as goal

pub returns-in_err-told-clause-put : goal.returns-in_err-told-clause-put
returns-in_err-told-clause-put g c =
    let p = err_from_is_err_and c.from_residual.result c.from_residual.ensures.1 in
    λ contents. rw (p.1, p.2) refl

pub returns-in-Ok-clause-put : goal.returns-in-Ok-clause-put
returns-in-Ok-clause-put g c = λ contents. (rw c.bytes.ensures at c.in-Ok.ensures.ok, refl)

pub returns-in-Err-clause-put : goal.returns-in-Err-clause-put
returns-in-Err-clause-put g c = λ contents. (c.in_ok-told.ensures, ((c.in-Err.ensures.wrote.count, rw c.bytes.ensures at c.in-Err.ensures.wrote.added), refl))
