use Rattle.std.proofs.Common.{refl}
use Rattle.std.proofs.lemmas.Result.{err_from_is_err_and}
use Rattle.tool_output.proofs.Formats.{text_is}
use Rattle.tool_output.proofs.writing.print_standard.Goals as goal

pub returns-in_err-name-clause-put : goal.returns-in_err-name-clause-put
returns-in_err-name-clause-put g c =
    let p = err_from_is_err_and c.from_residual.result c.from_residual.ensures.1 in
    λ contents. rw (p.1, p.2) refl

pub returns-in-Ok-clause-put : goal.returns-in-Ok-clause-put
returns-in-Ok-clause-put g c = λ contents. rw text_is (c.in-Ok.ensures.ok, refl)

pub returns-in-Err-clause-put : goal.returns-in-Err-clause-put
returns-in-Err-clause-put g c = λ contents. rw text_is (c.in_ok-name.ensures, ((c.in-Err.ensures.front.count, c.in-Err.ensures.front.added), refl))
