use Rattle.std.proofs.Common.{refl, ap, Err}
use Rattle.std.specs.Prelude.{Option}
use Rattle.std.proofs.lemmas.Result.{err_from_is_err_and}
use Rattle.ir_base.specs.Files.{Named}
use Rattle.tool_output.specs.Outputs.{outputs}
use Rattle.tool_output.proofs.writing.write_named.Goals as goal

pub returns-in_err-told-clause-put : goal.returns-in_err-told-clause-put
returns-in_err-told-clause-put g c =
    let p = err_from_is_err_and c.from_residual.result c.from_residual.ensures.1 in
    λ taken. rw (p.1, p.2) refl

pub returns-in-Ok-clause-put : goal.returns-in-Ok-clause-put
returns-in-Ok-clause-put g c = λ taken. (refl, c.in-Ok.ensures.written)

pub returns-in-Err-Failed-clause-put : goal.returns-in-Err-Failed-clause-put
returns-in-Err-Failed-clause-put g c = λ taken. (c.in_ok-told.ensures, (refl, c.in-Err-Failed.ensures.broken (ap Err c.in-Err-Failed.field-0-is)))

pub returns-in-Err-Memory-clause-put : goal.returns-in-Err-Memory-clause-put
returns-in-Err-Memory-clause-put g c = λ taken. ap (λ (contents : Option Named). outputs taken contents) (c.in-Err-Memory.ensures.memory (ap Err c.in-Err-Memory.field-0-is))

pub returns-in-Err-Failed-clause-counts : goal.returns-in-Err-Failed-clause-counts
returns-in-Err-Failed-clause-counts g c = (c.in-Err-Failed.ensures.rose (ap Err c.in-Err-Failed.field-0-is), c.in-Err-Failed.ensures.later)

pub unreachable-requires : goal.unreachable-requires
unreachable-requires g c = c.in-Err-TooLarge.ensures.any_size (ap Err c.in-Err-TooLarge.field-0-is)
