use Rattle.std.proofs.Common.{refl}
use Rattle.std.proofs.lemmas.Result.{err_from_is_err_and}
use Rattle.tool_output.proofs.writing.write_standard.Goals as goal

pub returns-in-CanonicalText-clause-put : goal.returns-in-CanonicalText-clause-put
returns-in-CanonicalText-clause-put g c = rw c.in-CanonicalText.is c.print_standard.ensures.put

pub returns-in_err-bytes-in-Bitcode-clause-put : goal.returns-in_err-bytes-in-Bitcode-clause-put
returns-in_err-bytes-in-Bitcode-clause-put g c =
    let p = err_from_is_err_and c.from_residual.result c.from_residual.ensures.1 in
    λ contents. rw (p.1, p.2) refl

pub returns-in_ok-bytes-in-Bitcode-clause-put : goal.returns-in_ok-bytes-in-Bitcode-clause-put
returns-in_ok-bytes-in-Bitcode-clause-put g c = rw (← c.in_ok-bytes-in-Bitcode.ensures) c.put_standard.ensures.put
