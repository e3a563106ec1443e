use Rattle.std.proofs.lemmas.Result.{err_from_is_err_and}
use Rattle.bitcode_read.proofs.Judged.{end_refused}
use Rattle.bitcode_read.proofs.Opened.{module_read}
use Rattle.bitcode_read.proofs.reading.read_end.Goals as goal

pub expect_end-requires : goal.expect_end-requires
expect_end-requires c = c.requires.unspent

pub finished-requires : goal.finished-requires
finished-requires c = c.requires.settable

pub returns-in_err-expect_end : goal.returns-in_err-expect_end
returns-in_err-expect_end c = λ s behind before at read.
    let p = err_from_is_err_and c.from_residual.result c.from_residual.ensures.1 in
    rw (p.1, p.2) (end_refused s behind _ (c.in_err-expect_end.ensures s behind before at))

pub returns : goal.returns
returns c = λ s behind before at read. module_read s behind c.finished.result (c.in_ok-expect_end.ensures s behind before at) (c.finished.ensures s read)
