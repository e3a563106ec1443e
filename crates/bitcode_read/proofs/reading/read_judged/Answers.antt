use Rattle.std.proofs.lemmas.Result.{err_from_is_err_and}
use Rattle.bitcode_read.proofs.reading.read_judged.Goals as goal

pub read_opened-requires-clause-unspent : goal.read_opened-requires-clause-unspent
read_opened-requires-clause-unspent c = c.in_ok-opening.ensures.unspent

pub read_opened-requires-clause-held : goal.read_opened-requires-clause-held
read_opened-requires-clause-held c = c.in_ok-opening.ensures.held

pub read_opened-requires-clause-opened : goal.read_opened-requires-clause-opened
read_opened-requires-clause-opened c =
    let i = c.requires.judged in
    record { tree = i.tree; is_tree = i.stream; opened = c.in_ok-opening.ensures.opens i.tree i.stream }

pub returns-in_err-opening : goal.returns-in_err-opening
returns-in_err-opening c = λ tree stream.
    let p = err_from_is_err_and c.from_residual.result c.from_residual.ensures.1 in
    rw (p.1, p.2) (c.in_err-opening.ensures.opens tree stream)

pub returns : goal.returns
returns c = λ tree stream. c.read_opened.ensures tree stream (c.in_ok-opening.ensures.opens tree stream)
