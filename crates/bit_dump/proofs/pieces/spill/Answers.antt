use Rattle.std.proofs.lemmas.Result.{err_from_is_err_and}
use Rattle.bit_dump.proofs.Telling.{flushes, fails}
use Rattle.bit_dump.proofs.pieces.spill.Goals as goal

pub returns-in_err-flush-clause-told : goal.returns-in_err-flush-clause-told
returns-in_err-flush-clause-told g c =
    let p = err_from_is_err_and c.from_residual.result c.from_residual.ensures.1 in
    rw (p.1, p.2) (λ before all h. fails before (g.S.Sink.taken c.args.sink.now) (g.S.Sink.taken c.flush.new.sink) all c.args.outline.now (g.S.Sink.faults c.args.sink.now) (g.S.Sink.faults c.flush.new.sink) h c.in_err-flush.ensures.wrote)

pub returns-clause-told : goal.returns-clause-told
returns-clause-told g c = λ before all h. rw c.in_ok-flush.ensures.none (flushes before (g.S.Sink.taken c.args.sink.now) (g.S.Sink.taken c.flush.new.sink) all c.args.outline.now h c.in_ok-flush.ensures.ok)
