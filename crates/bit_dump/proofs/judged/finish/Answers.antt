use Rattle.std.proofs.lemmas.Result.{err_from_is_err_and}
use Rattle.bit_dump.proofs.Spilling.{last_added, last_failed}
use Rattle.bit_dump.proofs.judged.finish.Goals as goal

pub returns-in_err-flush-clause-told : goal.returns-in_err-flush-clause-told
returns-in_err-flush-clause-told g c =
    let p = err_from_is_err_and c.from_residual-in_err-flush.result c.from_residual-in_err-flush.ensures.1 in
    rw (p.1, p.2) (last_failed (g.S.Sink.taken c.args.sink.now) (g.S.Sink.taken c.sum_up.new.sink) (g.S.Sink.taken c.flush.new.sink) _ c.sum_up.new.self.text (g.S.Sink.faults c.sum_up.new.sink) (g.S.Sink.faults c.flush.new.sink) c.in_ok-sum_up.ensures.told c.in_err-flush.ensures.wrote)

pub returns-clause-told : goal.returns-clause-told
returns-clause-told g c = last_added (g.S.Sink.taken c.args.sink.now) (g.S.Sink.taken c.sum_up.new.sink) (g.S.Sink.taken c.flush.new.sink) _ c.sum_up.new.self.text c.in_ok-sum_up.ensures.told c.in_ok-flush.ensures.ok
