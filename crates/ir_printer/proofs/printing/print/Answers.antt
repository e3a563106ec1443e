use Rattle.std.proofs.Common.{[]}
use Rattle.std.proofs.lemmas.Result.{on_ok_weaker, on_err_weaker}
use Rattle.canonical.specs.Canonical.{canon}
use Rattle.module_arena.specs.View.{module_of}
use Rattle.ir_printer.proofs.Whole.{at_first, rose_somewhere}
use Rattle.ir_printer.proofs.printing.print.Goals as goal

pub returns-clause-ok : goal.returns-clause-ok
returns-clause-ok g c =
    let start = g.S.Sink.taken c.args.sink.now in
    let put = rw c.arena.ensures.arena at (rw c.new-out.ensures at c.put_module.ensures) in
    on_ok_weaker c.finish.result (λ ok. ok start (canon (module_of c.args.checked.now)) (put.says start [] (at_first start (g.S.Sink.faults c.args.sink.now)))) c.finish.ensures.ok

pub returns-clause-front : goal.returns-clause-front
returns-clause-front g c =
    let start = g.S.Sink.taken c.args.sink.now in
    let put = rw c.arena.ensures.arena at (rw c.new-out.ensures at c.put_module.ensures) in
    c.finish.ensures.front start (canon (module_of c.args.checked.now)) (put.says start [] (at_first start (g.S.Sink.faults c.args.sink.now)))

pub returns-clause-cause : goal.returns-clause-cause
returns-clause-cause g c =
    let put = rw c.new-out.ensures at c.put_module.ensures in
    on_err_weaker c.finish.result
    (rose_somewhere (g.S.Sink.faults c.args.sink.now) (g.S.Sink.faults c.put_module.new.sink) (g.S.Sink.faults c.finish.new.sink) c.put_module.new.out.failed put.later c.finish.ensures.later put.cause) c.finish.ensures.cause
