use Rattle.std.proofs.Common.{sym, ap, ◌∙◌}
use Rattle.ir_printer.specs.Gathered.Told.{state}
use Rattle.ir_printer.proofs.OnGathered.Fronts.{front_written, gathers}
use Rattle.ir_printer.proofs.gathered.output.Gathered.finish.Goals as goal

pub returns-clause-front : goal.returns-clause-front
returns-clause-front g c =
    let w = c.write.ensures.wrote in
    λ start text says.
    front_written start (state c.args.self (g.S.Sink.taken c.args.sink.now) (g.S.Sink.faults c.args.sink.now)) (g.S.Sink.taken c.write.new.sink) text w.count w.within w.added
    (gathers start (state c.args.self (g.S.Sink.taken c.args.sink.now) (g.S.Sink.faults c.args.sink.now)) text (sym (ap (λ p. p.failed) c.self.view_is) ∙ c.if-self.false) says)
