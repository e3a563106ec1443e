use Rattle.std.proofs.Common.{refl, ap, ◌∙◌}
use Rattle.std.proofs.lemmas.Result.{on_ok_weaker}
use Rattle.ir_base.proofs.Pieces.{OnErr-anyway}
use Rattle.ir_printer.specs.Gathered.Told.{state}
use Rattle.ir_printer.proofs.OnGathered.Fronts.{front_more, front_written, front_through, gathers_written, gathers_through}
use Rattle.ir_printer.proofs.gathered.output.Gathered.write_behind.Goals as goal

pub returns-in_err-write-clause-err : goal.returns-in_err-write-clause-err
returns-in_err-write-clause-err g c =
    OnErr-anyway c.from_residual.result (λ start text gathered. let w = c.write.ensures.wrote in
    front_more start (g.S.Sink.taken c.write.new.sink) text c.args.bytes.now
    (front_written start (state c.args.self.now (g.S.Sink.taken c.args.sink.now) (g.S.Sink.faults c.args.sink.now)) (g.S.Sink.taken c.write.new.sink) text w.count w.within w.added gathered))

pub returns-clause-ok : goal.returns-clause-ok
returns-clause-ok g c =
    let old = state c.args.self.now (g.S.Sink.taken c.args.sink.now) (g.S.Sink.faults c.args.sink.now) in
    let mid = state c.write.new.self (g.S.Sink.taken c.write.new.sink) (g.S.Sink.faults c.write.new.sink) in
    let now = state c.hold.new.self (g.S.Sink.taken c.write_all.new.sink) (g.S.Sink.faults c.write_all.new.sink) in
    let none = ap (λ p. p.held) c.in_ok-write.ensures.none in
    on_ok_weaker c.write_all.result (λ added start text gathered.
    gathers_through start mid now text c.args.bytes.now none (ap (λ p. p.held) (c.if-hold.ensures.full refl) ∙ none) added
    (gathers_written start old mid text c.in_ok-write.ensures.ok none gathered)) c.write_all.ensures.ok

pub returns-clause-err : goal.returns-clause-err
returns-clause-err g c =
    let old = state c.args.self.now (g.S.Sink.taken c.args.sink.now) (g.S.Sink.faults c.args.sink.now) in
    let mid = state c.write.new.self (g.S.Sink.taken c.write.new.sink) (g.S.Sink.faults c.write.new.sink) in
    let none = ap (λ p. p.held) c.in_ok-write.ensures.none in
    let w = c.write_all.ensures.wrote in
    OnErr-anyway c.write_all.result (λ start text gathered.
    front_through start mid (g.S.Sink.taken c.write_all.new.sink) text c.args.bytes.now w.count none w.within w.added
    (gathers_written start old mid text c.in_ok-write.ensures.ok none gathered))
