use Rattle.std.proofs.Common.{◌+◌, ℕ, List, false, true, None, Ok, Err, subst}
use Rattle.run_rules.specs.Clauses.{StepAnswers, outside}
use Rattle.run_rules.specs.declared.end.End.{End}
use Rattle.run_rules.specs.declared.fault.RunFault.TheVariants.{Memory}
use Rattle.run_acts.specs.declared.next.Next.{Next}
use Rattle.run_actions.specs.Passing.Traffic as traffic
use Rattle.ir_run.specs.Living.{Comes, StaysIn, StaysLive, Turns, going}
use Rattle.ir_run.specs.Seen.{Going, the_machine}
use Rattle.ir_run.specs.declared.live.Turn.{Turn}
use Rattle.ir_run.proofs.OtherAnswers.{told_err}
use Rattle.ir_run.proofs.Lived.{still_short}
use Rattle.ir_run.proofs.Onward.{from_going, get_fails_seen, got_seen, over_fails, put_fails, stop_fails, wants, went_on}
use Rattle.ir_run.proofs.inside.InsideStepping.step.Goals as goal

-- memory is wanted
pub returns-in_err-stop : goal.returns-in_err-stop
returns-in_err-stop g c =
    let u = c.self.inside in
    let new = c.turn.new.self in
    let before = outside (g.I.Source.left c.args.input.now) (g.I.Source.faults c.args.input.now) (g.O.Sink.taken c.args.output.now) (g.O.Sink.faults c.args.output.now) in
    told_err c.from_residual-in_err-stop.result Memory (λ r. StepAnswers r (the_machine c.args.self.now) (the_machine (going new u.input u.output u.steps true)) before before) c.from_residual-in_err-stop.ensures.1
    (from_going (λ (x : Going). StepAnswers (Err Memory) (the_machine x) (the_machine (going new u.input u.output u.steps true)) before before)
    u.live u.input u.output u.steps u.is_over c.args.self.now c.if-self.false c.self.view_is
    (wants u.live new u.input u.output u.steps before c.in_err-stop.ensures.wants c.in_err-stop.ensures.kept))

-- the run is over on entering what is due, and a write failed
pub returns-in_err-finish-in-Over : goal.returns-in_err-finish-in-Over
returns-in_err-finish-in-Over g c =
    let u = c.self.inside in
    let new = c.turn.new.self in
    let l = g.I.Source.left c.args.input.now in
    let f = g.I.Source.faults c.args.input.now in
    let t = g.O.Sink.taken c.args.output.now in
    let w = g.O.Sink.faults c.args.output.now in
    let held = c.finish-in-Over.new.held in
    let taken = g.O.Sink.taken c.finish-in-Over.new.sink in
    let writes = g.O.Sink.faults c.finish-in-Over.new.sink in
    let fault = c.in_err-finish-in-Over.field-0.0 in
    told_err c.from_residual-in_err-finish-in-Over.result fault (λ r. StepAnswers r (the_machine c.args.self.now) (the_machine (going new u.input held u.steps true)) (outside l f t w) (outside l f taken writes)) c.from_residual-in_err-finish-in-Over.ensures.1
    (from_going (λ (x : Going). StepAnswers (Err fault) (the_machine x) (the_machine (going new u.input held u.steps true)) (outside l f t w) (outside l f taken writes))
    u.live u.input u.output u.steps u.is_over c.args.self.now c.if-self.false c.self.view_is
    (over_fails u.live new u.input u.output held u.steps l t taken f w writes c.in-Over.stop fault
    (subst (λ (s : Turn). Turns s u.live new) c.in-Over.is c.in_ok-stop.ensures.turned)
    (subst (λ (e : End). traffic.Finishes e (Err fault) u.output held t w taken writes) c.end.ensures c.in_err-finish-in-Over.ensures)))

-- an instruction ends the run, and a write failed
pub returns-in_err-end-in-Came-Stops : goal.returns-in_err-end-in-Came-Stops
returns-in_err-end-in-Came-Stops g c =
    let u = c.self.inside in
    let new = c.turn.new.self in
    let l = g.I.Source.left c.args.input.now in
    let f = g.I.Source.faults c.args.input.now in
    let t = g.O.Sink.taken c.args.output.now in
    let w = g.O.Sink.faults c.args.output.now in
    let held = c.finish-in-Came-Stops.new.held in
    let taken = g.O.Sink.taken c.finish-in-Came-Stops.new.sink in
    let writes = g.O.Sink.faults c.finish-in-Came-Stops.new.sink in
    let fault = c.in_err-end-in-Came-Stops.field-0.0 in
    told_err c.from_residual-in_err-end-in-Came-Stops.result fault (λ r. StepAnswers r (the_machine c.args.self.now) (the_machine (going new u.input held u.steps true)) (outside l f t w) (outside l f taken writes)) c.from_residual-in_err-end-in-Came-Stops.ensures.1
    (from_going (λ (x : Going). StepAnswers (Err fault) (the_machine x) (the_machine (going new u.input held u.steps true)) (outside l f t w) (outside l f taken writes))
    u.live u.input u.output u.steps u.is_over c.args.self.now c.if-self.false c.self.view_is
    (stop_fails u.live new u.input u.output held u.steps l t taken f w writes c.in-Came-Stops.stop fault
    (subst (λ (n : Next). Comes n u.live new) c.in-Came-Stops.field-0-is (subst (λ (s : Turn). Turns s u.live new) c.in-Came-Stops.is c.in_ok-stop.ensures.turned))
    (subst (λ (e : End). traffic.Finishes e (Err fault) u.output held t w taken writes) c.end-in-Came-Stops.ensures c.in_err-end-in-Came-Stops.ensures)))

-- it goes on, and a write failed
pub returns-in_err-put-in-Came-Goes : goal.returns-in_err-put-in-Came-Goes
returns-in_err-put-in-Came-Goes g c =
    let u = c.self.inside in
    let new = c.turn.new.self in
    let l = g.I.Source.left c.args.input.now in
    let f = g.I.Source.faults c.args.input.now in
    let t = g.O.Sink.taken c.args.output.now in
    let w = g.O.Sink.faults c.args.output.now in
    let held = c.put.new.held in
    let taken = g.O.Sink.taken c.put.new.sink in
    let writes = g.O.Sink.faults c.put.new.sink in
    let fault = c.in_err-put-in-Came-Goes.field-0.0 in
    told_err c.from_residual-in_err-put-in-Came-Goes.result fault (λ r. StepAnswers r (the_machine c.args.self.now) (the_machine (going new u.input held u.steps true)) (outside l f t w) (outside l f taken writes)) c.from_residual-in_err-put-in-Came-Goes.ensures.1
    (from_going (λ (x : Going). StepAnswers (Err fault) (the_machine x) (the_machine (going new u.input held u.steps true)) (outside l f t w) (outside l f taken writes))
    u.live u.input u.output u.steps u.is_over c.args.self.now c.if-self.false c.self.view_is
    (put_fails u.live new u.input u.output held u.steps l t taken f w writes fault
    (subst (λ (n : Next). Comes n u.live new) c.in-Came-Goes.field-0-is (subst (λ (s : Turn). Turns s u.live new) c.in-Came-Goes.is c.in_ok-stop.ensures.turned))
    (subst (λ (bytes : List ℕ). traffic.Puts (Err fault) bytes u.output held t w taken writes) c.written.ensures c.in_err-put-in-Came-Goes.ensures)))

-- or all was put
pub returns-in_ok-put-in-Came-Goes : goal.returns-in_ok-put-in-Came-Goes
returns-in_ok-put-in-Came-Goes g c =
    let u = c.self.inside in
    let new = c.turn.new.self in
    let l = g.I.Source.left c.args.input.now in
    let f = g.I.Source.faults c.args.input.now in
    let t = g.O.Sink.taken c.args.output.now in
    let w = g.O.Sink.faults c.args.output.now in
    let held = c.put.new.held in
    let taken = g.O.Sink.taken c.put.new.sink in
    let writes = g.O.Sink.faults c.put.new.sink in
    from_going (λ (x : Going). StepAnswers (Ok None) (the_machine x) (the_machine (going new u.input held (u.steps + 1) false)) (outside l f t w) (outside l f taken writes))
    u.live u.input u.output u.steps u.is_over c.args.self.now c.if-self.false c.self.view_is
    (went_on u.live new u.input u.output held u.steps l t taken f w writes
    (subst (λ (n : Next). Comes n u.live new) c.in-Came-Goes.field-0-is (subst (λ (s : Turn). Turns s u.live new) c.in-Came-Goes.is c.in_ok-stop.ensures.turned))
    (c.self.invariant c.if-self.false).short
    (subst (λ (bytes : List ℕ). traffic.IsPut bytes u.output held t w taken writes) c.written.ensures c.in_ok-put-in-Came-Goes.ensures))

pub invariant_of-self-in-Came-Goes : goal.invariant_of-self-in-Came-Goes
invariant_of-self-in-Came-Goes g c = λ e.
    let u = c.self.inside in
    let new = c.turn.new.self in
    let way = c.self.invariant c.if-self.false in
    record {
      live =
          subst (λ (n : Next). StaysLive u.steps n new) c.in-Came-Goes.field-0-is
          (subst (λ (s : Turn). StaysIn u.steps s new) c.in-Came-Goes.is (c.in_ok-stop.ensures.live u.steps way.live));
      short = c.in_ok-put-in-Came-Goes.ensures.short way.short;
    }

-- ---- a byte is wanted

pub take_byte-requires : goal.take_byte-requires
take_byte-requires g c =
    let u = c.self.inside in
    let new = c.turn.new.self in
    let stays =
    subst (λ (n : Next). StaysLive u.steps n new) c.in-Came-Gets.field-0-is
    (subst (λ (s : Turn). StaysIn u.steps s new) c.in-Came-Gets.is (c.in_ok-stop.ensures.live u.steps (c.self.invariant c.if-self.false).live))
    in
    (u.steps + 1, stays.0, stays.1, stays.2)

-- a read or a write failed
pub returns-in_err-take_byte-in-Came-Gets : goal.returns-in_err-take_byte-in-Came-Gets
returns-in_err-take_byte-in-Came-Gets g c =
    let u = c.self.inside in
    let mid = c.turn.new.self in
    let n = c.take_byte.new in
    let before = outside (g.I.Source.left c.args.input.now) (g.I.Source.faults c.args.input.now) (g.O.Sink.taken c.args.output.now) (g.O.Sink.faults c.args.output.now) in
    let after = outside (g.I.Source.left n.input) (g.I.Source.faults n.input) (g.O.Sink.taken n.output) (g.O.Sink.faults n.output) in
    let fault = c.in_err-take_byte-in-Came-Gets.field-0.0 in
    told_err c.from_residual-in_err-take_byte-in-Came-Gets.result fault (λ r. StepAnswers r (the_machine c.args.self.now) (the_machine (going n.self n.waiting n.held u.steps true)) before after) c.from_residual-in_err-take_byte-in-Came-Gets.ensures.1
    (from_going (λ (x : Going). StepAnswers (Err fault) (the_machine x) (the_machine (going n.self n.waiting n.held u.steps true)) before after)
    u.live u.input u.output u.steps u.is_over c.args.self.now c.if-self.false c.self.view_is
    (get_fails_seen u.live mid n.self u.input n.waiting u.output n.held u.steps c.in-Came-Gets.to before after fault c.take_byte.ensures.others
    (subst (λ (x : Next). Comes x u.live mid) c.in-Came-Gets.field-0-is (subst (λ (s : Turn). Turns s u.live mid) c.in-Came-Gets.is c.in_ok-stop.ensures.turned))
    c.in_err-take_byte-in-Came-Gets.ensures.gets))

-- or it came
pub returns-in_ok-take_byte-in-Came-Gets : goal.returns-in_ok-take_byte-in-Came-Gets
returns-in_ok-take_byte-in-Came-Gets g c =
    let u = c.self.inside in
    let mid = c.turn.new.self in
    let n = c.take_byte.new in
    let before = outside (g.I.Source.left c.args.input.now) (g.I.Source.faults c.args.input.now) (g.O.Sink.taken c.args.output.now) (g.O.Sink.faults c.args.output.now) in
    let after = outside (g.I.Source.left n.input) (g.I.Source.faults n.input) (g.O.Sink.taken n.output) (g.O.Sink.faults n.output) in
    from_going (λ (x : Going). StepAnswers (Ok None) (the_machine x) (the_machine (going n.self n.waiting n.held (u.steps + 1) false)) before after)
    u.live u.input u.output u.steps u.is_over c.args.self.now c.if-self.false c.self.view_is
    (got_seen u.live mid n.self u.input n.waiting u.output n.held u.steps c.in-Came-Gets.to before after c.take_byte.ensures.others
    (subst (λ (x : Next). Comes x u.live mid) c.in-Came-Gets.field-0-is (subst (λ (s : Turn). Turns s u.live mid) c.in-Came-Gets.is c.in_ok-stop.ensures.turned))
    (c.self.invariant c.if-self.false).short c.in_ok-take_byte-in-Came-Gets.ensures.gets)

pub invariant_of-self-in-Came-Gets : goal.invariant_of-self-in-Came-Gets
invariant_of-self-in-Came-Gets g c = λ e.
    let u = c.self.inside in
    let new = c.turn.new.self in
    let n = c.take_byte.new in
    let way = c.self.invariant c.if-self.false in
    let stays =
    subst (λ (x : Next). StaysLive u.steps x new) c.in-Came-Gets.field-0-is
    (subst (λ (s : Turn). StaysIn u.steps s new) c.in-Came-Gets.is (c.in_ok-stop.ensures.live u.steps way.live))
    in
    record {
      live = c.in_ok-take_byte-in-Came-Gets.ensures.live (u.steps + 1) stays.0 stays.2;
      short = still_short u.input u.output n.held (g.O.Sink.taken c.args.output.now) (g.O.Sink.taken n.output) way.short c.in_ok-take_byte-in-Came-Gets.ensures.gets.flushes;
    }
