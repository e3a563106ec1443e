use Rattle.std.proofs.Common.{◌≡◌, ◌+◌, ◌-◌, ◌<◌, ◌≤◌, false, true, None, Some, Ok, Err, ap, subst, arith}
use Rattle.run_rules.specs.Clauses.{outside}
use Rattle.run_rules.specs.declared.end.End.{End}
use Rattle.run_rules.specs.declared.fault.RunFault.TheVariants.{Memory}
use Rattle.run_actions.specs.Loops.Stretches.{Stretches}
use Rattle.run_actions.specs.Passing.Traffic as traffic
use Rattle.ir_run.specs.Living.{going}
use Rattle.ir_run.specs.Seen.{Going, the_machine}
use Rattle.ir_run.specs.Stretch.{LeavesOff, StaysAt}
use Rattle.ir_run.specs.declared.stretch.StretchEnd.{StretchEnd}
use Rattle.ir_run.proofs.OtherAnswers.{told_err}
use Rattle.ir_run.proofs.Onward.{from_going}
use Rattle.ir_run.proofs.Stretches.{stretch_ends, stretch_fails, stretch_waits, stretch_wants}
use Rattle.ir_run.proofs.inside.InsideStepping.go_on.Goals as goal

-- the run goes on
pub returns-in-Waits : goal.returns-in-Waits
returns-in-Waits g c =
    let u = c.self.inside in
    let s = c.go_on-stretch.result in
    let new = c.go_on-stretch.new.self in
    let l = g.I.Source.left c.args._input.now in
    let f = g.I.Source.faults c.args._input.now in
    let t = g.O.Sink.taken c.args.output.now in
    let w = g.O.Sink.faults c.args.output.now in
    let same : u.steps ≡ c.args.self.now.steps = ap (λ (x : Going). x.steps) c.self.view_is in
    let some = c.requires.few in
    let most = c.go_on-stretch.ensures.few in
    let within : u.steps + s.count ≤ c.args.bound = omega (arith, same, some, most) in
    let short = (c.self.invariant c.if-self.false).short in
    from_going (λ (x : Going). Stretches c.args.bound (Ok None) (the_machine x) (the_machine (going new u.input u.output (u.steps + s.count) false)) (outside l f t w) (outside l f t w))
    u.live u.input u.output u.steps u.is_over c.args.self.now c.if-self.false c.self.view_is
    (stretch_waits c.args.bound u.live new u.input u.output u.output u.steps l t t f w w s c.go_on-stretch.ensures.walks short within c.in-Waits.is)

pub invariant_of-self : goal.invariant_of-self
invariant_of-self g c = λ e.
    let u = c.self.inside in
    let s = c.go_on-stretch.result in
    let new = c.go_on-stretch.new.self in
    let way = c.self.invariant c.if-self.false in
    record {
      live = subst (λ (x : StretchEnd). StaysAt (u.steps + s.count) x new) c.in-Waits.is (c.go_on-stretch.ensures.live u.steps way.live);
      short = way.short;
    }

-- an instruction ends it
pub returns-in_ok-told-in-Stops : goal.returns-in_ok-told-in-Stops
returns-in_ok-told-in-Stops g c =
    let u = c.self.inside in
    let s = c.go_on-stretch.result in
    let new = c.go_on-stretch.new.self in
    let l = g.I.Source.left c.args._input.now in
    let f = g.I.Source.faults c.args._input.now in
    let t = g.O.Sink.taken c.args.output.now in
    let w = g.O.Sink.faults c.args.output.now in
    let same : u.steps ≡ c.args.self.now.steps = ap (λ (x : Going). x.steps) c.self.view_is in
    let some = c.requires.few in
    let most = c.go_on-stretch.ensures.few in
    let within : u.steps + s.count ≤ c.args.bound = omega (arith, same, some, most) in
    let short = (c.self.invariant c.if-self.false).short in
    let held = c.finish.new.held in
    let taken = g.O.Sink.taken c.finish.new.sink in
    let writes = g.O.Sink.faults c.finish.new.sink in
    let further : s.count < c.args.bound - u.steps = subst (λ (e : StretchEnd). LeavesOff (c.args.bound - u.steps) s.count e new.program new.stack) c.in-Stops.is c.go_on-stretch.ensures.further in
    let less : u.steps + s.count < c.args.bound = omega (arith, same, some, further) in
    let told = c.in_ok-told-in-Stops.told in
    let finished = subst (λ (e : End). traffic.Finishes e (Ok told) u.output held t w taken writes) c.end.ensures c.in_ok-told-in-Stops.ensures in
    from_going (λ (x : Going). Stretches c.args.bound (Ok (Some told)) (the_machine x) (the_machine (going new u.input held (u.steps + s.count + 1) true)) (outside l f t w) (outside l f taken writes))
    u.live u.input u.output u.steps u.is_over c.args.self.now c.if-self.false c.self.view_is
    (stretch_ends c.args.bound u.live new u.input u.output held u.steps l t taken f w writes s c.go_on-stretch.ensures.walks short within c.in-Stops.stop c.in-Stops.is less told finished.0 finished.1)

-- one ends it, and a write failed
pub returns-in_err-told-in-Stops : goal.returns-in_err-told-in-Stops
returns-in_err-told-in-Stops g c =
    let u = c.self.inside in
    let s = c.go_on-stretch.result in
    let new = c.go_on-stretch.new.self in
    let l = g.I.Source.left c.args._input.now in
    let f = g.I.Source.faults c.args._input.now in
    let t = g.O.Sink.taken c.args.output.now in
    let w = g.O.Sink.faults c.args.output.now in
    let same : u.steps ≡ c.args.self.now.steps = ap (λ (x : Going). x.steps) c.self.view_is in
    let some = c.requires.few in
    let most = c.go_on-stretch.ensures.few in
    let within : u.steps + s.count ≤ c.args.bound = omega (arith, same, some, most) in
    let short = (c.self.invariant c.if-self.false).short in
    let held = c.finish.new.held in
    let taken = g.O.Sink.taken c.finish.new.sink in
    let writes = g.O.Sink.faults c.finish.new.sink in
    let further : s.count < c.args.bound - u.steps = subst (λ (e : StretchEnd). LeavesOff (c.args.bound - u.steps) s.count e new.program new.stack) c.in-Stops.is c.go_on-stretch.ensures.further in
    let less : u.steps + s.count < c.args.bound = omega (arith, same, some, further) in
    let fault = c.in_err-told-in-Stops.field-0.0 in
    told_err c.from_residual.result fault (λ r. Stretches c.args.bound r (the_machine c.args.self.now) (the_machine (going new u.input held (u.steps + s.count) true)) (outside l f t w) (outside l f taken writes)) c.from_residual.ensures.1
    (from_going (λ (x : Going). Stretches c.args.bound (Err fault) (the_machine x) (the_machine (going new u.input held (u.steps + s.count) true)) (outside l f t w) (outside l f taken writes))
    u.live u.input u.output u.steps u.is_over c.args.self.now c.if-self.false c.self.view_is
    (stretch_fails c.args.bound u.live new u.input u.output held u.steps l t taken f w writes s c.go_on-stretch.ensures.walks short within c.in-Stops.stop c.in-Stops.is less fault
    (subst (λ (e : End). traffic.Finishes e (Err fault) u.output held t w taken writes) c.end.ensures c.in_err-told-in-Stops.ensures)))

-- memory is wanted
pub returns-in-Wants : goal.returns-in-Wants
returns-in-Wants g c =
    let u = c.self.inside in
    let s = c.go_on-stretch.result in
    let new = c.go_on-stretch.new.self in
    let l = g.I.Source.left c.args._input.now in
    let f = g.I.Source.faults c.args._input.now in
    let t = g.O.Sink.taken c.args.output.now in
    let w = g.O.Sink.faults c.args.output.now in
    let same : u.steps ≡ c.args.self.now.steps = ap (λ (x : Going). x.steps) c.self.view_is in
    let some = c.requires.few in
    let most = c.go_on-stretch.ensures.few in
    let within : u.steps + s.count ≤ c.args.bound = omega (arith, same, some, most) in
    let short = (c.self.invariant c.if-self.false).short in
    let further : s.count < c.args.bound - u.steps = subst (λ (e : StretchEnd). LeavesOff (c.args.bound - u.steps) s.count e new.program new.stack) c.in-Wants.is c.go_on-stretch.ensures.further in
    let less : u.steps + s.count < c.args.bound = omega (arith, same, some, further) in
    from_going (λ (x : Going). Stretches c.args.bound (Err Memory) (the_machine x) (the_machine (going new u.input u.output (u.steps + s.count) true)) (outside l f t w) (outside l f t w))
    u.live u.input u.output u.steps u.is_over c.args.self.now c.if-self.false c.self.view_is
    (stretch_wants c.args.bound u.live new u.input u.output u.output u.steps l t t f w w s c.go_on-stretch.ensures.walks short within c.in-Wants.is less)
