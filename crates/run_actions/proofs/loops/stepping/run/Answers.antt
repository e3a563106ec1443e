use Rattle.std.proofs.Common.{◌≡◌, ℕ, zero, suc, ◌-◌, ◌<◌, ◌≤◌, Result, Ok, Err, Option, Some, None, sym, subst, arith}
use Rattle.run_rules.specs.declared.end.End.{End}
use Rattle.run_rules.specs.declared.fault.RunFault.{RunFault}
use Rattle.run_rules.specs.declared.fault.RunFault.TheVariants.{ReadFault, WriteFault, Memory}
use Rattle.run_rules.specs.Clauses.{Outside, StepIs}
use Rattle.run_rules.specs.Machine.{Machine}
use Rattle.run_rules.specs.RunClauses.{RunAnswers, RunEnds, RunFails}
use Rattle.run_rules.specs.Laws.Laws.{IsWithin}
use Rattle.run_rules.proofs.OnLaws.RunsInSteps.{steps_make_up_a_run}
use Rattle.run_actions.specs.Loops.Halts.{Finishes}
use Rattle.run_actions.specs.Loops.Stretches.{StretchEnds, Stretches, WentOn}
use Rattle.run_actions.proofs.loops.stepping.run.Goals as goal

finished : (bound n : ℕ) (r : Result End RunFault) (old mid new : Machine) (a b c : Outside) → IsWithin bound n old mid a b → bound ≤ mid.steps → Finishes r mid new b c → RunAnswers bound r old new a c
finished bound n (Ok end) old mid new a b c w l h = steps_make_up_a_run.halts bound n end old mid new a b c w l h
finished bound n (Err ReadFault) old mid new a b c w l h = absurd h
finished bound n (Err WriteFault) old mid new a b c w l h = steps_make_up_a_run.is_lost bound n old mid new a b c w l h
finished bound n (Err Memory) old mid new a b c w l h = steps_make_up_a_run.wants bound n old mid new a b c w l h

more : (bound n : ℕ) (old mid new : Machine) (a b c : Outside) (o : Option End) → IsWithin bound n old mid a b → mid.steps < bound → o ≡ None → StepIs o mid new b c → IsWithin bound (suc n) old new a c
more bound n old mid new a b c o w l e h = steps_make_up_a_run.more bound n old mid new a b c w l (subst (λ o. StepIs o mid new b c) e h)

ended : (bound n : ℕ) (end : End) (old mid new : Machine) (a b c : Outside) (o : Option End) → IsWithin bound n old mid a b → mid.steps < bound → o ≡ Some end → StepIs o mid new b c → RunEnds bound end old new a c
ended bound n end old mid new a b c o w l e h = steps_make_up_a_run.ends bound n end old mid new a b c w l (subst (λ o. StepIs o mid new b c) e h)

-- ---- steps that are made in one go

-- as many steps as were made, and more
record IsFurther (bound least : ℕ) (old new : Machine) (before now : Outside) : Type 0 where
  count : ℕ
  more : least ≤ count
  within : IsWithin bound count old new before now

further : (bound n k : ℕ) (old mid new : Machine) (a b : Outside) → IsWithin bound n old mid a b → WentOn bound k mid new → IsFurther bound n old new a b
further bound n zero old mid new a b w h = record { count = n; more = omega arith; within = subst (λ (m : Machine). IsWithin bound n old m a b) (sym h) w }
further bound n (suc k) old mid new a b w h =
    let before = further bound n k old mid h.0 a b w h.1 in
    let le = before.more in
    record {
      count = suc before.count;
      more = omega (arith, le);
      within = steps_make_up_a_run.more bound before.count old h.0 new a b b before.within h.2 (h.3 b);
    }

module _ (bound n : ℕ) (old now new : Machine) (a b c : Outside) (w : IsWithin bound n old now a b) where
  -- the run goes on
  gone_on : (o : Option End) → o ≡ None → Stretches bound (Ok o) now new b c → IsFurther bound n old new a c
  gone_on o e s =
      let f = further bound n s.count old now s.mid a b w s.went in
      let same = subst (λ (x : Option End). StretchEnds bound (Ok x) s.mid new b c) e s.ends in
      subst (λ (m : Machine). IsFurther bound n old m a c) (sym same.0) (subst (λ (x : Outside). IsFurther bound n old s.mid a x) (sym same.1) f)

  -- or it is over
  stretch_ended : (o : Option End) (end : End) → o ≡ Some end → Stretches bound (Ok o) now new b c → RunEnds bound end old new a c
  stretch_ended o end e s =
      let f = further bound n s.count old now s.mid a b w s.went in
      let ends = subst (λ (x : Option End). StretchEnds bound (Ok x) s.mid new b c) e s.ends in
      steps_make_up_a_run.ends bound f.count end old s.mid new a b c f.within ends.0 ends.1

  -- or a fault is met
  stretch_fails : (fault : RunFault) → Stretches bound (Err fault) now new b c → RunFails bound fault old new a c
  stretch_fails fault s =
      let f = further bound n s.count old now s.mid a b w s.went in
      steps_make_up_a_run.fails bound f.count fault old s.mid new a b c f.within s.ends.0 s.ends.1

-- fewer steps are left then, if one more is made or none is left
less : (bound n m : ℕ) (old now new : Machine) (a b c : Outside) → IsWithin bound n old now a b → IsWithin bound m old new a c → n < m → now.steps < bound → bound - new.steps < bound - now.steps
less bound n m old now new a b c w v more l = omega (arith, w.reached.made, v.reached.made, more, l)

none_left : (bound : ℕ) (now new : Machine) → now.steps < bound → bound ≤ new.steps → bound - new.steps < bound - now.steps
none_left bound now new l h = omega (arith, l, h)

pub running-init : goal.running-init
running-init g c = (0, steps_make_up_a_run.none _ _ _)

-- where none is left behind a stretch
pub running-smaller : goal.running-smaller
running-smaller g c =
    none_left c.args.bound (g.M.Stepping.machine c.running.machine) (g.M.Stepping.machine c.go_on.new.self) (subst (λ k. k < c.args.bound) c.steps.ensures c.running-test.true)
    (subst (λ k. c.args.bound ≤ k) c.steps-in-running.ensures (omega (arith, c.if-steps-bound.false)))

pub running-preserved : goal.running-preserved
running-preserved g c =
    let inv = c.running.invariant in
    let f = gone_on c.args.bound inv.0 _ _ _ _ _ _ inv.1 c.in-Ok-None.field-0 c.in-Ok-None.field-0-is c.in-Ok-None.ensures in
    (f.count, f.within)

-- where the step behind it goes on
pub running-smaller-in-Ok-None-step : goal.running-smaller-in-Ok-None-step
running-smaller-in-Ok-None-step g c =
    let inv = c.running.invariant in
    let l = subst (λ k. k < c.args.bound) c.steps.ensures c.running-test.true in
    let f = gone_on c.args.bound inv.0 _ _ _ _ _ _ inv.1 c.in-Ok-None.field-0 c.in-Ok-None.field-0-is c.in-Ok-None.ensures in
    let k = subst (λ k. k < c.args.bound) c.steps-in-running.ensures c.if-steps-bound.true in
    let le = f.more in
    let further : inv.0 < suc f.count = omega (arith, le) in
    less c.args.bound inv.0 (suc f.count) _ _ _ _ _ _ inv.1 (more c.args.bound f.count _ _ _ _ _ _ c.in-Ok-None-step.field-0 f.within k c.in-Ok-None-step.field-0-is c.in-Ok-None-step.ensures) further l

pub running-preserved-in-Ok-None-step : goal.running-preserved-in-Ok-None-step
running-preserved-in-Ok-None-step g c =
    let inv = c.running.invariant in
    let f = gone_on c.args.bound inv.0 _ _ _ _ _ _ inv.1 c.in-Ok-None.field-0 c.in-Ok-None.field-0-is c.in-Ok-None.ensures in
    let k = subst (λ k. k < c.args.bound) c.steps-in-running.ensures c.if-steps-bound.true in
    (suc f.count, more c.args.bound f.count _ _ _ _ _ _ c.in-Ok-None-step.field-0 f.within k c.in-Ok-None-step.field-0-is c.in-Ok-None-step.ensures)

-- ---- an end, and a fault

pub returns-in-Ok-Some : goal.returns-in-Ok-Some
returns-in-Ok-Some g c =
    let inv = c.running.invariant in
    stretch_ended c.args.bound inv.0 _ _ _ _ _ _ inv.1 c.in-Ok-Some.field-0 c.in-Ok-Some.end c.in-Ok-Some.field-0-is c.in-Ok-Some.ensures

pub returns-in-Err : goal.returns-in-Err
returns-in-Err g c =
    let inv = c.running.invariant in
    stretch_fails c.args.bound inv.0 _ _ _ _ _ _ inv.1 c.in-Err.fault c.in-Err.ensures

pub returns-in-Ok-Some-step : goal.returns-in-Ok-Some-step
returns-in-Ok-Some-step g c =
    let inv = c.running.invariant in
    let f = gone_on c.args.bound inv.0 _ _ _ _ _ _ inv.1 c.in-Ok-None.field-0 c.in-Ok-None.field-0-is c.in-Ok-None.ensures in
    let k = subst (λ k. k < c.args.bound) c.steps-in-running.ensures c.if-steps-bound.true in
    ended c.args.bound f.count c.in-Ok-Some-step.end _ _ _ _ _ _ c.in-Ok-Some-step.field-0 f.within k c.in-Ok-Some-step.field-0-is c.in-Ok-Some-step.ensures

pub returns-in-Err-step : goal.returns-in-Err-step
returns-in-Err-step g c =
    let inv = c.running.invariant in
    let f = gone_on c.args.bound inv.0 _ _ _ _ _ _ inv.1 c.in-Ok-None.field-0 c.in-Ok-None.field-0-is c.in-Ok-None.ensures in
    let k = subst (λ k. k < c.args.bound) c.steps-in-running.ensures c.if-steps-bound.true in
    steps_make_up_a_run.fails c.args.bound f.count c.in-Err-step.fault _ _ _ _ _ _ f.within k c.in-Err-step.ensures

pub returns : goal.returns
returns g c =
    let inv = c.running.invariant in
    finished c.args.bound inv.0 c.halt.result _ _ _ _ _ _ inv.1 (subst (λ k. c.args.bound ≤ k) c.steps.ensures (omega (arith, c.running-test.false))) c.halt.ensures
