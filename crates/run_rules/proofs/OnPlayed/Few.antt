-- A run makes no more steps than it may.
use Rattle.std.proofs.Common.{◌≡◌, ℕ, zero, suc, ◌+◌, ◌≤◌, List, [], ◌∷◌, Option, Some, None, refl, ap, subst, arith}
use Rattle.run_rules.specs.Action.{Action}
use Rattle.run_rules.specs.Calls.{Callee}
use Rattle.run_rules.specs.Clauses.{told}
use Rattle.run_rules.specs.Due.{called_due}
use Rattle.run_rules.specs.declared.end.End.{End}
use Rattle.run_rules.specs.declared.end.End.TheVariants.{StepsUsed}
use Rattle.run_rules.specs.State.{Frame, Due, Core, State, Next, Goes, Gets, Stops}
use Rattle.run_rules.specs.Step.{Step, GoesOn, IsOver, carried, took, then_on, called_while_idle, entered, counted, next_of, step, used_up, advanced, run}

-- the steps so far
abbrev made : Step → ℕ
made (GoesOn s) = s.steps
made (IsOver end s) = s.steps

took_few : (s : State) (to : ℕ) (c : Core) (input : List ℕ) → made (took s to c input) ≡ s.steps
took_few s to c [] = refl
took_few s to c (byte ∷ input) = refl

carried_few : (s : State) (n : Next) → made (carried s n) ≡ s.steps
carried_few s (Goes c written) = refl
carried_few s (Gets to c) = took_few s to c s.input
carried_few s (Stops end) = refl

then_few : (bound : ℕ) (x : Step) (f : State → Step) → made x ≤ bound → ((t : State) → t.steps ≤ bound → made (f t) ≤ bound) → made (then_on f x) ≤ bound
then_few bound (GoesOn t) f h go = go t h
then_few bound (IsOver end t) f h go = h

idle_few : (table : ℕ → Callee) (due : List Due) (frames : List Frame) (s : State) (bound : ℕ) → s.steps ≤ bound → made (called_while_idle table due frames s) ≤ bound
idle_few table [] frames s bound h = h
idle_few table (d ∷ ds) (f ∷ fs) s bound h = h
idle_few table (d ∷ ds) [] s bound h =
    then_few bound (carried s (called_due table d (record s.core { due = ds }))) (λ t. called_while_idle table ds t.core.frames t)
    (rw (carried_few s (called_due table d (record s.core { due = ds }))) h) (λ t k. idle_few table ds t.core.frames t bound k)

entered_few : (table : ℕ → Callee) (s : State) (bound : ℕ) → s.steps ≤ bound → made (entered table s) ≤ bound
entered_few table s bound h = idle_few table s.core.due s.core.frames s bound h

instruction_few : (look : ℕ → ℕ → ℕ → Action) (table : ℕ → Callee) (bound : ℕ) (x : Step) → made x ≤ bound → made (then_on (λ t. carried (counted t) (next_of look table t.core)) x) ≤ bound + 1
instruction_few look table bound (GoesOn t) h = rw (carried_few (counted t) (next_of look table t.core)) (omega (arith, h))
instruction_few look table bound (IsOver end t) h = omega (arith, h)

step_few : (look : ℕ → ℕ → ℕ → Action) (table : ℕ → Callee) (s : State) (bound : ℕ) → s.steps ≤ bound → made (step look table s) ≤ bound + 1
step_few look table s bound h = instruction_few look table bound (entered table s) (entered_few table s bound h)

advanced_few : (look : ℕ → ℕ → ℕ → Action) (table : ℕ → Callee) (n : ℕ) (s : State) (bound : ℕ) → s.steps ≤ bound → made (advanced look table n s) ≤ bound + n
unfolding advanced
advanced_few look table zero s bound h = omega (arith, h)
advanced_few look table (suc n) s bound h = go (step look table s) (step_few look table s bound h) (λ t k. advanced_few look table n t (bound + 1) k)
  where
    go : (x : Step) → made x ≤ bound + 1 → ((t : State) → t.steps ≤ bound + 1 → made (advanced look table n t) ≤ (bound + 1) + n) → made (then_on (advanced look table n) x) ≤ bound + suc n
    go (GoesOn t) k more = omega (arith, more t k)
    go (IsOver end t) k more = omega (arith, k)

used_few : (table : ℕ → Callee) (s : State) (bound : ℕ) → s.steps ≤ bound → made (used_up table s) ≤ bound
used_few table s bound h = then_few bound (entered table s) (IsOver StepsUsed) (entered_few table s bound h) (λ t k. k)

run_few : (look : ℕ → ℕ → ℕ → Action) (table : ℕ → Callee) (n : ℕ) (s : State) → made (run look table n s) ≤ s.steps + n
run_few look table n s = then_few (s.steps + n) (advanced look table n s) (used_up table) (advanced_few look table n s s.steps (omega arith)) (λ t k. used_few table t (s.steps + n) k)

-- the steps that are told
abbrev steps_told : Option (End × List ℕ × ℕ) → ℕ
steps_told None = 0
steps_told (Some x) = x.2

told_few : (x : Step) (end : End) (output : List ℕ) (k bound : ℕ) → told x ≡ Some (end, output, k) → made x ≤ bound → k ≤ bound
told_few (GoesOn s) end output k bound e h = absurd cc
told_few (IsOver other s) end output k bound e h = subst (λ (n : ℕ). n ≤ bound) (ap steps_told e) h

-- an end comes after no more steps than may be made
pub ends_in_time : (look : ℕ → ℕ → ℕ → Action) (table : ℕ → Callee) (n : ℕ) (s : State) (end : End) (output : List ℕ) (k : ℕ) → told (run look table n s) ≡ Some (end, output, k) → k ≤ s.steps + n
ends_in_time look table n s end output k e = told_few (run look table n s) end output k (s.steps + n) e (run_few look table n s)
