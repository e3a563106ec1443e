-- What a run has put out stands in front of all that it puts out in the end.
use Rattle.std.proofs.Common.{◌≡◌, ℕ, zero, suc, ◌<◌, ◌≤◌, List, [], ◌∷◌, refl, sym, subst, arith}
use Rattle.std.proofs.lemmas.List.{append-nil}
use Rattle.run_rules.specs.Action.{Action}
use Rattle.run_rules.specs.Calls.{Callee}
use Rattle.run_rules.specs.Clauses.{IsFront, output_of}
use Rattle.run_rules.specs.Due.{called_due}
use Rattle.run_rules.specs.State.{Frame, Due, Core, State, Next, Goes, Gets, Stops}
use Rattle.run_rules.specs.declared.end.End.TheVariants.{StepsUsed}
use Rattle.run_rules.specs.Step.{Step, GoesOn, IsOver, carried, took, then_on, called_while_idle, entered, counted, next_of, step, used_up, advanced, run}
use Rattle.run_rules.proofs.OnLaws.BeforeReads.{front_of_front}

pub no_front : (xs : List ℕ) → IsFront xs xs
no_front xs = ([], sym (append-nil xs))

took_fronts : (s : State) (to : ℕ) (c : Core) (input : List ℕ) → IsFront s.output (output_of (took s to c input))
took_fronts s to c [] = no_front s.output
took_fronts s to c (byte ∷ input) = no_front s.output

carried_fronts : (s : State) (n : Next) → IsFront s.output (output_of (carried s n))
carried_fronts s (Goes c written) = (written, refl)
carried_fronts s (Gets to c) = took_fronts s to c s.input
carried_fronts s (Stops end) = no_front s.output

then_fronts : (s : State) (x : Step) (f : State → Step) → IsFront s.output (output_of x) → ((t : State) → IsFront t.output (output_of (f t))) → IsFront s.output (output_of (then_on f x))
then_fronts s (GoesOn t) f g h = front_of_front s.output t.output (output_of (f t)) g (h t)
then_fronts s (IsOver end t) f g h = g

idle_fronts : (table : ℕ → Callee) (due : List Due) (frames : List Frame) (s : State) → IsFront s.output (output_of (called_while_idle table due frames s))
idle_fronts table [] frames s = no_front s.output
idle_fronts table (d ∷ ds) (f ∷ fs) s = no_front s.output
idle_fronts table (d ∷ ds) [] s =
    then_fronts s (carried s (called_due table d (record s.core { due = ds }))) (λ t. called_while_idle table ds t.core.frames t)
    (carried_fronts s (called_due table d (record s.core { due = ds }))) (λ t. idle_fronts table ds t.core.frames t)

entered_fronts : (table : ℕ → Callee) (s : State) → IsFront s.output (output_of (entered table s))
entered_fronts table s = idle_fronts table s.core.due s.core.frames s

step_fronts : (look : ℕ → ℕ → ℕ → Action) (table : ℕ → Callee) (s : State) → IsFront s.output (output_of (step look table s))
step_fronts look table s =
    then_fronts s (entered table s) (λ t. carried (counted t) (next_of look table t.core)) (entered_fronts table s)
    (λ t. carried_fronts (counted t) (next_of look table t.core))

advanced_fronts : (look : ℕ → ℕ → ℕ → Action) (table : ℕ → Callee) (n : ℕ) (s : State) → IsFront s.output (output_of (advanced look table n s))
unfolding advanced
advanced_fronts look table zero s = no_front s.output
advanced_fronts look table (suc n) s = then_fronts s (step look table s) (advanced look table n) (step_fronts look table s) (λ t. advanced_fronts look table n t)

used_up_fronts : (table : ℕ → Callee) (s : State) → IsFront s.output (output_of (used_up table s))
used_up_fronts table s = go (entered table s) (entered_fronts table s)
  where
    go : (x : Step) → IsFront s.output (output_of x) → IsFront s.output (output_of (then_on (IsOver StepsUsed) x))
    go (GoesOn t) g = g
    go (IsOver end t) g = g

run_fronts : (look : ℕ → ℕ → ℕ → Action) (table : ℕ → Callee) (n : ℕ) (s : State) → IsFront s.output (output_of (run look table n s))
run_fronts look table n s = then_fronts s (advanced look table n s) (used_up table) (advanced_fronts look table n s) (λ t. used_up_fronts table t)

pub same_state : (a b : State) → GoesOn a ≡ GoesOn b → a ≡ b
same_state a b e = cc

-- what stands at a state on the way
pub reached_output : (look : ℕ → ℕ → ℕ → Action) (table : ℕ → Callee) (n m : ℕ) (s t : State) → n ≤ m → advanced look table n s ≡ GoesOn t → IsFront t.output (output_of (run look table m s))
unfolding advanced
reached_output look table zero m s t l h = subst (λ (u : State). IsFront u.output (output_of (run look table m s))) (same_state s t h) (run_fronts look table m s)
reached_output look table (suc n) zero s t l h = let none : ⊥ = omega (arith, l) in absurd none
reached_output look table (suc n) (suc m) s t l h = go (step look table s) h (λ v i. reached_output look table n m v t (omega (arith, l)) i)
  where
    go : (x : Step) → then_on (advanced look table n) x ≡ GoesOn t → ((v : State) → advanced look table n v ≡ GoesOn t → IsFront t.output (output_of (run look table m v)))
        → IsFront t.output (output_of (then_on (used_up table) (then_on (advanced look table m) x)))
    go (GoesOn v) i more = more v i
    go (IsOver end v) i more = cc

-- and what the next step puts out
pub next_output : (look : ℕ → ℕ → ℕ → Action) (table : ℕ → Callee) (n m : ℕ) (s t : State) → n < m → advanced look table n s ≡ GoesOn t → IsFront (output_of (step look table t)) (output_of (run look table m s))
unfolding advanced
next_output look table n zero s t l h = let none : ⊥ = omega (arith, l) in absurd none
next_output look table zero (suc m) s t l h =
    subst (λ (u : State). IsFront (output_of (step look table u)) (output_of (run look table (suc m) s))) (same_state s t h) (go (step look table s))
  where
    go : (x : Step) → IsFront (output_of x) (output_of (then_on (used_up table) (then_on (advanced look table m) x)))
    go (GoesOn v) = run_fronts look table m v
    go (IsOver end v) = no_front v.output
next_output look table (suc n) (suc m) s t l h = go (step look table s) h (λ v i. next_output look table n m v t (omega (arith, l)) i)
  where
    go : (x : Step) → then_on (advanced look table n) x ≡ GoesOn t → ((v : State) → advanced look table n v ≡ GoesOn t → IsFront (output_of (step look table t)) (output_of (run look table m v)))
        → IsFront (output_of (step look table t)) (output_of (then_on (used_up table) (then_on (advanced look table m) x)))
    go (GoesOn v) i more = more v i
    go (IsOver end v) i more = cc
