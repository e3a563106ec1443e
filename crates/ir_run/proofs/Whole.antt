-- What a step does to the state of a run, from what it does to what instructions see.
use Rattle.std.proofs.Common.{◌≡◌, ℕ, ◌+◌, true, List, [], ◌∷◌, ◌++◌, Option, Some, refl, ap, ◌∙◌}
use Rattle.run_rules.specs.Action.{Action}
use Rattle.run_rules.specs.Calls.{Callee}
use Rattle.run_rules.specs.Clauses.{told, output_of}
use Rattle.run_rules.specs.declared.end.End.{End}
use Rattle.run_rules.specs.declared.end.End.TheVariants.{StepsUsed}
use Rattle.run_rules.specs.State.{Core, State, Next, Goes, Gets, Stops}
use Rattle.run_rules.specs.Step.{Step, GoesOn, IsOver, carried, counted, entered, got, next_of, step, then_on, took, used_up}
use Rattle.run_rules.specs.Wants.{asks, asks_in, gets}
use Rattle.run_rules.specs.Traffic.Input.{IsNext}
use Rattle.run_actions.specs.Passing.Traffic.{number_got}

module _ (look : ℕ → ℕ → ℕ → Action) (table : ℕ → Callee) (s : State) (mid : Core) (enters : entered table s ≡ GoesOn (record s { core = mid })) where
  -- behind what is due
  behind : (n : Next) → next_of look table mid ≡ n → step look table s ≡ carried (counted (record s { core = mid })) n
  behind n e = ap (then_on (λ t. carried (counted t) (next_of look table t.core))) enters ∙ ap (carried (counted (record s { core = mid }))) e

  -- the instruction goes on
  pub goes_on : (new : Core) (written : List ℕ) → next_of look table mid ≡ Goes new written
      → step look table s ≡ GoesOn (record { core = new; input = s.input; output = s.output ++ written; steps = s.steps + 1 })
  goes_on new written e = behind (Goes new written) e

  -- it gets a byte, or there is none
  took_next : (to : ℕ) (c : Core) (byte : Option ℕ) (input others : List ℕ) → s.input ≡ input → IsNext input byte others
      → took (counted (record s { core = mid })) to c input ≡ GoesOn (record { core = got to (number_got byte) c; input = others; output = s.output; steps = s.steps + 1 })
  took_next to c byte (b ∷ bs) others e n = rw (n.0, n.1) refl
  took_next to c byte [] others e n = rw (n.0, n.1, e) refl

  pub takes : (to : ℕ) (c : Core) (byte : Option ℕ) (others : List ℕ) → next_of look table mid ≡ Gets to c → IsNext s.input byte others
      → step look table s ≡ GoesOn (record { core = got to (number_got byte) c; input = others; output = s.output; steps = s.steps + 1 })
  takes to c byte others e n = behind (Gets to c) e ∙ took_next to c byte s.input others refl n

  -- whatever it gets, it writes nothing
  took_silent : (t : State) (to : ℕ) (c : Core) (input : List ℕ) → output_of (took t to c input) ≡ t.output
  took_silent t to c [] = refl
  took_silent t to c (b ∷ bs) = refl

  pub writes_none : (to : ℕ) (c : Core) → next_of look table mid ≡ Gets to c → output_of (step look table s) ≡ s.output
  writes_none to c e = ap output_of (behind (Gets to c) e) ∙ took_silent (counted (record s { core = mid })) to c s.input

  -- it ends the run
  pub stops : (end : End) → next_of look table mid ≡ Stops end → told (step look table s) ≡ Some (end, s.output, s.steps + 1)
  stops end e = ap told (behind (Stops end) e)

  -- it asks for a byte
  pub asks_for : (to : ℕ) (c : Core) → next_of look table mid ≡ Gets to c → asks look table s ≡ true
  asks_for to c e = ap (asks_in look table) enters ∙ ap gets e

  -- no step is left
  pub halts : told (used_up table s) ≡ Some (StepsUsed, s.output, s.steps)
  halts = ap (λ r. told (then_on (IsOver StepsUsed) r)) enters

-- the run is over on entering what is due: so is the step, and so is the halt
over_so : (rest : State → Step) (r : Step) (end : End) (o : List ℕ) (n : ℕ) → told r ≡ Some (end, o, n) → told (then_on rest r) ≡ Some (end, o, n)
over_so rest (GoesOn s) end o n e = cc
over_so rest (IsOver other s) end o n e = e

pub over_step : (look : ℕ → ℕ → ℕ → Action) (table : ℕ → Callee) (s : State) (end : End) (o : List ℕ) (n : ℕ) → told (entered table s) ≡ Some (end, o, n) → told (step look table s) ≡ Some (end, o, n)
over_step look table s end o n e = over_so (λ t. carried (counted t) (next_of look table t.core)) (entered table s) end o n e

pub over_halt : (table : ℕ → Callee) (s : State) (end : End) (o : List ℕ) (n : ℕ) → told (entered table s) ≡ Some (end, o, n) → told (used_up table s) ≡ Some (end, o, n)
over_halt table s end o n e = over_so (IsOver StepsUsed) (entered table s) end o n e
