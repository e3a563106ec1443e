-- A function is entered, or too many would be under way.
use Rattle.std.proofs.Common.{◌≡◌, ℕ, ◌+◌, ◌≤◌, Bool, true, false, List, [], ◌∷◌, length, sym, ap, ◌∙◌, subst}
use Rattle.std.specs.Prelude.{if◌then◌else◌, max, nat_le}
use Rattle.ir_eval.specs.declared.value.Scalar.{Scalar}
use Rattle.ir_memory.specs.Memory.{Blocks}
use Rattle.run_rules.specs.declared.end.End.TheVariants as ends
use Rattle.run_rules.specs.Calls.{begun}
use Rattle.run_rules.specs.State as rules
use Rattle.run_rules.specs.State.{Due, on_top, weight, weight_limit, weights}
use Rattle.run_actions.specs.Stack.UnderWay.{UnderWay}
use Rattle.run_actions.proofs.OnStack.Weights.{test_is}
use Rattle.run_actions.specs.Carried.{core_of}
use Rattle.run_acts.specs.declared.next.Next.{Next}
use Rattle.run_acts.specs.declared.next.Next.TheVariants.{Goes, Gets, Stops}
use Rattle.run_acts.specs.declared.next.Stop.{Stop}
use Rattle.run_acts.specs.declared.next.Stop.TheVariants as stops
use Rattle.run_acts.specs.Said.{IsEntered}

-- an end is no byte
pub stop_gets_none : (stop : Stop) (place : ℕ) → Stops stop ≡ Gets place → ⊥
stop_gets_none stop place e = cc

pub going_gets_none : (place : ℕ) → Goes ≡ Gets place → ⊥
going_gets_none place e = cc

pub ended_gets_none : (next : Next) (stop : Stop) → next ≡ Stops stop → (place : ℕ) → next ≡ Gets place → ⊥
ended_gets_none next stop is place e = stop_gets_none stop place (sym is ∙ e)

module _ (function leaves to : ℕ) (arguments : List Scalar) where
  -- the answer by the test
  abbrev by_test : UnderWay → List Due → Blocks → Bool → rules.Next
  by_test s due m b = if b then rules.Goes (on_top (begun function leaves arguments to) (core_of s.frames due m)) [] else rules.Stops ends.StackLimit

  -- there is no room, by the test that is made before a body is asked for
  pub limit_passed : (s : UnderWay) (b : Bool) → length arguments ≤ leaves → b ≡ nat_le (weights s.frames + (1 + leaves)) weight_limit → b ≡ false → IsEntered function leaves arguments to (Stops stops.StackLimit) s s
  limit_passed s b few e f = record {
    enters = λ due m. ap (by_test s due m) (sym (test_is (weights s.frames) function leaves to arguments few) ∙ sym e ∙ f);
    no_byte = λ place e. stop_gets_none stops.StackLimit place e;
  }

  -- the frames by the test
  abbrev pub chosen : UnderWay → ℕ → ℕ → Bool → UnderWay
  chosen old widest number b = if b then record { frames = begun number leaves arguments to ∷ old.frames; widest = max old.widest widest } else old

  module _ (old new : UnderWay) (widest number : ℕ) (b : Bool) (numbered : number ≡ function) (made : new ≡ chosen old widest number b)
      (tested : b ≡ nat_le (weights old.frames + weight (begun number leaves arguments to)) weight_limit) where
    is : new ≡ chosen old widest function b
    is = subst (λ (n : ℕ). new ≡ chosen old widest n b) numbered made

    test : b ≡ nat_le (weights old.frames + weight (begun function leaves arguments to)) weight_limit
    test = subst (λ (n : ℕ). b ≡ nat_le (weights old.frames + weight (begun n leaves arguments to)) weight_limit) numbered tested

    pub begun_is : b ≡ true → new ≡ record { frames = begun function leaves arguments to ∷ old.frames; widest = max old.widest widest }
    begun_is t = is ∙ ap (chosen old widest function) t

    pub same_is : b ≡ false → new ≡ old
    same_is f = is ∙ ap (chosen old widest function) f

    pub frame_begins : b ≡ true → IsEntered function leaves arguments to Goes old new
    frame_begins t = record {
      enters = λ due m. ap (by_test old due m) (sym test ∙ t) ∙ ap (λ (u : UnderWay). rules.Goes (core_of u.frames due m) []) (sym (begun_is t));
      no_byte = λ place e. going_gets_none place e;
    }

    pub no_frame_begins : b ≡ false → IsEntered function leaves arguments to (Stops stops.StackLimit) old new
    no_frame_begins f = record {
      enters = λ due m. ap (by_test old due m) (sym test ∙ f);
      no_byte = λ place e. stop_gets_none stops.StackLimit place e;
    }
