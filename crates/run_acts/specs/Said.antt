-- For `call_address`, `return_value`, `call_due`, `call_or_return`, `DueCalls::is_empty` and `Stop::end`: what their answers mean in the words of a run.
use Rattle.std.specs.Prelude.{◌≡◌, ℕ, true, false, Bool, List, [], ◌∷◌}
use Rattle.ir_eval.specs.declared.value.Pointer.{Pointer}
use Rattle.ir_eval.specs.declared.value.Scalar.{Scalar}
use Rattle.ir_memory.specs.Memory.{Blocks}
use Rattle.module_arena.specs.View.{module_of}
use Rattle.run_names.specs.Told.{alone}
use Rattle.run_rules.specs.declared.end.End.{End}
use Rattle.run_rules.specs.declared.end.End.TheVariants as ends
use Rattle.run_rules.specs.Calls.{begun, called_at, entered, returned}
use Rattle.run_rules.specs.Look.{table}
use Rattle.run_rules.specs.State as rules
use Rattle.run_rules.specs.State.{Frame, Due, Core}
use Rattle.run_actions.specs.Stack.UnderWay.{UnderWay, newest, older}
use Rattle.run_actions.specs.Carried.{core_of}
use Rattle.run_decode.specs.declared.flat.action.CallParts.{CallParts}
use Rattle.run_decode.specs.Flat.Flat.{signature_of}
use Rattle.run_decode.specs.Body.Bodies.{Decoded}
use Rattle.run_acts.specs.Program.Loaded.{IsReady, Loaded}
use Rattle.run_acts.specs.declared.next.Next.{Next}
use Rattle.run_acts.specs.declared.next.Next.TheVariants.{Goes, Gets, Stops}
use Rattle.run_acts.specs.declared.next.Stop.{Stop}
use Rattle.run_acts.specs.declared.next.Stop.TheVariants as stops
use Rattle.run_acts.specs.Made.{shapes_of}

-- the end that is meant
abbrev pub end_of : Stop → End
end_of (stops.Exit status) = ends.Exit status
end_of (stops.Undefined kind) = ends.Undefined kind
end_of stops.StackLimit = ends.StackLimit
end_of stops.MemoryLimit = ends.MemoryLimit

-- what an instruction comes to, with what it leaves and what it writes
abbrev pub next_of : Next → Core → List ℕ → rules.Next
next_of Goes c output = rules.Goes c output
next_of (Gets to) c output = rules.Gets to c
next_of (Stops stop) c output = rules.Stops (end_of stop)

-- a function is entered, or too many would be under way
pub record IsEntered (function leaves : ℕ) (arguments : List Scalar) (to : ℕ) (next : Next) (old new : UnderWay) : Type 0 where
  pub enters : (due : List Due) (m : Blocks) → entered (begun function leaves arguments to) (core_of old.frames due m) ≡ next_of next (core_of new.frames due m) []
  pub no_byte : (place : ℕ) → ¬ (next ≡ Gets place)

-- whether nothing is due any more, by a test
abbrev pub IsLast : List Due → Bool → Type 0
IsLast [] is_last = is_last ≡ true
IsLast (d ∷ ds) is_last = is_last ≡ false

-- the newest function returns a value with these leaves
abbrev pub IsReturned : List Scalar → List Due → Next → UnderWay → UnderWay → Blocks → Blocks → Type 0
IsReturned value due next old new m n = returned value (newest old.frames) (core_of (older old.frames) due m) ≡ next_of next (core_of new.frames due n) []

-- the call of an address comes to what the definition says of it, whatever is due, by the body of the newest function
abbrev pub CallsAt : Loaded → UnderWay → UnderWay → Blocks → Blocks → (callee : Scalar) → CallParts → (arguments : List Scalar) → (to : ℕ) → Next → (written : List ℕ) → Type 0
CallsAt p old new m n callee parts arguments to next written =
    (body : Decoded) (due : List Due)
    → IsReady p (newest old.frames).function body
    → called_at (table (alone (module_of p.lists))) callee (signature_of body.pools p.lists parts) (shapes_of body.pools p.lists parts) arguments to (core_of old.frames due m)
    ≡ next_of next (core_of new.frames due n) written

-- the frame has these allocas
abbrev pub with_allocas : List Pointer → Frame → Frame
with_allocas ps f = record f { allocas = ps }
