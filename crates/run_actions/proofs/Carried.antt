-- What is done to the newest frame carries an action out.
use Rattle.std.proofs.Common.{◌≡◌, ℕ, Bool, List, [], ◌∷◌, Result, Ok, Err, refl, sym, ap, ◌∙◌}
use Rattle.ir_tables.specs.declared.opcode.Opcode.{Opcode}
use Rattle.ir_tables.specs.declared.predicate.Predicate.{Predicate}
use Rattle.ir_tables.specs.declared.undefined_kind.UndefinedKind.{UndefinedKind}
use Rattle.ir_eval.specs.declared.value.Scalar.{Scalar}
use Rattle.ir_eval.specs.Operators.{binary_of}
use Rattle.ir_eval.specs.Compare.{compare_of}
use Rattle.ir_eval.specs.Cast.{cast_of}
use Rattle.ir_memory.specs.Memory.{Blocks}
use Rattle.run_rules.specs.Act.{act, computed, gives}
use Rattle.run_rules.specs.Action.{Action, Compute, Compare, Convert}
use Rattle.run_rules.specs.Calls.{Callee}
use Rattle.run_rules.specs.Frame.{with_value, with_result}
use Rattle.run_rules.specs.State.{Frame, Due, Core, Goes, goes, fails}
use Rattle.run_actions.specs.declared.stack.origin.Origin.{Origin}
use Rattle.run_actions.specs.Stack.Origins.{origin_of}
use Rattle.run_actions.specs.Stack.UnderWay.{UnderWay, newest, older, on_newest, changed, IsRunning}
use Rattle.run_actions.specs.Carried.{core_of, IsCarriedOut, IsUndefined}
use Rattle.run_actions.specs.Operands.{leaf_of}

-- ---- one change after another

runs_after : (change : Frame → Frame) (fs : List Frame) → IsRunning fs → IsRunning (on_newest change fs)
runs_after change [] h = h
runs_after change (f ∷ fs) h = h

-- a function is under way still
pub running_after : (change : Frame → Frame) (s : UnderWay) → IsRunning s.frames → IsRunning (changed change s).frames
running_after change s h = runs_after change s.frames h

both : (g h : Frame → Frame) (fs : List Frame) → on_newest g (on_newest h fs) ≡ on_newest (λ f. g (h f)) fs
both g h [] = refl
both g h (f ∷ fs) = refl

-- two changes are one
pub twice : (g h : Frame → Frame) (s : UnderWay) → changed g (changed h s) ≡ changed (λ f. g (h f)) s
twice g h s = ap (λ fs. record s { frames = fs }) (both g h s.frames)

stays : (to : ℕ) (value : List Scalar) (fs : List Frame) → (newest (on_newest (λ f. with_value f to value) fs)).position ≡ (newest fs).position
stays to value [] = refl
stays to value (f ∷ fs) = refl

-- a value that is set moves nothing on
pub position_after : (to : ℕ) (value : List Scalar) (s : UnderWay) → (newest (changed (λ f. with_value f to value) s).frames).position ≡ (newest s.frames).position
position_after to value s = stays to value s.frames

-- ---- what is carried out

goes_on : (change : Frame → Frame) (fs : List Frame) (due : List Due) (m : Blocks) → IsRunning fs → goes (change (newest fs)) (core_of (older fs) due m) ≡ Goes (core_of (on_newest change fs) due m) []
goes_on change [] due m h = absurd h
goes_on change (f ∷ fs) due m h = refl

-- an action that goes on with the newest frame changed
pub carried : (action : Action) (change : Frame → Frame) (old new : UnderWay) → IsRunning old.frames → new ≡ changed change old
    → ((table : ℕ → Callee) (c : Core) → act table action (newest old.frames) c ≡ goes (change (newest old.frames)) c) → IsCarriedOut action old new
carried action change old new running is says =
    record {
      goes = λ table due m. says table (core_of (older old.frames) due m) ∙ goes_on change old.frames due m running ∙ ap (λ (u : UnderWay). Goes (core_of u.frames due m) []) (sym is);
      width = ap (λ (u : UnderWay). u.widest) is;
    }

-- an action that is undefined
pub undefined : (action : Action) (kind : UndefinedKind) (s : UnderWay) → ((table : ℕ → Callee) (c : Core) → act table action (newest s.frames) c ≡ fails kind) → IsUndefined action kind s s
undefined action kind s says = record { fails = λ table due m. says table (core_of (older s.frames) due m); same = refl }

-- a binary instruction that has a result
pub computes : (to : ℕ) (opcode : Opcode) (flags width : ℕ) (left right : Origin) (old new : UnderWay) (leaf : Scalar) → IsRunning old.frames → new ≡ changed (λ f. with_result f to (leaf ∷ [])) old → Ok leaf ≡ binary_of opcode flags width (leaf_of old left) (leaf_of old right)
    → IsCarriedOut (Compute to opcode flags width (origin_of left) (origin_of right)) old new
computes to opcode flags width left right old new leaf running is value =
    carried (Compute to opcode flags width (origin_of left) (origin_of right)) (λ f. with_result f to (leaf ∷ [])) old new running is
    (λ table c. ap (λ (r : Result Scalar UndefinedKind). computed to r (newest old.frames) c) (sym value))

-- one that is undefined
pub computes_nothing : (to : ℕ) (opcode : Opcode) (flags width : ℕ) (left right : Origin) (s : UnderWay) (kind : UndefinedKind) → Err kind ≡ binary_of opcode flags width (leaf_of s left) (leaf_of s right)
    → IsUndefined (Compute to opcode flags width (origin_of left) (origin_of right)) kind s s
computes_nothing to opcode flags width left right s kind value =
    undefined (Compute to opcode flags width (origin_of left) (origin_of right)) kind s (λ table c. ap (λ (r : Result Scalar UndefinedKind). computed to r (newest s.frames) c) (sym value))

-- a comparison and a cast always have a result
pub compares : (to : ℕ) (predicate : Predicate) (samesign : Bool) (width : ℕ) (left right : Origin) (old new : UnderWay) (leaf : Scalar) → IsRunning old.frames → new ≡ changed (λ f. with_result f to (leaf ∷ [])) old
    → leaf ≡ compare_of predicate samesign width (leaf_of old left) (leaf_of old right) → IsCarriedOut (Compare to predicate samesign width (origin_of left) (origin_of right)) old new
compares to predicate samesign width left right old new leaf running is value =
    carried (Compare to predicate samesign width (origin_of left) (origin_of right)) (λ f. with_result f to (leaf ∷ [])) old new running is
    (λ table c. ap (λ (v : Scalar). gives to v (newest old.frames) c) (sym value))

pub converts : (to : ℕ) (opcode : Opcode) (flags from_width to_width : ℕ) (value : Origin) (old new : UnderWay) (leaf : Scalar) → IsRunning old.frames → new ≡ changed (λ f. with_result f to (leaf ∷ [])) old
    → leaf ≡ cast_of opcode flags from_width to_width (leaf_of old value) → IsCarriedOut (Convert to opcode flags from_width to_width (origin_of value)) old new
converts to opcode flags from_width to_width value old new leaf running is equal =
    carried (Convert to opcode flags from_width to_width (origin_of value)) (λ f. with_result f to (leaf ∷ [])) old new running is
    (λ table c. ap (λ (v : Scalar). gives to v (newest old.frames) c) (sym equal))
