-- For all calls of the crate but `origin` and `act_on_unreachable`: when an action may be carried out.
use Rattle.std.specs.Prelude.{ℕ, ◌+◌, ◌^◌, ◌<◌, ◌≤◌, ⊤, length}
use Rattle.std.specs.List.{AllZip}
use Rattle.ir_eval.specs.Value.{IsInteger, IsWidth}
use Rattle.ir_memory.specs.Given.{IsLeaf}
use Rattle.module_arena.specs.Lists.{Lists}
use Rattle.run_rules.specs.Action as actions
use Rattle.run_rules.specs.Frame.{read}
use Rattle.run_rules.specs.Leaves.{Slot}
use Rattle.run_actions.specs.declared.stack.origin.Origin.{Origin}
use Rattle.run_actions.specs.Stack.UnderWay.{UnderWay, IsRunning, newest}
use Rattle.run_actions.specs.Operands as operands
use Rattle.run_actions.specs.Operands.{IsThere}
use Rattle.run_decode.specs.declared.flat.action.Action.{Action}
use Rattle.run_decode.specs.declared.flat.action.Term.{Term}
use Rattle.run_decode.specs.declared.flat.leaf.LeafAt.{LeafAt}
use Rattle.run_decode.specs.declared.flat.leaf.LeafAt.TheVariants.{Held, Known}
use Rattle.run_decode.specs.declared.flat.pools.Pools.{Pools}
use Rattle.run_decode.specs.Flat.Flat.{action_of, IsWithin, leaf_of}
use Rattle.run_decode.specs.Body.Bodies.{AreNarrow}
use Rattle.typed_runs.specs.Actions.{Typing, IsTypedAction}
use Rattle.typed_runs.specs.Kinds.{IsOf}

-- An action that stands at the newest frame may be carried out where so many blocks were made: in some typing the frame has leaves of its
-- function's kinds and the action is typed; all that it points to is there, no edge sets more leaves than may be set at once, and there is
-- room for a place behind this one
pub record MayAct (count : ℕ) (p : Pools) (action : Action) (s : UnderWay) : Type 0 where
  pub lists : Lists
  pub typing : Typing
  pub look : ℕ → ℕ → ℕ → actions.Action
  pub running : IsRunning s.frames
  pub leaves : AllZip (IsOf count) (typing.kinds (newest s.frames).function) (newest s.frames).leaves
  pub typed : IsTypedAction typing look (newest s.frames).function (newest s.frames).block (newest s.frames).position (action_of p lists action)
  pub fixed : typing.fixed ≤ count
  pub within : IsWithin p action
  pub narrow : AreNarrow p s.widest
  pub room : (newest s.frames).position + 1 < 2 ^ 32

-- the place where a leaf is had from is one of so many
abbrev pub HasPlace : ℕ → LeafAt → Type 0
HasPlace count (Held place) = place < count
HasPlace count (Known place) = ⊤

-- the index of a term has its place in the newest frame, and is an integer of its width
pub record IsIndexed (s : UnderWay) (p : Pools) (t : Term) : Type 0 where
  pub there : HasPlace (length (newest s.frames).leaves) t.index
  pub width : IsWidth t.width
  pub index : IsInteger t.width (read (newest s.frames) (leaf_of p t.index))

-- a leaf has its place in the newest frame, and is of the kind of its slot, where so many blocks were made
abbrev pub IsStorable : ℕ → UnderWay → Slot × Origin → Type 0
IsStorable count s x = IsLeaf x.0.leaf × IsThere s x.1 × IsOf count x.0.leaf (operands.leaf_of s x.1)
