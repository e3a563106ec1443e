-- For `call_address`, `return_value`, `call_due` and `call_or_return`: what is asked of calls and returns, and the bodies of the functions under way.
use Rattle.std.specs.Prelude.{◌≡◌, ℕ, ◌+◌, ◌<◌, ◌≤◌, ⊤, true, List, [], ◌∷◌, map, length}
use Rattle.std.specs.List.{All, AllZip, list_any}
use Rattle.ir_eval.specs.declared.value.Scalar.{Scalar}
use Rattle.module_arena.specs.declared.host.HostRow.{HostRow}
use Rattle.module_arena.specs.HostRows.{host_types}
use Rattle.module_arena.specs.Lists.{Lists}
use Rattle.type_table.specs.Shape.{Shape}
use Rattle.run_rules.specs.Action.{Signature}
use Rattle.run_rules.specs.Calls.{same_signature}
use Rattle.run_rules.specs.Look.{no_names}
use Rattle.run_rules.specs.Resolve.{signature_in}
use Rattle.run_rules.specs.State.{Frame}
use Rattle.run_names.specs.Shapes.Shapes.{shape_in}
use Rattle.run_actions.specs.Stack.UnderWay.{UnderWay, Fits, IsRunning, newest, older}
use Rattle.run_actions.specs.Operands.{HasPlaces}
use Rattle.run_names.specs.Host.Answers.{leaves_of}
use Rattle.run_names.specs.declared.host.answer.HostAnswer.{HostAnswer}
use Rattle.run_names.specs.declared.host.answer.HostAnswer.TheVariants.{Gives, Reads, Exits, Fails, MemoryLimit}
use Rattle.run_decode.specs.declared.flat.action.CallParts.{CallParts}
use Rattle.run_decode.specs.declared.flat.pools.Pools.{Pools}
use Rattle.run_decode.specs.Flat.Flat.{signature_of}
use Rattle.run_decode.specs.Flat.Spans.{spanned}
use Rattle.run_decode.specs.Signatures.Numbers.{IsNumbered}
use Rattle.run_decode.specs.Body.Bodies.{Decoded}
use Rattle.run_acts.specs.Program.Loaded.{IsReady, Loaded}
use Rattle.typed_runs.specs.Actions.{AreArguments}
use Rattle.typed_runs.specs.Kinds.{IsOf, kinds_of, kinds_of_all}

-- the shapes of the arguments of a call in a body with these pools
abbrev pub shapes_of : Pools → Lists → CallParts → List Shape
shapes_of p a c = map (shape_in a.table) (spanned p.types c.shapes)

-- What is asked of a call with these parts, where so many blocks were made. It stands in the body of the newest function, its arguments
-- are those of its function type, each leaf is of its kind, and its result has its place in the newest frame
pub record MayCall (p : Loaded) (s : UnderWay) (c : CallParts) (to : ℕ) (arguments : List Scalar) (count : ℕ) : Type 0 where
  pub running : IsRunning s.frames
  pub body : Decoded
  pub ready : IsReady p (newest s.frames).function body
  pub numbered : IsNumbered p.met p.lists body.pools c
  pub fit : AreArguments (signature_of body.pools p.lists c) (shapes_of body.pools p.lists c)
  pub leaves : AllZip (IsOf count) (kinds_of_all (shapes_of body.pools p.lists c)) arguments
  pub place : HasPlaces s to (length (kinds_of (shape_in p.lists.table c.returns)))

-- what is asked of a call of a host function by one of its types, with arguments of these shapes, where so many blocks were made: each leaf
-- is of its kind, and its result has its place in the newest frame
pub record MayCallHost (s : UnderWay) (row : HostRow) (shapes : List Shape) (arguments : List Scalar) (to count : ℕ) : Type 0 where
  pub running : IsRunning s.frames
  pub used : Signature
  pub typed : list_any (same_signature used) (map (signature_in no_names) (host_types row)) ≡ true
  pub fit : AreArguments used shapes
  pub leaves : AllZip (IsOf count) (kinds_of_all shapes) arguments
  pub place : HasPlaces s to (length (kinds_of used.returns))

-- what was answered has its place in the newest frame
abbrev pub TakesResult : UnderWay → ℕ → HostAnswer → Type 0
TakesResult s to (Gives result) = Fits (length (newest s.frames).leaves) to (leaves_of result)
TakesResult s to Reads = ⊤
TakesResult s to (Exits status) = ⊤
TakesResult s to (Fails kind) = ⊤
TakesResult s to MemoryLimit = ⊤

-- the body of a function is there, and no edge of it sets more leaves than so many
pub record IsFunctionReady (p : Loaded) (widest function : ℕ) : Type 0 where
  pub body : Decoded
  pub ready : IsReady p function body
  pub narrow : body.widest ≤ widest

-- so of each function under way
abbrev pub AreReady : Loaded → UnderWay → Type 0
AreReady p s = All (λ (f : Frame). IsFunctionReady p s.widest f.function) s.frames

-- and so it stays
abbrev pub StaysReady : Loaded → UnderWay → Loaded → UnderWay → Type 0
StaysReady p s q t = AreReady p s → AreReady q t

-- so many leaves have their places in the newest of these frames from that place on
abbrev pub FitInto : ℕ → ℕ → List Frame → Type 0
FitInto to count [] = ⊤
FitInto to count (f ∷ fs) = 0 < count → to + count ≤ length f.leaves

-- so many leaves, which the newest function gives, have their places in the frame below
abbrev pub FitBelow : List Frame → ℕ → Type 0
FitBelow frames count = FitInto (newest frames).to count (older frames)
