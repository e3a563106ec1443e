-- For all calls of the crate but `only`, `jump` and `unreachable`: what is asked of the operands of an instruction and of the place of its result.
use Rattle.std.specs.Prelude.{ℕ, ◌+◌, ◌^◌, ◌<◌, ◌≤◌, length}
use Rattle.ir_eval.specs.declared.value.Scalar.{Scalar}
use Rattle.run_rules.specs.Frame.{read}
use Rattle.run_actions.specs.declared.stack.origin.Origin.{Origin}
use Rattle.run_actions.specs.Stack.Origins.{IsIn, origin_of}
use Rattle.run_actions.specs.Stack.UnderWay.{UnderWay, IsRunning, newest}

-- the leaf that an operand has in the newest frame
abbrev pub leaf_of : UnderWay → Origin → Scalar
leaf_of s o = read (newest s.frames) (origin_of o)

-- the newest frame has its place
abbrev pub IsThere : UnderWay → Origin → Type 0
IsThere s o = IsIn (length (newest s.frames).leaves) o

-- a function is under way, and there may be an instruction behind this one
pub record MayGoOn (s : UnderWay) : Type 0 where
  pub running : IsRunning s.frames
  pub room : (newest s.frames).position + 1 < 2 ^ 32

-- a leaf has its place in the newest frame
abbrev pub IsPlace : UnderWay → ℕ → Type 0
IsPlace s to = to < length (newest s.frames).leaves

-- where a value has so many leaves, they have their places there
abbrev pub HasPlaces : UnderWay → ℕ → ℕ → Type 0
HasPlaces s to count = 0 < count → to + count ≤ length (newest s.frames).leaves
