-- For `ends_are_typed`: that the actions of the ends of blocks are typed.
use Rattle.std.specs.Prelude.{◌≡◌, ℕ}
use Rattle.std.specs.List.{AllByRecursion}
use Rattle.module_arena.specs.Module.{LocalName, Ending, Function}
use Rattle.run_rules.specs.Action.{Action}
use Rattle.run_rules.specs.Constant.{shape_of}
use Rattle.run_rules.specs.Resolve.{ending_in}
use Rattle.run_rules.specs.Scope.{FunctionScope}
use Rattle.run_rules.specs.Places.Places.{GoesOnFrom}
use Rattle.typed_runs.specs.Actions.{Typing, IsTypedAction}
use Rattle.typed_runs.specs.Kinds.{kinds_of}
use Rattle.typed_runs.specs.Action.Asked.{IsAsked}
use Rattle.typed_runs.specs.Edge.Asked.{IsAskedEnd}

-- the action of the end of each block whose ways lead to instructions
abbrev pub EndsAreTyped : Type 0
EndsAreTyped =
    (t : Typing) (look : ℕ → ℕ → ℕ → Action) (function : ℕ) (sc : FunctionScope) (f : Function)
    → t.gives function ≡ kinds_of (shape_of sc.names f.returns)
    → AllByRecursion (λ b. AllByRecursion (IsAsked t look function sc) b.instructions) sc.blocks
    → (from : LocalName) (e : Ending)
    → IsAskedEnd t look function sc f e
    → (block position : ℕ)
    → GoesOnFrom (look function) block position (ending_in sc from e) → IsTypedAction t look function block position (ending_in sc from e)
