-- For `ends_are_typed`: what is asked of the end of a block so that its action is typed.
use Rattle.std.specs.Prelude.{◌≡◌, ℕ, true}
use Rattle.std.specs.List.{AllByRecursion}
use Rattle.module_arena.specs.Module.{Ending, Function}
use Rattle.module_arena.specs.Operations.{ending_operands}
use Rattle.module_arena.specs.ValueRules.{ending_suits}
use Rattle.run_rules.specs.Action.{Action}
use Rattle.run_rules.specs.Scope.{FunctionScope}
use Rattle.typed_runs.specs.Actions.{Typing}
use Rattle.typed_runs.specs.Action.Asked.{IsGoodOperand}

-- values have their leaves, and the test of validity is passed
pub record IsAskedEnd (t : Typing) (look : ℕ → ℕ → ℕ → Action) (function : ℕ) (sc : FunctionScope) (f : Function) (e : Ending) : Type 0 where
  pub values : AllByRecursion (IsGoodOperand t look function sc) (ending_operands e)
  pub suits : ending_suits f e ≡ true
