-- For `instructions_are_typed`: that the actions of instructions are typed.
use Rattle.std.specs.Prelude.{◌≡◌, ℕ, ◌+◌, true, false}
use Rattle.module_arena.specs.Module.{Instruction}
use Rattle.module_arena.specs.WellFormed.{are_good_structs}
use Rattle.run_rules.specs.Action.{Action}
use Rattle.run_rules.specs.Resolve.{is_phi, instruction_in}
use Rattle.run_rules.specs.Scope.{FunctionScope}
use Rattle.typed_runs.specs.Actions.{Typing, IsPlace, IsTypedAction}
use Rattle.typed_runs.specs.Action.Asked.{IsAsked}

-- the action of each instruction that is no phi, and behind which there is another or the end
abbrev pub InstructionsAreTyped : Type 0
InstructionsAreTyped =
    (t : Typing) (look : ℕ → ℕ → ℕ → Action) (function : ℕ) (sc : FunctionScope) → are_good_structs sc.names.structs ≡ true
    → (i : Instruction) → IsAsked t look function sc i → is_phi i.operation ≡ false
    → (block position : ℕ) → IsPlace t look function block (position + 1) → IsTypedAction t look function block position (instruction_in sc i)
