-- For `operation_passes`, and how the code of `judge_last` and `judge_ending_last` reads: what is asked before and behind the rules 12
-- to 16.
use Rattle.std.specs.Prelude.{ℕ, ◌&&◌, List, [], ◌∷◌}
use Rattle.module_arena.specs.Module.{Function, Instruction, Module, Operand}
use Rattle.module_arena.specs.Operations.{callee, operands}
use Rattle.module_arena.specs.Valid.{Demand, InstructionOf, ask}
use Rattle.module_arena.specs.ValueRules.{call_suits, callee_fits, have_types_written, operands_fit}

-- of local values among operands: rule 11
abbrev pub written_demands : Module → Function → (number : ℕ) → List Operand → List Demand
written_demands m f number os = ask (InstructionOf number f.name) 11 (have_types_written m.structs f os) ∷ []

-- of calls, and of constants among the operands and as callee: rules 17 and 18
abbrev pub call_demands : Module → Function → (number : ℕ) → Instruction → List Demand
call_demands m f number i =
    ask (InstructionOf number f.name) 17 (call_suits m.structs f i.result i.operation)
    ∷ ask (InstructionOf number f.name) 18 (operands_fit m.structs (operands i.operation) && callee_fits m.structs (callee i.operation))
    ∷ []
