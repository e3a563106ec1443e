-- For `build_instruction` and `build_ending`: the locals of a function, and the instruction that is built over them.
use Rattle.std.specs.Prelude.{ℕ, cond, List, [], ◌∷◌, map, Some, None}
use Rattle.ir_phrases.specs.Instructions.Tree.{InstructionTree}
use Rattle.module_arena.specs.declared.entry.LocalName as the_local_name
use Rattle.module_arena.specs.Module as m
use Rattle.module_arena.specs.View.{local_view, value_name}
use Rattle.name_rules.specs.Bodies.{operation_in}
use Rattle.name_rules.specs.Locals.{has_result}

-- what locals are called
abbrev pub called_of : List the_local_name.LocalName → List m.LocalName
called_of names = map local_view names

-- the result of an instruction, where it has one: the next value
abbrev pub result_of : ℕ → InstructionTree → List ℕ
result_of next written = cond (has_result written) (next ∷ []) []

-- an instruction, whose result, where it has one, is the next value
abbrev pub built : List m.LocalName → ℕ → InstructionTree → m.Instruction
built values next written = record {
  result = cond (has_result written) (Some (value_name [] [] values [] next)) None;
  operation = operation_in written.operation;
}
