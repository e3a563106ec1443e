-- For `operation_passes`, `types_pass` and `judge_last`, and how the code reads: the ids that an instruction may have, and the test of
-- calls, by the ids of an arena.
use Rattle.std.specs.Prelude.{ℕ, ◌<◌, Bool, true, ◌&&◌, List, [], ◌∷◌, All, length}
use Rattle.type_table.specs.Types.{Types, tree}
use Rattle.module_arena.specs.declared.instruction.Inst.{Inst}
use Rattle.module_arena.specs.declared.instruction.Operand.{Operand}
use Rattle.module_arena.specs.Known.{HasOperand, HasValue}
use Rattle.module_arena.specs.Lists.{Lists}
use Rattle.module_arena.specs.Mentions.{bare_values_of, operands_of, types_of}
use Rattle.module_arena.specs.Same.{same_type}

-- arguments have the types of the parameters, as far as there are both
abbrev pub are_alike : Types → List ℕ → List Operand → Bool
are_alike t [] arguments = true
are_alike t (parameter ∷ parameters) [] = true
are_alike t (parameter ∷ parameters) (argument ∷ arguments) = same_type (tree t parameter) (tree t argument.ty) && are_alike t parameters arguments

-- the types and constants that an instruction uses are of the arena, and its local values are of so many
pub record HasUses (a : Lists) (values : ℕ) (i : Inst) : Type 0 where
  pub operands_known : All (HasOperand (length a.table.types) (length a.constants) values) (operands_of i)
  pub values_known : All (HasValue (length a.constants) values) (bare_values_of i)
  pub types_known : All (λ ty. ty < length a.table.types) (types_of i)
