-- Says how the code of `local_types` reads: the types that instructions give, in the order of the values.
use Rattle.std.specs.Prelude.{◌≡◌, ◌<◌, List, [], ◌++◌, All, flat_map, length, map, Option}
use Rattle.type_table.specs.Tree.{Tree}
use Rattle.type_table.specs.Types.{Types, structs, trees}
use Rattle.module_arena.specs.declared.entry.Block.{Block}
use Rattle.module_arena.specs.declared.instruction.Inst.{Inst}
use Rattle.module_arena.specs.Functions.{result_definitions}
use Rattle.module_arena.specs.Mentions.{operands_of, types_of}
use Rattle.module_arena.specs.View.{inst_view}
use Rattle.instruction_verify.specs.Last.ValuesById.{AreTypes, tree_of}
use Rattle.instruction_verify.specs.declared.last.local_type.LocalType.{LocalType}

-- the types of an instruction are of the table
pub record HasTypes (t : Types) (i : Inst) : Type 0 where
  pub operands_known : All (λ o. o.ty < length t.types) (operands_of i)
  pub types_known : All (λ ty. ty < length t.types) (types_of i)

-- those of each instruction of a block are
abbrev pub HasBlock : Types → Block → Type 0
HasBlock t b = All (HasTypes t) b.instructions

-- the type of the result of an instruction, where it has a result; what the result is called plays no part
abbrev pub given : Types → Inst → List (Option Tree)
given t i = map (λ d. d.1) (result_definitions (structs t) (inst_view (trees t) [] [] [] i))

-- those of a block
abbrev pub given_in : Types → Block → List (Option Tree)
given_in t b = flat_map (given t) b.instructions

-- a list has more types behind what it had
pub record Grows (t : Types) (before after : List LocalType) (more : List (Option Tree)) : Type 0 where
  pub known : AreTypes t before → AreTypes t after
  pub told : map (tree_of t) after ≡ map (tree_of t) before ++ more
