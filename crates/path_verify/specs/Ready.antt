-- Says how the code reads: the blocks of a function in the module, and what is known of a function before its blocks are judged.
use Rattle.std.specs.Prelude.{◌≡◌, ℕ, Bool, ◌&&◌, List, All, length, map}
use Rattle.module_arena.specs.Same.{IsApart}
use Rattle.module_arena.specs.declared.entry.Block as the_block
use Rattle.module_arena.specs.declared.entry.Function as the_function
use Rattle.module_arena.specs.declared.instruction.Ending as the_ending
use Rattle.module_arena.specs.declared.instruction.Inst as the_inst
use Rattle.module_arena.specs.declared.instruction.Operand.{Operand}
use Rattle.module_arena.specs.Changes.{function_in}
use Rattle.module_arena.specs.Known.{HasOperand, KnowsFunction, KnowsInst}
use Rattle.module_arena.specs.Lists.{Lists, function_blocks, value_names}
use Rattle.module_arena.specs.Mentions.{end_operands_of}
use Rattle.module_arena.specs.Module as modules
use Rattle.module_arena.specs.View.{block_view, constants_of}
use Rattle.type_table.specs.Types.{Types, trees}
use Rattle.path_rows.specs.Numbers.{graph_of, names_of}
use Rattle.path_rows.specs.Reflects.{Reflects}
use Rattle.path_rows.specs.Table.{PassedRows}
use Rattle.instruction_verify.specs.declared.last.local_type.LocalType.{LocalType}
use Rattle.instruction_verify.specs.Last.ValuesById.{AreLocalTypes, AreTypes, has_own_type}
use Rattle.instruction_verify.specs.Uses.Uses.{AreRows, blocks_named, flow_in}
use Rattle.instruction_verify.specs.Uses.Classes.{AreClasses}
use Rattle.instruction_verify.specs.Uses.Given.{is_given}

-- a block of the function, in the module
abbrev pub block_in : Lists → the_function.Function → the_block.Block → modules.Block
block_in a f b = block_view (trees a.table) (constants_of a) (names_of f) (blocks_named f) b

-- the blocks of the function, in the module
abbrev pub blocks_in : Lists → the_function.Function → List modules.Block
blocks_in a f = map (block_in a f) (function_blocks f)

-- what an instruction mentions is of the arena and the function
abbrev pub KnowsInstruction : Lists → the_function.Function → the_inst.Inst → Type 0
KnowsInstruction a f i = KnowsInst (length a.table.types) (length a.constants) (length (value_names f)) (length (function_blocks f)) i

-- so are the operands of an end
abbrev pub KnowsEnding : Lists → the_function.Function → the_ending.Ending → Type 0
KnowsEnding a f e = All (HasOperand (length a.table.types) (length a.constants) (length (value_names f))) (end_operands_of e)

-- there is a number for each constant, one for two exactly where they are the same
abbrev pub AreNumbers : Lists → List ℕ → Type 0
AreNumbers a classes = (length classes ≡ length a.constants) × AreClasses (constants_of a) classes

-- what is known of a function before its paths are: which type each of its values has
pub record IsTold (a : Lists) (f : the_function.Function) (types : List LocalType) : Type 0 where
  pub known : KnowsFunction (length a.table.types) (length a.constants) f
  pub reflects : Reflects (flow_in a f) (names_of f) (graph_of f)
  pub many_types : length types ≡ length (value_names f)
  pub types_known : AreTypes a.table types
  pub types_told : AreLocalTypes a (function_in a f) (names_of f) types

-- what is known of a function, by the names of its values: where each is defined, which type it has, and which constants are the same
pub record IsReady (a : Lists) (f : the_function.Function) (classes : List ℕ) (types : List LocalType) (rows : PassedRows) : Type 0 where
  pub known : KnowsFunction (length a.table.types) (length a.constants) f
  pub apart : IsApart (names_of f)
  pub reflects : Reflects (flow_in a f) (names_of f) rows.graph
  pub settled : AreRows f rows
  pub many_types : length types ≡ length (value_names f)
  pub types_known : AreTypes a.table types
  pub types_told : AreLocalTypes a (function_in a f) (names_of f) types
  pub many_classes : length classes ≡ length a.constants
  pub classes_told : AreClasses (constants_of a) classes

-- an operand is a constant or one of the first so many values, and has the type that is written before it
abbrev pub operand_passes : Types → List LocalType → ℕ → Operand → Bool
operand_passes t types given o = is_given given o.value && has_own_type t types o
