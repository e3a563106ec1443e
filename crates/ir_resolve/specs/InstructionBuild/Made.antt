-- Says how the code reads: what an instruction of an arena stands for: an operation, and the value that it defines,
-- where it defines one.
use Rattle.std.specs.Prelude.{◌≡◌, ℕ, Bool, cond, List, [], option_to_list, Option, Some, None, Box}
use Rattle.std.specs.Global.{Global}
use Rattle.std.specs.Option.{option_map}
use Rattle.ir_phrases.specs.declared.constants.value.TypedValue.{TypedValue}
use Rattle.ir_phrases.specs.Constants.Tree.{TypedValueTree}
use Rattle.ir_phrases.specs.Constants.View.{typed_value_view}
use Rattle.ir_phrases.specs.Instructions.Tree.{OperationTree, Store, Call, EndingTree}
use Rattle.type_table.specs.Types.{structs}
use Rattle.module_arena.specs.declared.instruction.Inst.{Inst}
use Rattle.module_arena.specs.Lists.{Lists}
use Rattle.module_arena.specs.Mentions.{result_of}
use Rattle.module_arena.specs.Module.{LocalName, Operation}
use Rattle.module_arena.specs.View.{value_name}
use Rattle.item_build.specs.Types.Holding.{entries}
use Rattle.item_build.specs.Buildable.Bodies.{CanOperation, CanEnding}
use Rattle.ir_resolve.specs.declared.instruction_build.locals.Locals.{Locals}
use Rattle.ir_resolve.specs.InstructionBuild.Meant.{IsInst}
use Rattle.ir_resolve.specs.InstructionBuild.Parts.{value_names, block_names}

-- the arena can take the operation that is written
abbrev pub TakesOperation : Lists → Locals → OperationTree → Type 0
TakesOperation a locals written = CanOperation (structs a.table) (entries a) (value_names locals) (block_names locals) written

-- the arena can take the end that is written
abbrev pub TakesEnding : Lists → Locals → EndingTree → Type 0
TakesEnding a locals written = CanEnding (structs a.table) (entries a) (value_names locals) (block_names locals) written

-- the count of an alloca
abbrev pub count_in : Option (Box TypedValue Global) → Option TypedValueTree
count_in count = option_map (λ b. typed_value_view b.value) count

-- the instruction does this, and defines that value
pub record Makes (values blocks : List LocalName) (a : Lists) (result : Option ℕ) (i : Inst) (operation : Operation) : Type 0 where
  pub is : IsInst values blocks a i (record { result = option_map (value_name [] [] values []) result; operation = operation })
  pub gives : result_of i ≡ option_to_list result

-- the value that an operation defines: the next one, but none for a store, nor for a call with no result
abbrev pub defined_by : Bool → ℕ → OperationTree → Option ℕ
defined_by has next (Store flags value address alignment) = None
defined_by has next (Call call) = cond has (Some next) None
defined_by has next operation = Some next
