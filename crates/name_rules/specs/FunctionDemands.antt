-- For `resolve` and `check_definition`: what the parameters, instructions and blocks of a function ask for.
use Rattle.std.specs.Prelude.{ℕ, ◌==◌, true, false, List, [], ◌∷◌, ◌++◌, flat_map, fold, Option, Some, None}
use Rattle.ir_terminals.specs.declared.values.Integer.{Integer}
use Rattle.ir_terminals.specs.declared.values.Local.{Local}
use Rattle.ir_terminals.specs.declared.values.Local.TheVariants as locals
use Rattle.ir_terminals.specs.declared.values.PlacedName.{PlacedName}
use Rattle.ir_phrases.specs.Constants.Tree.{ValueTree, LocalValue, ConstantValue, TypedValueTree}
use Rattle.ir_phrases.specs.Instructions.Tree.{SignatureTree, IncomingTree, OperationTree, Binary, Compare, Cast, Select, Freeze, Phi, Load, Store, Alloca, GetElementPtr, Call, ExtractValue, InsertValue, InstructionTree, CaseTree, EndingTree, ReturnVoid, Return, Jump, Branch, Switch, Unreachable, BlockTree}
use Rattle.ir_syntax.specs.Tree.{ParameterTree}
use Rattle.type_table.specs.Tree.{Tree, ptr}
use Rattle.name_rules.specs.declared.fault.ResolveFault.TheVariants as faults
use Rattle.name_rules.specs.Spelled.{decimal}
use Rattle.name_rules.specs.Locals.{Locals, Announced, next_behind, announced, announced_result, announced_block, locals_from}
use Rattle.name_rules.specs.Written.{type_in}
use Rattle.name_rules.specs.Demand.{Demand, ask, is_new, is_local, is_index}
use Rattle.name_rules.specs.TypeDemands.{Known, type_demands, constant_demands}

-- what a function has called so far: the next number, and the names with their places
pub record Called : Type 0 where
  pub next : ℕ
  pub names : List PlacedName

-- before the first
abbrev pub none_called : Called
none_called = record { next = 0; names = [] }

-- the names so far, with one more where one is written
abbrev pub names_with : List PlacedName → Option Local → List PlacedName
names_with names (Some (locals.Named written)) = names ++ written ∷ []
names_with names (Some (locals.Numbered number place)) = names
names_with names None = names

-- one parameter, block or result more
abbrev pub called_with : Called → Announced → Called
called_with before a = record { next = next_behind before.next a.1; names = names_with before.names a.1 }

-- all of these more
abbrev pub called_after : Called → List Announced → Called
called_after before all = fold called_with before all

-- a written name is new, and a written number the next one
abbrev pub call_demands : Called → Option Local → List Demand
call_demands before (Some (locals.Named written)) = is_new before.names written
call_demands before (Some (locals.Numbered number place)) = ask (number == before.next) (faults.WrongNumber place before.next (decimal number)) ∷ []
call_demands before None = []

-- each is an index
abbrev pub index_demands : List Integer → List Demand
index_demands [] = []
index_demands (written ∷ more) = is_index written ∷ index_demands more

-- an alignment, where one is written
abbrev pub alignment_demands : Option Integer → List Demand
alignment_demands None = []
alignment_demands (Some written) = is_index written ∷ []

module _ (known : Known) (all : Locals) where
  -- what a value asks for where it stands at that type
  abbrev pub value_demands : Tree → ValueTree → List Demand
  value_demands t (LocalValue written) = is_local all false written ∷ []
  value_demands t (ConstantValue constant) = constant_demands known t constant

  -- a type, and a value that stands at it
  abbrev pub operand_demands : TypedValueTree → List Demand
  operand_demands written = type_demands known written.0 ++ value_demands (type_in written.0) written.1

  -- the local is a block
  abbrev pub block_demand : Local → Demand
  block_demand written = is_local all true written

  -- a value of a phi of that type, and its block
  abbrev pub incoming_demands : Tree → IncomingTree → List Demand
  incoming_demands t written = value_demands t written.0 ++ block_demand written.1 ∷ []

  -- the parameters that a call writes
  abbrev pub signature_demands : Option SignatureTree → List Demand
  signature_demands None = []
  signature_demands (Some written) = flat_map (type_demands known) written.0

  -- the count of an alloca, where one is written
  abbrev pub count_demands : Option TypedValueTree → List Demand
  count_demands None = []
  count_demands (Some written) = operand_demands written

  -- what an operation asks for, in the order of its tokens
  abbrev pub operation_demands : OperationTree → List Demand
  operation_demands (Binary opcode flags left right) = operand_demands left ++ value_demands (type_in left.0) right
  operation_demands (Compare flags predicate left right) = operand_demands left ++ value_demands (type_in left.0) right
  operation_demands (Cast opcode flags value to) = operand_demands value ++ type_demands known to
  operation_demands (Select condition first second) = operand_demands condition ++ (operand_demands first ++ operand_demands second)
  operation_demands (Freeze value) = operand_demands value
  operation_demands (Phi ty incoming) = type_demands known ty ++ flat_map (incoming_demands (type_in ty)) incoming
  operation_demands (Load flags ty address alignment) = type_demands known ty ++ (operand_demands address ++ alignment_demands alignment)
  operation_demands (Store flags value address alignment) = operand_demands value ++ (operand_demands address ++ alignment_demands alignment)
  operation_demands (Alloca ty count alignment) = type_demands known ty ++ (count_demands count ++ alignment_demands alignment)
  operation_demands (GetElementPtr flags source operands) = type_demands known source ++ flat_map operand_demands operands
  operation_demands (Call call) =
      type_demands known call.returns ++ (signature_demands call.signature ++ (value_demands ptr call.callee ++ flat_map operand_demands call.arguments))
  operation_demands (ExtractValue aggregate indices) = operand_demands aggregate ++ index_demands indices
  operation_demands (InsertValue aggregate part indices) = operand_demands aggregate ++ (operand_demands part ++ index_demands indices)

  -- behind what is called so far
  abbrev pub instruction_demands : Called → InstructionTree → List Demand
  instruction_demands before written = call_demands before written.result ++ operation_demands written.operation

  -- instructions, each behind what was called before it
  abbrev pub instructions_demands : Called → List InstructionTree → List Demand
  instructions_demands before [] = []
  instructions_demands before (written ∷ more) = instruction_demands before written ++ instructions_demands (called_after before (announced_result written)) more

  -- a case of a switch
  abbrev pub case_demands : CaseTree → List Demand
  case_demands ((ty, value), target) = type_demands known ty ++ (constant_demands known (type_in ty) value ++ block_demand target ∷ [])

  -- the end of a block
  abbrev pub ending_demands : EndingTree → List Demand
  ending_demands ReturnVoid = []
  ending_demands (Return value) = operand_demands value
  ending_demands (Jump target) = block_demand target ∷ []
  ending_demands (Branch condition then_to else_to) = operand_demands condition ++ block_demand then_to ∷ block_demand else_to ∷ []
  ending_demands (Switch value otherwise cases) = operand_demands value ++ block_demand otherwise ∷ flat_map case_demands cases
  ending_demands Unreachable = []

  -- a block: its label, its instructions and its end
  abbrev pub block_demands : Called → BlockTree → List Demand
  block_demands before written =
      call_demands before written.label
      ++ (instructions_demands (called_with before (true, written.label)) written.instructions ++ ending_demands written.ending)

  -- blocks, each behind what was called before it
  abbrev pub blocks_demands : Called → List BlockTree → List Demand
  blocks_demands before [] = []
  blocks_demands before (written ∷ more) = block_demands before written ++ blocks_demands (called_after before (announced_block written)) more

  -- parameters: of each its type, and what it is called
  abbrev pub parameters_demands : Called → List ParameterTree → List Demand
  parameters_demands before [] = []
  parameters_demands before (written ∷ more) =
      type_demands known written.0 ++ (call_demands before written.1 ++ parameters_demands (called_with before (false, written.1)) more)

-- what the parameters and the body of a definition ask for, in the order of the text
abbrev pub definition_demands : Known → List ParameterTree → List BlockTree → List Demand
definition_demands known parameters blocks =
    let all = locals_from 0 (announced parameters blocks) in
    parameters_demands known all none_called parameters
    ++ blocks_demands known all (called_after none_called (announced parameters [])) blocks
