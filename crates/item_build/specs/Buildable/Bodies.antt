-- For `build_instruction`, `build_ending`, `items_without_a_break_are_buildable` and all that builds items: what the body
-- of a function is built from: types within the limits, entries that are there, and locals that are called so.
use Rattle.std.specs.Prelude.{◌^◌, ◌<◌, ◌-◌, ◌+◌, List, ◌++◌, map, flat_map, filter_map, length, All, Contains, Option, Some, None}
use Rattle.std.specs.List.{sum_by}
use Rattle.ir_terminals.specs.declared.values.Integer.{Integer}
use Rattle.ir_terminals.specs.declared.values.Local.{Local}
use Rattle.ir_phrases.specs.Constants.Tree.{TypeTree, ValueTree, LocalValue, ConstantValue, TypedValueTree}
use Rattle.ir_phrases.specs.Instructions.Tree.{SignatureTree, IncomingTree, OperationTree, Binary, Compare, Cast, Select, Freeze, Phi, Load, Store, Alloca, GetElementPtr, Call, ExtractValue, InsertValue, InstructionTree, CaseTree, EndingTree, ReturnVoid, Return, Jump, Branch, Switch, Unreachable, BlockTree}
use Rattle.ir_syntax.specs.Counts.{block_count}
use Rattle.ir_syntax.specs.Tree.{ParameterTree}
use Rattle.type_table.specs.Tree.{Structs}
use Rattle.module_arena.specs.declared.arena.TheConstants.{INDEX_LIMIT}
use Rattle.module_arena.specs.Lists.{Lists}
use Rattle.module_arena.specs.Module as m
use Rattle.module_arena.specs.Module.{LocalName}
use Rattle.name_rules.specs.Locals.{local_in, next_after, announced_parameter}
use Rattle.name_rules.specs.ModuleOf.{parameters_in}
use Rattle.name_rules.specs.Bodies.{blocks_in}
use Rattle.name_rules.specs.Written.{natural, type_in}
use Rattle.item_build.specs.Types.Declarations.{IsShort}
use Rattle.item_build.specs.Types.Fitting.{CanBe}
use Rattle.item_build.specs.Types.Holding.{CanHold, CanHoldTyped}
use Rattle.item_build.specs.Buildable.Narrow.{StoresNothing}

-- what the parameters of a function are called
abbrev pub parameter_names : List ParameterTree → List LocalName
parameter_names parameters = map (λ (p : m.Parameter). p.name) (parameters_in 0 parameters)

-- the blocks of a function
abbrev pub body_of : List ParameterTree → List BlockTree → List m.Block
body_of parameters blocks = blocks_in (next_after 0 (map announced_parameter parameters)) blocks

-- what the results of these blocks are called
abbrev pub result_names : List m.Block → List LocalName
result_names blocks = flat_map (λ (b : m.Block). filter_map (λ (i : m.Instruction). i.result) b.instructions) blocks

-- what the values of a function are called: parameters, then results
abbrev pub values_of : List ParameterTree → List BlockTree → List LocalName
values_of parameters blocks = parameter_names parameters ++ result_names (body_of parameters blocks)

-- what its blocks are called
abbrev pub labels_of : List ParameterTree → List BlockTree → List LocalName
labels_of parameters blocks = map (λ (b : m.Block). b.name) (body_of parameters blocks)

-- at most 32 bits
abbrev pub IsShortInteger : Integer → Type 0
IsShortInteger written = natural written < INDEX_LIMIT

module _ (structs : Structs) (entries : Lists) where
  -- the type is within the limits
  abbrev pub CanType : TypeTree → Type 0
  CanType written = CanBe structs (type_in written)

  -- the parameters that a call writes are
  abbrev pub CanSignature : Option SignatureTree → Type 0
  CanSignature None = Unit {0}
  CanSignature (Some written) = All CanType written.0

  module _ (values labels : List LocalName) where
    -- a local of the function is called so, or the constant can be held
    abbrev pub CanValue : ValueTree → Type 0
    CanValue (LocalValue written) = Contains values (local_in written)
    CanValue (ConstantValue constant) = CanHold structs entries constant

    -- a value and its type
    abbrev pub CanOperand : TypedValueTree → Type 0
    CanOperand written = CanType written.0 × CanValue written.1

    -- a block is called so
    abbrev pub CanTarget : Local → Type 0
    CanTarget written = Contains labels (local_in written)

    -- a value of a phi, and its block
    abbrev pub CanIncoming : IncomingTree → Type 0
    CanIncoming written = CanValue written.0 × CanTarget written.1

    -- the count of an alloca
    abbrev pub CanCount : Option TypedValueTree → Type 0
    CanCount None = Unit {0}
    CanCount (Some written) = CanOperand written

    -- an operation, part by part
    abbrev pub CanOperation : OperationTree → Type 0
    CanOperation (Binary opcode flags left right) = CanOperand left × CanValue right
    CanOperation (Compare flags predicate left right) = CanOperand left × CanValue right
    CanOperation (Cast opcode flags value to) = CanOperand value × CanType to
    CanOperation (Select condition first second) = CanOperand condition × CanOperand first × CanOperand second
    CanOperation (Freeze value) = CanOperand value
    CanOperation (Phi ty incoming) = CanType ty × All CanIncoming incoming
    CanOperation (Load flags ty address alignment) = CanType ty × CanOperand address × IsShort alignment
    CanOperation (Store flags value address alignment) = CanOperand value × CanOperand address × IsShort alignment
    CanOperation (Alloca ty count alignment) = CanType ty × CanCount count × IsShort alignment
    CanOperation (GetElementPtr flags source operands) = CanType source × (0 < length operands) × All CanOperand operands
    CanOperation (Call call) = CanType call.returns × CanSignature call.signature × CanValue call.callee × All CanOperand call.arguments
    CanOperation (ExtractValue aggregate indices) = CanOperand aggregate × All IsShortInteger indices
    CanOperation (InsertValue aggregate part indices) = CanOperand aggregate × CanOperand part × All IsShortInteger indices

    -- an instruction; a store has no result
    abbrev pub CanInstruction : InstructionTree → Type 0
    CanInstruction written = CanOperation written.operation × StoresNothing written

    -- a case of a switch
    abbrev pub CanCase : CaseTree → Type 0
    CanCase written = CanHoldTyped structs entries written.0 × CanTarget written.1

    -- the end of a block
    abbrev pub CanEnding : EndingTree → Type 0
    CanEnding ReturnVoid = Unit {0}
    CanEnding (Return value) = CanOperand value
    CanEnding (Jump target) = CanTarget target
    CanEnding (Branch condition then_to else_to) = CanOperand condition × CanTarget then_to × CanTarget else_to
    CanEnding (Switch value otherwise cases) = CanOperand value × CanTarget otherwise × All CanCase cases
    CanEnding Unreachable = Unit {0}

    -- a block
    abbrev pub CanBlock : BlockTree → Type 0
    CanBlock written = All CanInstruction written.instructions × CanEnding written.ending

  -- The body of a function: each block can be built over the names of all, and there are so few parameters, blocks and instructions
  -- that values, blocks and the numbers by which they are called have 32 bits.
  pub record CanBody (parameters : List ParameterTree) (blocks : List BlockTree) : Type 0 where
    pub each : All (CanBlock (values_of parameters blocks) (labels_of parameters blocks)) blocks
    pub few : length parameters + sum_by block_count blocks < 2 ^ 32 - 2
