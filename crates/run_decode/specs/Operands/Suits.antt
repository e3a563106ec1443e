-- For `put_parts`, `put_cases`, `put_ending` and `functions_of_a_checked_module_suit`, and how the code of `decode` reads: that the ids in
-- the blocks of a function are of the function and its arena, and that what they name can stand where it stands. In a checked module they all do.
use Rattle.std.specs.Prelude.{◌≡◌, ℕ, ◌<◌, ⊤, true, List, All, IfSome, length}
use Rattle.module_arena.specs.declared.entry.Block.{Block}
use Rattle.module_arena.specs.declared.instruction.Call.{Call}
use Rattle.module_arena.specs.declared.instruction.Case.{Case}
use Rattle.module_arena.specs.declared.instruction.Choice.{Choice}
use Rattle.module_arena.specs.declared.instruction.Ending.{Ending}
use Rattle.module_arena.specs.declared.instruction.Ending.TheVariants as ending
use Rattle.module_arena.specs.declared.instruction.Insertion.{Insertion}
use Rattle.module_arena.specs.declared.instruction.Inst.{Inst}
use Rattle.module_arena.specs.declared.instruction.Inst.TheVariants as inst
use Rattle.module_arena.specs.declared.instruction.Operand.{Operand}
use Rattle.module_arena.specs.declared.instruction.Value.{Value}
use Rattle.module_arena.specs.declared.instruction.Value.TheVariants as value
use Rattle.module_arena.specs.Lists.{Lists, function_blocks, value_names}
use Rattle.module_arena.specs.TypeTests.{lies_in_memory}
use Rattle.type_table.specs.Tree.{ptr}
use Rattle.type_table.specs.Types.{structs, tree}
use Rattle.run_decode.specs.Scopes.Places.{HasPart, HasValues}
use Rattle.run_decode.specs.Scopes.Scopes.{Framed, HasBlock, HasOperand, HasScalar, HasScalarAt, HasValue, StandsAt}
use Rattle.run_decode.specs.Scopes.Ways.{AllPhisSuit}

-- a type of the arena that lies in memory
pub record Lies (a : Lists) (ty : ℕ) : Type 0 where
  pub known : ty < length a.table.types
  pub laid : lies_in_memory (structs a.table) (tree a.table ty) ≡ true

module _ (s : Framed) where
  -- a result of the function
  abbrev pub IsResult : ℕ → Type 0
  IsResult id = id < length (value_names s.function)

  -- both operands of a binary instruction or an `icmp` are integers or pointers of the type that is written once
  pub record HasPair (left : Operand) (right : Value) : Type 0 where
    pub first : HasScalar s left
    pub second : HasScalarAt s left.ty right

  -- a cast of an integer or a pointer, to a type of the arena
  pub record HasCast (o : Operand) (to : ℕ) : Type 0 where
    pub operand : HasScalar s o
    pub ty : to < length s.lists.table.types

  -- the operands of a `select`
  pub record HasChoice (c : Choice) : Type 0 where
    pub condition : HasScalar s c.condition
    pub first : HasOperand s c.first
    pub second : HasOperand s c.second

  -- a value whose type lies in memory: that of a `freeze` and of a `store`
  pub record HasStored (o : Operand) : Type 0 where
    pub operand : HasOperand s o
    pub lies : Lies s.lists o.ty

  -- the type and the address of a `load`
  pub record HasLoad (ty : ℕ) (from : Operand) : Type 0 where
    pub lies : Lies s.lists ty
    pub address : HasScalar s from

  -- the value and the address of a `store`
  pub record HasStore (o to : Operand) : Type 0 where
    pub stored : HasStored o
    pub address : HasScalar s to

  -- the source type, the base and the indices of a `getelementptr`
  pub record HasSteps (source : ℕ) (from : Operand) (steps : List Operand) : Type 0 where
    pub lies : Lies s.lists source
    pub base : HasScalar s from
    pub indices : All (HasScalar s) steps

  -- an operand with a part to which the indices lead
  pub record HasExtraction (o : Operand) (indices : List ℕ) : Type 0 where
    pub aggregate : HasOperand s o
    pub part : HasPart s.lists o.ty indices

  -- the operands of an `insertvalue`, and the part to which its indices lead
  pub record HasInsertion (i : Insertion) : Type 0 where
    pub extraction : HasExtraction i.aggregate i.indices
    pub new : HasOperand s i.part

  -- a call: its function type, its callee and its arguments
  pub record HasCall (c : Call) : Type 0 where
    pub result : IfSome c.result IsResult
    pub returns : c.signature.returns < length s.lists.table.types
    pub parameters : All (λ ty. ty < length s.lists.table.types) c.signature.parameters
    pub callee : HasValue s c.callee
    pub stands : StandsAt s ptr c.callee
    pub arguments : All (HasOperand s) c.arguments

  -- an instruction that is no phi; of those see `AllPhisSuit`
  abbrev pub Suits : Inst → Type 0
  Suits (inst.Binary opcode flags result left right) = IsResult result × HasPair left right
  Suits (inst.Compare flags predicate result left right) = IsResult result × HasPair left right
  Suits (inst.Convert opcode flags result operand ty) = IsResult result × HasCast operand ty
  Suits (inst.Select result choice) = IsResult result × HasChoice choice
  Suits (inst.Freeze result operand) = IsResult result × HasStored operand
  Suits (inst.Phi result ty incoming) = ⊤
  Suits (inst.Load flags result ty address alignment) = IsResult result × HasLoad ty address
  Suits (inst.Store flags stored address alignment) = HasStore stored address
  Suits (inst.Alloca result ty count alignment) = IsResult result × Lies s.lists ty × IfSome count (HasScalar s)
  Suits (inst.GetElementPtr flags result source base indices) = IsResult result × HasSteps source base indices
  Suits (inst.Call call) = HasCall call
  Suits (inst.ExtractValue result aggregate indices) = IsResult result × HasExtraction aggregate indices
  Suits (inst.InsertValue result insertion) = IsResult result × HasInsertion insertion

  -- a case of a `switch`: its constant is an integer, and its target a block of the function
  pub record HasCase (c : Case) : Type 0 where
    pub number : HasScalarAt s c.ty (value.Known c.value)
    pub target : HasBlock s c.target

  -- the condition and the targets of a `br`
  pub record HasBranch (on : Operand) (yes no : ℕ) : Type 0 where
    pub condition : HasScalar s on
    pub then_to : HasBlock s yes
    pub else_to : HasBlock s no

  -- the operand, the targets and the cases of a `switch`
  pub record HasSwitch (on : Operand) (other : ℕ) (cs : List Case) : Type 0 where
    pub operand : HasScalar s on
    pub otherwise : HasBlock s other
    pub cases : All HasCase cs

  -- the end of a block
  abbrev pub EndSuits : Ending → Type 0
  EndSuits ending.ReturnVoid = ⊤
  EndSuits (ending.Return operand) = HasOperand s operand
  EndSuits (ending.Jump target) = HasBlock s target
  EndSuits (ending.Branch condition then_to else_to) = HasBranch condition then_to else_to
  EndSuits (ending.Switch operand otherwise cases) = HasSwitch operand otherwise cases
  EndSuits ending.Unreachable = ⊤

  -- a block
  pub record BlockSuits (b : Block) : Type 0 where
    pub instructions : All Suits b.instructions
    pub end : EndSuits b.end

-- a function: what its parameters and results are, its phis, and its blocks
pub record AllSuit (s : Framed) : Type 0 where
  pub values : HasValues s.lists s.function
  pub phis : AllPhisSuit s
  pub blocks : All (BlockSuits s) (function_blocks s.function)
