-- For `copy_struct_body`, `copy_parameters` and `copy_body` of `Copier`, and how the code reads: types, constants and
-- bodies with new ids in place of the old ones.
use Rattle.std.specs.Prelude.{map, Option, Some, None}
use Rattle.std.specs.Option.{option_map}
use Rattle.type_table.specs.declared.ir_type.IrType.{IrType}
use Rattle.type_table.specs.declared.ir_type.IrType.TheVariants.{Int, Ptr, Void, Array, Struct, Named}
use Rattle.type_table.specs.declared.ir_type.StructBody.{StructBody}
use Rattle.type_table.specs.declared.ir_type.StructBody.TheVariants.{Opaque, Plain, Packed}
use Rattle.module_arena.specs.declared.constant.Const.{Const}
use Rattle.module_arena.specs.declared.constant.Const.TheVariants as const
use Rattle.module_arena.specs.declared.constant.ConstAddress.{ConstAddress}
use Rattle.module_arena.specs.declared.constant.ConstPair.{ConstPair}
use Rattle.module_arena.specs.declared.constant.TypedConst.{TypedConst}
use Rattle.module_arena.specs.declared.entry.AliasType.{AliasType}
use Rattle.module_arena.specs.declared.entry.AliasType.TheVariants as alias_type
use Rattle.module_arena.specs.declared.entry.Block.{Block}
use Rattle.module_arena.specs.declared.entry.Body.{Body}
use Rattle.module_arena.specs.declared.entry.GlobalId.{GlobalId}
use Rattle.module_arena.specs.declared.entry.Parameter.{Parameter}
use Rattle.module_arena.specs.declared.instruction.Call.{Call}
use Rattle.module_arena.specs.declared.instruction.Case.{Case}
use Rattle.module_arena.specs.declared.instruction.Choice.{Choice}
use Rattle.module_arena.specs.declared.instruction.Ending.{Ending}
use Rattle.module_arena.specs.declared.instruction.Ending.TheVariants as ending
use Rattle.module_arena.specs.declared.instruction.Incoming.{Incoming}
use Rattle.module_arena.specs.declared.instruction.Insertion.{Insertion}
use Rattle.module_arena.specs.declared.instruction.Inst.{Inst}
use Rattle.module_arena.specs.declared.instruction.Inst.TheVariants as inst
use Rattle.module_arena.specs.declared.instruction.Operand.{Operand}
use Rattle.module_arena.specs.declared.instruction.Signature.{Signature}
use Rattle.module_arena.specs.declared.instruction.Value.{Value}
use Rattle.module_arena.specs.declared.instruction.Value.TheVariants as value
use Rattle.entry_copy.specs.Tables.{Tables, new_struct, new_type, new_constant, new_global}

-- the address of an entry; one without a new id gives null, which nothing that is copied on mentions
abbrev pub address_of : Option GlobalId → Const
address_of (Some g) = const.Address g
address_of None = const.Null

module _ (t : Tables) where
  -- ---- types

  -- a type with its parts
  abbrev pub moved_type : IrType → IrType
  moved_type (Int width) = Int width
  moved_type Ptr = Ptr
  moved_type Void = Void
  moved_type (Array length element) = Array length (new_type t element)
  moved_type (Struct packed fields) = Struct packed (map (new_type t) fields)
  moved_type (Named id) = Named (new_struct t id)

  -- what a named struct holds
  abbrev pub moved_struct_body : StructBody → StructBody
  moved_struct_body Opaque = Opaque
  moved_struct_body (Plain fields) = Plain (map (new_type t) fields)
  moved_struct_body (Packed fields) = Packed (map (new_type t) fields)

  -- a function type
  abbrev pub moved_signature : Signature → Signature
  moved_signature s = record { returns = new_type t s.returns; parameters = map (new_type t) s.parameters; variadic = s.variadic }

  -- what an alias says of its target
  abbrev pub moved_alias_type : AliasType → AliasType
  moved_alias_type (alias_type.Plain ty) = alias_type.Plain (new_type t ty)
  moved_alias_type (alias_type.Function returns parameters variadic) = alias_type.Function (new_type t returns) (map (new_type t) parameters) variadic

  -- a parameter, under its name
  abbrev pub moved_parameter : Parameter → Parameter
  moved_parameter p = record p { ty = new_type t p.ty }

  -- ---- constants

  -- a constant with its type
  abbrev pub moved_typed : TypedConst → TypedConst
  moved_typed c = record { ty = new_type t c.ty; value = new_constant t c.value }

  -- the parts of a `getelementptr`
  abbrev pub moved_address : ConstAddress → ConstAddress
  moved_address a = record { source = new_type t a.source; operands = map moved_typed a.operands }

  -- the operands of a binary constant
  abbrev pub moved_pair : ConstPair → ConstPair
  moved_pair p = record { left = moved_typed p.left; right = moved_typed p.right }

  -- a constant with its parts
  abbrev pub moved_constant : Const → Const
  moved_constant (const.Integer number) = const.Integer number
  moved_constant (const.Truth truth) = const.Truth truth
  moved_constant const.Null = const.Null
  moved_constant const.Undef = const.Undef
  moved_constant const.Poison = const.Poison
  moved_constant const.ZeroInitializer = const.ZeroInitializer
  moved_constant (const.Address g) = address_of (new_global t g)
  moved_constant (const.ByteString bytes) = const.ByteString bytes
  moved_constant (const.Aggregate round elements) = const.Aggregate round (map moved_typed elements)
  moved_constant (const.ElementAddress flags address) = const.ElementAddress flags (moved_address address)
  moved_constant (const.Cast opcode operand to) = const.Cast opcode (moved_typed operand) (new_type t to)
  moved_constant (const.Binary opcode flags pair) = const.Binary opcode flags (moved_pair pair)

  -- ---- instructions

  -- a value; parameters and results keep their ids
  abbrev pub moved_value : Value → Value
  moved_value (value.Local id) = value.Local id
  moved_value (value.Known id) = value.Known (new_constant t id)

  -- an operand
  abbrev pub moved_operand : Operand → Operand
  moved_operand o = record { ty = new_type t o.ty; value = moved_value o.value }

  -- a value of a phi; blocks keep their ids
  abbrev pub moved_incoming : Incoming → Incoming
  moved_incoming i = record { value = moved_value i.value; block = i.block }

  -- the parts of a `select`
  abbrev pub moved_choice : Choice → Choice
  moved_choice c = record { condition = moved_operand c.condition; first = moved_operand c.first; second = moved_operand c.second }

  -- the parts of an `insertvalue`
  abbrev pub moved_insertion : Insertion → Insertion
  moved_insertion i = record { aggregate = moved_operand i.aggregate; part = moved_operand i.part; indices = i.indices }

  -- the parts of a `call`
  abbrev pub moved_call : Call → Call
  moved_call c = record { result = c.result; signature = moved_signature c.signature; callee = moved_value c.callee; arguments = map moved_operand c.arguments }

  -- an instruction, with the result that it had
  abbrev pub moved_inst : Inst → Inst
  moved_inst (inst.Binary opcode flags result left right) = inst.Binary opcode flags result (moved_operand left) (moved_value right)
  moved_inst (inst.Compare flags predicate result left right) = inst.Compare flags predicate result (moved_operand left) (moved_value right)
  moved_inst (inst.Convert opcode flags result operand to) = inst.Convert opcode flags result (moved_operand operand) (new_type t to)
  moved_inst (inst.Select result choice) = inst.Select result (moved_choice choice)
  moved_inst (inst.Freeze result operand) = inst.Freeze result (moved_operand operand)
  moved_inst (inst.Phi result ty incoming) = inst.Phi result (new_type t ty) (map moved_incoming incoming)
  moved_inst (inst.Load flags result ty address alignment) = inst.Load flags result (new_type t ty) (moved_operand address) alignment
  moved_inst (inst.Store flags stored address alignment) = inst.Store flags (moved_operand stored) (moved_operand address) alignment
  moved_inst (inst.Alloca result ty count alignment) = inst.Alloca result (new_type t ty) (option_map moved_operand count) alignment
  moved_inst (inst.GetElementPtr flags result source base indices) = inst.GetElementPtr flags result (new_type t source) (moved_operand base) (map moved_operand indices)
  moved_inst (inst.Call call) = inst.Call (moved_call call)
  moved_inst (inst.ExtractValue result aggregate indices) = inst.ExtractValue result (moved_operand aggregate) indices
  moved_inst (inst.InsertValue result insertion) = inst.InsertValue result (moved_insertion insertion)

  -- a case of a `switch`
  abbrev pub moved_case : Case → Case
  moved_case c = record { ty = new_type t c.ty; value = new_constant t c.value; target = c.target }

  -- the end of a block
  abbrev pub moved_ending : Ending → Ending
  moved_ending ending.ReturnVoid = ending.ReturnVoid
  moved_ending (ending.Return operand) = ending.Return (moved_operand operand)
  moved_ending (ending.Jump target) = ending.Jump target
  moved_ending (ending.Branch condition then_to else_to) = ending.Branch (moved_operand condition) then_to else_to
  moved_ending (ending.Switch operand otherwise cases) = ending.Switch (moved_operand operand) otherwise (map moved_case cases)
  moved_ending ending.Unreachable = ending.Unreachable

  -- a block, under its name
  abbrev pub moved_block : Block → Block
  moved_block b = record { name = b.name; instructions = map moved_inst b.instructions; end = moved_ending b.end }

  -- a body, its results under their names
  abbrev pub moved_body : Body → Body
  moved_body b = record { blocks = map moved_block b.blocks; results = b.results }
