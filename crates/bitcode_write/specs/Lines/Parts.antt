-- Says how the code reads: the operands of the parts of instructions and ends, as the layouts of the opcodes spell them.
use Rattle.std.specs.Prelude.{ℕ, List, [], ◌∷◌, ◌++◌, map, Option, Some, None}
use Rattle.std.specs.Option.{option_map}
use Rattle.ir_tables.specs.Predicate.{predicate_code}
use Rattle.type_table.specs.Tree.{Tree, ptr, int}
use Rattle.type_table.specs.Types.{tree, trees}
use Rattle.module_arena.specs.declared.entry.Function.{Function}
use Rattle.module_arena.specs.declared.instruction.Call.{Call}
use Rattle.module_arena.specs.declared.instruction.Case.{Case}
use Rattle.module_arena.specs.declared.instruction.Choice.{Choice}
use Rattle.module_arena.specs.declared.instruction.Incoming.{Incoming}
use Rattle.module_arena.specs.declared.instruction.Inst.{Inst}
use Rattle.module_arena.specs.declared.instruction.Inst.TheVariants as inst
use Rattle.module_arena.specs.declared.instruction.Insertion.{Insertion}
use Rattle.module_arena.specs.declared.instruction.Operand.{Operand}
use Rattle.module_arena.specs.declared.instruction.Value.{Value}
use Rattle.module_arena.specs.Lists.{Lists}
use Rattle.module_arena.specs.View.{constants_of, value_name}
use Rattle.record_table.specs.Fields.{ty, block, bool_code, index, label, alignment}
use Rattle.record_table.specs.Layout.{counted, option}
use Rattle.record_table.specs.Constants.{value}
use Rattle.record_table.specs.Lines.{typed_value, incoming, arguments, case_of}
use Rattle.record_write.specs.Operands.Numbered.{inside, texts, values_in, labels_in, value_of, operand_of, incoming_of, label_of, case_in}

-- the flags of an instruction that may have some
abbrev pub flags_in : Inst → Option ℕ
flags_in (inst.Binary opcode flags result left right) = Some flags
flags_in (inst.Convert opcode flags result operand to) = Some flags
flags_in (inst.Compare flags predicate result left right) = Some flags
flags_in (inst.Load flags result ty address align) = Some flags
flags_in (inst.Store flags stored address align) = Some flags
flags_in (inst.GetElementPtr flags result source base indices) = Some flags
flags_in _ = None

-- the result of an instruction that stands first
abbrev pub named_in : Inst → Option ℕ
named_in (inst.Binary opcode flags result left right) = Some result
named_in (inst.Compare flags predicate result left right) = Some result
named_in (inst.Convert opcode flags result operand to) = Some result
named_in (inst.Select result choice) = Some result
named_in (inst.Freeze result operand) = Some result
named_in (inst.Phi result ty incoming) = Some result
named_in (inst.Load flags result ty address align) = Some result
named_in (inst.Store flags stored address align) = None
named_in (inst.Alloca result ty count align) = Some result
named_in (inst.GetElementPtr flags result source base indices) = Some result
named_in (inst.Call call) = None
named_in (inst.ExtractValue result aggregate indices) = Some result
named_in (inst.InsertValue result insertion) = Some result

module _ (a : Lists) (f : Function) where
  -- what the value with that id is called, and a result where there is one
  abbrev pub name_operands : ℕ → List ℕ
  name_operands id = (label (texts a) 0).spell (value_name (trees a.table) (constants_of a) (values_in a f) (labels_in a f) id)

  -- a result, where there is one
  abbrev pub result_operands : Option ℕ → List ℕ
  result_operands (Some id) = name_operands id
  result_operands None = []

  -- a value at a type
  abbrev pub value_operands : Tree → Value → List ℕ
  value_operands t v = (value (inside a f) t).spell (value_of a f v)

  -- a type
  abbrev pub type_operands : ℕ → List ℕ
  type_operands id = (ty (inside a f)).spell (tree a.table id)

  -- a value behind its type
  abbrev pub operand_operands : Operand → List ℕ
  operand_operands o = (typed_value (inside a f)).spell (operand_of a f o)

  -- of a `load` or `store`
  abbrev pub address_operands : Operand → Option ℕ → List ℕ
  address_operands o align = value_operands ptr o.value ++ alignment.spell align

  -- of a `select`
  abbrev pub choice_operands : Choice → List ℕ
  choice_operands c =
      type_operands c.first.ty
      ++ (value_operands (int 1) c.condition.value
      ++ (value_operands (tree a.table c.first.ty) c.first.value ++ value_operands (tree a.table c.first.ty) c.second.value))

  -- of two values of one type
  abbrev pub both_operands : Operand → Value → List ℕ
  both_operands left right = operand_operands left ++ value_operands (tree a.table left.ty) right

  -- of a count of an `alloca`
  abbrev pub room_operands : Option Operand → List ℕ
  room_operands count = (option (typed_value (inside a f))).spell (option_map (operand_of a f) count)

  -- of a `getelementptr`
  abbrev pub steps_operands : ℕ → Operand → List Operand → List ℕ
  steps_operands source base indices =
      type_operands source
      ++ (value_operands ptr base.value ++ (counted (typed_value (inside a f))).spell (map (operand_of a f) indices))

  -- of an `insertvalue`
  abbrev pub insertion_operands : Insertion → List ℕ
  insertion_operands i = operand_operands i.aggregate ++ (operand_operands i.part ++ (counted index).spell i.indices)

  -- of an `extractvalue`
  abbrev pub extraction_operands : Operand → List ℕ → List ℕ
  extraction_operands o indices = operand_operands o ++ (counted index).spell indices

  -- of a phi
  abbrev pub phi_operands : ℕ → List Incoming → List ℕ
  phi_operands ty parts = type_operands ty ++ (counted (incoming (inside a f) (tree a.table ty))).spell (map (incoming_of a f) parts)

  -- an argument at a parameter, or behind the last of them
  abbrev pub argument_operands : List Tree → Operand → List ℕ
  argument_operands [] x = operand_operands x
  argument_operands (t ∷ ts) x = value_operands t x.value

  -- of a call
  abbrev pub call_operands : Call → List ℕ
  call_operands c =
      type_operands c.signature.returns
      ++ (result_operands c.result
      ++ ((bool_code c.signature.variadic ∷ []) ++ ((counted (ty (inside a f))).spell (map (tree a.table) c.signature.parameters)
      ++ (value_operands ptr c.callee ++ (arguments (inside a f) (map (tree a.table) c.signature.parameters)).spell (map (operand_of a f) c.arguments)))))

  -- a block
  abbrev pub block_operands : ℕ → List ℕ
  block_operands id = (block (inside a f)).spell (label_of a f id)

  -- the parts of ends
  abbrev pub case_operands : Tree → Case → List ℕ
  case_operands t c = (case_of (inside a f) t).spell (case_in a f c)

  -- all cases of a switch
  abbrev pub cases_operands : Tree → List Case → List ℕ
  cases_operands t cases = (counted (case_of (inside a f) t)).spell (map (case_in a f) cases)

  -- a switch
  abbrev pub switch_operands : Operand → ℕ → List Case → List ℕ
  switch_operands part otherwise cases = operand_operands part ++ (block_operands otherwise ++ cases_operands (tree a.table part.ty) cases)

  -- a branch by a condition
  abbrev pub branch_operands : Value → ℕ → ℕ → List ℕ
  branch_operands condition then_to else_to = (1 ∷ []) ++ (value_operands (int 1) condition ++ (block_operands then_to ++ block_operands else_to))

  -- what stands behind the name of a result and the flags
  abbrev pub parts_operands : Inst → List ℕ
  parts_operands (inst.Binary opcode flags result left right) = both_operands left right
  parts_operands (inst.Compare flags predicate result left right) = predicate_code predicate ∷ both_operands left right
  parts_operands (inst.Convert opcode flags result operand to) = operand_operands operand ++ type_operands to
  parts_operands (inst.Select result choice) = choice_operands choice
  parts_operands (inst.Freeze result operand) = operand_operands operand
  parts_operands (inst.Phi result ty incoming) = phi_operands ty incoming
  parts_operands (inst.Load flags result ty address align) = type_operands ty ++ address_operands address align
  parts_operands (inst.Store flags stored address align) = operand_operands stored ++ address_operands address align
  parts_operands (inst.Alloca result ty count align) = type_operands ty ++ (room_operands count ++ alignment.spell align)
  parts_operands (inst.GetElementPtr flags result source base indices) = steps_operands source base indices
  parts_operands (inst.Call call) = call_operands call
  parts_operands (inst.ExtractValue result aggregate indices) = extraction_operands aggregate indices
  parts_operands (inst.InsertValue result insertion) = insertion_operands insertion
