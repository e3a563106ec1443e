-- For `read_operation` and `read_store`: what stands behind the name of a result, by the opcode. `instruction` of `Lines` is
-- these behind names.
use Rattle.std.specs.Prelude.{Bool, true, false}
use Rattle.ir_tables.specs.declared.opcode.Opcode.{Opcode}
use Rattle.ir_tables.specs.declared.opcode.Opcode.TheVariants as op
use Rattle.type_table.specs.Tree.{int, ptr}
use Rattle.module_arena.specs.Module.{Operation, BinaryOperation, Compare, Convert, Select, Freeze, Phi, Load, Store, Alloca, GetElementPtr, ExtractValue, InsertValue}
use Rattle.record_table.specs.Layout.{Layout, mapped, ◌&◌, ◌&>◌, counted, counted_some, option}
use Rattle.record_table.specs.Fields.{Numbering, ty, flags, predicate, alignment, index}
use Rattle.record_table.specs.Constants.{value}
use Rattle.record_table.specs.Lines.{operand, typed_value, incoming, binary_parts, compare_parts, convert_parts, select_parts, freeze_parts, phi_parts, load_parts, store_parts, alloca_parts, element_parts, extract_parts, insert_parts}

-- an instruction with a result that is no call
abbrev pub is_giving : Opcode → Bool
is_giving op.Store = false
is_giving op.Call = false
is_giving op.Ret = false
is_giving op.Br = false
is_giving op.Switch = false
is_giving op.Unreachable = false
is_giving _ = true

module _ (k : Numbering) where
  -- an operation on two operands of one type
  abbrev pub computation : Opcode → Layout Operation
  computation o = mapped (λ (f, (t, (a, b))). BinaryOperation o f (operand t a) b) binary_parts (flags o & ty k &> λ t. value k t & value k t)

  -- a cast
  abbrev pub conversion : Opcode → Layout Operation
  conversion o = mapped (λ (f, ((t, a), to)). Convert o f (operand t a) to) convert_parts (flags o & (ty k &> λ t. value k t) & ty k)

  -- what an instruction of that opcode does
  abbrev pub operation : Opcode → Layout Operation
  operation op.ICmp = mapped (λ (f, (p, (t, (a, b)))). Compare f p (operand t a) b) compare_parts (flags op.ICmp & predicate & ty k &> λ t. value k t & value k t)
  operation op.Trunc = conversion op.Trunc
  operation op.ZExt = conversion op.ZExt
  operation op.SExt = conversion op.SExt
  operation op.PtrToInt = conversion op.PtrToInt
  operation op.IntToPtr = conversion op.IntToPtr
  operation op.Select =
      mapped
      (λ (t, (c, (a, b))). Select (operand (int 1) c) (operand t a) (operand t b))
      select_parts
      (ty k &> λ t. value k (int 1) & value k t & value k t)
  operation op.Freeze = mapped (λ (t, a). Freeze (operand t a)) freeze_parts (ty k &> λ t. value k t)
  operation op.Phi = mapped (λ (t, all). Phi t all) phi_parts (ty k &> λ t. counted_some (incoming k t))
  operation op.Load = mapped (λ (f, (t, (a, align))). Load f t (operand ptr a) align) load_parts (flags op.Load & ty k & value k ptr & alignment)
  operation op.Store =
      mapped
      (λ (f, ((t, v), (a, align))). Store f (operand t v) (operand ptr a) align)
      store_parts
      (flags op.Store & (ty k &> λ t. value k t) & value k ptr & alignment)
  operation op.Alloca = mapped (λ (t, (count, align)). Alloca t count align) alloca_parts (ty k & option (typed_value k) & alignment)
  operation op.GetElementPtr =
      mapped
      (λ (f, (t, (a, indices))). GetElementPtr f t (operand ptr a) indices)
      element_parts
      (flags op.GetElementPtr & ty k & value k ptr & counted (typed_value k))
  operation op.ExtractValue = mapped (λ (a, indices). ExtractValue a indices) extract_parts (typed_value k & counted_some index)
  operation op.InsertValue = mapped (λ (a, (part, indices)). InsertValue a part indices) insert_parts (typed_value k & typed_value k & counted_some index)
  operation o = computation o
