-- What the lines of a body spell.
use Rattle.std.proofs.Common.{◌≡◌, ℕ, suc, ◌<◌, Bool, true, false, List, [], ◌∷◌, ◌++◌, All, Option, Some, None, length, get_or, map, append_assoc, refl, sym, ap, ◌∙◌, subst, arith}
use Rattle.std.specs.Prelude.{IfSome, option_to_list}
use Rattle.std.specs.Option.{option_map}
use Rattle.std.proofs.lemmas.Bool.{false≢true}
use Rattle.std.proofs.lemmas.List.{length-map, get_or-map}
use Rattle.ir_tables.specs.declared.opcode.Opcode.{Opcode}
use Rattle.ir_tables.specs.declared.opcode.Opcode.TheVariants as op
use Rattle.ir_tables.specs.Predicate.{predicate_code}
use Rattle.type_table.specs.Tree.{Tree, int, ptr}
use Rattle.type_table.specs.Types.{trees, tree}
use Rattle.module_arena.specs.declared.entry.Function.{Function}
use Rattle.module_arena.specs.declared.instruction.Call.{Call}
use Rattle.module_arena.specs.declared.instruction.Incoming.{Incoming}
use Rattle.module_arena.specs.declared.instruction.Inst.{Inst}
use Rattle.module_arena.specs.declared.instruction.Inst.TheVariants as inst
use Rattle.module_arena.specs.declared.instruction.Operand.{Operand}
use Rattle.module_arena.specs.declared.instruction.Value.{Value}
use Rattle.module_arena.specs.declared.instruction.Value.TheVariants as value
use Rattle.module_arena.specs.Forms.{is_binary, is_cast}
use Rattle.module_arena.specs.Known.{HasValue, HasOperand, KnowsInst}
use Rattle.module_arena.specs.Lists.{Lists, value_names, function_blocks}
use Rattle.module_arena.specs.Module as m
use Rattle.module_arena.specs.TypeTests.{is_void}
use Rattle.module_arena.specs.View.{constants_of, value_name}
use Rattle.record_table.specs.Fields.{Texts, Numbering, ty, bool_code}
use Rattle.record_table.specs.Layout.{Layout, counted}
use Rattle.record_table.specs.FittingLines as fitting
use Rattle.record_table.specs.Lines as lines
use Rattle.record_table.specs.Standing as standing
use Rattle.record_write.specs.Operands.Numbered.{inside, texts, values_in, labels_in, value_of, operand_of, incoming_of}
use Rattle.record_write.specs.Operands.Wide.{IsBody, KnowsValue, HasValueAt, HasOperandIn, HasIncomingIn, AreArgumentsIn}
use Rattle.bitcode_write.specs.Lines.Ids.{KnowsOperand, KnowsCall, KnowsParts, KnowsLine}
use Rattle.bitcode_write.specs.Lines.Lines.{instruction_of, PartsStand}
use Rattle.bitcode_write.specs.Lines.Parts.{named_in, flags_in, name_operands, result_operands, type_operands, value_operands, both_operands, parts_operands}

-- ---- the layouts of opcodes that share one

pub binary_layout : (t : Texts) (k : Numbering) (o : Opcode) → is_binary o ≡ true → lines.instruction t k 0 o ≡ lines.computation t k 0 o
binary_layout t k op.Add is = refl
binary_layout t k op.Sub is = refl
binary_layout t k op.Mul is = refl
binary_layout t k op.UDiv is = refl
binary_layout t k op.SDiv is = refl
binary_layout t k op.URem is = refl
binary_layout t k op.SRem is = refl
binary_layout t k op.Shl is = refl
binary_layout t k op.LShr is = refl
binary_layout t k op.AShr is = refl
binary_layout t k op.And is = refl
binary_layout t k op.Or is = refl
binary_layout t k op.Xor is = refl
binary_layout t k op.ICmp is = absurd (false≢true is)
binary_layout t k op.Trunc is = absurd (false≢true is)
binary_layout t k op.ZExt is = absurd (false≢true is)
binary_layout t k op.SExt is = absurd (false≢true is)
binary_layout t k op.PtrToInt is = absurd (false≢true is)
binary_layout t k op.IntToPtr is = absurd (false≢true is)
binary_layout t k op.Select is = absurd (false≢true is)
binary_layout t k op.Freeze is = absurd (false≢true is)
binary_layout t k op.Phi is = absurd (false≢true is)
binary_layout t k op.Load is = absurd (false≢true is)
binary_layout t k op.Store is = absurd (false≢true is)
binary_layout t k op.Alloca is = absurd (false≢true is)
binary_layout t k op.GetElementPtr is = absurd (false≢true is)
binary_layout t k op.Call is = absurd (false≢true is)
binary_layout t k op.ExtractValue is = absurd (false≢true is)
binary_layout t k op.InsertValue is = absurd (false≢true is)
binary_layout t k op.Ret is = absurd (false≢true is)
binary_layout t k op.Br is = absurd (false≢true is)
binary_layout t k op.Switch is = absurd (false≢true is)
binary_layout t k op.Unreachable is = absurd (false≢true is)

pub cast_layout : (t : Texts) (k : Numbering) (o : Opcode) → is_cast o ≡ true → lines.instruction t k 0 o ≡ lines.conversion t k 0 o
cast_layout t k op.Add is = absurd (false≢true is)
cast_layout t k op.Sub is = absurd (false≢true is)
cast_layout t k op.Mul is = absurd (false≢true is)
cast_layout t k op.UDiv is = absurd (false≢true is)
cast_layout t k op.SDiv is = absurd (false≢true is)
cast_layout t k op.URem is = absurd (false≢true is)
cast_layout t k op.SRem is = absurd (false≢true is)
cast_layout t k op.Shl is = absurd (false≢true is)
cast_layout t k op.LShr is = absurd (false≢true is)
cast_layout t k op.AShr is = absurd (false≢true is)
cast_layout t k op.And is = absurd (false≢true is)
cast_layout t k op.Or is = absurd (false≢true is)
cast_layout t k op.Xor is = absurd (false≢true is)
cast_layout t k op.ICmp is = absurd (false≢true is)
cast_layout t k op.Trunc is = refl
cast_layout t k op.ZExt is = refl
cast_layout t k op.SExt is = refl
cast_layout t k op.PtrToInt is = refl
cast_layout t k op.IntToPtr is = refl
cast_layout t k op.Select is = absurd (false≢true is)
cast_layout t k op.Freeze is = absurd (false≢true is)
cast_layout t k op.Phi is = absurd (false≢true is)
cast_layout t k op.Load is = absurd (false≢true is)
cast_layout t k op.Store is = absurd (false≢true is)
cast_layout t k op.Alloca is = absurd (false≢true is)
cast_layout t k op.GetElementPtr is = absurd (false≢true is)
cast_layout t k op.Call is = absurd (false≢true is)
cast_layout t k op.ExtractValue is = absurd (false≢true is)
cast_layout t k op.InsertValue is = absurd (false≢true is)
cast_layout t k op.Ret is = absurd (false≢true is)
cast_layout t k op.Br is = absurd (false≢true is)
cast_layout t k op.Switch is = absurd (false≢true is)
cast_layout t k op.Unreachable is = absurd (false≢true is)

known_value : (constants values : ℕ) (v : Value) → HasValue constants values v → KnowsValue constants v
known_value constants values (value.Local id) known = tt
known_value constants values (value.Known id) known = known

pub incoming_known : (constants : ℕ) (xs : List Incoming) → All (KnowsValue constants) (map (λ (i : Incoming). i.value) xs) → All (λ part. KnowsValue constants part.value) xs
incoming_known constants xs known = λ k d lt.
    let many = length-map xs (λ (i : Incoming). i.value) in
    subst (λ (v : Value). KnowsValue constants v) (get_or-map (λ (i : Incoming). i.value) xs k d d.value lt) (known k d.value (omega (arith, many, lt)))

pub indices_known : (a : Lists) (base : Operand) (indices : List Operand) → All (KnowsOperand a) (base ∷ indices) → All (KnowsOperand a) indices
indices_known a base indices known = λ k d lt. known (suc k) d (omega (arith, lt))

result_known : (values : ℕ) (r : Option ℕ) → All (λ id. id < values) (option_to_list r) → IfSome r (λ id. id < values)
result_known values None known = tt
result_known values (Some id) known = known 0 id (omega arith)

pub call_known : (a : Lists) (f : Function) (c : Call) → KnowsParts a f (inst.Call c) → KnowsCall a f c
call_known a f c known = record {
  returns = known.types 0 c.signature.returns (omega arith);
  parameters = λ k d lt. known.types (suc k) d (omega (arith, lt));
  callee = known.values 0 c.callee (omega arith);
  arguments = known.operands;
  result = result_known (length (value_names f)) c.result known.result;
}

module _ (a : Lists) (f : Function) where
  abbrev Has : Operand → Type 0
  Has o = HasOperand (length a.table.types) (length a.constants) (length (value_names f)) o

  abbrev HasThis : Value → Type 0
  HasThis v = HasValue (length a.constants) (length (value_names f)) v

  abbrev Knows : Inst → Type 0
  Knows i = KnowsInst (length a.table.types) (length a.constants) (length (value_names f)) (length (function_blocks f)) i

  -- ---- ids

  operand_known : (o : Operand) → Has o → KnowsOperand a o
  operand_known o known = record { ty = known.0; value = known_value (length a.constants) (length (value_names f)) o.value known.1 }

  pub parts_known : (i : Inst) → KnowsLine a f i → KnowsParts a f i
  parts_known i known = record {
    operands = λ k d lt. operand_known _ (known.known.operands_known k d lt);
    values = λ k d lt. known_value (length a.constants) (length (value_names f)) _ (known.known.values_known k d lt);
    types = known.known.types_known;
    result = known.result;
  }

  -- ---- values that stand

  pub value_held : (t : Tree) (v : Value) → HasThis v → standing.ValueStands t (value_of a f v) → HasValueAt a f t v
  value_held t (value.Local id) known stands = known
  value_held t (value.Known id) known stands = stands

  pub operand_held : (o : Operand) → Has o → standing.OperandStands (operand_of a f o) → HasOperandIn a f o
  operand_held o known stands = value_held (tree a.table o.ty) o.value known.1 stands

  pub place_held : (t : Tree) (o : Operand) → Has o → standing.PlaceStands t (operand_of a f o) → HasValueAt a f t o.value
  place_held t o known stands = value_held t o.value known.1 stands.1

  operands_held : (os : List Operand) → All Has os → All standing.OperandStands (map (operand_of a f) os) → All (HasOperandIn a f) os
  operands_held os known stands = λ k d lt.
      let many = length-map os (operand_of a f) in
      operand_held (get_or os k d) (known k d lt) (subst (λ (o : m.Operand). standing.OperandStands o) (get_or-map (operand_of a f) os k d (operand_of a f d) lt) (stands k (operand_of a f d) (omega (arith, many, lt))))

  incoming_held : (t : Tree) (xs : List Incoming) → All HasThis (map (λ (i : Incoming). i.value) xs) → All (λ id. id < length (function_blocks f)) (map (λ (i : Incoming). i.block) xs) → All (λ i. standing.ValueStands t i.value) (map (incoming_of a f) xs) → All (HasIncomingIn a f t) xs
  incoming_held t xs values blocks stands = λ k d lt.
      let many = length-map xs (λ (i : Incoming). i.value) in
      let many_blocks = length-map xs (λ (i : Incoming). i.block) in
      let many_views = length-map xs (incoming_of a f) in
      record {
        value = value_held t (get_or xs k d).value (subst HasThis (get_or-map (λ (i : Incoming). i.value) xs k d d.value lt) (values k d.value (omega (arith, many, lt))))
            (subst (λ (i : m.Incoming). standing.ValueStands t i.value) (get_or-map (incoming_of a f) xs k d (incoming_of a f d) lt) (stands k (incoming_of a f d) (omega (arith, many_views, lt))));
        block = subst (λ (id : ℕ). id < length (function_blocks f)) (get_or-map (λ (i : Incoming). i.block) xs k d d.block lt) (blocks k d.block (omega (arith, many_blocks, lt)));
      }

  count_held : (count : Option Operand) → All Has (option_to_list count) → fitting.IfSome standing.OperandStands (option_map (operand_of a f) count) → IfSome count (HasOperandIn a f)
  count_held None known stands = tt
  count_held (Some o) known stands = operand_held o (known 0 o (omega arith)) stands

  arguments_held : (ts : List Tree) (os : List Operand) → All Has os → standing.ArgumentsStand ts (map (operand_of a f) os) → AreArgumentsIn a f ts os
  arguments_held ts [] known stands = tt
  arguments_held [] (o ∷ os) known stands = (operand_held o (known 0 o (omega arith)) stands.0, arguments_held [] os (λ k d lt. known (suc k) d (omega (arith, lt))) stands.1)
  arguments_held (t ∷ ts) (o ∷ os) known stands = (place_held t o (known 0 o (omega arith)) stands.0, arguments_held ts os (λ k d lt. known (suc k) d (omega (arith, lt))) stands.1)

  pub parts_stand : (i : Inst) → IsBody a f → Knows i → standing.InstructionStands (instruction_of a f i) → PartsStand a f i
  parts_stand (inst.Binary opcode flags result left right) body known stands =
      (operand_held left (known.operands_known 0 left (omega arith)) stands.0.1, value_held (tree a.table left.ty) right (known.values_known 0 right (omega arith)) stands.0.2)
  parts_stand (inst.Compare flags predicate result left right) body known stands =
      (operand_held left (known.operands_known 0 left (omega arith)) stands.0.0, value_held (tree a.table left.ty) right (known.values_known 0 right (omega arith)) stands.0.1)
  parts_stand (inst.Convert opcode flags result operand to) body known stands = operand_held operand (known.operands_known 0 operand (omega arith)) stands.0.1
  parts_stand (inst.Select result choice) body known stands = record {
    body = body;
    condition = place_held (int 1) choice.condition (known.operands_known 0 choice.condition (omega arith)) stands.0.0;
    first = operand_held choice.first (known.operands_known 1 choice.condition (omega arith)) stands.0.1;
    second = place_held (tree a.table choice.first.ty) choice.second (known.operands_known 2 choice.condition (omega arith)) stands.0.2;
  }
  parts_stand (inst.Freeze result operand) body known stands = operand_held operand (known.operands_known 0 operand (omega arith)) stands.0
  parts_stand (inst.Phi result ty incoming) body known stands = incoming_held (tree a.table ty) incoming known.values_known known.blocks_known stands.0
  parts_stand (inst.Load flags result ty address align) body known stands = (place_held ptr address (known.operands_known 0 address (omega arith)) stands.0.0, stands.0.1)
  parts_stand (inst.Store flags stored address align) body known stands =
      (operand_held stored (known.operands_known 0 stored (omega arith)) stands.0.0, place_held ptr address (known.operands_known 1 stored (omega arith)) stands.0.1, stands.0.2)
  parts_stand (inst.Alloca result ty count align) body known stands = (count_held count known.operands_known stands.0.0, stands.0.1)
  parts_stand (inst.GetElementPtr flags result source base indices) body known stands =
      (place_held ptr base (known.operands_known 0 base (omega arith)) stands.0.0, operands_held indices (λ k d lt. known.operands_known (suc k) d (omega (arith, lt))) stands.0.1)
  parts_stand (inst.Call call) body known stands = record {
    callee = value_held ptr call.callee (known.values_known 0 call.callee (omega arith)) stands.0.0;
    arguments = arguments_held (map (tree a.table) call.signature.parameters) call.arguments known.operands_known stands.0.1;
    result = stands.1;
  }
  parts_stand (inst.ExtractValue result aggregate indices) body known stands = operand_held aggregate (known.operands_known 0 aggregate (omega arith)) stands.0
  parts_stand (inst.InsertValue result insertion) body known stands =
      (operand_held insertion.aggregate (known.operands_known 0 insertion.aggregate (omega arith)) stands.0.0, operand_held insertion.part (known.operands_known 1 insertion.aggregate (omega arith)) stands.0.1)

  -- ---- lines

  abbrev named : ℕ → m.LocalName
  named id = value_name (trees a.table) (constants_of a) (values_in a f) (labels_in a f) id

  result_spelled : (void : Bool) (r : Option ℕ) → standing.CallResultStands void (option_map named r) → result_operands a f r ≡ (lines.result_by (texts a) 0 void).spell (option_map named r)
  result_spelled true None stands = refl
  result_spelled true (Some id) stands = absurd stands
  result_spelled false None stands = absurd stands
  result_spelled false (Some id) stands = refl

  abbrev spelled : Inst → List ℕ
  spelled i = (lines.instruction (texts a) (inside a f) 0 (lines.operation_opcode (instruction_of a f i).operation)).spell (instruction_of a f i)

  abbrev joined : Inst → List ℕ
  joined i = result_operands a f (named_in i) ++ (option_to_list (flags_in i) ++ parts_operands a f i)

  both_spelled : (left : Operand) (right : Value) → both_operands a f left right ≡ type_operands a f left.ty ++ (value_operands a f (tree a.table left.ty) left.value ++ value_operands a f (tree a.table left.ty) right)
  both_spelled left right = append_assoc (type_operands a f left.ty) (value_operands a f (tree a.table left.ty) left.value) (value_operands a f (tree a.table left.ty) right)

  abbrev call_rest : Call → List ℕ
  call_rest c =
      (bool_code c.signature.variadic ∷ []) ++ ((counted (ty (inside a f))).spell (map (tree a.table) c.signature.parameters)
      ++ (value_operands a f ptr c.callee ++ (lines.arguments (inside a f) (map (tree a.table) c.signature.parameters)).spell (map (operand_of a f) c.arguments)))

  pub line_spelled : (i : Inst) → standing.InstructionStands (instruction_of a f i) → joined i ≡ spelled i
  line_spelled (inst.Binary opcode flags result left right) stands =
      ap (λ (l : List ℕ). name_operands a f result ++ flags ∷ l) (both_spelled left right)
      ∙ ap (λ (l : Layout m.Instruction). l.spell (instruction_of a f (inst.Binary opcode flags result left right))) (sym (binary_layout (texts a) (inside a f) opcode stands.0.0))
  line_spelled (inst.Compare flags predicate result left right) stands = ap (λ (l : List ℕ). name_operands a f result ++ flags ∷ predicate_code predicate ∷ l) (both_spelled left right)
  line_spelled (inst.Convert opcode flags result operand to) stands =
      ap (λ (l : Layout m.Instruction). l.spell (instruction_of a f (inst.Convert opcode flags result operand to))) (sym (cast_layout (texts a) (inside a f) opcode stands.0.0))
  line_spelled (inst.Select result choice) stands = refl
  line_spelled (inst.Freeze result operand) stands = refl
  line_spelled (inst.Phi result ty incoming) stands = refl
  line_spelled (inst.Load flags result ty address align) stands = refl
  line_spelled (inst.Store flags stored address align) stands = refl
  line_spelled (inst.Alloca result ty count align) stands = refl
  line_spelled (inst.GetElementPtr flags result source base indices) stands = refl
  line_spelled (inst.Call call) stands =
      ap (λ (l : List ℕ). type_operands a f call.signature.returns ++ (l ++ call_rest call)) (result_spelled (is_void (tree a.table call.signature.returns)) call.result stands.1)
  line_spelled (inst.ExtractValue result aggregate indices) stands = refl
  line_spelled (inst.InsertValue result insertion) stands = refl
