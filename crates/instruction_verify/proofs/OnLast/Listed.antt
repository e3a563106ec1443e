-- What is known of an instruction is known of its operands in a list, and every arena knows it.
use Rattle.std.proofs.Common.{◌≡◌, ℕ, ◌<◌, List, [], ◌∷◌, All, map, length, refl, subst}
use Rattle.std.specs.Option.{option_to_list}
use Rattle.std.proofs.lemmas.List.Elements.{All-cons, All-head, All-nil, All-tail, All-weaker}
use Rattle.module_arena.specs.Known.{HasOperand, HasValue, KnowsInst}
use Rattle.module_arena.specs.Lists.{Lists}
use Rattle.module_arena.specs.Mentions as mentions
use Rattle.module_arena.specs.declared.instruction.Ending as the_ending
use Rattle.module_arena.specs.declared.instruction.Ending.TheVariants as ending
use Rattle.module_arena.specs.declared.instruction.Incoming.{Incoming}
use Rattle.module_arena.specs.declared.instruction.Inst as the_inst
use Rattle.module_arena.specs.declared.instruction.Inst.TheVariants as inst
use Rattle.module_arena.specs.declared.instruction.Operand.{Operand}
use Rattle.module_arena.specs.declared.instruction.Value as the_value
use Rattle.module_arena.specs.declared.instruction.Value.TheVariants as value
use Rattle.path_rows.specs.Operands.{callee_of, end_operands_of, incoming_operand, operands_of}
use Rattle.instruction_verify.specs.ArenaOperands as within
use Rattle.instruction_verify.specs.Last.ValuesById.{HasConstant, IsTyped}
use Rattle.instruction_verify.specs.Last.CallsById.{HasUses}

module _ (a : Lists) (values : ℕ) where
  abbrev Known : Operand → Type 0
  Known o = HasOperand (length a.table.types) (length a.constants) values o

  abbrev Valued : the_value.Value → Type 0
  Valued v = HasValue (length a.constants) values v

  pair_known : (left : Operand) (right : the_value.Value) → All Known (left ∷ []) → All Valued (right ∷ []) → All Known (left ∷ record { ty = left.ty; value = right } ∷ [])
  pair_known left right l r =
      let first = All-head Known left [] l in
      All-cons Known left (record { ty = left.ty; value = right } ∷ []) first
      (All-cons Known (record { ty = left.ty; value = right }) [] (first.0, All-head Valued right [] r) (All-nil Known))

  phi_known : (ty : ℕ) → ty < length a.table.types → (is : List Incoming) → All Valued (map (λ (i : Incoming). i.value) is) → All Known (map (incoming_operand ty) is)
  phi_known ty t [] h = All-nil Known
  phi_known ty t (i ∷ is) h =
      let others = map (λ (x : Incoming). x.value) is in
      All-cons Known (incoming_operand ty i) (map (incoming_operand ty) is) (t, All-head Valued i.value others h) (phi_known ty t is (All-tail Valued i.value others h))

  -- the operands of an instruction
  pub operands_known : (i : the_inst.Inst) → HasUses a values i → All Known (operands_of i)
  operands_known (inst.Binary opcode flags result left right) k = pair_known left right k.operands_known k.values_known
  operands_known (inst.Compare flags predicate result left right) k = pair_known left right k.operands_known k.values_known
  operands_known (inst.Convert opcode flags result operand to) k = k.operands_known
  operands_known (inst.Select result choice) k = k.operands_known
  operands_known (inst.Freeze result operand) k = k.operands_known
  operands_known (inst.Phi result ty incoming) k = phi_known ty (All-head (λ (t : ℕ). t < length a.table.types) ty [] k.types_known) incoming k.values_known
  operands_known (inst.Load flags result ty address alignment) k = k.operands_known
  operands_known (inst.Store flags stored address alignment) k = k.operands_known
  operands_known (inst.Alloca result ty count alignment) k = k.operands_known
  operands_known (inst.GetElementPtr flags result source base indices) k = k.operands_known
  operands_known (inst.Call call) k = k.operands_known
  operands_known (inst.ExtractValue result aggregate indices) k = k.operands_known
  operands_known (inst.InsertValue result insertion) k = k.operands_known

  value_constant : (v : the_value.Value) → Valued v → HasConstant (length a.constants) v
  value_constant (value.Local id) h = tt
  value_constant (value.Known id) h = h

  -- their types and constants
  pub are_typed : (os : List Operand) → All Known os → All (IsTyped a) os
  are_typed os h = All-weaker Known (IsTyped a) (λ o k. (k.0, value_constant o.value k.1)) os h

  -- what it calls
  pub callee_known : (i : the_inst.Inst) → HasUses a values i → All (HasConstant (length a.constants)) (option_to_list (callee_of i))
  callee_known (inst.Binary opcode flags result left right) k = All-nil (HasConstant (length a.constants))
  callee_known (inst.Compare flags predicate result left right) k = All-nil (HasConstant (length a.constants))
  callee_known (inst.Convert opcode flags result operand to) k = All-nil (HasConstant (length a.constants))
  callee_known (inst.Select result choice) k = All-nil (HasConstant (length a.constants))
  callee_known (inst.Freeze result operand) k = All-nil (HasConstant (length a.constants))
  callee_known (inst.Phi result ty incoming) k = All-nil (HasConstant (length a.constants))
  callee_known (inst.Load flags result ty address alignment) k = All-nil (HasConstant (length a.constants))
  callee_known (inst.Store flags stored address alignment) k = All-nil (HasConstant (length a.constants))
  callee_known (inst.Alloca result ty count alignment) k = All-nil (HasConstant (length a.constants))
  callee_known (inst.GetElementPtr flags result source base indices) k = All-nil (HasConstant (length a.constants))
  callee_known (inst.Call call) k = All-weaker Valued (HasConstant (length a.constants)) value_constant (call.callee ∷ []) k.values_known
  callee_known (inst.ExtractValue result aggregate indices) k = All-nil (HasConstant (length a.constants))
  callee_known (inst.InsertValue result insertion) k = All-nil (HasConstant (length a.constants))

  value_within : (v : the_value.Value) → Valued v → within.HasConstant a v
  value_within (value.Local id) h = tt
  value_within (value.Known id) h = h

  operand_within : (o : Operand) → Known o → within.HasOperand a o
  operand_within o h = (h.0, value_within o.value h.1)

  -- the types and constants of an instruction are of the arena
  pub inst_within : (i : the_inst.Inst) → HasUses a values i → within.HasInst a i
  inst_within i k = record {
    operands_known = All-weaker Known (within.HasOperand a) operand_within (mentions.operands_of i) k.operands_known;
    values_known = All-weaker Valued (within.HasConstant a) value_within (mentions.bare_values_of i) k.values_known;
    types_known = k.types_known;
  }

  ends_same : (e : the_ending.Ending) → end_operands_of e ≡ mentions.end_operands_of e
  ends_same ending.ReturnVoid = refl
  ends_same (ending.Return operand) = refl
  ends_same (ending.Jump target) = refl
  ends_same (ending.Branch condition then_to else_to) = refl
  ends_same (ending.Switch operand otherwise cases) = refl
  ends_same ending.Unreachable = refl

  -- those of an end
  pub end_within : (e : the_ending.Ending) → All Known (end_operands_of e) → All (within.HasOperand a) (mentions.end_operands_of e)
  end_within e h = All-weaker Known (within.HasOperand a) operand_within (mentions.end_operands_of e) (subst (λ (os : List Operand). All Known os) (ends_same e) h)

  -- what every arena knows of its instructions is enough
  pub uses_known : (blocks : ℕ) (i : the_inst.Inst) → KnowsInst (length a.table.types) (length a.constants) values blocks i → HasUses a values i
  uses_known blocks i k = record { operands_known = k.operands_known; values_known = k.values_known; types_known = k.types_known }

  -- and of its ends
  pub end_known : (e : the_ending.Ending) → All Known (mentions.end_operands_of e) → All Known (end_operands_of e)
  end_known ending.ReturnVoid h = h
  end_known (ending.Return operand) h = h
  end_known (ending.Jump target) h = h
  end_known (ending.Branch condition then_to else_to) h = h
  end_known (ending.Switch operand otherwise cases) h = h
  end_known ending.Unreachable h = h
