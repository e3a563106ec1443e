-- What every arena knows of an instruction and of the end of a block, as each of the rules asks for it.
use Rattle.std.proofs.Common.{◌≡◌, ℕ, ◌<◌, List, [], ◌∷◌, All, map, length, refl, subst, sym}
use Rattle.std.proofs.lemmas.List.Elements.{All-cons, All-head, All-nil, All-tail, All-weaker}
use Rattle.module_arena.specs.Known.{HasOperand, HasValue, KnowsInst}
use Rattle.module_arena.specs.Lists.{Lists}
use Rattle.module_arena.specs.Mentions as mentions
use Rattle.module_arena.specs.declared.instruction.Ending as the_ending
use Rattle.module_arena.specs.declared.instruction.Ending.TheVariants as ending
use Rattle.module_arena.specs.declared.instruction.Incoming.{Incoming}
use Rattle.module_arena.specs.declared.instruction.Inst as the_inst
use Rattle.module_arena.specs.declared.instruction.Inst.TheVariants as inst
use Rattle.module_arena.specs.declared.instruction.Operand.{Operand}
use Rattle.module_arena.specs.declared.instruction.Value as the_value
use Rattle.module_arena.specs.declared.instruction.Value.TheVariants as value
use Rattle.path_rows.specs.Operands.{end_operands_of, incoming_operand, operands_of}
use Rattle.instruction_verify.specs.ArenaOperands as within
use Rattle.instruction_verify.specs.Last.CallsById as calls
use Rattle.instruction_verify.specs.Uses.Classes.{HasClass}
use Rattle.instruction_verify.specs.Uses.Uses as uses

module _ (a : Lists) (values : ℕ) where
  abbrev Known : Operand → Type 0
  Known o = HasOperand (length a.table.types) (length a.constants) values o

  abbrev Valued : the_value.Value → Type 0
  Valued v = HasValue (length a.constants) values v

  pair_known : (left : Operand) (right : the_value.Value) → All Known (left ∷ []) → All Valued (right ∷ []) → All Known (left ∷ record { ty = left.ty; value = right } ∷ [])
  pair_known left right l r =
      let first = All-head Known left [] l in
      All-cons Known left (record { ty = left.ty; value = right } ∷ []) first
      (All-cons Known (record { ty = left.ty; value = right }) [] (first.0, All-head Valued right [] r) (All-nil Known))

  phi_known : (ty : ℕ) → ty < length a.table.types → (is : List Incoming) → All Valued (map (λ (i : Incoming). i.value) is) → All Known (map (incoming_operand ty) is)
  phi_known ty t [] h = All-nil Known
  phi_known ty t (i ∷ is) h =
      let others = map (λ (x : Incoming). x.value) is in
      All-cons Known (incoming_operand ty i) (map (incoming_operand ty) is) (t, All-head Valued i.value others h) (phi_known ty t is (All-tail Valued i.value others h))

  module _ (blocks : ℕ) where
    abbrev KnowsIt : the_inst.Inst → Type 0
    KnowsIt i = KnowsInst (length a.table.types) (length a.constants) values blocks i

    -- the operands of an instruction
    operands_known : (i : the_inst.Inst) → KnowsIt i → All Known (operands_of i)
    operands_known (inst.Binary opcode flags result left right) k = pair_known left right k.operands_known k.values_known
    operands_known (inst.Compare flags predicate result left right) k = pair_known left right k.operands_known k.values_known
    operands_known (inst.Convert opcode flags result operand to) k = k.operands_known
    operands_known (inst.Select result choice) k = k.operands_known
    operands_known (inst.Freeze result operand) k = k.operands_known
    operands_known (inst.Phi result ty incoming) k = phi_known ty (All-head (λ (t : ℕ). t < length a.table.types) ty [] k.types_known) incoming k.values_known
    operands_known (inst.Load flags result ty address alignment) k = k.operands_known
    operands_known (inst.Store flags stored address alignment) k = k.operands_known
    operands_known (inst.Alloca result ty count alignment) k = k.operands_known
    operands_known (inst.GetElementPtr flags result source base indices) k = k.operands_known
    operands_known (inst.Call call) k = k.operands_known
    operands_known (inst.ExtractValue result aggregate indices) k = k.operands_known
    operands_known (inst.InsertValue result insertion) k = k.operands_known

  value_local : (v : the_value.Value) → Valued v → uses.HasLocal values v
  value_local (value.Local id) h = h
  value_local (value.Known id) h = tt

  value_class : (v : the_value.Value) → Valued v → HasClass (length a.constants) v
  value_class (value.Local id) h = tt
  value_class (value.Known id) h = h

  value_within : (v : the_value.Value) → Valued v → within.HasConstant a v
  value_within (value.Local id) h = tt
  value_within (value.Known id) h = h

  operand_within : (o : Operand) → Known o → within.HasOperand a o
  operand_within o h = (h.0, value_within o.value h.1)

  operand_local : (o : Operand) → Known o → uses.HasLocal values o.value
  operand_local o h = value_local o.value h.1

  module _ (blocks : ℕ) (i : the_inst.Inst) (k : KnowsInst (length a.table.types) (length a.constants) values blocks i) where
    -- for the rules on types and intrinsics
    pub inst_within : within.HasInst a i
    inst_within = record {
      operands_known = All-weaker Known (within.HasOperand a) operand_within (mentions.operands_of i) k.operands_known;
      values_known = All-weaker Valued (within.HasConstant a) value_within (mentions.bare_values_of i) k.values_known;
      types_known = k.types_known;
    }

    -- for the rule on phis
    pub classes_known : (classes : ℕ) → classes ≡ length a.constants → All (HasClass classes) (mentions.bare_values_of i)
    classes_known classes many =
        subst (λ (n : ℕ). All (HasClass n) (mentions.bare_values_of i)) (sym many) (All-weaker Valued (HasClass (length a.constants)) value_class (mentions.bare_values_of i) k.values_known)

    -- for the rule on paths
    pub uses_known : uses.HasUses values blocks i
    uses_known = record {
      operands_known = All-weaker Known (λ (o : Operand). uses.HasLocal values o.value) operand_local (operands_of i) (operands_known blocks i k);
      values_known = All-weaker Valued (uses.HasLocal values) value_local (mentions.bare_values_of i) k.values_known;
      blocks_known = k.blocks_known;
    }

    -- its operands as they are listed, by the number of types that are listed
    pub listed_known : (types : ℕ) → types ≡ values → All (HasOperand (length a.table.types) (length a.constants) types) (operands_of i)
    listed_known types many = subst (λ (n : ℕ). All (HasOperand (length a.table.types) (length a.constants) n) (operands_of i)) (sym many) (operands_known blocks i k)

    -- for the rules behind it, by the number of types that are listed
    pub calls_known : (types : ℕ) → types ≡ values → calls.HasUses a types i
    calls_known types many =
        subst (λ (n : ℕ). calls.HasUses a n i) (sym many) (record { operands_known = k.operands_known; values_known = k.values_known; types_known = k.types_known })

  -- ---- ends

  ends_same : (e : the_ending.Ending) → mentions.end_operands_of e ≡ end_operands_of e
  ends_same ending.ReturnVoid = refl
  ends_same (ending.Return operand) = refl
  ends_same (ending.Jump target) = refl
  ends_same (ending.Branch condition then_to else_to) = refl
  ends_same (ending.Switch operand otherwise cases) = refl
  ends_same ending.Unreachable = refl

  module _ (e : the_ending.Ending) (k : All Known (mentions.end_operands_of e)) where
    -- for the rules on types and intrinsics
    pub end_within : All (within.HasOperand a) (mentions.end_operands_of e)
    end_within = All-weaker Known (within.HasOperand a) operand_within (mentions.end_operands_of e) k

    -- for the rules behind that on paths, of the operands as they are listed
    pub end_known : (types : ℕ) (os : List Operand) → types ≡ values → os ≡ end_operands_of e → All (HasOperand (length a.table.types) (length a.constants) types) os
    end_known types os many is =
        subst (λ (n : ℕ). All (HasOperand (length a.table.types) (length a.constants) n) os) (sym many)
        (subst (λ (xs : List Operand). All Known xs) (sym is) (subst (λ (xs : List Operand). All Known xs) (ends_same e) k))

    -- for the rule on paths
    pub end_local : (os : List Operand) → os ≡ end_operands_of e → All (λ (o : Operand). uses.HasLocal values o.value) os
    end_local os is = All-weaker Known (λ (o : Operand). uses.HasLocal values o.value) operand_local os (end_known values os refl is)
