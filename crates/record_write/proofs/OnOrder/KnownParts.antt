-- The ids of the parts of an arena are those of the arena.
use Rattle.std.proofs.Common.{◌≡◌, ℕ, zero, suc, ◌+◌, ◌<◌, All, List, [], ◌∷◌, map, length, get_or, slice_get, Option, Some, None, sym, subst, arith}
use Rattle.std.specs.Prelude.{option_to_list}
use Rattle.std.proofs.lemmas.List.{length-map}
use Rattle.type_table.proofs.UnderIds.{get_or-map}
use Rattle.std.proofs.lemmas.Option.{get_or_from_slice_get, slice_get_within}
use Rattle.std.proofs.lemmas.List.Elements.{All-tail}
use Rattle.module_arena.specs.declared.entry.Block.{Block}
use Rattle.module_arena.specs.declared.entry.Body.{Body}
use Rattle.module_arena.specs.declared.entry.Function.{Function}
use Rattle.module_arena.specs.declared.entry.Variable.{Variable}
use Rattle.module_arena.specs.declared.instruction.Case.{Case}
use Rattle.module_arena.specs.declared.instruction.Ending.{Ending}
use Rattle.module_arena.specs.declared.instruction.Ending.TheVariants as ending
use Rattle.module_arena.specs.declared.instruction.Incoming.{Incoming}
use Rattle.module_arena.specs.declared.instruction.Inst.{Inst}
use Rattle.module_arena.specs.declared.instruction.Inst.TheVariants as inst
use Rattle.module_arena.specs.declared.instruction.Operand.{Operand}
use Rattle.module_arena.specs.declared.instruction.Value.{Value}
use Rattle.module_arena.specs.declared.instruction.Value.TheVariants as value
use Rattle.module_arena.specs.Lists.{Lists}
use Rattle.module_arena.specs.Known as arena
use Rattle.module_arena.specs.Known.{HasValue, HasOperand}
use Rattle.module_arena.specs.Mentions.{end_operands_of}
use Rattle.record_write.specs.Order.Written.{KnowsConstant, KnowsValue, KnowsOperand}
use Rattle.record_write.specs.Order.Known.{KnowsCount, KnowsInst, KnowsCase, KnowsEnding, KnowsBlock}

module _ (a : Lists) (values : ℕ) where
  value_known : (v : Value) → HasValue (length a.constants) values v → KnowsValue a v
  value_known (value.Local id) h = tt
  value_known (value.Known id) h = h

  operand_known : (o : Operand) → HasOperand (length a.table.types) (length a.constants) values o → KnowsOperand a o
  operand_known o h = (h.0, value_known o.value h.1)

  operands_known : (os : List Operand) → All (HasOperand (length a.table.types) (length a.constants) values) os → All (KnowsOperand a) os
  operands_known os h = λ k d lt. operand_known (get_or os k d) (h k d lt)

  incoming_known : (is : List Incoming) → All (HasValue (length a.constants) values) (map (λ i. i.value) is) → All (λ i. KnowsValue a i.value) is
  incoming_known is h = λ k d lt. value_known (get_or is k d).value
      (subst (HasValue (length a.constants) values) (get_or-map (λ (i : Incoming). i.value) is k d) (h k d.value (subst (λ n. k < n) (sym (length-map is (λ i. i.value))) lt)))

  count_known : (count : Option Operand) → All (HasOperand (length a.table.types) (length a.constants) values) (option_to_list count) → KnowsCount a count
  count_known None h = tt
  count_known (Some o) h = operand_known o (h 0 o (omega arith))

  module _ (blocks : ℕ) where
    pub inst_known : (i : Inst) → arena.KnowsInst (length a.table.types) (length a.constants) values blocks i → KnowsInst a i
    inst_known (inst.Binary opcode flags result left right) h = (operand_known left (h.operands_known 0 left (omega arith)), value_known right (h.values_known 0 right (omega arith)))
    inst_known (inst.Compare flags predicate result left right) h = (operand_known left (h.operands_known 0 left (omega arith)), value_known right (h.values_known 0 right (omega arith)))
    inst_known (inst.Convert opcode flags result operand to) h = (operand_known operand (h.operands_known 0 operand (omega arith)), h.types_known 0 to (omega arith))
    inst_known (inst.Select result choice) h =
        (operand_known choice.condition (h.operands_known 0 choice.condition (omega arith)), operand_known choice.first (h.operands_known 1 choice.first (omega arith)), operand_known choice.second (h.operands_known 2 choice.second (omega arith)))
    inst_known (inst.Freeze result operand) h = operand_known operand (h.operands_known 0 operand (omega arith))
    inst_known (inst.Phi result ty incoming) h = (h.types_known 0 ty (omega arith), incoming_known incoming h.values_known)
    inst_known (inst.Load flags result ty address alignment) h = (h.types_known 0 ty (omega arith), operand_known address (h.operands_known 0 address (omega arith)))
    inst_known (inst.Store flags stored address alignment) h = (operand_known stored (h.operands_known 0 stored (omega arith)), operand_known address (h.operands_known 1 address (omega arith)))
    inst_known (inst.Alloca result ty count alignment) h = (h.types_known 0 ty (omega arith), count_known count h.operands_known)
    inst_known (inst.GetElementPtr flags result source base indices) h =
        (h.types_known 0 source (omega arith), operand_known base (h.operands_known 0 base (omega arith)), operands_known indices (All-tail (HasOperand (length a.table.types) (length a.constants) values) base indices h.operands_known))
    inst_known (inst.Call call) h =
        ((h.types_known 0 call.signature.returns (omega arith), All-tail (λ ty. ty < length a.table.types) call.signature.returns call.signature.parameters h.types_known), value_known call.callee (h.values_known 0 call.callee (omega arith)), operands_known call.arguments h.operands_known)
    inst_known (inst.ExtractValue result aggregate indices) h = operand_known aggregate (h.operands_known 0 aggregate (omega arith))
    inst_known (inst.InsertValue result insertion) h = (operand_known insertion.aggregate (h.operands_known 0 insertion.aggregate (omega arith)), operand_known insertion.part (h.operands_known 1 insertion.part (omega arith)))

    cases_known : (cs : List Case) → All (HasOperand (length a.table.types) (length a.constants) values) (map (λ c. record { ty = c.ty; value = value.Known c.value }) cs) → All (KnowsCase a) cs
    cases_known [] h = λ k d lt. absurd (omega (arith, lt))
    cases_known (c ∷ cs) h = λ k d lt. elim k as (λ n. n < suc (length cs) → KnowsCase a (get_or (c ∷ cs) n d)) [
      | zero ↦ (λ l. h 0 (record { ty = c.ty; value = value.Known c.value }) (omega arith))
      | suc n ↦ (λ l. cases_known cs (All-tail (HasOperand (length a.table.types) (length a.constants) values) (record { ty = c.ty; value = value.Known c.value }) (map (λ x. record { ty = x.ty; value = value.Known x.value }) cs) h) n d (omega (arith, l)))
    ] lt

    ending_known : (e : Ending) → All (HasOperand (length a.table.types) (length a.constants) values) (end_operands_of e) → KnowsEnding a e
    ending_known ending.ReturnVoid h = tt
    ending_known (ending.Return operand) h = operand_known operand (h 0 operand (omega arith))
    ending_known (ending.Jump target) h = tt
    ending_known (ending.Branch condition then_to else_to) h = operand_known condition (h 0 condition (omega arith))
    ending_known (ending.Switch operand otherwise cases) h = (operand_known operand (h 0 operand (omega arith)), cases_known cases (All-tail (HasOperand (length a.table.types) (length a.constants) values) operand (map (λ c. record { ty = c.ty; value = value.Known c.value }) cases) h))
    ending_known ending.Unreachable h = tt

    pub block_known : (b : Block) → arena.KnowsBlock (length a.table.types) (length a.constants) values blocks b → KnowsBlock a b
    block_known b h = ((λ k d lt. inst_known (get_or b.instructions k d) (h.instructions_known k d lt)), ending_known b.end h.operands_known)

-- ---- entries

pub blocks_known : (a : Lists) (f : Function) → arena.KnowsFunction (length a.table.types) (length a.constants) f → (b : Body) → f.body ≡ Some b → All (KnowsBlock a) b.blocks
blocks_known a f h b is =
    let known = subst (λ (o : Option Body). All (arena.KnowsBody (length a.table.types) (length a.constants) (length f.parameters)) (option_to_list o)) is h.body_known in
    let body = known 0 b (omega arith) in
    λ k d lt. block_known a (length f.parameters + length b.results) (length b.blocks) (get_or b.blocks k d) (body.blocks_known k d lt)

pub initialiser_known : (a : Lists) (v : Variable) → arena.KnowsVariable (length a.table.types) (length a.constants) v → (id : ℕ) → v.initialiser ≡ Some id → KnowsConstant a id
initialiser_known a v h id is = subst (λ (o : Option ℕ). All (λ c. c < length a.constants) (option_to_list o)) is h.initialiser_known 0 id (omega arith)

-- an item of a list of which all holds
pub item_known : {X : Type 0} (P : X → Type 0) (xs : List X) (i : ℕ) (x : X) → i < length xs → x ≡ get_or xs i x → All P xs → P x
item_known P xs i x lt is h = subst P (sym is) (h i x lt)

pub entry_known : {X : Type 0} (P : X → Type 0) (xs : List X) (i : ℕ) (x : X) → slice_get xs i ≡ Some x → All P xs → P x
entry_known P xs i x at h = subst P (get_or_from_slice_get xs i x x at) (h i x (slice_get_within xs i x at))
