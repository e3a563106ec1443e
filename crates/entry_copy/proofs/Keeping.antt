-- What is moved to other ids has the ids of the other arena, and the blocks and results that it had.
use Rattle.std.proofs.Common.{◌≡◌, ℕ, ◌+◌, ◌^◌, ◌<◌, List, [], ◌∷◌, ◌++◌, map, flat_map, length, All, Option, Some, None, option_to_list, refl, sym, ap, ap₂, ◌∙◌, subst}
use Rattle.std.specs.Option.{option_map}
use Rattle.std.proofs.lemmas.List.{length-map}
use Rattle.std.proofs.lemmas.List.Elements.{All-map, All-weaker}
use Rattle.module_arena.specs.declared.constant.Const as the_const
use Rattle.module_arena.specs.declared.constant.Const.TheVariants as const
use Rattle.module_arena.specs.declared.constant.TypedConst.{TypedConst}
use Rattle.module_arena.specs.declared.entry.AliasType as the_alias_type
use Rattle.module_arena.specs.declared.entry.AliasType.TheVariants as alias_type
use Rattle.module_arena.specs.declared.entry.Block.{Block}
use Rattle.module_arena.specs.declared.entry.Body.{Body}
use Rattle.module_arena.specs.declared.entry.GlobalId.{GlobalId}
use Rattle.module_arena.specs.declared.instruction.Case.{Case}
use Rattle.module_arena.specs.declared.instruction.Ending.{Ending}
use Rattle.module_arena.specs.declared.instruction.Ending.TheVariants as ending
use Rattle.module_arena.specs.declared.instruction.Incoming.{Incoming}
use Rattle.module_arena.specs.declared.instruction.Inst.{Inst}
use Rattle.module_arena.specs.declared.instruction.Inst.TheVariants as inst
use Rattle.module_arena.specs.declared.instruction.Operand.{Operand}
use Rattle.module_arena.specs.declared.instruction.Value.{Value}
use Rattle.module_arena.specs.declared.instruction.Value.TheVariants as value
use Rattle.module_arena.specs.Known.{HasValue, HasOperand, KnowsInst, KnowsBlock, KnowsBody, alias_types}
use Rattle.module_arena.specs.Mentions.{typed_in, types_in, operands_of, bare_values_of, types_of, blocks_of, result_of, end_operands_of, targets_of, block_results}
use Rattle.entry_copy.specs.Tables.{Tables, new_type, new_constant, new_global}
use Rattle.entry_copy.specs.Moved.{address_of, moved_typed, moved_constant, moved_value, moved_operand, moved_incoming, moved_inst, moved_case, moved_ending, moved_block, moved_body, moved_alias_type}

-- all of what is moved
pub all_moved : {A : Type 0} (move : A → A) (P Q : A → Type 0) → ((x : A) → P x → Q (move x)) → (xs : List A) → All P xs → All Q (map move xs)
all_moved move P Q one xs all = All-map Q move xs (All-weaker P (λ x. Q (move x)) one xs all)

module _ (t : Tables) where
  -- ---- what is mentioned in what is moved

  pub alias_types-moved : (x : the_alias_type.AliasType) → alias_types (moved_alias_type t x) ≡ map (new_type t) (alias_types x)
  alias_types-moved (alias_type.Plain ty) = refl
  alias_types-moved (alias_type.Function returns parameters variadic) = refl

  typed_in-address : (o : Option GlobalId) → typed_in (address_of o) ≡ []
  typed_in-address None = refl
  typed_in-address (Some g) = refl

  types_in-address : (o : Option GlobalId) → types_in (address_of o) ≡ []
  types_in-address None = refl
  types_in-address (Some g) = refl

  pub typed_in-moved : (c : the_const.Const) → typed_in (moved_constant t c) ≡ map (moved_typed t) (typed_in c)
  typed_in-moved (const.Integer number) = refl
  typed_in-moved (const.Truth truth) = refl
  typed_in-moved const.Null = refl
  typed_in-moved const.Undef = refl
  typed_in-moved const.Poison = refl
  typed_in-moved const.ZeroInitializer = refl
  typed_in-moved (const.Address g) = typed_in-address (new_global t g)
  typed_in-moved (const.ByteString bytes) = refl
  typed_in-moved (const.Aggregate round elements) = refl
  typed_in-moved (const.ElementAddress flags address) = refl
  typed_in-moved (const.Cast opcode operand to) = refl
  typed_in-moved (const.Binary opcode flags pair) = refl

  pub types_in-moved : (c : the_const.Const) → types_in (moved_constant t c) ≡ map (new_type t) (types_in c)
  types_in-moved (const.Integer number) = refl
  types_in-moved (const.Truth truth) = refl
  types_in-moved const.Null = refl
  types_in-moved const.Undef = refl
  types_in-moved const.Poison = refl
  types_in-moved const.ZeroInitializer = refl
  types_in-moved (const.Address g) = types_in-address (new_global t g)
  types_in-moved (const.ByteString bytes) = refl
  types_in-moved (const.Aggregate round elements) = refl
  types_in-moved (const.ElementAddress flags address) = refl
  types_in-moved (const.Cast opcode operand to) = refl
  types_in-moved (const.Binary opcode flags pair) = refl

  counted : (o : Option Operand) → option_to_list (option_map (moved_operand t) o) ≡ map (moved_operand t) (option_to_list o)
  counted None = refl
  counted (Some x) = refl

  operands-moved : (i : Inst) → operands_of (moved_inst t i) ≡ map (moved_operand t) (operands_of i)
  operands-moved (inst.Binary opcode flags result left right) = refl
  operands-moved (inst.Compare flags predicate result left right) = refl
  operands-moved (inst.Convert opcode flags result operand to) = refl
  operands-moved (inst.Select result choice) = refl
  operands-moved (inst.Freeze result operand) = refl
  operands-moved (inst.Phi result ty incoming) = refl
  operands-moved (inst.Load flags result ty address alignment) = refl
  operands-moved (inst.Store flags stored address alignment) = refl
  operands-moved (inst.Alloca result ty many alignment) = counted many
  operands-moved (inst.GetElementPtr flags result source base indices) = refl
  operands-moved (inst.Call call) = refl
  operands-moved (inst.ExtractValue result aggregate indices) = refl
  operands-moved (inst.InsertValue result insertion) = refl

  incoming_values : (is : List Incoming) → map (λ (i : Incoming). i.value) (map (moved_incoming t) is) ≡ map (moved_value t) (map (λ (i : Incoming). i.value) is)
  incoming_values [] = refl
  incoming_values (i ∷ is) = ap (λ vs. moved_value t i.value ∷ vs) (incoming_values is)

  incoming_blocks : (is : List Incoming) → map (λ (i : Incoming). i.block) (map (moved_incoming t) is) ≡ map (λ (i : Incoming). i.block) is
  incoming_blocks [] = refl
  incoming_blocks (i ∷ is) = ap (λ bs. i.block ∷ bs) (incoming_blocks is)

  values-moved : (i : Inst) → bare_values_of (moved_inst t i) ≡ map (moved_value t) (bare_values_of i)
  values-moved (inst.Binary opcode flags result left right) = refl
  values-moved (inst.Compare flags predicate result left right) = refl
  values-moved (inst.Convert opcode flags result operand to) = refl
  values-moved (inst.Select result choice) = refl
  values-moved (inst.Freeze result operand) = refl
  values-moved (inst.Phi result ty incoming) = incoming_values incoming
  values-moved (inst.Load flags result ty address alignment) = refl
  values-moved (inst.Store flags stored address alignment) = refl
  values-moved (inst.Alloca result ty many alignment) = refl
  values-moved (inst.GetElementPtr flags result source base indices) = refl
  values-moved (inst.Call call) = refl
  values-moved (inst.ExtractValue result aggregate indices) = refl
  values-moved (inst.InsertValue result insertion) = refl

  types-moved : (i : Inst) → types_of (moved_inst t i) ≡ map (new_type t) (types_of i)
  types-moved (inst.Binary opcode flags result left right) = refl
  types-moved (inst.Compare flags predicate result left right) = refl
  types-moved (inst.Convert opcode flags result operand to) = refl
  types-moved (inst.Select result choice) = refl
  types-moved (inst.Freeze result operand) = refl
  types-moved (inst.Phi result ty incoming) = refl
  types-moved (inst.Load flags result ty address alignment) = refl
  types-moved (inst.Store flags stored address alignment) = refl
  types-moved (inst.Alloca result ty many alignment) = refl
  types-moved (inst.GetElementPtr flags result source base indices) = refl
  types-moved (inst.Call call) = refl
  types-moved (inst.ExtractValue result aggregate indices) = refl
  types-moved (inst.InsertValue result insertion) = refl

  blocks-moved : (i : Inst) → blocks_of (moved_inst t i) ≡ blocks_of i
  blocks-moved (inst.Binary opcode flags result left right) = refl
  blocks-moved (inst.Compare flags predicate result left right) = refl
  blocks-moved (inst.Convert opcode flags result operand to) = refl
  blocks-moved (inst.Select result choice) = refl
  blocks-moved (inst.Freeze result operand) = refl
  blocks-moved (inst.Phi result ty incoming) = incoming_blocks incoming
  blocks-moved (inst.Load flags result ty address alignment) = refl
  blocks-moved (inst.Store flags stored address alignment) = refl
  blocks-moved (inst.Alloca result ty many alignment) = refl
  blocks-moved (inst.GetElementPtr flags result source base indices) = refl
  blocks-moved (inst.Call call) = refl
  blocks-moved (inst.ExtractValue result aggregate indices) = refl
  blocks-moved (inst.InsertValue result insertion) = refl

  result-moved : (i : Inst) → result_of (moved_inst t i) ≡ result_of i
  result-moved (inst.Binary opcode flags result left right) = refl
  result-moved (inst.Compare flags predicate result left right) = refl
  result-moved (inst.Convert opcode flags result operand to) = refl
  result-moved (inst.Select result choice) = refl
  result-moved (inst.Freeze result operand) = refl
  result-moved (inst.Phi result ty incoming) = refl
  result-moved (inst.Load flags result ty address alignment) = refl
  result-moved (inst.Store flags stored address alignment) = refl
  result-moved (inst.Alloca result ty many alignment) = refl
  result-moved (inst.GetElementPtr flags result source base indices) = refl
  result-moved (inst.Call call) = refl
  result-moved (inst.ExtractValue result aggregate indices) = refl
  result-moved (inst.InsertValue result insertion) = refl

  results_in : (is : List Inst) → flat_map result_of (map (moved_inst t) is) ≡ flat_map result_of is
  results_in [] = refl
  results_in (i ∷ is) = ap₂ (λ xs ys. xs ++ ys) (result-moved i) (results_in is)

  results-moved : (bs : List Block) → flat_map block_results (map (moved_block t) bs) ≡ flat_map block_results bs
  results-moved [] = refl
  results-moved (b ∷ bs) = ap₂ (λ xs ys. xs ++ ys) (results_in b.instructions) (results-moved bs)

  abbrev as_operand : Case → Operand
  as_operand c = record { ty = c.ty; value = value.Known c.value }

  case_operands : (xs : List Case) → map as_operand (map (moved_case t) xs) ≡ map (moved_operand t) (map as_operand xs)
  case_operands [] = refl
  case_operands (x ∷ xs) = ap (λ os. moved_operand t (as_operand x) ∷ os) (case_operands xs)

  case_targets : (xs : List Case) → map (λ (c : Case). c.target) (map (moved_case t) xs) ≡ map (λ (c : Case). c.target) xs
  case_targets [] = refl
  case_targets (x ∷ xs) = ap (λ bs. x.target ∷ bs) (case_targets xs)

  end_operands-moved : (e : Ending) → end_operands_of (moved_ending t e) ≡ map (moved_operand t) (end_operands_of e)
  end_operands-moved ending.ReturnVoid = refl
  end_operands-moved (ending.Return operand) = refl
  end_operands-moved (ending.Jump target) = refl
  end_operands-moved (ending.Branch condition then_to else_to) = refl
  end_operands-moved (ending.Switch operand otherwise cases) = ap (λ os. moved_operand t operand ∷ os) (case_operands cases)
  end_operands-moved ending.Unreachable = refl

  targets-moved : (e : Ending) → targets_of (moved_ending t e) ≡ targets_of e
  targets-moved ending.ReturnVoid = refl
  targets-moved (ending.Return operand) = refl
  targets-moved (ending.Jump target) = refl
  targets-moved (ending.Branch condition then_to else_to) = refl
  targets-moved (ending.Switch operand otherwise cases) = ap (λ bs. otherwise ∷ bs) (case_targets cases)
  targets-moved ending.Unreachable = refl

  -- ---- it is known

  module _ (types more_types : ℕ) (type_known : (id : ℕ) → id < types → new_type t id < more_types) where
    pub types_known : (ids : List ℕ) → All (λ id. id < types) ids → All (λ id. id < more_types) (map (new_type t) ids)
    types_known ids all = all_moved (new_type t) (λ id. id < types) (λ id. id < more_types) type_known ids all

    module _ (count more : ℕ) (constant_known : (id : ℕ) → id < count → new_constant t id < more) where
      pub typed_known : (xs : List TypedConst) → All (λ (x : TypedConst). (x.ty < types) × (x.value < count)) xs
          → All (λ (x : TypedConst). (x.ty < more_types) × (x.value < more)) (map (moved_typed t) xs)
      typed_known xs all =
          all_moved (moved_typed t) (λ (x : TypedConst). (x.ty < types) × (x.value < count)) (λ (x : TypedConst). (x.ty < more_types) × (x.value < more))
          (λ x k. (type_known x.ty k.0, constant_known x.value k.1)) xs all

      module _ (values blocks : ℕ) where
        value_known : (v : Value) → HasValue count values v → HasValue more values (moved_value t v)
        value_known (value.Local id) k = k
        value_known (value.Known id) k = constant_known id k

        operand_known : (o : Operand) → HasOperand types count values o → HasOperand more_types more values (moved_operand t o)
        operand_known o k = (type_known o.ty k.0, value_known o.value k.1)

        operands_known : (os : List Operand) → All (HasOperand types count values) os → All (HasOperand more_types more values) (map (moved_operand t) os)
        operands_known os all = all_moved (moved_operand t) (HasOperand types count values) (HasOperand more_types more values) operand_known os all

        inst_known : (i : Inst) → KnowsInst types count values blocks i → KnowsInst more_types more values blocks (moved_inst t i)
        inst_known i k = record {
          operands_known = subst (All (HasOperand more_types more values)) (sym (operands-moved i)) (operands_known (operands_of i) k.operands_known);
          values_known = subst (All (HasValue more values)) (sym (values-moved i)) (all_moved (moved_value t) (HasValue count values) (HasValue more values) value_known (bare_values_of i) k.values_known);
          types_known = subst (All (λ ty. ty < more_types)) (sym (types-moved i)) (types_known (types_of i) k.types_known);
          blocks_known = subst (All (λ id. id < blocks)) (sym (blocks-moved i)) k.blocks_known;
        }

        block_known : (b : Block) → KnowsBlock types count values blocks b → KnowsBlock more_types more values blocks (moved_block t b)
        block_known b k = record {
          instructions_known = all_moved (moved_inst t) (KnowsInst types count values blocks) (KnowsInst more_types more values blocks) inst_known b.instructions k.instructions_known;
          operands_known = subst (All (HasOperand more_types more values)) (sym (end_operands-moved b.end)) (operands_known (end_operands_of b.end) k.operands_known);
          targets_known = subst (All (λ id. id < blocks)) (sym (targets-moved b.end)) k.targets_known;
        }

      pub body_known : (parameters : ℕ) (b : Body) → KnowsBody types count parameters b → KnowsBody more_types more parameters (moved_body t b)
      body_known parameters b k =
          let many = length-map b.blocks (moved_block t) in
          let values = parameters + length b.results in
          record {
            few_values = k.few_values;
            few_blocks = subst (λ n. n < 2 ^ 32) (sym many) k.few_blocks;
            in_order = results-moved b.blocks ∙ k.in_order;
            blocks_known = subst (λ n. All (KnowsBlock more_types more values n) (map (moved_block t) b.blocks)) (sym many)
                (all_moved (moved_block t) (KnowsBlock types count values (length b.blocks)) (KnowsBlock more_types more values (length b.blocks)) (block_known values (length b.blocks)) b.blocks k.blocks_known);
          }
