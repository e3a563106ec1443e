-- What is moved to other ids stands for the renamed, where types and constants do.
use Rattle.std.proofs.Common.{◌≡◌, ℕ, ◌+◌, ◌<◌, List, [], ◌∷◌, ◌++◌, map, flat_map, length, All, Option, Some, None, option_to_list, refl, ap, ◌∙◌}
use Rattle.std.specs.Option.{option_map, option_map_or}
use Rattle.std.proofs.lemmas.List.Elements.{All-head, All-tail}
use Rattle.type_table.specs.Tree.{Tree}
use Rattle.type_table.specs.Tree.Trees.{more_trees}
use Rattle.type_table.specs.Types.{trees_at}
use Rattle.type_table.proofs.Judged.{All-left, All-right}
use Rattle.module_arena.specs.declared.constant.Const as the_const
use Rattle.module_arena.specs.declared.constant.Const.TheVariants as const
use Rattle.module_arena.specs.declared.constant.TypedConst.{TypedConst}
use Rattle.module_arena.specs.declared.entry.AliasType as the_alias_type
use Rattle.module_arena.specs.declared.entry.AliasType.TheVariants as alias_type
use Rattle.module_arena.specs.declared.entry.Block as the_block
use Rattle.module_arena.specs.declared.entry.Body as the_body
use Rattle.module_arena.specs.declared.entry.GlobalId.{GlobalId}
use Rattle.module_arena.specs.declared.entry.Parameter as the_parameter
use Rattle.module_arena.specs.declared.instruction.Case as the_case
use Rattle.module_arena.specs.declared.instruction.Ending as the_ending
use Rattle.module_arena.specs.declared.instruction.Ending.TheVariants as ending
use Rattle.module_arena.specs.declared.instruction.Incoming as the_incoming
use Rattle.module_arena.specs.declared.instruction.Inst.{Inst}
use Rattle.module_arena.specs.declared.instruction.Inst.TheVariants as inst
use Rattle.module_arena.specs.declared.instruction.Operand as the_operand
use Rattle.module_arena.specs.declared.instruction.Value as the_value
use Rattle.module_arena.specs.declared.instruction.Value.TheVariants as value
use Rattle.module_arena.specs.Known.{Counts, HasGlobal, KnowsConst, HasValue, HasOperand, KnowsInst, KnowsBlock, KnowsBody, alias_types}
use Rattle.module_arena.specs.Mentions.{end_operands_of}
use Rattle.module_arena.specs.Module.{Bytes, LocalName, AliasType, Constant, Value, Operand, Operation, Ending}
use Rattle.module_arena.specs.Module.Constants.{more_constants}
use Rattle.module_arena.specs.Renamed.{renamed_tree, renamed_trees, renamed_alias_type, renamed_parameter, renamed_constant, renamed_constants, renamed_value, renamed_operand, renamed_incoming, renamed_instruction, renamed_case, renamed_ending, renamed_block}
use Rattle.module_arena.specs.UsedNames.{names_in_constant, names_in_constants, names_in_value, names_in_operand, names_in_incoming, names_in_instruction, names_in_case, names_in_ending, names_in_block}
use Rattle.module_arena.specs.View.{brackets_view, local_view, type_at, constant_at, constants_at, constant_view, parameter_view, alias_type_view, value_name, block_name, value_view, operand_view, incoming_view, case_view, gives, inst_view, ending_view, block_view, body_view}
use Rattle.entry_copy.specs.Tables.{Tables, new_type, new_constant, new_global}
use Rattle.entry_copy.specs.Moved.{address_of, moved_typed, moved_constant, moved_value, moved_operand, moved_incoming, moved_inst, moved_case, moved_ending, moved_block, moved_body, moved_parameter, moved_alias_type}

-- items that are moved one by one
pub each_moved : {A B : Type 0} (move : A → A) (old new : A → B) (rename : B → B) (P : A → Type 0) → ((x : A) → P x → new (move x) ≡ rename (old x))
    → (xs : List A) → All P xs → map new (map move xs) ≡ map rename (map old xs)
each_moved move old new rename P one [] all = refl
each_moved move old new rename P one (x ∷ xs) all = λ j. one x (All-head P x xs all) j ∷ each_moved move old new rename P one xs (All-tail P x xs all) j

-- the same of items with names in them
pub each_named : {A B : Type 0} (move : A → A) (old new : A → B) (rename : B → B) (names : B → List Bytes) (P : A → Type 0) (Q : Bytes → Type 0)
    → ((x : A) → P x → All Q (names (old x)) → new (move x) ≡ rename (old x))
    → (xs : List A) → All P xs → All Q (flat_map names (map old xs)) → map new (map move xs) ≡ map rename (map old xs)
each_named move old new rename names P Q one [] all named = refl
each_named move old new rename names P Q one (x ∷ xs) all named =
    let rest = flat_map names (map old xs) in
    λ j. one x (All-head P x xs all) (All-left Q (names (old x)) rest named) j
    ∷ each_named move old new rename names P Q one xs (All-tail P x xs all) (All-right Q (names (old x)) rest named) j

module _ (t : Tables) (structs : Bytes → Bytes) (ts us : List Tree) (types : ℕ)
    (type_is : (id : ℕ) → id < types → type_at us (new_type t id) ≡ renamed_tree structs (type_at ts id)) where
  abbrev T : ℕ → Type 0
  T = λ id. id < types

  pub trees_moved : (ids : List ℕ) → All T ids → trees_at us (map (new_type t) ids) ≡ renamed_trees structs (trees_at ts ids)
  trees_moved [] all = refl
  trees_moved (id ∷ ids) all = λ j. more_trees (type_is id (All-head T id ids all) j) (trees_moved ids (All-tail T id ids all) j)

  pub types_moved : (ids : List ℕ) → All T ids → map (type_at us) (map (new_type t) ids) ≡ map (renamed_tree structs) (map (type_at ts) ids)
  types_moved ids all = each_moved (new_type t) (type_at ts) (type_at us) (renamed_tree structs) T type_is ids all

  pub parameters_moved : (ps : List the_parameter.Parameter) → All (λ (p : the_parameter.Parameter). T p.ty) ps
      → map (parameter_view us) (map (moved_parameter t) ps) ≡ map (renamed_parameter structs) (map (parameter_view ts) ps)
  parameters_moved ps all =
      each_moved (moved_parameter t) (parameter_view ts) (parameter_view us) (renamed_parameter structs) (λ (p : the_parameter.Parameter). T p.ty)
      (λ p lt. λ j. record { ty = type_is p.ty lt j; name = local_view p.name }) ps all

  pub alias_type_moved : (x : the_alias_type.AliasType) → All T (alias_types x) → alias_type_view us (moved_alias_type t x) ≡ renamed_alias_type structs (alias_type_view ts x)
  alias_type_moved (alias_type.Plain ty) all = λ j. AliasType.PlainType (type_is ty (All-head T ty [] all) j)
  alias_type_moved (alias_type.Function returns parameters variadic) all =
      let r = type_is returns (All-head T returns parameters all) in
      let ps = types_moved parameters (All-tail T returns parameters all) in
      λ j. AliasType.FunctionType (record { returns = r j; parameters = ps j; variadic = variadic })

  module _ (globals : Bytes → Bytes) (cs ds : List Constant) (count : ℕ) (Q : Bytes → Type 0)
      (constant_is : (id : ℕ) → id < count → All Q (names_in_constant (constant_at cs id)) → constant_at ds (new_constant t id) ≡ renamed_constant structs globals (constant_at cs id)) where
    abbrev C : TypedConst → Type 0
    C = λ x. (x.ty < types) × (x.value < count)

    constants_moved : (xs : List TypedConst) → All C xs → All Q (names_in_constants (constants_at ts cs xs))
        → constants_at us ds (map (moved_typed t) xs) ≡ renamed_constants structs globals (constants_at ts cs xs)
    constants_moved [] all named = refl
    constants_moved (x ∷ xs) all named =
        let k = All-head C x xs all in
        let here = names_in_constant (constant_at cs x.value) in
        let rest = names_in_constants (constants_at ts cs xs) in
        λ j. more_constants (type_is x.ty k.0 j) (constant_is x.value k.1 (All-left Q here rest named) j)
        (constants_moved xs (All-tail C x xs all) (All-right Q here rest named) j)

    module _ (ns ms : GlobalId → Bytes) (n : Counts) (global_is : (g : GlobalId) → HasGlobal n g → Q (ns g) → (h : GlobalId) × (new_global t g ≡ Some h) × (ms h ≡ globals (ns g))) where
      pub constant_moved : (c : the_const.Const) → KnowsConst types n count c → All Q (names_in_constant (constant_view ts ns cs c))
          → constant_view us ms ds (moved_constant t c) ≡ renamed_constant structs globals (constant_view ts ns cs c)
      constant_moved (const.Integer number) k named = refl
      constant_moved (const.Truth truth) k named = refl
      constant_moved const.Null k named = refl
      constant_moved const.Undef k named = refl
      constant_moved const.Poison k named = refl
      constant_moved const.ZeroInitializer k named = refl
      constant_moved (const.Address g) k named =
          let new = global_is g (All-head (HasGlobal n) g [] k.globals_known) (All-head Q (ns g) [] named) in
          ap (λ o. constant_view us ms ds (address_of o)) new.1 ∙ ap Constant.Address new.2
      constant_moved (const.ByteString bytes) k named = refl
      constant_moved (const.Aggregate round elements) k named = ap (Constant.Aggregate (brackets_view round)) (constants_moved elements k.typed_known named)
      constant_moved (const.ElementAddress flags address) k named =
          let s = type_is address.source (All-head T address.source [] k.types_known) in
          λ j. Constant.ElementAddress flags (s j) (constants_moved address.operands k.typed_known named j)
      constant_moved (const.Cast opcode operand to) k named =
          let h = All-head C operand [] k.typed_known in
          let s = All-head T to [] k.types_known in
          λ j. Constant.Cast opcode (type_is operand.ty h.0 j) (constant_is operand.value h.1 named j) (type_is to s j)
      constant_moved (const.Binary opcode flags pair) k named =
          let h = All-head C pair.left (pair.right ∷ []) k.typed_known in
          let i = All-head C pair.right [] (All-tail C pair.left (pair.right ∷ []) k.typed_known) in
          let left = names_in_constant (constant_at cs pair.left.value) in
          let right = names_in_constant (constant_at cs pair.right.value) in
          λ j. Constant.Binary opcode flags (type_is pair.left.ty h.0 j) (constant_is pair.left.value h.1 (All-left Q left right named) j)
          (type_is pair.right.ty i.0 j) (constant_is pair.right.value i.1 (All-right Q left right named) j)

    module _ (vs bs : List LocalName) (values blocks : ℕ) where
      abbrev O : the_operand.Operand → Type 0
      O = HasOperand types count values

      abbrev V : the_value.Value → Type 0
      V = HasValue count values

      abbrev old : the_operand.Operand → Operand
      old = operand_view ts cs vs bs

      abbrev old_value : the_value.Value → Value
      old_value = value_view ts cs vs bs

      value_moved : (v : the_value.Value) → V v → All Q (names_in_value (old_value v)) → value_view us ds vs bs (moved_value t v) ≡ renamed_value structs globals (old_value v)
      value_moved (value.Local id) k named = refl
      value_moved (value.Known id) k named = ap Value.Known (constant_is id k named)

      operand_moved : (o : the_operand.Operand) → O o → All Q (names_in_operand (old o)) → operand_view us ds vs bs (moved_operand t o) ≡ renamed_operand structs globals (old o)
      operand_moved o k named = λ j. record { ty = type_is o.ty k.0 j; value = value_moved o.value k.1 named j }

      operands_moved : (os : List the_operand.Operand) → All O os → All Q (flat_map names_in_operand (map old os))
          → map (operand_view us ds vs bs) (map (moved_operand t) os) ≡ map (renamed_operand structs globals) (map old os)
      operands_moved os all named = each_named (moved_operand t) old (operand_view us ds vs bs) (renamed_operand structs globals) names_in_operand O Q operand_moved os all named

      count_moved : (o : Option the_operand.Operand) → All O (option_to_list o) → All Q (option_map_or names_in_operand (option_map old o) [])
          → option_map (operand_view us ds vs bs) (option_map (moved_operand t) o) ≡ option_map (renamed_operand structs globals) (option_map old o)
      count_moved None all named = refl
      count_moved (Some o) all named = ap Some (operand_moved o (All-head O o [] all) named)

      incoming_moved : (is : List the_incoming.Incoming) → All V (map (λ (i : the_incoming.Incoming). i.value) is) → All Q (flat_map names_in_incoming (map (incoming_view ts cs vs bs) is))
          → map (incoming_view us ds vs bs) (map (moved_incoming t) is) ≡ map (renamed_incoming structs globals) (map (incoming_view ts cs vs bs) is)
      incoming_moved [] all named = refl
      incoming_moved (i ∷ is) all named =
          let later = map (λ (x : the_incoming.Incoming). x.value) is in
          let here = names_in_value (old_value i.value) in
          let rest = flat_map names_in_incoming (map (incoming_view ts cs vs bs) is) in
          λ j. record { value = value_moved i.value (All-head V i.value later all) (All-left Q here rest named) j; block = block_name ts cs vs bs i.block }
          ∷ incoming_moved is (All-tail V i.value later all) (All-right Q here rest named) j

      pub inst_moved : (i : Inst) → KnowsInst types count values blocks i → All Q (names_in_instruction (inst_view ts cs vs bs i))
          → inst_view us ds vs bs (moved_inst t i) ≡ renamed_instruction structs globals (inst_view ts cs vs bs i)
      inst_moved (inst.Binary opcode flags result left right) k named =
          let l = operand_moved left (All-head O left [] k.operands_known) (All-left Q (names_in_operand (old left)) (names_in_value (old_value right)) named) in
          let r = value_moved right (All-head V right [] k.values_known) (All-right Q (names_in_operand (old left)) (names_in_value (old_value right)) named) in
          λ j. gives us ds vs bs result (Operation.BinaryOperation opcode flags (l j) (r j))
      inst_moved (inst.Compare flags predicate result left right) k named =
          let l = operand_moved left (All-head O left [] k.operands_known) (All-left Q (names_in_operand (old left)) (names_in_value (old_value right)) named) in
          let r = value_moved right (All-head V right [] k.values_known) (All-right Q (names_in_operand (old left)) (names_in_value (old_value right)) named) in
          λ j. gives us ds vs bs result (Operation.Compare flags predicate (l j) (r j))
      inst_moved (inst.Convert opcode flags result operand to) k named =
          let o = operand_moved operand (All-head O operand [] k.operands_known) named in
          let y = type_is to (All-head T to [] k.types_known) in
          λ j. gives us ds vs bs result (Operation.Convert opcode flags (o j) (y j))
      inst_moved (inst.Select result choice) k named =
          let all = k.operands_known in
          let later = All-tail O choice.condition (choice.first ∷ choice.second ∷ []) all in
          let n1 = names_in_operand (old choice.condition) in
          let n2 = names_in_operand (old choice.first) in
          let n3 = names_in_operand (old choice.second) in
          let rest = All-right Q n1 (n2 ++ n3) named in
          let a = operand_moved choice.condition (All-head O choice.condition (choice.first ∷ choice.second ∷ []) all) (All-left Q n1 (n2 ++ n3) named) in
          let b = operand_moved choice.first (All-head O choice.first (choice.second ∷ []) later) (All-left Q n2 n3 rest) in
          let d = operand_moved choice.second (All-head O choice.second [] (All-tail O choice.first (choice.second ∷ []) later)) (All-right Q n2 n3 rest) in
          λ j. gives us ds vs bs result (Operation.Select (a j) (b j) (d j))
      inst_moved (inst.Freeze result operand) k named =
          let o = operand_moved operand (All-head O operand [] k.operands_known) named in
          λ j. gives us ds vs bs result (Operation.Freeze (o j))
      inst_moved (inst.Phi result ty incoming) k named =
          let y = type_is ty (All-head T ty [] k.types_known) in
          let is = incoming_moved incoming k.values_known named in
          λ j. gives us ds vs bs result (Operation.Phi (y j) (is j))
      inst_moved (inst.Load flags result ty address alignment) k named =
          let y = type_is ty (All-head T ty [] k.types_known) in
          let o = operand_moved address (All-head O address [] k.operands_known) named in
          λ j. gives us ds vs bs result (Operation.Load flags (y j) (o j) alignment)
      inst_moved (inst.Store flags stored address alignment) k named =
          let n1 = names_in_operand (old stored) in
          let n2 = names_in_operand (old address) in
          let a = operand_moved stored (All-head O stored (address ∷ []) k.operands_known) (All-left Q n1 n2 named) in
          let b = operand_moved address (All-head O address [] (All-tail O stored (address ∷ []) k.operands_known)) (All-right Q n1 n2 named) in
          λ j. record { result = None; operation = Operation.Store flags (a j) (b j) alignment }
      inst_moved (inst.Alloca result ty many alignment) k named =
          let y = type_is ty (All-head T ty [] k.types_known) in
          let o = count_moved many k.operands_known named in
          λ j. gives us ds vs bs result (Operation.Alloca (y j) (o j) alignment)
      inst_moved (inst.GetElementPtr flags result source base indices) k named =
          let n1 = names_in_operand (old base) in
          let n2 = flat_map names_in_operand (map old indices) in
          let y = type_is source (All-head T source [] k.types_known) in
          let b = operand_moved base (All-head O base indices k.operands_known) (All-left Q n1 n2 named) in
          let os = operands_moved indices (All-tail O base indices k.operands_known) (All-right Q n1 n2 named) in
          λ j. gives us ds vs bs result (Operation.GetElementPtr flags (y j) (b j) (os j))
      inst_moved (inst.Call call) k named =
          let n1 = names_in_value (old_value call.callee) in
          let n2 = flat_map names_in_operand (map old call.arguments) in
          let y = type_is call.signature.returns (All-head T call.signature.returns call.signature.parameters k.types_known) in
          let ps = types_moved call.signature.parameters (All-tail T call.signature.returns call.signature.parameters k.types_known) in
          let f = value_moved call.callee (All-head V call.callee [] k.values_known) (All-left Q n1 n2 named) in
          let os = operands_moved call.arguments k.operands_known (All-right Q n1 n2 named) in
          λ j. record { result = option_map (value_name ts cs vs bs) call.result; operation = Operation.Call (record { returns = y j; parameters = ps j; variadic = call.signature.variadic }) (f j) (os j) }
      inst_moved (inst.ExtractValue result aggregate indices) k named =
          let o = operand_moved aggregate (All-head O aggregate [] k.operands_known) named in
          λ j. gives us ds vs bs result (Operation.ExtractValue (o j) indices)
      inst_moved (inst.InsertValue result insertion) k named =
          let n1 = names_in_operand (old insertion.aggregate) in
          let n2 = names_in_operand (old insertion.part) in
          let a = operand_moved insertion.aggregate (All-head O insertion.aggregate (insertion.part ∷ []) k.operands_known) (All-left Q n1 n2 named) in
          let b = operand_moved insertion.part (All-head O insertion.part [] (All-tail O insertion.aggregate (insertion.part ∷ []) k.operands_known)) (All-right Q n1 n2 named) in
          λ j. gives us ds vs bs result (Operation.InsertValue (a j) (b j) insertion.indices)

      cases_moved : (xs : List the_case.Case) → All O (map (λ (c : the_case.Case). record { ty = c.ty; value = value.Known c.value }) xs) → All Q (flat_map names_in_case (map (case_view ts cs vs bs) xs))
          → map (case_view us ds vs bs) (map (moved_case t) xs) ≡ map (renamed_case structs globals) (map (case_view ts cs vs bs) xs)
      cases_moved [] all named = refl
      cases_moved (x ∷ xs) all named =
          let later = map (λ (c : the_case.Case). record { ty = c.ty; value = value.Known c.value }) xs in
          let first : the_operand.Operand = record { ty = x.ty; value = value.Known x.value } in
          let h = All-head O first later all in
          let here = names_in_constant (constant_at cs x.value) in
          let rest = flat_map names_in_case (map (case_view ts cs vs bs) xs) in
          λ j. record { ty = type_is x.ty h.0 j; value = constant_is x.value h.1 (All-left Q here rest named) j; target = block_name ts cs vs bs x.target }
          ∷ cases_moved xs (All-tail O first later all) (All-right Q here rest named) j

      pub ending_moved : (e : the_ending.Ending) → All O (end_operands_of e) → All Q (names_in_ending (ending_view ts cs vs bs e))
          → ending_view us ds vs bs (moved_ending t e) ≡ renamed_ending structs globals (ending_view ts cs vs bs e)
      ending_moved ending.ReturnVoid all named = refl
      ending_moved (ending.Return operand) all named = ap Ending.Return (operand_moved operand (All-head O operand [] all) named)
      ending_moved (ending.Jump target) all named = refl
      ending_moved (ending.Branch condition then_to else_to) all named =
          let o = operand_moved condition (All-head O condition [] all) named in
          λ j. Ending.Branch (o j) (block_name ts cs vs bs then_to) (block_name ts cs vs bs else_to)
      ending_moved (ending.Switch operand otherwise cases) all named =
          let later = map (λ (c : the_case.Case). record { ty = c.ty; value = value.Known c.value }) cases in
          let n1 = names_in_operand (old operand) in
          let n2 = flat_map names_in_case (map (case_view ts cs vs bs) cases) in
          let o = operand_moved operand (All-head O operand later all) (All-left Q n1 n2 named) in
          let xs = cases_moved cases (All-tail O operand later all) (All-right Q n1 n2 named) in
          λ j. Ending.Switch (o j) (block_name ts cs vs bs otherwise) (xs j)
      ending_moved ending.Unreachable all named = refl

      pub block_moved : (b : the_block.Block) → KnowsBlock types count values blocks b → All Q (names_in_block (block_view ts cs vs bs b))
          → block_view us ds vs bs (moved_block t b) ≡ renamed_block structs globals (block_view ts cs vs bs b)
      block_moved b k named =
          let n1 = flat_map names_in_instruction (map (inst_view ts cs vs bs) b.instructions) in
          let n2 = names_in_ending (ending_view ts cs vs bs b.end) in
          let is = each_named (moved_inst t) (inst_view ts cs vs bs) (inst_view us ds vs bs) (renamed_instruction structs globals) names_in_instruction (KnowsInst types count values blocks) Q inst_moved b.instructions k.instructions_known (All-left Q n1 n2 named) in
          let e = ending_moved b.end k.operands_known (All-right Q n1 n2 named) in
          λ j. record { name = local_view b.name; instructions = is j; ending = e j }

    names_stay : (xs : List the_block.Block) → map (λ (block : the_block.Block). local_view block.name) (map (moved_block t) xs) ≡ map (λ (block : the_block.Block). local_view block.name) xs
    names_stay [] = refl
    names_stay (x ∷ xs) = ap (λ ns. local_view x.name ∷ ns) (names_stay xs)

    pub body_moved : (names : List LocalName) (b : the_body.Body) → KnowsBody types count (length names) b → All Q (flat_map names_in_block (body_view ts cs names b))
        → body_view us ds names (moved_body t b) ≡ map (renamed_block structs globals) (body_view ts cs names b)
    body_moved names b k named =
        let vs = names ++ map local_view b.results in
        let bs = map (λ (block : the_block.Block). local_view block.name) b.blocks in
        let values = length names + length b.results in
        let blocks = length b.blocks in
        ap (λ ns. map (block_view us ds vs ns) (map (moved_block t) b.blocks)) (names_stay b.blocks)
        ∙ each_named (moved_block t) (block_view ts cs vs bs) (block_view us ds vs bs) (renamed_block structs globals) names_in_block (KnowsBlock types count values blocks) Q (block_moved vs bs values blocks) b.blocks k.blocks_known named
