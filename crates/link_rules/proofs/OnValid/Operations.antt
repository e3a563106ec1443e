-- What new names leave of what instructions and ends work on and give.
use Rattle.std.proofs.Common.{◌≡◌, Bool, true, false, List, [], ◌∷◌, ◌++◌, map, Option, Some, None, refl, sym, ap, ap₂, ◌∙◌, subst, option_map, option_to_list, flat_map, find, cond}
use Rattle.std.specs.Prelude.{if◌then◌else◌, ⊤}
use Rattle.std.specs.List.{AllByRecursion}
use Rattle.std.proofs.lemmas.List.{map-append}
use Rattle.type_table.specs.Tree.{Tree, Structs}
use Rattle.module_arena.specs.Module.{Bytes, LocalName, Value, Operand, Incoming, Operation, Instruction, Case, Ending, Block, Parameter, Function}
use Rattle.module_arena.specs.Module.Value.{Local, Known}
use Rattle.module_arena.specs.Module.Operation.{BinaryOperation, Compare, Convert, Select, Freeze, Phi, Load, Store, Alloca, GetElementPtr, Call, ExtractValue, InsertValue}
use Rattle.module_arena.specs.Module.Ending.{ReturnVoid, Return, Jump, Branch, Switch, Unreachable}
use Rattle.module_arena.specs.Renamed.{renamed_tree, renamed_parameter, renamed_value, renamed_operand, renamed_incoming, renamed_operation, renamed_instruction, renamed_case, renamed_ending, renamed_block}
use Rattle.module_arena.specs.Same.{same_local}
use Rattle.module_arena.specs.TypeTests.{is_void}
use Rattle.module_arena.specs.Operations.{result_type, incoming_operand, operands, case_operand, ending_operands, callee, targets, local_in}
use Rattle.module_arena.specs.Functions.{body, blocks, result_name, Definition, parameter_definition, result_definitions, definitions, definition_type, local_type}
use Rattle.module_arena.specs.Flow.{FlowBlock, Flow, flow_block, flow_of}
use Rattle.module_arena.specs.WellFormed.{types_of_operation}
use Rattle.module_arena.proofs.ModuleSet.{map_map}
use Rattle.module_arena.proofs.ValueNames.{option-map}
use Rattle.link_rules.proofs.OnValid.Types.{KnownTree, KnownPart, KeepsStructs, void_same, part_at_same, part_at_known}
use Rattle.link_rules.proofs.OnValid.Constants.{KnownConstant}

-- KNOWN STRUCTS

abbrev pub KnownValue : Structs → Value → Type 0
KnownValue structs (Local name) = ⊤
KnownValue structs (Known c) = KnownConstant structs c

abbrev pub KnownOperand : Structs → Operand → Type 0
KnownOperand structs o = KnownTree structs o.ty × KnownValue structs o.value

abbrev pub KnownCallee : Structs → Option Value → Type 0
KnownCallee structs None = ⊤
KnownCallee structs (Some value) = KnownValue structs value

-- the structs that are named in an instruction are there
pub record KnownOperation (structs : Structs) (o : Operation) : Type 0 where
  pub operands : AllByRecursion (KnownOperand structs) (operands o)
  pub callee : KnownCallee structs (callee o)
  pub types : AllByRecursion (KnownTree structs) (types_of_operation o)

pub record KnownBlock (structs : Structs) (b : Block) : Type 0 where
  pub instructions : AllByRecursion (λ i. KnownOperation structs i.operation) b.instructions
  pub ending : AllByRecursion (KnownOperand structs) (ending_operands b.ending)

pub record KnownFunction (structs : Structs) (f : Function) : Type 0 where
  pub returns : KnownTree structs f.returns
  pub parameters : AllByRecursion (λ p. KnownTree structs p.ty) f.parameters
  pub blocks : AllByRecursion (KnownBlock structs) (blocks f)

-- OPERANDS

module _ (names globals : Bytes → Bytes) where
  case_operands : (cs : List Case) → map case_operand (map (renamed_case names globals) cs) ≡ map (renamed_operand names globals) (map case_operand cs)
  case_operands [] = refl
  case_operands (c ∷ cs) = ap (λ l. renamed_operand names globals (case_operand c) ∷ l) (case_operands cs)

  incoming_operands : (t : Tree) (is : List Incoming) → map (incoming_operand (renamed_tree names t)) (map (renamed_incoming names globals) is) ≡ map (renamed_operand names globals) (map (incoming_operand t) is)
  incoming_operands t [] = refl
  incoming_operands t (i ∷ is) = ap (λ l. renamed_operand names globals (incoming_operand t i) ∷ l) (incoming_operands t is)

  pub operands_renamed : (o : Operation) → operands (renamed_operation names globals o) ≡ map (renamed_operand names globals) (operands o)
  operands_renamed (BinaryOperation opcode flags left right) = refl
  operands_renamed (Compare flags predicate left right) = refl
  operands_renamed (Convert opcode flags value to) = refl
  operands_renamed (Select condition first second) = refl
  operands_renamed (Freeze value) = refl
  operands_renamed (Phi ty incoming) = incoming_operands ty incoming
  operands_renamed (Load flags ty address alignment) = refl
  operands_renamed (Store flags value address alignment) = refl
  operands_renamed (Alloca ty count alignment) = option-map (renamed_operand names globals) count
  operands_renamed (GetElementPtr flags source base indices) = refl
  operands_renamed (Call signature value arguments) = refl
  operands_renamed (ExtractValue aggregate indices) = refl
  operands_renamed (InsertValue aggregate part indices) = refl

  pub callee_renamed : (o : Operation) → callee (renamed_operation names globals o) ≡ option_map (renamed_value names globals) (callee o)
  callee_renamed (BinaryOperation opcode flags left right) = refl
  callee_renamed (Compare flags predicate left right) = refl
  callee_renamed (Convert opcode flags value to) = refl
  callee_renamed (Select condition first second) = refl
  callee_renamed (Freeze value) = refl
  callee_renamed (Phi ty incoming) = refl
  callee_renamed (Load flags ty address alignment) = refl
  callee_renamed (Store flags value address alignment) = refl
  callee_renamed (Alloca ty count alignment) = refl
  callee_renamed (GetElementPtr flags source base indices) = refl
  callee_renamed (Call signature value arguments) = refl
  callee_renamed (ExtractValue aggregate indices) = refl
  callee_renamed (InsertValue aggregate part indices) = refl

  pub ending_renamed : (e : Ending) → ending_operands (renamed_ending names globals e) ≡ map (renamed_operand names globals) (ending_operands e)
  ending_renamed ReturnVoid = refl
  ending_renamed (Return value) = refl
  ending_renamed (Jump target) = refl
  ending_renamed (Branch condition then_to else_to) = refl
  ending_renamed (Switch value otherwise cases) = ap (λ l. renamed_operand names globals value ∷ l) (case_operands cases)
  ending_renamed Unreachable = refl

  case_targets : (cs : List Case) → map (λ (c : Case). c.target) (map (renamed_case names globals) cs) ≡ map (λ (c : Case). c.target) cs
  case_targets [] = refl
  case_targets (c ∷ cs) = ap (λ l. c.target ∷ l) (case_targets cs)

  pub targets_same : (e : Ending) → targets (renamed_ending names globals e) ≡ targets e
  targets_same ReturnVoid = refl
  targets_same (Return value) = refl
  targets_same (Jump target) = refl
  targets_same (Branch condition then_to else_to) = refl
  targets_same (Switch value otherwise cases) = ap (λ l. otherwise ∷ l) (case_targets cases)
  targets_same Unreachable = refl

  pub locals_same : (v : Value) → local_in (renamed_value names globals v) ≡ local_in v
  locals_same (Local name) = refl
  locals_same (Known c) = refl

  pub operand_locals_same : (os : List Operand) → flat_map (λ o. local_in o.value) (map (renamed_operand names globals) os) ≡ flat_map (λ o. local_in o.value) os
  operand_locals_same [] = refl
  operand_locals_same (o ∷ os) = ap₂ (λ x y. x ++ y) (locals_same o.value) (operand_locals_same os)

  pub callee_locals_same : (o : Option Value) → flat_map local_in (option_to_list (option_map (renamed_value names globals) o)) ≡ flat_map local_in (option_to_list o)
  callee_locals_same None = refl
  callee_locals_same (Some v) = ap (λ l. l ++ []) (locals_same v)

  pub types_renamed : (o : Operation) → types_of_operation (renamed_operation names globals o) ≡ map (renamed_tree names) (types_of_operation o)
  types_renamed (BinaryOperation opcode flags left right) = refl
  types_renamed (Compare flags predicate left right) = refl
  types_renamed (Convert opcode flags value to) = refl
  types_renamed (Select condition first second) = refl
  types_renamed (Freeze value) = refl
  types_renamed (Phi ty incoming) = refl
  types_renamed (Load flags ty address alignment) = refl
  types_renamed (Store flags value address alignment) = refl
  types_renamed (Alloca ty count alignment) = refl
  types_renamed (GetElementPtr flags source base indices) = refl
  types_renamed (Call signature value arguments) = refl
  types_renamed (ExtractValue aggregate indices) = refl
  types_renamed (InsertValue aggregate part indices) = refl

  -- PATHS SEE NO NAMES OF STRUCTS AND GLOBALS

  results_same : (is : List Instruction) → map (λ (i : Instruction). i.result) (map (renamed_instruction names globals) is) ≡ map (λ (i : Instruction). i.result) is
  results_same [] = refl
  results_same (i ∷ is) = ap (λ l. i.result ∷ l) (results_same is)

  flow_blocks_same : (bs : List Block) → map flow_block (map (renamed_block names globals) bs) ≡ map flow_block bs
  flow_blocks_same [] = refl
  flow_blocks_same (b ∷ bs) =
      ap₂ (λ (x : FlowBlock) l. x ∷ l)
      (ap₂ (λ (rs : List (Option LocalName)) (ts : List LocalName). let x : FlowBlock = record { name = b.name; results = rs; targets = ts } in x) (results_same b.instructions) (targets_same b.ending))
      (flow_blocks_same bs)

  parameter_names_same : (ps : List Parameter) → map (λ (p : Parameter). p.name) (map (renamed_parameter names) ps) ≡ map (λ (p : Parameter). p.name) ps
  parameter_names_same [] = refl
  parameter_names_same (p ∷ ps) = ap (λ l. p.name ∷ l) (parameter_names_same ps)

  pub body_renamed : (b : Option (List Block)) → body (option_map (map (renamed_block names globals)) b) ≡ map (renamed_block names globals) (body b)
  body_renamed None = refl
  body_renamed (Some bs) = refl

-- a function under other names that keeps its parameters' names and its body
pub record IsRenamed (names globals : Bytes → Bytes) (f g : Function) : Type 0 where
  pub returns : g.returns ≡ renamed_tree names f.returns
  pub parameters : g.parameters ≡ map (renamed_parameter names) f.parameters
  pub variadic : g.variadic ≡ f.variadic
  pub body : g.body ≡ option_map (map (renamed_block names globals)) f.body

module _ (names globals : Bytes → Bytes) (f g : Function) (is : IsRenamed names globals f g) where
  pub blocks_renamed : blocks g ≡ map (renamed_block names globals) (blocks f)
  blocks_renamed = ap body is.body ∙ body_renamed names globals f.body

  pub flow_same : flow_of g ≡ flow_of f
  flow_same =
      ap₂ (λ (ps : List LocalName) (bs : List FlowBlock). let x : Flow = record { parameters = ps; blocks = bs } in x)
      (ap (map (λ (p : Parameter). p.name)) is.parameters ∙ parameter_names_same names globals f.parameters)
      (ap (map flow_block) blocks_renamed ∙ flow_blocks_same names globals (blocks f))

-- TYPES OF RESULTS

module _ (old new : Structs) (names globals : Bytes → Bytes) (keeps : KeepsStructs old new names) where
  called_type : (b c : Bool) (t : Tree) → b ≡ c → (if b then None else Some (renamed_tree names t)) ≡ option_map (renamed_tree names) (if c then None else Some t)
  called_type true c t e = subst (λ (d : Bool). None ≡ option_map (renamed_tree names) (if d then None else Some t)) e refl
  called_type false c t e = subst (λ (d : Bool). Some (renamed_tree names t) ≡ option_map (renamed_tree names) (if d then None else Some t)) e refl

  pub result_type_same : (o : Operation) → KnownOperation old o → result_type new (renamed_operation names globals o) ≡ option_map (renamed_tree names) (result_type old o)
  result_type_same (BinaryOperation opcode flags left right) k = refl
  result_type_same (Compare flags predicate left right) k = refl
  result_type_same (Convert opcode flags value to) k = refl
  result_type_same (Select condition first second) k = refl
  result_type_same (Freeze value) k = refl
  result_type_same (Phi ty incoming) k = refl
  result_type_same (Load flags ty address alignment) k = refl
  result_type_same (Store flags value address alignment) k = refl
  result_type_same (Alloca ty count alignment) k = refl
  result_type_same (GetElementPtr flags source base indices) k = refl
  result_type_same (Call signature value arguments) k = called_type _ _ signature.returns (void_same names signature.returns)
  result_type_same (ExtractValue aggregate indices) k = part_at_same old new names keeps indices aggregate.ty k.operands.0.0
  result_type_same (InsertValue aggregate part indices) k = refl

  called_known : (b : Bool) (t : Tree) → KnownTree old t → KnownPart old (if b then None else Some t)
  called_known true t k = tt
  called_known false t k = k

  pub result_type_known : (o : Operation) → KnownOperation old o → KnownPart old (result_type old o)
  result_type_known (BinaryOperation opcode flags left right) k = k.operands.0.0
  result_type_known (Compare flags predicate left right) k = tt
  result_type_known (Convert opcode flags value to) k = k.types.0
  result_type_known (Select condition first second) k = k.operands.1.0.0
  result_type_known (Freeze value) k = k.operands.0.0
  result_type_known (Phi ty incoming) k = k.types.0
  result_type_known (Load flags ty address alignment) k = k.types.0
  result_type_known (Store flags value address alignment) k = tt
  result_type_known (Alloca ty count alignment) k = tt
  result_type_known (GetElementPtr flags source base indices) k = tt
  result_type_known (Call signature value arguments) k = called_known (is_void signature.returns) signature.returns k.types.0
  result_type_known (ExtractValue aggregate indices) k = part_at_known old new names keeps indices aggregate.ty k.operands.0.0
  result_type_known (InsertValue aggregate part indices) k = k.operands.0.0

  abbrev renamed_definition : Definition → Definition
  renamed_definition d = (d.0, option_map (renamed_tree names) d.1)

  parameters_renamed : (ps : List Parameter) → map parameter_definition (map (renamed_parameter names) ps) ≡ map renamed_definition (map parameter_definition ps)
  parameters_renamed [] = refl
  parameters_renamed (p ∷ ps) = ap (λ l. renamed_definition (parameter_definition p) ∷ l) (parameters_renamed ps)

  result_renamed : (i : Instruction) → KnownOperation old i.operation → result_definitions new (renamed_instruction names globals i) ≡ map renamed_definition (result_definitions old i)
  result_renamed i k =
      ap (λ (o : Option Tree). map {B = Definition} (λ name. (name, o)) (result_name i)) (result_type_same i.operation k)
      ∙ sym (map_map renamed_definition (λ name. (name, result_type old i.operation)) (result_name i))

  results_renamed : (is : List Instruction) → AllByRecursion (λ i. KnownOperation old i.operation) is → flat_map (result_definitions new) (map (renamed_instruction names globals) is) ≡ map renamed_definition (flat_map (result_definitions old) is)
  results_renamed [] k = refl
  results_renamed (i ∷ is) k =
      ap₂ (λ x y. x ++ y) (result_renamed i k.0) (results_renamed is k.1) ∙ sym (map-append renamed_definition (result_definitions old i) (flat_map (result_definitions old) is))

  block_results_renamed : (bs : List Block) → AllByRecursion (KnownBlock old) bs → flat_map (λ (b : Block). flat_map (result_definitions new) b.instructions) (map (renamed_block names globals) bs) ≡ map renamed_definition (flat_map (λ (b : Block). flat_map (result_definitions old) b.instructions) bs)
  block_results_renamed [] k = refl
  block_results_renamed (b ∷ bs) k =
      ap₂ (λ x y. x ++ y) (results_renamed b.instructions k.0.instructions) (block_results_renamed bs k.1)
      ∙ sym (map-append renamed_definition (flat_map (result_definitions old) b.instructions) (flat_map (λ (c : Block). flat_map (result_definitions old) c.instructions) bs))

  found_renamed : (name : LocalName) (ds : List Definition) → definition_type (find (λ d. same_local d.0 name) (map renamed_definition ds)) ≡ option_map (renamed_tree names) (definition_type (find (λ d. same_local d.0 name) ds))
  found_renamed name [] = refl
  found_renamed name (d ∷ ds) = go (same_local d.0 name) (found_renamed name ds)
    where
      go : (b : Bool) → definition_type (find (λ d. same_local d.0 name) (map renamed_definition ds)) ≡ option_map (renamed_tree names) (definition_type (find (λ d. same_local d.0 name) ds)) → definition_type (cond b (Some (renamed_definition d)) (find (λ d. same_local d.0 name) (map renamed_definition ds))) ≡ option_map (renamed_tree names) (definition_type (cond b (Some d) (find (λ d. same_local d.0 name) ds)))
      go true rest = refl
      go false rest = rest

  -- a parameter or result has its type, under its new names
  pub local_type_same : (f g : Function) → IsRenamed names globals f g → KnownFunction old f → (name : LocalName) → local_type new g name ≡ option_map (renamed_tree names) (local_type old f name)
  local_type_same f g is k name =
      ap (λ ds. definition_type (find (λ d. same_local d.0 name) ds))
      (ap₂ (λ x y. x ++ y)
      (ap (map parameter_definition) is.parameters ∙ parameters_renamed f.parameters)
      (ap (flat_map (λ (b : Block). flat_map (result_definitions new) b.instructions)) (blocks_renamed names globals f g is) ∙ block_results_renamed (blocks f) k.blocks)
      ∙ sym (map-append renamed_definition (map parameter_definition f.parameters) (flat_map (λ (b : Block). flat_map (result_definitions old) b.instructions) (blocks f))))
      ∙ found_renamed name (definitions old f)
