-- Where nothing fails that a block asks for, it is as its phrase, of good types and constants, and its locals are there.
use Rattle.std.proofs.Common.{◌≡◌, ℕ, ◌&&◌, ◌||◌, not, cond, List, [], ◌∷◌, ◌++◌, map, Bool, true, false, Option, Some, None, refl, sym, ap, ◌∙◌, is_some}
use Rattle.std.specs.List.{list_all, flat_map}
use Rattle.std.specs.Option.{option_map_or}
use Rattle.std.proofs.lemmas.Bool.{and_from, or_right}
use Rattle.ir_terminals.specs.declared.values.Local.{Local}
use Rattle.ir_phrases.specs.Constants.Tree.{TypeTree, IntegerType, PointerType, VoidType, ArrayType, StructType, NamedType}
use Rattle.ir_phrases.specs.Constants.Forms.{AllAre}
use Rattle.ir_phrases.specs.Instructions.Tree.{SignatureTree, OperationTree, Binary, Compare, Cast, Select, Freeze, Phi, Load, Store, Alloca, GetElementPtr, Call, ExtractValue, InsertValue, InstructionTree, CaseTree, EndingTree, ReturnVoid, Return, Jump, Branch, Switch, Unreachable, BlockTree}
use Rattle.ir_phrases.specs.Instructions.Forms.{IsInstructionFormed, IsCaseFormed, IsEndingFormed, IsBlockFormed}
use Rattle.ir_syntax.specs.Tree.{ItemTree}
use Rattle.ir_syntax.specs.Items.{language}
use Rattle.type_table.specs.Tree.{Tree, ptr}
use Rattle.module_arena.specs.Module as m
use Rattle.module_arena.specs.Module.{Bytes, LocalName, Operand, Value, Instruction, Ending, Block}
use Rattle.module_arena.specs.Forms.{is_operation_of_phrase, has_result_of_phrase, is_instruction_of_phrase}
use Rattle.module_arena.specs.Names.{locals_of_operation, locals_of_block, blocks_of_operation, blocks_of_block}
use Rattle.module_arena.specs.TypeTests.{is_void as is_void_tree}
use Rattle.module_arena.specs.Operations.{operands, ending_operands, callee, targets, case_operand, local_in as locals_of_value}
use Rattle.module_arena.specs.WellFormed.{is_good_type, is_good_constant, has_entry, known_in as constants_at, known_of_operands, known_of_operation, known_of_block, types_of_operation, are_good_operands, is_good_block}
use Rattle.name_rules.specs.declared.fault.ResolveFault.TheVariants as faults
use Rattle.name_rules.specs.Spelled.{spelled_local}
use Rattle.name_rules.specs.Locals.{Locals, local_in, called, next_behind, next_after, announced_result, announced_block, has_result, gives, is_void, is_there}
use Rattle.name_rules.specs.Written.{type_in, constant_in}
use Rattle.name_rules.specs.Bodies.{signature_in, operation_in, instruction_in, instructions_in, case_in, ending_in, block_in, blocks_in}
use Rattle.name_rules.specs.ModuleOf.{structs_in, module_of_items}
use Rattle.name_rules.specs.Demand.{Demand, first_refusal, place_of_local}
use Rattle.name_rules.specs.TypeDemands.{has_name, type_demands, constant_demands}
use Rattle.name_rules.specs.FunctionDemands.{Called, call_demands, called_with, called_after, operand_demands, block_demand, operation_demands, instruction_demands, instructions_demands, case_demands, ending_demands, block_demands, blocks_demands}
use Rattle.name_rules.specs.Breaks.{known_in, demands}
use Rattle.name_rules.proofs.Judging.{held, both_hold}
use Rattle.name_rules.proofs.OnReading.Instructions.{MayBeNamed, IsInstructionWell, IsCaseWell, IsEndingWell, IsBlockWell}
use Rattle.name_rules.proofs.OnReading.GoodTypes.{good_type}
use Rattle.name_rules.proofs.OnReading.GoodConstants.{good_constant}
use Rattle.name_rules.proofs.OnReading.GoodOperations.{IsValueGood, IsOperandGood, IsCalleeGood, operand_good, operation_good}
use Rattle.name_rules.proofs.OnReading.Tests.{all_append, all_one, all_flat, are_all}

-- ---- results

void_same : (t : TypeTree) → is_void t ≡ is_void_tree (type_in t)
void_same (IntegerType place width) = refl
void_same (PointerType place) = refl
void_same (VoidType place) = refl
void_same (ArrayType place count element) = refl
void_same (StructType place packed parts) = refl
void_same (NamedType name) = refl

either_way : (a b : Bool) → a ≡ b → (not a || b) ≡ true
either_way true b e = sym e
either_way false b e = refl

-- a result is there exactly where the phrase has one
named_well : (o : OperationTree) (written : Option Local) → MayBeNamed written o → has_result_of_phrase (operation_in o) (is_some written || gives o) ≡ true
named_well (Binary opcode set left right) written h = or_right (is_some written) true refl
named_well (Compare set predicate left right) written h = or_right (is_some written) true refl
named_well (Cast opcode set value to) written h = or_right (is_some written) true refl
named_well (Select condition first second) written h = or_right (is_some written) true refl
named_well (Freeze value) written h = or_right (is_some written) true refl
named_well (Phi ty incoming) written h = or_right (is_some written) true refl
named_well (Load set ty address alignment) written h = or_right (is_some written) true refl
named_well (Store set value address alignment) None h = refl
named_well (Store set value address alignment) (Some written) h = absurd cc
named_well (Alloca ty count alignment) written h = or_right (is_some written) true refl
named_well (GetElementPtr set source []) written h = or_right (is_some written) true refl
named_well (GetElementPtr set source (base ∷ indices)) written h = or_right (is_some written) true refl
named_well (Call call) (Some written) h = refl
named_well (Call call) None h = by call.signature
  where
    by : (s : Option SignatureTree) → (not (is_void call.returns) || is_void_tree (signature_in call.returns call.arguments s).returns) ≡ true
    by None = either_way (is_void call.returns) (is_void_tree (type_in call.returns)) (void_same call.returns)
    by (Some written) = either_way (is_void call.returns) (is_void_tree (type_in call.returns)) (void_same call.returns)
named_well (ExtractValue aggregate indices) written h = or_right (is_some written) true refl
named_well (InsertValue aggregate part indices) written h = or_right (is_some written) true refl

there_or_not : (b : Bool) (name : LocalName) → is_some (cond b (Some name) None) ≡ b
there_or_not true name = refl
there_or_not false name = refl

result_good : (next : ℕ) (i : InstructionTree) → MayBeNamed i.result i.operation → has_result_of_phrase (operation_in i.operation) (is_some (instruction_in next i).result) ≡ true
result_good next i h = ap (has_result_of_phrase (operation_in i.operation)) (there_or_not (has_result i) (called next i.result)) ∙ named_well i.operation i.result h

module _ (items : List ItemTree) (unbroken : first_refusal (demands items) ≡ None) (entries : (name : Bytes) → has_name (known_in items).globals name ≡ true → has_entry (module_of_items items) name ≡ true) (all : Locals) where
  abbrev good_constants : List (Tree × m.Constant) → Bool
  good_constants cs = list_all (is_good_constant (module_of_items items)) cs

  abbrev are_values : List LocalName → Bool
  are_values names = list_all (λ name. is_there all false name) names

  abbrev are_blocks : List LocalName → Bool
  are_blocks names = list_all (λ name. is_there all true name) names

  abbrev Good : Operand → Type 0
  Good o = IsOperandGood items unbroken entries all o

  operands_test : (os : List Operand) → AllAre Good os → are_good_operands (module_of_items items) os ≡ true
  operands_test os h = are_all (λ o. is_good_type (structs_in items) o.ty) Good (λ o g. g.ty) os h

  operands_constants : (os : List Operand) → AllAre Good os → good_constants (known_of_operands os) ≡ true
  operands_constants os h = all_flat (is_good_constant (module_of_items items)) (λ o. constants_at o.ty o.value) Good (λ o g. g.value.constants) os h

  operands_locals : (os : List Operand) → AllAre Good os → are_values (flat_map (λ x. locals_of_value x.value) os) ≡ true
  operands_locals os h = all_flat (λ name. is_there all false name) (λ x. locals_of_value x.value) Good (λ o g. g.value.locals) os h

  callee_constants : (v : Option Value) → IsCalleeGood items unbroken entries all v → good_constants (option_map_or (constants_at ptr) v []) ≡ true
  callee_constants None h = refl
  callee_constants (Some v) h = h.constants

  callee_locals : (v : Option Value) → IsCalleeGood items unbroken entries all v → are_values (option_map_or locals_of_value v []) ≡ true
  callee_locals None h = refl
  callee_locals (Some v) h = h.locals

  record AreInstructionsGood (is : List Instruction) : Type 0 where
    good : list_all (λ i. is_instruction_of_phrase i && (are_good_operands (module_of_items items) (operands i.operation) && list_all (is_good_type (structs_in items)) (types_of_operation i.operation))) is ≡ true
    constants : good_constants (flat_map (λ i. known_of_operation i.operation) is) ≡ true
    locals : are_values (flat_map (λ i. locals_of_operation i.operation) is) ≡ true
    blocks : are_blocks (flat_map (λ i. blocks_of_operation i.operation) is) ≡ true

  instructions_good : (next : ℕ) (before : Called) (is : List InstructionTree) → AllAre (IsInstructionWell language) is → AllAre IsInstructionFormed is
      → first_refusal (instructions_demands (known_in items) all before is) ≡ None → AreInstructionsGood (instructions_in next is)
  instructions_good next before [] w f e = record { good = refl; constants = refl; locals = refl; blocks = refl }
  instructions_good next before (i ∷ is) w f e =
      let known = known_in items in
      let parts = both_hold (instruction_demands known all before i) (instructions_demands known all (called_after before (announced_result i)) is) e in
      let halves = both_hold (call_demands before i.result) (operation_demands known all i.operation) parts.0 in
      let here = operation_good items unbroken entries all i.operation w.0.1 f.0 halves.1 in
      let o = operation_in i.operation in
      let rest = instructions_good (next_after next (announced_result i)) (called_after before (announced_result i)) is w.1 f.1 parts.1 in
      let phrase = and_from (is_operation_of_phrase o) (has_result_of_phrase o (is_some (instruction_in next i).result)) here.phrase (result_good next i w.0.2) in
      let types = are_all (is_good_type (structs_in items)) (λ t. is_good_type (structs_in items) t ≡ true) (λ t g. g) (types_of_operation o) here.types in
      let test = and_from (is_instruction_of_phrase (instruction_in next i)) (are_good_operands (module_of_items items) (operands o) && list_all (is_good_type (structs_in items)) (types_of_operation o)) phrase
      (and_from (are_good_operands (module_of_items items) (operands o)) (list_all (is_good_type (structs_in items)) (types_of_operation o)) (operands_test (operands o) here.operands_good) types) in
      let cs = all_append (is_good_constant (module_of_items items)) (known_of_operands (operands o)) (option_map_or (constants_at ptr) (callee o) []) (operands_constants (operands o) here.operands_good) (callee_constants (callee o) here.callee_good) in
      let ls = all_append (λ name. is_there all false name) (flat_map (λ x. locals_of_value x.value) (operands o)) (option_map_or locals_of_value (callee o) []) (operands_locals (operands o) here.operands_good) (callee_locals (callee o) here.callee_good) in
      record {
        good = and_from _ _ test rest.good;
        constants = all_append (is_good_constant (module_of_items items)) (known_of_operation o) _ cs rest.constants;
        locals = all_append (λ name. is_there all false name) (locals_of_operation o) _ ls rest.locals;
        blocks = all_append (λ name. is_there all true name) (blocks_of_operation o) _ here.blocks rest.blocks;
      }

  there : (block : Local) (more : List Demand) → first_refusal (block_demand (known_in items) all block ∷ more) ≡ None → (is_there all true (local_in block) ≡ true) × (first_refusal more ≡ None)
  there block more e = held (is_there all true (local_in block)) (faults.UnknownName (place_of_local block) (spelled_local (local_in block))) more e

  record IsEndingGood (e : Ending) : Type 0 where
    operands_good : AllAre Good (ending_operands e)
    goes : are_blocks (targets e) ≡ true

  cases_good : (cases : List CaseTree) → AllAre (IsCaseWell language) cases → AllAre IsCaseFormed cases → first_refusal (flat_map (case_demands (known_in items) all) cases) ≡ None
      → AllAre Good (map case_operand (map case_in cases)) × (are_blocks (map (λ c. c.target) (map case_in cases)) ≡ true)
  cases_good [] w f e = (tt, refl)
  cases_good (c ∷ cs) w f e =
      let known = known_in items in
      let t = type_in c.0.0 in
      let parts = both_hold (case_demands known all c) (flat_map (case_demands known all) cs) e in
      let first = both_hold (type_demands known c.0.0) (constant_demands known t c.0.1 ++ block_demand known all c.1 ∷ []) parts.0 in
      let second = both_hold (constant_demands known t c.0.1) (block_demand known all c.1 ∷ []) first.1 in
      let ty = good_type items unbroken c.0.0 w.0.0 first.0 in
      let constant = good_constant items unbroken entries t c.0.1 ty w.0.1 f.0 second.0 in
      let rest = cases_good cs w.1 f.1 parts.1 in
      let value : IsValueGood items unbroken entries all t (m.Known (constant_in t c.0.1)) = record { constants = all_one (is_good_constant (module_of_items items)) (t, constant_in t c.0.1) constant; locals = refl } in
      ((record { ty = ty; value = value }, rest.0), and_from _ _ (there c.1 [] second.1).0 rest.1)

  ending_good : (e : EndingTree) → IsEndingWell language e → IsEndingFormed e → first_refusal (ending_demands (known_in items) all e) ≡ None → IsEndingGood (ending_in e)
  ending_good ReturnVoid w f e = record { operands_good = tt; goes = refl }
  ending_good (Return value) w f e = record { operands_good = (operand_good items unbroken entries all value w f e, tt); goes = refl }
  ending_good (Jump target) w f e = record { operands_good = tt; goes = all_one (λ name. is_there all true name) (local_in target) (there target [] e).0 }
  ending_good (Branch condition then_to else_to) w f e =
      let known = known_in items in
      let parts = both_hold (operand_demands known all condition) (block_demand known all then_to ∷ block_demand known all else_to ∷ []) e in
      let first = there then_to (block_demand known all else_to ∷ []) parts.1 in
      let second = there else_to [] first.1 in
      record { operands_good = (operand_good items unbroken entries all condition w f parts.0, tt); goes = rw (first.0, second.0) refl }
  ending_good (Switch value otherwise cases) w f e =
      let known = known_in items in
      let parts = both_hold (operand_demands known all value) (block_demand known all otherwise ∷ flat_map (case_demands known all) cases) e in
      let first = there otherwise (flat_map (case_demands known all) cases) parts.1 in
      let rest = cases_good cases w.1 f.1 first.1 in
      record { operands_good = (operand_good items unbroken entries all value w.0 f.0 parts.0, rest.0); goes = and_from _ _ first.0 rest.1 }
  ending_good Unreachable w f e = record { operands_good = tt; goes = refl }

  pub record IsBlockGood (b : Block) : Type 0 where
    pub good : is_good_block (module_of_items items) b ≡ true
    pub constants : good_constants (known_of_block b) ≡ true
    pub locals : are_values (locals_of_block b) ≡ true
    pub blocks : are_blocks (blocks_of_block b) ≡ true

  -- blocks of which nothing is asked in vain
  pub blocks_good : (next : ℕ) (before : Called) (bs : List BlockTree) → AllAre (IsBlockWell language) bs → AllAre IsBlockFormed bs → first_refusal (blocks_demands (known_in items) all before bs) ≡ None → AllAre IsBlockGood (blocks_in next bs)
  blocks_good next before [] w f e = tt
  blocks_good next before (b ∷ bs) w f e =
      let known = known_in items in
      let parts = both_hold (block_demands known all before b) (blocks_demands known all (called_after before (announced_block b)) bs) e in
      let first = both_hold (call_demands before b.label) (instructions_demands known all (called_with before (true, b.label)) b.instructions ++ ending_demands known all b.ending) parts.0 in
      let second = both_hold (instructions_demands known all (called_with before (true, b.label)) b.instructions) (ending_demands known all b.ending) first.1 in
      let is = instructions_good (next_behind next b.label) (called_with before (true, b.label)) b.instructions w.0.1 f.0.0 second.0 in
      let end_ = ending_good b.ending w.0.2 f.0.1 second.1 in
      let os = ending_operands (ending_in b.ending) in
      let inside = instructions_in (next_behind next b.label) b.instructions in
      let here : IsBlockGood (block_in next b) = record {
        good = and_from _ _ is.good (operands_test os end_.operands_good);
        constants = all_append (is_good_constant (module_of_items items)) (flat_map (λ i. known_of_operation i.operation) inside) (known_of_operands os) is.constants (operands_constants os end_.operands_good);
        locals = all_append (λ name. is_there all false name) (flat_map (λ i. locals_of_operation i.operation) inside) (flat_map (λ x. locals_of_value x.value) os) is.locals (operands_locals os end_.operands_good);
        blocks = all_append (λ name. is_there all true name) (flat_map (λ i. blocks_of_operation i.operation) inside) (targets (ending_in b.ending)) is.blocks end_.goes;
      } in
      (here, blocks_good (next_after next (announced_block b)) (called_after before (announced_block b)) bs w.1 f.1 parts.1)
