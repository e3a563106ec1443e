-- What functions ask for does not see places.
use Rattle.std.specs.Prelude.{◌≡◌, refl, ℕ, Bool, true, false, cond, List, [], ◌∷◌, ◌++◌, map, flat_map, Option, Some, None, option_map}
use Rattle.std.proofs.Common.{ap, sym, ◌∙◌}
use Rattle.std.proofs.lemmas.List.{map-append}
use Rattle.ir_terminals.specs.declared.values.Integer.{Integer}
use Rattle.ir_terminals.specs.declared.values.Local.{Local}
use Rattle.ir_terminals.specs.declared.values.Local.TheVariants as locals
use Rattle.ir_terminals.specs.declared.values.PlacedName.{PlacedName}
use Rattle.ir_phrases.specs.Constants.Tree.{TypeTree, ValueTree, LocalValue, ConstantValue, TypedValueTree}
use Rattle.ir_phrases.specs.Instructions.Tree.{SignatureTree, IncomingTree, OperationTree, Binary, Compare, Cast, Select, Freeze, Phi, Load, Store, Alloca, GetElementPtr, Call, ExtractValue, InsertValue, InstructionTree, CaseTree, EndingTree, ReturnVoid, Return, Jump, Branch, Switch, Unreachable, BlockTree}
use Rattle.ir_syntax.specs.Tree.{ParameterTree}
use Rattle.type_table.specs.Tree.{Tree, ptr}
use Rattle.canonical.specs.Items.Unplaced.{unplaced_integer, unplaced_name, unplaced_local, unplaced_type, unplaced_constant, unplaced_value, unplaced_operand, unplaced_signature, unplaced_incoming, unplaced_operation, unplaced_instruction, unplaced_case, unplaced_ending, unplaced_block, unplaced_parameter}
use Rattle.canonical.proofs.OnModules.Places.{type_unseen, local_unseen, next_unseen, unplaced_announced, results_unseen, has_result_unseen}
use Rattle.name_rules.specs.Written.{type_in}
use Rattle.name_rules.specs.Locals.{Locals, Announced, next_behind, has_result, announced, announced_parameter, announced_result, announced_block, known_as, locals_from, is_there}
use Rattle.name_rules.specs.Demand.{Demand}
use Rattle.name_rules.specs.TypeDemands.{Known, type_demands, constant_demands}
use Rattle.name_rules.specs.FunctionDemands.{Called, none_called, names_with, called_with, called_after, call_demands, index_demands, alignment_demands, value_demands, operand_demands, block_demand, incoming_demands, signature_demands, count_demands, operation_demands, instruction_demands, instructions_demands, case_demands, ending_demands, block_demands, blocks_demands, parameters_demands, definition_demands}
use Rattle.canonical.proofs.OnReads.Asked.{answers, Same, same_both, same_each}
use Rattle.canonical.proofs.OnReads.UnseenTypes.{new_unseen, type_asked, constant_asked, constant_at_asked}

-- ---- what is called

abbrev pub blank : Called → Called
blank c = record { next = c.next; names = map unplaced_name c.names }

names_blank : (names : List PlacedName) (w : Option Local) → names_with (map unplaced_name names) (option_map unplaced_local w) ≡ map unplaced_name (names_with names w)
names_blank names None = refl
names_blank names (Some (locals.Named n)) = sym (map-append unplaced_name names (n ∷ []))
names_blank names (Some (locals.Numbered n place)) = refl

with_blank : (c : Called) (a : Announced) → called_with (blank c) (unplaced_announced a) ≡ blank (called_with c a)
with_blank c a = λ i. record { next = next_unseen c.next a.1 i; names = names_blank c.names a.1 i }

after_blank : (c : Called) (all : List Announced) → called_after (blank c) (map unplaced_announced all) ≡ blank (called_after c all)
after_blank c [] = refl
after_blank c (a ∷ all) = ap (λ d. called_after d (map unplaced_announced all)) (with_blank c a) ∙ after_blank (called_with c a) all

call_asked : (c : Called) (w : Option Local) → Same (call_demands (blank c) (option_map unplaced_local w)) (call_demands c w)
call_asked c None = refl
call_asked c (Some (locals.Named n)) = new_unseen c.names n
call_asked c (Some (locals.Numbered n place)) = refl

result_blank : (j : InstructionTree) → announced_result (unplaced_instruction j) ≡ map unplaced_announced (announced_result j)
result_blank j = by (has_result j) (has_result_unseen j)
  where
    of : Bool → Option Local → List Announced
    of true w = (false, w) ∷ []
    of false w = []

    of_blank : (b : Bool) → of b (option_map unplaced_local j.result) ≡ map unplaced_announced (of b j.result)
    of_blank true = refl
    of_blank false = refl

    is_of : (b : Bool) (w : Option Local) → cond b ((false, w) ∷ []) [] ≡ of b w
    is_of true w = refl
    is_of false w = refl

    by : (b : Bool) → has_result (unplaced_instruction j) ≡ b → cond (has_result (unplaced_instruction j)) ((false, option_map unplaced_local j.result) ∷ []) [] ≡ map unplaced_announced (cond b ((false, j.result) ∷ []) [])
    by b e = ap (λ h. cond h ((false, option_map unplaced_local j.result) ∷ []) []) e ∙ is_of b (option_map unplaced_local j.result) ∙ of_blank b ∙ ap (map unplaced_announced) (sym (is_of b j.result))

block_blank : (b : BlockTree) → announced_block (unplaced_block b) ≡ map unplaced_announced (announced_block b)
block_blank b = ap (λ rest. (true, option_map unplaced_local b.label) ∷ rest) (results_unseen b.instructions)

blocks_blank : (bs : List BlockTree) → flat_map announced_block (map unplaced_block bs) ≡ map unplaced_announced (flat_map announced_block bs)
blocks_blank [] = refl
blocks_blank (b ∷ bs) = (λ i. block_blank b i ++ blocks_blank bs i) ∙ sym (map-append unplaced_announced (announced_block b) (flat_map announced_block bs))

parameters_blank : (ps : List ParameterTree) → map announced_parameter (map unplaced_parameter ps) ≡ map unplaced_announced (map announced_parameter ps)
parameters_blank [] = refl
parameters_blank (p ∷ ps) = ap (λ rest. (false, option_map unplaced_local p.1) ∷ rest) (parameters_blank ps)

announced_blank : (ps : List ParameterTree) (bs : List BlockTree) → announced (map unplaced_parameter ps) (map unplaced_block bs) ≡ map unplaced_announced (announced ps bs)
announced_blank ps bs = (λ i. parameters_blank ps i ++ blocks_blank bs i) ∙ sym (map-append unplaced_announced (map announced_parameter ps) (flat_map announced_block bs))

known_as_unseen : (n : ℕ) (w : Option Local) → known_as n (option_map unplaced_local w) ≡ known_as n w
known_as_unseen n None = refl
known_as_unseen n (Some (locals.Named name)) = refl
known_as_unseen n (Some (locals.Numbered number place)) = refl

locals_unseen : (n : ℕ) (all : List Announced) → locals_from n (map unplaced_announced all) ≡ locals_from n all
locals_unseen n [] = refl
locals_unseen n (a ∷ all) = (λ i. map (λ name. (name, a.0)) (known_as_unseen n a.1 i) ++ locals_from (next_unseen n a.1 i) (map unplaced_announced all)) ∙ ap (λ rest. map (λ name. (name, a.0)) (known_as n a.1) ++ rest) (locals_unseen (next_behind n a.1) all)

-- ---- instructions

indices_asked : (ns : List Integer) → Same (index_demands (map unplaced_integer ns)) (index_demands ns)
indices_asked [] = refl
indices_asked (n ∷ ns) = ap (λ rest. answers (index_demands (n ∷ [])) ++ rest) (indices_asked ns)

pub alignment_asked : (n : Option Integer) → Same (alignment_demands (option_map unplaced_integer n)) (alignment_demands n)
alignment_asked None = refl
alignment_asked (Some n) = refl

module _ (known : Known) (all : Locals) where
  value_asked : (ty : Tree) (v : ValueTree) → Same (value_demands known all ty (unplaced_value v)) (value_demands known all ty v)
  value_asked ty (LocalValue l) = λ i. is_there all false (local_unseen l i) ∷ []
  value_asked ty (ConstantValue c) = constant_asked known ty c

  value_at_asked : (t : TypeTree) (v : ValueTree) → Same (value_demands known all (type_in (unplaced_type t)) (unplaced_value v)) (value_demands known all (type_in t) v)
  value_at_asked t v = ap (λ u. answers (value_demands known all u (unplaced_value v))) (type_unseen t) ∙ value_asked (type_in t) v

  operand_asked : (o : TypedValueTree) → Same (operand_demands known all (unplaced_operand o)) (operand_demands known all o)
  operand_asked o = same_both (type_demands known (unplaced_type o.0)) (type_demands known o.0) (value_demands known all (type_in (unplaced_type o.0)) (unplaced_value o.1)) (value_demands known all (type_in o.0) o.1) (type_asked known o.0) (value_at_asked o.0 o.1)

  abbrev block_of : Local → List Demand
  block_of l = block_demand known all l ∷ []

  block_asked : (l : Local) → Same (block_of (unplaced_local l)) (block_of l)
  block_asked l = λ i. is_there all true (local_unseen l i) ∷ []

  incoming_asked : (t : TypeTree) (j : IncomingTree) → Same (incoming_demands known all (type_in (unplaced_type t)) (unplaced_incoming j)) (incoming_demands known all (type_in t) j)
  incoming_asked t j = same_both (value_demands known all (type_in (unplaced_type t)) (unplaced_value j.0)) (value_demands known all (type_in t) j.0) (block_of (unplaced_local j.1)) (block_of j.1) (value_at_asked t j.0) (block_asked j.1)

  incomings_asked : (t : TypeTree) (js : List IncomingTree) → Same (flat_map (incoming_demands known all (type_in (unplaced_type t))) (map unplaced_incoming js)) (flat_map (incoming_demands known all (type_in t)) js)
  incomings_asked t [] = refl
  incomings_asked t (j ∷ js) = same_both (incoming_demands known all (type_in (unplaced_type t)) (unplaced_incoming j)) (incoming_demands known all (type_in t) j) (flat_map (incoming_demands known all (type_in (unplaced_type t))) (map unplaced_incoming js)) (flat_map (incoming_demands known all (type_in t)) js) (incoming_asked t j) (incomings_asked t js)

  signature_asked : (s : Option SignatureTree) → Same (signature_demands known all (option_map unplaced_signature s)) (signature_demands known all s)
  signature_asked None = refl
  signature_asked (Some s) = same_each (type_demands known) unplaced_type (type_asked known) s.0

  count_asked : (c : Option TypedValueTree) → Same (count_demands known all (option_map unplaced_operand c)) (count_demands known all c)
  count_asked None = refl
  count_asked (Some o) = operand_asked o

  operands_asked : (os : List TypedValueTree) → Same (flat_map (operand_demands known all) (map unplaced_operand os)) (flat_map (operand_demands known all) os)
  operands_asked os = same_each (operand_demands known all) unplaced_operand operand_asked os

  operation_asked : (o : OperationTree) → Same (operation_demands known all (unplaced_operation o)) (operation_demands known all o)
  operation_asked (Binary opcode flags left right) = same_both (operand_demands known all (unplaced_operand left)) (operand_demands known all left) _ _ (operand_asked left) (value_at_asked left.0 right)
  operation_asked (Compare flags predicate left right) = same_both (operand_demands known all (unplaced_operand left)) (operand_demands known all left) _ _ (operand_asked left) (value_at_asked left.0 right)
  operation_asked (Cast opcode flags value to) = same_both (operand_demands known all (unplaced_operand value)) (operand_demands known all value) _ _ (operand_asked value) (type_asked known to)
  operation_asked (Select condition first second) =
      same_both (operand_demands known all (unplaced_operand condition)) (operand_demands known all condition) _ _ (operand_asked condition)
      (same_both (operand_demands known all (unplaced_operand first)) (operand_demands known all first) _ _ (operand_asked first) (operand_asked second))
  operation_asked (Freeze value) = operand_asked value
  operation_asked (Phi ty incoming) = same_both (type_demands known (unplaced_type ty)) (type_demands known ty) _ _ (type_asked known ty) (incomings_asked ty incoming)
  operation_asked (Load flags ty address alignment) =
      same_both (type_demands known (unplaced_type ty)) (type_demands known ty) _ _ (type_asked known ty)
      (same_both (operand_demands known all (unplaced_operand address)) (operand_demands known all address) _ _ (operand_asked address) (alignment_asked alignment))
  operation_asked (Store flags value address alignment) =
      same_both (operand_demands known all (unplaced_operand value)) (operand_demands known all value) _ _ (operand_asked value)
      (same_both (operand_demands known all (unplaced_operand address)) (operand_demands known all address) _ _ (operand_asked address) (alignment_asked alignment))
  operation_asked (Alloca ty count alignment) =
      same_both (type_demands known (unplaced_type ty)) (type_demands known ty) _ _ (type_asked known ty)
      (same_both (count_demands known all (option_map unplaced_operand count)) (count_demands known all count) _ _ (count_asked count) (alignment_asked alignment))
  operation_asked (GetElementPtr flags source operands) = same_both (type_demands known (unplaced_type source)) (type_demands known source) _ _ (type_asked known source) (operands_asked operands)
  operation_asked (Call call) =
      same_both (type_demands known (unplaced_type call.returns)) (type_demands known call.returns) _ _ (type_asked known call.returns)
      (same_both (signature_demands known all (option_map unplaced_signature call.signature)) (signature_demands known all call.signature) _ _ (signature_asked call.signature)
      (same_both (value_demands known all ptr (unplaced_value call.callee)) (value_demands known all ptr call.callee) _ _ (value_asked ptr call.callee) (operands_asked call.arguments)))
  operation_asked (ExtractValue aggregate indices) = same_both (operand_demands known all (unplaced_operand aggregate)) (operand_demands known all aggregate) _ _ (operand_asked aggregate) (indices_asked indices)
  operation_asked (InsertValue aggregate part indices) =
      same_both (operand_demands known all (unplaced_operand aggregate)) (operand_demands known all aggregate) _ _ (operand_asked aggregate)
      (same_both (operand_demands known all (unplaced_operand part)) (operand_demands known all part) _ _ (operand_asked part) (indices_asked indices))

  instructions_asked : (c : Called) (is : List InstructionTree) → Same (instructions_demands known all (blank c) (map unplaced_instruction is)) (instructions_demands known all c is)
  instructions_asked c [] = refl
  instructions_asked c (j ∷ js) =
      same_both (instruction_demands known all (blank c) (unplaced_instruction j)) (instruction_demands known all c j) _ _
      (same_both (call_demands (blank c) (option_map unplaced_local j.result)) (call_demands c j.result) _ _ (call_asked c j.result) (operation_asked j.operation))
      (ap (λ d. answers (instructions_demands known all d (map unplaced_instruction js))) (ap (called_after (blank c)) (result_blank j) ∙ after_blank c (announced_result j))
      ∙ instructions_asked (called_after c (announced_result j)) js)

  case_asked : (c : CaseTree) → Same (case_demands known all (unplaced_case c)) (case_demands known all c)
  case_asked c =
      same_both (type_demands known (unplaced_type c.0.0)) (type_demands known c.0.0) _ _ (type_asked known c.0.0)
      (same_both (constant_demands known (type_in (unplaced_type c.0.0)) (unplaced_constant c.0.1)) (constant_demands known (type_in c.0.0) c.0.1) _ _ (constant_at_asked known c.0.0 c.0.1) (block_asked c.1))

  ending_asked : (e : EndingTree) → Same (ending_demands known all (unplaced_ending e)) (ending_demands known all e)
  ending_asked ReturnVoid = refl
  ending_asked (Return value) = operand_asked value
  ending_asked (Jump target) = block_asked target
  ending_asked (Branch condition then_to else_to) =
      same_both (operand_demands known all (unplaced_operand condition)) (operand_demands known all condition) _ _ (operand_asked condition)
      (λ i. is_there all true (local_unseen then_to i) ∷ is_there all true (local_unseen else_to i) ∷ [])
  ending_asked (Switch value otherwise cases) =
      same_both (operand_demands known all (unplaced_operand value)) (operand_demands known all value) _ _ (operand_asked value)
      (λ i. is_there all true (local_unseen otherwise i) ∷ same_each (case_demands known all) unplaced_case case_asked cases i)
  ending_asked Unreachable = refl

  block_demands_asked : (c : Called) (b : BlockTree) → Same (block_demands known all (blank c) (unplaced_block b)) (block_demands known all c b)
  block_demands_asked c b =
      same_both (call_demands (blank c) (option_map unplaced_local b.label)) (call_demands c b.label) _ _ (call_asked c b.label)
      (same_both (instructions_demands known all (called_with (blank c) (true, option_map unplaced_local b.label)) (map unplaced_instruction b.instructions)) (instructions_demands known all (called_with c (true, b.label)) b.instructions) _ _
      (ap (λ d. answers (instructions_demands known all d (map unplaced_instruction b.instructions))) (with_blank c (true, b.label)) ∙ instructions_asked (called_with c (true, b.label)) b.instructions)
      (ending_asked b.ending))

  blocks_asked : (c : Called) (bs : List BlockTree) → Same (blocks_demands known all (blank c) (map unplaced_block bs)) (blocks_demands known all c bs)
  blocks_asked c [] = refl
  blocks_asked c (b ∷ bs) =
      same_both (block_demands known all (blank c) (unplaced_block b)) (block_demands known all c b) _ _ (block_demands_asked c b)
      (ap (λ d. answers (blocks_demands known all d (map unplaced_block bs))) (ap (called_after (blank c)) (block_blank b) ∙ after_blank c (announced_block b))
      ∙ blocks_asked (called_after c (announced_block b)) bs)

  parameters_asked : (c : Called) (ps : List ParameterTree) → Same (parameters_demands known all (blank c) (map unplaced_parameter ps)) (parameters_demands known all c ps)
  parameters_asked c [] = refl
  parameters_asked c (p ∷ ps) =
      same_both (type_demands known (unplaced_type p.0)) (type_demands known p.0) _ _ (type_asked known p.0)
      (same_both (call_demands (blank c) (option_map unplaced_local p.1)) (call_demands c p.1) _ _ (call_asked c p.1)
      (ap (λ d. answers (parameters_demands known all d (map unplaced_parameter ps))) (with_blank c (false, p.1)) ∙ parameters_asked (called_with c (false, p.1)) ps))

abbrev parts : Known → Locals → List ParameterTree → List BlockTree → List Demand
parts known l ps bs = parameters_demands known l none_called ps ++ blocks_demands known l (called_after none_called (announced ps [])) bs

pub definition_asked : (known : Known) (ps : List ParameterTree) (bs : List BlockTree) → Same (definition_demands known (map unplaced_parameter ps) (map unplaced_block bs)) (definition_demands known ps bs)
definition_asked known ps bs =
    let all = locals_from 0 (announced ps bs) in
    ap (λ l. answers (parts known l (map unplaced_parameter ps) (map unplaced_block bs))) (ap (locals_from 0) (announced_blank ps bs) ∙ locals_unseen 0 (announced ps bs))
    ∙ same_both (parameters_demands known all none_called (map unplaced_parameter ps)) (parameters_demands known all none_called ps)
    (blocks_demands known all (called_after none_called (announced (map unplaced_parameter ps) [])) (map unplaced_block bs)) (blocks_demands known all (called_after none_called (announced ps [])) bs)
    (parameters_asked known all none_called ps)
    (ap (λ d. answers (blocks_demands known all d (map unplaced_block bs))) (ap (called_after none_called) (announced_blank ps []) ∙ after_blank none_called (announced ps [])) ∙ blocks_asked known all (called_after none_called (announced ps [])) bs)
