-- The names within a function are as good under new names of structs and globals.
use Rattle.std.proofs.Common.{◌≡◌, Bool, not, ◌&&◌, ◌||◌, List, [], ◌∷◌, ◌++◌, map, Option, Some, None, refl, ap, ap₂, ◌∙◌, flat_map, option_map, is_none}
use Rattle.std.specs.Option.{option_map_or}
use Rattle.std.specs.List.{list_all}
use Rattle.ir_tables.specs.Table.{is_distinct}
use Rattle.module_arena.specs.Module.{Bytes, LocalName, Value, Operand, Incoming, Operation, Instruction, Block, Parameter, Function}
use Rattle.module_arena.specs.Module.Operation.{BinaryOperation, Compare, Convert, Select, Freeze, Phi, Load, Store, Alloca, GetElementPtr, Call, ExtractValue, InsertValue}
use Rattle.module_arena.specs.Renamed.{renamed_parameter, renamed_value, renamed_incoming, renamed_operation, renamed_instruction, renamed_block}
use Rattle.module_arena.specs.Same.{same_local, has_local}
use Rattle.module_arena.specs.Operations.{operands, ending_operands, callee, local_in}
use Rattle.module_arena.specs.Functions.{blocks, result_name}
use Rattle.module_arena.specs.Names.{is_local_name, block_results, parameter_names, local_names, is_numbered_from, is_number, is_numbered_as_declared, value_names, locals_of_operation, locals_of_block, blocks_of_operation, blocks_of_block, knows_its_names, has_good_names}
use Rattle.link_rules.proofs.OnValid.Operations.{operands_renamed, callee_renamed, ending_renamed, targets_same, operand_locals_same, locals_same, IsRenamed, blocks_renamed}

module _ (names globals : Bytes → Bytes) where
  results_same : (xs : List Instruction) → flat_map result_name (map (renamed_instruction names globals) xs) ≡ flat_map result_name xs
  results_same [] = refl
  results_same (i ∷ xs) = ap (λ l. result_name i ++ l) (results_same xs)

  all_results_same : (bs : List Block) → flat_map block_results (map (renamed_block names globals) bs) ≡ flat_map block_results bs
  all_results_same [] = refl
  all_results_same (b ∷ bs) = ap₂ (λ x y. x ++ y) (results_same b.instructions) (all_results_same bs)

  all_names_same : (bs : List Block) → flat_map (λ (b : Block). b.name ∷ block_results b) (map (renamed_block names globals) bs) ≡ flat_map (λ (b : Block). b.name ∷ block_results b) bs
  all_names_same [] = refl
  all_names_same (b ∷ bs) = ap₂ (λ x y. (b.name ∷ x) ++ y) (results_same b.instructions) (all_names_same bs)

  block_names_same : (bs : List Block) → map (λ (b : Block). b.name) (map (renamed_block names globals) bs) ≡ map (λ (b : Block). b.name) bs
  block_names_same [] = refl
  block_names_same (b ∷ bs) = ap (λ l. b.name ∷ l) (block_names_same bs)

  parameters_same : (ps : List Parameter) → map (λ (p : Parameter). p.name) (map (renamed_parameter names) ps) ≡ map (λ (p : Parameter). p.name) ps
  parameters_same [] = refl
  parameters_same (p ∷ ps) = ap (λ l. p.name ∷ l) (parameters_same ps)

  callee_same : (c : Option Value) → option_map_or local_in (option_map (renamed_value names globals) c) [] ≡ option_map_or local_in c []
  callee_same None = refl
  callee_same (Some v) = locals_same names globals v

  operation_locals_same : (o : Operation) → locals_of_operation (renamed_operation names globals o) ≡ locals_of_operation o
  operation_locals_same o =
      ap₂ (λ x y. x ++ y)
      (ap (flat_map (λ (x : Operand). local_in x.value)) (operands_renamed names globals o) ∙ operand_locals_same names globals (operands o))
      (ap (λ c. option_map_or local_in c []) (callee_renamed names globals o) ∙ callee_same (callee o))

  instruction_locals_same : (xs : List Instruction) → flat_map (λ (i : Instruction). locals_of_operation i.operation) (map (renamed_instruction names globals) xs) ≡ flat_map (λ (i : Instruction). locals_of_operation i.operation) xs
  instruction_locals_same [] = refl
  instruction_locals_same (i ∷ xs) = ap₂ (λ x y. x ++ y) (operation_locals_same i.operation) (instruction_locals_same xs)

  block_locals_same : (bs : List Block) → flat_map locals_of_block (map (renamed_block names globals) bs) ≡ flat_map locals_of_block bs
  block_locals_same [] = refl
  block_locals_same (b ∷ bs) =
      ap₂ (λ x y. x ++ y)
      (ap₂ (λ x y. x ++ y) (instruction_locals_same b.instructions) (ap (flat_map (λ (x : Operand). local_in x.value)) (ending_renamed names globals b.ending) ∙ operand_locals_same names globals (ending_operands b.ending)))
      (block_locals_same bs)

  incoming_same : (is : List Incoming) → map (λ (i : Incoming). i.block) (map (renamed_incoming names globals) is) ≡ map (λ (i : Incoming). i.block) is
  incoming_same [] = refl
  incoming_same (i ∷ is) = ap (λ l. i.block ∷ l) (incoming_same is)

  operation_blocks_same : (o : Operation) → blocks_of_operation (renamed_operation names globals o) ≡ blocks_of_operation o
  operation_blocks_same (BinaryOperation opcode flags left right) = refl
  operation_blocks_same (Compare flags predicate left right) = refl
  operation_blocks_same (Convert opcode flags value to) = refl
  operation_blocks_same (Select condition first second) = refl
  operation_blocks_same (Freeze value) = refl
  operation_blocks_same (Phi ty incoming) = incoming_same incoming
  operation_blocks_same (Load flags ty address alignment) = refl
  operation_blocks_same (Store flags value address alignment) = refl
  operation_blocks_same (Alloca ty count alignment) = refl
  operation_blocks_same (GetElementPtr flags source base indices) = refl
  operation_blocks_same (Call signature value arguments) = refl
  operation_blocks_same (ExtractValue aggregate indices) = refl
  operation_blocks_same (InsertValue aggregate part indices) = refl

  instruction_blocks_same : (xs : List Instruction) → flat_map (λ (i : Instruction). blocks_of_operation i.operation) (map (renamed_instruction names globals) xs) ≡ flat_map (λ (i : Instruction). blocks_of_operation i.operation) xs
  instruction_blocks_same [] = refl
  instruction_blocks_same (i ∷ xs) = ap₂ (λ x y. x ++ y) (operation_blocks_same i.operation) (instruction_blocks_same xs)

  all_blocks_same : (bs : List Block) → flat_map blocks_of_block (map (renamed_block names globals) bs) ≡ flat_map blocks_of_block bs
  all_blocks_same [] = refl
  all_blocks_same (b ∷ bs) = ap₂ (λ x y. x ++ y) (ap₂ (λ x y. x ++ y) (instruction_blocks_same b.instructions) (targets_same names globals b.ending)) (all_blocks_same bs)

  none_same : {A B : Type 0} (f : A → B) (o : Option A) → is_none (option_map f o) ≡ is_none o
  none_same f None = refl
  none_same f (Some x) = refl

  module _ (f g : Function) (is : IsRenamed names globals f g) where
    parameter_names_same : parameter_names g ≡ parameter_names f
    parameter_names_same = ap (map (λ (p : Parameter). p.name)) is.parameters ∙ parameters_same f.parameters

    local_names_same : local_names g ≡ local_names f
    local_names_same = ap₂ (λ x y. x ++ y) parameter_names_same (ap (flat_map (λ (b : Block). b.name ∷ block_results b)) (blocks_renamed names globals f g is) ∙ all_names_same (blocks f))

    value_names_same : value_names g ≡ value_names f
    value_names_same = ap₂ (λ x y. x ++ y) parameter_names_same (ap (flat_map block_results) (blocks_renamed names globals f g is) ∙ all_results_same (blocks f))

    knows_same : knows_its_names g ≡ knows_its_names f
    knows_same =
        ap₂ (λ a b. a && b)
        (ap₂ (λ x y. list_all (has_local x) y) value_names_same (ap (flat_map locals_of_block) (blocks_renamed names globals f g is) ∙ block_locals_same (blocks f)))
        (ap₂ (λ x y. list_all (has_local x) y)
        (ap (map (λ (b : Block). b.name)) (blocks_renamed names globals f g is) ∙ block_names_same (blocks f))
        (ap (flat_map blocks_of_block) (blocks_renamed names globals f g is) ∙ all_blocks_same (blocks f)))

    pub numbered_same : is_numbered_as_declared g ≡ is_numbered_as_declared f
    numbered_same = ap₂ (λ a b. not a || list_all is_number b) (ap is_none is.body ∙ none_same (map (renamed_block names globals)) f.body) parameter_names_same

    pub good_names_same : has_good_names g ≡ has_good_names f
    good_names_same =
        ap₂ (λ (x : List LocalName) (r : Bool). list_all is_local_name x && (is_distinct same_local x && (is_numbered_from 0 x && r))) local_names_same (ap₂ (λ a b. a && b) numbered_same knows_same)
