-- In a valid module each line of each body can be spelled as it is.
use Rattle.std.proofs.Common.{◌≡◌, ℕ, ◌+◌, true, ◌&&◌, List, [], ◌∷◌, length, flat_map, is_some}
use Rattle.std.specs.List.{list_all, AllByRecursion}
use Rattle.std.proofs.lemmas.Bool.{and_parts}
use Rattle.type_table.specs.Tree.{ptr}
use Rattle.module_arena.specs.Module.{Operation, Call, Instruction, Block, Function, Module}
use Rattle.module_arena.specs.Flow.{flow_of}
use Rattle.module_arena.specs.Forms.{is_instruction_of_phrase, is_operation_of_phrase, has_result_of_phrase}
use Rattle.module_arena.specs.Functions.{blocks}
use Rattle.module_arena.specs.Names.{has_good_names}
use Rattle.module_arena.specs.Operations.{operands, ending_operands, callee}
use Rattle.module_arena.specs.ValueRules.{operands_fit, callee_fits}
use Rattle.module_arena.specs.Valid.{AllHold, instruction_demands, ending_demands, instructions_demands, blocks_demands, function_demands, definedness_demands, operation_uses, operand_uses}
use Rattle.module_arena.specs.Valid as valid
use Rattle.module_arena.specs.WellFormed.{is_good_type, is_good_constant, is_good_block, is_good_function, are_good_operands, types_of_operation, known_in, known_of_operands, known_of_operation, known_of_block}
use Rattle.module_arena.proofs.Parts.{front_holds, rest_holds, valid_blocks, valid_ending}
use Rattle.record_table.specs.Standing.{InstructionStands, EndingStands}
use Rattle.bitcode_write.proofs.Fitting.{all_front, all_rest, value_stands, operands_stand, CalleeStands, operation_stands, result_stands, ending_stands}

-- of a block: its instructions and its end
pub record BlockStands (b : Block) : Type 0 where
  pub instructions : AllByRecursion InstructionStands b.instructions
  pub ending : EndingStands b.ending

-- of a function: its blocks, and that names are as they should be
pub record FunctionStands (f : Function) : Type 0 where
  pub bodies : AllByRecursion BlockStands (blocks f)
  pub names : has_good_names f ≡ true

module _ (m : Module) where
  callee_stands : (o : Operation) → callee_fits m.structs (callee o) ≡ true → list_all (is_good_constant m) (known_of_operation o) ≡ true → CalleeStands (callee o)
  callee_stands (Call s v os) fit good = value_stands m ptr v fit (all_rest (is_good_constant m) (known_of_operands os) (known_in ptr v) good)
  callee_stands _ fit good = tt

  operation_operands : (o : Operation) → list_all (is_good_constant m) (known_of_operation o) ≡ true → list_all (is_good_constant m) (known_of_operands (operands o)) ≡ true
  operation_operands o good = all_front (is_good_constant m) (known_of_operands (operands o)) _ good

  module _ (f : Function) (b : Block) where
    instruction_stands : (before number : ℕ) (i : Instruction) → is_instruction_of_phrase i ≡ true → AllHold (instruction_demands m f b before number i)
        → list_all (is_good_constant m) (known_of_operation i.operation) ≡ true → InstructionStands i
    instruction_stands before number i phrase holds good =
        let entity = valid.InstructionOf number f.name in
        let uses = definedness_demands f entity (operation_uses (flow_of f) (record { block = b.name; before = before }) i.operation) in
        let later = rest_holds uses _ holds.1.1.1.1 in
        let fit = and_parts (operands_fit m.structs (operands i.operation)) (callee_fits m.structs (callee i.operation)) later.1.1.1.1.1.1.1.0 in
        let form = and_parts (is_operation_of_phrase i.operation) (has_result_of_phrase i.operation (is_some i.result)) phrase in (
          operation_stands m f i.operation i.result form.0 holds.1.1.0 later.1.0 later.1.1.1.0 later.1.1.1.1.0 later.1.1.1.1.1.1.0
              (operands_stand m (operands i.operation) fit.0 (operation_operands i.operation good)) (callee_stands i.operation fit.1 good),
          result_stands m f i.operation i.result form.1 later.1.1.1.1.1.1.0,
        )

    instructions_stand : (before number : ℕ) (is : List Instruction)
        → list_all (λ i. is_instruction_of_phrase i && (are_good_operands m (operands i.operation) && list_all (is_good_type m.structs) (types_of_operation i.operation))) is ≡ true
        → AllHold (instructions_demands m f b before number is) → list_all (is_good_constant m) (flat_map (λ (i : Instruction). known_of_operation i.operation) is) ≡ true → AllByRecursion InstructionStands is
    instructions_stand before number [] form holds good = tt
    instructions_stand before number (i ∷ is) form holds good =
        let p = and_parts (is_instruction_of_phrase i && (are_good_operands m (operands i.operation) && list_all (is_good_type m.structs) (types_of_operation i.operation))) _ form in
        let here = and_parts (is_instruction_of_phrase i) (are_good_operands m (operands i.operation) && list_all (is_good_type m.structs) (types_of_operation i.operation)) p.0 in
        let others = flat_map (λ (j : Instruction). known_of_operation j.operation) is in (
          instruction_stands before number i here.0 (front_holds (instruction_demands m f b before number i) (instructions_demands m f b (before + 1) (number + 1) is) holds)
              (all_front (is_good_constant m) (known_of_operation i.operation) others good),
          instructions_stand (before + 1) (number + 1) is p.1 (rest_holds (instruction_demands m f b before number i) (instructions_demands m f b (before + 1) (number + 1) is) holds)
              (all_rest (is_good_constant m) (known_of_operation i.operation) others good),
        )

    end_stands : (number : ℕ) → AllHold (ending_demands m f b number) → list_all (is_good_constant m) (known_of_operands (ending_operands b.ending)) ≡ true → EndingStands b.ending
    end_stands number holds good =
        let entity = valid.InstructionOf number f.name in
        let uses = definedness_demands f entity (operand_uses (record { block = b.name; before = length b.instructions }) (ending_operands b.ending)) in
        let later = rest_holds uses _ holds.1.1 in
        ending_stands m f b.ending later.1.0 (operands_stand m (ending_operands b.ending) later.1.1.0 good)

  blocks_stand : (f : Function) (number : ℕ) (bs : List Block) → list_all (is_good_block m) bs ≡ true → AllHold (blocks_demands m f number bs) → list_all (is_good_constant m) (flat_map known_of_block bs) ≡ true → AllByRecursion BlockStands bs
  blocks_stand f number [] form holds good = tt
  blocks_stand f number (b ∷ bs) form holds good =
      let p = and_parts (is_good_block m b) (list_all (is_good_block m) bs) form in
      let lines = and_parts _ (are_good_operands m (ending_operands b.ending)) p.0 in
      let here = front_holds (instructions_demands m f b 0 number b.instructions) (blocks_demands m f (number + length b.instructions + 1) bs) holds in
      let known = all_front (is_good_constant m) (known_of_block b) (flat_map known_of_block bs) good in
      let inner = flat_map (λ (i : Instruction). known_of_operation i.operation) b.instructions in
      let outer = known_of_operands (ending_operands b.ending) in (
        record {
          instructions = instructions_stand f b 0 number b.instructions lines.0 here (all_front (is_good_constant m) inner outer known);
          ending = end_stands f b (number + length b.instructions) (valid_ending m f b 0 number b.instructions here) (all_rest (is_good_constant m) inner outer known);
        },
        blocks_stand f (number + length b.instructions + 1) bs p.1 (rest_holds (instructions_demands m f b 0 number b.instructions) (blocks_demands m f (number + length b.instructions + 1) bs) holds)
            (all_rest (is_good_constant m) (known_of_block b) (flat_map known_of_block bs) good),
      )

  pub functions_stand : (fs : List Function) → list_all (is_good_function m) fs ≡ true → AllHold (flat_map (function_demands m) fs)
      → list_all (is_good_constant m) (flat_map (λ (f : Function). flat_map known_of_block (blocks f)) fs) ≡ true → AllByRecursion FunctionStands fs
  functions_stand [] form holds good = tt
  functions_stand (f ∷ fs) form holds good =
      let p = and_parts (is_good_function m f) (list_all (is_good_function m) fs) form in
      let q = and_parts _ _ (and_parts _ _ (and_parts (is_good_type m.structs f.returns) _ p.0).1).1 in
      let r = and_parts (has_good_names f) (list_all (is_good_block m) (blocks f)) q.1 in
      let here = flat_map known_of_block (blocks f) in
      let others = flat_map (λ (g : Function). flat_map known_of_block (blocks g)) fs in
      let demands = front_holds (function_demands m f) (flat_map (function_demands m) fs) holds in (
        record { bodies = blocks_stand f 0 (blocks f) r.1 (valid_blocks m f demands).1 (all_front (is_good_constant m) here others good); names = r.0 },
        functions_stand fs p.1 (rest_holds (function_demands m f) (flat_map (function_demands m) fs) holds) (all_rest (is_good_constant m) here others good),
      )
