-- What validity and well-formedness ask of an instruction and of an end.
use Rattle.std.proofs.Common.{◌≡◌, ℕ, ◌+◌, length, Bool, true, ◌&&◌, Some, is_some}
use Rattle.std.specs.Prelude.{slice_get}
use Rattle.std.specs.List.{list_all}
use Rattle.std.proofs.lemmas.Bool.{and_parts}
use Rattle.module_arena.specs.Flow.{flow_of}
use Rattle.module_arena.specs.Forms.{is_instruction_of_phrase, is_operation_of_phrase, has_result_of_phrase}
use Rattle.module_arena.specs.InstructionRules.{operands_suit, callee_types_suit, result_suits, other_types_suit, operation_types_suit, operation_alignment_suits}
use Rattle.module_arena.specs.Module.{Instruction, Block, Function, Module}
use Rattle.module_arena.specs.Operations.{operands, ending_operands, callee, result_type}
use Rattle.module_arena.specs.Valid.{AllHold, InstructionOf, operand_uses, operation_uses, definedness_demands, instruction_demands, ending_demands, instructions_demands}
use Rattle.module_arena.specs.ValueRules.{have_types_written, arithmetic_suits, cast_suits, address_suits, element_address_suits, part_suits, call_suits, ending_suits, operands_fit, callee_fits}
use Rattle.module_arena.specs.WellFormed.{is_good_type, types_of_operation, are_good_operands, is_good_block}
use Rattle.module_arena.proofs.Parts.{rest_holds, valid_instruction, valid_ending}
use Rattle.run_rules.proofs.OnPlaces.Search.{all_at}

-- of an instruction, by validity
pub record IsDemanded (m : Module) (f : Function) (i : Instruction) : Type 0 where
  pub lies : other_types_suit m.structs i.operation ≡ true
  pub alignment : operation_alignment_suits i.operation ≡ true
  pub locals : have_types_written m.structs f (operands i.operation) ≡ true
  pub arithmetic : arithmetic_suits i.operation ≡ true
  pub cast : cast_suits i.operation ≡ true
  pub address : address_suits i.operation ≡ true
  pub element : element_address_suits m.structs i.operation ≡ true
  pub part : part_suits m.structs i.operation ≡ true
  pub call : call_suits m.structs f i.result i.operation ≡ true
  pub fit : operands_fit m.structs (operands i.operation) ≡ true
  pub callee_fit : callee_fits m.structs (callee i.operation) ≡ true

-- of an end
pub record IsEndDemanded (m : Module) (f : Function) (b : Block) : Type 0 where
  pub locals : have_types_written m.structs f (ending_operands b.ending) ≡ true
  pub suits : ending_suits f b.ending ≡ true
  pub fit : operands_fit m.structs (ending_operands b.ending) ≡ true

-- of an instruction, by its phrase
pub record IsGoodInstruction (m : Module) (i : Instruction) : Type 0 where
  pub phrase : is_operation_of_phrase i.operation ≡ true
  pub named : has_result_of_phrase i.operation (is_some i.result) ≡ true
  pub operands_good : are_good_operands m (operands i.operation) ≡ true
  pub types : list_all (is_good_type m.structs) (types_of_operation i.operation) ≡ true

module _ (m : Module) (f : Function) (b : Block) where
  other_types : (i : Instruction) → operation_types_suit m.structs i.operation ≡ true → other_types_suit m.structs i.operation ≡ true
  other_types i h =
      let o = i.operation in
      let p = and_parts (operands_suit m.structs (operands o)) (callee_types_suit m.structs (callee o) && (result_suits m.structs (result_type m.structs o) && other_types_suit m.structs o)) h in
      let q = and_parts (callee_types_suit m.structs (callee o)) (result_suits m.structs (result_type m.structs o) && other_types_suit m.structs o) p.1 in
      (and_parts (result_suits m.structs (result_type m.structs o)) (other_types_suit m.structs o) q.1).1

  demanded : (before number : ℕ) (i : Instruction) → AllHold (instruction_demands m f b before number i) → IsDemanded m f i
  demanded before number i h =
      let later = rest_holds (definedness_demands f (InstructionOf number f.name) (operation_uses (flow_of f) (record { block = b.name; before = before }) i.operation)) _ h.1.1.1.1 in
      let last = and_parts (operands_fit m.structs (operands i.operation)) (callee_fits m.structs (callee i.operation)) later.1.1.1.1.1.1.1.0 in
      record {
        lies = other_types i h.1.0;
        alignment = h.1.1.0;
        locals = later.0;
        arithmetic = later.1.0;
        cast = later.1.1.0;
        address = later.1.1.1.0;
        element = later.1.1.1.1.0;
        part = later.1.1.1.1.1.0;
        call = later.1.1.1.1.1.1.0;
        fit = last.0;
        callee_fit = last.1;
      }

  end_demanded : (number : ℕ) → AllHold (ending_demands m f b number) → IsEndDemanded m f b
  end_demanded number h =
      let later = rest_holds (definedness_demands f (InstructionOf number f.name) (operand_uses (record { block = b.name; before = length b.instructions }) (ending_operands b.ending))) _ h.1.1 in
      record { locals = later.0; suits = later.1.0; fit = later.1.1.0 }

  -- in a block that is asked for
  pub instruction_demanded : (first j : ℕ) (i : Instruction) → AllHold (instructions_demands m f b 0 first b.instructions) → slice_get b.instructions j ≡ Some i → IsDemanded m f i
  instruction_demanded first j i h e = demanded (0 + j) (first + j) i (valid_instruction m f b 0 first b.instructions j i h e)

  pub ending_demanded : (first : ℕ) → AllHold (instructions_demands m f b 0 first b.instructions) → IsEndDemanded m f b
  ending_demanded first h = end_demanded (first + length b.instructions) (valid_ending m f b 0 first b.instructions h)

  -- in a block that is well formed
  abbrev is_good_instruction : Instruction → Bool
  is_good_instruction i = is_instruction_of_phrase i && (are_good_operands m (operands i.operation) && list_all (is_good_type m.structs) (types_of_operation i.operation))

  good_parts : is_good_block m b ≡ true → (list_all is_good_instruction b.instructions ≡ true) × (are_good_operands m (ending_operands b.ending) ≡ true)
  good_parts h = and_parts (list_all is_good_instruction b.instructions) (are_good_operands m (ending_operands b.ending)) h

  pub instruction_good : (j : ℕ) (i : Instruction) → is_good_block m b ≡ true → slice_get b.instructions j ≡ Some i → IsGoodInstruction m i
  instruction_good j i h e =
      let p = and_parts (is_instruction_of_phrase i) (are_good_operands m (operands i.operation) && list_all (is_good_type m.structs) (types_of_operation i.operation)) (all_at is_good_instruction b.instructions j i (good_parts h).0 e) in
      let q = and_parts (is_operation_of_phrase i.operation) (has_result_of_phrase i.operation (is_some i.result)) p.0 in
      let r = and_parts (are_good_operands m (operands i.operation)) (list_all (is_good_type m.structs) (types_of_operation i.operation)) p.1 in
      record { phrase = q.0; named = q.1; operands_good = r.0; types = r.1 }

  pub ending_good : is_good_block m b ≡ true → are_good_operands m (ending_operands b.ending) ≡ true
  ending_good h = (good_parts h).1
