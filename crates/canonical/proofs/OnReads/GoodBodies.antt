-- What a well-formed module says of instructions and blocks, part by part.
use Rattle.std.specs.Prelude.{◌≡◌, Bool, true, ◌&&◌, List, [], ◌∷◌, flat_map, is_some}
use Rattle.std.specs.List.{list_all}
use Rattle.std.specs.Option.{option_map_or}
use Rattle.std.proofs.lemmas.Bool.{and_parts}
use Rattle.module_arena.specs.Module.{LocalName, Operation, Instruction, Ending, Block, Module}
use Rattle.module_arena.specs.Same.{has_local}
use Rattle.module_arena.specs.Operations.{operands, ending_operands, callee, local_in, targets}
use Rattle.module_arena.specs.Forms.{is_operation_of_phrase, has_result_of_phrase, is_instruction_of_phrase}
use Rattle.module_arena.specs.Names.{locals_of_operation, locals_of_block, blocks_of_operation, blocks_of_block}
use Rattle.module_arena.specs.WellFormed.{is_good_type, types_of_operation, known_in, known_of_operands, known_of_operation, known_of_block, is_good_constant, are_good_operands, is_good_block}
use Rattle.type_table.specs.Tree.{ptr}
use Rattle.canonical.proofs.OnReads.Good.{all_front, all_rest, AreGoodOperands, good_operands, good_callee, IsGoodOperation}

module _ (m : Module) (values ends : List LocalName) where
  pub record IsGoodInstruction (i : Instruction) : Type 0 where
    pub operation : IsGoodOperation m values ends i.operation
    pub named : has_result_of_phrase i.operation (is_some i.result) ≡ true

  abbrev pub AreGoodInstructions : List Instruction → Type 0
  AreGoodInstructions [] = Unit {0}
  AreGoodInstructions (i ∷ is) = IsGoodInstruction i × AreGoodInstructions is

  pub record IsGoodEnding (e : Ending) : Type 0 where
    pub works_on : AreGoodOperands m values (ending_operands e)
    pub leads_to : list_all (has_local ends) (targets e) ≡ true

  pub record IsGoodBlock (b : Block) : Type 0 where
    pub instructions : AreGoodInstructions b.instructions
    pub ending : IsGoodEnding b.ending

  abbrev pub AreGoodBlocks : List Block → Type 0
  AreGoodBlocks [] = Unit {0}
  AreGoodBlocks (b ∷ bs) = IsGoodBlock b × AreGoodBlocks bs

  abbrev is_good : Instruction → Bool
  is_good i = is_instruction_of_phrase i && (are_good_operands m (operands i.operation) && list_all (is_good_type m.structs) (types_of_operation i.operation))

  good_operation : (o : Operation) → is_operation_of_phrase o ≡ true → are_good_operands m (operands o) ≡ true → list_all (is_good_type m.structs) (types_of_operation o) ≡ true
      → list_all (is_good_constant m) (known_of_operation o) ≡ true → list_all (has_local values) (locals_of_operation o) ≡ true → list_all (has_local ends) (blocks_of_operation o) ≡ true → IsGoodOperation m values ends o
  good_operation o p os ts cs ls bs = record {
    works_on = good_operands m values (operands o) os
        (all_front (is_good_constant m) (known_of_operands (operands o)) (option_map_or (known_in ptr) (callee o) []) cs)
        (all_front (has_local values) (flat_map (λ x. local_in x.value) (operands o)) (option_map_or local_in (callee o) []) ls);
    called = good_callee m values (callee o)
        (all_rest (is_good_constant m) (known_of_operands (operands o)) (option_map_or (known_in ptr) (callee o) []) cs)
        (all_rest (has_local values) (flat_map (λ x. local_in x.value) (operands o)) (option_map_or local_in (callee o) []) ls);
    types = ts;
    comes_from = bs;
    phrase = p;
  }

  good_instructions : (is : List Instruction) → list_all is_good is ≡ true → list_all (is_good_constant m) (flat_map (λ i. known_of_operation i.operation) is) ≡ true
      → list_all (has_local values) (flat_map (λ i. locals_of_operation i.operation) is) ≡ true → list_all (has_local ends) (flat_map (λ i. blocks_of_operation i.operation) is) ≡ true → AreGoodInstructions is
  good_instructions [] e cs ls bs = tt
  good_instructions (i ∷ is) e cs ls bs =
      let a = and_parts (is_good i) (list_all is_good is) e in
      let b = and_parts (is_instruction_of_phrase i) (are_good_operands m (operands i.operation) && list_all (is_good_type m.structs) (types_of_operation i.operation)) a.0 in
      let c = and_parts (is_operation_of_phrase i.operation) (has_result_of_phrase i.operation (is_some i.result)) b.0 in
      let d = and_parts (are_good_operands m (operands i.operation)) (list_all (is_good_type m.structs) (types_of_operation i.operation)) b.1 in (
        record {
          operation = good_operation i.operation c.0 d.0 d.1
              (all_front (is_good_constant m) (known_of_operation i.operation) (flat_map (λ i. known_of_operation i.operation) is) cs)
              (all_front (has_local values) (locals_of_operation i.operation) (flat_map (λ i. locals_of_operation i.operation) is) ls)
              (all_front (has_local ends) (blocks_of_operation i.operation) (flat_map (λ i. blocks_of_operation i.operation) is) bs);
          named = c.1;
        },
        good_instructions is a.1 (all_rest (is_good_constant m) (known_of_operation i.operation) (flat_map (λ i. known_of_operation i.operation) is) cs)
            (all_rest (has_local values) (locals_of_operation i.operation) (flat_map (λ i. locals_of_operation i.operation) is) ls)
            (all_rest (has_local ends) (blocks_of_operation i.operation) (flat_map (λ i. blocks_of_operation i.operation) is) bs),
      )

  pub good_blocks : (bs : List Block) → list_all (is_good_block m) bs ≡ true → list_all (is_good_constant m) (flat_map known_of_block bs) ≡ true
      → list_all (has_local values) (flat_map locals_of_block bs) ≡ true → list_all (has_local ends) (flat_map blocks_of_block bs) ≡ true → AreGoodBlocks bs
  good_blocks [] e cs ls ts = tt
  good_blocks (b ∷ bs) e cs ls ts =
      let a = and_parts (is_good_block m b) (list_all (is_good_block m) bs) e in
      let p = and_parts (list_all is_good b.instructions) (are_good_operands m (ending_operands b.ending)) a.0 in
      let cb = all_front (is_good_constant m) (known_of_block b) (flat_map known_of_block bs) cs in
      let lb = all_front (has_local values) (locals_of_block b) (flat_map locals_of_block bs) ls in
      let tb = all_front (has_local ends) (blocks_of_block b) (flat_map blocks_of_block bs) ts in (
        record {
          instructions = good_instructions b.instructions p.0
              (all_front (is_good_constant m) (flat_map (λ i. known_of_operation i.operation) b.instructions) (known_of_operands (ending_operands b.ending)) cb)
              (all_front (has_local values) (flat_map (λ i. locals_of_operation i.operation) b.instructions) (flat_map (λ x. local_in x.value) (ending_operands b.ending)) lb)
              (all_front (has_local ends) (flat_map (λ i. blocks_of_operation i.operation) b.instructions) (targets b.ending) tb);
          ending = record {
            works_on = good_operands m values (ending_operands b.ending) p.1
                (all_rest (is_good_constant m) (flat_map (λ i. known_of_operation i.operation) b.instructions) (known_of_operands (ending_operands b.ending)) cb)
                (all_rest (has_local values) (flat_map (λ i. locals_of_operation i.operation) b.instructions) (flat_map (λ x. local_in x.value) (ending_operands b.ending)) lb);
            leads_to = all_rest (has_local ends) (flat_map (λ i. blocks_of_operation i.operation) b.instructions) (targets b.ending) tb;
          };
        },
        good_blocks bs a.1 (all_rest (is_good_constant m) (known_of_block b) (flat_map known_of_block bs) cs) (all_rest (has_local values) (locals_of_block b) (flat_map locals_of_block bs) ls)
            (all_rest (has_local ends) (blocks_of_block b) (flat_map blocks_of_block bs) ts),
      )
