-- All that a function's body is asked for holds of it under new names.
use Rattle.std.proofs.Common.{◌≡◌, ℕ, suc, ◌+◌, true, List, [], ◌∷◌, ◌++◌, map, length, refl, sym, ap, ap₂, ◌∙◌, subst, option_to_list, flat_map, take, ◌==◌}
use Rattle.std.specs.List.{AllByRecursion}
use Rattle.std.proofs.lemmas.Bool.{and_from, and_parts}
use Rattle.std.proofs.lemmas.List.{take-map}
use Rattle.module_arena.specs.Module.{Bytes, LocalName, Operand, Incoming, Operation, Instruction, Block, Function, Module}
use Rattle.module_arena.specs.Module.Operation.{BinaryOperation, Compare, Convert, Select, Freeze, Phi, Load, Store, Alloca, GetElementPtr, Call, ExtractValue, InsertValue}
use Rattle.module_arena.specs.Renamed.{renamed_operand, renamed_incoming, renamed_operation, renamed_instruction, renamed_ending, renamed_block}
use Rattle.module_arena.specs.Operations.{operands, ending_operands, callee, local_in}
use Rattle.module_arena.specs.Functions.{blocks}
use Rattle.module_arena.specs.Flow.{Flow, FlowPlace, flow_of, predecessors, end_of}
use Rattle.module_arena.specs.Paths.{IsSurelyDefined}
use Rattle.module_arena.specs.InstructionRules.{operands_take_no_intrinsic, callee_takes_no_intrinsic, operands_suit, phi_suits}
use Rattle.module_arena.specs.ValueRules.{have_types_written, operands_fit, callee_fits}
use Rattle.module_arena.specs.Valid.{Entity, AllHold, incoming_uses, operand_uses, operation_uses, definedness_demands, operation_phi_suits, instruction_demands, ending_demands, instructions_demands, blocks_demands, entry_demands}
use Rattle.module_arena.proofs.Parts.{front_holds, rest_holds, both_hold}
use Rattle.link_rules.proofs.OnValid.Types.{KeepsStructs}
use Rattle.link_rules.proofs.OnValid.Operations.{KnownOperation, KnownBlock, KnownFunction, operands_renamed, callee_renamed, ending_renamed, locals_same, operand_locals_same, callee_locals_same, IsRenamed, blocks_renamed, flow_same}
use Rattle.link_rules.proofs.OnValid.Instructions.{OperandKept, CalleeKept, operands_no_intrinsic_kept, callee_no_intrinsic_kept, phi_kept, operands_suit_kept, operation_types_kept, operation_alignment_same}
use Rattle.link_rules.proofs.OnValid.Values.{arithmetic_kept, casts_kept, addresses_kept, ending_kept, element_addresses_kept, parts_kept, operands_fit_kept, callee_fits_kept, types_written_kept, calls_kept}

-- what a body names that is no intrinsic is none under its new name
pub record BlockKept (old new : Module) (globals : Bytes → Bytes) (b : Block) : Type 0 where
  pub operands : AllByRecursion (λ i. AllByRecursion (OperandKept old new globals) (operands i.operation)) b.instructions
  pub callees : AllByRecursion (λ i. CalleeKept old new globals (callee i.operation)) b.instructions
  pub ending : AllByRecursion (OperandKept old new globals) (ending_operands b.ending)

-- USES

module _ (names globals : Bytes → Bytes) (flow : Flow) (place : FlowPlace) where
  abbrev at : LocalName → FlowPlace × LocalName
  at name = (place, name)

  abbrev plain_uses : Operation → List (FlowPlace × LocalName)
  plain_uses o = operand_uses place (operands o) ++ map at (flat_map local_in (option_to_list (callee o)))

  pub operand_uses_same : (os : List Operand) → operand_uses place (map (renamed_operand names globals) os) ≡ operand_uses place os
  operand_uses_same os = ap (map at) (operand_locals_same names globals os)

  plain_same : (o : Operation) → plain_uses (renamed_operation names globals o) ≡ plain_uses o
  plain_same o =
      ap₂ (λ x y. x ++ y) (ap (operand_uses place) (operands_renamed names globals o) ∙ operand_uses_same (operands o))
      (ap (λ c. map at (flat_map local_in (option_to_list c))) (callee_renamed names globals o) ∙ ap (map at) (callee_locals_same names globals (callee o)))

  incoming_same : (is : List Incoming) → flat_map (incoming_uses flow) (map (renamed_incoming names globals) is) ≡ flat_map (incoming_uses flow) is
  incoming_same [] = refl
  incoming_same (i ∷ is) =
      ap₂ (λ x y. x ++ y) (ap (map {B = FlowPlace × LocalName} (λ name. (end_of flow i.block, name))) (locals_same names globals i.value)) (incoming_same is)

  pub uses_same : (o : Operation) → operation_uses flow place (renamed_operation names globals o) ≡ operation_uses flow place o
  uses_same (Phi ty incoming) = incoming_same incoming
  uses_same (BinaryOperation opcode flags left right) = plain_same (BinaryOperation opcode flags left right)
  uses_same (Compare flags predicate left right) = plain_same (Compare flags predicate left right)
  uses_same (Convert opcode flags value to) = plain_same (Convert opcode flags value to)
  uses_same (Select condition first second) = plain_same (Select condition first second)
  uses_same (Freeze value) = plain_same (Freeze value)
  uses_same (Load flags ty address alignment) = plain_same (Load flags ty address alignment)
  uses_same (Store flags value address alignment) = plain_same (Store flags value address alignment)
  uses_same (Alloca ty count alignment) = plain_same (Alloca ty count alignment)
  uses_same (GetElementPtr flags source base indices) = plain_same (GetElementPtr flags source base indices)
  uses_same (Call signature value arguments) = plain_same (Call signature value arguments)
  uses_same (ExtractValue aggregate indices) = plain_same (ExtractValue aggregate indices)
  uses_same (InsertValue aggregate part indices) = plain_same (InsertValue aggregate part indices)

length_renamed : {A B : Type 0} (f : A → B) (xs : List A) → length (map f xs) ≡ length xs
length_renamed f [] = refl
length_renamed f (x ∷ xs) = ap suc (length_renamed f xs)

-- DEMANDS

module _ (m n : Module) (names globals : Bytes → Bytes) (keeps : KeepsStructs m.structs n.structs names) (f g : Function) (is : IsRenamed names globals f g) (known : KnownFunction m.structs f) where
  defined_kept : (d e : Entity) (us vs : List (FlowPlace × LocalName)) → vs ≡ us → AllHold (definedness_demands f d us) → AllHold (definedness_demands g e vs)
  defined_kept d e us vs same h = subst (λ l. AllHold (definedness_demands g e l)) (sym same) (go us h)
    where
      go : (us : List (FlowPlace × LocalName)) → AllHold (definedness_demands f d us) → AllHold (definedness_demands g e us)
      go [] h = tt
      go (u ∷ us) h = (subst (λ (flow : Flow). IsSurelyDefined flow u.0 u.1) (sym (flow_same names globals f g is)) h.0, go us h.1)

  operation_phi_kept : (b : Block) (before : ℕ) (o : Operation) → operation_phi_suits f b before o ≡ true → operation_phi_suits g (renamed_block names globals b) before (renamed_operation names globals o) ≡ true
  operation_phi_kept b before (Phi ty incoming) h =
      ap₂ (λ (flow : Flow) before_it. phi_suits flow b.name before_it (map (renamed_incoming names globals) incoming)) (flow_same names globals f g is) (take-map (renamed_instruction names globals) before b.instructions)
      ∙ phi_kept names globals (flow_of f) b.name (take before b.instructions) incoming h
  operation_phi_kept b before (BinaryOperation opcode flags left right) h = refl
  operation_phi_kept b before (Compare flags predicate left right) h = refl
  operation_phi_kept b before (Convert opcode flags value to) h = refl
  operation_phi_kept b before (Select condition first second) h = refl
  operation_phi_kept b before (Freeze value) h = refl
  operation_phi_kept b before (Load flags ty address alignment) h = refl
  operation_phi_kept b before (Store flags value address alignment) h = refl
  operation_phi_kept b before (Alloca ty count alignment) h = refl
  operation_phi_kept b before (GetElementPtr flags source base indices) h = refl
  operation_phi_kept b before (Call signature value arguments) h = refl
  operation_phi_kept b before (ExtractValue aggregate indices) h = refl
  operation_phi_kept b before (InsertValue aggregate part indices) h = refl

  instruction_kept : (b : Block) (before k l : ℕ) (i : Instruction) → KnownOperation m.structs i.operation → AllByRecursion (OperandKept m n globals) (operands i.operation) → CalleeKept m n globals (callee i.operation) → AllHold (instruction_demands m f b before k i) → AllHold (instruction_demands n g (renamed_block names globals b) before l (renamed_instruction names globals i))
  instruction_kept b before k l i known_here os c h =
      let o = i.operation in
      let five = and_parts (operands_take_no_intrinsic m (operands o)) _ h.0 in
      let later = rest_holds (definedness_demands f (Entity.InstructionOf k f.name) (operation_uses (flow_of f) (record { block = b.name; before = before }) o)) _ h.1.1.1.1 in
      let last = and_parts (operands_fit m.structs (operands o)) _ later.1.1.1.1.1.1.1.0 in (
        and_from _ _ (ap (operands_take_no_intrinsic n) (operands_renamed names globals o) ∙ operands_no_intrinsic_kept m n names globals (operands o) os five.0)
            (ap (callee_takes_no_intrinsic n) (callee_renamed names globals o) ∙ callee_no_intrinsic_kept m n names globals (callee o) c five.1),
        (
          operation_types_kept m.structs n.structs names globals keeps o known_here h.1.0,
          (
            operation_alignment_same names globals o ∙ h.1.1.0,
            (
              operation_phi_kept b before o h.1.1.1.0,
              both_hold (definedness_demands g (Entity.InstructionOf l g.name) (operation_uses (flow_of g) (record { block = b.name; before = before }) (renamed_operation names globals o))) _
                  (defined_kept (Entity.InstructionOf k f.name) (Entity.InstructionOf l g.name) _ _
                  (ap (λ (flow : Flow). operation_uses flow (record { block = b.name; before = before }) (renamed_operation names globals o)) (flow_same names globals f g is) ∙ uses_same names globals (flow_of f) (record { block = b.name; before = before }) o)
                  (front_holds (definedness_demands f (Entity.InstructionOf k f.name) (operation_uses (flow_of f) (record { block = b.name; before = before }) o)) _ h.1.1.1.1)) (
                    ap (have_types_written n.structs g) (operands_renamed names globals o) ∙ types_written_kept m.structs n.structs names globals keeps f g is known (operands o) later.0,
                    (
                      arithmetic_kept names globals o later.1.0,
                      (
                        casts_kept names globals o later.1.1.0,
                        (
                          addresses_kept names globals o later.1.1.1.0,
                          (
                            element_addresses_kept m.structs n.structs names globals keeps o known_here later.1.1.1.1.0,
                            (
                              parts_kept m.structs n.structs names globals keeps o known_here later.1.1.1.1.1.0,
                              (
                                calls_kept m.structs n.structs names globals keeps f g is known i.result o later.1.1.1.1.1.1.0,
                                (
                                  and_from _ _ (ap (operands_fit n.structs) (operands_renamed names globals o) ∙ operands_fit_kept m.structs n.structs names globals keeps (operands o) known_here.operands last.0)
                                      (ap (callee_fits n.structs) (callee_renamed names globals o) ∙ callee_fits_kept m.structs n.structs names globals keeps (callee o) known_here.callee last.1),
                                  tt,
                                ),
                              ),
                            ),
                          ),
                        ),
                      ),
                    ),
                  ),
            ),
          ),
        ),
      )

  ending_holds : (b : Block) (k l : ℕ) → KnownBlock m.structs b → BlockKept m n globals b → AllHold (ending_demands m f b k) → AllHold (ending_demands n g (renamed_block names globals b) l)
  ending_holds b k l known_here kept h =
      let os = ending_operands b.ending in
      let later = rest_holds (definedness_demands f (Entity.InstructionOf k f.name) (operand_uses (record { block = b.name; before = length b.instructions }) os)) _ h.1.1 in (
        ap (operands_take_no_intrinsic n) (ending_renamed names globals b.ending) ∙ operands_no_intrinsic_kept m n names globals os kept.ending h.0,
        (
          ap (operands_suit n.structs) (ending_renamed names globals b.ending) ∙ operands_suit_kept m.structs n.structs names globals keeps os known_here.ending h.1.0,
          both_hold (definedness_demands g (Entity.InstructionOf l g.name) (operand_uses (record { block = b.name; before = length (map (renamed_instruction names globals) b.instructions) }) (ending_operands (renamed_ending names globals b.ending)))) _
              (defined_kept (Entity.InstructionOf k f.name) (Entity.InstructionOf l g.name) _ _
              (ap₂ (λ (x : ℕ) y. operand_uses (record { block = b.name; before = x }) y) (length_renamed (renamed_instruction names globals) b.instructions) (ending_renamed names globals b.ending) ∙ operand_uses_same names globals (flow_of f) (record { block = b.name; before = length b.instructions }) os)
              (front_holds (definedness_demands f (Entity.InstructionOf k f.name) (operand_uses (record { block = b.name; before = length b.instructions }) os)) _ h.1.1)) (
                ap (have_types_written n.structs g) (ending_renamed names globals b.ending) ∙ types_written_kept m.structs n.structs names globals keeps f g is known os later.0,
                (
                  ending_kept names globals f g b.ending is.returns later.1.0,
                  (
                    ap (operands_fit n.structs) (ending_renamed names globals b.ending) ∙ operands_fit_kept m.structs n.structs names globals keeps os known_here.ending later.1.1.0,
                    tt,
                  ),
                ),
              ),
        ),
      )

  instructions_kept : (b : Block) (before k l : ℕ) (xs : List Instruction) → KnownBlock m.structs b → BlockKept m n globals b → AllByRecursion (λ i. KnownOperation m.structs i.operation) xs → AllByRecursion (λ i. AllByRecursion (OperandKept m n globals) (operands i.operation)) xs → AllByRecursion (λ i. CalleeKept m n globals (callee i.operation)) xs → AllHold (instructions_demands m f b before k xs) → AllHold (instructions_demands n g (renamed_block names globals b) before l (map (renamed_instruction names globals) xs))
  instructions_kept b before k l [] known_here kept a o c h = ending_holds b k l known_here kept h
  instructions_kept b before k l (i ∷ xs) known_here kept a o c h =
      both_hold (instruction_demands n g (renamed_block names globals b) before l (renamed_instruction names globals i)) _
      (instruction_kept b before k l i a.0 o.0 c.0 (front_holds (instruction_demands m f b before k i) _ h))
      (instructions_kept b (before + 1) (k + 1) (l + 1) xs known_here kept a.1 o.1 c.1 (rest_holds (instruction_demands m f b before k i) _ h))

  blocks_kept : (k l : ℕ) (bs : List Block) → AllByRecursion (KnownBlock m.structs) bs → AllByRecursion (BlockKept m n globals) bs → AllHold (blocks_demands m f k bs) → AllHold (blocks_demands n g l (map (renamed_block names globals) bs))
  blocks_kept k l [] a kept h = tt
  blocks_kept k l (b ∷ bs) a kept h =
      both_hold (instructions_demands n g (renamed_block names globals b) 0 l (map (renamed_instruction names globals) b.instructions)) _
      (instructions_kept b 0 k l b.instructions a.0 kept.0 a.0.instructions kept.0.operands kept.0.callees (front_holds (instructions_demands m f b 0 k b.instructions) _ h))
      (blocks_kept (k + length b.instructions + 1) (l + length (map (renamed_instruction names globals) b.instructions) + 1) bs a.1 kept.1 (rest_holds (instructions_demands m f b 0 k b.instructions) _ h))

  entry_kept : (bs : List Block) → AllHold (entry_demands f bs) → AllHold (entry_demands g (map (renamed_block names globals) bs))
  entry_kept [] h = tt
  entry_kept (b ∷ bs) h = (ap (λ (flow : Flow). length (predecessors flow b.name) == 0) (flow_same names globals f g is) ∙ h.0, tt)

  -- the body of a function holds what it is asked for
  pub body_holds : AllByRecursion (BlockKept m n globals) (blocks f) → AllHold (entry_demands f (blocks f) ++ blocks_demands m f 0 (blocks f)) → AllHold (entry_demands g (blocks g) ++ blocks_demands n g 0 (blocks g))
  body_holds kept h =
      subst (λ bs. AllHold (entry_demands g bs ++ blocks_demands n g 0 bs)) (sym (blocks_renamed names globals f g is))
      (both_hold (entry_demands g (map (renamed_block names globals) (blocks f))) _
      (entry_kept (blocks f) (front_holds (entry_demands f (blocks f)) _ h))
      (blocks_kept 0 0 (blocks f) known.blocks kept (rest_holds (entry_demands f (blocks f)) _ h)))
