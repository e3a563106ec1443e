-- What holds of the operands of lines holds of the blocks that are made of them.
use Rattle.std.proofs.Common.{◌≡◌, Bool, true, ◌&&◌, List, [], ◌∷◌, flat_map, Option, Some, None, refl}
use Rattle.std.specs.Option.{option_map_or}
use Rattle.std.specs.List.{list_all, AllByRecursion}
use Rattle.std.proofs.lemmas.Bool.{and_from}
use Rattle.record_law.proofs.OnFormed.Lists.{all_both}
use Rattle.type_table.specs.Tree.{Tree, ptr}
use Rattle.module_arena.specs.Forms.{is_instruction_of_phrase}
use Rattle.module_arena.specs.Module.{Value, Local, Known, Operand, Operation, Instruction, Block, Module}
use Rattle.module_arena.specs.Names.{blocks_of_block, blocks_of_operation, locals_of_block, locals_of_operation}
use Rattle.module_arena.specs.Operations.{callee, ending_operands, local_in, operands, targets}
use Rattle.module_arena.specs.Same.{has_local}
use Rattle.module_arena.specs.WellFormed.{are_good_operands, is_good_block, is_good_constant, is_good_type, known_in, known_of_block, known_of_operands, known_of_operation, types_of_operation}
use Rattle.record_table.specs.Fields.{Numbering}
use Rattle.record_law.proofs.OnFormed.Tests.{all_pass}
use Rattle.record_law.proofs.OnFormed.Unbroken.{OfSome}
use Rattle.record_law.proofs.OnFormed.Good.{IsOf}
use Rattle.record_law.proofs.OnFormed.Fields.{IsOperand, IsValue}
use Rattle.record_law.proofs.OnFormed.Lines.{IsEnd, IsOperation}

-- what is so of each part is so of all parts
pub all_flat : {A B : Type 0} (p : B → Bool) (f : A → List B) (xs : List A) → AllByRecursion (λ x. list_all p (f x) ≡ true) xs → list_all p (flat_map f xs) ≡ true
all_flat p f [] h = refl
all_flat p f (x ∷ xs) h = all_both p (f x) (flat_map f xs) h.0 (all_flat p f xs h.1)

module _ (m : Module) (k : Numbering) (of : IsOf m k) where
  operands_typed : (os : List Operand) → AllByRecursion (IsOperand m k of) os → are_good_operands m os ≡ true
  operands_typed [] h = refl
  operands_typed (o ∷ os) h = and_from (is_good_type m.structs o.ty) (are_good_operands m os) h.0.ty_good (operands_typed os h.1)

  value_known : (t : Tree) (v : Value) → IsValue m k of t v → list_all (is_good_constant m) (known_in t v) ≡ true
  value_known t (Local name) h = refl
  value_known t (Known c) h = and_from (is_good_constant m (t, c)) true h refl

  value_local : (t : Tree) (v : Value) → IsValue m k of t v → list_all (has_local k.values) (local_in v) ≡ true
  value_local t (Local name) h = and_from (has_local k.values name) true h refl
  value_local t (Known c) h = refl

  operands_known : (os : List Operand) → AllByRecursion (IsOperand m k of) os → list_all (is_good_constant m) (known_of_operands os) ≡ true
  operands_known [] h = refl
  operands_known (o ∷ os) h = all_both (is_good_constant m) (known_in o.ty o.value) (known_of_operands os) (value_known o.ty o.value h.0.value_good) (operands_known os h.1)

  operands_local : (os : List Operand) → AllByRecursion (IsOperand m k of) os → list_all (has_local k.values) (flat_map (λ x. local_in x.value) os) ≡ true
  operands_local [] h = refl
  operands_local (o ∷ os) h = all_both (has_local k.values) (local_in o.value) (flat_map (λ x. local_in x.value) os) (value_local o.ty o.value h.0.value_good) (operands_local os h.1)

  callee_known : (o : Option Value) → OfSome (IsValue m k of ptr) o → list_all (is_good_constant m) (option_map_or (known_in ptr) o []) ≡ true
  callee_known None h = refl
  callee_known (Some v) h = value_known ptr v h

  callee_local : (o : Option Value) → OfSome (IsValue m k of ptr) o → list_all (has_local k.values) (option_map_or local_in o []) ≡ true
  callee_local None h = refl
  callee_local (Some v) h = value_local ptr v h

  operation_known : (o : Operation) → IsOperation m k of o → list_all (is_good_constant m) (known_of_operation o) ≡ true
  operation_known o h = all_both (is_good_constant m) (known_of_operands (operands o)) (option_map_or (known_in ptr) (callee o) []) (operands_known (operands o) h.operands_good) (callee_known (callee o) h.callee_good)

  operation_local : (o : Operation) → IsOperation m k of o → list_all (has_local k.values) (locals_of_operation o) ≡ true
  operation_local o h = all_both (has_local k.values) (flat_map (λ x. local_in x.value) (operands o)) (option_map_or local_in (callee o) []) (operands_local (operands o) h.operands_good) (callee_local (callee o) h.callee_good)

  -- an instruction that is read is one, whatever number it has
  abbrev pub IsInstruction : Instruction → Type 0
  IsInstruction i = IsOperation m k of i.operation × (is_instruction_of_phrase i ≡ true)

  -- a block of which all lines are read
  pub record IsBlock (b : Block) : Type 0 where
    pub lines : AllByRecursion IsInstruction b.instructions
    pub end : IsEnd m k of b.ending

  lines_good : (is : List Instruction) → AllByRecursion IsInstruction is
      → list_all (λ i. is_instruction_of_phrase i && (are_good_operands m (operands i.operation) && list_all (is_good_type m.structs) (types_of_operation i.operation))) is ≡ true
  lines_good [] h = refl
  lines_good (i ∷ is) h =
      and_from (is_instruction_of_phrase i && (are_good_operands m (operands i.operation) && list_all (is_good_type m.structs) (types_of_operation i.operation))) _
      (and_from (is_instruction_of_phrase i) _ h.0.1
      (and_from (are_good_operands m (operands i.operation)) (list_all (is_good_type m.structs) (types_of_operation i.operation)) (operands_typed (operands i.operation) h.0.0.operands_good)
      (all_pass (is_good_type m.structs) (types_of_operation i.operation) h.0.0.types_good)))
      (lines_good is h.1)

  pub block_good : (b : Block) → IsBlock b → is_good_block m b ≡ true
  block_good b h =
      and_from (list_all (λ i. is_instruction_of_phrase i && (are_good_operands m (operands i.operation) && list_all (is_good_type m.structs) (types_of_operation i.operation))) b.instructions)
      (are_good_operands m (ending_operands b.ending)) (lines_good b.instructions h.lines) (operands_typed (ending_operands b.ending) h.end.operands_good)

  lines_known : (is : List Instruction) → AllByRecursion IsInstruction is → list_all (is_good_constant m) (flat_map (λ i. known_of_operation i.operation) is) ≡ true
  lines_known [] h = refl
  lines_known (i ∷ is) h = all_both (is_good_constant m) (known_of_operation i.operation) (flat_map (λ i. known_of_operation i.operation) is) (operation_known i.operation h.0.0) (lines_known is h.1)

  pub block_known : (b : Block) → IsBlock b → list_all (is_good_constant m) (known_of_block b) ≡ true
  block_known b h = all_both (is_good_constant m) (flat_map (λ i. known_of_operation i.operation) b.instructions) (known_of_operands (ending_operands b.ending)) (lines_known b.instructions h.lines) (operands_known (ending_operands b.ending) h.end.operands_good)

  lines_local : (is : List Instruction) → AllByRecursion IsInstruction is → list_all (has_local k.values) (flat_map (λ i. locals_of_operation i.operation) is) ≡ true
  lines_local [] h = refl
  lines_local (i ∷ is) h = all_both (has_local k.values) (locals_of_operation i.operation) (flat_map (λ i. locals_of_operation i.operation) is) (operation_local i.operation h.0.0) (lines_local is h.1)

  pub block_local : (b : Block) → IsBlock b → list_all (has_local k.values) (locals_of_block b) ≡ true
  block_local b h = all_both (has_local k.values) (flat_map (λ i. locals_of_operation i.operation) b.instructions) (flat_map (λ x. local_in x.value) (ending_operands b.ending)) (lines_local b.instructions h.lines) (operands_local (ending_operands b.ending) h.end.operands_good)

  lines_there : (is : List Instruction) → AllByRecursion IsInstruction is → list_all (has_local k.blocks) (flat_map (λ i. blocks_of_operation i.operation) is) ≡ true
  lines_there [] h = refl
  lines_there (i ∷ is) h = all_both (has_local k.blocks) (blocks_of_operation i.operation) (flat_map (λ i. blocks_of_operation i.operation) is) (all_pass (has_local k.blocks) (blocks_of_operation i.operation) h.0.0.blocks_there) (lines_there is h.1)

  pub block_there : (b : Block) → IsBlock b → list_all (has_local k.blocks) (blocks_of_block b) ≡ true
  block_there b h = all_both (has_local k.blocks) (flat_map (λ i. blocks_of_operation i.operation) b.instructions) (targets b.ending) (lines_there b.instructions h.lines) (all_pass (has_local k.blocks) (targets b.ending) h.end.targets_there)
