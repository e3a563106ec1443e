-- What an instruction or an end is asked for holds of it under new names.
use Rattle.std.proofs.Common.{◌≡◌, Bool, true, false, not, ◌&&◌, ◌||◌, List, [], ◌∷◌, ◌++◌, map, Option, Some, None, refl, sym, ap, ap₂, ◌∙◌, option_map, flat_map}
use Rattle.std.specs.Prelude.{⊤}
use Rattle.std.specs.List.{list_any, list_all, AllByRecursion}
use Rattle.std.proofs.lemmas.Bool.{and_from, and_parts, not_from_false}
use Rattle.std.proofs.lemmas.List.Folds.{flat_map-map}
use Rattle.linkage_rules.proofs.Gathered.{all_joined}
use Rattle.type_table.specs.Tree.{Tree, ptr, Structs}
use Rattle.module_arena.specs.Module.{Bytes, LocalName, Constant, Value, Operand, Incoming, Operation, Instruction, Module}
use Rattle.module_arena.specs.Module.Constant.{Integer, Truth, Null, Undef, Poison, ZeroInitializer, Address, ByteString, Aggregate, ElementAddress, Cast, Binary}
use Rattle.module_arena.specs.Module.Value.{Local, Known}
use Rattle.module_arena.specs.Module.Operation.{BinaryOperation, Compare, Convert, Select, Freeze, Phi, Load, Store, Alloca, GetElementPtr, Call, ExtractValue, InsertValue}
use Rattle.module_arena.specs.Renamed.{renamed_tree, renamed_constant, renamed_value, renamed_operand, renamed_incoming, renamed_operation, renamed_instruction}
use Rattle.module_arena.specs.Same.{same_local, same_value}
use Rattle.module_arena.specs.TypeTests.{is_passable}
use Rattle.module_arena.specs.Constants.{Typed, constants_in, address_in}
use Rattle.module_arena.specs.Operations.{result_type, operands, callee}
use Rattle.module_arena.specs.Flow.{Flow, predecessors}
use Rattle.module_arena.specs.EntryRules.{is_only_called, takes_no_intrinsic, return_suits}
use Rattle.module_arena.specs.InstructionRules.{value_takes_no_intrinsic, callee_takes_no_intrinsic, operands_take_no_intrinsic, value_types_suit, operands_suit, callee_types_suit, other_types_suit, result_suits, operation_types_suit, operation_alignment_suits, is_phi_operation, is_phi, same_names, entries_agree, phi_suits}
use Rattle.module_arena.specs.WellFormed.{types_of_operation}
use Rattle.module_arena.proofs.SameValues.{same_value_decides}
use Rattle.link_rules.proofs.OnValid.Lists.{map_of_flat_map, all_each, all_kept, none_kept}
use Rattle.link_rules.proofs.OnValid.Types.{KnownTree, KnownPart, KeepsStructs, void_same, memory_same, passable_same}
use Rattle.link_rules.proofs.OnValid.Constants.{renamed_typed, within_renamed, address_renamed, constant_types_kept}
use Rattle.link_rules.proofs.OnValid.Operations.{KnownValue, KnownOperand, KnownCallee, KnownOperation, operands_renamed, callee_renamed, result_type_same, result_type_known}

-- NAMES OF INTRINSICS

-- what a constant names that may be used only as a direct callee
abbrev pub AddressesKept : (old new : Module) → (Bytes → Bytes) → Typed → Type 0
AddressesKept old new globals x = AllByRecursion (λ name. is_only_called old name ≡ false → is_only_called new (globals name) ≡ false) (address_in x)

abbrev pub ConstantKept : (old new : Module) → (Bytes → Bytes) → Tree → Constant → Type 0
ConstantKept old new globals t c = AllByRecursion (AddressesKept old new globals) (constants_in t c)

abbrev pub ValueKept : (old new : Module) → (Bytes → Bytes) → Tree → Value → Type 0
ValueKept old new globals t (Local name) = ⊤
ValueKept old new globals t (Known c) = ConstantKept old new globals t c

abbrev pub CalleeKept : (old new : Module) → (Bytes → Bytes) → Option Value → Type 0
CalleeKept old new globals None = ⊤
CalleeKept old new globals (Some value) = ValueKept old new globals ptr value

abbrev pub OperandKept : (old new : Module) → (Bytes → Bytes) → Operand → Type 0
OperandKept old new globals o = ValueKept old new globals o.ty o.value

module _ (old new : Module) (names globals : Bytes → Bytes) where
  flip : (b : Bool) → not b ≡ true → b ≡ false
  flip false h = refl
  flip true h = cc

  pub no_intrinsic_kept : (t : Tree) (c : Constant) → ConstantKept old new globals t c → takes_no_intrinsic old t c ≡ true → takes_no_intrinsic new (renamed_tree names t) (renamed_constant names globals c) ≡ true
  no_intrinsic_kept t c k h =
      ap (λ xs. not (list_any (is_only_called new) (flat_map address_in xs))) (within_renamed names globals t c)
      ∙ not_from_false _ (go (constants_in t c) k (flip _ h))
    where
      go : (xs : List Typed) → AllByRecursion (AddressesKept old new globals) xs → list_any (is_only_called old) (flat_map address_in xs) ≡ false → list_any (is_only_called new) (flat_map address_in (map (renamed_typed names globals) xs)) ≡ false
      go xs k h =
          ap (list_any (is_only_called new)) (flat_map-map address_in (renamed_typed names globals) xs ∙ flattened xs)
          ∙ none_kept (λ name. is_only_called old name ≡ false → is_only_called new (globals name) ≡ false) (is_only_called old) (is_only_called new) globals (flat_map address_in xs) (λ name kept e. kept e) (gathered xs k) h
        where
          flattened : (xs : List Typed) → flat_map (λ x. address_in (renamed_typed names globals x)) xs ≡ map globals (flat_map address_in xs)
          flattened xs = all_addresses xs ∙ sym (map_of_flat_map globals address_in xs)
            where
              all_addresses : (xs : List Typed) → flat_map (λ x. address_in (renamed_typed names globals x)) xs ≡ flat_map (λ x. map globals (address_in x)) xs
              all_addresses [] = refl
              all_addresses (x ∷ xs) = ap₂ (λ y ys. y ++ ys) (address_renamed names globals x) (all_addresses xs)

          gathered : (xs : List Typed) → AllByRecursion (AddressesKept old new globals) xs → AllByRecursion (λ name. is_only_called old name ≡ false → is_only_called new (globals name) ≡ false) (flat_map address_in xs)
          gathered [] k = tt
          gathered (x ∷ xs) k = all_joined _ (address_in x) (flat_map address_in xs) k.0 (gathered xs k.1)

  value_no_intrinsic_kept : (t : Tree) (v : Value) → ValueKept old new globals t v → value_takes_no_intrinsic old t v ≡ true → value_takes_no_intrinsic new (renamed_tree names t) (renamed_value names globals v) ≡ true
  value_no_intrinsic_kept t (Local name) k h = refl
  value_no_intrinsic_kept t (Known c) k h = no_intrinsic_kept t c k h

  pub operands_no_intrinsic_kept : (os : List Operand) → AllByRecursion (OperandKept old new globals) os → operands_take_no_intrinsic old os ≡ true → operands_take_no_intrinsic new (map (renamed_operand names globals) os) ≡ true
  operands_no_intrinsic_kept os k h =
      all_kept (OperandKept old new globals) (λ o. value_takes_no_intrinsic old o.ty o.value) (λ o. value_takes_no_intrinsic new o.ty o.value) (renamed_operand names globals) os (λ o l e. value_no_intrinsic_kept o.ty o.value l e) k h

  known_callee_kept : (c : Constant) → ConstantKept old new globals ptr c → callee_takes_no_intrinsic old (Some (Known c)) ≡ true → callee_takes_no_intrinsic new (Some (Known (renamed_constant names globals c))) ≡ true
  known_callee_kept (Address name) k h = refl
  known_callee_kept (Integer n) k h = refl
  known_callee_kept (Truth truth) k h = refl
  known_callee_kept Null k h = refl
  known_callee_kept Undef k h = refl
  known_callee_kept Poison k h = refl
  known_callee_kept ZeroInitializer k h = refl
  known_callee_kept (ByteString bytes) k h = refl
  known_callee_kept (Aggregate shape elements) k h = no_intrinsic_kept ptr (Aggregate shape elements) k h
  known_callee_kept (ElementAddress flags source operands) k h = no_intrinsic_kept ptr (ElementAddress flags source operands) k h
  known_callee_kept (Cast opcode from value to) k h = no_intrinsic_kept ptr (Cast opcode from value to) k h
  known_callee_kept (Binary opcode flags a left b right) k h = no_intrinsic_kept ptr (Binary opcode flags a left b right) k h

  pub callee_no_intrinsic_kept : (o : Option Value) → CalleeKept old new globals o → callee_takes_no_intrinsic old o ≡ true → callee_takes_no_intrinsic new (option_map (renamed_value names globals) o) ≡ true
  callee_no_intrinsic_kept None k h = refl
  callee_no_intrinsic_kept (Some (Local name)) k h = refl
  callee_no_intrinsic_kept (Some (Known c)) k h = known_callee_kept c k h

-- PHIS

module _ (names globals : Bytes → Bytes) where
  phi_operation_same : (o : Operation) → is_phi_operation (renamed_operation names globals o) ≡ is_phi_operation o
  phi_operation_same (BinaryOperation opcode flags left right) = refl
  phi_operation_same (Compare flags predicate left right) = refl
  phi_operation_same (Convert opcode flags value to) = refl
  phi_operation_same (Select condition first second) = refl
  phi_operation_same (Freeze value) = refl
  phi_operation_same (Phi ty incoming) = refl
  phi_operation_same (Load flags ty address alignment) = refl
  phi_operation_same (Store flags value address alignment) = refl
  phi_operation_same (Alloca ty count alignment) = refl
  phi_operation_same (GetElementPtr flags source base indices) = refl
  phi_operation_same (Call signature value arguments) = refl
  phi_operation_same (ExtractValue aggregate indices) = refl
  phi_operation_same (InsertValue aggregate part indices) = refl

  pub phis_same : (is : List Instruction) → list_all is_phi (map (renamed_instruction names globals) is) ≡ list_all is_phi is
  phis_same [] = refl
  phis_same (i ∷ is) = ap₂ (λ a b. a && b) (phi_operation_same i.operation) (phis_same is)

  incoming_blocks : (is : List Incoming) → map (λ (i : Incoming). i.block) (map (renamed_incoming names globals) is) ≡ map (λ (i : Incoming). i.block) is
  incoming_blocks [] = refl
  incoming_blocks (i ∷ is) = ap (λ l. i.block ∷ l) (incoming_blocks is)

  same_value_kept : (a b : Value) → same_value a b ≡ true → same_value (renamed_value names globals a) (renamed_value names globals b) ≡ true
  same_value_kept a b h = (same_value_decides _ _).1 (ap (renamed_value names globals) ((same_value_decides a b).0 h))

  entry_kept : (p : Bool) (a b : Value) → (not p || same_value a b) ≡ true → (not p || same_value (renamed_value names globals a) (renamed_value names globals b)) ≡ true
  entry_kept false a b h = refl
  entry_kept true a b h = same_value_kept a b h

  entries_kept : (is : List Incoming) → entries_agree is ≡ true → entries_agree (map (renamed_incoming names globals) is) ≡ true
  entries_kept is h =
      all_kept {A = Incoming} {B = Incoming} (λ a. ⊤) (λ a. list_all (λ b. not (same_local a.block b.block) || same_value a.value b.value) is)
      (λ a. list_all (λ b. not (same_local a.block b.block) || same_value a.value b.value) (map (renamed_incoming names globals) is))
      (renamed_incoming names globals) is
      (λ a u e. all_kept {A = Incoming} {B = Incoming} (λ b. ⊤) (λ b. not (same_local a.block b.block) || same_value a.value b.value)
      (λ b. not (same_local a.block b.block) || same_value (renamed_value names globals a.value) b.value) (renamed_incoming names globals) is
      (λ b v d. entry_kept (same_local a.block b.block) a.value b.value d) (all_each (λ b. ⊤) is (λ b. tt)) e)
      (all_each (λ a. ⊤) is (λ a. tt)) h

  pub phi_kept : (flow : Flow) (block : LocalName) (before : List Instruction) (is : List Incoming) → phi_suits flow block before is ≡ true → phi_suits flow block (map (renamed_instruction names globals) before) (map (renamed_incoming names globals) is) ≡ true
  phi_kept flow block before is h =
      let one = and_parts (list_all is_phi before) _ h in
      let two = and_parts (same_names (map (λ (i : Incoming). i.block) is) (predecessors flow block)) (entries_agree is) one.1 in
      and_from _ _ (phis_same before ∙ one.0) (and_from _ _ (ap (λ l. same_names l (predecessors flow block)) (incoming_blocks is) ∙ two.0) (entries_kept is two.1))

-- TYPES

module _ (old new : Structs) (names globals : Bytes → Bytes) (keeps : KeepsStructs old new names) where
  value_types_kept : (t : Tree) (v : Value) → KnownTree old t → KnownValue old v → value_types_suit old t v ≡ true → value_types_suit new (renamed_tree names t) (renamed_value names globals v) ≡ true
  value_types_kept t (Local name) k l h = refl
  value_types_kept t (Known c) k l h = constant_types_kept old new names globals keeps t c k l h

  pub operands_suit_kept : (os : List Operand) → AllByRecursion (KnownOperand old) os → operands_suit old os ≡ true → operands_suit new (map (renamed_operand names globals) os) ≡ true
  operands_suit_kept os k h =
      all_kept (KnownOperand old) (λ o. is_passable old o.ty && value_types_suit old o.ty o.value) (λ o. is_passable new o.ty && value_types_suit new o.ty o.value) (renamed_operand names globals) os
      (λ o l e. let both = and_parts (is_passable old o.ty) _ e in
      and_from _ _ (passable_same old new names keeps o.ty l.0 ∙ both.0) (value_types_kept o.ty o.value l.0 l.1 both.1)) k h

  callee_types_kept : (o : Option Value) → KnownCallee old o → callee_types_suit old o ≡ true → callee_types_suit new (option_map (renamed_value names globals) o) ≡ true
  callee_types_kept None k h = refl
  callee_types_kept (Some v) k h = value_types_kept ptr v tt k h

  result_suits_kept : (o : Option Tree) → KnownPart old o → result_suits old o ≡ true → result_suits new (option_map (renamed_tree names) o) ≡ true
  result_suits_kept None k h = refl
  result_suits_kept (Some t) k h = passable_same old new names keeps t k ∙ h

  pub return_suits_same : (t : Tree) → KnownTree old t → return_suits new (renamed_tree names t) ≡ return_suits old t
  return_suits_same t k = ap₂ (λ a b. a || b) (void_same names t) (passable_same old new names keeps t k)

  pub all_passable_same : (ts : List Tree) → AllByRecursion (KnownTree old) ts → list_all (is_passable new) (map (renamed_tree names) ts) ≡ list_all (is_passable old) ts
  all_passable_same [] k = refl
  all_passable_same (t ∷ ts) k = ap₂ (λ a b. a && b) (passable_same old new names keeps t k.0) (all_passable_same ts k.1)

  other_types_same : (o : Operation) → AllByRecursion (KnownTree old) (types_of_operation o) → other_types_suit new (renamed_operation names globals o) ≡ other_types_suit old o
  other_types_same (BinaryOperation opcode flags left right) k = refl
  other_types_same (Compare flags predicate left right) k = refl
  other_types_same (Convert opcode flags value to) k = refl
  other_types_same (Select condition first second) k = refl
  other_types_same (Freeze value) k = refl
  other_types_same (Phi ty incoming) k = refl
  other_types_same (Load flags ty address alignment) k = refl
  other_types_same (Store flags value address alignment) k = refl
  other_types_same (Alloca ty count alignment) k = memory_same old new names keeps ty k.0
  other_types_same (GetElementPtr flags source base indices) k = memory_same old new names keeps source k.0
  other_types_same (Call signature value arguments) k = ap₂ (λ a b. a && b) (return_suits_same signature.returns k.0) (all_passable_same signature.parameters k.1)
  other_types_same (ExtractValue aggregate indices) k = refl
  other_types_same (InsertValue aggregate part indices) k = refl

  pub operation_types_kept : (o : Operation) → KnownOperation old o → operation_types_suit old o ≡ true → operation_types_suit new (renamed_operation names globals o) ≡ true
  operation_types_kept o k h =
      let one = and_parts (operands_suit old (operands o)) _ h in
      let two = and_parts (callee_types_suit old (callee o)) _ one.1 in
      let three = and_parts (result_suits old (result_type old o)) _ two.1 in
      and_from _ _ (ap (operands_suit new) (operands_renamed names globals o) ∙ operands_suit_kept (operands o) k.operands one.0)
      (and_from _ _ (ap (callee_types_suit new) (callee_renamed names globals o) ∙ callee_types_kept (callee o) k.callee two.0)
      (and_from _ _ (ap (result_suits new) (result_type_same old new names globals keeps o k) ∙ result_suits_kept (result_type old o) (result_type_known old new names globals keeps o k) three.0)
      (other_types_same o k.types ∙ three.1)))

pub operation_alignment_same : (names globals : Bytes → Bytes) (o : Operation) → operation_alignment_suits (renamed_operation names globals o) ≡ operation_alignment_suits o
operation_alignment_same names globals (BinaryOperation opcode flags left right) = refl
operation_alignment_same names globals (Compare flags predicate left right) = refl
operation_alignment_same names globals (Convert opcode flags value to) = refl
operation_alignment_same names globals (Select condition first second) = refl
operation_alignment_same names globals (Freeze value) = refl
operation_alignment_same names globals (Phi ty incoming) = refl
operation_alignment_same names globals (Load flags ty address alignment) = refl
operation_alignment_same names globals (Store flags value address alignment) = refl
operation_alignment_same names globals (Alloca ty count alignment) = refl
operation_alignment_same names globals (GetElementPtr flags source base indices) = refl
operation_alignment_same names globals (Call signature value arguments) = refl
operation_alignment_same names globals (ExtractValue aggregate indices) = refl
operation_alignment_same names globals (InsertValue aggregate part indices) = refl
