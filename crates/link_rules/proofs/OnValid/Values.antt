-- The types that instructions and ends work on suit under new names.
use Rattle.std.proofs.Common.{◌≡◌, ℕ, Bool, true, not, ◌&&◌, ◌||◌, List, [], ◌∷◌, ◌++◌, map, Option, Some, None, refl, ap, ap₂, ◌∙◌, option_map, option_to_list, is_some, is_none, nat_eq}
use Rattle.std.specs.List.{list_all, AllByRecursion}
use Rattle.std.proofs.lemmas.Bool.{and_from, and_parts}
use Rattle.ir_tables.specs.declared.flag.Flag.TheVariants.{Samesign}
use Rattle.ir_tables.specs.Flags.{has_flag}
use Rattle.ir_tables.specs.Table.{is_distinct}
use Rattle.type_table.specs.Tree.{Tree, ptr, Structs}
use Rattle.module_arena.specs.Module.{Bytes, LocalName, Value, Operand, Operation, Case, Ending, Function}
use Rattle.module_arena.specs.Module.Value.{Local, Known}
use Rattle.module_arena.specs.Module.Operation.{BinaryOperation, Compare, Convert, Select, Freeze, Phi, Load, Store, Alloca, GetElementPtr, Call, ExtractValue, InsertValue}
use Rattle.module_arena.specs.Module.Ending.{ReturnVoid, Return, Jump, Branch, Switch, Unreachable}
use Rattle.module_arena.specs.Renamed.{renamed_tree, renamed_value, renamed_operand, renamed_operation, renamed_case, renamed_ending}
use Rattle.module_arena.specs.Same.{same_type}
use Rattle.module_arena.specs.TypeTests.{is_integer, is_integer_of, is_pointer, is_void, part_at, is_type}
use Rattle.module_arena.specs.Constants.{Index, indices_fit}
use Rattle.module_arena.specs.Functions.{local_type}
use Rattle.module_arena.specs.ValueRules.{value_has_type, have_types_written, arithmetic_suits, cast_suits, address_suits, number_in, index_of_operand, element_address_suits, part_suits, is_pointer_value, arguments_suit, call_suits, is_case_of, case_numbers, ending_suits, value_fits, operands_fit, callee_fits}
use Rattle.link_rules.proofs.OnValid.Lists.{all_each, all_kept}
use Rattle.link_rules.proofs.OnValid.Types.{KnownTree, KeepsStructs, integer_same, width_same, pointer_same, void_same, sameness_kept, part_at_same, is_type_kept}
use Rattle.link_rules.proofs.OnValid.Constants.{written_same, pointer_constant_same, cast_same, renamed_index, indices_fit_same, fits_kept}
use Rattle.link_rules.proofs.OnValid.Operations.{KnownValue, KnownOperand, KnownCallee, KnownOperation, KnownFunction, IsRenamed, local_type_same}

module _ (names globals : Bytes → Bytes) where
  number_same : (v : Value) → number_in (renamed_value names globals v) ≡ number_in v
  number_same (Local name) = refl
  number_same (Known c) = written_same names globals c

  indices_of_operands : (os : List Operand) → map index_of_operand (map (renamed_operand names globals) os) ≡ map (renamed_index names globals) (map index_of_operand os)
  indices_of_operands [] = refl
  indices_of_operands (o ∷ os) =
      ap₂ (λ (n : Option ℕ) (l : List Index). let i : Index = record { ty = renamed_tree names o.ty; number = n } in i ∷ l) (number_same o.value) (indices_of_operands os)

  pub arithmetic_kept : (o : Operation) → arithmetic_suits o ≡ true → arithmetic_suits (renamed_operation names globals o) ≡ true
  arithmetic_kept (BinaryOperation opcode flags left right) h = integer_same names left.ty ∙ h
  arithmetic_kept (Compare flags predicate left right) h =
      ap₂ (λ a b. a || (not (has_flag flags Samesign) && b)) (integer_same names left.ty) (pointer_same names left.ty) ∙ h
  arithmetic_kept (Convert opcode flags value to) h = refl
  arithmetic_kept (Select condition first second) h =
      let both = and_parts (is_integer_of 1 condition.ty) (same_type first.ty second.ty) h in
      and_from _ _ (width_same names 1 condition.ty ∙ both.0) (sameness_kept names first.ty second.ty both.1)
  arithmetic_kept (Freeze value) h = refl
  arithmetic_kept (Phi ty incoming) h = refl
  arithmetic_kept (Load flags ty address alignment) h = refl
  arithmetic_kept (Store flags value address alignment) h = refl
  arithmetic_kept (Alloca ty count alignment) h = refl
  arithmetic_kept (GetElementPtr flags source base indices) h = refl
  arithmetic_kept (Call signature value arguments) h = refl
  arithmetic_kept (ExtractValue aggregate indices) h = refl
  arithmetic_kept (InsertValue aggregate part indices) h = refl

  pub casts_kept : (o : Operation) → cast_suits o ≡ true → cast_suits (renamed_operation names globals o) ≡ true
  casts_kept (BinaryOperation opcode flags left right) h = refl
  casts_kept (Compare flags predicate left right) h = refl
  casts_kept (Convert opcode flags value to) h = cast_same names globals opcode value.ty to ∙ h
  casts_kept (Select condition first second) h = refl
  casts_kept (Freeze value) h = refl
  casts_kept (Phi ty incoming) h = refl
  casts_kept (Load flags ty address alignment) h = refl
  casts_kept (Store flags value address alignment) h = refl
  casts_kept (Alloca ty count alignment) h = refl
  casts_kept (GetElementPtr flags source base indices) h = refl
  casts_kept (Call signature value arguments) h = refl
  casts_kept (ExtractValue aggregate indices) h = refl
  casts_kept (InsertValue aggregate part indices) h = refl

  counts_same : (o : Option Operand) → list_all (λ (c : Operand). is_integer c.ty) (option_to_list (option_map (renamed_operand names globals) o)) ≡ list_all (λ (c : Operand). is_integer c.ty) (option_to_list o)
  counts_same None = refl
  counts_same (Some o) = ap (λ b. b && true) (integer_same names o.ty)

  pub addresses_kept : (o : Operation) → address_suits o ≡ true → address_suits (renamed_operation names globals o) ≡ true
  addresses_kept (BinaryOperation opcode flags left right) h = refl
  addresses_kept (Compare flags predicate left right) h = refl
  addresses_kept (Convert opcode flags value to) h = refl
  addresses_kept (Select condition first second) h = refl
  addresses_kept (Freeze value) h = refl
  addresses_kept (Phi ty incoming) h = refl
  addresses_kept (Load flags ty address alignment) h = pointer_same names address.ty ∙ h
  addresses_kept (Store flags value address alignment) h = pointer_same names address.ty ∙ h
  addresses_kept (Alloca ty count alignment) h = counts_same count ∙ h
  addresses_kept (GetElementPtr flags source base indices) h = refl
  addresses_kept (Call signature value arguments) h = refl
  addresses_kept (ExtractValue aggregate indices) h = refl
  addresses_kept (InsertValue aggregate part indices) h = refl

  arguments_kept : (variadic : Bool) (ts : List Tree) (os : List Operand) → arguments_suit variadic ts os ≡ true → arguments_suit variadic (map (renamed_tree names) ts) (map (renamed_operand names globals) os) ≡ true
  arguments_kept variadic [] [] h = refl
  arguments_kept variadic [] (o ∷ os) h = h
  arguments_kept variadic (t ∷ ts) [] h = cc
  arguments_kept variadic (t ∷ ts) (o ∷ os) h =
      let both = and_parts (same_type t o.ty) _ h in
      and_from _ _ (sameness_kept names t o.ty both.0) (arguments_kept variadic ts os both.1)

  -- ENDS

  pub case_kept : (t : Tree) (c : Case) → is_case_of t c ≡ true → is_case_of (renamed_tree names t) (renamed_case names globals c) ≡ true
  case_kept t c h =
      let both = and_parts (same_type c.ty t) _ h in
      and_from _ _ (sameness_kept names c.ty t both.0) (ap is_some (written_same names globals c.value) ∙ both.1)

  case_numbers_same : (cs : List Case) → case_numbers (map (renamed_case names globals) cs) ≡ case_numbers cs
  case_numbers_same [] = refl
  case_numbers_same (c ∷ cs) = ap₂ (λ x y. option_to_list x ++ y) (written_same names globals c.value) (case_numbers_same cs)

  pub ending_kept : (f g : Function) (e : Ending) → g.returns ≡ renamed_tree names f.returns → ending_suits f e ≡ true → ending_suits g (renamed_ending names globals e) ≡ true
  ending_kept f g ReturnVoid is h = ap is_void is ∙ void_same names f.returns ∙ h
  ending_kept f g (Return value) is h = ap (same_type (renamed_tree names value.ty)) is ∙ sameness_kept names value.ty f.returns h
  ending_kept f g (Jump target) is h = refl
  ending_kept f g (Branch condition then_to else_to) is h = width_same names 1 condition.ty ∙ h
  ending_kept f g (Switch value otherwise cases) is h =
      let one = and_parts (is_integer value.ty) _ h in
      let two = and_parts (list_all (is_case_of value.ty) cases) _ one.1 in
      and_from _ _ (integer_same names value.ty ∙ one.0)
      (and_from _ _ (all_kept (λ c. c ≡ c) (is_case_of value.ty) (is_case_of (renamed_tree names value.ty)) (renamed_case names globals) cases (λ c u e. case_kept value.ty c e) (all_each (λ c. c ≡ c) cases (λ c. refl)) two.0)
      (ap (is_distinct nat_eq) (case_numbers_same cases) ∙ two.1))
  ending_kept f g Unreachable is h = refl

module _ (old new : Structs) (names globals : Bytes → Bytes) (keeps : KeepsStructs old new names) where
  pub element_addresses_kept : (o : Operation) → KnownOperation old o → element_address_suits old o ≡ true → element_address_suits new (renamed_operation names globals o) ≡ true
  element_addresses_kept (BinaryOperation opcode flags left right) k h = refl
  element_addresses_kept (Compare flags predicate left right) k h = refl
  element_addresses_kept (Convert opcode flags value to) k h = refl
  element_addresses_kept (Select condition first second) k h = refl
  element_addresses_kept (Freeze value) k h = refl
  element_addresses_kept (Phi ty incoming) k h = refl
  element_addresses_kept (Load flags ty address alignment) k h = refl
  element_addresses_kept (Store flags value address alignment) k h = refl
  element_addresses_kept (Alloca ty count alignment) k h = refl
  element_addresses_kept (GetElementPtr flags source base indices) k h =
      ap₂ (λ a b. a && b) (pointer_same names base.ty)
      (ap (indices_fit new (renamed_tree names source)) (indices_of_operands names globals indices) ∙ indices_fit_same old new names globals keeps source (map index_of_operand indices) k.types.0)
      ∙ h
  element_addresses_kept (Call signature value arguments) k h = refl
  element_addresses_kept (ExtractValue aggregate indices) k h = refl
  element_addresses_kept (InsertValue aggregate part indices) k h = refl

  some_same : {A B : Type 0} (f : A → B) (o : Option A) → is_some (option_map f o) ≡ is_some o
  some_same f None = refl
  some_same f (Some a) = refl

  pub parts_kept : (o : Operation) → KnownOperation old o → part_suits old o ≡ true → part_suits new (renamed_operation names globals o) ≡ true
  parts_kept (BinaryOperation opcode flags left right) k h = refl
  parts_kept (Compare flags predicate left right) k h = refl
  parts_kept (Convert opcode flags value to) k h = refl
  parts_kept (Select condition first second) k h = refl
  parts_kept (Freeze value) k h = refl
  parts_kept (Phi ty incoming) k h = refl
  parts_kept (Load flags ty address alignment) k h = refl
  parts_kept (Store flags value address alignment) k h = refl
  parts_kept (Alloca ty count alignment) k h = refl
  parts_kept (GetElementPtr flags source base indices) k h = refl
  parts_kept (Call signature value arguments) k h = refl
  parts_kept (ExtractValue aggregate indices) k h =
      ap is_some (part_at_same old new names keeps indices aggregate.ty k.operands.0.0) ∙ some_same (renamed_tree names) (part_at old aggregate.ty indices) ∙ h
  parts_kept (InsertValue aggregate part indices) k h =
      ap (is_type (same_type (renamed_tree names part.ty))) (part_at_same old new names keeps indices aggregate.ty k.operands.0.0)
      ∙ is_type_kept names (same_type part.ty) (same_type (renamed_tree names part.ty)) (part_at old aggregate.ty indices) (λ t e. sameness_kept names part.ty t e) h

  -- constants of operands and callees fit
  value_fits_kept : (t : Tree) (v : Value) → KnownTree old t → KnownValue old v → value_fits old t v ≡ true → value_fits new (renamed_tree names t) (renamed_value names globals v) ≡ true
  value_fits_kept t (Local name) k l h = refl
  value_fits_kept t (Known c) k l h = fits_kept old new names globals keeps c t k l h

  pub operands_fit_kept : (os : List Operand) → AllByRecursion (KnownOperand old) os → operands_fit old os ≡ true → operands_fit new (map (renamed_operand names globals) os) ≡ true
  operands_fit_kept os k h =
      all_kept (KnownOperand old) (λ o. value_fits old o.ty o.value) (λ o. value_fits new o.ty o.value) (renamed_operand names globals) os (λ o l e. value_fits_kept o.ty o.value l.0 l.1 e) k h

  pub callee_fits_kept : (o : Option Value) → KnownCallee old o → callee_fits old o ≡ true → callee_fits new (option_map (renamed_value names globals) o) ≡ true
  callee_fits_kept None k h = refl
  callee_fits_kept (Some v) k h = value_fits_kept ptr v tt k h

  module _ (f g : Function) (is : IsRenamed names globals f g) (known : KnownFunction old f) where
    value_type_kept : (t : Tree) (v : Value) → value_has_type old f t v ≡ true → value_has_type new g (renamed_tree names t) (renamed_value names globals v) ≡ true
    value_type_kept t (Local name) h =
        ap (is_type (same_type (renamed_tree names t))) (local_type_same old new names globals keeps f g is known name)
        ∙ is_type_kept names (same_type t) (same_type (renamed_tree names t)) (local_type old f name) (λ u e. sameness_kept names t u e) h
    value_type_kept t (Known c) h = refl

    pub types_written_kept : (os : List Operand) → have_types_written old f os ≡ true → have_types_written new g (map (renamed_operand names globals) os) ≡ true
    types_written_kept os h =
        all_kept (λ o. o ≡ o) (λ o. value_has_type old f o.ty o.value) (λ o. value_has_type new g o.ty o.value) (renamed_operand names globals) os (λ o u e. value_type_kept o.ty o.value e) (all_each (λ o. o ≡ o) os (λ o. refl)) h

    pointer_value_kept : (v : Value) → is_pointer_value old f v ≡ true → is_pointer_value new g (renamed_value names globals v) ≡ true
    pointer_value_kept (Local name) h =
        ap (is_type is_pointer) (local_type_same old new names globals keeps f g is known name)
        ∙ is_type_kept names is_pointer is_pointer (local_type old f name) (λ u e. pointer_same names u ∙ e) h
    pointer_value_kept (Known c) h = pointer_constant_same names globals c ∙ h

    pub calls_kept : (result : Option LocalName) (o : Operation) → call_suits old f result o ≡ true → call_suits new g result (renamed_operation names globals o) ≡ true
    calls_kept result (BinaryOperation opcode flags left right) h = refl
    calls_kept result (Compare flags predicate left right) h = refl
    calls_kept result (Convert opcode flags value to) h = refl
    calls_kept result (Select condition first second) h = refl
    calls_kept result (Freeze value) h = refl
    calls_kept result (Phi ty incoming) h = refl
    calls_kept result (Load flags ty address alignment) h = refl
    calls_kept result (Store flags value address alignment) h = refl
    calls_kept result (Alloca ty count alignment) h = refl
    calls_kept result (GetElementPtr flags source base indices) h = refl
    calls_kept result (Call signature value arguments) h =
        let one = and_parts (is_pointer_value old f value) _ h in
        let two = and_parts (arguments_suit signature.variadic signature.parameters arguments) _ one.1 in
        and_from _ _ (pointer_value_kept value one.0)
        (and_from _ _ (arguments_kept names globals signature.variadic signature.parameters arguments two.0)
        (ap (λ b. not b || is_none result) (void_same names signature.returns) ∙ two.1))
    calls_kept result (ExtractValue aggregate indices) h = refl
    calls_kept result (InsertValue aggregate part indices) h = refl
