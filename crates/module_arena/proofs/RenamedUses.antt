-- What is renamed uses the new names of what it used.
use Rattle.std.proofs.Common.{◌≡◌, List, [], ◌∷◌, ◌++◌, map, Option, Some, None, refl, sym, ap₂, ◌∙◌, option_map}
use Rattle.std.specs.Prelude.{flat_map}
use Rattle.std.specs.Option.{option_map_or}
use Rattle.std.proofs.lemmas.List.{map-append}
use Rattle.module_arena.specs.Module.{Bytes, Constant, Integer, Truth, Null, Undef, Poison, ZeroInitializer, Address, ByteString, Aggregate, ElementAddress, Cast, Binary, Constants, no_constants, more_constants, Value, Local, Known, Operand, Operation, BinaryOperation, Compare, Convert, Select, Freeze, Phi, Load, Store, Alloca, GetElementPtr, Call, ExtractValue, InsertValue, Ending, ReturnVoid, Return, Jump, Branch, Switch, Unreachable, Block}
use Rattle.module_arena.specs.Renamed.{renamed_constant, renamed_constants, renamed_value, renamed_operand, renamed_incoming, renamed_operation, renamed_instruction, renamed_case, renamed_ending, renamed_block}
use Rattle.module_arena.specs.UsedNames.{names_in_constant, names_in_constants, names_in_value, names_in_operand, names_in_incoming, names_in_operation, names_in_instruction, names_in_case, names_in_ending, names_in_block}

-- two lists, each renamed
joined : {A B : Type 0} (f : A → B) (us vs : List B) (xs ys : List A) → us ≡ map f xs → vs ≡ map f ys → us ++ vs ≡ map f (xs ++ ys)
joined f us vs xs ys h k = ap₂ (λ x y. x ++ y) h k ∙ sym (map-append f xs ys)

pub flat_uses : {A B N : Type 0} (f : N → N) (r : A → B) (u : B → List N) (v : A → List N) → ((x : A) → u (r x) ≡ map f (v x)) → (xs : List A) → flat_map u (map r xs) ≡ map f (flat_map v xs)
flat_uses f r u v h [] = refl
flat_uses f r u v h (x ∷ xs) = joined f (u (r x)) (flat_map u (map r xs)) (v x) (flat_map v xs) (h x) (flat_uses f r u v h xs)

module _ (structs globals : Bytes → Bytes) where
  mutual
    pub constant_uses : (c : Constant) → names_in_constant (renamed_constant structs globals c) ≡ map globals (names_in_constant c)
    constant_uses (Integer number) = refl
    constant_uses (Truth truth) = refl
    constant_uses Null = refl
    constant_uses Undef = refl
    constant_uses Poison = refl
    constant_uses ZeroInitializer = refl
    constant_uses (Address global) = refl
    constant_uses (ByteString bytes) = refl
    constant_uses (Aggregate shape elements) = constants_use elements
    constant_uses (ElementAddress flags source operands) = constants_use operands
    constant_uses (Cast opcode from value to) = constant_uses value
    constant_uses (Binary opcode flags left_type left right_type right) = joined globals _ _ (names_in_constant left) (names_in_constant right) (constant_uses left) (constant_uses right)

    pub constants_use : (cs : Constants) → names_in_constants (renamed_constants structs globals cs) ≡ map globals (names_in_constants cs)
    constants_use no_constants = refl
    constants_use (more_constants ty constant others) = joined globals _ _ (names_in_constant constant) (names_in_constants others) (constant_uses constant) (constants_use others)

  value_uses : (v : Value) → names_in_value (renamed_value structs globals v) ≡ map globals (names_in_value v)
  value_uses (Local name) = refl
  value_uses (Known constant) = constant_uses constant

  operand_uses : (o : Operand) → names_in_operand (renamed_operand structs globals o) ≡ map globals (names_in_operand o)
  operand_uses o = value_uses o.value

  operands_use : (os : List Operand) → flat_map names_in_operand (map (renamed_operand structs globals) os) ≡ map globals (flat_map names_in_operand os)
  operands_use os = flat_uses globals (renamed_operand structs globals) names_in_operand names_in_operand operand_uses os

  count_uses : (o : Option Operand) → option_map_or names_in_operand (option_map (renamed_operand structs globals) o) [] ≡ map globals (option_map_or names_in_operand o [])
  count_uses None = refl
  count_uses (Some o) = operand_uses o

  operation_uses : (o : Operation) → names_in_operation (renamed_operation structs globals o) ≡ map globals (names_in_operation o)
  operation_uses (BinaryOperation opcode flags left right) = joined globals _ _ (names_in_operand left) (names_in_value right) (operand_uses left) (value_uses right)
  operation_uses (Compare flags predicate left right) = joined globals _ _ (names_in_operand left) (names_in_value right) (operand_uses left) (value_uses right)
  operation_uses (Convert opcode flags value to) = operand_uses value
  operation_uses (Select condition first second) =
      joined globals _ _ (names_in_operand condition) (names_in_operand first ++ names_in_operand second) (operand_uses condition)
      (joined globals _ _ (names_in_operand first) (names_in_operand second) (operand_uses first) (operand_uses second))
  operation_uses (Freeze value) = operand_uses value
  operation_uses (Phi ty incoming) = flat_uses globals (renamed_incoming structs globals) names_in_incoming names_in_incoming (λ x. value_uses x.value) incoming
  operation_uses (Load flags ty address alignment) = operand_uses address
  operation_uses (Store flags value address alignment) = joined globals _ _ (names_in_operand value) (names_in_operand address) (operand_uses value) (operand_uses address)
  operation_uses (Alloca ty count alignment) = count_uses count
  operation_uses (GetElementPtr flags source base indices) = joined globals _ _ (names_in_operand base) (flat_map names_in_operand indices) (operand_uses base) (operands_use indices)
  operation_uses (Call signature callee arguments) = joined globals _ _ (names_in_value callee) (flat_map names_in_operand arguments) (value_uses callee) (operands_use arguments)
  operation_uses (ExtractValue aggregate indices) = operand_uses aggregate
  operation_uses (InsertValue aggregate part indices) = joined globals _ _ (names_in_operand aggregate) (names_in_operand part) (operand_uses aggregate) (operand_uses part)

  ending_uses : (e : Ending) → names_in_ending (renamed_ending structs globals e) ≡ map globals (names_in_ending e)
  ending_uses ReturnVoid = refl
  ending_uses (Return value) = operand_uses value
  ending_uses (Jump target) = refl
  ending_uses (Branch condition then_to else_to) = operand_uses condition
  ending_uses (Switch value otherwise cases) =
      joined globals _ _ (names_in_operand value) (flat_map names_in_case cases) (operand_uses value)
      (flat_uses globals (renamed_case structs globals) names_in_case names_in_case (λ x. constant_uses x.value) cases)
  ending_uses Unreachable = refl

  pub block_uses : (b : Block) → names_in_block (renamed_block structs globals b) ≡ map globals (names_in_block b)
  block_uses b =
      joined globals _ _ (flat_map names_in_instruction b.instructions) (names_in_ending b.ending)
      (flat_uses globals (renamed_instruction structs globals) names_in_instruction names_in_instruction (λ x. operation_uses x.operation) b.instructions) (ending_uses b.ending)
