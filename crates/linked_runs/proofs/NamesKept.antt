-- What is written under other names names the other names.
use Rattle.std.proofs.Common.{◌≡◌, List, [], ◌∷◌, ◌++◌, map, Option, Some, None, refl, sym, ap₂, ◌∙◌, option_map, flat_map}
use Rattle.std.specs.Option.{option_map_or}
use Rattle.std.proofs.lemmas.List.{map-append}
use Rattle.module_arena.specs.Module.{Bytes, Constant, Integer, Truth, Null, Undef, Poison, ZeroInitializer, Address, ByteString, Aggregate, ElementAddress, Cast, Binary, Constants, no_constants, more_constants, Value, Local, Known, Operand, Operation, BinaryOperation, Compare, Convert, Select, Freeze, Phi, Load, Store, Alloca, GetElementPtr, Call, ExtractValue, InsertValue, Ending, ReturnVoid, Return, Jump, Branch, Switch, Unreachable, Block}
use Rattle.module_arena.specs.Renamed.{renamed_constant, renamed_constants, renamed_value, renamed_operand, renamed_incoming, renamed_operation, renamed_instruction, renamed_case, renamed_ending, renamed_block}
use Rattle.module_arena.specs.UsedNames.{names_in_constant, names_in_constants, names_in_value, names_in_operand, names_in_incoming, names_in_operation, names_in_instruction, names_in_case, names_in_ending, names_in_block}

module _ (structs globals : Bytes → Bytes) where
  join : (a b xs ys : List Bytes) → a ≡ map globals xs → b ≡ map globals ys → a ++ b ≡ map globals (xs ++ ys)
  join a b xs ys h k = ap₂ (λ x y. x ++ y) h k ∙ sym (map-append globals xs ys)

  flat : {A : Type 0} (names : A → List Bytes) (new : A → A) (xs : List A) → ((x : A) → names (new x) ≡ map globals (names x)) → flat_map names (map new xs) ≡ map globals (flat_map names xs)
  flat names new [] h = refl
  flat names new (x ∷ xs) h = join (names (new x)) (flat_map names (map new xs)) (names x) (flat_map names xs) (h x) (flat names new xs h)

  mutual
    pub constant_names : (c : Constant) → names_in_constant (renamed_constant structs globals c) ≡ map globals (names_in_constant c)
    constant_names (Integer number) = refl
    constant_names (Truth truth) = refl
    constant_names Null = refl
    constant_names Undef = refl
    constant_names Poison = refl
    constant_names ZeroInitializer = refl
    constant_names (Address global) = refl
    constant_names (ByteString bytes) = refl
    constant_names (Aggregate b elements) = constants_names elements
    constant_names (ElementAddress flags source operands) = constants_names operands
    constant_names (Cast opcode from value to) = constant_names value
    constant_names (Binary opcode flags left_type left right_type right) =
        join (names_in_constant (renamed_constant structs globals left)) (names_in_constant (renamed_constant structs globals right)) (names_in_constant left) (names_in_constant right) (constant_names left) (constant_names right)

    pub constants_names : (cs : Constants) → names_in_constants (renamed_constants structs globals cs) ≡ map globals (names_in_constants cs)
    constants_names no_constants = refl
    constants_names (more_constants ty c cs) =
        join (names_in_constant (renamed_constant structs globals c)) (names_in_constants (renamed_constants structs globals cs)) (names_in_constant c) (names_in_constants cs) (constant_names c) (constants_names cs)

  value_names : (v : Value) → names_in_value (renamed_value structs globals v) ≡ map globals (names_in_value v)
  value_names (Local name) = refl
  value_names (Known c) = constant_names c

  operand_names : (o : Operand) → names_in_operand (renamed_operand structs globals o) ≡ map globals (names_in_operand o)
  operand_names o = value_names o.value

  abbrev old : Operand → List Bytes
  old o = names_in_operand o

  abbrev new : Operand → List Bytes
  new o = names_in_operand (renamed_operand structs globals o)

  two : (o p : Operand) → new o ++ new p ≡ map globals (old o ++ old p)
  two o p = join (new o) (new p) (old o) (old p) (operand_names o) (operand_names p)

  with_value : (o : Operand) (v : Value) → new o ++ names_in_value (renamed_value structs globals v) ≡ map globals (old o ++ names_in_value v)
  with_value o v = join (new o) (names_in_value (renamed_value structs globals v)) (old o) (names_in_value v) (operand_names o) (value_names v)

  operands_names : (os : List Operand) → flat_map names_in_operand (map (renamed_operand structs globals) os) ≡ map globals (flat_map names_in_operand os)
  operands_names os = flat names_in_operand (renamed_operand structs globals) os operand_names

  count_names : (o : Option Operand) → option_map_or names_in_operand (option_map (renamed_operand structs globals) o) [] ≡ map globals (option_map_or names_in_operand o [])
  count_names None = refl
  count_names (Some o) = operand_names o

  operation_names : (o : Operation) → names_in_operation (renamed_operation structs globals o) ≡ map globals (names_in_operation o)
  operation_names (BinaryOperation opcode flags left right) = with_value left right
  operation_names (Compare flags predicate left right) = with_value left right
  operation_names (Convert opcode flags value to) = operand_names value
  operation_names (Select condition first second) = join (new condition) (new first ++ new second) (old condition) (old first ++ old second) (operand_names condition) (two first second)
  operation_names (Freeze value) = operand_names value
  operation_names (Phi ty incoming) = flat names_in_incoming (renamed_incoming structs globals) incoming (λ x. value_names x.value)
  operation_names (Load flags ty address alignment) = operand_names address
  operation_names (Store flags value address alignment) = two value address
  operation_names (Alloca ty count alignment) = count_names count
  operation_names (GetElementPtr flags source base indices) =
      join (new base) (flat_map names_in_operand (map (renamed_operand structs globals) indices)) (old base) (flat_map names_in_operand indices) (operand_names base) (operands_names indices)
  operation_names (Call signature callee arguments) =
      join (names_in_value (renamed_value structs globals callee)) (flat_map names_in_operand (map (renamed_operand structs globals) arguments)) (names_in_value callee) (flat_map names_in_operand arguments) (value_names callee) (operands_names arguments)
  operation_names (ExtractValue aggregate indices) = operand_names aggregate
  operation_names (InsertValue aggregate part indices) = two aggregate part

  ending_names : (e : Ending) → names_in_ending (renamed_ending structs globals e) ≡ map globals (names_in_ending e)
  ending_names ReturnVoid = refl
  ending_names (Return value) = operand_names value
  ending_names (Jump target) = refl
  ending_names (Branch condition then_to else_to) = operand_names condition
  ending_names (Switch value otherwise cases) =
      join (new value) (flat_map names_in_case (map (renamed_case structs globals) cases)) (old value) (flat_map names_in_case cases) (operand_names value) (flat names_in_case (renamed_case structs globals) cases (λ c. constant_names c.value))
  ending_names Unreachable = refl

  block_names : (b : Block) → names_in_block (renamed_block structs globals b) ≡ map globals (names_in_block b)
  block_names b =
      join (flat_map names_in_instruction (map (renamed_instruction structs globals) b.instructions)) (names_in_ending (renamed_ending structs globals b.ending)) (flat_map names_in_instruction b.instructions) (names_in_ending b.ending)
      (flat names_in_instruction (renamed_instruction structs globals) b.instructions (λ x. operation_names x.operation)) (ending_names b.ending)

  pub body_names : (o : Option (List Block)) → option_map_or (flat_map names_in_block) (option_map (map (renamed_block structs globals)) o) [] ≡ map globals (option_map_or (flat_map names_in_block) o [])
  body_names None = refl
  body_names (Some bs) = flat names_in_block (renamed_block structs globals) bs block_names

  pub initialiser_names : (o : Option Constant) → option_map_or names_in_constant (option_map (renamed_constant structs globals) o) [] ≡ map globals (option_map_or names_in_constant o [])
  initialiser_names None = refl
  initialiser_names (Some c) = constant_names c
