-- What is written in a part that is well formed has known types and names.
use Rattle.std.proofs.Common.{◌≡◌, ℕ, Bool, true, ◌&&◌, List, [], ◌∷◌, ◌++◌, map, Option, Some, None, refl, subst, nat_le, option_to_list, flat_map, unwrap_or}
use Rattle.std.specs.List.{list_all}
use Rattle.std.specs.Option.{option_map_or}
use Rattle.std.proofs.lemmas.Bool.{and_parts}
use Rattle.type_table.specs.Tree.{Tree, ptr}
use Rattle.module_arena.specs.Constants.{Typed, constants_in, constants_of}
use Rattle.module_arena.specs.Forms.{is_not_empty, is_instruction_of_phrase}
use Rattle.module_arena.specs.Names.{has_good_names}
use Rattle.module_arena.specs.Functions.{blocks, body}
use Rattle.module_arena.specs.Module.{Bytes, Constant, Integer, Truth, Null, Undef, Poison, ZeroInitializer, Address, ByteString, Aggregate, ElementAddress, Cast, Binary, Constants, no_constants, more_constants, Value, Local, Known, Operand, Incoming, Operation, BinaryOperation, Compare, Convert, Select, Freeze, Phi, Load, Store, Alloca, GetElementPtr, Call, ExtractValue, InsertValue, Instruction, Case, Ending, ReturnVoid, Return, Jump, Branch, Switch, Unreachable, Block, Parameter, Variable, Function, Module}
use Rattle.module_arena.specs.Operations.{incoming_operand, operands, case_operand, ending_operands, callee}
use Rattle.module_arena.specs.WellFormed.{is_good_type, types_of_operation, known_in, known_of_operands, known_of_operation, known_of_block, type_in_constant, has_entry, is_in_range, is_good_part, depth, is_good_constant, are_good_operands, known_of_variable, is_good_variable, is_good_block, is_good_function}
use Rattle.linkage_rules.specs.Entries.{part_at}
use Rattle.linkage_rules.specs.Globals.{OfVariable, OfFunction}
use Rattle.run_rules.proofs.OnLaws.SameConstants.{ConstantIn, ConstantsIn}
use Rattle.run_rules.proofs.OnLaws.SameOperations.{ValueIn, OperandIn, OperandsIn, TypesIn, CountIn, IncomingIn, OperationIn}
use Rattle.run_rules.proofs.OnLaws.SameBlocks.{InstructionsIn, CasesIn, EndingIn, BlocksIn}
use Rattle.run_rules.proofs.OnLaws.SameLook.{ParametersIn}
use Rattle.link_rules.specs.Known.{KnownTree, KnownName}
use Rattle.linked_runs.proofs.Known.{InitialiserIn, IsKnown}
use Rattle.link_rules.proofs.Parts.{all_halves}
use Rattle.link_rules.proofs.KnownTypes.{tree_known}
use Rattle.link_rules.proofs.NamesKnown.{name_known}

module _ (parts : List Module) (i : ℕ) where
  abbrev m : Module
  m = part_at parts i

  abbrev T : Tree → Type 0
  T = KnownTree parts i

  abbrev G : Bytes → Type 0
  G = KnownName parts i

  -- CONSTANTS

  abbrev Good : List Typed → Type 0
  Good cs = list_all (is_good_part m) cs ≡ true

  head_good : (t : Tree) (c : Constant) (others : List Typed) → Good ((t, c) ∷ others) → T t
  head_good t c others h = tree_known parts i t (and_parts (is_good_type m.structs t) _ (and_parts (is_good_part m (t, c)) _ h).0).0

  type_known : (t : Tree) (c : Constant) → Good (constants_in t c) → T t
  type_known t (Integer n) h = head_good t (Integer n) [] h
  type_known t (Truth b) h = head_good t (Truth b) [] h
  type_known t Null h = head_good t Null [] h
  type_known t Undef h = head_good t Undef [] h
  type_known t Poison h = head_good t Poison [] h
  type_known t ZeroInitializer h = head_good t ZeroInitializer [] h
  type_known t (Address name) h = head_good t (Address name) [] h
  type_known t (ByteString bytes) h = head_good t (ByteString bytes) [] h
  type_known t (Aggregate b cs) h = head_good t (Aggregate b cs) (constants_of cs) h
  type_known t (ElementAddress flags source cs) h = head_good t (ElementAddress flags source cs) (constants_of cs) h
  type_known t (Cast opcode from value to) h = head_good t (Cast opcode from value to) (constants_in from value) h
  type_known t (Binary opcode flags a left b right) h = head_good t (Binary opcode flags a left b right) (constants_in a left ++ constants_in b right) h

  -- the type that a constant writes besides
  written_known : (t u : Tree) (c : Constant) (others : List Typed) → type_in_constant c ≡ u ∷ [] → Good ((t, c) ∷ others) → T u
  written_known t u c others is h =
      let rest = (and_parts (is_good_type m.structs t) _ (and_parts (is_good_part m (t, c)) _ h).0).1 in
      let types = (and_parts (list_all (is_good_type m.structs) (type_in_constant c)) _ rest).0 in
      tree_known parts i u (and_parts (is_good_type m.structs u) _ (subst (λ ts. list_all (is_good_type m.structs) ts ≡ true) is types)).0

  address_known : (t : Tree) (name : Bytes) → Good ((t, Address name) ∷ []) → G name
  address_known t name h =
      let rest = (and_parts (is_good_type m.structs t) _ (and_parts (is_good_part m (t, Address name)) _ h).0).1 in
      name_known parts i name (and_parts (is_in_range t (Address name)) (has_entry m name) rest).1

  mutual
    constant_in : (t : Tree) (c : Constant) → Good (constants_in t c) → ConstantIn T G t c
    constant_in t (Integer n) h = tt
    constant_in t (Truth b) h = tt
    constant_in t Null h = tt
    constant_in t Undef h = type_known t Undef h
    constant_in t Poison h = type_known t Poison h
    constant_in t ZeroInitializer h = type_known t ZeroInitializer h
    constant_in t (Address name) h = address_known t name h
    constant_in t (ByteString bytes) h = tt
    constant_in t (Aggregate b cs) h = constants_are cs (and_parts (is_good_part m (t, Aggregate b cs)) _ h).1
    constant_in t (ElementAddress flags source cs) h =
        (written_known t source (ElementAddress flags source cs) (constants_of cs) refl h, constants_are cs (and_parts (is_good_part m (t, ElementAddress flags source cs)) _ h).1)
    constant_in t (Cast opcode from value to) h =
        let rest = (and_parts (is_good_part m (t, Cast opcode from value to)) _ h).1 in
        (type_known from value rest, written_known t to (Cast opcode from value to) (constants_in from value) refl h, constant_in from value rest)
    constant_in t (Binary opcode flags a left b right) h =
        let halves = all_halves (is_good_part m) (constants_in a left) (constants_in b right) (and_parts (is_good_part m (t, Binary opcode flags a left b right)) _ h).1 in
        (type_known a left halves.0, constant_in a left halves.0, constant_in b right halves.1)

    constants_are : (cs : Constants) → Good (constants_of cs) → ConstantsIn T G cs
    constants_are no_constants h = tt
    constants_are (more_constants t c cs) h =
        let halves = all_halves (is_good_part m) (constants_in t c) (constants_of cs) h in
        (type_known t c halves.0, constant_in t c halves.0, constants_are cs halves.1)

  -- OPERANDS

  abbrev Constants_are : List Typed → Type 0
  Constants_are cs = list_all (is_good_constant m) cs ≡ true

  abbrev Types_are : List Tree → Type 0
  Types_are ts = list_all (is_good_type m.structs) ts ≡ true

  pub constant_known : (t : Tree) (c : Constant) → is_good_constant m (t, c) ≡ true → ConstantIn T G t c
  constant_known t c h = constant_in t c (and_parts (nat_le (depth c) 64) _ h).1

  value_known : (t : Tree) (v : Value) → Constants_are (known_in t v) → ValueIn T G t v
  value_known t (Local name) h = tt
  value_known t (Known c) h = constant_known t c (and_parts (is_good_constant m (t, c)) true h).0

  abbrev OperandsAre : List Operand → Type 0
  OperandsAre os = (are_good_operands m os ≡ true) × Constants_are (known_of_operands os)

  operand_known : (o : Operand) (os : List Operand) → OperandsAre (o ∷ os) → OperandIn T G o
  operand_known o os h =
      (tree_known parts i o.ty (and_parts (is_good_type m.structs o.ty) _ h.0).0, value_known o.ty o.value (all_halves (is_good_constant m) (known_in o.ty o.value) (known_of_operands os) h.1).0)

  others : (o : Operand) (os : List Operand) → OperandsAre (o ∷ os) → OperandsAre os
  others o os h = ((and_parts (is_good_type m.structs o.ty) _ h.0).1, (all_halves (is_good_constant m) (known_in o.ty o.value) (known_of_operands os) h.1).1)

  operands_known : (os : List Operand) → OperandsAre os → OperandsIn T G os
  operands_known [] h = tt
  operands_known (o ∷ os) h = (operand_known o os h, operands_known os (others o os h))

  count_known : (o : Option Operand) → OperandsAre (option_to_list o) → CountIn T G o
  count_known None h = tt
  count_known (Some o) h = operand_known o [] h

  incoming_known : (ty : Tree) (xs : List Incoming) → OperandsAre (map (incoming_operand ty) xs) → IncomingIn T G ty xs
  incoming_known ty [] h = tt
  incoming_known ty (x ∷ xs) h = ((operand_known (incoming_operand ty x) (map (incoming_operand ty) xs) h).1, incoming_known ty xs (others (incoming_operand ty x) (map (incoming_operand ty) xs) h))

  first_type : (t : Tree) (ts : List Tree) → Types_are (t ∷ ts) → T t
  first_type t ts h = tree_known parts i t (and_parts (is_good_type m.structs t) _ h).0

  types_known : (ts : List Tree) → Types_are ts → TypesIn T G ts
  types_known [] h = tt
  types_known (t ∷ ts) h = (first_type t ts h, types_known ts (and_parts (is_good_type m.structs t) _ h).1)

  -- INSTRUCTIONS

  operation_known : (o : Operation) → OperandsAre (operands o) → Types_are (types_of_operation o) → Constants_are (option_map_or (known_in ptr) (callee o) []) → OperationIn T G o
  operation_known (BinaryOperation opcode flags left right) h k c =
      (operand_known left (record { ty = left.ty; value = right } ∷ []) h, (operand_known (record { ty = left.ty; value = right }) [] (others left (record { ty = left.ty; value = right } ∷ []) h)).1)
  operation_known (Compare flags predicate left right) h k c =
      (operand_known left (record { ty = left.ty; value = right } ∷ []) h, (operand_known (record { ty = left.ty; value = right }) [] (others left (record { ty = left.ty; value = right } ∷ []) h)).1)
  operation_known (Convert opcode flags value to) h k c = (operand_known value [] h, first_type to [] k)
  operation_known (Select condition first second) h k c =
      let rest = others condition (first ∷ second ∷ []) h in
      (operand_known condition (first ∷ second ∷ []) h, operand_known first (second ∷ []) rest, operand_known second [] (others first (second ∷ []) rest))
  operation_known (Freeze value) h k c = operand_known value [] h
  operation_known (Phi ty incoming) h k c = (first_type ty [] k, incoming_known ty incoming h)
  operation_known (Load flags ty address alignment) h k c = (first_type ty [] k, operand_known address [] h)
  operation_known (Store flags value address alignment) h k c = (operand_known value (address ∷ []) h, operand_known address [] (others value (address ∷ []) h))
  operation_known (Alloca ty count alignment) h k c = (first_type ty [] k, count_known count h)
  operation_known (GetElementPtr flags source base indices) h k c = (first_type source [] k, operand_known base indices h, operands_known indices (others base indices h))
  operation_known (Call signature symbol_name arguments) h k c =
      (first_type signature.returns signature.parameters k, types_known signature.parameters (and_parts (is_good_type m.structs signature.returns) _ k).1, value_known ptr symbol_name c, operands_known arguments h)
  operation_known (ExtractValue aggregate indices) h k c = operand_known aggregate [] h
  operation_known (InsertValue aggregate part indices) h k c = (operand_known aggregate (part ∷ []) h, operand_known part [] (others aggregate (part ∷ []) h))

  abbrev is_good_instruction : Instruction → Bool
  is_good_instruction x = is_instruction_of_phrase x && (are_good_operands m (operands x.operation) && list_all (is_good_type m.structs) (types_of_operation x.operation))

  instructions_known : (xs : List Instruction) → list_all is_good_instruction xs ≡ true → Constants_are (flat_map (λ (x : Instruction). known_of_operation x.operation) xs) → InstructionsIn T G xs
  instructions_known [] h k = tt
  instructions_known (x ∷ xs) h k =
      let own = and_parts (is_good_instruction x) _ h in
      let good = and_parts (are_good_operands m (operands x.operation)) _ (and_parts (is_instruction_of_phrase x) _ own.0).1 in
      let constants = all_halves (is_good_constant m) (known_of_operation x.operation) (flat_map (λ (y : Instruction). known_of_operation y.operation) xs) k in
      let both = all_halves (is_good_constant m) (known_of_operands (operands x.operation)) (option_map_or (known_in ptr) (callee x.operation) []) constants.0 in
      (operation_known x.operation (good.0, both.0) good.1 both.1, instructions_known xs own.1 constants.1)

  cases_known : (cs : List Case) → OperandsAre (map case_operand cs) → CasesIn T G cs
  cases_known [] h = tt
  cases_known (c ∷ cs) h = ((operand_known (case_operand c) (map case_operand cs) h).1, cases_known cs (others (case_operand c) (map case_operand cs) h))

  ending_known : (e : Ending) → OperandsAre (ending_operands e) → EndingIn T G e
  ending_known ReturnVoid h = tt
  ending_known (Return value) h = operand_known value [] h
  ending_known (Jump target) h = tt
  ending_known (Branch condition then_to else_to) h = operand_known condition [] h
  ending_known (Switch value otherwise cases) h = (operand_known value (map case_operand cases) h, cases_known cases (others value (map case_operand cases) h))
  ending_known Unreachable h = tt

  pub blocks_known : (bs : List Block) → list_all (is_good_block m) bs ≡ true → Constants_are (flat_map known_of_block bs) → BlocksIn T G bs
  blocks_known [] h k = tt
  blocks_known (b ∷ bs) h k =
      let own = and_parts (is_good_block m b) _ h in
      let good = and_parts (list_all is_good_instruction b.instructions) _ own.0 in
      let constants = all_halves (is_good_constant m) (known_of_block b) (flat_map known_of_block bs) k in
      let both = all_halves (is_good_constant m) (flat_map (λ (x : Instruction). known_of_operation x.operation) b.instructions) (known_of_operands (ending_operands b.ending)) constants.0 in
      ((instructions_known b.instructions good.0 both.0, ending_known b.ending (good.1, both.1)), blocks_known bs own.1 constants.1)

  pub parameters_known : (ps : List Parameter) → list_all (λ (p : Parameter). is_good_type m.structs p.ty) ps ≡ true → ParametersIn T ps
  parameters_known [] h = tt
  parameters_known (p ∷ ps) h = let halves = and_parts (is_good_type m.structs p.ty) _ h in (tree_known parts i p.ty halves.0, parameters_known ps halves.1)

  -- ENTRIES

  body_is : (o : Option (List Block)) → body o ≡ unwrap_or o []
  body_is None = refl
  body_is (Some bs) = refl

  pub function_known : (f : Function) → is_good_function m f ≡ true → Constants_are (flat_map known_of_block (blocks f)) → IsKnown parts i (OfFunction f)
  function_known f h k =
      let returns = and_parts (is_good_type m.structs f.returns) _ h in
      let parameters = and_parts (list_all (λ (p : Parameter). is_good_type m.structs p.ty) f.parameters) _ returns.1 in
      let names = (and_parts (option_map_or is_not_empty f.body true) _ parameters.1).1 in
      (tree_known parts i f.returns returns.0, parameters_known f.parameters parameters.0, subst (BlocksIn T G) (body_is f.body) (blocks_known (blocks f) (and_parts (has_good_names f) _ names).1 k))

  initialiser_known : (t : Tree) (o : Option Constant) → Constants_are (map (λ c. (t, c)) (option_to_list o)) → InitialiserIn parts i t o
  initialiser_known t None h = tt
  initialiser_known t (Some c) h = constant_known t c (and_parts (is_good_constant m (t, c)) true h).0

  pub variable_known : (v : Variable) → is_good_variable m v ≡ true → Constants_are (known_of_variable v) → IsKnown parts i (OfVariable v)
  variable_known v h k = (tree_known parts i v.ty (and_parts (is_good_type m.structs v.ty) _ h).0, initialiser_known v.ty v.initialiser k)
