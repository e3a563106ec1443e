-- Where the names in all that is written are known, the names that are used are known.
use Rattle.std.proofs.Common.{List, [], ◌∷◌, ◌++◌, Option, Some, None, flat_map, unwrap_or, ℕ}
use Rattle.std.specs.List.{AllByRecursion}
use Rattle.std.specs.Option.{option_map_or}
use Rattle.type_table.specs.Tree.{Tree, ptr}
use Rattle.module_arena.specs.Module.{Bytes, Constant, Integer, Truth, Null, Undef, Poison, ZeroInitializer, Address, ByteString, Aggregate, ElementAddress, Cast, Binary, Constants, no_constants, more_constants, Value, Local, Known, Operand, Incoming, Operation, BinaryOperation, Compare, Convert, Select, Freeze, Phi, Load, Store, Alloca, GetElementPtr, Call, ExtractValue, InsertValue, Instruction, Case, Ending, ReturnVoid, Return, Jump, Branch, Switch, Unreachable, Block, Module}
use Rattle.module_arena.specs.UsedNames.{names_in_constant, names_in_constants, names_in_value, names_in_operand, names_in_incoming, names_in_operation, names_in_instruction, names_in_case, names_in_ending, names_in_block}
use Rattle.linkage_rules.specs.Globals.{Global, OfVariable, OfFunction, OfAlias}
use Rattle.linkage_rules.proofs.Gathered.{all_joined as all_append}
use Rattle.run_rules.specs.Plan.{names_used}
use Rattle.run_rules.proofs.OnLaws.SameConstants.{ConstantIn, ConstantsIn}
use Rattle.run_rules.proofs.OnLaws.SameOperations.{ValueIn, OperandIn, OperandsIn, CountIn, IncomingIn, OperationIn}
use Rattle.run_rules.proofs.OnLaws.SameBlocks.{InstructionsIn, CasesIn, EndingIn, BlocksIn}
use Rattle.link_rules.specs.Known.{KnownTree, KnownName}
use Rattle.linked_runs.proofs.Known.{InitialiserIn, IsKnown}

module _ (T : Tree → Type 0) (G : Bytes → Type 0) where
  abbrev All : List Bytes → Type 0
  All names = AllByRecursion G names

  mutual
    constant_used : (t : Tree) (c : Constant) → ConstantIn T G t c → All (names_in_constant c)
    constant_used t (Integer n) h = tt
    constant_used t (Truth b) h = tt
    constant_used t Null h = tt
    constant_used t Undef h = tt
    constant_used t Poison h = tt
    constant_used t ZeroInitializer h = tt
    constant_used t (Address name) h = (h, tt)
    constant_used t (ByteString bytes) h = tt
    constant_used t (Aggregate b cs) h = constants_used cs h
    constant_used t (ElementAddress flags source cs) h = constants_used cs h.1
    constant_used t (Cast opcode from value to) h = constant_used from value h.2
    constant_used t (Binary opcode flags a left b right) h = all_append G (names_in_constant left) (names_in_constant right) (constant_used a left h.1) (constant_used b right h.2)

    constants_used : (cs : Constants) → ConstantsIn T G cs → All (names_in_constants cs)
    constants_used no_constants h = tt
    constants_used (more_constants t c cs) h = all_append G (names_in_constant c) (names_in_constants cs) (constant_used t c h.1) (constants_used cs h.2)

  value_used : (t : Tree) (v : Value) → ValueIn T G t v → All (names_in_value v)
  value_used t (Local name) h = tt
  value_used t (Known c) h = constant_used t c h

  operand_used : (o : Operand) → OperandIn T G o → All (names_in_operand o)
  operand_used o h = value_used o.ty o.value h.1

  operands_used : (os : List Operand) → OperandsIn T G os → All (flat_map names_in_operand os)
  operands_used [] h = tt
  operands_used (o ∷ os) h = all_append G (names_in_operand o) (flat_map names_in_operand os) (operand_used o h.0) (operands_used os h.1)

  incoming_used : (t : Tree) (xs : List Incoming) → IncomingIn T G t xs → All (flat_map names_in_incoming xs)
  incoming_used t [] h = tt
  incoming_used t (x ∷ xs) h = all_append G (names_in_value x.value) (flat_map names_in_incoming xs) (value_used t x.value h.0) (incoming_used t xs h.1)

  count_used : (o : Option Operand) → CountIn T G o → All (option_map_or names_in_operand o [])
  count_used None h = tt
  count_used (Some o) h = operand_used o h

  two_used : (o p : Operand) → OperandIn T G o → OperandIn T G p → All (names_in_operand o ++ names_in_operand p)
  two_used o p h k = all_append G (names_in_operand o) (names_in_operand p) (operand_used o h) (operand_used p k)

  operation_used : (o : Operation) → OperationIn T G o → All (names_in_operation o)
  operation_used (BinaryOperation opcode flags left right) h = all_append G (names_in_operand left) (names_in_value right) (operand_used left h.0) (value_used left.ty right h.1)
  operation_used (Compare flags predicate left right) h = all_append G (names_in_operand left) (names_in_value right) (operand_used left h.0) (value_used left.ty right h.1)
  operation_used (Convert opcode flags value to) h = operand_used value h.0
  operation_used (Select condition first second) h = all_append G (names_in_operand condition) (names_in_operand first ++ names_in_operand second) (operand_used condition h.0) (two_used first second h.1 h.2)
  operation_used (Freeze value) h = operand_used value h
  operation_used (Phi ty incoming) h = incoming_used ty incoming h.1
  operation_used (Load flags ty address alignment) h = operand_used address h.1
  operation_used (Store flags value address alignment) h = two_used value address h.0 h.1
  operation_used (Alloca ty count alignment) h = count_used count h.1
  operation_used (GetElementPtr flags source base indices) h = all_append G (names_in_operand base) (flat_map names_in_operand indices) (operand_used base h.1) (operands_used indices h.2)
  operation_used (Call signature callee arguments) h = all_append G (names_in_value callee) (flat_map names_in_operand arguments) (value_used ptr callee h.2) (operands_used arguments h.3)
  operation_used (ExtractValue aggregate indices) h = operand_used aggregate h
  operation_used (InsertValue aggregate part indices) h = two_used aggregate part h.0 h.1

  instructions_used : (xs : List Instruction) → InstructionsIn T G xs → All (flat_map names_in_instruction xs)
  instructions_used [] h = tt
  instructions_used (x ∷ xs) h = all_append G (names_in_operation x.operation) (flat_map names_in_instruction xs) (operation_used x.operation h.0) (instructions_used xs h.1)

  cases_used : (cs : List Case) → CasesIn T G cs → All (flat_map names_in_case cs)
  cases_used [] h = tt
  cases_used (c ∷ cs) h = all_append G (names_in_constant c.value) (flat_map names_in_case cs) (constant_used c.ty c.value h.0) (cases_used cs h.1)

  ending_used : (e : Ending) → EndingIn T G e → All (names_in_ending e)
  ending_used ReturnVoid h = tt
  ending_used (Return value) h = operand_used value h
  ending_used (Jump target) h = tt
  ending_used (Branch condition then_to else_to) h = operand_used condition h
  ending_used (Switch value otherwise cases) h = all_append G (names_in_operand value) (flat_map names_in_case cases) (operand_used value h.0) (cases_used cases h.1)
  ending_used Unreachable h = tt

  blocks_used : (bs : List Block) → BlocksIn T G bs → All (flat_map names_in_block bs)
  blocks_used [] h = tt
  blocks_used (b ∷ bs) h =
      all_append G (names_in_block b) (flat_map names_in_block bs)
      (all_append G (flat_map names_in_instruction b.instructions) (names_in_ending b.ending) (instructions_used b.instructions h.0.0) (ending_used b.ending h.0.1)) (blocks_used bs h.1)

pub entry_used : (parts : List Module) (i : ℕ) (g : Global) → IsKnown parts i g → AllByRecursion (KnownName parts i) (names_used g)
entry_used parts i (OfVariable v) h = go v.initialiser h.1
  where
    go : (o : Option Constant) → InitialiserIn parts i v.ty o → AllByRecursion (KnownName parts i) (option_map_or names_in_constant o [])
    go None k = tt
    go (Some c) k = constant_used (KnownTree parts i) (KnownName parts i) v.ty c k
entry_used parts i (OfFunction f) h = go f.body h.2
  where
    go : (o : Option (List Block)) → BlocksIn (KnownTree parts i) (KnownName parts i) (unwrap_or o []) → AllByRecursion (KnownName parts i) (option_map_or (flat_map names_in_block) o [])
    go None k = tt
    go (Some bs) k = blocks_used (KnownTree parts i) (KnownName parts i) bs k
entry_used parts i (OfAlias a) h = tt
