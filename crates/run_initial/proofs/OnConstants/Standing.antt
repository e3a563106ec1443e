-- The constants of a checked module can stand at their types: initialisers, operands and callees, place by place.
use Rattle.std.proofs.Common.{◌≡◌, ℕ, ◌+◌, List, [], ◌∷◌, ◌++◌, length, map, flat_map, true, ◌&&◌, Option, Some, None, option_to_list}
use Rattle.std.specs.Prelude.{nat_le}
use Rattle.std.specs.List.{AllByRecursion, list_all}
use Rattle.std.specs.Option.{option_map_or}
use Rattle.std.proofs.lemmas.Bool.{and_parts}
use Rattle.type_table.specs.Tree.{Tree, ptr}
use Rattle.module_arena.specs.Constants.{Typed, constants_in, fits}
use Rattle.module_arena.specs.EntryRules.{constant_types_suit, variable_type_suits}
use Rattle.module_arena.specs.Flow.{flow_of}
use Rattle.module_arena.specs.Functions.{blocks}
use Rattle.module_arena.specs.InstructionRules.{callee_types_suit, operands_suit, other_types_suit, result_suits, value_types_suit}
use Rattle.module_arena.specs.Module.{Block, Constant, Function, Instruction, Module, Operand, Value, Variable}
use Rattle.module_arena.specs.Module.Value.{Known, Local}
use Rattle.module_arena.specs.Operations.{callee, ending_operands, operands, result_type}
use Rattle.module_arena.specs.TypeTests.{is_passable, lies_in_memory}
use Rattle.module_arena.specs.Valid.{AllHold, InstructionOf, alias_demands, blocks_demands, definedness_demands, ending_demands, function_demands, instruction_demands, instructions_demands, module_demands, operand_uses, operation_uses, variable_demands}
use Rattle.module_arena.specs.ValueRules.{callee_fits, operands_fit, value_fits}
use Rattle.module_arena.specs.WellFormed.{depth, is_good_constant, is_good_part, known_in, known_of_block, known_of_operands, known_of_operation, known_of_variable}
use Rattle.module_arena.proofs.Parts.{front_holds, rest_holds, valid_blocks, valid_ending}
use Rattle.run_initial.specs.Constants.Laws.{CanStand, ConstantsCanStand}
use Rattle.run_initial.specs.Constants.Sound.{IsSound}
use Rattle.run_initial.proofs.OnConstants.Sounds.{back_all, front_all}

module _ (m : Module) where
  -- each of some constants is good, and each can stand
  abbrev AreGood : List Typed → Type 0
  AreGood cs = list_all (is_good_constant m) cs ≡ true

  abbrev AllStand : List Typed → Type 0
  AllStand cs = AllByRecursion (CanStand m) cs

  both_stand : (xs ys : List Typed) → AllStand xs → AllStand ys → AllStand (xs ++ ys)
  both_stand [] ys h k = k
  both_stand (x ∷ xs) ys h k = (h.0, both_stand xs ys h.1 k)

  pub one_stands : (t : Tree) (c : Constant) → fits m.structs t c ≡ true → is_good_constant m (t, c) ≡ true → constant_types_suit m.structs t c ≡ true → IsSound m t c
  one_stands t c f g s = record { fits = f; good = (and_parts (nat_le (depth c) 64) (list_all (is_good_part m) (constants_in t c)) g).1; suits = s }

  value_stands : (t : Tree) (v : Value) → value_types_suit m.structs t v ≡ true → value_fits m.structs t v ≡ true → AreGood (known_in t v) → AllStand (known_in t v)
  value_stands t (Local name) s f g = tt
  value_stands t (Known c) s f g = (one_stands t c f (and_parts (is_good_constant m (t, c)) true g).0 s, tt)

  -- the operands of an instruction or of an end
  pub operands_stand : (os : List Operand) → operands_suit m.structs os ≡ true → operands_fit m.structs os ≡ true → AreGood (known_of_operands os) → AllStand (known_of_operands os)
  operands_stand [] s f g = tt
  operands_stand (o ∷ os) s f g =
      let p = and_parts (is_passable m.structs o.ty && value_types_suit m.structs o.ty o.value) (operands_suit m.structs os) s in
      let q = and_parts (is_passable m.structs o.ty) (value_types_suit m.structs o.ty o.value) p.0 in
      let r = and_parts (value_fits m.structs o.ty o.value) (operands_fit m.structs os) f in
      both_stand (known_in o.ty o.value) (known_of_operands os)
      (value_stands o.ty o.value q.1 r.0 (front_all (is_good_constant m) (known_in o.ty o.value) (known_of_operands os) g))
      (operands_stand os p.1 r.1 (back_all (is_good_constant m) (known_in o.ty o.value) (known_of_operands os) g))

  -- a callee, which is a pointer
  pub callee_stands : (o : Option Value) → callee_types_suit m.structs o ≡ true → callee_fits m.structs o ≡ true → AreGood (option_map_or (known_in ptr) o []) → AllStand (option_map_or (known_in ptr) o [])
  callee_stands None s f g = tt
  callee_stands (Some v) s f g = value_stands ptr v s f g

  module _ (f : Function) (b : Block) where
    pub instruction_stands : (before number : ℕ) (i : Instruction) → AllHold (instruction_demands m f b before number i) → AreGood (known_of_operation i.operation) → AllStand (known_of_operation i.operation)
    instruction_stands before number i h g =
        let o = i.operation in
        let uses = definedness_demands f (InstructionOf number f.name) (operation_uses (flow_of f) (record { block = b.name; before = before }) o) in
        let later = rest_holds uses _ h.1.1.1.1 in
        let fit = and_parts (operands_fit m.structs (operands o)) (callee_fits m.structs (callee o)) later.1.1.1.1.1.1.1.0 in
        let suit = and_parts (operands_suit m.structs (operands o)) (callee_types_suit m.structs (callee o) && (result_suits m.structs (result_type m.structs o) && other_types_suit m.structs o)) h.1.0 in
        let called = and_parts (callee_types_suit m.structs (callee o)) (result_suits m.structs (result_type m.structs o) && other_types_suit m.structs o) suit.1 in
        both_stand (known_of_operands (operands o)) (option_map_or (known_in ptr) (callee o) [])
        (operands_stand (operands o) suit.0 fit.0 (front_all (is_good_constant m) (known_of_operands (operands o)) (option_map_or (known_in ptr) (callee o) []) g))
        (callee_stands (callee o) called.0 fit.1 (back_all (is_good_constant m) (known_of_operands (operands o)) (option_map_or (known_in ptr) (callee o) []) g))

    pub ending_stands : (number : ℕ) → AllHold (ending_demands m f b number) → AreGood (known_of_operands (ending_operands b.ending)) → AllStand (known_of_operands (ending_operands b.ending))
    ending_stands number h g =
        let os = ending_operands b.ending in
        let uses = definedness_demands f (InstructionOf number f.name) (operand_uses (record { block = b.name; before = length b.instructions }) os) in
        let later = rest_holds uses _ h.1.1 in
        operands_stand os h.1.0 later.1.1.0 g

    instructions_stand : (before number : ℕ) (is : List Instruction) → AllHold (instructions_demands m f b before number is) → AreGood (flat_map (λ i. known_of_operation i.operation) is) → AllStand (flat_map (λ i. known_of_operation i.operation) is)
    instructions_stand before number [] h g = tt
    instructions_stand before number (i ∷ is) h g =
        let first = known_of_operation i.operation in
        let others = flat_map (λ (j : Instruction). known_of_operation j.operation) is in
        both_stand first others
        (instruction_stands before number i (front_holds (instruction_demands m f b before number i) (instructions_demands m f b (before + 1) (number + 1) is) h) (front_all (is_good_constant m) first others g))
        (instructions_stand (before + 1) (number + 1) is (rest_holds (instruction_demands m f b before number i) (instructions_demands m f b (before + 1) (number + 1) is) h) (back_all (is_good_constant m) first others g))

    block_stands : (number : ℕ) → AllHold (instructions_demands m f b 0 number b.instructions) → AreGood (known_of_block b) → AllStand (known_of_block b)
    block_stands number h g =
        let first = flat_map (λ (j : Instruction). known_of_operation j.operation) b.instructions in
        let others = known_of_operands (ending_operands b.ending) in
        both_stand first others
        (instructions_stand 0 number b.instructions h (front_all (is_good_constant m) first others g))
        (ending_stands (number + length b.instructions) (valid_ending m f b 0 number b.instructions h) (back_all (is_good_constant m) first others g))

  blocks_stand : (f : Function) (number : ℕ) (bs : List Block) → AllHold (blocks_demands m f number bs) → AreGood (flat_map known_of_block bs) → AllStand (flat_map known_of_block bs)
  blocks_stand f number [] h g = tt
  blocks_stand f number (b ∷ bs) h g =
      let first = instructions_demands m f b 0 number b.instructions in
      let others = blocks_demands m f (number + length b.instructions + 1) bs in
      both_stand (known_of_block b) (flat_map known_of_block bs)
      (block_stands f b number (front_holds first others h) (front_all (is_good_constant m) (known_of_block b) (flat_map known_of_block bs) g))
      (blocks_stand f (number + length b.instructions + 1) bs (rest_holds first others h) (back_all (is_good_constant m) (known_of_block b) (flat_map known_of_block bs) g))

  functions_stand : (fs : List Function) → AllHold (flat_map (function_demands m) fs) → AreGood (flat_map (λ f. flat_map known_of_block (blocks f)) fs) → AllStand (flat_map (λ f. flat_map known_of_block (blocks f)) fs)
  functions_stand [] h g = tt
  functions_stand (f ∷ fs) h g =
      let first = flat_map known_of_block (blocks f) in
      let others = flat_map (λ (f : Function). flat_map known_of_block (blocks f)) fs in
      both_stand first others
      (blocks_stand f 0 (blocks f) (valid_blocks m f (front_holds (function_demands m f) (flat_map (function_demands m) fs) h)).1 (front_all (is_good_constant m) first others g))
      (functions_stand fs (rest_holds (function_demands m f) (flat_map (function_demands m) fs) h) (back_all (is_good_constant m) first others g))

  -- an initialiser
  pub initialiser_stands : (t : Tree) (o : Option Constant) → variable_type_suits m.structs t o ≡ true → option_map_or (fits m.structs t) o true ≡ true → AreGood (map (λ c. (t, c)) (option_to_list o)) → AllStand (map (λ c. (t, c)) (option_to_list o))
  initialiser_stands t None s f g = tt
  initialiser_stands t (Some c) s f g = (one_stands t c f (and_parts (is_good_constant m (t, c)) true g).0 (and_parts (lies_in_memory m.structs t) (constant_types_suit m.structs t c) s).1, tt)

  variables_stand : (vs : List Variable) → AllHold (flat_map (variable_demands m) vs) → AreGood (flat_map known_of_variable vs) → AllStand (flat_map known_of_variable vs)
  variables_stand [] h g = tt
  variables_stand (v ∷ vs) h g =
      let here = front_holds (variable_demands m v) (flat_map (variable_demands m) vs) h in
      both_stand (known_of_variable v) (flat_map known_of_variable vs)
      (initialiser_stands v.ty v.initialiser here.1.1.1.1.0 here.1.1.1.1.1.1.0 (front_all (is_good_constant m) (known_of_variable v) (flat_map known_of_variable vs) g))
      (variables_stand vs (rest_holds (variable_demands m v) (flat_map (variable_demands m) vs) h) (back_all (is_good_constant m) (known_of_variable v) (flat_map known_of_variable vs) g))

pub constants_can_stand : ConstantsCanStand
constants_can_stand m well_formed valid =
    let of_variables = flat_map (variable_demands m) m.variables in
    let of_aliases = flat_map (alias_demands m) m.aliases in
    let of_functions = flat_map (function_demands m) m.functions in
    let demands = rest_holds (module_demands m) (of_variables ++ (of_aliases ++ of_functions)) valid in
    let first = flat_map known_of_variable m.variables in
    let others = flat_map (λ (f : Function). flat_map known_of_block (blocks f)) m.functions in
    both_stand m first others
    (variables_stand m m.variables (front_holds of_variables (of_aliases ++ of_functions) demands) (front_all (is_good_constant m) first others well_formed.constants))
    (functions_stand m m.functions (rest_holds of_aliases of_functions (rest_holds of_variables (of_aliases ++ of_functions) demands)) (back_all (is_good_constant m) first others well_formed.constants))
