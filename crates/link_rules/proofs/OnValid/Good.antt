-- What a well formed module is asked for holds of types, constants and functions under new names.
use Rattle.std.proofs.Common.{◌≡◌, ◌+◌, Bool, true, false, ◌&&◌, ◌||◌, List, [], ◌∷◌, ◌++◌, map, max, Option, Some, None, refl, sym, ap, ap₂, ◌∙◌, subst, flat_map, option_map, is_some}
use Rattle.std.specs.Prelude.{nat_le}
use Rattle.std.specs.Option.{option_map_or}
use Rattle.std.specs.List.{list_all}
use Rattle.std.proofs.lemmas.Bool.{and_from, and_parts}
use Rattle.std.proofs.lemmas.List.{map-append}
use Rattle.type_table.specs.Tree.{Tree, int, ptr, void, array, struct, named, Trees, no_trees, more_trees, Structs}
use Rattle.type_table.specs.Shape.{shape}
use Rattle.module_arena.specs.Module.{Bytes, Constant, Constants, Value, Operand, Operation, Instruction, Block, Parameter, Function, Module}
use Rattle.module_arena.specs.Module.Constant.{Integer, Truth, Null, Undef, Poison, ZeroInitializer, Address, ByteString, Aggregate, ElementAddress, Cast, Binary}
use Rattle.module_arena.specs.Module.Constants.{no_constants, more_constants}
use Rattle.module_arena.specs.Module.Value.{Local, Known}
use Rattle.module_arena.specs.Module.Operation.{BinaryOperation, Compare, Convert, Select, Freeze, Phi, Load, Store, Alloca, GetElementPtr, Call, ExtractValue, InsertValue}
use Rattle.module_arena.specs.Renamed.{renamed_tree, renamed_trees, renamed_parameter, renamed_constant, renamed_constants, renamed_value, renamed_operand, renamed_incoming, renamed_operation, renamed_instruction, renamed_block}
use Rattle.module_arena.specs.Constants.{Typed, constants_in}
use Rattle.module_arena.specs.Operations.{operands, ending_operands, callee}
use Rattle.module_arena.specs.Functions.{blocks}
use Rattle.module_arena.specs.EntryRules.{is_only_called}
use Rattle.module_arena.specs.Forms.{are_flags_of, is_not_empty, is_operation_of_phrase, has_result_of_phrase, is_instruction_of_phrase, has_constants, is_constant_of_phrase}
use Rattle.module_arena.specs.Names.{has_good_names}
use Rattle.module_arena.specs.WellFormed.{is_within_limits, is_good_type, are_good_types, types_of_operation, known_in, known_of_operands, known_of_operation, known_of_block, is_in_range, type_in_constant, has_entry, names_an_entry, is_good_part, depth, greatest_depth, is_good_constant, are_good_operands, is_good_block, is_good_function}
use Rattle.link_rules.proofs.OnValid.Lists.{all_tested}
use Rattle.link_rules.proofs.OnValid.Types.{has_struct, KeepsStructs, void_same, shape_same}
use Rattle.link_rules.proofs.OnValid.Constants.{renamed_typed, within_renamed}
use Rattle.link_rules.proofs.OnValid.Operations.{operands_renamed, callee_renamed, ending_renamed, types_renamed, IsRenamed, blocks_renamed}
use Rattle.link_rules.proofs.OnValid.Known.{type_known, AllGood}
use Rattle.link_rules.proofs.OnValid.GoodNames.{good_names_same}
use Rattle.ir_tables.specs.declared.opcode.Opcode.TheVariants as op
use Rattle.linkage_rules.proofs.Entries.{all_follow}
use Rattle.linkage_rules.proofs.Gathered.{all_mapped}
use Rattle.link_rules.proofs.Parts.{all_true}

-- what is written in one module may be written in the other, under new names: structs and entries are there, and what is no
-- intrinsic is none
pub record Renames (old new : Module) (names globals : Bytes → Bytes) : Type 0 where
  pub structs : KeepsStructs old.structs new.structs names
  pub struct_there : (name : Bytes) → has_struct old.structs name ≡ true → has_struct new.structs (names name) ≡ true
  pub entries : (name : Bytes) → has_entry old name ≡ true → has_entry new (globals name) ≡ true
  pub callees : (name : Bytes) → has_entry old name ≡ true → is_only_called old name ≡ false → is_only_called new (globals name) ≡ false

-- LIMITS OF TYPES

module _ (old new : Structs) (names : Bytes → Bytes) (keeps : KeepsStructs old new names) (there : (name : Bytes) → has_struct old name ≡ true → has_struct new (names name) ≡ true) where
  mutual
    pub type_good : (t : Tree) → is_good_type old t ≡ true → is_good_type new (renamed_tree names t) ≡ true
    type_good (int w) h = h
    type_good ptr h = refl
    type_good void h = refl
    type_good (array n t) h =
        let both = and_parts (is_good_type old t) _ h in
        and_from _ _ (type_good t both.0) (ap is_within_limits (shape_same old new names keeps (array n t) (type_known old t both.0)) ∙ both.1)
    type_good (struct packed ts) h =
        let both = and_parts (are_good_types old ts) _ h in
        and_from _ _ (types_good ts both.0) (ap is_within_limits (shape_same old new names keeps (struct packed ts) (type_known old (struct packed ts) h)) ∙ both.1)
    type_good (named name) h =
        let both = and_parts (has_struct old name) _ h in
        and_from _ _ (there name both.0) (ap is_within_limits (shape_same old new names keeps (named name) both.0) ∙ both.1)

    pub types_good : (ts : Trees) → are_good_types old ts ≡ true → are_good_types new (renamed_trees names ts) ≡ true
    types_good no_trees h = refl
    types_good (more_trees t ts) h =
        let both = and_parts (is_good_type old t) (are_good_types old ts) h in
        and_from _ _ (type_good t both.0) (types_good ts both.1)

  pub all_types_good : (ts : List Tree) → list_all (is_good_type old) ts ≡ true → list_all (is_good_type new) (map (renamed_tree names) ts) ≡ true
  all_types_good [] h = refl
  all_types_good (t ∷ ts) h =
      let both = and_parts (is_good_type old t) _ h in
      and_from _ _ (type_good t both.0) (all_types_good ts both.1)

-- FORMS

module _ (names globals : Bytes → Bytes) where
  has_constants_same : (cs : Constants) → has_constants (renamed_constants names globals cs) ≡ has_constants cs
  has_constants_same no_constants = refl
  has_constants_same (more_constants t c cs) = refl

  phrase_same : (c : Constant) → is_constant_of_phrase (renamed_constant names globals c) ≡ is_constant_of_phrase c
  phrase_same (Integer n) = refl
  phrase_same (Truth truth) = refl
  phrase_same Null = refl
  phrase_same Undef = refl
  phrase_same Poison = refl
  phrase_same ZeroInitializer = refl
  phrase_same (Address name) = refl
  phrase_same (ByteString bytes) = refl
  phrase_same (Aggregate shape elements) = refl
  phrase_same (ElementAddress flags source operands) = ap (λ b. are_flags_of op.GetElementPtr flags && b) (has_constants_same operands)
  phrase_same (Cast opcode from value to) = refl
  phrase_same (Binary opcode flags a left b right) = refl

  range_same : (t : Tree) (c : Constant) → is_in_range (renamed_tree names t) (renamed_constant names globals c) ≡ is_in_range t c
  range_same (int w) (Truth truth) = refl
  range_same ptr (Truth truth) = refl
  range_same void (Truth truth) = refl
  range_same (array k t) (Truth truth) = refl
  range_same (struct packed ts) (Truth truth) = refl
  range_same (named name) (Truth truth) = refl
  range_same _ _ = refl

  inner_types : (c : Constant) → type_in_constant (renamed_constant names globals c) ≡ map (renamed_tree names) (type_in_constant c)
  inner_types (Integer n) = refl
  inner_types (Truth truth) = refl
  inner_types Null = refl
  inner_types Undef = refl
  inner_types Poison = refl
  inner_types ZeroInitializer = refl
  inner_types (Address name) = refl
  inner_types (ByteString bytes) = refl
  inner_types (Aggregate shape elements) = refl
  inner_types (ElementAddress flags source operands) = refl
  inner_types (Cast opcode from value to) = refl
  inner_types (Binary opcode flags a left b right) = refl

  mutual
    pub depth_same : (c : Constant) → depth (renamed_constant names globals c) ≡ depth c
    depth_same (Integer n) = refl
    depth_same (Truth truth) = refl
    depth_same Null = refl
    depth_same Undef = refl
    depth_same Poison = refl
    depth_same ZeroInitializer = refl
    depth_same (Address name) = refl
    depth_same (ByteString bytes) = refl
    depth_same (Aggregate shape elements) = ap (λ d. d + 1) (depths_same elements)
    depth_same (ElementAddress flags source operands) = ap (λ d. d + 1) (depths_same operands)
    depth_same (Cast opcode from value to) = ap (λ d. d + 1) (depth_same value)
    depth_same (Binary opcode flags a left b right) = ap₂ (λ d e. max d e + 1) (depth_same left) (depth_same right)

    pub depths_same : (cs : Constants) → greatest_depth (renamed_constants names globals cs) ≡ greatest_depth cs
    depths_same no_constants = refl
    depths_same (more_constants t c cs) = ap₂ max (depth_same c) (depths_same cs)

  not_empty_same : {A B : Type 0} (f : A → B) (xs : List A) → is_not_empty (map f xs) ≡ is_not_empty xs
  not_empty_same f [] = refl
  not_empty_same f (x ∷ xs) = refl

  operation_phrase_same : (o : Operation) → is_operation_of_phrase (renamed_operation names globals o) ≡ is_operation_of_phrase o
  operation_phrase_same (BinaryOperation opcode flags left right) = refl
  operation_phrase_same (Compare flags predicate left right) = refl
  operation_phrase_same (Convert opcode flags value to) = refl
  operation_phrase_same (Select condition first second) = refl
  operation_phrase_same (Freeze value) = refl
  operation_phrase_same (Phi ty incoming) = not_empty_same (renamed_incoming names globals) incoming
  operation_phrase_same (Load flags ty address alignment) = refl
  operation_phrase_same (Store flags value address alignment) = refl
  operation_phrase_same (Alloca ty count alignment) = refl
  operation_phrase_same (GetElementPtr flags source base indices) = refl
  operation_phrase_same (Call signature value arguments) = refl
  operation_phrase_same (ExtractValue aggregate indices) = refl
  operation_phrase_same (InsertValue aggregate part indices) = refl

  result_phrase_same : (o : Operation) (b : Bool) → has_result_of_phrase (renamed_operation names globals o) b ≡ has_result_of_phrase o b
  result_phrase_same (BinaryOperation opcode flags left right) b = refl
  result_phrase_same (Compare flags predicate left right) b = refl
  result_phrase_same (Convert opcode flags value to) b = refl
  result_phrase_same (Select condition first second) b = refl
  result_phrase_same (Freeze value) b = refl
  result_phrase_same (Phi ty incoming) b = refl
  result_phrase_same (Load flags ty address alignment) b = refl
  result_phrase_same (Store flags value address alignment) b = refl
  result_phrase_same (Alloca ty count alignment) b = refl
  result_phrase_same (GetElementPtr flags source base indices) b = refl
  result_phrase_same (Call signature value arguments) b = ap (λ c. b || c) (void_same names signature.returns)
  result_phrase_same (ExtractValue aggregate indices) b = refl
  result_phrase_same (InsertValue aggregate part indices) b = refl

  pub instruction_phrase_same : (i : Instruction) → is_instruction_of_phrase (renamed_instruction names globals i) ≡ is_instruction_of_phrase i
  instruction_phrase_same i = ap₂ (λ a b. a && b) (operation_phrase_same i.operation) (result_phrase_same i.operation (is_some i.result))

  -- CONSTANTS OF BODIES

  known_in_renamed : (t : Tree) (v : Value) → known_in (renamed_tree names t) (renamed_value names globals v) ≡ map (renamed_typed names globals) (known_in t v)
  known_in_renamed t (Local name) = refl
  known_in_renamed t (Known c) = refl

  known_of_operands_renamed : (os : List Operand) → known_of_operands (map (renamed_operand names globals) os) ≡ map (renamed_typed names globals) (known_of_operands os)
  known_of_operands_renamed [] = refl
  known_of_operands_renamed (o ∷ os) =
      ap₂ (λ x y. x ++ y) (known_in_renamed o.ty o.value) (known_of_operands_renamed os) ∙ sym (map-append (renamed_typed names globals) (known_in o.ty o.value) (known_of_operands os))

  known_of_callee : (c : Option Value) → option_map_or (known_in ptr) (option_map (renamed_value names globals) c) [] ≡ map (renamed_typed names globals) (option_map_or (known_in ptr) c [])
  known_of_callee None = refl
  known_of_callee (Some v) = known_in_renamed ptr v

  known_of_operation_renamed : (o : Operation) → known_of_operation (renamed_operation names globals o) ≡ map (renamed_typed names globals) (known_of_operation o)
  known_of_operation_renamed o =
      ap₂ (λ x y. x ++ y) (ap known_of_operands (operands_renamed names globals o) ∙ known_of_operands_renamed (operands o))
      (ap (λ c. option_map_or (known_in ptr) c []) (callee_renamed names globals o) ∙ known_of_callee (callee o))
      ∙ sym (map-append (renamed_typed names globals) (known_of_operands (operands o)) (option_map_or (known_in ptr) (callee o) []))

  known_of_instructions : (xs : List Instruction) → flat_map (λ (i : Instruction). known_of_operation i.operation) (map (renamed_instruction names globals) xs) ≡ map (renamed_typed names globals) (flat_map (λ (i : Instruction). known_of_operation i.operation) xs)
  known_of_instructions [] = refl
  known_of_instructions (i ∷ xs) =
      ap₂ (λ x y. x ++ y) (known_of_operation_renamed i.operation) (known_of_instructions xs)
      ∙ sym (map-append (renamed_typed names globals) (known_of_operation i.operation) (flat_map (λ (i : Instruction). known_of_operation i.operation) xs))

  known_of_block_renamed : (b : Block) → known_of_block (renamed_block names globals b) ≡ map (renamed_typed names globals) (known_of_block b)
  known_of_block_renamed b =
      ap₂ (λ x y. x ++ y) (known_of_instructions b.instructions) (ap known_of_operands (ending_renamed names globals b.ending) ∙ known_of_operands_renamed (ending_operands b.ending))
      ∙ sym (map-append (renamed_typed names globals) (flat_map (λ (i : Instruction). known_of_operation i.operation) b.instructions) (known_of_operands (ending_operands b.ending)))

  pub known_of_blocks_renamed : (bs : List Block) → flat_map known_of_block (map (renamed_block names globals) bs) ≡ map (renamed_typed names globals) (flat_map known_of_block bs)
  known_of_blocks_renamed [] = refl
  known_of_blocks_renamed (b ∷ bs) =
      ap₂ (λ x y. x ++ y) (known_of_block_renamed b) (known_of_blocks_renamed bs) ∙ sym (map-append (renamed_typed names globals) (known_of_block b) (flat_map known_of_block bs))

-- FROM ONE MODULE TO ANOTHER

module _ (m n : Module) (names globals : Bytes → Bytes) (renames : Renames m n names globals) where
  pub good_type_kept : (t : Tree) → is_good_type m.structs t ≡ true → is_good_type n.structs (renamed_tree names t) ≡ true
  good_type_kept t h = type_good m.structs n.structs names renames.structs renames.struct_there t h

  pub good_types_kept : (ts : List Tree) → list_all (is_good_type m.structs) ts ≡ true → list_all (is_good_type n.structs) (map (renamed_tree names) ts) ≡ true
  good_types_kept ts h = all_types_good m.structs n.structs names renames.structs renames.struct_there ts h

  names_entry_kept : (c : Constant) → names_an_entry m c ≡ true → names_an_entry n (renamed_constant names globals c) ≡ true
  names_entry_kept (Address name) h = renames.entries name h
  names_entry_kept (Integer k) h = refl
  names_entry_kept (Truth truth) h = refl
  names_entry_kept Null h = refl
  names_entry_kept Undef h = refl
  names_entry_kept Poison h = refl
  names_entry_kept ZeroInitializer h = refl
  names_entry_kept (ByteString bytes) h = refl
  names_entry_kept (Aggregate b elements) h = refl
  names_entry_kept (ElementAddress flags source cs) h = refl
  names_entry_kept (Cast opcode from value to) h = refl
  names_entry_kept (Binary opcode flags a left b right) h = refl

  pub part_good : (x : Typed) → is_good_part m x ≡ true → is_good_part n (renamed_typed names globals x) ≡ true
  part_good (t, c) h =
      let one = and_parts (is_good_type m.structs t) _ h in
      let two = and_parts (list_all (is_good_type m.structs) (type_in_constant c)) _ one.1 in
      let three = and_parts (is_in_range t c) _ two.1 in
      let four = and_parts (is_constant_of_phrase c) (names_an_entry m c) three.1 in
      and_from _ _ (good_type_kept t one.0)
      (and_from _ _ (ap (list_all (is_good_type n.structs)) (inner_types names globals c) ∙ good_types_kept (type_in_constant c) two.0)
      (and_from _ _ (range_same names globals t c ∙ three.0)
      (and_from _ _ (phrase_same names globals c ∙ four.0) (names_entry_kept c four.1))))

  pub constant_good : (x : Typed) → is_good_constant m x ≡ true → is_good_constant n (renamed_typed names globals x) ≡ true
  constant_good (t, c) h =
      let both = and_parts (nat_le (depth c) 64) _ h in
      and_from _ _ (ap (λ d. nat_le d 64) (depth_same names globals c) ∙ both.0)
      (ap (list_all (is_good_part n)) (within_renamed names globals t c)
      ∙ all_tested (is_good_part n) (map (renamed_typed names globals) (constants_in t c))
      (all_mapped (λ x. is_good_part n x ≡ true) (renamed_typed names globals) (constants_in t c) (all_follow _ _ (constants_in t c) part_good (all_true (is_good_part m) (constants_in t c) both.1))))

  pub constants_good : (xs : List Typed) → AllGood m xs → AllGood n (map (renamed_typed names globals) xs)
  constants_good xs a = all_mapped (λ x. is_good_constant n x ≡ true) (renamed_typed names globals) xs (all_follow _ _ xs constant_good a)

  operands_good : (os : List Operand) → are_good_operands m os ≡ true → are_good_operands n (map (renamed_operand names globals) os) ≡ true
  operands_good [] h = refl
  operands_good (o ∷ os) h =
      let both = and_parts (is_good_type m.structs o.ty) _ h in
      and_from _ _ (good_type_kept o.ty both.0) (operands_good os both.1)

  instructions_good : (xs : List Instruction) → list_all (λ i. is_instruction_of_phrase i && (are_good_operands m (operands i.operation) && list_all (is_good_type m.structs) (types_of_operation i.operation))) xs ≡ true → list_all (λ i. is_instruction_of_phrase i && (are_good_operands n (operands i.operation) && list_all (is_good_type n.structs) (types_of_operation i.operation))) (map (renamed_instruction names globals) xs) ≡ true
  instructions_good [] h = refl
  instructions_good (i ∷ xs) h =
      let here = and_parts (is_instruction_of_phrase i && (are_good_operands m (operands i.operation) && list_all (is_good_type m.structs) (types_of_operation i.operation))) _ h in
      let one = and_parts (is_instruction_of_phrase i) _ here.0 in
      let two = and_parts (are_good_operands m (operands i.operation)) _ one.1 in
      and_from _ _
      (and_from _ _ (instruction_phrase_same names globals i ∙ one.0)
      (and_from _ _ (ap (are_good_operands n) (operands_renamed names globals i.operation) ∙ operands_good (operands i.operation) two.0)
      (ap (list_all (is_good_type n.structs)) (types_renamed names globals i.operation) ∙ good_types_kept (types_of_operation i.operation) two.1)))
      (instructions_good xs here.1)

  block_good : (b : Block) → is_good_block m b ≡ true → is_good_block n (renamed_block names globals b) ≡ true
  block_good b h =
      let both = and_parts (list_all (λ i. is_instruction_of_phrase i && (are_good_operands m (operands i.operation) && list_all (is_good_type m.structs) (types_of_operation i.operation))) b.instructions) _ h in
      and_from _ _ (instructions_good b.instructions both.0) (ap (are_good_operands n) (ending_renamed names globals b.ending) ∙ operands_good (ending_operands b.ending) both.1)

  blocks_good : (bs : List Block) → list_all (is_good_block m) bs ≡ true → list_all (is_good_block n) (map (renamed_block names globals) bs) ≡ true
  blocks_good [] h = refl
  blocks_good (b ∷ bs) h =
      let both = and_parts (is_good_block m b) _ h in
      and_from _ _ (block_good b both.0) (blocks_good bs both.1)

  pub parameters_good : (ps : List Parameter) → list_all (λ p. is_good_type m.structs p.ty) ps ≡ true → list_all (λ p. is_good_type n.structs p.ty) (map (renamed_parameter names) ps) ≡ true
  parameters_good [] h = refl
  parameters_good (p ∷ ps) h =
      let both = and_parts (is_good_type m.structs p.ty) _ h in
      and_from _ _ (good_type_kept p.ty both.0) (parameters_good ps both.1)

  body_not_empty : (b : Option (List Block)) → option_map_or is_not_empty (option_map (map (renamed_block names globals)) b) true ≡ option_map_or is_not_empty b true
  body_not_empty None = refl
  body_not_empty (Some bs) = not_empty_same names globals (renamed_block names globals) bs

  -- a function under new names is as good
  pub function_good : (f g : Function) → IsRenamed names globals f g → is_good_function m f ≡ true → is_good_function n g ≡ true
  function_good f g is h =
      let one = and_parts (is_good_type m.structs f.returns) _ h in
      let two = and_parts (list_all (λ p. is_good_type m.structs p.ty) f.parameters) _ one.1 in
      let three = and_parts (option_map_or is_not_empty f.body true) _ two.1 in
      let four = and_parts (has_good_names f) _ three.1 in
      and_from _ _ (ap (is_good_type n.structs) is.returns ∙ good_type_kept f.returns one.0)
      (and_from _ _ (ap (list_all (λ (p : Parameter). is_good_type n.structs p.ty)) is.parameters ∙ parameters_good f.parameters two.0)
      (and_from _ _ (ap (λ b. option_map_or is_not_empty b true) is.body ∙ body_not_empty f.body ∙ three.0)
      (and_from _ _ (good_names_same names globals f g is ∙ four.0) (ap (list_all (is_good_block n)) (blocks_renamed names globals f g is) ∙ blocks_good (blocks f) four.1))))

  -- and so are its constants
  pub body_constants_good : (f g : Function) → IsRenamed names globals f g → AllGood m (flat_map known_of_block (blocks f)) → AllGood n (flat_map known_of_block (blocks g))
  body_constants_good f g is a =
      subst (AllGood n) (sym (ap (flat_map known_of_block) (blocks_renamed names globals f g is) ∙ known_of_blocks_renamed names globals (blocks f))) (constants_good (flat_map known_of_block (blocks f)) a)
