-- Each type that a well-formed module writes is a good one.
use Rattle.std.proofs.Common.{◌≡◌, ℕ, Bool, true, ◌&&◌, List, [], ◌∷◌, ◌++◌, map, flat_map, Option, Some, None, refl}
use Rattle.std.specs.Prelude.{nat_le}
use Rattle.std.specs.List.{list_all, AllByRecursion}
use Rattle.std.specs.Option.{option_map_or, option_to_list}
use Rattle.std.proofs.lemmas.Bool.{and_parts, and_from}
use Rattle.type_table.specs.Tree.{Tree, ptr, Trees, no_trees, more_trees, TreeBody, opaque_body, fields, named, Structs}
use Rattle.module_arena.specs.Module.{Constant, Integer, Truth, Null, Undef, Poison, ZeroInitializer, Address, ByteString, Aggregate, ElementAddress, Cast, Binary, Constants, no_constants, more_constants, Value, Local, Known, Operand, Incoming, Operation, BinaryOperation, Compare, Convert, Select, Freeze, Phi, Load, Store, Alloca, GetElementPtr, Call, ExtractValue, InsertValue, Instruction, Case, Ending, ReturnVoid, Return, Jump, Branch, Switch, Unreachable, Block, Variable, AliasType, PlainType, FunctionType, Alias, Function, Module}
use Rattle.module_arena.specs.Constants.{Typed, constants_in, constants_of}
use Rattle.module_arena.specs.Forms.{is_constant_of_phrase, is_instruction_of_phrase, is_not_empty}
use Rattle.module_arena.specs.Functions.{blocks, body}
use Rattle.module_arena.specs.Names.{has_good_names}
use Rattle.module_arena.specs.Operations.{operands, ending_operands, callee, incoming_operand, case_operand}
use Rattle.module_arena.specs.WellFormed.{IsWellFormed, is_good_type, are_good_types, is_good_body, types_of_operation, type_in_constant, is_in_range, names_an_entry, is_good_part, depth, is_good_constant, known_in, known_of_operands, known_of_operation, known_of_block, known_of_variable, are_good_operands, is_good_block, is_good_function, is_good_variable, is_good_alias, types_of_alias, has_entry}
use Rattle.record_table.specs.Mentions.{in_constant, in_constants, in_value, in_operand, in_incoming, in_some, in_operation, in_case, in_ending, in_block, tree_list, in_struct, in_variable, in_function, in_alias_type, written_types}
use Rattle.record_law.proofs.OnTypes.Tests.{all_front, all_rest, all_both, all_mapped}

module _ (m : Module) where
  abbrev good : Tree → Bool
  good t = is_good_type m.structs t

  abbrev pub AreGood : List Tree → Type 0
  AreGood ts = list_all (is_good_type m.structs) ts ≡ true

  -- ---- constants
  part_good : (t : Tree) (c : Constant) (others : List Typed) → list_all (is_good_part m) ((t, c) ∷ others) ≡ true
      → (is_good_type m.structs t ≡ true) × AreGood (type_in_constant c) × (list_all (is_good_part m) others ≡ true)
  part_good t c others e =
      let p = and_parts (is_good_part m (t, c)) (list_all (is_good_part m) others) e in
      let q = and_parts (is_good_type m.structs t) (list_all (is_good_type m.structs) (type_in_constant c) && (is_in_range t c && (is_constant_of_phrase c && names_an_entry m c))) p.0 in
      (q.0, (and_parts (list_all (is_good_type m.structs) (type_in_constant c)) (is_in_range t c && (is_constant_of_phrase c && names_an_entry m c)) q.1).0, p.1)

  mutual
    pub constant_good : (t : Tree) (c : Constant) → list_all (is_good_part m) (constants_in t c) ≡ true → (is_good_type m.structs t ≡ true) × AreGood (in_constant c)
    constant_good t (Integer n) e = ((part_good t (Integer n) [] e).0, refl)
    constant_good t (Truth b) e = ((part_good t (Truth b) [] e).0, refl)
    constant_good t Null e = ((part_good t Null [] e).0, refl)
    constant_good t Undef e = ((part_good t Undef [] e).0, refl)
    constant_good t Poison e = ((part_good t Poison [] e).0, refl)
    constant_good t ZeroInitializer e = ((part_good t ZeroInitializer [] e).0, refl)
    constant_good t (Address g) e = ((part_good t (Address g) [] e).0, refl)
    constant_good t (ByteString bytes) e = ((part_good t (ByteString bytes) [] e).0, refl)
    constant_good t (Aggregate round cs) e = let p = part_good t (Aggregate round cs) (constants_of cs) e in (p.0, constants_good cs p.2)
    constant_good t (ElementAddress f s cs) e =
        let p = part_good t (ElementAddress f s cs) (constants_of cs) e in
        (p.0, all_both (is_good_type m.structs) (s ∷ []) (in_constants cs) p.1 (constants_good cs p.2))
    constant_good t (Cast o from c to) e =
        let p = part_good t (Cast o from c to) (constants_in from c) e in
        let q = constant_good from c p.2 in
        (p.0, all_both (is_good_type m.structs) (from ∷ in_constant c) (to ∷ []) (and_from (good from) (list_all (is_good_type m.structs) (in_constant c)) q.0 q.1) p.1)
    constant_good t (Binary o f s a u b) e =
        let p = part_good t (Binary o f s a u b) (constants_in s a ++ constants_in u b) e in
        let q = constant_good s a (all_front (is_good_part m) (constants_in s a) (constants_in u b) p.2) in
        let r = constant_good u b (all_rest (is_good_part m) (constants_in s a) (constants_in u b) p.2) in (
          p.0,
          all_both (is_good_type m.structs) (s ∷ in_constant a) (u ∷ in_constant b)
              (and_from (good s) (list_all (is_good_type m.structs) (in_constant a)) q.0 q.1) (and_from (good u) (list_all (is_good_type m.structs) (in_constant b)) r.0 r.1),
        )

    pub constants_good : (cs : Constants) → list_all (is_good_part m) (constants_of cs) ≡ true → AreGood (in_constants cs)
    constants_good no_constants e = refl
    constants_good (more_constants t c cs) e =
        let q = constant_good t c (all_front (is_good_part m) (constants_in t c) (constants_of cs) e) in
        all_both (is_good_type m.structs) (t ∷ in_constant c) (in_constants cs) (and_from (good t) (list_all (is_good_type m.structs) (in_constant c)) q.0 q.1)
        (constants_good cs (all_rest (is_good_part m) (constants_in t c) (constants_of cs) e))

  -- a constant that is written anywhere
  known_good : (t : Tree) (c : Constant) → is_good_constant m (t, c) ≡ true → AreGood (in_constant c)
  known_good t c e = (constant_good t c (and_parts (nat_le (depth c) 64) (list_all (is_good_part m) (constants_in t c)) e).1).1

  -- ---- values
  value_good : (t : Tree) (v : Value) → list_all (is_good_constant m) (known_in t v) ≡ true → AreGood (in_value v)
  value_good t (Local name) e = refl
  value_good t (Known c) e = known_good t c (and_parts (is_good_constant m (t, c)) true e).0

  -- a good type, and those in the value
  record IsGoodOperand (o : Operand) : Type 0 where
    pub ty : is_good_type m.structs o.ty ≡ true
    pub inside : AreGood (in_value o.value)

  whole : (o : Operand) → IsGoodOperand o → AreGood (in_operand o)
  whole o g = and_from (good o.ty) (list_all (is_good_type m.structs) (in_value o.value)) g.ty g.inside

  wholes : (os : List Operand) → AllByRecursion IsGoodOperand os → AreGood (flat_map in_operand os)
  wholes [] g = refl
  wholes (o ∷ os) g = all_both (is_good_type m.structs) (in_operand o) (flat_map in_operand os) (whole o g.0) (wholes os g.1)

  operands_good : (os : List Operand) → are_good_operands m os ≡ true → list_all (is_good_constant m) (known_of_operands os) ≡ true → AllByRecursion IsGoodOperand os
  operands_good [] e g = tt
  operands_good (o ∷ os) e g =
      let p = and_parts (is_good_type m.structs o.ty) (are_good_operands m os) e in (
        record { ty = p.0; inside = value_good o.ty o.value (all_front (is_good_constant m) (known_in o.ty o.value) (known_of_operands os) g) },
        operands_good os p.1 (all_rest (is_good_constant m) (known_in o.ty o.value) (known_of_operands os) g),
      )

  incoming_good : (t : Tree) (is : List Incoming) → AllByRecursion IsGoodOperand (map (incoming_operand t) is) → AreGood (flat_map in_incoming is)
  incoming_good t [] g = refl
  incoming_good t (i ∷ is) g = all_both (is_good_type m.structs) (in_value i.value) (flat_map in_incoming is) g.0.inside (incoming_good t is g.1)

  cases_good : (cs : List Case) → AllByRecursion IsGoodOperand (map case_operand cs) → AreGood (flat_map in_case cs)
  cases_good [] g = refl
  cases_good (c ∷ cs) g = all_both (is_good_type m.structs) (in_case c) (flat_map in_case cs) (whole (case_operand c) g.0) (cases_good cs g.1)

  -- ---- lines
  operation_good : (o : Operation) → AllByRecursion IsGoodOperand (operands o) → AreGood (types_of_operation o) → list_all (is_good_constant m) (option_map_or (known_in ptr) (callee o) []) ≡ true → AreGood (in_operation o)
  operation_good (BinaryOperation o f a b) g types called = all_both (is_good_type m.structs) (in_operand a) (in_value b) (whole a g.0) g.1.0.inside
  operation_good (Compare f p a b) g types called = all_both (is_good_type m.structs) (in_operand a) (in_value b) (whole a g.0) g.1.0.inside
  operation_good (Convert o f a t) g types called = all_both (is_good_type m.structs) (in_operand a) (t ∷ []) (whole a g.0) types
  operation_good (Select c a b) g types called =
      all_both (is_good_type m.structs) (in_operand c ++ in_operand a) (in_operand b) (all_both (is_good_type m.structs) (in_operand c) (in_operand a) (whole c g.0) (whole a g.1.0)) (whole b g.1.1.0)
  operation_good (Freeze a) g types called = whole a g.0
  operation_good (Phi t incoming) g types called = all_both (is_good_type m.structs) (t ∷ []) (flat_map in_incoming incoming) types (incoming_good t incoming g)
  operation_good (Load f t a align) g types called = all_both (is_good_type m.structs) (t ∷ []) (in_operand a) types (whole a g.0)
  operation_good (Store f v a align) g types called = all_both (is_good_type m.structs) (in_operand v) (in_operand a) (whole v g.0) (whole a g.1.0)
  operation_good (Alloca t None align) g types called = types
  operation_good (Alloca t (Some count) align) g types called = all_both (is_good_type m.structs) (t ∷ []) (in_operand count) types (whole count g.0)
  operation_good (GetElementPtr f t base indices) g types called =
      all_both (is_good_type m.structs) (t ∷ in_operand base) (flat_map in_operand indices) (all_both (is_good_type m.structs) (t ∷ []) (in_operand base) types (whole base g.0)) (wholes indices g.1)
  operation_good (Call s v xs) g types called =
      all_both (is_good_type m.structs) ((s.returns ∷ s.parameters) ++ in_value v) (flat_map in_operand xs)
      (all_both (is_good_type m.structs) (s.returns ∷ s.parameters) (in_value v) types (value_good ptr v called)) (wholes xs g)
  operation_good (ExtractValue a indices) g types called = whole a g.0
  operation_good (InsertValue a part indices) g types called = all_both (is_good_type m.structs) (in_operand a) (in_operand part) (whole a g.0) (whole part g.1.0)

  ending_good : (e : Ending) → AllByRecursion IsGoodOperand (ending_operands e) → AreGood (in_ending e)
  ending_good ReturnVoid g = refl
  ending_good (Return v) g = whole v g.0
  ending_good (Jump b) g = refl
  ending_good (Branch c a b) g = whole c g.0
  ending_good (Switch v b cases) g = all_both (is_good_type m.structs) (in_operand v) (flat_map in_case cases) (whole v g.0) (cases_good cases g.1)
  ending_good Unreachable g = refl

  abbrev is_good_line : Instruction → Bool
  is_good_line i = is_instruction_of_phrase i && (are_good_operands m (operands i.operation) && list_all (is_good_type m.structs) (types_of_operation i.operation))

  lines_good : (is : List Instruction) → list_all is_good_line is ≡ true → list_all (is_good_constant m) (flat_map (λ i. known_of_operation i.operation) is) ≡ true → AreGood (flat_map (λ i. in_operation i.operation) is)
  lines_good [] form known = refl
  lines_good (i ∷ is) form known =
      let p = and_parts (is_good_line i) (list_all is_good_line is) form in
      let q = and_parts (is_instruction_of_phrase i) (are_good_operands m (operands i.operation) && list_all (is_good_type m.structs) (types_of_operation i.operation)) p.0 in
      let r = and_parts (are_good_operands m (operands i.operation)) (list_all (is_good_type m.structs) (types_of_operation i.operation)) q.1 in
      let others = flat_map (λ (i : Instruction). known_of_operation i.operation) is in
      let here = all_front (is_good_constant m) (known_of_operation i.operation) others known in
      let called = option_map_or (known_in ptr) (callee i.operation) [] in
      all_both (is_good_type m.structs) (in_operation i.operation) (flat_map (λ i. in_operation i.operation) is)
      (operation_good i.operation (operands_good (operands i.operation) r.0 (all_front (is_good_constant m) (known_of_operands (operands i.operation)) called here)) r.1
      (all_rest (is_good_constant m) (known_of_operands (operands i.operation)) called here))
      (lines_good is p.1 (all_rest (is_good_constant m) (known_of_operation i.operation) others known))

  block_good : (b : Block) → is_good_block m b ≡ true → list_all (is_good_constant m) (known_of_block b) ≡ true → AreGood (in_block b)
  block_good b form known =
      let p = and_parts (list_all is_good_line b.instructions) (are_good_operands m (ending_operands b.ending)) form in
      let inner = flat_map (λ (i : Instruction). known_of_operation i.operation) b.instructions in
      let outer = known_of_operands (ending_operands b.ending) in
      all_both (is_good_type m.structs) (flat_map (λ i. in_operation i.operation) b.instructions) (in_ending b.ending)
      (lines_good b.instructions p.0 (all_front (is_good_constant m) inner outer known))
      (ending_good b.ending (operands_good (ending_operands b.ending) p.1 (all_rest (is_good_constant m) inner outer known)))

  blocks_good : (bs : List Block) → list_all (is_good_block m) bs ≡ true → list_all (is_good_constant m) (flat_map known_of_block bs) ≡ true → AreGood (flat_map in_block bs)
  blocks_good [] form known = refl
  blocks_good (b ∷ bs) form known =
      let p = and_parts (is_good_block m b) (list_all (is_good_block m) bs) form in
      all_both (is_good_type m.structs) (in_block b) (flat_map in_block bs) (block_good b p.0 (all_front (is_good_constant m) (known_of_block b) (flat_map known_of_block bs) known))
      (blocks_good bs p.1 (all_rest (is_good_constant m) (known_of_block b) (flat_map known_of_block bs) known))

  -- ---- entries
  body_good : (o : Option (List Block)) → list_all (is_good_block m) (body o) ≡ true → list_all (is_good_constant m) (flat_map known_of_block (body o)) ≡ true → AreGood (in_some (λ bs. flat_map in_block bs) o)
  body_good None form known = refl
  body_good (Some bs) form known = blocks_good bs form known

  functions_good : (fs : List Function) → list_all (is_good_function m) fs ≡ true → list_all (is_good_constant m) (flat_map (λ f. flat_map known_of_block (blocks f)) fs) ≡ true → AreGood (flat_map in_function fs)
  functions_good [] form known = refl
  functions_good (f ∷ fs) form known =
      let p = and_parts (is_good_function m f) (list_all (is_good_function m) fs) form in
      let returns = and_parts (is_good_type m.structs f.returns) _ p.0 in
      let parameters = and_parts (list_all (λ p. is_good_type m.structs p.ty) f.parameters) _ returns.1 in
      let q = and_parts (option_map_or is_not_empty f.body true) (has_good_names f && list_all (is_good_block m) (blocks f)) parameters.1 in
      let r = and_parts (has_good_names f) (list_all (is_good_block m) (blocks f)) q.1 in
      let here = flat_map known_of_block (blocks f) in
      let others = flat_map (λ (g : Function). flat_map known_of_block (blocks g)) fs in
      all_both (is_good_type m.structs) (in_function f) (flat_map in_function fs)
      (all_both (is_good_type m.structs) (f.returns ∷ map (λ p. p.ty) f.parameters) (in_some (λ bs. flat_map in_block bs) f.body)
      (and_from (is_good_type m.structs f.returns) _ returns.0 (all_mapped (is_good_type m.structs) (λ p. p.ty) f.parameters parameters.0))
      (body_good f.body r.1 (all_front (is_good_constant m) here others known)))
      (functions_good fs p.1 (all_rest (is_good_constant m) here others known))

  initial_good : (t : Tree) (o : Option Constant) → list_all (is_good_constant m) (map (λ c. (t, c)) (option_to_list o)) ≡ true → AreGood (in_some in_constant o)
  initial_good t None known = refl
  initial_good t (Some c) known = known_good t c (and_parts (is_good_constant m (t, c)) true known).0

  variables_good : (vs : List Variable) → list_all (is_good_variable m) vs ≡ true → list_all (is_good_constant m) (flat_map known_of_variable vs) ≡ true → AreGood (flat_map in_variable vs)
  variables_good [] form known = refl
  variables_good (v ∷ vs) form known =
      let p = and_parts (is_good_variable m v) (list_all (is_good_variable m) vs) form in
      let ty = (and_parts (is_good_type m.structs v.ty) _ p.0).0 in
      all_both (is_good_type m.structs) (in_variable v) (flat_map in_variable vs)
      (and_from (is_good_type m.structs v.ty) _ ty (initial_good v.ty v.initialiser (all_front (is_good_constant m) (known_of_variable v) (flat_map known_of_variable vs) known)))
      (variables_good vs p.1 (all_rest (is_good_constant m) (known_of_variable v) (flat_map known_of_variable vs) known))

  alias_type_good : (t : AliasType) → AreGood (types_of_alias t) → AreGood (in_alias_type t)
  alias_type_good (PlainType ty) e = e
  alias_type_good (FunctionType s) e = e

  aliases_good : (all : List Alias) → list_all (is_good_alias m) all ≡ true → AreGood (flat_map (λ a. in_alias_type a.ty) all)
  aliases_good [] form = refl
  aliases_good (a ∷ all) form =
      let p = and_parts (is_good_alias m a) (list_all (is_good_alias m) all) form in
      let types = (and_parts (list_all (is_good_type m.structs) (types_of_alias a.ty)) (has_entry m a.target) p.0).0 in
      all_both (is_good_type m.structs) (in_alias_type a.ty) (flat_map (λ a. in_alias_type a.ty) all) (alias_type_good a.ty types) (aliases_good all p.1)

  fields_good : (ts : Trees) → are_good_types m.structs ts ≡ true → AreGood (tree_list ts)
  fields_good no_trees e = refl
  fields_good (more_trees t ts) e =
      let p = and_parts (is_good_type m.structs t) (are_good_types m.structs ts) e in
      and_from (is_good_type m.structs t) (list_all (is_good_type m.structs) (tree_list ts)) p.0 (fields_good ts p.1)

  struct_good : (name : List ℕ) (b : TreeBody) → is_good_body m.structs b ≡ true → AreGood (in_struct (name, b))
  struct_good name opaque_body e = refl
  struct_good name (fields packed ts) e = fields_good ts e

  structs_good : (ss : Structs) → list_all (λ s. is_good_body m.structs s.1 && is_good_type m.structs (named s.0)) ss ≡ true → AreGood (flat_map in_struct ss)
  structs_good [] form = refl
  structs_good (s ∷ ss) form =
      let p = and_parts (is_good_body m.structs s.1 && is_good_type m.structs (named s.0)) (list_all (λ s. is_good_body m.structs s.1 && is_good_type m.structs (named s.0)) ss) form in
      let q = and_parts (is_good_body m.structs s.1) (is_good_type m.structs (named s.0)) p.0 in
      all_both (is_good_type m.structs) (in_struct s) (flat_map in_struct ss) (struct_good s.0 s.1 q.0) (structs_good ss p.1)

  pub written_good : IsWellFormed m → AreGood (written_types m)
  written_good well =
      let in_variables = flat_map known_of_variable m.variables in
      let in_functions = flat_map (λ (f : Function). flat_map known_of_block (blocks f)) m.functions in
      let a = flat_map in_struct m.structs in
      let b = flat_map in_variable m.variables in
      let c = flat_map in_function m.functions in
      let d = flat_map (λ (a : Alias). in_alias_type a.ty) m.aliases in
      all_both (is_good_type m.structs) (a ++ b ++ c) d
      (all_both (is_good_type m.structs) (a ++ b) c
      (all_both (is_good_type m.structs) a b (structs_good m.structs well.structs)
      (variables_good m.variables well.variables (all_front (is_good_constant m) in_variables in_functions well.constants)))
      (functions_good m.functions well.functions (all_rest (is_good_constant m) in_variables in_functions well.constants)))
      (aliases_good m.aliases well.aliases)
