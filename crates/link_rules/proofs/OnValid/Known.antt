-- The structs and entries that a well formed module's functions and initialisers name are there.
use Rattle.std.proofs.Common.{◌≡◌, ℕ, zero, suc, Bool, true, false, ◌&&◌, List, [], ◌∷◌, map, Option, Some, None, subst, flat_map, slice_index_or, bytes_eq, cond}
use Rattle.std.specs.Prelude.{nat_le, slice_get}
use Rattle.std.specs.Option.{option_map_or}
use Rattle.std.specs.List.{list_all, AllByRecursion}
use Rattle.std.proofs.lemmas.Bool.{and_parts}
use Rattle.std.proofs.lemmas.Option.{same_Some}
use Rattle.type_table.specs.Tree.{Tree, int, ptr, void, array, struct, named, Trees, no_trees, more_trees, TreeBody, opaque_body, fields, Structs, index_of, body_of}
use Rattle.module_arena.specs.Module.{Bytes, Constant, Constants, Value, Operand, Operation, Instruction, Block, Variable, Function, Module}
use Rattle.module_arena.specs.Module.Constant.{Integer, Truth, Null, Undef, Poison, ZeroInitializer, Address, ByteString, Aggregate, ElementAddress, Cast, Binary}
use Rattle.module_arena.specs.Module.Constants.{no_constants, more_constants}
use Rattle.module_arena.specs.Module.Value.{Local, Known}
use Rattle.module_arena.specs.Constants.{Typed, constants_in, constants_of, address_in}
use Rattle.module_arena.specs.Operations.{operands, ending_operands, callee}
use Rattle.module_arena.specs.Functions.{blocks}
use Rattle.module_arena.specs.EntryRules.{is_only_called}
use Rattle.module_arena.specs.Forms.{is_not_empty, is_instruction_of_phrase, is_constant_of_phrase}
use Rattle.module_arena.specs.Names.{has_good_names}
use Rattle.module_arena.specs.WellFormed.{is_good_type, are_good_types, is_good_body, are_good_structs, types_of_operation, known_in, known_of_operands, known_of_operation, known_of_block, known_of_variable, module_constants, is_in_range, type_in_constant, has_entry, names_an_entry, is_good_part, is_good_constant, depth, is_good_variable, are_good_operands, is_good_block, is_good_function, IsWellFormed}
use Rattle.linkage_rules.proofs.Entries.{all_follow}
use Rattle.link_rules.proofs.Parts.{all_true}
use Rattle.link_rules.proofs.Searches.{all_front as all_in_front, all_back as all_behind}
use Rattle.link_rules.proofs.OnValid.Types.{has_struct, KnownTree, AllKnown, KnownBody}
use Rattle.link_rules.proofs.OnValid.Constants.{KnownConstant, KnownConstants}
use Rattle.link_rules.proofs.OnValid.Operations.{KnownValue, KnownOperand, KnownCallee, KnownOperation, KnownBlock, KnownFunction}
use Rattle.link_rules.proofs.OnValid.Instructions.{AddressesKept, ConstantKept, ValueKept, CalleeKept, OperandKept}
use Rattle.link_rules.proofs.OnValid.Demands.{BlockKept}

-- TYPES

module _ (structs : Structs) where
  mutual
    pub type_known : (t : Tree) → is_good_type structs t ≡ true → KnownTree structs t
    type_known (int w) h = tt
    type_known ptr h = tt
    type_known void h = tt
    type_known (array n t) h = type_known t (and_parts (is_good_type structs t) _ h).0
    type_known (struct packed ts) h = types_known ts (and_parts (are_good_types structs ts) _ h).0
    type_known (named name) h = (and_parts (has_struct structs name) _ h).0

    pub types_known : (ts : Trees) → are_good_types structs ts ≡ true → AllKnown structs ts
    types_known no_trees h = tt
    types_known (more_trees t ts) h =
        let both = and_parts (is_good_type structs t) (are_good_types structs ts) h in
        (type_known t both.0, types_known ts both.1)

  pub all_types_known : (ts : List Tree) → list_all (is_good_type structs) ts ≡ true → AllByRecursion (KnownTree structs) ts
  all_types_known ts h = all_follow _ _ ts (λ t e. type_known t e) (all_true (is_good_type structs) ts h)

  pub tree_body_known : (body : TreeBody) → is_good_body structs body ≡ true → KnownBody structs body
  tree_body_known opaque_body h = tt
  tree_body_known (fields packed ts) h = types_known ts h

-- what holds of all bodies holds of the one that a name stands for
pub body_has : (P : TreeBody → Type 0) (structs : Structs) (name : Bytes) → P opaque_body → AllByRecursion (λ s. P s.1) structs → P (body_of structs name)
body_has P [] name o a = o
body_has P (s ∷ structs) name o a = go (bytes_eq s.0 name) (body_has P structs name o a.1)
  where
    go : (b : Bool) → P (body_of structs name) → P (slice_index_or (map (λ x. x.1) (s ∷ structs)) (cond b 0 (suc (index_of (map (λ x. x.0) structs) name))) opaque_body)
    go true more = a.0
    go false more = more

pub structs_closed : (structs : Structs) → are_good_structs structs ≡ true → (name : Bytes) → has_struct structs name ≡ true → KnownBody structs (body_of structs name)
structs_closed structs h name there =
    body_has (KnownBody structs) structs name tt
    (all_follow (λ s. (is_good_body structs s.1 && is_good_type structs (named s.0)) ≡ true) (λ s. KnownBody structs s.1) structs
    (λ s e. tree_body_known structs s.1 (and_parts (is_good_body structs s.1) _ e).0) (all_true (λ s. is_good_body structs s.1 && is_good_type structs (named s.0)) structs h))

-- CONSTANTS

module _ (m : Module) where
  abbrev pub GoodParts : List Typed → Type 0
  GoodParts xs = AllByRecursion (λ x. is_good_part m x ≡ true) xs

  part_type_good : (t : Tree) (c : Constant) → is_good_part m (t, c) ≡ true → is_good_type m.structs t ≡ true
  part_type_good t c h = (and_parts (is_good_type m.structs t) _ h).0

  part_inner : (t : Tree) (c : Constant) → is_good_part m (t, c) ≡ true → list_all (is_good_type m.structs) (type_in_constant c) ≡ true
  part_inner t c h = (and_parts (list_all (is_good_type m.structs) (type_in_constant c)) _ (and_parts (is_good_type m.structs t) _ h).1).0

  mutual
    pub constant_known : (t : Tree) (c : Constant) → GoodParts (constants_in t c) → KnownTree m.structs t × KnownConstant m.structs c
    constant_known t (Integer n) a = (type_known m.structs t (part_type_good t (Integer n) a.0), tt)
    constant_known t (Truth truth) a = (type_known m.structs t (part_type_good t (Truth truth) a.0), tt)
    constant_known t Null a = (type_known m.structs t (part_type_good t Null a.0), tt)
    constant_known t Undef a = (type_known m.structs t (part_type_good t Undef a.0), tt)
    constant_known t Poison a = (type_known m.structs t (part_type_good t Poison a.0), tt)
    constant_known t ZeroInitializer a = (type_known m.structs t (part_type_good t ZeroInitializer a.0), tt)
    constant_known t (Address name) a = (type_known m.structs t (part_type_good t (Address name) a.0), tt)
    constant_known t (ByteString bytes) a = (type_known m.structs t (part_type_good t (ByteString bytes) a.0), tt)
    constant_known t (Aggregate shape elements) a = (type_known m.structs t (part_type_good t (Aggregate shape elements) a.0), constants_known elements a.1)
    constant_known t (ElementAddress flags source operands) a = (
      type_known m.structs t (part_type_good t (ElementAddress flags source operands) a.0),
      (type_known m.structs source (and_parts (is_good_type m.structs source) true (part_inner t (ElementAddress flags source operands) a.0)).0, constants_known operands a.1),
    )
    constant_known t (Cast opcode from value to) a = (type_known m.structs t (part_type_good t (Cast opcode from value to) a.0), constant_known from value a.1)
    constant_known t (Binary opcode flags x left y right) a =
        let l = constant_known x left (all_in_front _ (constants_in x left) (constants_in y right) a.1) in
        let r = constant_known y right (all_behind _ (constants_in x left) (constants_in y right) a.1) in
        (type_known m.structs t (part_type_good t (Binary opcode flags x left y right) a.0), (l.0, (l.1, r)))

    pub constants_known : (cs : Constants) → GoodParts (constants_of cs) → KnownConstants m.structs cs
    constants_known no_constants a = tt
    constants_known (more_constants t c cs) a =
        let here = constant_known t c (all_in_front _ (constants_in t c) (constants_of cs) a) in
        (here.0, (here.1, constants_known cs (all_behind _ (constants_in t c) (constants_of cs) a)))

  -- each name in a constant is an entry's
  part_names : (t : Tree) (c : Constant) → is_good_part m (t, c) ≡ true → names_an_entry m c ≡ true
  part_names t c h =
      let one = and_parts (is_good_type m.structs t) _ h in
      let two = and_parts (list_all (is_good_type m.structs) (type_in_constant c)) _ one.1 in
      let three = and_parts (is_in_range t c) _ two.1 in
      (and_parts (is_constant_of_phrase c) (names_an_entry m c) three.1).1

  pub addresses_there : (x : Typed) → is_good_part m x ≡ true → AllByRecursion (λ name. has_entry m name ≡ true) (address_in x)
  addresses_there (t, Integer n) h = tt
  addresses_there (t, Truth truth) h = tt
  addresses_there (t, Null) h = tt
  addresses_there (t, Undef) h = tt
  addresses_there (t, Poison) h = tt
  addresses_there (t, ZeroInitializer) h = tt
  addresses_there (t, Address name) h = (part_names t (Address name) h, tt)
  addresses_there (t, ByteString bytes) h = tt
  addresses_there (t, Aggregate shape elements) h = tt
  addresses_there (t, ElementAddress flags source operands) h = tt
  addresses_there (t, Cast opcode from value to) h = tt
  addresses_there (t, Binary opcode flags a left b right) h = tt

  pub good_parts : (t : Tree) (c : Constant) → is_good_constant m (t, c) ≡ true → GoodParts (constants_in t c)
  good_parts t c h = all_true (is_good_part m) (constants_in t c) (and_parts (nat_le (depth c) 64) _ h).1

  abbrev pub AllGood : List Typed → Type 0
  AllGood xs = AllByRecursion (λ x. is_good_constant m x ≡ true) xs

  -- OPERANDS

  value_known : (t : Tree) (v : Value) → AllGood (known_in t v) → KnownValue m.structs v
  value_known t (Local name) a = tt
  value_known t (Known c) a = (constant_known t c (good_parts t c a.0)).1

  operands_known : (os : List Operand) → are_good_operands m os ≡ true → AllGood (known_of_operands os) → AllByRecursion (KnownOperand m.structs) os
  operands_known [] h a = tt
  operands_known (o ∷ os) h a =
      let both = and_parts (is_good_type m.structs o.ty) _ h in (
        (type_known m.structs o.ty both.0, value_known o.ty o.value (all_in_front _ (known_in o.ty o.value) (known_of_operands os) a)),
        operands_known os both.1 (all_behind _ (known_in o.ty o.value) (known_of_operands os) a),
      )

  abbrev callee_constants : Option Value → List Typed
  callee_constants None = []
  callee_constants (Some v) = known_in ptr v

  callee_known : (o : Option Value) → AllGood (callee_constants o) → KnownCallee m.structs o
  callee_known None a = tt
  callee_known (Some v) a = value_known ptr v a

  operation_good : (o : Operation) → AllGood (known_of_operation o) → AllGood (known_of_operands (operands o)) × AllGood (callee_constants (callee o))
  operation_good o a = (all_in_front _ (known_of_operands (operands o)) _ a, by_callee (callee o) (all_behind _ (known_of_operands (operands o)) _ a))
    where
      by_callee : (c : Option Value) → AllGood (option_map_or (known_in ptr) c []) → AllGood (callee_constants c)
      by_callee None a = tt
      by_callee (Some v) a = a

  operation_known : (i : Instruction) → (is_instruction_of_phrase i && (are_good_operands m (operands i.operation) && list_all (is_good_type m.structs) (types_of_operation i.operation))) ≡ true → AllGood (known_of_operation i.operation) → KnownOperation m.structs i.operation
  operation_known i h a =
      let one = and_parts (is_instruction_of_phrase i) _ h in
      let two = and_parts (are_good_operands m (operands i.operation)) _ one.1 in
      let good = operation_good i.operation a in
      record {
        operands = operands_known (operands i.operation) two.0 good.0;
        callee = callee_known (callee i.operation) good.1;
        types = all_types_known m.structs (types_of_operation i.operation) two.1;
      }

  pub block_known : (b : Block) → is_good_block m b ≡ true → AllGood (known_of_block b) → KnownBlock m.structs b
  block_known b h a =
      let both = and_parts (list_all (λ i. is_instruction_of_phrase i && (are_good_operands m (operands i.operation) && list_all (is_good_type m.structs) (types_of_operation i.operation))) b.instructions) _ h in
      record {
        instructions = go b.instructions both.0 (all_in_front _ (flat_map (λ i. known_of_operation i.operation) b.instructions) _ a);
        ending = operands_known (ending_operands b.ending) both.1 (all_behind _ (flat_map (λ i. known_of_operation i.operation) b.instructions) _ a);
      }
    where
      go : (xs : List Instruction) → list_all (λ i. is_instruction_of_phrase i && (are_good_operands m (operands i.operation) && list_all (is_good_type m.structs) (types_of_operation i.operation))) xs ≡ true → AllGood (flat_map (λ i. known_of_operation i.operation) xs) → AllByRecursion (λ i. KnownOperation m.structs i.operation) xs
      go [] h a = tt
      go (i ∷ xs) h a =
          let both = and_parts _ _ h in
          (operation_known i both.0 (all_in_front _ (known_of_operation i.operation) _ a), go xs both.1 (all_behind _ (known_of_operation i.operation) _ a))

  pub blocks_known : (bs : List Block) → list_all (is_good_block m) bs ≡ true → AllGood (flat_map known_of_block bs) → AllByRecursion (KnownBlock m.structs) bs
  blocks_known [] h a = tt
  blocks_known (b ∷ bs) h a =
      let both = and_parts (is_good_block m b) _ h in
      (block_known b both.0 (all_in_front _ (known_of_block b) _ a), blocks_known bs both.1 (all_behind _ (known_of_block b) _ a))

  -- NAMES OF INTRINSICS

  module _ (n : Module) (globals : Bytes → Bytes) (callees : (name : Bytes) → has_entry m name ≡ true → is_only_called m name ≡ false → is_only_called n (globals name) ≡ false) where
    addresses_kept : (x : Typed) → is_good_part m x ≡ true → AddressesKept m n globals x
    addresses_kept x h = all_follow (λ name. has_entry m name ≡ true) (λ name. is_only_called m name ≡ false → is_only_called n (globals name) ≡ false) (address_in x) callees (addresses_there x h)

    pub constant_kept : (t : Tree) (c : Constant) → is_good_constant m (t, c) ≡ true → ConstantKept m n globals t c
    constant_kept t c h = all_follow (λ x. is_good_part m x ≡ true) (AddressesKept m n globals) (constants_in t c) addresses_kept (good_parts t c h)

    value_kept : (t : Tree) (v : Value) → AllGood (known_in t v) → ValueKept m n globals t v
    value_kept t (Local name) a = tt
    value_kept t (Known c) a = constant_kept t c a.0

    operands_kept : (os : List Operand) → AllGood (known_of_operands os) → AllByRecursion (OperandKept m n globals) os
    operands_kept [] a = tt
    operands_kept (o ∷ os) a = (value_kept o.ty o.value (all_in_front _ (known_in o.ty o.value) (known_of_operands os) a), operands_kept os (all_behind _ (known_in o.ty o.value) (known_of_operands os) a))

    callee_kept : (o : Option Value) → AllGood (callee_constants o) → CalleeKept m n globals o
    callee_kept None a = tt
    callee_kept (Some v) a = value_kept ptr v a

    pub block_kept : (b : Block) → AllGood (known_of_block b) → BlockKept m n globals b
    block_kept b a =
        let front = all_in_front _ (flat_map (λ i. known_of_operation i.operation) b.instructions) _ a in
        record {
          operands = each_operands b.instructions front;
          callees = each_callee b.instructions front;
          ending = operands_kept (ending_operands b.ending) (all_behind _ (flat_map (λ i. known_of_operation i.operation) b.instructions) _ a);
        }
      where
        each_operands : (xs : List Instruction) → AllGood (flat_map (λ i. known_of_operation i.operation) xs) → AllByRecursion (λ i. AllByRecursion (OperandKept m n globals) (operands i.operation)) xs
        each_operands [] a = tt
        each_operands (i ∷ xs) a = (operands_kept (operands i.operation) (operation_good i.operation (all_in_front _ (known_of_operation i.operation) _ a)).0, each_operands xs (all_behind _ (known_of_operation i.operation) _ a))

        each_callee : (xs : List Instruction) → AllGood (flat_map (λ i. known_of_operation i.operation) xs) → AllByRecursion (λ i. CalleeKept m n globals (callee i.operation)) xs
        each_callee [] a = tt
        each_callee (i ∷ xs) a = (callee_kept (callee i.operation) (operation_good i.operation (all_in_front _ (known_of_operation i.operation) _ a)).1, each_callee xs (all_behind _ (known_of_operation i.operation) _ a))

    pub blocks_kept : (bs : List Block) → AllGood (flat_map known_of_block bs) → AllByRecursion (BlockKept m n globals) bs
    blocks_kept [] a = tt
    blocks_kept (b ∷ bs) a = (block_kept b (all_in_front _ (known_of_block b) _ a), blocks_kept bs (all_behind _ (known_of_block b) _ a))

-- OF A WELL FORMED MODULE

-- what holds of all that the elements give holds of what one gives
pub all_at : {A B : Type 0} (P : B → Type 0) (f : A → List B) (xs : List A) (k : ℕ) (x : A) → slice_get xs k ≡ Some x → AllByRecursion P (flat_map f xs) → AllByRecursion P (f x)
all_at P f [] k x e a = cc
all_at P f (y ∷ xs) zero x e a = subst (λ z. AllByRecursion P (f z)) (same_Some y x e) (all_in_front P (f y) (flat_map f xs) a)
all_at P f (y ∷ xs) (suc k) x e a = all_at P f xs k x e (all_behind P (f y) (flat_map f xs) a)

pub test_at : {A : Type 0} (p : A → Bool) (xs : List A) (k : ℕ) (x : A) → slice_get xs k ≡ Some x → list_all p xs ≡ true → p x ≡ true
test_at p [] k x e h = cc
test_at p (y ∷ xs) zero x e h = subst (λ z. p z ≡ true) (same_Some y x e) (and_parts (p y) _ h).0
test_at p (y ∷ xs) (suc k) x e h = test_at p xs k x e (and_parts (p y) _ h).1

module _ (m : Module) (good : IsWellFormed m) where
  all_constants : AllGood m (module_constants m)
  all_constants = all_true (is_good_constant m) (module_constants m) good.constants

  module _ (k : ℕ) (f : Function) (at : slice_get m.functions k ≡ Some f) where
    pub body_constants : AllGood m (flat_map known_of_block (blocks f))
    body_constants = all_at _ (λ g. flat_map known_of_block (blocks g)) m.functions k f at (all_behind _ (flat_map known_of_variable m.variables) _ all_constants)

    pub good_function : is_good_function m f ≡ true
    good_function = test_at (is_good_function m) m.functions k f at good.functions

    pub function_known : KnownFunction m.structs f
    function_known =
        let one = and_parts (is_good_type m.structs f.returns) _ good_function in
        let two = and_parts (list_all (λ p. is_good_type m.structs p.ty) f.parameters) _ one.1 in
        let three = and_parts (option_map_or is_not_empty f.body true) _ two.1 in
        let four = and_parts (has_good_names f) _ three.1 in
        record {
          returns = type_known m.structs f.returns one.0;
          parameters = all_follow _ _ f.parameters (λ p e. type_known m.structs p.ty e) (all_true (λ p. is_good_type m.structs p.ty) f.parameters two.0);
          blocks = blocks_known m (blocks f) four.1 body_constants;
        }

  module _ (k : ℕ) (v : Variable) (at : slice_get m.variables k ≡ Some v) where
    pub variable_constants : AllGood m (known_of_variable v)
    variable_constants = all_at _ known_of_variable m.variables k v at (all_in_front _ (flat_map known_of_variable m.variables) _ all_constants)

    pub good_variable : is_good_variable m v ≡ true
    good_variable = test_at (is_good_variable m) m.variables k v at good.variables

    pub variable_type_known : KnownTree m.structs v.ty
    variable_type_known = type_known m.structs v.ty (and_parts (is_good_type m.structs v.ty) _ good_variable).0
