-- What new names of structs and of globals leave of constants.
use Rattle.std.proofs.Common.{◌≡◌, ℕ, Bool, true, false, ◌&&◌, List, [], ◌∷◌, ◌++◌, map, length, Option, Some, None, refl, sym, ap, ap₂, ◌∙◌, option_map, option_and_then}
use Rattle.std.specs.Prelude.{if◌then◌else◌, nat_lt, nat_eq, ◌-◌, ⊤}
use Rattle.std.specs.List.{list_all, AllByRecursion}
use Rattle.std.proofs.lemmas.Bool.{and_from, and_parts}
use Rattle.std.proofs.lemmas.List.{map-append}
use Rattle.linkage_rules.proofs.Gathered.{all_joined}
use Rattle.ir_tables.specs.declared.opcode.Opcode.{Opcode}
use Rattle.ir_tables.specs.declared.opcode.Opcode.TheVariants.{Trunc, ZExt, SExt, PtrToInt, IntToPtr}
use Rattle.type_table.specs.Tree.{Tree, int, ptr, void, array, struct, named, Trees, no_trees, more_trees, Structs}
use Rattle.module_arena.specs.Module.{Bytes, Brackets, Constant, Constants}
use Rattle.module_arena.specs.Module.Brackets.{Square, Braces, Packed}
use Rattle.module_arena.specs.Module.Constant.{Integer, Truth, Null, Undef, Poison, ZeroInitializer, Address, ByteString, Aggregate, ElementAddress, Cast, Binary}
use Rattle.module_arena.specs.Module.Constants.{no_constants, more_constants}
use Rattle.module_arena.specs.Renamed.{renamed_tree, renamed_trees, renamed_constant, renamed_constants}
use Rattle.module_arena.specs.Same.{same_type}
use Rattle.module_arena.specs.TypeTests.{is_integer, is_integer_of, is_pointer, is_free_of_void, is_passable, opened, field_type, is_type}
use Rattle.module_arena.specs.Constants.{Typed, constants_in, constants_of, address_in, is_cast_between, Index, written_number, indexed, leads_to_part, indices_fit, index_constants, element_operands_fit, Expected, each, these, as_written, nothing, expected, is_bytes_of, fits, parts_fit, is_pointer_constant}
use Rattle.module_arena.specs.EntryRules.{constant_types, types_written_suit, constant_types_suit}
use Rattle.link_rules.proofs.OnValid.Lists.{all_kept}
use Rattle.link_rules.proofs.OnValid.Types.{KnownTree, AllKnown, KnownPart, KeepsStructs, integer_same, width_same, pointer_same, void_free_same, sameness_kept, field_same, field_known, opened_same, opened_known, memory_same, passable_same}

abbrev mutual
  -- the structs that the types in a constant name are there
  pub KnownConstant : Structs → Constant → Type 0
  KnownConstant structs (Integer n) = ⊤
  KnownConstant structs (Truth truth) = ⊤
  KnownConstant structs Null = ⊤
  KnownConstant structs Undef = ⊤
  KnownConstant structs Poison = ⊤
  KnownConstant structs ZeroInitializer = ⊤
  KnownConstant structs (Address name) = ⊤
  KnownConstant structs (ByteString bytes) = ⊤
  KnownConstant structs (Aggregate shape elements) = KnownConstants structs elements
  KnownConstant structs (ElementAddress flags source operands) = KnownTree structs source × KnownConstants structs operands
  KnownConstant structs (Cast opcode from value to) = KnownTree structs from × KnownConstant structs value
  KnownConstant structs (Binary opcode flags a left b right) = KnownTree structs a × (KnownConstant structs left × (KnownTree structs b × KnownConstant structs right))

  pub KnownConstants : Structs → Constants → Type 0
  KnownConstants structs no_constants = ⊤
  KnownConstants structs (more_constants t c cs) = KnownTree structs t × (KnownConstant structs c × KnownConstants structs cs)

abbrev pub KnownTyped : Structs → Typed → Type 0
KnownTyped structs x = KnownTree structs x.0 × KnownConstant structs x.1

-- ALL CONSTANTS WITHIN ONE

mutual
  pub within_known : (structs : Structs) (t : Tree) (c : Constant) → KnownTree structs t → KnownConstant structs c → AllByRecursion (KnownTyped structs) (constants_in t c)
  within_known structs t (Integer n) k l = ((k, l), tt)
  within_known structs t (Truth truth) k l = ((k, l), tt)
  within_known structs t Null k l = ((k, l), tt)
  within_known structs t Undef k l = ((k, l), tt)
  within_known structs t Poison k l = ((k, l), tt)
  within_known structs t ZeroInitializer k l = ((k, l), tt)
  within_known structs t (Address name) k l = ((k, l), tt)
  within_known structs t (ByteString bytes) k l = ((k, l), tt)
  within_known structs t (Aggregate shape elements) k l = ((k, l), all_within_known structs elements l)
  within_known structs t (ElementAddress flags source operands) k l = ((k, l), all_within_known structs operands l.1)
  within_known structs t (Cast opcode from value to) k l = ((k, l), within_known structs from value l.0 l.1)
  within_known structs t (Binary opcode flags a left b right) k l =
      ((k, l), all_joined (KnownTyped structs) (constants_in a left) (constants_in b right) (within_known structs a left l.0 l.1.0) (within_known structs b right l.1.1.0 l.1.1.1))

  pub all_within_known : (structs : Structs) (cs : Constants) → KnownConstants structs cs → AllByRecursion (KnownTyped structs) (constants_of cs)
  all_within_known structs no_constants k = tt
  all_within_known structs (more_constants t c cs) k =
      all_joined (KnownTyped structs) (constants_in t c) (constants_of cs) (within_known structs t c k.0 k.1.0) (all_within_known structs cs k.1.1)

module _ (names globals : Bytes → Bytes) where
  abbrev pub renamed_typed : Typed → Typed
  renamed_typed x = (renamed_tree names x.0, renamed_constant names globals x.1)

  mutual
    -- the constants within a renamed one are those within it, renamed
    pub within_renamed : (t : Tree) (c : Constant) → constants_in (renamed_tree names t) (renamed_constant names globals c) ≡ map renamed_typed (constants_in t c)
    within_renamed t (Integer n) = refl
    within_renamed t (Truth truth) = refl
    within_renamed t Null = refl
    within_renamed t Undef = refl
    within_renamed t Poison = refl
    within_renamed t ZeroInitializer = refl
    within_renamed t (Address name) = refl
    within_renamed t (ByteString bytes) = refl
    within_renamed t (Aggregate shape elements) = ap (λ l. renamed_typed (t, Aggregate shape elements) ∷ l) (all_within_renamed elements)
    within_renamed t (ElementAddress flags source operands) = ap (λ l. renamed_typed (t, ElementAddress flags source operands) ∷ l) (all_within_renamed operands)
    within_renamed t (Cast opcode from value to) = ap (λ l. renamed_typed (t, Cast opcode from value to) ∷ l) (within_renamed from value)
    within_renamed t (Binary opcode flags a left b right) =
        ap (λ l. renamed_typed (t, Binary opcode flags a left b right) ∷ l)
        (ap₂ (λ x y. x ++ y) (within_renamed a left) (within_renamed b right) ∙ sym (map-append renamed_typed (constants_in a left) (constants_in b right)))

    pub all_within_renamed : (cs : Constants) → constants_of (renamed_constants names globals cs) ≡ map renamed_typed (constants_of cs)
    all_within_renamed no_constants = refl
    all_within_renamed (more_constants t c cs) = ap₂ (λ x y. x ++ y) (within_renamed t c) (all_within_renamed cs) ∙ sym (map-append renamed_typed (constants_in t c) (constants_of cs))

  pub address_renamed : (x : Typed) → address_in (renamed_typed x) ≡ map globals (address_in x)
  address_renamed (t, Integer n) = refl
  address_renamed (t, Truth truth) = refl
  address_renamed (t, Null) = refl
  address_renamed (t, Undef) = refl
  address_renamed (t, Poison) = refl
  address_renamed (t, ZeroInitializer) = refl
  address_renamed (t, Address name) = refl
  address_renamed (t, ByteString bytes) = refl
  address_renamed (t, Aggregate shape elements) = refl
  address_renamed (t, ElementAddress flags source operands) = refl
  address_renamed (t, Cast opcode from value to) = refl
  address_renamed (t, Binary opcode flags a left b right) = refl

  pub written_same : (c : Constant) → written_number (renamed_constant names globals c) ≡ written_number c
  written_same (Integer n) = refl
  written_same (Truth truth) = refl
  written_same Null = refl
  written_same Undef = refl
  written_same Poison = refl
  written_same ZeroInitializer = refl
  written_same (Address name) = refl
  written_same (ByteString bytes) = refl
  written_same (Aggregate shape elements) = refl
  written_same (ElementAddress flags source operands) = refl
  written_same (Cast opcode from value to) = refl
  written_same (Binary opcode flags a left b right) = refl

  pub pointer_constant_same : (c : Constant) → is_pointer_constant (renamed_constant names globals c) ≡ is_pointer_constant c
  pointer_constant_same (Integer n) = refl
  pointer_constant_same (Truth truth) = refl
  pointer_constant_same Null = refl
  pointer_constant_same Undef = refl
  pointer_constant_same Poison = refl
  pointer_constant_same ZeroInitializer = refl
  pointer_constant_same (Address name) = refl
  pointer_constant_same (ByteString bytes) = refl
  pointer_constant_same (Aggregate shape elements) = refl
  pointer_constant_same (ElementAddress flags source operands) = refl
  pointer_constant_same (Cast opcode from value to) = pointer_same names to
  pointer_constant_same (Binary opcode flags a left b right) = refl

  -- CASTS AND INDICES

  pub cast_same : (o : Opcode) (from to : Tree) → is_cast_between o (renamed_tree names from) (renamed_tree names to) ≡ is_cast_between o from to
  cast_same Trunc (int v) (int w) = refl
  cast_same ZExt (int v) (int w) = refl
  cast_same SExt (int v) (int w) = refl
  cast_same PtrToInt ptr (int w) = refl
  cast_same IntToPtr (int v) ptr = refl
  cast_same _ _ _ = refl

  abbrev pub renamed_index : Index → Index
  renamed_index i = record { ty = renamed_tree names i.ty; number = i.number }

  pub indices_renamed : (cs : Constants) → index_constants (renamed_constants names globals cs) ≡ map renamed_index (index_constants cs)
  indices_renamed no_constants = refl
  indices_renamed (more_constants t c cs) =
      ap₂ (λ (n : Option ℕ) (l : List Index). let i : Index = record { ty = renamed_tree names t; number = n } in i ∷ l) (written_same c) (indices_renamed cs)

  field_indexed : (b : Bool) (ts : Trees) (n : Option ℕ) → (if b then option_and_then (field_type (renamed_trees names ts)) n else None) ≡ option_map (renamed_tree names) (if b then option_and_then (field_type ts) n else None)
  field_indexed true ts None = refl
  field_indexed true ts (Some n) = field_same names ts n
  field_indexed false ts n = refl

  indexed_same : (t : Tree) (i : Index) → indexed (renamed_tree names t) (renamed_index i) ≡ option_map (renamed_tree names) (indexed t i)
  indexed_same (array n t) i = refl
  indexed_same (struct packed ts) i =
      ap (λ b. if b then option_and_then (field_type (renamed_trees names ts)) i.number else None) (width_same names 32 i.ty) ∙ field_indexed (is_integer_of 32 i.ty) ts i.number
  indexed_same (int w) i = refl
  indexed_same ptr i = refl
  indexed_same void i = refl
  indexed_same (named name) i = refl

field_index_known : (structs : Structs) (b : Bool) (ts : Trees) (n : Option ℕ) → AllKnown structs ts → KnownPart structs (if b then option_and_then (field_type ts) n else None)
field_index_known structs true ts None k = tt
field_index_known structs true ts (Some n) k = field_known structs ts n k
field_index_known structs false ts n k = tt

indexed_known : (structs : Structs) (t : Tree) (i : Index) → KnownTree structs t → KnownPart structs (indexed t i)
indexed_known structs (array n t) i k = k
indexed_known structs (struct packed ts) i k = field_index_known structs (is_integer_of 32 i.ty) ts i.number k
indexed_known structs (int w) i k = tt
indexed_known structs ptr i k = tt
indexed_known structs void i k = tt
indexed_known structs (named name) i k = tt

module _ (old new : Structs) (names globals : Bytes → Bytes) (keeps : KeepsStructs old new names) where
  leads_behind : (is : List Index) (o : Option Tree) → ((t : Tree) → KnownTree old t → leads_to_part new (renamed_tree names t) (map (renamed_index names globals) is) ≡ leads_to_part old t is) → KnownPart old o → is_type (λ part. leads_to_part new part (map (renamed_index names globals) is)) (option_map (renamed_tree names) o) ≡ is_type (λ part. leads_to_part old part is) o
  leads_behind is None more k = refl
  leads_behind is (Some t) more k = more t k

  leads_same : (is : List Index) (t : Tree) → KnownTree old t → leads_to_part new (renamed_tree names t) (map (renamed_index names globals) is) ≡ leads_to_part old t is
  leads_same [] t k = refl
  leads_same (i ∷ is) t k =
      ap (λ (u : Tree). is_type (λ part. leads_to_part new part (map (renamed_index names globals) is)) (indexed u (renamed_index names globals i))) (opened_same old new names keeps t k)
      ∙ ap (is_type (λ part. leads_to_part new part (map (renamed_index names globals) is))) (indexed_same names globals (opened old t) i)
      ∙ leads_behind is (indexed (opened old t) i) (λ u l. leads_same is u l) (indexed_known old (opened old t) i (opened_known old new names keeps t k))

  integers_same : (is : List Index) → list_all (λ i. is_integer i.ty) (map (renamed_index names globals) is) ≡ list_all (λ i. is_integer i.ty) is
  integers_same [] = refl
  integers_same (i ∷ is) = ap₂ (λ a b. a && b) (integer_same names i.ty) (integers_same is)

  -- indices fit as before
  pub indices_fit_same : (t : Tree) (is : List Index) → KnownTree old t → indices_fit new (renamed_tree names t) (map (renamed_index names globals) is) ≡ indices_fit old t is
  indices_fit_same t [] k = refl
  indices_fit_same t (i ∷ is) k = ap₂ (λ a b. a && b) (integers_same (i ∷ is)) (leads_same is t k)

  operands_same : (t : Tree) (cs : Constants) → KnownTree old t → element_operands_fit new (renamed_tree names t) (renamed_constants names globals cs) ≡ element_operands_fit old t cs
  operands_same t no_constants k = refl
  operands_same t (more_constants u c cs) k =
      ap₂ (λ a b. a && b) (pointer_same names u) (ap (indices_fit new (renamed_tree names t)) (indices_renamed names globals cs) ∙ indices_fit_same t (index_constants cs) k)

  -- CONSTANTS FIT

  abbrev renamed_expected : Expected → Expected
  renamed_expected (each n t) = each n (renamed_tree names t)
  renamed_expected (these ts) = these (renamed_trees names ts)
  renamed_expected as_written = as_written
  renamed_expected nothing = nothing

  expected_same : (b : Brackets) (t : Tree) → expected b (renamed_tree names t) ≡ renamed_expected (expected b t)
  expected_same Square (array n t) = refl
  expected_same Braces (struct false ts) = refl
  expected_same Packed (struct true ts) = refl
  expected_same _ _ = refl

  bytes_same : (n : ℕ) (t : Tree) → is_bytes_of n (renamed_tree names t) ≡ is_bytes_of n t
  bytes_same n (array m t) = ap (λ b. nat_eq m n && b) (width_same names 8 t)
  bytes_same n (int w) = refl
  bytes_same n ptr = refl
  bytes_same n void = refl
  bytes_same n (struct packed ts) = refl
  bytes_same n (named name) = refl

  mutual
    -- what fits a type fits it still
    pub fits_kept : (c : Constant) (t : Tree) → KnownTree old t → KnownConstant old c → fits old t c ≡ true → fits new (renamed_tree names t) (renamed_constant names globals c) ≡ true
    fits_kept (Integer n) t k l h = integer_same names t ∙ h
    fits_kept (Truth truth) t k l h = width_same names 1 t ∙ h
    fits_kept Null t k l h = pointer_same names t ∙ h
    fits_kept Undef t k l h = refl
    fits_kept Poison t k l h = refl
    fits_kept ZeroInitializer t k l h = refl
    fits_kept (Address name) t k l h = pointer_same names t ∙ h
    fits_kept (ByteString bytes) t k l h = bytes_same (length bytes) t ∙ h
    fits_kept (Aggregate b cs) t k l h =
        ap (λ (u : Tree). parts_fit new (expected b u) (renamed_constants names globals cs)) (opened_same old new names keeps t k)
        ∙ ap (λ (e : Expected). parts_fit new e (renamed_constants names globals cs)) (expected_same b (opened old t))
        ∙ parts_fit_kept cs (expected b (opened old t)) l h
    fits_kept (ElementAddress flags source cs) t k l h =
        let one = and_parts (is_pointer t) _ h in
        let two = and_parts (element_operands_fit old source cs) _ one.1 in
        and_from _ _ (pointer_same names t ∙ one.0) (and_from _ _ (operands_same source cs l.0 ∙ two.0) (parts_fit_kept cs as_written l.1 two.1))
    fits_kept (Cast opcode from value to) t k l h =
        let one = and_parts (same_type t to) _ h in
        let two = and_parts (is_cast_between opcode from to) _ one.1 in
        and_from _ _ (sameness_kept names t to one.0) (and_from _ _ (cast_same names globals opcode from to ∙ two.0) (fits_kept value from l.0 l.1 two.1))
    fits_kept (Binary opcode flags a left b right) t k l h =
        let one = and_parts (is_integer t) _ h in
        let two = and_parts (same_type t a) _ one.1 in
        let three = and_parts (same_type t b) _ two.1 in
        let four = and_parts (fits old a left) (fits old b right) three.1 in
        and_from _ _ (integer_same names t ∙ one.0) (and_from _ _ (sameness_kept names t a two.0) (and_from _ _ (sameness_kept names t b three.0)
        (and_from _ _ (fits_kept left a l.0 l.1.0 four.0) (fits_kept right b l.1.1.0 l.1.1.1 four.1))))

    pub parts_fit_kept : (cs : Constants) (e : Expected) → KnownConstants old cs → parts_fit old e cs ≡ true → parts_fit new (renamed_expected e) (renamed_constants names globals cs) ≡ true
    parts_fit_kept no_constants (each n t) l h = h
    parts_fit_kept no_constants (these no_trees) l h = refl
    parts_fit_kept no_constants (these (more_trees t ts)) l h = cc
    parts_fit_kept no_constants as_written l h = refl
    parts_fit_kept no_constants nothing l h = cc
    parts_fit_kept (more_constants u c cs) (each n t) l h =
        let one = and_parts (nat_lt 0 n) _ h in
        let two = and_parts (same_type t u) _ one.1 in
        let three = and_parts (fits old u c) _ two.1 in
        and_from _ _ one.0 (and_from _ _ (sameness_kept names t u two.0) (and_from _ _ (fits_kept c u l.0 l.1.0 three.0) (parts_fit_kept cs (each (n - 1) t) l.1.1 three.1)))
    parts_fit_kept (more_constants u c cs) (these (more_trees t ts)) l h =
        let two = and_parts (same_type t u) _ h in
        let three = and_parts (fits old u c) _ two.1 in
        and_from _ _ (sameness_kept names t u two.0) (and_from _ _ (fits_kept c u l.0 l.1.0 three.0) (parts_fit_kept cs (these ts) l.1.1 three.1))
    parts_fit_kept (more_constants u c cs) (these no_trees) l h = cc
    parts_fit_kept (more_constants u c cs) as_written l h =
        let three = and_parts (fits old u c) _ h in
        and_from _ _ (fits_kept c u l.0 l.1.0 three.0) (parts_fit_kept cs as_written l.1.1 three.1)
    parts_fit_kept (more_constants u c cs) nothing l h = cc

  -- TYPES IN CONSTANTS

  free_of_void_same : (cs : Constants) → list_all is_free_of_void (constant_types (renamed_constants names globals cs)) ≡ list_all is_free_of_void (constant_types cs)
  free_of_void_same no_constants = refl
  free_of_void_same (more_constants t c cs) = ap₂ (λ a b. a && b) (void_free_same names t) (free_of_void_same cs)

  all_passable_same : (cs : Constants) → KnownConstants old cs → list_all (is_passable new) (constant_types (renamed_constants names globals cs)) ≡ list_all (is_passable old) (constant_types cs)
  all_passable_same no_constants k = refl
  all_passable_same (more_constants t c cs) k = ap₂ (λ a b. a && b) (passable_same old new names keeps t k.0) (all_passable_same cs k.1.1)

  types_written_same : (x : Typed) → KnownTyped old x → types_written_suit new (renamed_typed names globals x) ≡ types_written_suit old x
  types_written_same (t, Integer n) k = refl
  types_written_same (t, Truth truth) k = refl
  types_written_same (t, Null) k = refl
  types_written_same (t, Undef) k = refl
  types_written_same (t, Poison) k = refl
  types_written_same (t, ZeroInitializer) k = refl
  types_written_same (t, Address name) k = refl
  types_written_same (t, ByteString bytes) k = refl
  types_written_same (t, Aggregate shape elements) k = free_of_void_same elements
  types_written_same (t, ElementAddress flags source operands) k = ap₂ (λ a b. a && b) (memory_same old new names keeps source k.1.0) (all_passable_same operands k.1.1)
  types_written_same (t, Cast opcode from value to) k = ap₂ (λ a b. a && b) (passable_same old new names keeps from k.1.0) (void_free_same names to)
  types_written_same (t, Binary opcode flags a left b right) k = ap₂ (λ x y. x && y) (passable_same old new names keeps a k.1.0) (passable_same old new names keeps b k.1.1.1.0)

  pub constant_types_kept : (t : Tree) (c : Constant) → KnownTree old t → KnownConstant old c → constant_types_suit old t c ≡ true → constant_types_suit new (renamed_tree names t) (renamed_constant names globals c) ≡ true
  constant_types_kept t c k l h =
      ap (list_all (types_written_suit new)) (within_renamed names globals t c)
      ∙ all_kept (KnownTyped old) (types_written_suit old) (types_written_suit new) (renamed_typed names globals) (constants_in t c) (λ x known p. types_written_same x known ∙ p) (within_known old t c k l) h
