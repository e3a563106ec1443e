-- Constructors, by the constants of the arena.
use Rattle.std.proofs.Common.{◌≡◌, ℕ, ◌<◌, ◌≤◌, All, subst, Bool, true, false, not, slice_get, get_or, ◌&&◌, List, [], ◌∷◌, map, length, Some, refl, sym, ap, ◌∙◌, arith}
use Rattle.std.specs.List.{list_all}
use Rattle.type_table.specs.Tree.{Tree, int, ptr, void, array, struct, named, Trees, no_trees, more_trees}
use Rattle.type_table.specs.Types.{Types, IsGood, trees, trees_at, names, tree, tree_of}
use Rattle.type_table.specs.declared.ir_type.IrType.{IrType}
use Rattle.type_table.specs.declared.ir_type.IrType.TheVariants as type
use Rattle.module_arena.specs.Changes.{constant_in}
use Rattle.module_arena.specs.Constants.{Typed}
use Rattle.module_arena.specs.EntryRules.{constructor_type, is_constructor, are_constructors, is_function_or_null, lists_constructors}
use Rattle.module_arena.specs.Known.{counts}
use Rattle.module_arena.specs.Known.{IsGood as IsGoodArena}
use Rattle.module_arena.specs.Mentions.{typed_in}
use Rattle.module_arena.proofs.ConstantsTold.{const_known, const_weaker}
use Rattle.std.proofs.lemmas.Option.{slice_get_within}
use Rattle.type_table.proofs.ShapeMeasures.{and_true}
use Rattle.module_arena.specs.Lists.{Lists}
use Rattle.module_arena.specs.Module.{Constant, Constants, Module}
use Rattle.module_arena.specs.Module.Brackets.{Braces}
use Rattle.module_arena.specs.Module.Constant.{Integer, Truth, Null, Undef, Poison, ZeroInitializer, Address, ByteString, Aggregate, ElementAddress, Cast, Binary}
use Rattle.module_arena.specs.Module.Constants.{no_constants, more_constants}
use Rattle.module_arena.specs.Same.{same_type, same_types}
use Rattle.module_arena.specs.TypeTests.{is_integer_of, is_pointer}
use Rattle.module_arena.specs.View.{brackets_view, constants_at, constants_of, module_of}
use Rattle.module_arena.specs.declared.constant.Brackets as the_brackets
use Rattle.module_arena.specs.declared.constant.Brackets.TheVariants as brackets
use Rattle.module_arena.specs.declared.constant.Const as the_const
use Rattle.module_arena.specs.declared.constant.Const.TheVariants as const
use Rattle.module_arena.specs.declared.constant.TypedConst.{TypedConst}
use Rattle.module_arena.specs.declared.entry.GlobalId.{GlobalId}
use Rattle.module_arena.proofs.HostTypesAgree.{tree_here}
use Rattle.entry_verify.specs.Constants.ConstantParts.{typed_at, typed_list}
use Rattle.entry_verify.proofs.OnConstants.PartsTold.{typed_listed}
use Rattle.entry_verify.specs.Entries.Constructors.{are_constructor_parts, are_constructor_types, is_braces, is_constructor_at, is_number}

-- ---- the type of a constructor

-- more types than three
pub many_types : (ts : List Tree) (fs : List ℕ) → 4 ≤ length fs → false ≡ are_constructor_types (trees_at ts fs)
many_types ts [] le = absurd (omega (arith, le))
many_types ts (a ∷ []) le = absurd (omega (arith, le))
many_types ts (a ∷ b ∷ []) le = absurd (omega (arith, le))
many_types ts (a ∷ b ∷ c ∷ []) le = absurd (omega (arith, le))
many_types ts (a ∷ b ∷ c ∷ d ∷ fs) le = refl

number_type : (t : Tree) → is_integer_of 32 t ≡ same_type t (int 32)
number_type (int w) = refl
number_type ptr = refl
number_type void = refl
number_type (array n t) = refl
number_type (struct p ts) = refl
number_type (named x) = refl

pub pointer_type : (t : Tree) → is_pointer t ≡ same_type t ptr
pointer_type (int w) = refl
pointer_type ptr = refl
pointer_type void = refl
pointer_type (array n t) = refl
pointer_type (struct p ts) = refl
pointer_type (named x) = refl

and_false : (x : Bool) {y : Bool} → false ≡ y → false ≡ (x && y)
and_false true e = e
and_false false e = refl

fields_told : (ts : Trees) → are_constructor_types ts ≡ same_types ts (more_trees (int 32) (more_trees ptr (more_trees ptr no_trees)))
fields_told no_trees = refl
fields_told (more_trees a no_trees) = and_false (same_type a (int 32)) refl
fields_told (more_trees a (more_trees b no_trees)) = and_false (same_type a (int 32)) (and_false (same_type b ptr) refl)
fields_told (more_trees a (more_trees b (more_trees c no_trees))) = λ j. number_type a j && (pointer_type b j && (pointer_type c ∙ and_true (same_type c ptr)) j)
fields_told (more_trees a (more_trees b (more_trees c (more_trees d ts)))) = and_false (same_type a (int 32)) (and_false (same_type b ptr) (and_false (same_type c ptr) refl))

pub constructor_here : (t : Types) (ty : ℕ) (packed : Bool) (fs : List ℕ) → IsGood t → slice_get t.types ty ≡ Some (type.Struct packed fs)
    → (not packed && are_constructor_types (trees_at (trees t) fs)) ≡ same_type (tree t ty) constructor_type
constructor_here t ty true fs good at = sym (ap (λ u. same_type u constructor_type) (tree_here t ty (type.Struct true fs) good at))
constructor_here t ty false fs good at = fields_told (trees_at (trees t) fs) ∙ sym (ap (λ u. same_type u constructor_type) (tree_here t ty (type.Struct false fs) good at))

pub no_constructor_here : (t : Types) (ty : ℕ) (x : IrType) → IsGood t → slice_get t.types ty ≡ Some x
    → ((packed : Bool) (parts : List ℕ) → x ≡ type.Struct packed parts → ⊥) → false ≡ same_type (tree t ty) constructor_type
no_constructor_here t ty x good at other = by x other ∙ sym (ap (λ u. same_type u constructor_type) (tree_here t ty x good at))
  where
    by : (y : IrType) → ((packed : Bool) (parts : List ℕ) → y ≡ type.Struct packed parts → ⊥) → false ≡ same_type (tree_of (names t) (trees t) y) constructor_type
    by (type.Int w) o = refl
    by type.Ptr o = refl
    by type.Void o = refl
    by (type.Array n part) o = refl
    by (type.Struct packed parts) o = absurd (o packed parts refl)
    by (type.Named id) o = refl

-- ---- a constructor

shuffle : (i n b c f : Bool) → ((i && n) && ((b && c) && f)) ≡ (n && (i && (b && (c && f))))
shuffle true true true c f = refl
shuffle true true false c f = refl
shuffle true false b c f = refl
shuffle false true b c f = refl
shuffle false false b c f = refl

module _ (m : Module) where
  abbrev rest_suits : Tree → Constants → Bool
  rest_suits a (more_constants b f (more_constants c x no_constants)) = is_integer_of 32 a && (is_pointer b && (is_pointer c && is_function_or_null m f))
  rest_suits a _ = false

  by_number : (a : Tree) (k : Constant) (cs : Constants) → (is_number k && rest_suits a cs) ≡ is_constructor m (Aggregate Braces (more_constants a k cs))
  by_number a (Integer n) no_constants = refl
  by_number a (Integer n) (more_constants b f no_constants) = refl
  by_number a (Integer n) (more_constants b f (more_constants c x no_constants)) = refl
  by_number a (Integer n) (more_constants b f (more_constants c x (more_constants d y cs))) = refl
  by_number a (Truth t) cs = refl
  by_number a Null cs = refl
  by_number a Undef cs = refl
  by_number a Poison cs = refl
  by_number a ZeroInitializer cs = refl
  by_number a (Address name) cs = refl
  by_number a (ByteString bytes) cs = refl
  by_number a (Aggregate round es) cs = refl
  by_number a (ElementAddress flags source operands) cs = refl
  by_number a (Cast opcode from value to) cs = refl
  by_number a (Binary opcode flags l left r right) cs = refl

  parts_told : (cs : Constants) → are_constructor_parts m (typed_list cs) ≡ is_constructor m (Aggregate Braces cs)
  parts_told no_constants = refl
  parts_told (more_constants a k no_constants) = and_false (is_number k) refl ∙ by_number a k no_constants
  parts_told (more_constants a k (more_constants b f no_constants)) = and_false (is_number k) refl ∙ by_number a k (more_constants b f no_constants)
  parts_told (more_constants a k (more_constants b f (more_constants c x no_constants))) =
      shuffle (is_integer_of 32 a) (is_number k) (is_pointer b) (is_pointer c) (is_function_or_null m f) ∙ by_number a k (more_constants b f (more_constants c x no_constants))
  parts_told (more_constants a k (more_constants b f (more_constants c x (more_constants d y cs)))) =
      and_false (is_number k) refl ∙ by_number a k (more_constants b f (more_constants c x (more_constants d y cs)))

-- three parts
pub three_parts : (xs : List TypedConst) (p q r : TypedConst) → length xs ≡ 3 → p ≡ get_or xs 0 p → q ≡ get_or xs 1 q → r ≡ get_or xs 2 r → xs ≡ p ∷ q ∷ r ∷ []
three_parts [] p q r n e f g = absurd (omega (arith, n))
three_parts (x ∷ []) p q r n e f g = absurd (omega (arith, n))
three_parts (x ∷ y ∷ []) p q r n e f g = absurd (omega (arith, n))
three_parts (x ∷ y ∷ z ∷ []) p q r n e f g = λ j. sym e j ∷ sym f j ∷ sym g j ∷ []
three_parts (x ∷ y ∷ z ∷ w ∷ xs) p q r n e f g = absurd (omega (arith, n))

-- more parts than three
pub many_parts : (m : Module) (ps : List Typed) → 4 ≤ length ps → false ≡ are_constructor_parts m ps
many_parts m [] le = absurd (omega (arith, le))
many_parts m (a ∷ []) le = absurd (omega (arith, le))
many_parts m (a ∷ b ∷ []) le = absurd (omega (arith, le))
many_parts m (a ∷ b ∷ c ∷ []) le = absurd (omega (arith, le))
many_parts m (a ∷ b ∷ c ∷ d ∷ ps) le = refl

module _ (a : Lists) where
  pub constructor_told : (round : the_brackets.Brackets) (es : List TypedConst)
      → (is_braces (brackets_view round) && are_constructor_parts (module_of a) (map (typed_at a) es)) ≡ is_constructor (module_of a) (constant_in a (const.Aggregate round es))
  constructor_told brackets.Square es = refl
  constructor_told brackets.Packed es = refl
  constructor_told brackets.Braces es =
      ap (are_constructor_parts (module_of a)) (sym (typed_listed a es)) ∙ parts_told (module_of a) (constants_at (trees a.table) (constants_of a) es)

  pub no_constructor : (k : the_const.Const) → ((round : the_brackets.Brackets) (es : List TypedConst) → k ≡ const.Aggregate round es → ⊥) → false ≡ is_constructor (module_of a) (constant_in a k)
  no_constructor (const.Integer n) o = refl
  no_constructor (const.Truth b) o = refl
  no_constructor const.Null o = refl
  no_constructor const.Undef o = refl
  no_constructor const.Poison o = refl
  no_constructor const.ZeroInitializer o = refl
  no_constructor (const.Address g) o = refl
  no_constructor (const.ByteString bytes) o = refl
  no_constructor (const.Aggregate round es) o = absurd (o round es refl)
  no_constructor (const.ElementAddress f address) o = refl
  no_constructor (const.Cast opcode x to) o = refl
  no_constructor (const.Binary opcode f pair) o = refl

  pub no_function : (k : the_const.Const) → ((g : GlobalId) → k ≡ const.Address g → ⊥) → (k ≡ const.Null → ⊥) → false ≡ is_function_or_null (module_of a) (constant_in a k)
  no_function (const.Integer n) o p = refl
  no_function (const.Truth b) o p = refl
  no_function const.Null o p = absurd (p refl)
  no_function const.Undef o p = refl
  no_function const.Poison o p = refl
  no_function const.ZeroInitializer o p = refl
  no_function (const.Address g) o p = absurd (o g refl)
  no_function (const.ByteString bytes) o p = refl
  no_function (const.Aggregate round es) o p = refl
  no_function (const.ElementAddress f address) o p = refl
  no_function (const.Cast opcode x to) o p = refl
  no_function (const.Binary opcode f pair) o p = refl

  -- ---- a list of constructors

  pub no_list : (k : the_const.Const) → ((round : the_brackets.Brackets) (es : List TypedConst) → k ≡ const.Aggregate round es → ⊥) → (k ≡ const.ZeroInitializer → ⊥)
      → false ≡ lists_constructors (module_of a) (Some (constant_in a k))
  no_list (const.Integer n) o p = refl
  no_list (const.Truth b) o p = refl
  no_list const.Null o p = refl
  no_list const.Undef o p = refl
  no_list const.Poison o p = refl
  no_list const.ZeroInitializer o p = absurd (p refl)
  no_list (const.Address g) o p = refl
  no_list (const.ByteString bytes) o p = refl
  no_list (const.Aggregate round es) o p = absurd (o round es refl)
  no_list (const.ElementAddress f address) o p = refl
  no_list (const.Cast opcode x to) o p = refl
  no_list (const.Binary opcode f pair) o p = refl

  and_assoc : (x y z : Bool) → ((x && y) && z) ≡ (x && (y && z))
  and_assoc true y z = refl
  and_assoc false y z = refl

  pub list_told : (es : List TypedConst) → list_all (is_constructor_at a) es ≡ are_constructors (module_of a) (constants_at (trees a.table) (constants_of a) es)
  list_told [] = refl
  list_told (e ∷ es) =
      and_assoc (same_type (typed_at a e).0 constructor_type) (is_constructor (module_of a) (typed_at a e).1) (list_all (is_constructor_at a) es)
      ∙ ap (λ b. same_type (typed_at a e).0 constructor_type && (is_constructor (module_of a) (typed_at a e).1 && b)) (list_told es)

-- the constants in a list of the arena are of it
pub elements_known : (a : Lists) → IsGoodArena a → (id : ℕ) (k : the_const.Const) (round : the_brackets.Brackets) (es : List TypedConst) → slice_get a.constants id ≡ Some k → k ≡ const.Aggregate round es
    → All (λ (x : TypedConst). (x.ty < length a.table.types) × (x.value < length a.constants)) es
elements_known a good id k round es at is =
    let within = slice_get_within a.constants id k at in
    subst (λ (c : the_const.Const). All (λ (x : TypedConst). (x.ty < length a.table.types) × (x.value < length a.constants)) (typed_in c)) is
    (const_weaker (length a.table.types) (counts a) id (length a.constants) k (omega (arith, within)) (const_known a good id k at)).typed_known
