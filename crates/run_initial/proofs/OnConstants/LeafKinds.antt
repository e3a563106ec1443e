-- Kinds of leaves, and constants of one leaf.
use Rattle.std.proofs.Common.{◌≡◌, ℕ, ◌^◌, ◌<◌, List, [], ◌∷◌, Bool, true, false, ◌||◌, Option, Some, None, refl, sym, ap, subst, true≢false, ltb-true, eqb-true, lit<, unwrap_or}
use Rattle.std.specs.Prelude.{if◌then◌else◌, ℤ}
use Rattle.std.proofs.lemmas.Nat.{pow_pos}
use Rattle.ir_tables.specs.declared.opcode.Opcode.{Opcode}
use Rattle.ir_tables.specs.declared.opcode.Opcode.TheVariants.{Trunc, ZExt, SExt, PtrToInt, IntToPtr, Add, Sub, Xor}
use Rattle.ir_eval.specs.declared.value.Pointer.{Pointer}
use Rattle.ir_eval.specs.declared.value.Scalar.{Scalar}
use Rattle.ir_eval.specs.declared.value.Scalar.TheVariants as scalar
use Rattle.ir_eval.specs.Cast.{IsCast, IsCastTo}
use Rattle.ir_eval.specs.Operators.{is_binary}
use Rattle.ir_eval.specs.Value.{IsInteger, IsPointer}
use Rattle.ir_memory.specs.declared.leaf.Leaf.{Leaf}
use Rattle.ir_memory.specs.declared.leaf.Leaf.TheVariants as leaf
use Rattle.type_table.specs.Shape.{Shape, void_leaf, shape}
use Rattle.type_table.specs.Tree.{Tree, int, ptr, Structs}
use Rattle.type_table.specs.Types.{structs, tree}
use Rattle.module_arena.specs.Constants.{is_cast_between, parts_fit, nothing}
use Rattle.module_arena.specs.Forms.{is_constant_binary}
use Rattle.module_arena.specs.Lists.{Lists}
use Rattle.module_arena.specs.Module.{Brackets, Bytes, Square, Braces, Packed, Constant, Integer, Truth, Null, Undef, Poison, ZeroInitializer, Address, ByteString, Aggregate, ElementAddress, Cast, Binary, Constants, no_constants, more_constants, Module}
use Rattle.module_arena.specs.TypeTests.{is_integer, is_integer_of, is_pointer}
use Rattle.module_arena.specs.View.{module_of}
use Rattle.linkage_rules.specs.Bind.{Bound}
use Rattle.linkage_rules.specs.Bind as bound
use Rattle.linkage_rules.specs.Entries.{symbol_in}
use Rattle.linkage_rules.specs.declared.symbol.Symbol.{Symbol}
use Rattle.run_names.specs.Told.{alone}
use Rattle.run_names.proofs.Arena.{structs_are}
use Rattle.run_rules.specs.Constant.{Names, constant_value, element_address, one_leaf, shape_of}
use Rattle.run_rules.specs.Constant as rules
use Rattle.run_rules.specs.Displace.{TermIndex, displaced, displaced_by, known, leaves_block, moved_to, reach_of, terms_of}
use Rattle.run_rules.specs.Leaves.{zero_leaf}
use Rattle.run_rules.specs.Look as look
use Rattle.run_names.specs.Shapes.Shapes.{shape_in}
use Rattle.run_initial.specs.Constants.Sound.{HasType, IsOfKind, IsSound, is_scalar, is_single, leaf_tree, names_of, width_of}
use Rattle.run_initial.proofs.OnConstants.Sounds.{address_sound, binary_sound, cast_sound, number_in_range}

-- ---- kinds

pub kind_has : (k : Leaf) (v : Scalar) → IsOfKind k v → HasType (leaf_tree k) v
kind_has (leaf.Int w) v h = h
kind_has leaf.Ptr v h = h

pub kind_is : (k : Leaf) (v : Scalar) → HasType (leaf_tree k) v → IsOfKind k v
kind_is (leaf.Int w) v h = h
kind_is leaf.Ptr v h = h

pub width_is : (names : Names) (k : Leaf) → rules.width_of names (leaf_tree k) ≡ width_of k
width_is names (leaf.Int w) = refl
width_is names leaf.Ptr = refl

pub poison_kind : (k : Leaf) → IsOfKind k scalar.Poison
poison_kind (leaf.Int w) = tt
poison_kind leaf.Ptr = tt

pub zero_kind : (k : Leaf) → IsOfKind k (zero_leaf k)
zero_kind (leaf.Int w) = pow_pos w
zero_kind leaf.Ptr = tt

pub integer_of : (k : Leaf) (v : Scalar) → is_integer (leaf_tree k) ≡ true → IsOfKind k v → IsInteger (width_of k) v
integer_of (leaf.Int w) v is h = h
integer_of leaf.Ptr v is h = absurd (true≢false (sym is))

pub of_integer : (k : Leaf) (v : Scalar) → is_integer (leaf_tree k) ≡ true → IsInteger (width_of k) v → IsOfKind k v
of_integer (leaf.Int w) v is h = h
of_integer leaf.Ptr v is h = absurd (true≢false (sym is))

pub pointer_of : (k : Leaf) (v : Scalar) → is_pointer (leaf_tree k) ≡ true → IsPointer v → IsOfKind k v
pointer_of (leaf.Int w) v is h = absurd (true≢false (sym is))
pointer_of leaf.Ptr v is h = h

-- an integer type is one of one leaf, and so is that of a cast
pub integer_scalar : (t : Tree) → is_integer t ≡ true → is_scalar t ≡ true
integer_scalar t h = ap (λ b. b || is_pointer t) h

pub pointer_scalar : (t : Tree) → is_pointer t ≡ true → is_scalar t ≡ true
pointer_scalar ptr h = refl
pointer_scalar _ h = absurd (true≢false (sym h))

pub cast_scalars : (op : Opcode) (from to : Tree) → is_cast_between op from to ≡ true → (is_scalar from ≡ true) × (is_scalar to ≡ true)
cast_scalars Trunc (int a) (int b) h = (refl, refl)
cast_scalars ZExt (int a) (int b) h = (refl, refl)
cast_scalars SExt (int a) (int b) h = (refl, refl)
cast_scalars PtrToInt ptr (int b) h = (refl, refl)
cast_scalars IntToPtr (int a) ptr h = (refl, refl)
cast_scalars _ from to h = absurd (true≢false (sym h))

-- what a cast asks for and what it gives
pub cast_asked : (op : Opcode) (from to : Leaf) (v : Scalar) → is_cast_between op (leaf_tree from) (leaf_tree to) ≡ true → IsOfKind from v → IsCast op (width_of from) (width_of to) v
cast_asked Trunc (leaf.Int a) (leaf.Int b) v h k = (ltb-true b a h, k)
cast_asked ZExt (leaf.Int a) (leaf.Int b) v h k = (ltb-true a b h, k)
cast_asked SExt (leaf.Int a) (leaf.Int b) v h k = (ltb-true a b h, k)
cast_asked PtrToInt leaf.Ptr (leaf.Int b) v h k = (refl, k)
cast_asked IntToPtr (leaf.Int a) leaf.Ptr v h k = (refl, k)
cast_asked _ from to v h k = absurd (true≢false (sym h))

pub cast_given : (op : Opcode) (from to : Leaf) (v : Scalar) → is_cast_between op (leaf_tree from) (leaf_tree to) ≡ true → IsCastTo op (width_of to) v → IsOfKind to v
cast_given Trunc (leaf.Int a) (leaf.Int b) v h k = k
cast_given ZExt (leaf.Int a) (leaf.Int b) v h k = k
cast_given SExt (leaf.Int a) (leaf.Int b) v h k = k
cast_given PtrToInt leaf.Ptr (leaf.Int b) v h k = k
cast_given IntToPtr (leaf.Int a) leaf.Ptr v h k = k
cast_given _ from to v h k = absurd (true≢false (sym h))

pub binary_asked : (op : Opcode) → is_constant_binary op ≡ true → is_binary op ≡ true
binary_asked Add h = refl
binary_asked Sub h = refl
binary_asked Xor h = refl
binary_asked _ h = absurd (true≢false (sym h))

-- ---- types of the table

module _ (a : Lists) where
  pub shape_is : (ty : ℕ) → shape_of (names_of a) (tree a.table ty) ≡ shape_in a.table ty
  shape_is ty = ap (λ (ss : Structs). unwrap_or (shape ss (tree a.table ty)) void_leaf) (structs_are a)

-- ---- addresses

address_pointer : (parts : List Module) (s : Symbol) (b : Bound) → IsPointer (look.leaf_of parts s b)
address_pointer parts s (bound.Definition e) = tt
address_pointer parts s (bound.Appended symbol) = tt
address_pointer parts s (bound.Host name) = tt
address_pointer parts s bound.Null = tt
address_pointer parts s bound.Unresolved = tt

pub address_kind : (a : Lists) (name : Bytes) → IsPointer ((names_of a).address name)
address_kind a name = address_pointer (alone (module_of a)) (symbol_in (alone (module_of a)) 0 name) (bound.meaning (alone (module_of a)) (symbol_in (alone (module_of a)) 0 name))

displaced_pointer : (bounds : Pointer → Option (ℕ × ℕ)) (inbounds : Bool) (base : Scalar) (distance : Option ℤ) → IsPointer (displaced bounds inbounds base distance)
displaced_pointer bounds inbounds (scalar.Int n) distance = tt
displaced_pointer bounds inbounds scalar.Poison distance = tt
displaced_pointer bounds inbounds (scalar.Ptr p) None = tt
displaced_pointer bounds inbounds (scalar.Ptr p) (Some d) = go (if inbounds then bounds p else None)
  where
    choice : (b : Bool) (q : Pointer) → IsPointer (if b then scalar.Poison else scalar.Ptr q)
    choice true q = tt
    choice false q = tt

    go : (o : Option (ℕ × ℕ)) → IsPointer (displaced_by p d o)
    go o = choice (leaves_block p _ o) (moved_to p _)

pub moved_pointer : (names : Names) (inbounds : Bool) (source : Shape) (is : List TermIndex) → IsPointer (element_address names inbounds source is)
moved_pointer names inbounds source [] = tt
moved_pointer names inbounds source (base ∷ is) = displaced_pointer names.bounds inbounds (known base.origin) (reach_of known (terms_of source is))

-- ---- constants of one leaf

module _ (m : Module) where
  pub number_kind : (k : Leaf) (n : ℕ) → IsSound m (leaf_tree k) (Integer n) → IsOfKind k (scalar.Int n)
  number_kind (leaf.Int w) n s = ltb-true n (2 ^ w) (number_in_range m (int w) n s)
  number_kind leaf.Ptr n s = absurd (true≢false (sym s.fits))

  pub truth_kind : (k : Leaf) (b : Bool) → IsSound m (leaf_tree k) (Truth b) → IsOfKind k (scalar.Int (if b then 1 else 0))
  truth_kind (leaf.Int w) b s = subst (λ (n : ℕ). IsInteger n (scalar.Int (if b then 1 else 0))) (sym (eqb-true w 1 s.fits)) (small b)
    where
      small : (b : Bool) → (if b then 1 else 0) < 2 ^ 1
      small true = lit< tt
      small false = lit< tt
  truth_kind leaf.Ptr b s = absurd (true≢false (sym s.fits))

  pub null_kind : (k : Leaf) → IsSound m (leaf_tree k) Null → IsOfKind k (zero_leaf leaf.Ptr)
  null_kind k s = pointer_of k (zero_leaf leaf.Ptr) s.fits tt

  pub no_bytes : (k : Leaf) (bytes : Bytes) → IsSound m (leaf_tree k) (ByteString bytes) → ⊥
  no_bytes (leaf.Int w) bytes s = true≢false (sym s.fits)
  no_bytes leaf.Ptr bytes s = true≢false (sym s.fits)

  none_fit : (structs : Structs) (cs : Constants) → parts_fit structs nothing cs ≡ true → ⊥
  none_fit structs no_constants h = true≢false (sym h)
  none_fit structs (more_constants t c cs) h = true≢false (sym h)

  pub no_list : (k : Leaf) (b : Brackets) (cs : Constants) → IsSound m (leaf_tree k) (Aggregate b cs) → ⊥
  no_list (leaf.Int w) Square cs s = none_fit m.structs cs s.fits
  no_list (leaf.Int w) Braces cs s = none_fit m.structs cs s.fits
  no_list (leaf.Int w) Packed cs s = none_fit m.structs cs s.fits
  no_list leaf.Ptr Square cs s = none_fit m.structs cs s.fits
  no_list leaf.Ptr Braces cs s = none_fit m.structs cs s.fits
  no_list leaf.Ptr Packed cs s = none_fit m.structs cs s.fits

pub truth_leaf : (names : Names) (t : Tree) (b : Bool) → scalar.Int (if b then 1 else 0) ≡ one_leaf (constant_value names t (Truth b))
truth_leaf names t true = refl
truth_leaf names t false = refl

pub zero_value : (names : Names) (k : Leaf) → zero_leaf k ≡ one_leaf (constant_value names (leaf_tree k) ZeroInitializer)
zero_value names (leaf.Int w) = refl
zero_value names leaf.Ptr = refl

pub poison_value : (names : Names) (k : Leaf) → scalar.Poison ≡ one_leaf (constant_value names (leaf_tree k) Poison)
poison_value names (leaf.Int w) = refl
poison_value names leaf.Ptr = refl

-- a constant of one leaf whatever its type is that leaf
pub single_is : (names : Names) (t : Tree) (c : Constant) → is_single c ≡ true → one_leaf (constant_value names t c) ∷ [] ≡ constant_value names t c
single_is names t (Integer n) h = refl
single_is names t (Truth true) h = refl
single_is names t (Truth false) h = refl
single_is names t Null h = refl
single_is names t Undef h = absurd (true≢false (sym h))
single_is names t Poison h = absurd (true≢false (sym h))
single_is names t ZeroInitializer h = absurd (true≢false (sym h))
single_is names t (Address name) h = refl
single_is names t (ByteString bytes) h = absurd (true≢false (sym h))
single_is names t (Aggregate b cs) h = absurd (true≢false (sym h))
single_is names t (ElementAddress flags source cs) h = refl
single_is names t (Cast op from value to) h = refl
single_is names t (Binary op flags x left y right) h = refl

-- and its type is one of one leaf
pub single_scalar : (m : Module) (t : Tree) (c : Constant) → is_single c ≡ true → IsSound m t c → is_scalar t ≡ true
single_scalar m t (Integer n) h s = integer_scalar t s.fits
single_scalar m t (Truth b) h s = truth t s.fits
  where
    truth : (t : Tree) → is_integer_of 1 t ≡ true → is_scalar t ≡ true
    truth (int w) k = refl
    truth _ k = absurd (true≢false (sym k))
single_scalar m t Null h s = pointer_scalar t s.fits
single_scalar m t (Address name) h s = pointer_scalar t s.fits
single_scalar m t (ElementAddress flags source cs) h s = pointer_scalar t (address_sound m t flags source cs s).pointer
single_scalar m t (Cast op from value to) h s = let c = cast_sound m t op from value to s in subst (λ (x : Tree). is_scalar x ≡ true) (sym c.same) (cast_scalars op from to c.between).1
single_scalar m t (Binary op flags x left y right) h s = integer_scalar t (binary_sound m t op flags x left y right s).integer
single_scalar m t Undef h s = absurd (true≢false (sym h))
single_scalar m t Poison h s = absurd (true≢false (sym h))
single_scalar m t ZeroInitializer h s = absurd (true≢false (sym h))
single_scalar m t (ByteString bytes) h s = absurd (true≢false (sym h))
single_scalar m t (Aggregate b cs) h s = absurd (true≢false (sym h))
