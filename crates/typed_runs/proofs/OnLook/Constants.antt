-- Constants that are no lists have leaves of their types.
use Rattle.std.proofs.Common.{◌≡◌, ℕ, ◌-◌, is_some, ◌+◌, ◌^◌, List, [], ◌∷◌, ◌++◌, length, map, refl, sym, ap, ◌∙◌, subst, Bool, true, false, ◌&&◌, ◌==◌, nat_lt, Result, Ok, Err, true≢false, ltb-true, eqb-true, lit<}
use Rattle.std.specs.Prelude.{IfOk}
use Rattle.std.specs.List.{AllZip, list_all}
use Rattle.std.proofs.lemmas.Bool.{and_parts}
use Rattle.std.proofs.lemmas.Nat.{pow_pos}
use Rattle.ir_tables.specs.declared.opcode.Opcode.{Opcode}
use Rattle.ir_tables.specs.declared.opcode.Opcode.TheVariants.{Trunc, ZExt, SExt, PtrToInt, IntToPtr}
use Rattle.ir_tables.specs.declared.undefined_kind.UndefinedKind.{UndefinedKind}
use Rattle.ir_eval.specs.declared.value.Scalar.{Scalar}
use Rattle.ir_eval.specs.declared.value.Scalar.TheVariants as scalar
use Rattle.ir_memory.specs.declared.leaf.Leaf.{Leaf}
use Rattle.ir_memory.specs.declared.leaf.Leaf.TheVariants as leaf
use Rattle.type_table.specs.Shape.{Shape, int_leaf, shape}
use Rattle.type_table.specs.Layout.{size}
use Rattle.type_table.specs.Tree.{Tree, int, ptr, void, array, struct, named, no_trees, more_trees}
use Rattle.module_arena.specs.TypeTests.{is_integer, is_integer_of, is_pointer}
use Rattle.ir_tables.specs.declared.flag.Flag.TheVariants.{Inbounds}
use Rattle.ir_tables.specs.Flags.{has_flag}
use Rattle.ir_eval.specs.Operators.{binary_of}
use Rattle.module_arena.specs.Constants.{Typed, is_bytes_of, constants_in, constants_of, is_cast_between, fits, Expected, expected, each, these, nothing, parts_fit, as_written, element_operands_fit, indices_fit, index_constants}
use Rattle.module_arena.specs.Module.{Bytes, Constant, Integer, Truth, Null, Undef, Poison, ZeroInitializer, Address, ByteString, Aggregate, ElementAddress, Cast, Binary, Constants, no_constants, more_constants}
use Rattle.module_arena.specs.Same.{same_type}
use Rattle.module_arena.specs.WellFormed.{is_in_range}
use Rattle.run_rules.specs.Displace.{known, reach_of, terms_of}
use Rattle.module_arena.specs.TypeTests.{opened}
use Rattle.typed_runs.proofs.OnLook.Lists.{HaveTypes, list_typed}
use Rattle.typed_runs.proofs.Values.{binary_typed, cast_typed, displaced_typed}
use Rattle.module_arena.proofs.SameValues.{type_is}
use Rattle.run_rules.specs.Constant.{Names, shape_of, width_of, one_leaf, or_poison, constant_value, constant_indices}
use Rattle.run_rules.specs.Leaves.{Slot, slots, slots_at, repeated, zeros, poisons, zero_leaf}
use Rattle.typed_runs.specs.Actions.{AreCastWidths, cast_from, cast_to}
use Rattle.typed_runs.specs.Kinds.{IsOf, kinds_of}

module _ (count : ℕ) where
  -- a value of zeros, and one of poison
  zeros_of : (ss : List Slot) → AllZip (IsOf count) (map (λ s. s.leaf) ss) (map (λ s. zero_leaf s.leaf) ss)
  zeros_of [] = tt
  zeros_of (s ∷ ss) = (zero_of s.leaf, zeros_of ss)
    where
      zero_of : (l : Leaf) → IsOf count l (zero_leaf l)
      zero_of (leaf.Int w) = pow_pos w
      zero_of leaf.Ptr = tt

  pub zeros_typed : (s : Shape) → AllZip (IsOf count) (kinds_of s) (zeros s)
  zeros_typed s = zeros_of (slots s)

  poisons_of : (ss : List Slot) → AllZip (IsOf count) (map (λ s. s.leaf) ss) (map (λ s. scalar.Poison) ss)
  poisons_of [] = tt
  poisons_of (s ∷ ss) = (tt, poisons_of ss)

  pub poisons_typed : (s : Shape) → AllZip (IsOf count) (kinds_of s) (poisons s)
  poisons_typed s = poisons_of (slots s)

  -- the one leaf of a scalar
  pub one_leaf_typed : (kind : Leaf) (vs : List Scalar) → AllZip (IsOf count) (kind ∷ []) vs → IsOf count kind (one_leaf vs)
  one_leaf_typed kind [] h = absurd h
  one_leaf_typed kind (v ∷ vs) h = h.0

  pub or_poison_typed : (kind : Leaf) (r : Result Scalar UndefinedKind) → IfOk r (IsOf count kind) → IsOf count kind (or_poison r)
  or_poison_typed kind (Ok v) h = h
  or_poison_typed kind (Err e) h = tt

-- what tests of types say
pub integer_is : (t : Tree) → is_integer t ≡ true → (w : ℕ) × (t ≡ int w)
integer_is (int w) h = (w, refl)
integer_is ptr h = absurd (true≢false (sym h))
integer_is void h = absurd (true≢false (sym h))
integer_is (array n t) h = absurd (true≢false (sym h))
integer_is (struct packed ts) h = absurd (true≢false (sym h))
integer_is (named name) h = absurd (true≢false (sym h))

pub integer_of_is : (width : ℕ) (t : Tree) → is_integer_of width t ≡ true → t ≡ int width
integer_of_is width (int w) h = ap int (eqb-true w width h)
integer_of_is width ptr h = absurd (true≢false (sym h))
integer_of_is width void h = absurd (true≢false (sym h))
integer_of_is width (array n t) h = absurd (true≢false (sym h))
integer_of_is width (struct packed ts) h = absurd (true≢false (sym h))
integer_of_is width (named name) h = absurd (true≢false (sym h))

pub pointer_is : (t : Tree) → is_pointer t ≡ true → t ≡ ptr
pointer_is (int w) h = absurd (true≢false (sym h))
pointer_is ptr h = refl
pointer_is void h = absurd (true≢false (sym h))
pointer_is (array n t) h = absurd (true≢false (sym h))
pointer_is (struct packed ts) h = absurd (true≢false (sym h))
pointer_is (named name) h = absurd (true≢false (sym h))

-- a cast between types that it is for has the widths and kinds that it goes between
pub record IsCastOf (names : Names) (opcode : Opcode) (from to : Tree) : Type 0 where
  pub widths : AreCastWidths opcode (width_of names from) (width_of names to)
  pub takes : kinds_of (shape_of names from) ≡ cast_from opcode (width_of names from) ∷ []
  pub makes : kinds_of (shape_of names to) ≡ cast_to opcode (width_of names to) ∷ []

pub cast_suits : (names : Names) (opcode : Opcode) (from to : Tree) → is_cast_between opcode from to ≡ true → IsCastOf names opcode from to
cast_suits names Trunc (int a) (int b) h = record { widths = ltb-true b a h; takes = refl; makes = refl }
cast_suits names ZExt (int a) (int b) h = record { widths = ltb-true a b h; takes = refl; makes = refl }
cast_suits names SExt (int a) (int b) h = record { widths = ltb-true a b h; takes = refl; makes = refl }
cast_suits names PtrToInt ptr (int b) h = record { widths = refl; takes = refl; makes = refl }
cast_suits names IntToPtr (int a) ptr h = record { widths = refl; takes = refl; makes = refl }
cast_suits names _ from to h = absurd (true≢false (sym h))

-- ---- byte strings

bytes_zip : (count : ℕ) (bytes : Bytes) (at step : ℕ) → list_all (λ b. nat_lt b 256) bytes ≡ true → AllZip (IsOf count) (map (λ (s : Slot). s.leaf) (repeated (length bytes) (slots_at (int_leaf 8)) at step)) (map scalar.Int bytes)
unfolding repeated
bytes_zip count [] at step h = tt
bytes_zip count (b ∷ bytes) at step h =
    let p = and_parts (nat_lt b 256) (list_all (λ b. nat_lt b 256) bytes) h in
    (ltb-true b 256 p.0, bytes_zip count bytes (at + step) step p.1)

pub bytes_of : (count : ℕ) (t : Tree) → is_bytes_of count t ≡ true → t ≡ array count (int 8)
bytes_of count (array n u) h =
    let p = and_parts (n == count) (is_integer_of 8 u) h in
    ap (λ (m : ℕ). array m u) (eqb-true n count p.0) ∙ ap (array count) (integer_of_is 8 u p.1)
bytes_of count (int w) h = absurd (true≢false (sym h))
bytes_of count ptr h = absurd (true≢false (sym h))
bytes_of count void h = absurd (true≢false (sym h))
bytes_of count (struct packed ts) h = absurd (true≢false (sym h))
bytes_of count (named name) h = absurd (true≢false (sym h))

-- ---- the constants

pub front_all : {X : Type 0} (p : X → Bool) (xs ys : List X) → list_all p (xs ++ ys) ≡ true → list_all p xs ≡ true
front_all p [] ys h = refl
front_all p (x ∷ xs) ys h = let q = and_parts (p x) (list_all p (xs ++ ys)) h in ap (λ t. t && list_all p xs) q.0 ∙ front_all p xs ys q.1

pub back_all : {X : Type 0} (p : X → Bool) (xs ys : List X) → list_all p (xs ++ ys) ≡ true → list_all p ys ≡ true
back_all p [] ys h = h
back_all p (x ∷ xs) ys h = back_all p xs ys (and_parts (p x) (list_all p (xs ++ ys)) h).1

-- a number is in the range of its type, and the type has a shape
abbrev pub is_sound : Names → Typed → Bool
is_sound names x = is_in_range x.0 x.1 && is_some (shape names.structs x.0)

-- so of each constant within
abbrev pub AreSound : Names → List Typed → Type 0
AreSound names cs = list_all (is_sound names) cs ≡ true

module _ (names : Names) (count : ℕ) (addresses : (name : Bytes) → IsOf count leaf.Ptr (names.address name)) where
  abbrev pub HasType : Tree → Constant → Type 0
  HasType t c = AllZip (IsOf count) (kinds_of (shape_of names t)) (constant_value names t c)

  integer_typed : (t : Tree) (n : ℕ) → is_integer t ≡ true → is_in_range t (Integer n) ≡ true → HasType t (Integer n)
  integer_typed t n h r =
      let i = integer_is t h in
      subst (λ t. HasType t (Integer n)) (sym i.1) (ltb-true n (2 ^ i.0) (subst (λ t. is_in_range t (Integer n) ≡ true) i.1 r), tt)

  truth_typed : (b : Bool) → HasType (int 1) (Truth b)
  truth_typed true = (lit< tt, tt)
  truth_typed false = (lit< tt, tt)

  mutual
    pub constant_typed : (t : Tree) (c : Constant) → fits names.structs t c ≡ true → AreSound names (constants_in t c) → HasType t c
    constant_typed t (Integer n) h r = integer_typed t n h (and_parts (is_in_range t (Integer n)) (is_some (shape names.structs t)) (and_parts (is_sound names (t, Integer n)) true r).0).0
    constant_typed t (Truth b) h r = subst (λ t. HasType t (Truth b)) (sym (integer_of_is 1 t h)) (truth_typed b)
    constant_typed t Null h r = subst (λ t. HasType t Null) (sym (pointer_is t h)) (tt, tt)
    constant_typed t Undef h r = zeros_typed count (shape_of names t)
    constant_typed t Poison h r = poisons_typed count (shape_of names t)
    constant_typed t ZeroInitializer h r = zeros_typed count (shape_of names t)
    constant_typed t (Address name) h r = subst (λ t. HasType t (Address name)) (sym (pointer_is t h)) (addresses name, tt)
    constant_typed t (ByteString bytes) h r =
        subst (λ t. HasType t (ByteString bytes)) (sym (bytes_of (length bytes) t h))
        (bytes_zip count bytes 0 (size (int_leaf 8)) (subst (λ t. is_in_range t (ByteString bytes) ≡ true) (bytes_of (length bytes) t h) (and_parts (is_in_range t (ByteString bytes)) (is_some (shape names.structs t)) (and_parts (is_sound names (t, ByteString bytes)) true r).0).0))
    constant_typed t (Aggregate b cs) h r =
        let p = and_parts (is_sound names (t, Aggregate b cs)) (list_all (is_sound names) (constants_of cs)) r in
        list_typed names count t b cs (and_parts (is_in_range t (Aggregate b cs)) (is_some (shape names.structs t)) p.0).1 h (have_types (expected b (opened names.structs t)) cs h p.1)
    constant_typed t (ElementAddress flags source no_constants) h r =
        absurd (true≢false (sym (and_parts false (parts_fit names.structs as_written no_constants) (and_parts (is_pointer t) (false && parts_fit names.structs as_written no_constants) h).1).0))
    constant_typed t (ElementAddress flags source (more_constants u base indices)) h r =
        let c = ElementAddress flags source (more_constants u base indices) in
        let p = and_parts (is_pointer t) (element_operands_fit names.structs source (more_constants u base indices) && parts_fit names.structs as_written (more_constants u base indices)) h in
        let q = and_parts (element_operands_fit names.structs source (more_constants u base indices)) (parts_fit names.structs as_written (more_constants u base indices)) p.1 in
        let based = (and_parts (is_pointer u) (indices_fit names.structs source (index_constants indices)) q.0).0 in
        let fit = (and_parts (fits names.structs u base) (parts_fit names.structs as_written indices) q.1).0 in
        let ranges = front_all (is_sound names) (constants_in u base) (constants_of indices) (and_parts (is_sound names (t, c)) (list_all (is_sound names) (constants_in u base ++ constants_of indices)) r).1 in
        let inner = constant_typed u base fit ranges in
        let leaf_typed : IsOf count leaf.Ptr (one_leaf (constant_value names u base)) = one_leaf_typed count leaf.Ptr (constant_value names u base) (subst (λ s. AllZip (IsOf count) (kinds_of (shape_of names s)) (constant_value names u base)) (pointer_is u based) inner) in
        subst (λ s. AllZip (IsOf count) (kinds_of (shape_of names s)) (constant_value names t c)) (sym (pointer_is t p.0))
        (displaced_typed count names.bounds (has_flag flags Inbounds) (one_leaf (constant_value names u base)) (reach_of known (terms_of (shape_of names source) (constant_indices names indices))) leaf_typed, tt)
    constant_typed t (Cast opcode from value to) h r =
        let c = Cast opcode from value to in
        let p = and_parts (same_type t to) (is_cast_between opcode from to && fits names.structs from value) h in
        let q = and_parts (is_cast_between opcode from to) (fits names.structs from value) p.1 in
        let suits = cast_suits names opcode from to q.0 in
        let inner = constant_typed from value q.1 (and_parts (is_sound names (t, c)) (list_all (is_sound names) (constants_in from value)) r).1 in
        let one = one_leaf_typed count (cast_from opcode (width_of names from)) (constant_value names from value) (subst (λ ks. AllZip (IsOf count) ks (constant_value names from value)) suits.takes inner) in
        subst (λ s. AllZip (IsOf count) (kinds_of (shape_of names s)) (constant_value names t c)) (sym (type_is t to p.0))
        (subst (λ ks. AllZip (IsOf count) ks (constant_value names t c)) (sym suits.makes)
        (cast_typed count opcode 0 (width_of names from) (width_of names to) (one_leaf (constant_value names from value)) suits.widths one, tt))
    constant_typed t (Binary opcode flags a left b right) h r =
        let c = Binary opcode flags a left b right in
        let p = and_parts (is_integer t) (same_type t a && (same_type t b && (fits names.structs a left && fits names.structs b right))) h in
        let q = and_parts (same_type t a) (same_type t b && (fits names.structs a left && fits names.structs b right)) p.1 in
        let s = and_parts (same_type t b) (fits names.structs a left && fits names.structs b right) q.1 in
        let u = and_parts (fits names.structs a left) (fits names.structs b right) s.1 in
        let i = integer_is t p.0 in
        let a_is : a ≡ int i.0 = sym (type_is t a q.0) ∙ i.1 in
        let b_is : b ≡ int i.0 = sym (type_is t b s.0) ∙ i.1 in
        let ranges = (and_parts (is_sound names (t, c)) (list_all (is_sound names) (constants_in a left ++ constants_in b right)) r).1 in
        let first = constant_typed a left u.0 (front_all (is_sound names) (constants_in a left) (constants_in b right) ranges) in
        let second = constant_typed b right u.1 (back_all (is_sound names) (constants_in a left) (constants_in b right) ranges) in
        let one = one_leaf_typed count (leaf.Int i.0) (constant_value names a left) (subst (λ s. AllZip (IsOf count) (kinds_of (shape_of names s)) (constant_value names a left)) a_is first) in
        let two = one_leaf_typed count (leaf.Int i.0) (constant_value names b right) (subst (λ s. AllZip (IsOf count) (kinds_of (shape_of names s)) (constant_value names b right)) b_is second) in
        let width : width_of names a ≡ i.0 = ap (width_of names) a_is in
        subst (λ s. AllZip (IsOf count) (kinds_of (shape_of names s)) (constant_value names t c)) (sym i.1) (
          or_poison_typed count (leaf.Int i.0) (binary_of opcode flags (width_of names a) (one_leaf (constant_value names a left)) (one_leaf (constant_value names b right)))
              (subst (λ w. IfOk (binary_of opcode flags w (one_leaf (constant_value names a left)) (one_leaf (constant_value names b right))) (IsOf count (leaf.Int i.0))) (sym width)
              (binary_typed count opcode flags i.0 (one_leaf (constant_value names a left)) (one_leaf (constant_value names b right)) one two)),
          tt,
        )

    -- each part of a list
    have_types : (x : Expected) (cs : Constants) → parts_fit names.structs x cs ≡ true → AreSound names (constants_of cs) → HaveTypes names count cs
    have_types x no_constants h r = tt
    have_types (each n u) (more_constants v c cs) h r =
        let p = and_parts (nat_lt 0 n) (same_type u v && (fits names.structs v c && parts_fit names.structs (each (n - 1) u) cs)) h in
        let q = and_parts (same_type u v) (fits names.structs v c && parts_fit names.structs (each (n - 1) u) cs) p.1 in
        let s = and_parts (fits names.structs v c) (parts_fit names.structs (each (n - 1) u) cs) q.1 in
        (constant_typed v c s.0 (front_all (is_sound names) (constants_in v c) (constants_of cs) r), have_types (each (n - 1) u) cs s.1 (back_all (is_sound names) (constants_in v c) (constants_of cs) r))
    have_types (these no_trees) (more_constants v c cs) h r = absurd (true≢false (sym h))
    have_types (these (more_trees u ts)) (more_constants v c cs) h r =
        let q = and_parts (same_type u v) (fits names.structs v c && parts_fit names.structs (these ts) cs) h in
        let s = and_parts (fits names.structs v c) (parts_fit names.structs (these ts) cs) q.1 in
        (constant_typed v c s.0 (front_all (is_sound names) (constants_in v c) (constants_of cs) r), have_types (these ts) cs s.1 (back_all (is_sound names) (constants_in v c) (constants_of cs) r))
    have_types as_written (more_constants v c cs) h r =
        let s = and_parts (fits names.structs v c) (parts_fit names.structs as_written cs) h in
        (constant_typed v c s.0 (front_all (is_sound names) (constants_in v c) (constants_of cs) r), have_types as_written cs s.1 (back_all (is_sound names) (constants_in v c) (constants_of cs) r))
    have_types nothing (more_constants v c cs) h r = absurd (true≢false (sym h))
