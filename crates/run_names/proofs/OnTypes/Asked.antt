-- Types that are asked for, by their forms, and the function types of rows.
use Rattle.std.proofs.Common.{◌≡◌, ℕ, suc, Bool, true, false, ◌&&◌, ◌||◌, List, [], ◌∷◌, length, get_or, map, None, refl, sym, ap, ◌∙◌, arith}
use Rattle.std.specs.Bool.{beq}
use Rattle.std.specs.List.{list_any}
use Rattle.ir_tables.specs.declared.intrinsic.Intrinsic.{Intrinsic}
use Rattle.linkage_rules.specs.SameShape.{same_label, same_shape, same_shapes}
use Rattle.module_arena.specs.declared.host.HostRow.{HostRow}
use Rattle.module_arena.specs.declared.host.HostRow.TheVariants.{Putchar, Puts, Getchar, Exit, Abort, Malloc, Free, Memcpy, Memmove, Memset, Strlen, MemcpyI64, MemmoveI64, MemsetI64, MemcpyI32, MemmoveI32, MemsetI32, LifetimeStart, LifetimeEnd, Printf, Integer}
use Rattle.module_arena.specs.HostRows.{host_types}
use Rattle.type_table.specs.Shape.{Label, Shape, int_leaf, ptr_leaf, void_leaf, struct_of, Shapes, no_shapes, more_shapes}
use Rattle.type_table.specs.Types.{Types}
use Rattle.run_rules.specs.Action.{Signature}
use Rattle.run_rules.specs.Calls.{same_shape_list, same_signature}
use Rattle.run_rules.specs.Look.{no_names}
use Rattle.run_rules.specs.Resolve.{signature_in}
use Rattle.run_names.specs.Shapes.Shapes.{IsMade, made, shape_in, shapes_in}
use Rattle.run_names.specs.declared.shapes.form.TypeForm.{TypeForm}
use Rattle.run_names.specs.declared.shapes.form.TypeForm.TheVariants as form
use Rattle.run_names.specs.declared.types.wanted.Wanted.{Wanted}
use Rattle.run_names.specs.declared.types.wanted.Wanted.TheVariants as wanted
use Rattle.run_names.specs.Types.Wanted.{fits_forms, is_plain, is_typed, pair_shape, shape_wanted}
use Rattle.run_names.proofs.OnTypes.Unlabelled.{unlabelled}

and_false : (b : Bool) → (b && false) ≡ false
and_false true = refl
and_false false = refl

and_true : (b : Bool) → (b && true) ≡ b
and_true true = refl
and_true false = refl

or_false : (b : Bool) → (b || false) ≡ b
or_false true = refl
or_false false = refl

-- a test is whether it is true
pub is_it_true : (b : Bool) → b ≡ beq b true
is_it_true true = refl
is_it_true false = refl

-- ---- types without parts

plain_is : (label : Label) (f : TypeForm) (ss : Shapes) (w : Wanted) → ((width : ℕ) → w ≡ wanted.Pair width → ⊥) → same_shape (made label f ss) (shape_wanted w) ≡ is_plain f w
plain_is label (form.Int v) ss (wanted.Int w) other = refl
plain_is label form.Pointer ss (wanted.Int w) other = refl
plain_is label form.Nothing ss (wanted.Int w) other = refl
plain_is label form.Opaque ss (wanted.Int w) other = refl
plain_is label (form.Array n) ss (wanted.Int w) other = refl
plain_is label (form.Struct packed) ss (wanted.Int w) other = refl
plain_is label (form.Int v) ss wanted.Ptr other = refl
plain_is label form.Pointer ss wanted.Ptr other = refl
plain_is label form.Nothing ss wanted.Ptr other = refl
plain_is label form.Opaque ss wanted.Ptr other = refl
plain_is label (form.Array n) ss wanted.Ptr other = refl
plain_is label (form.Struct packed) ss wanted.Ptr other = refl
plain_is label (form.Int v) ss wanted.Void other = refl
plain_is label form.Pointer ss wanted.Void other = refl
plain_is label form.Nothing ss wanted.Void other = refl
plain_is label form.Opaque ss wanted.Void other = refl
plain_is label (form.Array n) ss wanted.Void other = refl
plain_is label (form.Struct packed) ss wanted.Void other = refl
plain_is label f ss (wanted.Pair w) other = absurd (other w refl)

-- what is told of a form is told of the shape
pub plain_told : (s : Shape) (f : TypeForm) (ss : Shapes) (w : Wanted) → IsMade f ss s → ((width : ℕ) → w ≡ wanted.Pair width → ⊥) → is_plain f w ≡ same_shape s (shape_wanted w)
plain_told s f ss w is other = sym (ap (λ s. same_shape s (shape_wanted w)) is.is ∙ plain_is is.label f ss w other)

pub integer_is_no_pair : (v width : ℕ) → wanted.Int v ≡ wanted.Pair width → ⊥
integer_is_no_pair v width e = cc

-- ---- pairs

abbrev two : ℕ → Shapes
two width = more_shapes (int_leaf width) (more_shapes (int_leaf 1) no_shapes)

no_struct : (label : Label) (f : TypeForm) (ss : Shapes) (width : ℕ) → ((packed : Bool) → f ≡ form.Struct packed → ⊥) → false ≡ same_shape (made label f ss) (pair_shape width)
no_struct label (form.Int v) ss width other = refl
no_struct label form.Pointer ss width other = refl
no_struct label form.Nothing ss width other = refl
no_struct label form.Opaque ss width other = refl
no_struct label (form.Array n) ss width other = refl
no_struct label (form.Struct packed) ss width other = absurd (other packed refl)

pub no_pair : (s : Shape) (f : TypeForm) (ss : Shapes) (width : ℕ) → IsMade f ss s → ((packed : Bool) → f ≡ form.Struct packed → ⊥) → false ≡ same_shape s (pair_shape width)
no_pair s f ss width is other = no_struct is.label f ss width other ∙ ap (λ s. same_shape s (pair_shape width)) (sym is.is)

pub packed_pair : (s : Shape) (packed : Bool) (ss : Shapes) (width : ℕ) → IsMade (form.Struct packed) ss s → packed ≡ true → false ≡ same_shape s (pair_shape width)
packed_pair s packed ss width is e =
    sym (ap (λ s. same_shape s (pair_shape width)) is.is ∙ (λ i. same_shape (struct_of is.label (e i) ss) (pair_shape width)) ∙ and_false (same_label is.label None))

other_fields : (t : Types) (fields : List ℕ) (width : ℕ) → (length fields ≡ 2 → ⊥) → same_shapes (shapes_in t fields) (two width) ≡ false
other_fields t [] width n = refl
other_fields t (a ∷ []) width n = and_false (same_shape (shape_in t a) (int_leaf width))
other_fields t (a ∷ b ∷ []) width n = absurd (n refl)
other_fields t (a ∷ b ∷ c ∷ rest) width n =
    ap (λ x. same_shape (shape_in t a) (int_leaf width) && x) (and_false (same_shape (shape_in t b) (int_leaf 1))) ∙ and_false (same_shape (shape_in t a) (int_leaf width))

two_fields : (t : Types) (fields : List ℕ) (width first second : ℕ) → length fields ≡ 2 → first ≡ get_or fields 0 first → second ≡ get_or fields 1 second
    → same_shapes (shapes_in t fields) (two width) ≡ (same_shape (shape_in t first) (int_leaf width) && same_shape (shape_in t second) (int_leaf 1))
two_fields t [] width first second n f s = absurd (omega (arith, n))
two_fields t (a ∷ []) width first second n f s = absurd (omega (arith, n))
two_fields t (a ∷ b ∷ []) width first second n f s =
    ap (λ x. same_shape (shape_in t a) (int_leaf width) && x) (and_true (same_shape (shape_in t b) (int_leaf 1)))
    ∙ (λ i. same_shape (shape_in t (sym f i)) (int_leaf width) && same_shape (shape_in t (sym s i)) (int_leaf 1))
two_fields t (a ∷ b ∷ c ∷ rest) width first second n f s = absurd (omega (arith, n))

module _ (t : Types) (ty : ℕ) (packed : Bool) (fields : List ℕ) (width : ℕ) (is : IsMade (form.Struct packed) (shapes_in t fields) (shape_in t ty)) (plain : packed ≡ false) where
  pair_by_fields : same_shape (shape_in t ty) (pair_shape width) ≡ same_shapes (shapes_in t fields) (two width)
  pair_by_fields =
      let none = unlabelled t ty is.label packed (shapes_in t fields) is.is in
      ap (λ s. same_shape s (pair_shape width)) is.is ∙ (λ i. same_shape (struct_of (none i) (plain i) (shapes_in t fields)) (pair_shape width))

  pub other_pair : (length fields ≡ 2 → ⊥) → false ≡ same_shape (shape_in t ty) (pair_shape width)
  other_pair n = sym (pair_by_fields ∙ other_fields t fields width n)

  pub pair_is : (first second : ℕ) → length fields ≡ 2 → first ≡ get_or fields 0 first → second ≡ get_or fields 1 second
      → (same_shape (shape_in t first) (int_leaf width) && same_shape (shape_in t second) (int_leaf 1)) ≡ same_shape (shape_in t ty) (pair_shape width)
  pair_is first second n f s = sym (pair_by_fields ∙ two_fields t fields width first second n f s)

-- ---- lists of types

-- lists of other lengths differ
pub other_length : (ss us : List Shape) → (length ss ≡ length us → ⊥) → same_shape_list ss us ≡ false
other_length [] [] n = absurd (n refl)
other_length [] (u ∷ us) n = refl
other_length (s ∷ ss) [] n = refl
other_length (s ∷ ss) (u ∷ us) n = ap (λ b. same_shape s u && b) (other_length ss us (λ e. n (ap suc e))) ∙ and_false (same_shape s u)

-- ---- rows

-- the function types of a row are its first one, and for some rows that of a pointer alone
pub by_forms : (row : HostRow) (used : Signature) → ((which : Intrinsic) (width : ℕ) → row ≡ Integer which width → ⊥) → fits_forms row used ≡ list_any (same_signature used) (map (signature_in no_names) (host_types row))
by_forms Putchar used other = refl
by_forms Puts used other = refl
by_forms Getchar used other = refl
by_forms Exit used other = refl
by_forms Abort used other = refl
by_forms Malloc used other = refl
by_forms Free used other = refl
by_forms Memcpy used other = refl
by_forms Memmove used other = refl
by_forms Memset used other = refl
by_forms Strlen used other = refl
by_forms MemcpyI64 used other = refl
by_forms MemmoveI64 used other = refl
by_forms MemsetI64 used other = refl
by_forms MemcpyI32 used other = refl
by_forms MemmoveI32 used other = refl
by_forms MemsetI32 used other = refl
by_forms Printf used other = refl
by_forms LifetimeStart used other = ap (λ b. is_typed used void_leaf (int_leaf 64 ∷ ptr_leaf ∷ []) false || b) (sym (or_false (is_typed used void_leaf (ptr_leaf ∷ []) false)))
by_forms LifetimeEnd used other = ap (λ b. is_typed used void_leaf (int_leaf 64 ∷ ptr_leaf ∷ []) false || b) (sym (or_false (is_typed used void_leaf (ptr_leaf ∷ []) false)))
by_forms (Integer which width) used other = absurd (other which width refl)

-- one type is one of one
pub one_of_one : (f : Signature → Bool) (s : Signature) → f s ≡ list_any f (s ∷ [])
one_of_one f s = sym (or_false (f s))
