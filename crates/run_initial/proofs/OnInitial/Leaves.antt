-- Widths of integers in a table of types, and values of which nothing is to be stored.
use Rattle.std.proofs.Common.{◌≡◌, ℕ, zero, suc, ◌+◌, ◌<◌, List, [], ◌++◌, length, Bool, true, false, not, ◌&&◌, nat_eq, Option, Some, None, refl, sym, ap, ◌∙◌, arith, eqb-true, unwrap_or}
use Rattle.std.specs.Option.{option_map}
use Rattle.std.proofs.lemmas.List.{map-append}
use Rattle.std.proofs.lemmas.Bool.{or_parts}
use Rattle.ir_memory.specs.Given.{IsLeaf}
use Rattle.ir_memory.specs.declared.leaf.Leaf.TheVariants as leaf
use Rattle.type_table.specs.Layout.{align, leaves, field_start, size}
use Rattle.type_table.specs.Shape.{Label, Shape, int_leaf, ptr_leaf, void_leaf, opaque_leaf, array_of, struct_of, Shapes, no_shapes, more_shapes, all_expanded, body_shape, name_shape, shape}
use Rattle.type_table.specs.Tree.{Tree, int, ptr, void, array, struct, named, TreeBody, opaque_body, fields, Structs, body_of}
use Rattle.type_table.specs.Types.{IsGood, Types, structs, tree}
use Rattle.type_table.proofs.Rooms.{name_shape-suc}
use Rattle.run_initial.proofs.OnConstants.Typed.{width_known}
use Rattle.run_rules.specs.Leaves.{Slot, field_slots, repeated, slots_at}
use Rattle.run_rules.specs.Plan.{Contents}
use Rattle.run_names.specs.Shapes.Shapes.{shape_in}
use Rattle.run_actions.proofs.OnSlots.Slotted.{no_slots}
use Rattle.run_initial.specs.declared.constants.filled.Fill.{Fill}
use Rattle.run_initial.specs.declared.constants.filled.Fill.TheVariants.{Zero, Poison}
use Rattle.run_initial.specs.Constants.Filled.{leaf_in}
use Rattle.run_initial.specs.Initial.Fresh.{filled, has_pointer, have_pointers, needed_of, to_store}
use Rattle.run_initial.proofs.OnInitial.Puts.{to_store_both}

-- ---- integers of a table

mapped_other : (f : Shape → Shape) (o : Option Shape) (w : ℕ) → ((s : Shape) → f s ≡ int_leaf w → ⊥) → unwrap_or (option_map f o) void_leaf ≡ int_leaf w → ⊥
mapped_other f None w never e = cc
mapped_other f (Some s) w never e = never s e

all_mapped_other : (f : Shapes → Shape) (o : Option Shapes) (w : ℕ) → ((s : Shapes) → f s ≡ int_leaf w → ⊥) → unwrap_or (option_map f o) void_leaf ≡ int_leaf w → ⊥
all_mapped_other f None w never e = cc
all_mapped_other f (Some s) w never e = never s e

body_other : (look : List ℕ → Option Shape) (label : Label) (b : TreeBody) (w : ℕ) → unwrap_or (body_shape look label b) void_leaf ≡ int_leaf w → ⊥
body_other look label opaque_body w e = cc
body_other look label (fields packed ts) w e = all_mapped_other (struct_of label packed) (all_expanded look ts) w (λ s h. cc) e

-- a type whose shape is an integer is an integer
integer_is : (ss : Structs) (t : Tree) (w : ℕ) → unwrap_or (shape ss t) void_leaf ≡ int_leaf w → t ≡ int w
integer_is ss (int v) w e = let same : v ≡ w = cc in ap int same
integer_is ss ptr w e = cc
integer_is ss void w e = cc
integer_is ss (array n t) w e = absurd (mapped_other (array_of n) (shape ss t) w (λ s h. cc) e)
integer_is ss (struct packed ts) w e = absurd (all_mapped_other (struct_of None packed) (all_expanded (name_shape (λ _. None) (body_of ss) 64) ts) w (λ s h. cc) e)
integer_is ss (named name) w e =
    absurd (body_other (name_shape (λ _. None) (body_of ss) 63) None (body_of ss name) w
    (ap (λ (o : Option Shape). unwrap_or o void_leaf) (sym (name_shape-suc (λ _. None) (body_of ss) 63 name)) ∙ e))

-- so its width is from 1 to 128
pub width_in : (t : Types) → IsGood t → (ty w : ℕ) → ty < length t.types → shape_in t ty ≡ int_leaf w → IsLeaf (leaf.Int w)
width_in t good ty w lt e = width_known t good ty w lt (integer_is (structs t) (tree t ty) w e)

-- ---- nothing is to be stored

two_none : (xs ys : Contents) → to_store xs ≡ [] → to_store ys ≡ [] → to_store (xs ++ ys) ≡ []
two_none xs ys h k = to_store_both xs ys ∙ (λ i. h i ++ k i)

filled_none : (ss us : List Slot) → to_store (filled Zero ss) ≡ [] → to_store (filled Zero us) ≡ [] → to_store (filled Zero (ss ++ us)) ≡ []
filled_none ss us h k = ap to_store (map-append (λ (s : Slot). (s, leaf_in Zero s.leaf)) ss us) ∙ two_none (filled Zero ss) (filled Zero us) h k

repeated_fresh : (n : ℕ) (element : ℕ → List Slot) (at step : ℕ) → ((bt : ℕ) → to_store (filled Zero (element bt)) ≡ []) → to_store (filled Zero (repeated n element at step)) ≡ []
unfolding repeated
repeated_fresh zero element at step h = refl
repeated_fresh (suc n) element at step h = filled_none (element at) (repeated n element (at + step) step) (h at) (repeated_fresh n element (at + step) step h)

no_repeated : (n : ℕ) (element : ℕ → List Slot) (at step : ℕ) → n ≡ 0 → to_store (filled Zero (repeated n element at step)) ≡ []
unfolding repeated
no_repeated zero element at step e = refl
no_repeated (suc n) element at step e = absurd (omega (arith, e))

mutual
  -- of zeros without a pointer nothing is to be stored
  zeros_fresh : (s : Shape) → has_pointer s ≡ false → (at : ℕ) → to_store (filled Zero (slots_at s at)) ≡ []
  zeros_fresh (int_leaf w) h at = refl
  zeros_fresh ptr_leaf h at = cc
  zeros_fresh void_leaf h at = refl
  zeros_fresh (opaque_leaf label) h at = refl
  zeros_fresh (array_of n s) h at = go (nat_eq n 0) refl h (zeros_fresh s)
    where
      go : (b : Bool) → nat_eq n 0 ≡ b → (not b && has_pointer s) ≡ false → (has_pointer s ≡ false → (bt : ℕ) → to_store (filled Zero (slots_at s bt)) ≡ []) → to_store (filled Zero (repeated n (slots_at s) at (size s))) ≡ []
      go true e k more = no_repeated n (slots_at s) at (size s) (eqb-true n 0 e)
      go false e k more = repeated_fresh n (slots_at s) at (size s) (more k)
  zeros_fresh (struct_of label packed ss) h at = fields_fresh ss h packed at 0

  fields_fresh : (ss : Shapes) → have_pointers ss ≡ false → (packed : Bool) (at end : ℕ) → to_store (filled Zero (field_slots ss packed at end)) ≡ []
  fields_fresh no_shapes h packed at end = refl
  fields_fresh (more_shapes s ss) h packed at end =
      let both = or_parts (has_pointer s) (have_pointers ss) h in
      filled_none (slots_at s (at + field_start packed end (align s))) (field_slots ss packed at (field_start packed end (align s) + size s))
      (zeros_fresh s both.0 (at + field_start packed end (align s))) (fields_fresh ss both.1 packed at (field_start packed end (align s) + size s))

few_leaves : (n : ℕ) → not (nat_eq n 0) ≡ false → n ≡ 0
few_leaves n h = go (nat_eq n 0) refl h
  where
    go : (b : Bool) → nat_eq n 0 ≡ b → not b ≡ false → n ≡ 0
    go true e k = eqb-true n 0 e
    go false e k = cc

-- nothing is to be stored of a value of which nothing is needed, wherever it lies
pub nothing_needed : (fill : Fill) (s : Shape) → needed_of fill s ≡ false → (at : ℕ) → to_store (filled fill (slots_at s at)) ≡ []
nothing_needed Zero s none at = zeros_fresh s none at
nothing_needed Poison s none at = ap (λ (ss : List Slot). to_store (filled Poison ss)) (no_slots s at (few_leaves (leaves s) none))
