-- Types of one leaf in a table of types.
use Rattle.std.proofs.Common.{◌≡◌, ℕ, ◌<◌, Bool, true, false, get_or, length, unwrap_or, refl, sym, ap, ◌∙◌, subst, true≢false}
use Rattle.ir_memory.specs.Given.{IsLeaf}
use Rattle.ir_memory.specs.declared.leaf.Leaf.TheVariants as leaf
use Rattle.type_table.specs.declared.ir_type.IrType.{IrType}
use Rattle.type_table.specs.declared.ir_type.IrType.TheVariants.{Int, Ptr, Void, Array, Struct, Named}
use Rattle.type_table.specs.Shape.{Shape, int_leaf, ptr_leaf, void_leaf, opaque_leaf, array_of, struct_of, shape}
use Rattle.type_table.specs.Tree.{Tree, int, ptr, void, array, struct, named, Structs}
use Rattle.type_table.specs.Types.{IsGood, Knows, Types, names, structs, tree, tree_of, trees}
use Rattle.type_table.proofs.Outlined.{tree-is, type_known}
use Rattle.run_names.specs.Shapes.Shapes.{shape_in}
use Rattle.run_initial.specs.Constants.Sound.{is_scalar}

-- a shape of one leaf
abbrev pub is_leaf_shape : Shape → Bool
is_leaf_shape (int_leaf w) = true
is_leaf_shape ptr_leaf = true
is_leaf_shape void_leaf = false
is_leaf_shape (opaque_leaf label) = false
is_leaf_shape (array_of n s) = false
is_leaf_shape (struct_of label packed ss) = false

shape_of_scalar : (ss : Structs) (t : Tree) → is_scalar t ≡ true → is_leaf_shape (unwrap_or (shape ss t) void_leaf) ≡ true
shape_of_scalar ss (int w) h = refl
shape_of_scalar ss ptr h = refl
shape_of_scalar ss void h = absurd (true≢false (sym h))
shape_of_scalar ss (array n t) h = absurd (true≢false (sym h))
shape_of_scalar ss (struct packed ts) h = absurd (true≢false (sym h))
shape_of_scalar ss (named name) h = absurd (true≢false (sym h))

integer_of_shape : (ss : Structs) (t : Tree) (w : ℕ) → is_scalar t ≡ true → unwrap_or (shape ss t) void_leaf ≡ int_leaf w → t ≡ int w
integer_of_shape ss (int v) w h e = let same : v ≡ w = cc in ap int same
integer_of_shape ss ptr w h e = cc
integer_of_shape ss void w h e = absurd (true≢false (sym h))
integer_of_shape ss (array n t) w h e = absurd (true≢false (sym h))
integer_of_shape ss (struct packed ts) w h e = absurd (true≢false (sym h))
integer_of_shape ss (named name) w h e = absurd (true≢false (sym h))

pointer_of_shape : (ss : Structs) (t : Tree) → is_scalar t ≡ true → unwrap_or (shape ss t) void_leaf ≡ ptr_leaf → t ≡ ptr
pointer_of_shape ss (int v) h e = cc
pointer_of_shape ss ptr h e = refl
pointer_of_shape ss void h e = absurd (true≢false (sym h))
pointer_of_shape ss (array n t) h e = absurd (true≢false (sym h))
pointer_of_shape ss (struct packed ts) h e = absurd (true≢false (sym h))
pointer_of_shape ss (named name) h e = absurd (true≢false (sym h))

module _ (t : Types) (ty : ℕ) (scalar : is_scalar (tree t ty) ≡ true) where
  pub integer_tree : (w : ℕ) → shape_in t ty ≡ int_leaf w → tree t ty ≡ int w
  integer_tree w e = integer_of_shape (structs t) (tree t ty) w scalar e

  pub pointer_tree : shape_in t ty ≡ ptr_leaf → tree t ty ≡ ptr
  pointer_tree e = pointer_of_shape (structs t) (tree t ty) scalar e

  -- no other shape is there
  pub no_other : (s : Shape) → shape_in t ty ≡ s → is_leaf_shape s ≡ false → ⊥
  no_other s e h = true≢false (sym (shape_of_scalar (structs t) (tree t ty) scalar) ∙ ap is_leaf_shape e ∙ h)

-- a width of the table is from 1 to 128
pub width_known : (t : Types) → IsGood t → (ty w : ℕ) → ty < length t.types → tree t ty ≡ int w → IsLeaf (leaf.Int w)
width_known t good ty w lt e = go (get_or t.types ty Void) (type_known t good ty lt) (sym (tree-is t good ty lt) ∙ e)
  where
    go : (T : IrType) → Knows ty (length t.structs) T → tree_of (names t) (trees t) T ≡ int w → IsLeaf (leaf.Int w)
    go (Int v) k h = let same : v ≡ w = cc in subst (λ (n : ℕ). IsLeaf (leaf.Int n)) same k
    go Ptr k h = cc
    go Void k h = cc
    go (Array n part) k h = cc
    go (Struct packed parts) k h = cc
    go (Named id) k h = cc
