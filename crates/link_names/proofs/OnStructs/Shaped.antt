-- Each type and each struct of a table has a shape with names, and it is made of those of its parts.
use Rattle.std.proofs.Common.{◌≡◌, ℕ, zero, suc, ◌+◌, ◌<◌, max, Bool, List, [], ◌∷◌, ◌++◌, length, map, get_or, slice_get, Option, Some, None, refl, sym, ap, ◌∙◌, subst, arith}
use Rattle.std.specs.Option.{option_map, option_map_or}
use Rattle.std.proofs.lemmas.List.{get_or_append_left, get_or_default, length-map, length-append}
use Rattle.std.proofs.lemmas.Option.{get_or_from_slice_get, slice_get_within}
use Rattle.type_table.specs.declared.ir_type.IrType.{IrType}
use Rattle.type_table.specs.declared.ir_type.IrType.TheVariants as type
use Rattle.type_table.specs.Shape.{Label, Shape, int_leaf, ptr_leaf, void_leaf, opaque_leaf, array_of, struct_of, Shapes, no_shapes, more_shapes, with_first, expanded, all_expanded, body_shape, name_shape, shape, named_shape, nesting, deepest}
use Rattle.type_table.specs.Tree.{Tree, int, ptr, void, array, struct, named, Trees, no_trees, more_trees, TreeBody, opaque_body, fields, body_of}
use Rattle.type_table.specs.Types.{Types, IsGood, Knows, names, bodies, trees, trees_at, tree_of, tree_body, structs}
use Rattle.type_table.specs.Limits.{IsWithin, IsWithinLimits}
use Rattle.type_table.proofs.Added.{length-trees}
use Rattle.type_table.proofs.Outlined.{tree-is, type_known, name_keeps}
use Rattle.type_table.proofs.Rooms.{name_shape-zero, name_shape-suc, unmapped, unjoined, HasShape, HasShapes}
use Rattle.type_table.proofs.UnderIds.{body_of-place, index_of-at, get_or-map}
use Rattle.link_names.specs.Shapes.Shapes.{leaf_of}
use Rattle.link_names.specs.Structs.Shapes.{fields_shape, struct_shape, struct_tree, type_shape}

-- SHAPES WITH NAMES WHERE THERE ARE SHAPES WITHOUT

module _ (f g : List ℕ → Option Shape) (also : (n : List ℕ) → HasShape (f n) → HasShape (g n)) where
  mutual
    tree_also : (t : Tree) → HasShape (expanded f t) → HasShape (expanded g t)
    tree_also (int w) h = (int_leaf w, refl)
    tree_also ptr h = (ptr_leaf, refl)
    tree_also void h = (void_leaf, refl)
    tree_also (array n t) h =
        let inside = unmapped (array_of n) (expanded f t) h.0 h.1 in
        let more = tree_also t (inside.0, inside.1) in
        (array_of n more.0, ap (option_map (array_of n)) more.1)
    tree_also (struct packed ts) h =
        let inside = unmapped (struct_of None packed) (all_expanded f ts) h.0 h.1 in
        let more = trees_also ts (inside.0, inside.1) in
        (struct_of None packed more.0, ap (option_map (struct_of None packed)) more.1)
    tree_also (named n) h = also n h

    trees_also : (ts : Trees) → HasShapes (all_expanded f ts) → HasShapes (all_expanded g ts)
    trees_also no_trees h = (no_shapes, refl)
    trees_also (more_trees t ts) h =
        let inside = unjoined (expanded f t) (all_expanded f ts) h.0 h.1 in
        let first = tree_also t (inside.0, inside.2) in
        let rest = trees_also ts (inside.1, inside.3) in
        (more_shapes first.0 rest.0, λ j. with_first (first.1 j) (rest.1 j))

  body_also : (l m : Label) (b : TreeBody) → HasShape (body_shape f l b) → HasShape (body_shape g m b)
  body_also l m opaque_body h = (opaque_leaf m, refl)
  body_also l m (fields packed ts) h =
      let inside = unmapped (struct_of l packed) (all_expanded f ts) h.0 h.1 in
      let more = trees_also ts (inside.0, inside.1) in
      (struct_of m packed more.0, ap (option_map (struct_of m packed)) more.1)

none_some : (o : Option Shape) (x : Shape) → o ≡ None → o ≡ Some x → ⊥
none_some o x e f = cc

names_also : (bs : List ℕ → TreeBody) (room : ℕ) (n : List ℕ) → HasShape (name_shape (λ _. None) bs room n) → HasShape (name_shape (λ m. Some m) bs room n)
names_also bs zero n h = absurd (none_some (name_shape (λ _. None) bs zero n) h.0 (name_shape-zero (λ _. None) bs n) h.1)
names_also bs (suc room) n h =
    subst HasShape (sym (name_shape-suc (λ m. Some m) bs room n))
    (body_also (name_shape (λ _. None) bs room) (name_shape (λ m. Some m) bs room) (names_also bs room) None (Some n) (bs n) (subst HasShape (name_shape-suc (λ _. None) bs room n) h))

is_there : (o : Option Shape) → IsWithinLimits o → HasShape o
is_there None h = absurd h
is_there (Some s) h = (s, refl)

behind : (xs ys : List Tree) (i : ℕ) → get_or (xs ++ ys) (length xs + i) void ≡ get_or ys i void
behind [] ys i = let e : 0 + i ≡ i = omega arith in ap (λ k. get_or ys k void) e
behind (x ∷ xs) ys i = let e : suc (length xs) + i ≡ suc (length xs + i) = omega arith in ap (λ k. get_or (x ∷ (xs ++ ys)) k void) e ∙ behind xs ys i

-- how deep a shape nests
abbrev pub depth : Option Shape → ℕ
depth o = option_map_or nesting o 0

-- how deep the deepest of these types nests
abbrev pub top : Types → List ℕ → ℕ
top t [] = 0
top t (part ∷ parts) = max (depth (type_shape t part)) (top t parts)

pub below_top : (t : Types) (parts : List ℕ) (place d : ℕ) → place < length parts → depth (type_shape t (get_or parts place d)) < top t parts + 1
below_top t [] place d h = absurd (omega (arith, h))
below_top t (part ∷ parts) zero d h = omega arith
below_top t (part ∷ parts) (suc place) d h = let again = below_top t parts place d (omega (arith, h)) in omega (arith, again)

-- the shape that a struct's name stands for
abbrev pub look : Types → List ℕ → Option Shape
look t = name_shape (λ m. Some m) (body_of (structs t)) 64

module _ (t : Types) (good : IsGood t) (within : IsWithin t) where
  abbrev all : List Tree
  all = trees t ++ map named (names t)

  many : length all ≡ length t.types + length t.structs
  many = let a = length-append (trees t) (map named (names t)) in let b = length-trees t in let c = length-map (names t) named in let d = length-map t.structs (λ s. s.0) in omega (arith, a, b, c, d)

  tree_shaped : (i : ℕ) → i < length all → HasShape (named_shape (structs t) (get_or all i void))
  tree_shaped i lt =
      let same = length-map all (shape (structs t)) in
      tree_also (name_shape (λ _. None) (body_of (structs t)) 64) (name_shape (λ m. Some m) (body_of (structs t)) 64) (names_also (body_of (structs t)) 64) (get_or all i void)
      (is_there (shape (structs t) (get_or all i void)) (subst IsWithinLimits (get_or-map (shape (structs t)) all i void) (within.fits i (shape (structs t) void) (omega (arith, lt, same)))))

  pub type_shaped : (ty : ℕ) → ty < length t.types → HasShape (type_shape t ty)
  type_shaped ty lt =
      let count = length-trees t in
      subst (λ x. HasShape (named_shape (structs t) x)) (get_or_append_left (trees t) (map named (names t)) void ty (omega (arith, lt, count))) (tree_shaped ty (omega (arith, lt, many)))

  pub struct_shaped : (id : ℕ) → id < length t.structs → HasShape (struct_shape t id)
  struct_shaped id lt =
      let count = length-trees t in
      let c = length-map (names t) named in
      let d = length-map t.structs (λ s. s.0) in
      let at = behind (trees t) (map named (names t)) id ∙ get_or_default (map named (names t)) id void (named []) (omega (arith, lt, c, d)) ∙ get_or-map named (names t) id [] in
      subst (λ x. HasShape (named_shape (structs t) x)) at (tree_shaped (length (trees t) + id) (omega (arith, lt, many, count)))

  -- a struct's shape is made of those of its fields
  pub struct_is : (id : ℕ) → id < length t.structs → struct_shape t id ≡ body_shape (look t) (Some (get_or (names t) id [])) (tree_body (trees t) (get_or (bodies t) id None))
  struct_is id lt =
      let n = get_or (names t) id [] in
      let there = struct_shaped id lt in
      let d = length-map t.structs (λ s. s.0) in
      let place = index_of-at (names t) id good.distinct (omega (arith, lt, d)) in
      let body = body_of-place t n ∙ ap (λ i. tree_body (trees t) (get_or (bodies t) i None)) place in
      there.1
      ∙ sym (name_keeps (λ m. Some m) (body_of (structs t)) 64 n there.0 there.1)
      ∙ name_shape-suc (λ m. Some m) (body_of (structs t)) 64 n
      ∙ ap (body_shape (look t) (Some n)) body

  deepest_is : (ps : List ℕ) (ss : Shapes) → all_expanded (look t) (trees_at (trees t) ps) ≡ Some ss → deepest ss ≡ top t ps
  deepest_is [] ss e = let y : no_shapes ≡ ss = cc in ap deepest (sym y)
  deepest_is (p ∷ ps) ss e =
      let inside = unjoined (type_shape t p) (all_expanded (look t) (trees_at (trees t) ps)) ss e in
      let first = ap depth inside.2 in
      let rest = deepest_is ps inside.1 inside.3 in
      let whole = ap deepest (sym inside.4) in
      omega (arith, first, rest, whole)

  -- a struct nests one deeper than its deepest field
  pub fields_depth : (o : Option Shape) (l : Label) (packed : Bool) (ps : List ℕ) → HasShape o → o ≡ option_map (struct_of l packed) (all_expanded (look t) (trees_at (trees t) ps)) → depth o ≡ top t ps + 1
  fields_depth o l packed ps h e =
      let inside = unmapped (struct_of l packed) (all_expanded (look t) (trees_at (trees t) ps)) h.0 (sym e ∙ h.1) in
      let deep = deepest_is ps inside.0 inside.1 in
      let whole = ap depth h.1 in
      let made = ap nesting (sym inside.2) in
      omega (arith, deep, whole, made)

  -- an array nests one deeper than its elements
  pub array_depth : (o p : Option Shape) (n : ℕ) → HasShape o → o ≡ option_map (array_of n) p → depth o ≡ depth p + 1
  array_depth o p n h e =
      let inside = unmapped (array_of n) p h.0 (sym e ∙ h.1) in
      let part = ap depth inside.1 in
      let whole = ap depth h.1 in
      let made = ap nesting (sym inside.2) in
      omega (arith, part, whole, made)

  module _ (ty : ℕ) (x : IrType) (at : slice_get t.types ty ≡ Some x) where
    below : ty < length t.types
    below = slice_get_within t.types ty x at

    is_at : get_or t.types ty type.Void ≡ x
    is_at = get_or_from_slice_get t.types ty x type.Void at

    -- a type's shape is made of those of its parts
    pub type_is : type_shape t ty ≡ expanded (look t) (tree_of (names t) (trees t) x)
    type_is = ap (named_shape (structs t)) (tree-is t good ty below ∙ ap (tree_of (names t) (trees t)) is_at)

    pub type_knows : Knows ty (length t.structs) x
    type_knows = subst (Knows ty (length t.structs)) is_at (type_known t good ty below)

  module _ (id : ℕ) (lt : id < length t.structs) (l : Label) (called : l ≡ Some (get_or (names t) id [])) where
    -- an opaque struct is a leaf
    pub opaque_is : struct_tree t id ≡ opaque_body → struct_shape t id ≡ Some (leaf_of l)
    opaque_is e = struct_is id lt ∙ ap (body_shape (look t) (Some (get_or (names t) id []))) e ∙ ap (λ (m : Label). Some (leaf_of m)) (sym called)

    -- any other is made of its fields
    pub fields_is : (packed : Bool) (ps : List ℕ) → struct_tree t id ≡ fields packed (trees_at (trees t) ps) → struct_shape t id ≡ fields_shape t l packed ps
    fields_is packed ps e = struct_is id lt ∙ ap (body_shape (look t) (Some (get_or (names t) id []))) e ∙ ap (λ (m : Label). fields_shape t m packed ps) (sym called)
