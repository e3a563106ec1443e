-- An integer of the table has at least one bit, so no value has more leaves than bytes.
use Rattle.std.proofs.Common.{◌≡◌, ℕ, zero, suc, ◌+◌, ◌/◌, ◌≤◌, Bool, cond, List, [], ◌∷◌, Option, Some, None, length, get_or, sym, ◌∙◌, subst, arith, All}
use Rattle.std.specs.List.{fold}
use Rattle.std.proofs.Math.Nat.{mul-le-mul_left}
use Rattle.std.proofs.lemmas.List.Elements.{All-tail, All-push}
use Rattle.type_table.specs.declared.ir_type.IrType.{IrType}
use Rattle.type_table.specs.declared.ir_type.IrType.TheVariants.{Int, Ptr, Void, Array, Struct, Named}
use Rattle.type_table.specs.declared.ir_type.StructBody.{StructBody}
use Rattle.type_table.specs.declared.ir_type.StructBody.TheVariants.{Opaque, Plain, Packed}
use Rattle.type_table.specs.Layout.{size, leaves, all_leaves, align, end_after, field_start, int_align, greatest_align}
use Rattle.type_table.specs.Shape.{Label, Shape, int_leaf, ptr_leaf, void_leaf, opaque_leaf, array_of, struct_of, Shapes, no_shapes, more_shapes, expanded, all_expanded, body_shape, name_shape}
use Rattle.type_table.specs.Tree.{Tree, int, ptr, void, array, struct, named, Trees, no_trees, more_trees, TreeBody, opaque_body, fields, body_of, index_of}
use Rattle.type_table.specs.Types.{Types, names, bodies, trees, trees_at, tree_of, grow, tree_body, structs, tree, shape, Knows, AllKnown, IsGood}
use Rattle.type_table.proofs.Caps.{field_start-le, next_multiple_of-le}
use Rattle.type_table.proofs.Rooms.{name_shape-zero, name_shape-suc, unmapped, unjoined}
use Rattle.type_table.proofs.UnderIds.{body_of-place}

abbrev mutual
  IsWide : Shape → Type 0
  IsWide (int_leaf w) = 1 ≤ w
  IsWide ptr_leaf = Unit {0}
  IsWide void_leaf = Unit {0}
  IsWide (opaque_leaf label) = Unit {0}
  IsWide (array_of n s) = IsWide s
  IsWide (struct_of label packed ss) = AllWide ss

  AllWide : Shapes → Type 0
  AllWide no_shapes = Unit {0}
  AllWide (more_shapes s ss) = IsWide s × AllWide ss

mutual
  pub leaves-le : (s : Shape) → IsWide s → leaves s ≤ size s
  leaves-le (int_leaf w) wide = let r = next_multiple_of-le ((w + 7) / 8) (int_align w) in omega (arith, r)
  leaves-le ptr_leaf wide = omega arith
  leaves-le void_leaf wide = omega arith
  leaves-le (opaque_leaf label) wide = omega arith
  leaves-le (array_of n s) wide = mul-le-mul_left n (leaves-le s wide)
  leaves-le (struct_of label packed ss) wide =
      let r = next_multiple_of-le (end_after packed 0 ss) (cond packed 1 (greatest_align ss)) in
      let e = all_leaves-le packed 0 ss wide in
      omega (arith, r, e)

  all_leaves-le : (packed : Bool) (at : ℕ) (ss : Shapes) → AllWide ss → all_leaves ss + at ≤ end_after packed at ss
  all_leaves-le packed at no_shapes wide = omega arith
  all_leaves-le packed at (more_shapes s ss) wide =
      let one = leaves-le s wide.0 in
      let start = field_start-le packed at (align s) in
      let rest = all_leaves-le packed (field_start packed at (align s) + size s) ss wide.1 in
      omega (arith, one, start, rest)

abbrev mutual
  WideTree : Tree → Type 0
  WideTree (int w) = 1 ≤ w
  WideTree ptr = Unit {0}
  WideTree void = Unit {0}
  WideTree (array n t) = WideTree t
  WideTree (struct packed ts) = WideTrees ts
  WideTree (named n) = Unit {0}

  WideTrees : Trees → Type 0
  WideTrees no_trees = Unit {0}
  WideTrees (more_trees t ts) = WideTree t × WideTrees ts

abbrev WideBody : TreeBody → Type 0
WideBody opaque_body = Unit {0}
WideBody (fields packed ts) = WideTrees ts

module _ (f : List ℕ → Option Shape) (names_wide : (n : List ℕ) (x : Shape) → f n ≡ Some x → IsWide x) where
  mutual
    shape_wide : (t : Tree) (x : Shape) → WideTree t → expanded f t ≡ Some x → IsWide x
    shape_wide (int w) x wide e = let y : int_leaf w ≡ x = cc in subst IsWide y wide
    shape_wide ptr x wide e = let y : ptr_leaf ≡ x = cc in subst IsWide y tt
    shape_wide void x wide e = let y : void_leaf ≡ x = cc in subst IsWide y tt
    shape_wide (array n t) x wide e =
        let inside = unmapped (array_of n) (expanded f t) x e in
        subst IsWide inside.2 (shape_wide t inside.0 wide inside.1)
    shape_wide (struct packed ts) x wide e =
        let inside = unmapped (struct_of None packed) (all_expanded f ts) x e in
        subst IsWide inside.2 (shapes_wide ts inside.0 wide inside.1)
    shape_wide (named n) x wide e = names_wide n x e

    shapes_wide : (ts : Trees) (xs : Shapes) → WideTrees ts → all_expanded f ts ≡ Some xs → AllWide xs
    shapes_wide no_trees xs wide e = let y : no_shapes ≡ xs = cc in subst AllWide y tt
    shapes_wide (more_trees t ts) xs wide e =
        let inside = unjoined (expanded f t) (all_expanded f ts) xs e in
        subst AllWide inside.4 (shape_wide t inside.0 wide.0 inside.2, shapes_wide ts inside.1 wide.1 inside.3)

  body_wide : (label : Label) (body : TreeBody) (x : Shape) → WideBody body → body_shape f label body ≡ Some x → IsWide x
  body_wide label opaque_body x wide e = let y : opaque_leaf label ≡ x = cc in subst IsWide y tt
  body_wide label (fields packed ts) x wide e =
      let inside = unmapped (struct_of label packed) (all_expanded f ts) x e in
      subst IsWide inside.2 (shapes_wide ts inside.0 wide inside.1)

name_wide : (label : List ℕ → Label) (bodies : List ℕ → TreeBody) → ((n : List ℕ) → WideBody (bodies n)) → (room : ℕ) (n : List ℕ) (x : Shape) → name_shape label bodies room n ≡ Some x → IsWide x
name_wide label bodies wide zero n x e = let none = name_shape-zero label bodies n in cc
name_wide label bodies wide (suc room) n x e =
    body_wide (name_shape label bodies room) (name_wide label bodies wide room) (label n) (bodies n) x (wide n) (sym (name_shape-suc label bodies room n) ∙ e)

wide_at : (done : List Tree) (i : ℕ) → All WideTree done → WideTree (get_or done i void)
wide_at [] i all = tt
wide_at (t ∷ done) zero all = all 0 void (omega arith)
wide_at (t ∷ done) (suc i) all = wide_at done i (All-tail WideTree t done all)

wide_trees_at : (done : List Tree) (ids : List ℕ) → All WideTree done → WideTrees (trees_at done ids)
wide_trees_at done [] all = tt
wide_trees_at done (id ∷ ids) all = (wide_at done id all, wide_trees_at done ids all)

wide_tree_of : (ns : List (List ℕ)) (done : List Tree) (count known : ℕ) (ty : IrType) → All WideTree done → Knows count known ty → WideTree (tree_of ns done ty)
wide_tree_of ns done count known (Int w) all k = k.0
wide_tree_of ns done count known Ptr all k = tt
wide_tree_of ns done count known Void all k = tt
wide_tree_of ns done count known (Array n part) all k = wide_at done part all
wide_tree_of ns done count known (Struct packed parts) all k = wide_trees_at done parts all
wide_tree_of ns done count known (Named id) all k = tt

wide_from : (ns : List (List ℕ)) (done : List Tree) (count known : ℕ) (types : List IrType) → All WideTree done → AllKnown count known types → All WideTree (fold (grow ns) done types)
wide_from ns done count known [] all k = all
wide_from ns done count known (ty ∷ types) all k =
    wide_from ns (grow ns done ty) (count + 1) known types (All-push WideTree done (tree_of ns done ty) all (wide_tree_of ns done count known ty all k.0)) k.1

wide_body : (done : List Tree) (body : Option StructBody) → All WideTree done → WideBody (tree_body done body)
wide_body done None all = tt
wide_body done (Some Opaque) all = tt
wide_body done (Some (Plain parts)) all = wide_trees_at done parts all
wide_body done (Some (Packed parts)) all = wide_trees_at done parts all

-- a value of a type of the table has no more leaves than bytes
pub table_leaves : (t : Types) → IsGood t → (ty : ℕ) (x : Shape) → shape t ty ≡ Some x → leaves x ≤ size x
table_leaves t good ty x e =
    leaves-le x (shape_wide (name_shape (λ _. None) (body_of (structs t)) 64) (name_wide (λ _. None) (body_of (structs t)) names_wide 64) (tree t ty) x (wide_at (trees t) ty all) e)
  where
    all : All WideTree (trees t)
    all = wide_from (names t) [] 0 (length t.structs) t.types (λ k d lt. absurd (omega arith)) good.known

    names_wide : (n : List ℕ) → WideBody (body_of (structs t) n)
    names_wide n = subst WideBody (sym (body_of-place t n)) (wide_body (trees t) (get_or (bodies t) (index_of (names t) n) None) all)
