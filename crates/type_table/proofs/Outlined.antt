-- A type's shape is what its head and the shapes of its parts make, and they can be told from it.
use Rattle.std.proofs.Common.{◌≡◌, ℕ, zero, suc, ◌+◌, ◌≤◌, ◌<◌, Bool, true, false, List, [], ◌∷◌, ◌++◌, Option, Some, None, ◌⊎◌, inl, inr, map, length, get_or, ap, refl, sym, ◌∙◌, subst, arith, All}
use Rattle.std.specs.List.{fold}
use Rattle.std.specs.Option.{option_map, option_map_or}
use Rattle.std.proofs.lemmas.List.{get_or_append_left, append_assoc, append-nil, get_or_at, length-map, length_push, get_or_past, get_or_read, ext_get_or, get_or-map}
use Rattle.std.proofs.lemmas.List.Elements.{All-head, All-tail}
use Rattle.std.proofs.lemmas.Bool.{cases_lt}
use Rattle.type_table.specs.declared.ir_type.IrType.{IrType}
use Rattle.type_table.specs.declared.ir_type.IrType.TheVariants.{Int, Ptr, Void, Array, Struct, Named}
use Rattle.type_table.specs.declared.ir_type.StructBody.{StructBody}
use Rattle.type_table.specs.declared.ir_type.StructBody.TheVariants.{Opaque, Plain, Packed}
use Rattle.type_table.specs.declared.outline.TypeOutline.{TypeOutline}
use Rattle.type_table.specs.declared.outline.TypeOutline.TheVariants as heads
use Rattle.type_table.specs.Outline.{body_head, body_parts, type_head, type_parts, head_of, parts_of, type_nesting}
use Rattle.type_table.specs.Shape.{Label, Shape, int_leaf, ptr_leaf, void_leaf, opaque_leaf, array_of, struct_of, Shapes, no_shapes, more_shapes, with_first, expanded, all_expanded, body_shape, name_shape, nesting, deepest}
use Rattle.type_table.specs.Tree.{Tree, int, ptr, void, array, struct, named, Trees, no_trees, more_trees, TreeBody, opaque_body, fields, body_of}
use Rattle.type_table.specs.Types.{Types, names, bodies, trees, trees_at, tree_of, grow, tree_body, structs, tree, shape, Knows, AllKnown, KnowsBody, IsGood}
use Rattle.type_table.proofs.Rooms.{name_shape-zero, name_shape-suc, unmapped, unjoined, HasShape}
use Rattle.type_table.proofs.UnderIds.{body_of-place, index_of-at}

-- the trees so far stay
trees_at-more : (done more : List Tree) (ids : List ℕ) → All (λ id. id < length done) ids → trees_at (done ++ more) ids ≡ trees_at done ids
trees_at-more done more [] known = refl
trees_at-more done more (id ∷ ids) known =
    let P : ℕ → Type 0 = λ k. k < length done in
    λ j. more_trees (get_or_append_left done more void id (All-head P id ids known) j) (trees_at-more done more ids (All-tail P id ids known) j)

tree_of-further : (ns : List (List ℕ)) (done more : List Tree) (known : ℕ) (ty : IrType) → Knows (length done) known ty → tree_of ns (done ++ more) ty ≡ tree_of ns done ty
tree_of-further ns done more known (Int w) k = refl
tree_of-further ns done more known Ptr k = refl
tree_of-further ns done more known Void k = refl
tree_of-further ns done more known (Array n part) k = ap (array n) (get_or_append_left done more void part k)
tree_of-further ns done more known (Struct packed parts) k = ap (struct packed) (trees_at-more done more parts k)
tree_of-further ns done more known (Named id) k = refl

grown : (ns : List (List ℕ)) (done : List Tree) (types : List IrType) → (more : List Tree) × (fold (grow ns) done types ≡ done ++ more)
grown ns done [] = ([], sym (append-nil done))
grown ns done (ty ∷ types) =
    let rest = grown ns (grow ns done ty) types in
    (tree_of ns done ty ∷ rest.0, rest.1 ∙ append_assoc done (tree_of ns done ty ∷ []) rest.0)

grown_at : (ns : List (List ℕ)) (known : ℕ) (done : List Tree) (types : List IrType) (k : ℕ) → k < length types → AllKnown (length done) known types
    → get_or (fold (grow ns) done types) (length done + k) void ≡ tree_of ns (fold (grow ns) done types) (get_or types k Void)
grown_at ns known done [] k lt all = absurd (omega arith)
grown_at ns known done (ty ∷ types) zero lt all =
    let rest = grown ns (grow ns done ty) types in
    let whole : fold (grow ns) done (ty ∷ types) ≡ done ++ tree_of ns done ty ∷ rest.0 = rest.1 ∙ append_assoc done (tree_of ns done ty ∷ []) rest.0 in
    ap (λ ts. get_or ts (length done + 0) void) whole
    ∙ get_or_at done (tree_of ns done ty) rest.0 void (length done + 0) (omega arith)
    ∙ sym (tree_of-further ns done (tree_of ns done ty ∷ rest.0) known ty all.0)
    ∙ ap (λ ts. tree_of ns ts ty) (sym whole)
grown_at ns known done (ty ∷ types) (suc k) lt all =
    let one = length_push done (tree_of ns done ty) in
    let place : length done + suc k ≡ length (grow ns done ty) + k = omega (arith, one) in
    ap (λ i. get_or (fold (grow ns) (grow ns done ty) types) i void) place
    ∙ grown_at ns known (grow ns done ty) types k (omega arith) (subst (λ n. AllKnown n known types) (sym one) all.1)

-- the tree of a type has the trees of its parts
pub tree-is : (t : Types) → IsGood t → (ty : ℕ) → ty < length t.types → tree t ty ≡ tree_of (names t) (trees t) (get_or t.types ty Void)
tree-is t good ty lt = ap (λ i. get_or (trees t) i void) (omega arith) ∙ grown_at (names t) (length t.structs) [] t.types ty lt good.known

known_at : (count known : ℕ) (types : List IrType) (k : ℕ) → k < length types → AllKnown count known types → Knows (count + k) known (get_or types k Void)
known_at count known [] k lt all = absurd (omega arith)
known_at count known (ty ∷ types) zero lt all = subst (λ n. Knows n known ty) (omega arith) all.0
known_at count known (ty ∷ types) (suc k) lt all = subst (λ n. Knows n known (get_or types k Void)) (omega arith) (known_at (count + 1) known types k (omega arith) all.1)

-- what a type knows of the types and structs of its table
pub type_known : (t : Types) → IsGood t → (ty : ℕ) → ty < length t.types → Knows ty (length t.structs) (get_or t.types ty Void)
type_known t good ty lt = subst (λ n. Knows n (length t.structs) (get_or t.types ty Void)) (omega arith) (known_at 0 (length t.structs) t.types ty lt good.known)

-- a list of shapes, where each is there
abbrev collected : List (Option Shape) → Option Shapes
collected [] = Some no_shapes
collected (o ∷ os) = with_first o (collected os)

abbrev pub listed : Shapes → List (Option Shape)
listed no_shapes = []
listed (more_shapes s ss) = Some s ∷ listed ss

collected-listed : (os : List (Option Shape)) (ss : Shapes) → collected os ≡ Some ss → listed ss ≡ os
collected-listed [] ss e = let y : no_shapes ≡ ss = cc in ap listed (sym y)
collected-listed (o ∷ os) ss e =
    let inside = unjoined o (collected os) ss e in
    ap listed (sym inside.4) ∙ (λ j. sym inside.2 j ∷ collected-listed os inside.1 inside.3 j)

trees_collected : (f : List ℕ → Option Shape) (done : List Tree) (ids : List ℕ) → all_expanded f (trees_at done ids) ≡ collected (map (λ id. expanded f (get_or done id void)) ids)
trees_collected f done [] = refl
trees_collected f done (id ∷ ids) = ap (with_first (expanded f (get_or done id void))) (trees_collected f done ids)

-- a shape in a room is the shape in a greater one
module _ (f g : List ℕ → Option Shape) (keep : (n : List ℕ) (x : Shape) → f n ≡ Some x → g n ≡ Some x) where
  mutual
    tree_keeps : (t : Tree) (x : Shape) → expanded f t ≡ Some x → expanded g t ≡ Some x
    tree_keeps (int w) x e = e
    tree_keeps ptr x e = e
    tree_keeps void x e = e
    tree_keeps (array n t) x e =
        let inside = unmapped (array_of n) (expanded f t) x e in
        ap (option_map (array_of n)) (tree_keeps t inside.0 inside.1) ∙ ap Some inside.2
    tree_keeps (struct packed ts) x e =
        let inside = unmapped (struct_of None packed) (all_expanded f ts) x e in
        ap (option_map (struct_of None packed)) (trees_keep ts inside.0 inside.1) ∙ ap Some inside.2
    tree_keeps (named n) x e = keep n x e

    trees_keep : (ts : Trees) (xs : Shapes) → all_expanded f ts ≡ Some xs → all_expanded g ts ≡ Some xs
    trees_keep no_trees xs e = e
    trees_keep (more_trees t ts) xs e =
        let inside = unjoined (expanded f t) (all_expanded f ts) xs e in
        (λ j. with_first (tree_keeps t inside.0 inside.2 j) (trees_keep ts inside.1 inside.3 j)) ∙ ap Some inside.4

  body_keeps : (label : Label) (body : TreeBody) (x : Shape) → body_shape f label body ≡ Some x → body_shape g label body ≡ Some x
  body_keeps label opaque_body x e = e
  body_keeps label (fields packed ts) x e =
      let inside = unmapped (struct_of label packed) (all_expanded f ts) x e in
      ap (option_map (struct_of label packed)) (trees_keep ts inside.0 inside.1) ∙ ap Some inside.2

pub name_keeps : (label : List ℕ → Label) (bs : List ℕ → TreeBody) (room : ℕ) (n : List ℕ) (x : Shape) → name_shape label bs room n ≡ Some x → name_shape label bs (suc room) n ≡ Some x
name_keeps label bs zero n x e = let none = name_shape-zero label bs n in cc
name_keeps label bs (suc room) n x e =
    name_shape-suc label bs (suc room) n
    ∙ body_keeps (name_shape label bs room) (name_shape label bs (suc room)) (name_keeps label bs room) (label n) (bs n) x (sym (name_shape-suc label bs room n) ∙ e)

-- what a head and the shapes of its parts make
abbrev built : TypeOutline → Option Shapes → Option Shape
built h None = None
built (heads.Int w) (Some ss) = Some (int_leaf w)
built heads.Ptr (Some ss) = Some ptr_leaf
built heads.Void (Some ss) = Some void_leaf
built heads.Opaque (Some ss) = Some (opaque_leaf None)
built (heads.Array n) (Some no_shapes) = None
built (heads.Array n) (Some (more_shapes s ss)) = Some (array_of n s)
built (heads.Struct packed) (Some ss) = Some (struct_of None packed ss)

abbrev pub shape_head : Shape → TypeOutline
shape_head (int_leaf w) = heads.Int w
shape_head ptr_leaf = heads.Ptr
shape_head void_leaf = heads.Void
shape_head (opaque_leaf label) = heads.Opaque
shape_head (array_of n s) = heads.Array n
shape_head (struct_of label packed ss) = heads.Struct packed

abbrev pub shape_parts : Shape → List (Option Shape)
shape_parts (int_leaf w) = []
shape_parts ptr_leaf = []
shape_parts void_leaf = []
shape_parts (opaque_leaf label) = []
shape_parts (array_of n s) = Some s ∷ []
shape_parts (struct_of label packed ss) = listed ss

body_known : (t : Types) → IsGood t → (id : ℕ) → KnowsBody (length t.types) (get_or (bodies t) id None)
body_known t good id = by (cases_lt id (length (bodies t)))
  where
    by : (id < length (bodies t)) ⊎ (length (bodies t) ≤ id) → KnowsBody (length t.types) (get_or (bodies t) id None)
    by (inl l) = good.known_bodies id None l
    by (inr g) = subst (KnowsBody (length t.types)) (sym (get_or_past (bodies t) id None g)) tt

body_parts_known : (count : ℕ) (b : Option StructBody) → KnowsBody count b → All (λ p. p < count) (body_parts b)
body_parts_known count None k = λ i d lt. absurd (omega arith)
body_parts_known count (Some Opaque) k = λ i d lt. absurd (omega arith)
body_parts_known count (Some (Plain parts)) k = k
body_parts_known count (Some (Packed parts)) k = k

only : {count : ℕ} (part : ℕ) → part < count → All (λ p. p < count) (part ∷ [])
only part lt zero d l = lt
only part lt (suc i) d l = absurd (omega arith)

-- the parts of a type are types of its table
pub parts_known : (t : Types) → IsGood t → (ty : ℕ) → ty < length t.types → All (λ p. p < length t.types) (parts_of t ty)
parts_known t good ty lt = by (get_or t.types ty Void) (type_known t good ty lt)
  where
    by : (T : IrType) → Knows ty (length t.structs) T → All (λ p. p < length t.types) (type_parts (bodies t) T)
    by (Int w) k = λ i d l. absurd (omega arith)
    by Ptr k = λ i d l. absurd (omega arith)
    by Void k = λ i d l. absurd (omega arith)
    by (Array n part) k = only part (omega (arith, k, lt))
    by (Struct packed parts) k = λ i d l. (let h = k i d l in omega (arith, h, lt))
    by (Named id) k = body_parts_known (length t.types) (get_or (bodies t) id None) (body_known t good id)

module _ (t : Types) (good : IsGood t) where
  abbrev in_room : ℕ → List ℕ → Option Shape
  in_room room = name_shape (λ _. None) (body_of (structs t)) room

  abbrev Outlined : TypeOutline → List ℕ → Shape → Type 0
  Outlined h ps x = (built h (collected (map (shape t) ps)) ≡ Some x) × (shape_head x ≡ h) × (shape_parts x ≡ map (shape t) ps)

  struct_outlined : (packed : Bool) (ps : List ℕ) (ss : Shapes) (x : Shape) → all_expanded (in_room 64) (trees_at (trees t) ps) ≡ Some ss → struct_of None packed ss ≡ x → Outlined (heads.Struct packed) ps x
  struct_outlined packed ps ss x e p =
      let got = sym (trees_collected (in_room 64) (trees t) ps) ∙ e in
      (ap (built (heads.Struct packed)) got ∙ ap Some p, ap shape_head (sym p), ap shape_parts (sym p) ∙ collected-listed (map (shape t) ps) ss got)

  body_outlined : (b : Option StructBody) (x : Shape) → body_shape (in_room 63) None (tree_body (trees t) b) ≡ Some x → Outlined (body_head b) (body_parts b) x
  body_outlined None x e = let y : opaque_leaf None ≡ x = cc in (ap Some y, ap shape_head (sym y), ap shape_parts (sym y))
  body_outlined (Some Opaque) x e = let y : opaque_leaf None ≡ x = cc in (ap Some y, ap shape_head (sym y), ap shape_parts (sym y))
  body_outlined (Some (Plain parts)) x e =
      let inside = unmapped (struct_of None false) (all_expanded (in_room 63) (trees_at (trees t) parts)) x e in
      struct_outlined false parts inside.0 x (trees_keep (in_room 63) (in_room 64) (name_keeps (λ _. None) (body_of (structs t)) 63) (trees_at (trees t) parts) inside.0 inside.1) inside.2
  body_outlined (Some (Packed parts)) x e =
      let inside = unmapped (struct_of None true) (all_expanded (in_room 63) (trees_at (trees t) parts)) x e in
      struct_outlined true parts inside.0 x (trees_keep (in_room 63) (in_room 64) (name_keeps (λ _. None) (body_of (structs t)) 63) (trees_at (trees t) parts) inside.0 inside.1) inside.2

  named_outlined : (id : ℕ) → id < length t.structs → (x : Shape) → in_room 64 (get_or (names t) id []) ≡ Some x → Outlined (body_head (get_or (bodies t) id None)) (body_parts (get_or (bodies t) id None)) x
  named_outlined id lt x e =
      let n = get_or (names t) id [] in
      let place = index_of-at (names t) id good.distinct (omega (arith, length-map t.structs (λ s. s.0))) in
      let body = body_of-place t n ∙ ap (λ i. tree_body (trees t) (get_or (bodies t) i None)) place in
      body_outlined (get_or (bodies t) id None) x
      (sym (name_shape-suc (λ _. None) (body_of (structs t)) 63 n ∙ ap (body_shape (in_room 63) None) body) ∙ e)

  -- a type's shape is made of its head and the shapes of its parts
  pub outlined : (ty : ℕ) → ty < length t.types → (x : Shape) → shape t ty ≡ Some x → Outlined (head_of t ty) (parts_of t ty) x
  outlined ty lt x e = by (get_or t.types ty Void) (type_known t good ty lt) (sym (ap (expanded (in_room 64)) (tree-is t good ty lt)) ∙ e)
    where
      by : (T : IrType) → Knows ty (length t.structs) T → expanded (in_room 64) (tree_of (names t) (trees t) T) ≡ Some x → Outlined (type_head (bodies t) T) (type_parts (bodies t) T) x
      by (Int w) k q = let y : int_leaf w ≡ x = cc in (ap Some y, ap shape_head (sym y), ap shape_parts (sym y))
      by Ptr k q = let y : ptr_leaf ≡ x = cc in (ap Some y, ap shape_head (sym y), ap shape_parts (sym y))
      by Void k q = let y : void_leaf ≡ x = cc in (ap Some y, ap shape_head (sym y), ap shape_parts (sym y))
      by (Array n part) k q =
          let inside = unmapped (array_of n) (shape t part) x q in (
            ap (λ o. built (heads.Array n) (with_first o (Some no_shapes))) inside.1 ∙ ap Some inside.2,
            ap shape_head (sym inside.2),
            ap shape_parts (sym inside.2) ∙ (λ j. sym inside.1 j ∷ []),
          )
      by (Struct packed parts) k q =
          let inside = unmapped (struct_of None packed) (all_expanded (in_room 64) (trees_at (trees t) parts)) x q in
          struct_outlined packed parts inside.0 x inside.1 inside.2
      by (Named id) k q = named_outlined id k x q

-- a part nests less deep
listed_nesting : (ss : Shapes) (k : ℕ) → option_map_or nesting (get_or (listed ss) k None) 0 ≤ deepest ss
listed_nesting no_shapes k = omega arith
listed_nesting (more_shapes s ss) zero = omega arith
listed_nesting (more_shapes s ss) (suc k) = let rest = listed_nesting ss k in omega (arith, rest)

parts_nesting : (x : Shape) (k : ℕ) → k < length (shape_parts x) → option_map_or nesting (get_or (shape_parts x) k None) 0 < nesting x
parts_nesting (int_leaf w) k lt = absurd (omega arith)
parts_nesting ptr_leaf k lt = absurd (omega arith)
parts_nesting void_leaf k lt = absurd (omega arith)
parts_nesting (opaque_leaf label) k lt = absurd (omega arith)
parts_nesting (array_of n s) zero lt = omega arith
parts_nesting (array_of n s) (suc k) lt = absurd (omega arith)
parts_nesting (struct_of label packed ss) k lt = let r = listed_nesting ss k in omega (arith, r)

pub part_nesting : (t : Types) → IsGood t → (ty : ℕ) → ty < length t.types → HasShape (shape t ty) → (k : ℕ) → k < length (parts_of t ty) → type_nesting t (get_or (parts_of t ty) k 0) < type_nesting t ty
part_nesting t good ty lt shaped k l =
    let out = outlined t good ty lt shaped.0 shaped.1 in
    let many = ap length out.2 ∙ length-map (parts_of t ty) (shape t) in
    let deep = parts_nesting shaped.0 k (omega (arith, many)) in
    let part = ap (λ os. option_map_or nesting (get_or os k None) 0) out.2 ∙ ap (λ o. option_map_or nesting o 0) (get_or-map (shape t) (parts_of t ty) k 0 None l) in
    let whole = ap (λ o. option_map_or nesting o 0) shaped.1 in
    omega (arith, deep, part, whole)

module _ (t u : Types) (good : IsGood t) (good_other : IsGood u) (ty uy : ℕ) (lt : ty < length t.types) (ult : uy < length u.types)
    (shaped : HasShape (shape t ty)) (ushaped : HasShape (shape u uy)) where
  -- types with one head and equal shapes of the parts have one shape
  pub same_shape : head_of t ty ≡ head_of u uy → map (shape t) (parts_of t ty) ≡ map (shape u) (parts_of u uy) → shape t ty ≡ shape u uy
  same_shape h ps =
      shaped.1 ∙ sym (outlined t good ty lt shaped.0 shaped.1).0
      ∙ (λ j. built (h j) (collected (ps j)))
      ∙ (outlined u good_other uy ult ushaped.0 ushaped.1).0 ∙ sym ushaped.1

  one_shape : shape t ty ≡ shape u uy → shaped.0 ≡ ushaped.0
  one_shape e = by (sym shaped.1 ∙ e ∙ ushaped.1)
    where
      by : Some shaped.0 ≡ Some ushaped.0 → shaped.0 ≡ ushaped.0
      by q = cc

  pub heads_told : shape t ty ≡ shape u uy → head_of t ty ≡ head_of u uy
  heads_told e = sym (outlined t good ty lt shaped.0 shaped.1).1 ∙ ap shape_head (one_shape e) ∙ (outlined u good_other uy ult ushaped.0 ushaped.1).1

  pub parts_told : shape t ty ≡ shape u uy → map (shape t) (parts_of t ty) ≡ map (shape u) (parts_of u uy)
  parts_told e = sym (outlined t good ty lt shaped.0 shaped.1).2 ∙ ap shape_parts (one_shape e) ∙ (outlined u good_other uy ult ushaped.0 ushaped.1).2

  pub count_told : shape t ty ≡ shape u uy → length (parts_of t ty) ≡ length (parts_of u uy)
  count_told e = sym (length-map (parts_of t ty) (shape t)) ∙ ap length (parts_told e) ∙ length-map (parts_of u uy) (shape u)

  pub part_told : shape t ty ≡ shape u uy → (k : ℕ) → k < length (parts_of t ty) → shape t (get_or (parts_of t ty) k 0) ≡ shape u (get_or (parts_of u uy) k 0)
  part_told e k l =
      let many = count_told e in
      sym (get_or-map (shape t) (parts_of t ty) k 0 None l)
      ∙ ap (λ os. get_or os k None) (parts_told e)
      ∙ get_or-map (shape u) (parts_of u uy) k 0 None (omega (arith, many))

  pub same_by_parts : head_of t ty ≡ head_of u uy → length (parts_of t ty) ≡ length (parts_of u uy)
      → ((k : ℕ) → k < length (parts_of t ty) → shape t (get_or (parts_of t ty) k 0) ≡ shape u (get_or (parts_of u uy) k 0)) → shape t ty ≡ shape u uy
  same_by_parts h many each =
      same_shape h (ext_get_or None (map (shape t) (parts_of t ty)) (map (shape u) (parts_of u uy))
      (length-map (parts_of t ty) (shape t) ∙ many ∙ sym (length-map (parts_of u uy) (shape u)))
      (λ k l. get_or-map (shape t) (parts_of t ty) k 0 None (omega (arith, l, length-map (parts_of t ty) (shape t)))
      ∙ each k (omega (arith, l, length-map (parts_of t ty) (shape t)))
      ∙ sym (get_or-map (shape u) (parts_of u uy) k 0 None (omega (arith, l, many, length-map (parts_of t ty) (shape t))))))

-- a type that is a struct's name
pub named_in : (t : Types) → IsGood t → (ty i id : ℕ) (T : IrType) → T ≡ get_or t.types i T → i ≡ ty → ty < length t.types → T ≡ Named id
    → (id < length t.structs) × (head_of t ty ≡ body_head (get_or (bodies t) id None)) × (parts_of t ty ≡ body_parts (get_or (bodies t) id None))
named_in t good ty i id T read same lt e =
    let here : get_or t.types ty Void ≡ Named id = sym (get_or_read t.types ty T lt (read ∙ ap (λ k. get_or t.types k T) same) Void) ∙ e in (
      subst (λ x. Knows ty (length t.structs) x) here (type_known t good ty lt),
      ap (type_head (bodies t)) here,
      ap (type_parts (bodies t)) here,
    )
