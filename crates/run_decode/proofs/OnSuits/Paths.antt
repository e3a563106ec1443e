-- Indices that lead to a part of a type lead to a part of its shape.
use Rattle.std.proofs.Common.{◌≡◌, ℕ, zero, suc, ◌<◌, List, [], ◌∷◌, refl, sym, ap, ◌∙◌, subst, Bool, true, false, Option, Some, None, is_some, true≢false, unwrap_or, if◌then◌else◌, nat_lt, ltb-true, arith}
use Rattle.std.specs.Prelude.{option_and_then}
use Rattle.std.specs.Option.{option_map}
use Rattle.std.proofs.lemmas.Option.{none-some, same_Some}
use Rattle.type_table.specs.Layout.{layout}
use Rattle.type_table.specs.Shape.{Shape, void_leaf, array_of, struct_of, Shapes, with_first, expanded, all_expanded, body_shape, name_shape, shape}
use Rattle.type_table.specs.Tree.{Tree, int, ptr, void, array, struct, named, Trees, no_trees, more_trees, TreeBody, opaque_body, fields, Structs, body_of}
use Rattle.type_table.proofs.Outlined.{name_keeps}
use Rattle.type_table.proofs.Rooms.{unmapped, unjoined, name_shape-suc}
use Rattle.module_arena.specs.TypeTests.{struct_of_body, opened, field_type, part_type, part_at, is_passable, is_small_layout}
use Rattle.run_rules.specs.Leaves.{element, field}
use Rattle.run_names.specs.Shapes.Shapes.{HasElement, HasPath, field_count}

-- ---- a type and what its name stands for have one shape

module _ (f g : List ℕ → Option Shape) (keep : (n : List ℕ) (x : Shape) → f n ≡ Some x → g n ≡ Some x) where
  mutual
    tree_keeps : (t : Tree) (x : Shape) → expanded f t ≡ Some x → expanded g t ≡ Some x
    tree_keeps (int w) x e = e
    tree_keeps ptr x e = e
    tree_keeps void x e = e
    tree_keeps (array n t) x e =
        let inside = unmapped (array_of n) (expanded f t) x e in
        ap (option_map (array_of n)) (tree_keeps t inside.0 inside.1) ∙ ap (λ (s : Shape). Some s) inside.2
    tree_keeps (struct packed ts) x e =
        let inside = unmapped (struct_of None packed) (all_expanded f ts) x e in
        ap (option_map (struct_of None packed)) (trees_keep ts inside.0 inside.1) ∙ ap (λ (s : Shape). Some s) inside.2
    tree_keeps (named n) x e = keep n x e

    trees_keep : (ts : Trees) (xs : Shapes) → all_expanded f ts ≡ Some xs → all_expanded g ts ≡ Some xs
    trees_keep no_trees xs e = e
    trees_keep (more_trees t ts) xs e =
        let inside = unjoined (expanded f t) (all_expanded f ts) xs e in
        (λ j. with_first (tree_keeps t inside.0 inside.2 j) (trees_keep ts inside.1 inside.3 j)) ∙ ap (λ (ss : Shapes). Some ss) inside.4

module _ (structs : Structs) where
  abbrev rooms : ℕ → List ℕ → Option Shape
  rooms room = name_shape (λ _. None) (body_of structs) room

  body_opened : (room : ℕ) (name : List ℕ) (body : TreeBody) (s : Shape) → body_of structs name ≡ body → rooms (suc room) name ≡ Some s → expanded (rooms (suc room)) (struct_of_body name body) ≡ Some s
  body_opened room name opaque_body s b e = e
  body_opened room name (fields packed ts) s b e =
      let body = sym (ap (body_shape (rooms room) None) b) ∙ sym (name_shape-suc (λ _. None) (body_of structs) room name) ∙ e in
      tree_keeps (rooms room) (rooms (suc room)) (name_keeps (λ _. None) (body_of structs) room) (struct packed ts) s body

  opened_shape : (t : Tree) (s : Shape) → shape structs t ≡ Some s → shape structs (opened structs t) ≡ Some s
  opened_shape (int w) s e = e
  opened_shape ptr s e = e
  opened_shape void s e = e
  opened_shape (array n t) s e = e
  opened_shape (struct packed ts) s e = e
  opened_shape (named name) s e = body_opened 63 name (body_of structs name) s refl e

  -- ---- parts

  -- a part of a shape is there, and is that of a type
  record IsPartOf (s : Shape) (k : ℕ) (u : Tree) : Type 0 where
    there : HasElement s k
    is : shape structs u ≡ Some (element s k)

  -- so a field
  record IsFieldOf (ss : Shapes) (k : ℕ) (u : Tree) : Type 0 where
    there : k < field_count ss
    is : shape structs u ≡ Some (field ss k)

  field_there : (ts : Trees) (xs : Shapes) (k : ℕ) (u : Tree) → all_expanded (rooms 64) ts ≡ Some xs → field_type ts k ≡ Some u → IsFieldOf xs k u
  field_there no_trees xs k u e h = absurd (none-some u h)
  field_there (more_trees t ts) xs zero u e h =
      let inside = unjoined (expanded (rooms 64) t) (all_expanded (rooms 64) ts) xs e in
      subst (λ (ss : Shapes). IsFieldOf ss zero u) inside.4 (record { there = omega arith; is = ap (shape structs) (sym (same_Some t u h)) ∙ inside.2 })
  field_there (more_trees t ts) xs (suc k) u e h =
      let inside = unjoined (expanded (rooms 64) t) (all_expanded (rooms 64) ts) xs e in
      let more = field_there ts inside.1 k u inside.3 h in
      let less = more.there in
      subst (λ (ss : Shapes). IsFieldOf ss (suc k) u) inside.4 (record { there = omega (arith, less); is = more.is })

  element_there : (o : Tree) (s : Shape) (k : ℕ) (u : Tree) → shape structs o ≡ Some s → part_type o k ≡ Some u → IsPartOf s k u
  element_there (int w) s k u e h = absurd (none-some u h)
  element_there ptr s k u e h = absurd (none-some u h)
  element_there void s k u e h = absurd (none-some u h)
  element_there (named name) s k u e h = absurd (none-some u h)
  element_there (array n t) s k u e h = go (nat_lt k n) refl h
    where
      go : (b : Bool) → nat_lt k n ≡ b → (if b then Some t else None) ≡ Some u → IsPartOf s k u
      go false l q = absurd (none-some u q)
      go true l q =
          let inside = unmapped (array_of n) (expanded (rooms 64) t) s e in
          subst (λ (x : Shape). IsPartOf x k u) inside.2 (record { there = ltb-true k n l; is = ap (shape structs) (sym (same_Some t u q)) ∙ inside.1 })
  element_there (struct packed ts) s k u e h =
      let inside = unmapped (struct_of None packed) (all_expanded (rooms 64) ts) s e in
      let one = field_there ts inside.0 k u inside.1 h in
      subst (λ (x : Shape). IsPartOf x k u) inside.2 (record { there = one.there; is = one.is })

  path_there : (indices : List ℕ) (t u : Tree) (s : Shape) → shape structs t ≡ Some s → part_at structs t indices ≡ Some u → HasPath s indices
  path_there [] t u s e h = tt
  path_there (k ∷ ks) t u s e h = go (part_type (opened structs t) k) refl h (λ v x q p. path_there ks v u x q p)
    where
      go : (o : Option Tree) → part_type (opened structs t) k ≡ o → option_and_then (λ part. part_at structs part ks) o ≡ Some u
          → ((v : Tree) (x : Shape) → shape structs v ≡ Some x → part_at structs v ks ≡ Some u → HasPath x ks) → HasElement s k × HasPath (element s k) ks
      go None q p more = absurd (none-some u p)
      go (Some v) q p more = let one = element_there (opened structs t) s k v (opened_shape t s e) q in (one.there, more v (element s k) one.is p)

  -- where a type of values has a part, its shape has one
  pub has_path : (t : Tree) (indices : List ℕ) → is_passable structs t ≡ true → is_some (part_at structs t indices) ≡ true → HasPath (unwrap_or (shape structs t) void_leaf) indices
  has_path t indices passable some = go (shape structs t) (part_at structs t indices) refl refl passable some
    where
      go : (o : Option Shape) (p : Option Tree) → shape structs t ≡ o → part_at structs t indices ≡ p → is_small_layout (option_and_then layout o) ≡ true → is_some p ≡ true → HasPath (unwrap_or o void_leaf) indices
      go None p e q h k = absurd (true≢false (sym h))
      go (Some s) None e q h k = absurd (true≢false (sym k))
      go (Some s) (Some u) e q h k = path_there indices t u s e q
