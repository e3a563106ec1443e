-- A type and what its name stands for have one shape, and so have their parts.
use Rattle.std.proofs.Common.{◌≡◌, ℕ, zero, suc, List, [], ◌∷◌, refl, sym, ap, ◌∙◌, Bool, true, false, Option, Some, None, is_some, true≢false, unwrap_or, if◌then◌else◌, nat_lt}
use Rattle.std.specs.Prelude.{option_and_then}
use Rattle.std.specs.Option.{option_map}
use Rattle.std.proofs.lemmas.Option.{same_Some}
use Rattle.run_rules.proofs.OnPlaces.Options.{none_some}
use Rattle.type_table.specs.Shape.{Shape, void_leaf, array_of, struct_of, Shapes, with_first, expanded, all_expanded, body_shape, name_shape, shape}
use Rattle.type_table.specs.Tree.{Tree, int, ptr, void, array, struct, named, Trees, no_trees, more_trees, TreeBody, opaque_body, fields, Structs, body_of}
use Rattle.type_table.proofs.Outlined.{name_keeps}
use Rattle.type_table.proofs.Rooms.{unmapped, unjoined, name_shape-suc}
use Rattle.module_arena.specs.TypeTests.{struct_of_body, opened, field_type, part_type, part_at}
use Rattle.run_rules.specs.Constant.{Names, shape_of}
use Rattle.run_rules.specs.Leaves.{element, field, part}
use Rattle.typed_runs.proofs.OnLook.Operands.{PartsHaveShapes}

module _ (f g : List ℕ → Option Shape) (keep : (n : List ℕ) (x : Shape) → f n ≡ Some x → g n ≡ Some x) where
  mutual
    tree_keeps : (t : Tree) (x : Shape) → expanded f t ≡ Some x → expanded g t ≡ Some x
    tree_keeps (int w) x e = e
    tree_keeps ptr x e = e
    tree_keeps void x e = e
    tree_keeps (array n t) x e =
        let inside = unmapped (array_of n) (expanded f t) x e in
        ap (option_map (array_of n)) (tree_keeps t inside.0 inside.1) ∙ ap (λ (s : Shape). Some s) inside.2
    tree_keeps (struct packed ts) x e =
        let inside = unmapped (struct_of None packed) (all_expanded f ts) x e in
        ap (option_map (struct_of None packed)) (trees_keep ts inside.0 inside.1) ∙ ap (λ (s : Shape). Some s) inside.2
    tree_keeps (named n) x e = keep n x e

    trees_keep : (ts : Trees) (xs : Shapes) → all_expanded f ts ≡ Some xs → all_expanded g ts ≡ Some xs
    trees_keep no_trees xs e = e
    trees_keep (more_trees t ts) xs e =
        let inside = unjoined (expanded f t) (all_expanded f ts) xs e in
        (λ j. with_first (tree_keeps t inside.0 inside.2 j) (trees_keep ts inside.1 inside.3 j)) ∙ ap (λ (ss : Shapes). Some ss) inside.4

module _ (structs : Structs) where
  abbrev rooms : ℕ → List ℕ → Option Shape
  rooms room = name_shape (λ _. None) (body_of structs) room

  -- what a name stands for has the same shape in one room more
  body_opened : (room : ℕ) (name : List ℕ) (body : TreeBody) (s : Shape) → body_of structs name ≡ body → rooms (suc room) name ≡ Some s → expanded (rooms (suc room)) (struct_of_body name body) ≡ Some s
  body_opened room name opaque_body s b e = e
  body_opened room name (fields packed ts) s b e =
      let body = sym (ap (body_shape (rooms room) None) b) ∙ sym (name_shape-suc (λ _. None) (body_of structs) room name) ∙ e in
      tree_keeps (rooms room) (rooms (suc room)) (name_keeps (λ _. None) (body_of structs) room) (struct packed ts) s body

  pub opened_shape : (t : Tree) (s : Shape) → shape structs t ≡ Some s → shape structs (opened structs t) ≡ Some s
  opened_shape (int w) s e = e
  opened_shape ptr s e = e
  opened_shape void s e = e
  opened_shape (array n t) s e = e
  opened_shape (struct packed ts) s e = e
  opened_shape (named name) s e = body_opened 63 name (body_of structs name) s refl e

module _ (names : Names) where
  field_shaped : (ts : Trees) (xs : Shapes) (k : ℕ) (u : Tree) → all_expanded (rooms names.structs 64) ts ≡ Some xs → field_type ts k ≡ Some u → shape names.structs u ≡ Some (field xs k)
  field_shaped no_trees xs k u e h = none_some u h
  field_shaped (more_trees t ts) xs zero u e h =
      let inside = unjoined (expanded (rooms names.structs 64) t) (all_expanded (rooms names.structs 64) ts) xs e in
      ap (shape names.structs) (sym (same_Some t u h)) ∙ inside.2 ∙ ap (λ (ss : Shapes). Some (field ss zero)) inside.4
  field_shaped (more_trees t ts) xs (suc k) u e h =
      let inside = unjoined (expanded (rooms names.structs 64) t) (all_expanded (rooms names.structs 64) ts) xs e in
      field_shaped ts inside.1 k u inside.3 h ∙ ap (λ (ss : Shapes). Some (field ss (suc k))) inside.4

  element_shaped : (o : Tree) (s : Shape) (k : ℕ) (u : Tree) → shape names.structs o ≡ Some s → part_type o k ≡ Some u → shape names.structs u ≡ Some (element s k)
  element_shaped (int w) s k u e h = none_some u h
  element_shaped ptr s k u e h = none_some u h
  element_shaped void s k u e h = none_some u h
  element_shaped (named name) s k u e h = none_some u h
  element_shaped (array n t) s k u e h = go (nat_lt k n) h
    where
      go : (b : Bool) → (if b then Some t else None) ≡ Some u → shape names.structs u ≡ Some (element s k)
      go false q = none_some u q
      go true q =
          let inside = unmapped (array_of n) (expanded (rooms names.structs 64) t) s e in
          ap (shape names.structs) (sym (same_Some t u q)) ∙ inside.1 ∙ ap (λ (x : Shape). Some (element x k)) inside.2
  element_shaped (struct packed ts) s k u e h =
      let inside = unmapped (struct_of None packed) (all_expanded (rooms names.structs 64) ts) s e in
      field_shaped ts inside.0 k u inside.1 h ∙ ap (λ (x : Shape). Some (element x k)) inside.2

  part_shaped : (indices : List ℕ) (t u : Tree) (s : Shape) → shape names.structs t ≡ Some s → part_at names.structs t indices ≡ Some u → shape names.structs u ≡ Some (part s indices)
  part_shaped [] t u s e h = ap (shape names.structs) (sym (same_Some t u h)) ∙ e
  part_shaped (k ∷ ks) t u s e h = go (part_type (opened names.structs t) k) refl h (λ v x q p. part_shaped ks v u x q p)
    where
      go : (o : Option Tree) → part_type (opened names.structs t) k ≡ o → option_and_then (λ part. part_at names.structs part ks) o ≡ Some u
          → ((v : Tree) (x : Shape) → shape names.structs v ≡ Some x → part_at names.structs v ks ≡ Some u → shape names.structs u ≡ Some (part x ks)) → shape names.structs u ≡ Some (part (element s k) ks)
      go None q p more = none_some u p
      go (Some v) q p more = more v (element s k) (element_shaped (opened names.structs t) s k v (opened_shape names.structs t s e) q) p

  pub parts_have_shapes : PartsHaveShapes names
  parts_have_shapes t u indices has h = go (shape names.structs t) refl has
    where
      go : (o : Option Shape) → shape names.structs t ≡ o → is_some o ≡ true → part (unwrap_or o void_leaf) indices ≡ shape_of names u
      go None e k = absurd (true≢false (sym k))
      go (Some s) e k = sym (ap (λ (o : Option Shape). unwrap_or o void_leaf) (part_shaped indices t u s e h))
