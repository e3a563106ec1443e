-- The shape of a good type: integers of 1 to 128 bits, pointers, and structs of few bytes.
use Rattle.std.proofs.Common.{◌≡◌, ℕ, suc, ◌≤◌, ◌^◌, List, [], ◌∷◌, map, refl, sym, ap, ◌∙◌, subst, Bool, true, false, not, ◌&&◌, ◌||◌, nat_le, bytes_eq, Option, Some, None, is_some, unwrap_or, true≢false, leb-true}
use Rattle.std.specs.Prelude.{⊤, slice_index_or, if◌then◌else◌}
use Rattle.std.specs.List.{list_all}
use Rattle.std.proofs.lemmas.Bool.{and_parts}
use Rattle.ir_memory.specs.Given.{IsLeaf}
use Rattle.ir_memory.specs.declared.leaf.Leaf.TheVariants as leaf
use Rattle.type_table.specs.Layout.{has_layout, have_layouts, size}
use Rattle.type_table.specs.Limits.{array_length}
use Rattle.type_table.specs.Shape.{Label, Shape, int_leaf, ptr_leaf, void_leaf, opaque_leaf, array_of, struct_of, Shapes, no_shapes, more_shapes, expanded, all_expanded, body_shape, name_shape, shape, nesting, parts}
use Rattle.type_table.specs.Tree.{Tree, int, ptr, void, array, struct, named, Trees, no_trees, more_trees, TreeBody, opaque_body, fields, Structs, index_of, body_of}
use Rattle.type_table.proofs.Rooms.{unmapped, unjoined, name_shape-suc}
use Rattle.module_arena.specs.TypeTests.{struct_of_body, opened}
use Rattle.module_arena.specs.WellFormed.{is_within_limits, is_good_type, are_good_types, is_good_body, are_good_structs}
use Rattle.typed_runs.proofs.OnLook.Opened.{opened_shape}

abbrev mutual
  -- integers of 1 to 128 bits, and structs that lie in memory have at most 2^40 bytes
  pub IsSound : Shape → Type 0
  IsSound (int_leaf w) = IsLeaf (leaf.Int w)
  IsSound ptr_leaf = ⊤
  IsSound void_leaf = ⊤
  IsSound (opaque_leaf label) = ⊤
  IsSound (array_of n s) = IsSound s
  IsSound (struct_of label packed ss) = (have_layouts ss ≡ true → size (struct_of label packed ss) ≤ 2 ^ 40) × AreSound ss

  pub AreSound : Shapes → Type 0
  AreSound no_shapes = ⊤
  AreSound (more_shapes s ss) = IsSound s × AreSound ss

-- what stands for a name
body_good : (all structs : Structs) (name : List ℕ) → list_all (λ s. is_good_body all s.1 && is_good_type all (named s.0)) structs ≡ true → is_good_body all (body_of structs name) ≡ true
body_good all [] name h = refl
body_good all (s ∷ structs) name h =
    let p = and_parts (is_good_body all s.1 && is_good_type all (named s.0)) (list_all (λ s. is_good_body all s.1 && is_good_type all (named s.0)) structs) h in
    go (bytes_eq s.0 name) (and_parts (is_good_body all s.1) (is_good_type all (named s.0)) p.0).0 (body_good all structs name p.1)
  where
    go : (b : Bool) → is_good_body all s.1 ≡ true → is_good_body all (body_of structs name) ≡ true
        → is_good_body all (slice_index_or (map (λ (s : List ℕ × TreeBody). s.1) (s ∷ structs)) (if b then 0 else suc (index_of (map (λ (s : List ℕ × TreeBody). s.0) structs) name)) opaque_body) ≡ true
    go true first rest = first
    go false first rest = rest

module _ (structs : Structs) (good : are_good_structs structs ≡ true) where
  abbrev rooms : List ℕ → Option Shape
  rooms = name_shape (λ _. None) (body_of structs) 64

  -- what holds of the parts of a good type
  abbrev HasGoodParts : Tree → Type 0
  HasGoodParts (int w) = IsLeaf (leaf.Int w)
  HasGoodParts ptr = ⊤
  HasGoodParts void = ⊤
  HasGoodParts (array n t) = is_good_type structs t ≡ true
  HasGoodParts (struct packed ts) = are_good_types structs ts ≡ true
  HasGoodParts (named name) = body_of structs name ≡ opaque_body

  opened_good : (t : Tree) → is_good_type structs t ≡ true → HasGoodParts (opened structs t)
  opened_good (int w) h = let p = and_parts (nat_le 1 w) (nat_le w 128) h in (leb-true 1 w p.0, leb-true w 128 p.1)
  opened_good ptr h = tt
  opened_good void h = tt
  opened_good (array n t) h = (and_parts (is_good_type structs t) (is_within_limits (shape structs (array n t))) h).0
  opened_good (struct packed ts) h = (and_parts (are_good_types structs ts) (is_within_limits (shape structs (struct packed ts))) h).0
  opened_good (named name) h = go (body_of structs name) refl (body_good structs structs name good)
    where
      go : (body : TreeBody) → body_of structs name ≡ body → is_good_body structs body ≡ true → HasGoodParts (struct_of_body name body)
      go opaque_body e g = e
      go (fields packed ts) e g = g

  opaque_there : (name : List ℕ) → body_of structs name ≡ opaque_body → shape structs (named name) ≡ Some (opaque_leaf None)
  opaque_there name e = name_shape-suc (λ _. None) (body_of structs) 63 name ∙ ap (body_shape (name_shape (λ _. None) (body_of structs) 63) None) e

  integer_inside : (w : ℕ) (o : Tree) → HasGoodParts o → shape structs o ≡ Some (int_leaf w) → IsLeaf (leaf.Int w)
  integer_inside w (int v) h e = let same : v ≡ w = cc in subst (λ (n : ℕ). IsLeaf (leaf.Int n)) same h
  integer_inside w ptr h e = cc
  integer_inside w void h e = cc
  integer_inside w (array n t) h e = let inside = unmapped (array_of n) (expanded rooms t) (int_leaf w) e in let bad = inside.2 in cc
  integer_inside w (struct packed ts) h e = let inside = unmapped (struct_of None packed) (all_expanded rooms ts) (int_leaf w) e in let bad = inside.2 in cc
  integer_inside w (named name) h e = let bad = sym (opaque_there name h) ∙ e in cc

  array_inside : (m : ℕ) (s : Shape) (o : Tree) → HasGoodParts o → shape structs o ≡ Some (array_of m s) → (u : Tree) × (is_good_type structs u ≡ true) × (shape structs u ≡ Some s)
  array_inside m s (int v) h e = cc
  array_inside m s ptr h e = cc
  array_inside m s void h e = cc
  array_inside m s (array n t) h e =
      let inside = unmapped (array_of n) (expanded rooms t) (array_of m s) e in
      let whole = inside.2 in
      let same : inside.0 ≡ s = cc in (t, h, inside.1 ∙ ap (λ (x : Shape). Some x) same)
  array_inside m s (struct packed ts) h e = let inside = unmapped (struct_of None packed) (all_expanded rooms ts) (array_of m s) e in let bad = inside.2 in cc
  array_inside m s (named name) h e = let bad = sym (opaque_there name h) ∙ e in cc

  fields_inside : (label : Label) (packed : Bool) (ss : Shapes) (o : Tree) → HasGoodParts o → shape structs o ≡ Some (struct_of label packed ss) → (ts : Trees) × (are_good_types structs ts ≡ true) × (all_expanded rooms ts ≡ Some ss)
  fields_inside label packed ss (int v) h e = cc
  fields_inside label packed ss ptr h e = cc
  fields_inside label packed ss void h e = cc
  fields_inside label packed ss (array n t) h e = let inside = unmapped (array_of n) (expanded rooms t) (struct_of label packed ss) e in let bad = inside.2 in cc
  fields_inside label packed ss (struct q ts) h e =
      let inside = unmapped (struct_of None q) (all_expanded rooms ts) (struct_of label packed ss) e in
      let whole = inside.2 in
      let same : inside.0 ≡ ss = cc in (ts, h, inside.1 ∙ ap (λ (x : Shapes). Some x) same)
  fields_inside label packed ss (named name) h e = let bad = sym (opaque_there name h) ∙ e in cc

  -- a shape within the limits
  small : (o : Option Shape) (s : Shape) → is_within_limits o ≡ true → o ≡ Some s → has_layout s ≡ true → size s ≤ 2 ^ 40
  small o s h e laid =
      let within : is_within_limits (Some s) ≡ true = subst (λ x. is_within_limits x ≡ true) e h in
      let p = and_parts (nat_le (nesting s) 64) (nat_le (parts s) (2 ^ 20) && (nat_le (array_length s) (2 ^ 40) && (not (has_layout s) || nat_le (size s) (2 ^ 40)))) within in
      let q = and_parts (nat_le (parts s) (2 ^ 20)) (nat_le (array_length s) (2 ^ 40) && (not (has_layout s) || nat_le (size s) (2 ^ 40))) p.1 in
      let r = and_parts (nat_le (array_length s) (2 ^ 40)) (not (has_layout s) || nat_le (size s) (2 ^ 40)) q.1 in
      leb-true (size s) (2 ^ 40) (subst (λ b. (not b || nat_le (size s) (2 ^ 40)) ≡ true) laid r.1)

  struct_small : (t : Tree) (label : Label) (packed : Bool) (ss : Shapes) → is_good_type structs t ≡ true → shape structs t ≡ Some (struct_of label packed ss) → have_layouts ss ≡ true → size (struct_of label packed ss) ≤ 2 ^ 40
  struct_small (int w) label packed ss h e laid = cc
  struct_small ptr label packed ss h e laid = cc
  struct_small void label packed ss h e laid = cc
  struct_small (array n t) label packed ss h e laid = small (shape structs (array n t)) (struct_of label packed ss) (and_parts (is_good_type structs t) (is_within_limits (shape structs (array n t))) h).1 e laid
  struct_small (struct q ts) label packed ss h e laid = small (shape structs (struct q ts)) (struct_of label packed ss) (and_parts (are_good_types structs ts) (is_within_limits (shape structs (struct q ts))) h).1 e laid
  struct_small (named name) label packed ss h e laid = small (shape structs (named name)) (struct_of label packed ss) (and_parts _ (is_within_limits (shape structs (named name))) h).1 e laid

  mutual
    pub shape_sound : (s : Shape) (t : Tree) → is_good_type structs t ≡ true → shape structs t ≡ Some s → IsSound s
    shape_sound (int_leaf w) t h e = integer_inside w (opened structs t) (opened_good t h) (opened_shape structs t (int_leaf w) e)
    shape_sound ptr_leaf t h e = tt
    shape_sound void_leaf t h e = tt
    shape_sound (opaque_leaf label) t h e = tt
    shape_sound (array_of n s) t h e =
        let r = array_inside n s (opened structs t) (opened_good t h) (opened_shape structs t (array_of n s) e) in
        shape_sound s r.0 r.1 r.2
    shape_sound (struct_of label packed ss) t h e =
        let r = fields_inside label packed ss (opened structs t) (opened_good t h) (opened_shape structs t (struct_of label packed ss) e) in
        (struct_small t label packed ss h e, fields_sound ss r.0 r.1 r.2)

    fields_sound : (ss : Shapes) (ts : Trees) → are_good_types structs ts ≡ true → all_expanded rooms ts ≡ Some ss → AreSound ss
    fields_sound no_shapes ts h e = tt
    fields_sound (more_shapes s ss) no_trees h e = cc
    fields_sound (more_shapes s ss) (more_trees t ts) h e =
        let p = and_parts (is_good_type structs t) (are_good_types structs ts) h in
        let inside = unjoined (expanded rooms t) (all_expanded rooms ts) (more_shapes s ss) e in
        let whole = inside.4 in
        let first : inside.0 ≡ s = cc in
        let others : inside.1 ≡ ss = cc in
        (shape_sound s t p.0 (inside.2 ∙ ap (λ (x : Shape). Some x) first), fields_sound ss ts p.1 (inside.3 ∙ ap (λ (x : Shapes). Some x) others))

  within_is_some : (o : Option Shape) → is_within_limits o ≡ true → is_some o ≡ true
  within_is_some None h = absurd (true≢false (sym h))
  within_is_some (Some s) h = refl

  pub has_shape : (t : Tree) → is_good_type structs t ≡ true → is_some (shape structs t) ≡ true
  has_shape (int w) h = refl
  has_shape ptr h = refl
  has_shape void h = refl
  has_shape (array n t) h = within_is_some (shape structs (array n t)) (and_parts (is_good_type structs t) (is_within_limits (shape structs (array n t))) h).1
  has_shape (struct packed ts) h = within_is_some (shape structs (struct packed ts)) (and_parts (are_good_types structs ts) (is_within_limits (shape structs (struct packed ts))) h).1
  has_shape (named name) h = within_is_some (shape structs (named name)) (and_parts _ (is_within_limits (shape structs (named name))) h).1

  -- where there is a shape, it is the one that stands for the type
  pub some_shape : (o : Option Shape) → is_some o ≡ true → o ≡ Some (unwrap_or o void_leaf)
  some_shape None h = absurd (true≢false (sym h))
  some_shape (Some s) h = refl

  pub type_sound : (t : Tree) → is_good_type structs t ≡ true → IsSound (unwrap_or (shape structs t) void_leaf)
  type_sound t h = shape_sound (unwrap_or (shape structs t) void_leaf) t h (some_shape (shape structs t) (has_shape t h))
