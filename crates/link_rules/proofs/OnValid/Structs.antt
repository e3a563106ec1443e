-- The structs of a linked module: each struct of a part has its body there, under new names. A type's new form can be read
-- off its shape with names, so that types of one such shape in two parts are written alike.
use Rattle.std.proofs.Common.{◌≡◌, ℕ, zero, suc, ◌+◌, Bool, true, false, ◌&&◌, ◌||◌, List, [], ◌∷◌, ◌++◌, map, Option, Some, None, refl, sym, ap, ap₂, ◌∙◌, subst, option_map, is_some, bytes_eq, arith}
use Rattle.std.specs.Prelude.{slice_get}
use Rattle.std.specs.List.{list_all}
use Rattle.std.specs.Map.{lookup}
use Rattle.std.proofs.lemmas.Bool.{and_parts, or_left, or_right}
use Rattle.std.proofs.lemmas.Option.{same_Some, none-some}
use Rattle.type_table.specs.Tree.{Tree, int, ptr, void, array, struct, named, Trees, no_trees, more_trees, TreeBody, opaque_body, fields, Structs, body_of}
use Rattle.type_table.specs.Shape.{Label, Shape, int_leaf, ptr_leaf, void_leaf, opaque_leaf, array_of, struct_of, Shapes, no_shapes, more_shapes, with_first, expanded, all_expanded, body_shape, name_shape, shape, named_shape}
use Rattle.type_table.proofs.Rooms.{unmapped, unjoined, name_shape-zero, name_shape-suc}
use Rattle.module_arena.specs.Module.{Bytes, Module}
use Rattle.module_arena.specs.Renamed.{renamed_tree, renamed_trees, renamed_body}
use Rattle.module_arena.specs.WellFormed.{is_good_type, is_good_body, are_good_structs}
use Rattle.linkage_rules.specs.Lists.{has}
use Rattle.linkage_rules.specs.SameShape.{alike}
use Rattle.linkage_rules.specs.Entries.{part_at, structs_at, same_symbol, symbol_name}
use Rattle.linkage_rules.specs.declared.symbol.Symbol.{Symbol}
use Rattle.linkage_rules.specs.declared.symbol.Symbol.TheVariants.{Local}
use Rattle.linkage_rules.specs.SymbolLaws.{name_self, name_exact, symbol_self}
use Rattle.link_rules.specs.Rename.{name_or}
use Rattle.link_rules.specs.Structs.{structs_from, struct_symbols, part_of, shape_of, struct_map, new_struct, linked_struct}
use Rattle.link_rules.specs.Linked.{link_result}
use Rattle.link_rules.proofs.StructRows.{struct_row, new_name_is, same_shapes_are, body_is}
use Rattle.link_rules.proofs.Moved.{kept_some}
use Rattle.link_rules.proofs.KnownTypes.{within_some}
use Rattle.link_rules.proofs.OnValid.Types.{has_struct, KeepsStructs}
use Rattle.link_rules.proofs.OnValid.Known.{structs_closed}

abbrev pub kept : Bytes → Label
kept name = Some name

abbrev unnamed : Bytes → Label
unnamed name = None

-- MORE ROOM CHANGES NO SHAPE

module _ (look there : Bytes → Option Shape) (more : (name : Bytes) (s : Shape) → look name ≡ Some s → there name ≡ Some s) where
  mutual
    tree_more : (t : Tree) (s : Shape) → expanded look t ≡ Some s → expanded there t ≡ Some s
    tree_more (int w) s h = h
    tree_more ptr s h = h
    tree_more void s h = h
    tree_more (array n t) s h =
        let inside = unmapped (array_of n) (expanded look t) s h in
        ap (option_map (array_of n)) (tree_more t inside.0 inside.1) ∙ ap Some inside.2
    tree_more (struct packed ts) s h =
        let inside = unmapped (struct_of None packed) (all_expanded look ts) s h in
        ap (option_map (struct_of None packed)) (trees_more ts inside.0 inside.1) ∙ ap Some inside.2
    tree_more (named name) s h = more name s h

    trees_more : (ts : Trees) (ss : Shapes) → all_expanded look ts ≡ Some ss → all_expanded there ts ≡ Some ss
    trees_more no_trees ss h = h
    trees_more (more_trees t ts) ss h =
        let halves = unjoined (expanded look t) (all_expanded look ts) ss h in
        ap₂ with_first (tree_more t halves.0 halves.2) (trees_more ts halves.1 halves.3) ∙ ap Some halves.4

  body_more : (label : Label) (body : TreeBody) (s : Shape) → body_shape look label body ≡ Some s → body_shape there label body ≡ Some s
  body_more label opaque_body s h = h
  body_more label (fields packed ts) s h =
      let inside = unmapped (struct_of label packed) (all_expanded look ts) s h in
      ap (option_map (struct_of label packed)) (trees_more ts inside.0 inside.1) ∙ ap Some inside.2

name_more : (label : Bytes → Label) (bodies : Bytes → TreeBody) (room : ℕ) (name : Bytes) (s : Shape) → name_shape label bodies room name ≡ Some s → name_shape label bodies (suc room) name ≡ Some s
name_more label bodies zero name s h = absurd (none-some s (sym (name_shape-zero label bodies name) ∙ h))
name_more label bodies (suc room) name s h =
    name_shape-suc label bodies (suc room) name
    ∙ body_more (name_shape label bodies room) (name_shape label bodies (suc room)) (λ n x e. name_more label bodies room n x e) (label name) (bodies name) s (sym (name_shape-suc label bodies room name) ∙ h)

-- A SHAPE IS THERE WITH NAMES WHERE IT IS THERE WITHOUT

both_some : (a c : Option Shape) (b d : Option Shapes) → is_some a ≡ is_some c → is_some b ≡ is_some d → is_some (with_first a b) ≡ is_some (with_first c d)
both_some None None b d e f = refl
both_some None (Some y) b d e f = cc
both_some (Some x) None b d e f = cc
both_some (Some x) (Some y) None None e f = refl
both_some (Some x) (Some y) None (Some ds) e f = cc
both_some (Some x) (Some y) (Some bs) None e f = cc
both_some (Some x) (Some y) (Some bs) (Some ds) e f = refl

module _ (look there : Bytes → Option Shape) (same : (name : Bytes) → is_some (look name) ≡ is_some (there name)) where
  mutual
    tree_some : (t : Tree) → is_some (expanded look t) ≡ is_some (expanded there t)
    tree_some (int w) = refl
    tree_some ptr = refl
    tree_some void = refl
    tree_some (array n t) = kept_some (array_of n) (expanded look t) ∙ tree_some t ∙ sym (kept_some (array_of n) (expanded there t))
    tree_some (struct packed ts) = kept_some (struct_of None packed) (all_expanded look ts) ∙ trees_some ts ∙ sym (kept_some (struct_of None packed) (all_expanded there ts))
    tree_some (named name) = same name

    trees_some : (ts : Trees) → is_some (all_expanded look ts) ≡ is_some (all_expanded there ts)
    trees_some no_trees = refl
    trees_some (more_trees t ts) = both_some (expanded look t) (expanded there t) (all_expanded look ts) (all_expanded there ts) (tree_some t) (trees_some ts)

  body_some : (l k : Label) (body : TreeBody) → is_some (body_shape look l body) ≡ is_some (body_shape there k body)
  body_some l k opaque_body = refl
  body_some l k (fields packed ts) = kept_some (struct_of l packed) (all_expanded look ts) ∙ trees_some ts ∙ sym (kept_some (struct_of k packed) (all_expanded there ts))

name_some : (bodies : Bytes → TreeBody) (room : ℕ) (name : Bytes) → is_some (name_shape kept bodies room name) ≡ is_some (name_shape unnamed bodies room name)
name_some bodies zero name = ap is_some (name_shape-zero kept bodies name) ∙ sym (ap is_some (name_shape-zero unnamed bodies name))
name_some bodies (suc room) name =
    ap is_some (name_shape-suc kept bodies room name)
    ∙ body_some (name_shape kept bodies room) (name_shape unnamed bodies room) (λ n. name_some bodies room n) (kept name) (unnamed name) (bodies name)
    ∙ sym (ap is_some (name_shape-suc unnamed bodies room name))

-- NEW FORMS FROM SHAPES

module _ (parts : List Module) where
  -- the new name of a struct of that name and shape
  abbrev new_by : Bytes → Option Shape → Bytes
  new_by name s = name_or name (lookup (λ t. bytes_eq name (symbol_name t) && alike s (shape_of parts t)) (struct_map parts))

  abbrev mutual
    read_back : Shape → Tree
    read_back (int_leaf w) = int w
    read_back ptr_leaf = ptr
    read_back void_leaf = void
    read_back (opaque_leaf None) = void
    read_back (opaque_leaf (Some name)) = named (new_by name (Some (opaque_leaf (Some name))))
    read_back (array_of n s) = array n (read_back s)
    read_back (struct_of None packed ss) = struct packed (all_read_back ss)
    read_back (struct_of (Some name) packed ss) = named (new_by name (Some (struct_of (Some name) packed ss)))

    all_read_back : Shapes → Trees
    all_read_back no_shapes = no_trees
    all_read_back (more_shapes s ss) = more_trees (read_back s) (all_read_back ss)

  abbrev body_read_back : Shape → TreeBody
  body_read_back (struct_of label packed ss) = fields packed (all_read_back ss)
  body_read_back (int_leaf w) = opaque_body
  body_read_back ptr_leaf = opaque_body
  body_read_back void_leaf = opaque_body
  body_read_back (opaque_leaf label) = opaque_body
  body_read_back (array_of n s) = opaque_body

  module _ (i : ℕ) where
    abbrev bodies : Bytes → TreeBody
    bodies name = body_of (structs_at parts i) name

    body_named : (room : ℕ) (name : Bytes) (body : TreeBody) (s : Shape) → body_shape (name_shape kept bodies room) (Some name) body ≡ Some s → read_back s ≡ named (new_by name (Some s))
    body_named room name opaque_body s h = subst (λ x. read_back x ≡ named (new_by name (Some x))) (same_Some _ s h) refl
    body_named room name (fields packed ts) s h =
        let inside = unmapped (struct_of (Some name) packed) (all_expanded (name_shape kept bodies room) ts) s h in
        subst (λ x. read_back x ≡ named (new_by name (Some x))) inside.2 refl

    -- a named struct
    name_reads : (name : Bytes) (s : Shape) → name_shape kept bodies 63 name ≡ Some s → named (new_struct parts i name) ≡ read_back s
    name_reads name s h =
        let full : shape_of parts (Local i name) ≡ Some s = name_more kept bodies 63 name s h in
        ap (λ (o : Option Shape). named (new_by name o)) full
        ∙ sym (body_named 62 name (bodies name) s (sym (name_shape-suc kept bodies 62 name) ∙ h))

    mutual
      tree_reads : (t : Tree) (s : Shape) → expanded (name_shape kept bodies 63) t ≡ Some s → renamed_tree (new_struct parts i) t ≡ read_back s
      tree_reads (int w) s h = ap read_back (same_Some (int_leaf w) s h)
      tree_reads ptr s h = ap read_back (same_Some ptr_leaf s h)
      tree_reads void s h = ap read_back (same_Some void_leaf s h)
      tree_reads (array n t) s h =
          let inside = unmapped (array_of n) (expanded (name_shape kept bodies 63) t) s h in
          ap (array n) (tree_reads t inside.0 inside.1) ∙ ap read_back inside.2
      tree_reads (struct packed ts) s h =
          let inside = unmapped (struct_of None packed) (all_expanded (name_shape kept bodies 63) ts) s h in
          ap (struct packed) (trees_read ts inside.0 inside.1) ∙ ap read_back inside.2
      tree_reads (named name) s h = name_reads name s h

      trees_read : (ts : Trees) (ss : Shapes) → all_expanded (name_shape kept bodies 63) ts ≡ Some ss → renamed_trees (new_struct parts i) ts ≡ all_read_back ss
      trees_read no_trees ss h = ap all_read_back (same_Some no_shapes ss h)
      trees_read (more_trees t ts) ss h =
          let halves = unjoined (expanded (name_shape kept bodies 63) t) (all_expanded (name_shape kept bodies 63) ts) ss h in
          ap₂ more_trees (tree_reads t halves.0 halves.2) (trees_read ts halves.1 halves.3) ∙ ap all_read_back halves.4

    body_reads : (name : Bytes) (body : TreeBody) (s : Shape) → body_shape (name_shape kept bodies 63) (Some name) body ≡ Some s → renamed_body (new_struct parts i) body ≡ body_read_back s
    body_reads name opaque_body s h = ap body_read_back (same_Some (opaque_leaf (Some name)) s h)
    body_reads name (fields packed ts) s h =
        let inside = unmapped (struct_of (Some name) packed) (all_expanded (name_shape kept bodies 63) ts) s h in
        ap (fields packed) (trees_read ts inside.0 inside.1) ∙ ap body_read_back inside.2

    -- a struct's body, written with new names, is told by its shape
    struct_reads : (name : Bytes) (s : Shape) → named_shape (structs_at parts i) (named name) ≡ Some s → renamed_body (new_struct parts i) (bodies name) ≡ body_read_back s
    struct_reads name s h = body_reads name (bodies name) s (sym (name_shape-suc kept bodies 63 name) ∙ h)

-- STRUCTS OF A PART

has_append_left : (xs ys : List Symbol) (s : Symbol) → has same_symbol xs s ≡ true → has same_symbol (xs ++ ys) s ≡ true
has_append_left [] ys s h = cc
has_append_left (x ∷ xs) ys s h = go (same_symbol s x) (has_append_left xs ys s) h
  where
    go : (b : Bool) → (has same_symbol xs s ≡ true → has same_symbol (xs ++ ys) s ≡ true) → (b || has same_symbol xs s) ≡ true → (b || has same_symbol (xs ++ ys) s) ≡ true
    go true more h = refl
    go false more h = more h

has_append_right : (xs ys : List Symbol) (s : Symbol) → has same_symbol ys s ≡ true → has same_symbol (xs ++ ys) s ≡ true
has_append_right [] ys s h = h
has_append_right (x ∷ xs) ys s h = or_right (same_symbol s x) _ (has_append_right xs ys s h)

struct_symbol : (i : ℕ) (structs : Structs) (name : Bytes) → has_struct structs name ≡ true → has same_symbol (map (λ s. Local i s.0) structs) (Local i name) ≡ true
struct_symbol i [] name h = cc
struct_symbol i (s ∷ structs) name h = go (bytes_eq s.0 name) refl (struct_symbol i structs name) h
  where
    go : (b : Bool) → bytes_eq s.0 name ≡ b → (has_struct structs name ≡ true → has same_symbol (map (λ s. Local i s.0) structs) (Local i name) ≡ true) → (b || has_struct structs name) ≡ true → has same_symbol (map (λ s. Local i s.0) (s ∷ structs)) (Local i name) ≡ true
    go true e more h = or_left (same_symbol (Local i name) (Local i s.0)) _ (subst (λ n. same_symbol (Local i name) (Local i n) ≡ true) (sym (name_exact s.0 name e)) (symbol_self (Local i name)))
    go false e more h = or_right (same_symbol (Local i name) (Local i s.0)) _ (more h)

struct_among : (i k : ℕ) (ms : List Module) (name : Bytes) → has_struct (part_at ms k).structs name ≡ true → has same_symbol (structs_from i ms) (Local (i + k) name) ≡ true
struct_among i k [] name h = cc
struct_among i zero (m ∷ ms) name h =
    has_append_left (map (λ s. Local i s.0) m.structs) (structs_from (suc i) ms) (Local (i + 0) name)
    (subst (λ j. has same_symbol (map (λ s. Local i s.0) m.structs) (Local j name) ≡ true) (omega arith) (struct_symbol i m.structs name h))
struct_among i (suc k) (m ∷ ms) name h =
    has_append_right (map (λ s. Local i s.0) m.structs) (structs_from (suc i) ms) (Local (i + suc k) name)
    (subst (λ j. has same_symbol (structs_from (suc i) ms) (Local j name) ≡ true) (omega arith) (struct_among (suc i) k ms name h))

some_value : {A : Type 0} (o : Option A) → is_some o ≡ true → (x : A) × (o ≡ Some x)
some_value None h = cc
some_value (Some x) h = (x, refl)

-- what is asked of all structs is asked of one that is there
pub struct_good : (structs some : Structs) (name : Bytes) → list_all (λ s. is_good_body structs s.1 && is_good_type structs (named s.0)) some ≡ true → has_struct some name ≡ true → is_good_type structs (named name) ≡ true
struct_good structs [] name a h = cc
struct_good structs (s ∷ some) name a h = go (bytes_eq s.0 name) refl (struct_good structs some name (and_parts (is_good_body structs s.1 && is_good_type structs (named s.0)) _ a).1) h
  where
    go : (b : Bool) → bytes_eq s.0 name ≡ b → (has_struct some name ≡ true → is_good_type structs (named name) ≡ true) → (b || has_struct some name) ≡ true → is_good_type structs (named name) ≡ true
    go true e more h = subst (λ n. is_good_type structs (named n) ≡ true) (name_exact s.0 name e) (and_parts (is_good_body structs s.1) _ (and_parts _ _ a).0).1
    go false e more h = more h

module _ (parts : List Module) (i : ℕ) (good : are_good_structs (structs_at parts i) ≡ true) where
  struct_known : (name : Bytes) → has_struct (structs_at parts i) name ≡ true → has same_symbol (struct_symbols parts) (Local i name) ≡ true
  struct_known name h = subst (λ j. has same_symbol (struct_symbols parts) (Local j name) ≡ true) (omega arith) (struct_among 0 i parts name h)

  struct_shape : (name : Bytes) → has_struct (structs_at parts i) name ≡ true → (s : Shape) × (shape_of parts (Local i name) ≡ Some s)
  struct_shape name h =
      some_value (shape_of parts (Local i name))
      (name_some (body_of (structs_at parts i)) 64 name
      ∙ within_some (shape (structs_at parts i) (named name)) (and_parts (has_struct (structs_at parts i) name) _ (struct_good (structs_at parts i) (structs_at parts i) name good h)).1)

  linked_bodies : (name : Bytes) → has_struct (structs_at parts i) name ≡ true → body_of (link_result parts).structs (new_struct parts i name) ≡ renamed_body (new_struct parts i) (body_of (structs_at parts i) name)
  linked_bodies name h =
      let known = struct_known name h in
      let row = struct_row parts i name known in
      let s = row.row.0 in
      let x = struct_shape name h in
      ap (body_of (link_result parts).structs) (new_name_is parts i name known)
      ∙ body_is parts i name known
      ∙ struct_reads parts (part_of s) (symbol_name s) x.0 (sym (same_shapes_are parts i name known) ∙ x.1)
      ∙ sym (struct_reads parts i name x.0 x.1)

  -- the structs of a part keep their bodies in the linked module
  pub linked_structs : KeepsStructs (structs_at parts i) (link_result parts).structs (new_struct parts i)
  linked_structs = record { closed = structs_closed (structs_at parts i) good; bodies = linked_bodies }

  pub linked_struct_there : (name : Bytes) → has_struct (structs_at parts i) name ≡ true → has_struct (link_result parts).structs (new_struct parts i name) ≡ true
  linked_struct_there name h =
      let known = struct_known name h in
      let row = struct_row parts i name known in
      there (struct_map parts) row.place row.row row.at (new_name_is parts i name known)
    where
      there : (rows : List (Symbol × Bytes)) (k : ℕ) (r : Symbol × Bytes) → slice_get rows k ≡ Some r → new_struct parts i name ≡ r.1 → has_struct (map (linked_struct parts) rows) (new_struct parts i name) ≡ true
      there [] k r at e = cc
      there (q ∷ rows) zero r at e =
          or_left (bytes_eq q.1 (new_struct parts i name)) _ (subst (λ n. bytes_eq n (new_struct parts i name) ≡ true) (e ∙ sym (ap (λ p. p.1) (same_Some q r at))) (name_self (new_struct parts i name)))
      there (q ∷ rows) (suc k) r at e = or_right (bytes_eq q.1 (new_struct parts i name)) _ (there rows k r at e)
