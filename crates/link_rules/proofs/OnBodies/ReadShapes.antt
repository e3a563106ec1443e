-- What a type is called in the linked module can be read off its shape with names: so equal shapes are written alike, whatever their parts.
use Rattle.std.proofs.Common.{◌≡◌, ℕ, suc, ◌&&◌, List, Option, Some, None, sym, ap, ap₂, ◌∙◌, bytes_eq}
use Rattle.std.specs.Map.{lookup}
use Rattle.std.proofs.lemmas.Option.{same_Some}
use Rattle.type_table.specs.Shape.{Shape, int_leaf, ptr_leaf, void_leaf, opaque_leaf, array_of, struct_of, Shapes, no_shapes, more_shapes, expanded, all_expanded, body_shape, name_shape}
use Rattle.type_table.specs.Tree.{Tree, int, ptr, void, array, struct, named, Trees, no_trees, more_trees, TreeBody, opaque_body, fields, body_of}
use Rattle.type_table.proofs.Rooms.{unmapped, unjoined, name_shape-suc}
use Rattle.module_arena.specs.Module.{Bytes, Module}
use Rattle.module_arena.specs.Renamed.{renamed_tree, renamed_trees, renamed_body}
use Rattle.linkage_rules.specs.Entries.{structs_at, symbol_name}
use Rattle.linkage_rules.specs.SameShape.{alike}
use Rattle.link_rules.specs.Rename.{name_or}
use Rattle.link_rules.specs.Structs.{shape_of, struct_map, new_struct}
use Rattle.link_rules.proofs.Shapes.{kept}

module _ (parts : List Module) where
  -- the name of a struct of this name and shape
  abbrev pub named_by : Bytes → Shape → Bytes
  named_by name s = name_or name (lookup (λ t. bytes_eq name (symbol_name t) && alike (Some s) (shape_of parts t)) (struct_map parts))

  abbrev mutual
    -- the type that has this shape. No type has an opaque leaf without a name, so that line is never used
    pub tree_read : Shape → Tree
    tree_read (int_leaf w) = int w
    tree_read ptr_leaf = ptr
    tree_read void_leaf = void
    tree_read (opaque_leaf None) = void
    tree_read (opaque_leaf (Some name)) = named (named_by name (opaque_leaf (Some name)))
    tree_read (array_of n s) = array n (tree_read s)
    tree_read (struct_of None packed ss) = struct packed (trees_read ss)
    tree_read (struct_of (Some name) packed ss) = named (named_by name (struct_of (Some name) packed ss))

    pub trees_read : Shapes → Trees
    trees_read no_shapes = no_trees
    trees_read (more_shapes s ss) = more_trees (tree_read s) (trees_read ss)

  -- the body of a struct of this shape; nothing else has one
  abbrev pub body_read : Shape → TreeBody
  body_read (int_leaf w) = opaque_body
  body_read ptr_leaf = opaque_body
  body_read void_leaf = opaque_body
  body_read (opaque_leaf label) = opaque_body
  body_read (array_of n s) = opaque_body
  body_read (struct_of label packed ss) = fields packed (trees_read ss)

  module _ (i : ℕ) where
    abbrev bodies : Bytes → TreeBody
    bodies = body_of (structs_at parts i)

    abbrev at : ℕ → Bytes → Option Shape
    at room name = name_shape kept bodies room name

    -- a struct's new name, by its shape
    name_by : (name : Bytes) (s : Shape) → at 64 name ≡ Some s → new_struct parts i name ≡ named_by name s
    name_by name s h = ap (λ o. name_or name (lookup (λ t. bytes_eq name (symbol_name t) && alike o (shape_of parts t)) (struct_map parts))) h

    -- a struct's shape has its name
    has_name : (room : ℕ) (name : Bytes) (body : TreeBody) (s : Shape) → body_shape (at room) (Some name) body ≡ Some s → tree_read s ≡ named (named_by name s)
    has_name room name opaque_body s h = ap tree_read (sym (same_Some (opaque_leaf (Some name)) s h)) ∙ ap (λ x. named (named_by name x)) (same_Some (opaque_leaf (Some name)) s h)
    has_name room name (fields packed ts) s h =
        let inside = unmapped (struct_of (Some name) packed) (all_expanded (at room) ts) s h in
        ap tree_read (sym inside.2) ∙ ap (λ x. named (named_by name x)) inside.2

    module _ (room : ℕ) (whole : (name : Bytes) (s : Shape) → at (suc room) name ≡ Some s → at 64 name ≡ Some s) where
      mutual
        pub linked_read : (t : Tree) (s : Shape) → expanded (at (suc room)) t ≡ Some s → renamed_tree (new_struct parts i) t ≡ tree_read s
        linked_read (int w) s h = ap tree_read (same_Some (int_leaf w) s h)
        linked_read ptr s h = ap tree_read (same_Some ptr_leaf s h)
        linked_read void s h = ap tree_read (same_Some void_leaf s h)
        linked_read (array n t) s h =
            let inside = unmapped (array_of n) (expanded (at (suc room)) t) s h in
            ap (array n) (linked_read t inside.0 inside.1) ∙ ap tree_read inside.2
        linked_read (struct packed ts) s h =
            let inside = unmapped (struct_of None packed) (all_expanded (at (suc room)) ts) s h in
            ap (struct packed) (all_linked_read ts inside.0 inside.1) ∙ ap tree_read inside.2
        linked_read (named name) s h =
            ap named (name_by name s (whole name s h))
            ∙ sym (has_name room name (bodies name) s (sym (name_shape-suc kept bodies room name) ∙ h))

        pub all_linked_read : (ts : Trees) (ss : Shapes) → all_expanded (at (suc room)) ts ≡ Some ss → renamed_trees (new_struct parts i) ts ≡ trees_read ss
        all_linked_read no_trees ss h = ap trees_read (same_Some no_shapes ss h)
        all_linked_read (more_trees t ts) ss h =
            let halves = unjoined (expanded (at (suc room)) t) (all_expanded (at (suc room)) ts) ss h in
            ap₂ more_trees (linked_read t halves.0 halves.2) (all_linked_read ts halves.1 halves.3) ∙ ap trees_read halves.4

      -- the body of a struct, by its shape, where names stand in it one level less deep
      pub linked_body_read : (name : Bytes) (s : Shape) → body_shape (at (suc room)) (Some name) (bodies name) ≡ Some s → renamed_body (new_struct parts i) (bodies name) ≡ body_read s
      linked_body_read name s h = by_body (bodies name) h
        where
          by_body : (body : TreeBody) → body_shape (at (suc room)) (Some name) body ≡ Some s → renamed_body (new_struct parts i) body ≡ body_read s
          by_body opaque_body e = ap body_read (same_Some (opaque_leaf (Some name)) s e)
          by_body (fields packed ts) e =
              let inside = unmapped (struct_of (Some name) packed) (all_expanded (at (suc room)) ts) s e in
              ap (fields packed) (all_linked_read ts inside.0 inside.1) ∙ ap body_read inside.2
