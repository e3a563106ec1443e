-- Structs of one row have one body in the linked module, whatever their parts.
use Rattle.std.proofs.Common.{◌≡◌, ℕ, zero, suc, true, is_some, List, Option, Some, None, refl, sym, ap, ap₂, ◌∙◌, option_map}
use Rattle.std.specs.List.{AllByRecursion}
use Rattle.type_table.specs.Shape.{Shape, array_of, struct_of, with_first, expanded, all_expanded, body_shape, name_shape, Shapes}
use Rattle.type_table.specs.Tree.{Tree, int, ptr, void, array, struct, named, Trees, no_trees, more_trees, TreeBody, opaque_body, fields, body_of}
use Rattle.type_table.proofs.Rooms.{unmapped, unjoined, name_shape-zero, name_shape-suc}
use Rattle.module_arena.specs.Module.{Bytes, Module}
use Rattle.module_arena.specs.Renamed.{renamed_body}
use Rattle.module_arena.specs.WellFormed.{IsWellFormed}
use Rattle.linkage_rules.specs.Entries.{structs_at, symbol_name, same_symbol}
use Rattle.linkage_rules.specs.SymbolLaws.{symbol_self, symbol_exact}
use Rattle.linkage_rules.specs.declared.symbol.Symbol.{Symbol}
use Rattle.linkage_rules.specs.declared.symbol.Symbol.TheVariants.{Local, Shared}
use Rattle.link_rules.specs.Known.{IsStruct}
use Rattle.link_rules.specs.Linked.{link_result}
use Rattle.link_rules.specs.Structs.{struct_symbols, shape_of, new_struct, part_of, linked_struct}
use Rattle.link_rules.proofs.Apart.{at_has}
use Rattle.link_rules.proofs.KnownTypes.{structs_fine}
use Rattle.link_rules.proofs.Searches.{at_all}
use Rattle.link_rules.proofs.Shapes.{kept}
use Rattle.link_rules.proofs.StructRows.{struct_row, new_name_is, same_shapes_are, body_is}
use Rattle.link_rules.proofs.OnBodies.ReadShapes.{body_read, linked_body_read}

module _ (bodies : Bytes → TreeBody) where
  -- what has a shape in some room has it in more
  mutual
    tree_more : (look more : Bytes → Option Shape) → ((name : Bytes) (s : Shape) → look name ≡ Some s → more name ≡ Some s) → (t : Tree) (s : Shape) → expanded look t ≡ Some s → expanded more t ≡ Some s
    tree_more look more up (int w) s h = h
    tree_more look more up ptr s h = h
    tree_more look more up void s h = h
    tree_more look more up (named name) s h = up name s h
    tree_more look more up (array n t) s h =
        let inside = unmapped (array_of n) (expanded look t) s h in
        ap (option_map (array_of n)) (tree_more look more up t inside.0 inside.1) ∙ ap Some inside.2
    tree_more look more up (struct packed ts) s h =
        let inside = unmapped (struct_of None packed) (all_expanded look ts) s h in
        ap (option_map (struct_of None packed)) (trees_more look more up ts inside.0 inside.1) ∙ ap Some inside.2

    trees_more : (look more : Bytes → Option Shape) → ((name : Bytes) (s : Shape) → look name ≡ Some s → more name ≡ Some s) → (ts : Trees) (ss : Shapes) → all_expanded look ts ≡ Some ss → all_expanded more ts ≡ Some ss
    trees_more look more up no_trees ss h = h
    trees_more look more up (more_trees t ts) ss h =
        let halves = unjoined (expanded look t) (all_expanded look ts) ss h in
        ap₂ with_first (tree_more look more up t halves.0 halves.2) (trees_more look more up ts halves.1 halves.3) ∙ ap Some halves.4

  body_more : (look more : Bytes → Option Shape) → ((name : Bytes) (s : Shape) → look name ≡ Some s → more name ≡ Some s) → (name : Bytes) (body : TreeBody) (s : Shape) → body_shape look (Some name) body ≡ Some s → body_shape more (Some name) body ≡ Some s
  body_more look more up name opaque_body s h = h
  body_more look more up name (fields packed ts) s h =
      let inside = unmapped (struct_of (Some name) packed) (all_expanded look ts) s h in
      ap (option_map (struct_of (Some name) packed)) (trees_more look more up ts inside.0 inside.1) ∙ ap Some inside.2

  pub name_more : (room : ℕ) (name : Bytes) (s : Shape) → name_shape kept bodies room name ≡ Some s → name_shape kept bodies (suc room) name ≡ Some s
  name_more zero name s h = let none = name_shape-zero kept bodies name in cc
  name_more (suc room) name s h =
      name_shape-suc kept bodies (suc room) name
      ∙ body_more (name_shape kept bodies room) (name_shape kept bodies (suc room)) (name_more room) name (bodies name) s (sym (name_shape-suc kept bodies room name) ∙ h)

module _ (parts : List Module) where
  -- the body of a struct in the linked module, by its shape
  pub body_by_shape : (i : ℕ) (name : Bytes) (s : Shape) → shape_of parts (Local i name) ≡ Some s → renamed_body (new_struct parts i) (body_of (structs_at parts i) name) ≡ body_read parts s
  body_by_shape i name s h =
      linked_body_read parts i 62 (name_more (body_of (structs_at parts i)) 63) name s
      (sym (name_shape-suc kept (body_of (structs_at parts i)) 63 name) ∙ h)

  -- so that of its row is the same
  same_body : (i : ℕ) (name : Bytes) (known : IsStruct parts i name) (s : Shape) → shape_of parts (Local i name) ≡ Some s
      → renamed_body (new_struct parts i) (body_of (structs_at parts i) name) ≡ (linked_struct parts (struct_row parts i name known).row).1
  same_body i name known s h = body_by_shape i name s h ∙ sym (by_symbol (struct_row parts i name known).row.0 (sym (same_shapes_are parts i name known) ∙ h))
    where
      by_symbol : (t : Symbol) → shape_of parts t ≡ Some s → renamed_body (new_struct parts (part_of t)) (body_of (structs_at parts (part_of t)) (symbol_name t)) ≡ body_read parts s
      by_symbol (Local j other) e = body_by_shape j other s e
      by_symbol (Shared other) e = body_by_shape 0 other s e

  -- what has a value
  value_of : (o : Option Shape) → is_some o ≡ true → (s : Shape) × (o ≡ Some s)
  value_of None h = cc
  value_of (Some s) h = (s, refl)

  -- and that is the body of the struct with its new name
  pub bodies_kept : AllByRecursion IsWellFormed parts → (i : ℕ) (name : Bytes) → IsStruct parts i name
      → renamed_body (new_struct parts i) (body_of (structs_at parts i) name) ≡ body_of (link_result parts).structs (new_struct parts i name)
  bodies_kept good i name known =
      let fine = structs_fine parts good in
      let found = at_has same_symbol symbol_self symbol_exact (struct_symbols parts) (Local i name) known in
      let shape = value_of (shape_of parts (Local i name)) (at_all (λ t. is_some (shape_of parts t) ≡ true) (struct_symbols parts) found.0 (Local i name) fine.shaped found.1) in
      same_body i name known shape.0 shape.1 ∙ sym (body_is parts i name known) ∙ ap (body_of (link_result parts).structs) (sym (new_name_is parts i name known))
