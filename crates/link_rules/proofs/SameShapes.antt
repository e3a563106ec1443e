-- A type has one shape in its part and in the merged module.
use Rattle.std.proofs.Common.{◌≡◌, ℕ, zero, suc, true, List, map, Option, Some, None, refl, sym, ap, ap₂, ◌∙◌, option_map}
use Rattle.std.specs.Prelude.{slice_get, is_some}
use Rattle.std.specs.List.{AllByRecursion}
use Rattle.std.specs.Option.{option_map_or}
use Rattle.type_table.specs.Layout.{size, align}
use Rattle.type_table.specs.Tree.{Tree, int, ptr, void, array, struct, named, Trees, no_trees, more_trees, TreeBody, opaque_body, fields, body_of}
use Rattle.type_table.specs.Shape.{Shape, struct_of, with_first, array_of, expanded, all_expanded, body_shape, name_shape}
use Rattle.type_table.proofs.Rooms.{name_shape-zero, name_shape-suc}
use Rattle.module_arena.specs.Module.{Bytes, Module}
use Rattle.module_arena.specs.Renamed.{renamed_tree, renamed_trees, renamed_body}
use Rattle.linkage_rules.specs.Entries.{structs_at, same_symbol, symbol_name}
use Rattle.linkage_rules.specs.declared.symbol.Symbol.TheVariants.{Local}
use Rattle.linkage_rules.specs.Winner.{shape_in, size_in}
use Rattle.linkage_rules.specs.Addresses.{align_in}
use Rattle.link_rules.specs.Structs.{struct_symbols, part_of, shape_of, same_struct, struct_map, new_struct, linked_struct, linked_type}
use Rattle.link_rules.proofs.Apart.{at_has}
use Rattle.linkage_rules.specs.SymbolLaws.{symbol_self, symbol_exact}
use Rattle.link_rules.proofs.Symbols.{all_firsts}
use Rattle.link_rules.specs.Carried.{merged}
use Rattle.link_rules.proofs.Shapes.{name_cut, unnamed}
use Rattle.link_rules.proofs.StructRows.{first_structs, struct_keys, struct_row, new_name_is, same_shapes_are, body_is}
use Rattle.std.proofs.lemmas.Option.{slice_get-map}
use Rattle.link_rules.specs.Known.{IsStruct, KnownTree, KnownTrees}
use Rattle.link_rules.proofs.Searches.{at_all}

module _ (parts : List Module) where
  -- a body names structs of its part
  abbrev pub KnownBody : ℕ → TreeBody → Type 0
  KnownBody i opaque_body = Unit {0}
  KnownBody i (fields packed ts) = KnownTrees parts i ts

  -- structs have shapes, and name structs of their part
  pub record StructsFine : Type 0 where
    pub shaped : AllByRecursion (λ s. is_some (shape_of parts s) ≡ true) (struct_symbols parts)
    pub closed : AllByRecursion (λ s. KnownBody (part_of s) (body_of (structs_at parts (part_of s)) (symbol_name s))) (struct_symbols parts)

module _ (parts : List Module) (i : ℕ) (new : Bytes → Bytes) (look there : Bytes → Option Shape) (same : (name : Bytes) → IsStruct parts i name → there (new name) ≡ look name) where
  mutual
    pub tree_same : (t : Tree) → KnownTree parts i t → expanded there (renamed_tree new t) ≡ expanded look t
    tree_same (int w) k = refl
    tree_same ptr k = refl
    tree_same void k = refl
    tree_same (array n t) k = ap (option_map (array_of n)) (tree_same t k)
    tree_same (struct packed ts) k = ap (option_map (struct_of None packed)) (trees_same ts k)
    tree_same (named name) k = same name k

    pub trees_same : (ts : Trees) → KnownTrees parts i ts → all_expanded there (renamed_trees new ts) ≡ all_expanded look ts
    trees_same no_trees k = refl
    trees_same (more_trees t ts) k = ap₂ with_first (tree_same t k.0) (trees_same ts k.1)

  body_same : (body : TreeBody) → KnownBody parts i body → body_shape there None (renamed_body new body) ≡ body_shape look None body
  body_same opaque_body k = refl
  body_same (fields packed ts) k = ap (option_map (struct_of None packed)) (trees_same ts k)

module _ (parts : List Module) (fine : StructsFine parts) where
  some_value : (o : Option Shape) → is_some o ≡ true → (s : Shape) × (o ≡ Some s)
  some_value None h = cc
  some_value (Some s) h = (s, refl)

  abbrev here : ℕ → Bytes → Option Shape
  here room name = name_shape unnamed (body_of (map (linked_struct parts) (struct_map parts))) room name

  abbrev before : ℕ → ℕ → Bytes → Option Shape
  before i room name = name_shape unnamed (body_of (structs_at parts i)) room name

  pub name_same : (room i : ℕ) (name : Bytes) → IsStruct parts i name → here room (new_struct parts i name) ≡ before i room name
  name_same zero i name known =
      name_shape-zero unnamed (body_of (map (linked_struct parts) (struct_map parts))) (new_struct parts i name)
      ∙ sym (name_shape-zero unnamed (body_of (structs_at parts i)) name)
  name_same (suc room) i name known =
      let row = struct_row parts i name known in
      let s = row.row.0 in
      let j = part_of s in
      let at : slice_get (first_structs parts) row.place ≡ Some s = ap (λ l. slice_get l row.place) (sym (struct_keys parts)) ∙ slice_get-map (λ r. r.0) (struct_map parts) row.place ∙ ap (option_map (λ r. r.0)) row.at in
      let known_body = at_all (λ t. KnownBody parts (part_of t) (body_of (structs_at parts (part_of t)) (symbol_name t))) (first_structs parts) row.place s (all_firsts _ (same_struct parts) (struct_symbols parts) fine.closed) at in
      let found = at_has same_symbol symbol_self symbol_exact (struct_symbols parts) (Local i name) known in
      let shaped = some_value (shape_of parts (Local i name)) (at_all (λ t. is_some (shape_of parts t) ≡ true) (struct_symbols parts) found.0 (Local i name) fine.shaped found.1) in
      ap (here (suc room)) (new_name_is parts i name known)
      ∙ name_shape-suc unnamed (body_of (map (linked_struct parts) (struct_map parts))) room row.row.1
      ∙ ap (body_shape (here room) None) (body_is parts i name known)
      ∙ body_same parts j (new_struct parts j) (before j room) (here room) (λ n k. name_same room j n k) (body_of (structs_at parts j) (symbol_name s)) known_body
      ∙ sym (name_shape-suc unnamed (body_of (structs_at parts j)) room (symbol_name s))
      ∙ name_cut (body_of (structs_at parts j)) 64 (suc room) (symbol_name s) shaped.0 (sym (same_shapes_are parts i name known) ∙ shaped.1)
      ∙ sym (name_cut (body_of (structs_at parts i)) 64 (suc room) name shaped.0 shaped.1)

  -- a type keeps its shape under its new names, and with it its size, its layout and its leaves
  pub shape_same : (i : ℕ) (t : Tree) → KnownTree parts i t → shape_in (merged parts) 0 (linked_type parts i t) ≡ shape_in parts i t
  shape_same i t known = tree_same parts i (new_struct parts i) (before i 64) (here 64) (λ name k. name_same 64 i name k) t known

  pub size_same : (i : ℕ) (t : Tree) → KnownTree parts i t → size_in (merged parts) 0 (linked_type parts i t) ≡ size_in parts i t
  size_same i t known = ap (λ o. option_map_or size o 0) (shape_same i t known)

  pub align_same : (i : ℕ) (t : Tree) → KnownTree parts i t → align_in (merged parts) 0 (linked_type parts i t) ≡ align_in parts i t
  align_same i t known = ap (λ o. option_map_or align o 1) (shape_same i t known)
