-- For `names_stay_apart` and `linking_carries_symbols`: what the named structs of some parts are called in the module that is made of
-- them. A struct is known by its part and its name; those of one name and equal shape, names of inner structs included, are one struct
-- of the result.
use Rattle.std.specs.Prelude.{ℕ, suc, Bool, ◌&&◌, List, [], ◌∷◌, ◌++◌, map, Option, bytes_eq}
use Rattle.std.specs.Map.{lookup}
use Rattle.type_table.specs.Tree.{Tree, named, TreeBody, body_of}
use Rattle.type_table.specs.Shape.{Shape, named_shape}
use Rattle.module_arena.specs.Module.{Bytes, Module}
use Rattle.module_arena.specs.Renamed.{renamed_tree, renamed_body}
use Rattle.linkage_rules.specs.Lists.{firsts}
use Rattle.linkage_rules.specs.SameShape.{alike}
use Rattle.linkage_rules.specs.Entries.{structs_at, symbol_name}
use Rattle.linkage_rules.specs.declared.symbol.Symbol.{Symbol}
use Rattle.linkage_rules.specs.declared.symbol.Symbol.TheVariants.{Shared, Local}
use Rattle.link_rules.specs.Rename.{name_or}
use Rattle.link_rules.specs.Rename as rename

-- the structs of parts of which the first has this number
abbrev pub structs_from : ℕ → List Module → List Symbol
structs_from i [] = []
structs_from i (m ∷ ms) = map (λ s. Local i s.0) m.structs ++ structs_from (suc i) ms

-- all structs, part by part
abbrev pub struct_symbols : List Module → List Symbol
struct_symbols parts = structs_from 0 parts

-- the part of a struct
abbrev pub part_of : Symbol → ℕ
part_of (Local i name) = i
part_of (Shared name) = 0

-- its shape, with the names of inner structs
abbrev pub shape_of : List Module → Symbol → Option Shape
shape_of parts s = named_shape (structs_at parts (part_of s)) (named (symbol_name s))

-- whether two are one struct of the result
abbrev pub same_struct : List Module → Symbol → Symbol → Bool
same_struct parts s t = bytes_eq (symbol_name s) (symbol_name t) && alike (shape_of parts s) (shape_of parts t)

-- each struct of the result, in order, with its name there: its own where that is free
abbrev pub struct_map : List Module → List (Symbol × Bytes)
struct_map parts = rename.with_given_names (λ name. name) (map symbol_name (struct_symbols parts)) [] (firsts (same_struct parts) (struct_symbols parts))

-- what a struct of part i is called in the result
abbrev pub new_struct : List Module → ℕ → Bytes → Bytes
new_struct parts i name = name_or name (lookup (same_struct parts (Local i name)) (struct_map parts))

-- a type of part i, as it is written in the result
abbrev pub linked_type : List Module → ℕ → Tree → Tree
linked_type parts i t = renamed_tree (new_struct parts i) t

-- a struct of the result: that of its first part
abbrev pub linked_struct : List Module → Symbol × Bytes → Bytes × TreeBody
linked_struct parts row = (row.1, renamed_body (new_struct parts (part_of row.0)) (body_of (structs_at parts (part_of row.0)) (symbol_name row.0)))
