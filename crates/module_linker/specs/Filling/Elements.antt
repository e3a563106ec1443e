-- Says how the code of `define_symbols` reads: the elements of several arrays as those of one.
use Rattle.std.specs.Prelude.{List, [], map, flat_map}
use Rattle.type_table.specs.Tree.{Tree}
use Rattle.module_arena.specs.Module.{Module, Constant}
use Rattle.module_arena.specs.declared.constant.Const.{Const}
use Rattle.module_arena.specs.declared.constant.Const.TheVariants as const
use Rattle.module_arena.specs.declared.constant.TypedConst.{TypedConst}
use Rattle.linkage_rules.specs.Entries.{Entry}
use Rattle.linkage_rules.specs.Contents.Contents.{ContentPiece, elements_in}
use Rattle.link_rules.specs.Linked.{linked_constant}
use Rattle.link_rules.specs.Structs.{linked_type}

-- the elements of a list, by their ids; any other constant has none
abbrev pub elements_told : Const → List TypedConst
elements_told (const.Aggregate round elements) = elements
elements_told _ = []

-- what these pieces are in the linked module, with their types
abbrev pub pieces_linked : List Module → List ContentPiece → List (Tree × Constant)
pieces_linked parts ps = map {B = Tree × Constant} (λ p. (linked_type parts p.part p.ty, linked_constant parts p.part p.value)) ps

-- the elements of the arrays of these entries, behind each other
abbrev pub elements_of_all : List Module → List Entry → List (Tree × Constant)
elements_of_all parts es = pieces_linked parts (flat_map elements_in es)
