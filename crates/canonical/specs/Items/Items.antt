-- For `tokens_are_items` and `items_stand_for_their_module`: the items of the canonical text of a module, with no
-- places.
use Rattle.std.specs.Prelude.{◌≡◌, ℕ, true, false, List, [], ◌∷◌, ◌++◌, map, Option, Some, None, option_map}
use Rattle.ir_tables.specs.declared.linkage.Linkage.{Linkage}
use Rattle.ir_tables.specs.declared.linkage.Linkage.TheVariants.{External}
use Rattle.ir_terminals.specs.declared.values.PlacedText.{PlacedText}
use Rattle.ir_syntax.specs.Tree as item
use Rattle.ir_syntax.specs.Answers.{HasItems}
use Rattle.type_table.specs.Tree.{TreeBody, opaque_body, fields}
use Rattle.module_arena.specs.Module.{Bytes, Constant, Parameter, Variable, AliasType, PlainType, FunctionType, Alias, Function, Block, Module}
use Rattle.canonical.specs.Items.Unplaced.{nowhere, unplaced}
use Rattle.canonical.specs.Items.Parts.{natural, name_tree, local_tree, type_tree, type_list, constant_tree, block_tree}

-- an item with this text, where there is one
abbrev pub text_item : (PlacedText → item.ItemTree) → Option Bytes → List item.ItemTree
text_item of_text None = []
text_item of_text (Some bytes) = of_text (record { text = bytes; place = nowhere }) ∷ []

-- what a struct is
abbrev pub body_tree : TreeBody → item.BodyTree
body_tree opaque_body = item.OpaqueBody
body_tree (fields false ts) = item.PlainBody (type_list ts)
body_tree (fields true ts) = item.PackedBody (type_list ts)

-- a struct
abbrev pub struct_item : Bytes × TreeBody → item.ItemTree
struct_item s = item.Struct (name_tree s.0) (body_tree s.1)

-- a linkage, where it is written: external is not
abbrev pub written_linkage : Linkage → Option Linkage
written_linkage External = None
written_linkage linkage = Some linkage

-- that of a variable: external is written where it is declared
abbrev pub variable_linkage : Option Constant → Linkage → Option Linkage
variable_linkage (Some c) linkage = written_linkage linkage
variable_linkage None linkage = Some linkage

-- a variable
abbrev pub variable_item : Variable → item.ItemTree
variable_item v = item.Variable (record {
  name = name_tree v.name;
  linkage = variable_linkage v.initialiser v.linkage;
  constant = v.constant;
  ty = type_tree v.ty;
  initialiser = option_map (constant_tree v.ty) v.initialiser;
  alignment = option_map natural v.alignment;
})

-- the type of an alias: that of a variable, or a function type
abbrev pub alias_type_tree : AliasType → item.AliasTypeTree
alias_type_tree (PlainType ty) = item.PlainAlias (type_tree ty)
alias_type_tree (FunctionType s) = item.FunctionAlias (type_tree s.returns) (map type_tree s.parameters) s.variadic

-- an alias
abbrev pub alias_item : Alias → item.ItemTree
alias_item a = item.Alias (record {
  name = name_tree a.name;
  linkage = written_linkage a.linkage;
  ty = alias_type_tree a.ty;
  target = name_tree a.target;
})

-- what a function is called and gives
abbrev pub head_tree : Function → item.HeadTree
head_tree f = record { linkage = written_linkage f.linkage; returns = type_tree f.returns; name = name_tree f.name }

-- a parameter of a defined function
abbrev pub parameter_tree : Parameter → item.ParameterTree
parameter_tree p = (type_tree p.ty, Some (local_tree p.name))

-- a declaration has types alone
abbrev pub function_item_by : Function → Option (List Block) → item.ItemTree
function_item_by f None = item.Declaration nowhere (head_tree f) (map (λ p. type_tree p.ty) f.parameters) f.variadic
function_item_by f (Some blocks) = item.Definition nowhere (head_tree f) (map parameter_tree f.parameters) (map block_tree blocks)

-- a function
abbrev pub function_item : Function → item.ItemTree
function_item f = function_item_by f f.body

-- the items of the canonical text, in order
abbrev pub canon_items : Module → List item.ItemTree
canon_items m =
    text_item (item.SourceFilename nowhere) m.source ++ (
    text_item (item.DataLayout nowhere) m.layout ++ (
    text_item (item.TargetTriple nowhere) m.triple ++ (
    map struct_item m.structs ++ (
    map variable_item m.variables ++ (
    map alias_item m.aliases ++
    map function_item m.functions)))))

-- the text's items are these, but for the places of their tokens
pub record HasItemsAs (text : List ℕ) (items : List item.ItemTree) : Type 0 where
  pub placed : List item.ItemTree
  pub has : HasItems text placed
  pub same : map unplaced placed ≡ items
