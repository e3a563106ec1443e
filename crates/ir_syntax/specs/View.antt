-- For `read_items`, and how the code reads: the plain tree of an item as it lies in memory.
use Rattle.std.specs.Prelude.{Bool, List, map, Option, option_map}
use Rattle.ir_terminals.specs.declared.values.Integer.{Integer}
use Rattle.ir_phrases.specs.Constants.Tree.{TypeTree, ConstantTree}
use Rattle.ir_phrases.specs.Constants.View.{type_view, constant_view}
use Rattle.ir_phrases.specs.Instructions.Tree.{BlockTree}
use Rattle.ir_phrases.specs.Instructions.View.{block_view}
use Rattle.ir_syntax.specs.declared.item.WrittenBody.{WrittenBody}
use Rattle.ir_syntax.specs.declared.item.WrittenBody.TheVariants as bodies
use Rattle.ir_syntax.specs.declared.item.WrittenVariable as the_variable
use Rattle.ir_syntax.specs.declared.item.FunctionHead.{FunctionHead}
use Rattle.ir_syntax.specs.declared.item.WrittenParameter.{WrittenParameter}
use Rattle.ir_syntax.specs.declared.item.WrittenAliasType.{WrittenAliasType}
use Rattle.ir_syntax.specs.declared.item.WrittenAliasType.TheVariants as alias_type
use Rattle.ir_syntax.specs.declared.item.WrittenAlias as the_alias
use Rattle.ir_syntax.specs.declared.heads.GlobalHead as the_head
use Rattle.ir_syntax.specs.declared.item.FormalParameters.{FormalParameters}
use Rattle.ir_syntax.specs.declared.functions.Defined.{Defined}
use Rattle.ir_syntax.specs.declared.variables.VariableRest.{VariableRest}
use Rattle.ir_syntax.specs.declared.item.Item.{Item}
use Rattle.ir_syntax.specs.declared.item.Item.TheVariants as items
use Rattle.ir_syntax.specs.Heads.{GlobalHead}
use Rattle.ir_syntax.specs.Functions.{parameter_types}
use Rattle.ir_syntax.specs.Tree.{BodyTree, OpaqueBody, PlainBody, PackedBody, VariableTree, AliasTypeTree, PlainAlias, FunctionAlias, AliasTree, ParameterTree, HeadTree, ItemTree, SourceFilename, DataLayout, TargetTriple, Struct, Variable, Alias, Declaration, Definition, Attributes, Metadata}

-- the body of a struct as a tree
abbrev pub body_view : WrittenBody → BodyTree
body_view bodies.Opaque = OpaqueBody
body_view (bodies.Plain fields) = PlainBody (map type_view fields.items)
body_view (bodies.Packed fields) = PackedBody (map type_view fields.items)

-- a variable as a tree
abbrev pub variable_view : the_variable.WrittenVariable → VariableTree
variable_view v = record {
  name = v.name;
  linkage = v.linkage;
  constant = v.constant;
  ty = type_view v.ty;
  initialiser = option_map constant_view v.initialiser;
  alignment = v.alignment;
}

-- the type of an alias as a tree
abbrev pub alias_type_view : WrittenAliasType → AliasTypeTree
alias_type_view (alias_type.Plain ty) = PlainAlias (type_view ty)
alias_type_view (alias_type.Function returns signature) = FunctionAlias (type_view returns) (map type_view signature.parameters.items) signature.variadic

-- an alias as a tree
abbrev pub alias_view : the_alias.WrittenAlias → AliasTree
alias_view a = record { name = a.name; linkage = a.linkage; ty = alias_type_view a.ty; target = a.target }

-- the head of a variable or an alias as a tree
abbrev pub global_view : the_head.GlobalHead → GlobalHead
global_view h = (h.name, h.linkage)

-- a parameter as a tree
abbrev pub parameter_view : WrittenParameter → ParameterTree
parameter_view p = (type_view p.ty, p.name)

-- parameters as trees, and whether more may follow
abbrev pub parameters_view : FormalParameters → List ParameterTree × Bool
parameters_view p = (map parameter_view p.parameters.items, p.variadic)

-- the types of the parameters, and whether `...` ends them
abbrev pub declared_view : FormalParameters → List TypeTree × Bool
declared_view p = (parameter_types (map parameter_view p.parameters.items), p.variadic)

-- what stands behind the head of a definition as trees
abbrev pub defined_view : Defined → (List ParameterTree × Bool) × List BlockTree
defined_view d = (parameters_view d.parameters, map block_view d.blocks.items)

-- what stands behind the type of a variable as trees
abbrev pub variable_rest_view : VariableRest → Option ConstantTree × Option Integer
variable_rest_view v = (option_map constant_view v.initialiser, v.alignment)

-- the head of a function as a tree
abbrev pub head_view : FunctionHead → HeadTree
head_view h = record { linkage = h.linkage; returns = type_view h.returns; name = h.name }

-- an item as a tree
abbrev pub item_view : Item → ItemTree
item_view (items.SourceFilename place text) = SourceFilename place text
item_view (items.DataLayout place text) = DataLayout place text
item_view (items.TargetTriple place text) = TargetTriple place text
item_view (items.Struct name body) = Struct name (body_view body)
item_view (items.Variable variable) = Variable (variable_view variable.value)
item_view (items.Alias alias) = Alias (alias_view alias.value)
item_view (items.Declaration place declaration) =
    Declaration place (head_view declaration.value.head)
    (parameter_types (map parameter_view declaration.value.formal.parameters.items)) declaration.value.formal.variadic
item_view (items.Definition place definition) =
    Definition place (head_view definition.value.head)
    (map parameter_view definition.value.parameters.items) (map block_view definition.value.blocks.items)
item_view (items.Attributes place) = Attributes place
item_view (items.Metadata place) = Metadata place

-- items as trees
abbrev pub items_view : List Item → List ItemTree
items_view all = map item_view all
