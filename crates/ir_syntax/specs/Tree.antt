-- For `read_items`: the items of a text as plain trees.
use Rattle.std.specs.Prelude.{Bool, List, Option}
use Rattle.ir_base.specs.declared.place.Place.{Place}
use Rattle.ir_tables.specs.declared.linkage.Linkage.{Linkage}
use Rattle.ir_terminals.specs.declared.values.Integer.{Integer}
use Rattle.ir_terminals.specs.declared.values.Local.{Local}
use Rattle.ir_terminals.specs.declared.values.PlacedName.{PlacedName}
use Rattle.ir_terminals.specs.declared.values.PlacedText.{PlacedText}
use Rattle.ir_phrases.specs.Constants.Tree.{TypeTree, ConstantTree}
use Rattle.ir_phrases.specs.Instructions.Tree.{BlockTree}

-- what a struct is
pub data BodyTree : Type 0 where
  -- `opaque`
  OpaqueBody : BodyTree
  -- `{ .. }`
  PlainBody : (fields : List TypeTree) → BodyTree
  -- `<{ .. }>`
  PackedBody : (fields : List TypeTree) → BodyTree

-- a variable, with what the text writes of it
pub record VariableTree : Type 0 where
  pub name : PlacedName
  pub linkage : Option Linkage
  pub constant : Bool
  pub ty : TypeTree
  pub initialiser : Option ConstantTree
  pub alignment : Option Integer

-- what an alias stands for: a variable, or a function by its return type, its parameters and whether `...` ends them
pub data AliasTypeTree : Type 0 where
  -- any type but that of a function
  PlainAlias : (ty : TypeTree) → AliasTypeTree
  -- a function type
  FunctionAlias : (returns : TypeTree) → (parameters : List TypeTree) → (variadic : Bool) → AliasTypeTree

-- an alias, with what the text writes of it
pub record AliasTree : Type 0 where
  pub name : PlacedName
  pub linkage : Option Linkage
  pub ty : AliasTypeTree
  pub target : PlacedName

-- a parameter of a function, and what it is called where that is written
abbrev pub ParameterTree : Type 0
ParameterTree = TypeTree × Option Local

-- what a function is called and gives
pub record HeadTree : Type 0 where
  pub linkage : Option Linkage
  pub returns : TypeTree
  pub name : PlacedName

-- An item, with the place of its first token where no name has it.
pub data ItemTree : Type 0 where
  -- `source_filename = ".."`
  SourceFilename : (place : Place) → (text : PlacedText) → ItemTree
  -- `target datalayout = ".."`
  DataLayout : (place : Place) → (text : PlacedText) → ItemTree
  -- `target triple = ".."`
  TargetTriple : (place : Place) → (text : PlacedText) → ItemTree
  -- `%name = type ..`
  Struct : (name : PlacedName) → (body : BodyTree) → ItemTree
  -- `@name = global ..` or `constant`
  Variable : (variable : VariableTree) → ItemTree
  -- `@name = alias ..`
  Alias : (alias : AliasTree) → ItemTree
  -- `declare`, with what its parameters are
  Declaration : (place : Place) → (head : HeadTree) → (parameters : List TypeTree) → (variadic : Bool) → ItemTree
  -- `define`, with its blocks
  Definition : (place : Place) → (head : HeadTree) → (parameters : List ParameterTree) → (blocks : List BlockTree) → ItemTree
  -- `attributes #0 = { .. }`, of which nothing is kept
  Attributes : (place : Place) → ItemTree
  -- `!name = ..`, of which nothing is kept
  Metadata : (place : Place) → ItemTree
