-- For `resolve`: the module that items stand for: names and numbers joined, and what is dropped gone.
use Rattle.std.specs.Prelude.{ℕ, Bool, false, List, [], ◌∷◌, map, filter_map, unwrap_or, Option, Some, None, option_map}
use Rattle.ir_terminals.specs.declared.values.PlacedText.{PlacedText}
use Rattle.ir_tables.specs.declared.linkage.Linkage.{Linkage}
use Rattle.ir_tables.specs.declared.linkage.Linkage.TheVariants as linkage
use Rattle.ir_phrases.specs.Constants.Tree.{TypeTree}
use Rattle.ir_phrases.specs.Instructions.Tree.{BlockTree}
use Rattle.ir_syntax.specs.Tree.{ItemTree, VariableTree, AliasTypeTree, PlainAlias, FunctionAlias, AliasTree, ParameterTree, HeadTree, SourceFilename, DataLayout, TargetTriple, Struct, Variable, Alias, Declaration, Definition}
use Rattle.type_table.specs.Tree.{TreeBody, Structs}
use Rattle.module_arena.specs.Module.{Bytes, Parameter, Function, Module}
use Rattle.module_arena.specs.Module as m
use Rattle.name_rules.specs.Locals.{called, next_behind, announced_parameter, next_after}
use Rattle.name_rules.specs.Written.{type_in, body_in, constant_in, alignment_in}
use Rattle.name_rules.specs.Bodies.{blocks_in}

-- the first that is there
abbrev pub first_of : {A : Type 0} → List A → Option A
first_of [] = None
first_of (a ∷ more) = Some a

-- what `source_filename` says
abbrev pub source_in : ItemTree → Option PlacedText
source_in (SourceFilename place text) = Some text
source_in _ = None

-- what the layout says
abbrev pub layout_in : ItemTree → Option PlacedText
layout_in (DataLayout place text) = Some text
layout_in _ = None

-- what the triple says
abbrev pub triple_in : ItemTree → Option PlacedText
triple_in (TargetTriple place text) = Some text
triple_in _ = None

-- the text of the first such item
abbrev pub text_in : (ItemTree → Option PlacedText) → List ItemTree → Option Bytes
text_in kind items = option_map (λ t. t.text) (first_of (filter_map kind items))

-- a struct
abbrev pub struct_in : ItemTree → Option (Bytes × TreeBody)
struct_in (Struct name body) = Some (name.name, body_in body)
struct_in _ = None

-- the structs of a text, in order
abbrev pub structs_in : List ItemTree → Structs
structs_in items = filter_map struct_in items

-- external where none is written
abbrev pub linkage_in : Option Linkage → Linkage
linkage_in written = unwrap_or written linkage.External

-- a variable, part by part
abbrev pub variable_of : VariableTree → m.Variable
variable_of written = record {
  name = written.name.name;
  linkage = linkage_in written.linkage;
  constant = written.constant;
  ty = type_in written.ty;
  alignment = alignment_in written.alignment;
  initialiser = option_map (constant_in (type_in written.ty)) written.initialiser;
}

-- a variable
abbrev pub variable_in : ItemTree → Option m.Variable
variable_in (Variable written) = Some (variable_of written)
variable_in _ = None

-- the type of an alias: that of a variable, or a function type
abbrev pub alias_type_in : AliasTypeTree → m.AliasType
alias_type_in (PlainAlias ty) = m.PlainType (type_in ty)
alias_type_in (FunctionAlias returns parameters variadic) =
    m.FunctionType (record { returns = type_in returns; parameters = map type_in parameters; variadic = variadic })

-- an alias, part by part
abbrev pub alias_of : AliasTree → m.Alias
alias_of written = record {
  name = written.name.name;
  linkage = linkage_in written.linkage;
  ty = alias_type_in written.ty;
  target = written.target.name;
}

-- an alias
abbrev pub alias_in : ItemTree → Option m.Alias
alias_in (Alias written) = Some (alias_of written)
alias_in _ = None

-- the parameters of a declaration, which have numbers alone
abbrev pub numbered_parameters : ℕ → List TypeTree → List Parameter
numbered_parameters next [] = []
numbered_parameters next (ty ∷ more) = record { ty = type_in ty; name = m.Numbered next } ∷ numbered_parameters (next_behind next None) more

-- parameters, the first of which is the next one
abbrev pub parameters_in : ℕ → List ParameterTree → List Parameter
parameters_in next [] = []
parameters_in next (written ∷ more) = record { ty = type_in written.0; name = called next written.1 } ∷ parameters_in (next_behind next written.1) more

-- a function without a body
abbrev pub declared : HeadTree → List TypeTree → Bool → Function
declared head parameters variadic = record {
  name = head.name.name;
  linkage = linkage_in head.linkage;
  returns = type_in head.returns;
  parameters = numbered_parameters 0 parameters;
  variadic = variadic;
  body = None;
}

-- a function with a body
abbrev pub defined : HeadTree → List ParameterTree → List BlockTree → Function
defined head parameters blocks = record {
  name = head.name.name;
  linkage = linkage_in head.linkage;
  returns = type_in head.returns;
  parameters = parameters_in 0 parameters;
  variadic = false;
  body = Some (blocks_in (next_after 0 (map announced_parameter parameters)) blocks);
}

-- a function
abbrev pub function_in : ItemTree → Option Function
function_in (Declaration place head parameters variadic) = Some (declared head parameters variadic)
function_in (Definition place head parameters blocks) = Some (defined head parameters blocks)
function_in _ = None

-- the module of these items
abbrev pub module_of_items : List ItemTree → Module
module_of_items items = record {
  source = text_in source_in items;
  layout = text_in layout_in items;
  triple = text_in triple_in items;
  structs = structs_in items;
  variables = filter_map variable_in items;
  aliases = filter_map alias_in items;
  functions = filter_map function_in items;
}
