-- For `linking_carries_symbols` and `one_module_stays`: the one module that is made of some parts.
use Rattle.std.specs.Prelude.{ℕ, suc, false, ◌&&◌, List, [], ◌∷◌, map, length, filter_map, flat_map, Option, Some, None, nat_le, if◌then◌else◌}
use Rattle.std.specs.Option.{option_map, option_or}
use Rattle.ir_tables.specs.declared.linkage.Linkage.{Linkage}
use Rattle.ir_tables.specs.declared.linkage.Linkage.TheVariants.{External, ExternWeak}
use Rattle.type_table.specs.Tree.{Tree, array, void}
use Rattle.module_arena.specs.Module.{Bytes, Numbered, Constant, Aggregate, Square, Constants, no_constants, more_constants, Block, Parameter, Variable, AliasType, PlainType, FunctionType, Alias, Function, Module}
use Rattle.module_arena.specs.Renamed.{renamed_constant, renamed_block, renamed_alias_type}
use Rattle.linkage_rules.specs.Linkages.{is_common, is_appending}
use Rattle.linkage_rules.specs.Globals.{Global, OfVariable, OfFunction, OfAlias, linkage_of, stated, element_of}
use Rattle.linkage_rules.specs.Lists.{first}
use Rattle.linkage_rules.specs.Entries.{Entry, entries_of}
use Rattle.linkage_rules.specs.declared.symbol.Symbol.{Symbol}
use Rattle.linkage_rules.specs.Winner.{definitions, home}
use Rattle.linkage_rules.specs.Bind.{all_extern_weak}
use Rattle.linkage_rules.specs.Addresses.{joined_length, greatest_stated, commons, greatest_common}
use Rattle.linkage_rules.specs.Contents.Contents.{ContentPiece, elements_in}
use Rattle.link_rules.specs.Rename.{renaming, new_global}
use Rattle.link_rules.specs.Structs.{struct_map, new_struct, linked_type, linked_struct}

-- a constant of part i, as it is written in the result
abbrev pub linked_constant : List Module → ℕ → Constant → Constant
linked_constant parts i c = renamed_constant (new_struct parts i) (new_global parts i) c

-- a block of part i, as it is written there
abbrev pub linked_block : List Module → ℕ → Block → Block
linked_block parts i b = renamed_block (new_struct parts i) (new_global parts i) b

-- constants of several parts behind each other
abbrev pub linked_pieces : List Module → List ContentPiece → Constants
linked_pieces parts [] = no_constants
linked_pieces parts (p ∷ ps) = more_constants (linked_type parts p.part p.ty) (linked_constant parts p.part p.value) (linked_pieces parts ps)

-- an appended array is of the elements of all parts
abbrev pub joined_type : List Module → Entry → List Entry → Tree → Tree
joined_type parts e es t = if is_appending (linkage_of e.global) then array (joined_length es) (linked_type parts e.part (element_of t)) else linked_type parts e.part t

-- its initialiser is the list of them
abbrev pub joined_initialiser : List Module → Entry → List Entry → Option Constant → Option Constant
joined_initialiser parts e es c =
    if is_appending (linkage_of e.global) then Some (Aggregate Square (linked_pieces parts (flat_map elements_in es)))
    else option_map (linked_constant parts e.part) c

-- the greatest alignment that is stated for an appended array, and that of all commons where there are two or more
abbrev pub joined_alignment : List Module → Entry → List Entry → Option ℕ
joined_alignment parts e es =
    if is_appending (linkage_of e.global) then greatest_stated es
    else (if is_common (linkage_of e.global) && nat_le 2 (length (commons es)) then greatest_common parts es else stated e.global)

-- a parameter of part i
abbrev pub linked_parameter : List Module → ℕ → Parameter → Parameter
linked_parameter parts i p = record { ty = linked_type parts i p.ty; name = p.name }

-- an alias of part i under that name: its type and its target are written as in the result
abbrev pub linked_alias : List Module → Bytes → ℕ → Alias → Alias
linked_alias parts name i a = record {
  name = name;
  linkage = a.linkage;
  ty = renamed_alias_type (new_struct parts i) a.ty;
  target = new_global parts i a.target;
}

-- the definition that counts, among these, under its new name
abbrev pub linked_definition : List Module → Bytes → Entry → List Entry → Global → Global
linked_definition parts name e es (OfVariable v) = OfVariable (record {
  name = name;
  linkage = v.linkage;
  constant = v.constant;
  ty = joined_type parts e es v.ty;
  alignment = joined_alignment parts e es;
  initialiser = joined_initialiser parts e es v.initialiser;
})
linked_definition parts name e es (OfFunction f) = OfFunction (record {
  name = name;
  linkage = f.linkage;
  returns = linked_type parts e.part f.returns;
  parameters = map (linked_parameter parts e.part) f.parameters;
  variadic = f.variadic;
  body = option_map (map (linked_block parts e.part)) f.body;
})
linked_definition parts name e es (OfAlias a) = OfAlias (linked_alias parts name e.part a)

-- the parameters of a declaration have the numbers from 0 as names
abbrev pub declared_parameters : List Module → ℕ → ℕ → List Parameter → List Parameter
declared_parameters parts i n [] = []
declared_parameters parts i n (p ∷ ps) = record { ty = linked_type parts i p.ty; name = Numbered n } ∷ declared_parameters parts i (suc n) ps

-- null where it is nowhere defined, if each part says so
abbrev pub declared_linkage : List Module → Symbol → Linkage
declared_linkage parts s = if all_extern_weak parts s then ExternWeak else External

-- parameters of these types
abbrev pub unnamed : List Tree → List Parameter
unnamed ts = map (λ t. record { ty = t; name = Numbered 0 }) ts

-- a declaration of what has the type of an alias
abbrev pub declaration_of_type : Linkage → List Module → Bytes → ℕ → AliasType → Global
declaration_of_type linkage parts name i (PlainType t) = OfVariable (record {
  name = name;
  linkage = linkage;
  constant = false;
  ty = linked_type parts i t;
  alignment = None;
  initialiser = None;
})
declaration_of_type linkage parts name i (FunctionType signature) = OfFunction (record {
  name = name;
  linkage = linkage;
  returns = linked_type parts i signature.returns;
  parameters = declared_parameters parts i 0 (unnamed signature.parameters);
  variadic = signature.variadic;
  body = None;
})

-- a declaration as in the symbol's first entry. An alias is a definition, so the last line is never used
abbrev pub linked_declaration : Linkage → List Module → Bytes → ℕ → Global → Global
linked_declaration linkage parts name i (OfVariable v) = OfVariable (record {
  name = name;
  linkage = linkage;
  constant = v.constant;
  ty = linked_type parts i v.ty;
  alignment = v.alignment;
  initialiser = None;
})
linked_declaration linkage parts name i (OfFunction f) = OfFunction (record {
  name = name;
  linkage = linkage;
  returns = linked_type parts i f.returns;
  parameters = declared_parameters parts i 0 f.parameters;
  variadic = f.variadic;
  body = None;
})
linked_declaration linkage parts name i (OfAlias a) = declaration_of_type linkage parts name i a.ty

-- a symbol has an entry, so the first line is never used
abbrev pub linked_first : List Module → Symbol → Bytes → Option Entry → Global
linked_first parts s name None = OfVariable (record { name = name; linkage = External; constant = false; ty = void; alignment = None; initialiser = None })
linked_first parts s name (Some e) = linked_declaration (declared_linkage parts s) parts name e.part e.global

-- the definition that counts, or else a declaration
abbrev pub linked_by : List Module → Symbol → Bytes → Option Entry → Global
linked_by parts s name (Some e) = linked_definition parts name e (definitions parts s) e.global
linked_by parts s name None = linked_first parts s name (first (entries_of parts s))

-- the entry of a symbol
abbrev pub linked : List Module → Symbol × Bytes → Global
linked parts row = linked_by parts row.0 row.1 (home parts row.0)

-- one entry for each symbol, in order
abbrev pub linked_globals : List Module → List Global
linked_globals parts = map (linked parts) (renaming parts)

-- a variable
abbrev pub variable_if : Global → Option Variable
variable_if (OfVariable v) = Some v
variable_if (OfFunction f) = None
variable_if (OfAlias a) = None

-- a function
abbrev pub function_if : Global → Option Function
function_if (OfVariable v) = None
function_if (OfFunction f) = Some f
function_if (OfAlias a) = None

-- an alias
abbrev pub alias_if : Global → Option Alias
alias_if (OfVariable v) = None
alias_if (OfFunction f) = None
alias_if (OfAlias a) = Some a

-- what the first part has that has one
abbrev pub first_of : {A B : Type 0} → (A → Option B) → List A → Option B
first_of field [] = None
first_of field (m ∷ ms) = option_or (field m) (first_of field ms)

-- the module: its texts, structs, variables, aliases and functions
abbrev pub link_result : List Module → Module
link_result parts = record {
  source = first_of (λ (m : Module). m.source) parts;
  layout = first_of (λ (m : Module). m.layout) parts;
  triple = first_of (λ (m : Module). m.triple) parts;
  structs = map (linked_struct parts) (struct_map parts);
  variables = filter_map variable_if (linked_globals parts);
  aliases = filter_map alias_if (linked_globals parts);
  functions = filter_map function_if (linked_globals parts);
}
