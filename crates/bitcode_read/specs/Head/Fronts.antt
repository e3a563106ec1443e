-- For `read_variable_front`, `read_function_front` and `read_alias_front`: what stands in front in the records of entries, by
-- the indices of types.
use Rattle.std.specs.Prelude.{◌≡◌, ◌⊎◌, ◌<◌, ℕ, Bool, List, All, Option, Some, None}
use mathlib.Core.Logic.{inl, inr}
use Rattle.ir_tables.specs.declared.linkage.Linkage.{Linkage}
use Rattle.module_arena.specs.declared.entry.AliasType as the_alias_type
use Rattle.module_arena.specs.declared.entry.AliasType.TheVariants as alias_type
use Rattle.module_arena.specs.Known.{alias_types}
use Rattle.module_arena.specs.Module.{Bytes}
use Rattle.record_table.specs.Fields as fields
use Rattle.record_table.specs.Fields.{Texts}
use Rattle.record_table.specs.Layout.{Layout, ◌&◌, counted, either}
use Rattle.record_table.specs.TypeRecords.{earlier}
use Rattle.record_read.specs.Reader.{Reader, IsKept, IsBroken}
use Rattle.record_read.specs.Fields.{IsBelow}
use Rattle.type_read.specs.Fields.{AreBelow, IsNameOf}
use Rattle.bitcode_read.specs.declared.head.fronts.VariableFront.{VariableFront}
use Rattle.bitcode_read.specs.declared.head.fronts.FunctionFront.{FunctionFront}
use Rattle.bitcode_read.specs.declared.head.fronts.AliasFront.{AliasFront}

-- ---- what stands in records: as in `Records`, up to what an entry holds, and with indices in place of types

-- name, linkage, whether it is a constant, type, alignment
abbrev pub VariableFields : Type 0
VariableFields = Bytes × (Linkage × (Bool × (ℕ × Option ℕ)))

-- name, linkage, whether it is defined, what it returns, whether it is variadic, parameters
abbrev pub FunctionFields : Type 0
FunctionFields = Bytes × (Linkage × (Bool × (ℕ × (Bool × List ℕ))))

-- a type, or what a function type is made of
abbrev pub AliasTypeFields : Type 0
AliasTypeFields = ℕ ⊎ (ℕ × (Bool × List ℕ))

-- name, linkage, type
abbrev pub AliasFields : Type 0
AliasFields = Bytes × (Linkage × AliasTypeFields)

-- ---- the parts of these, by their names

-- what an entry is called, which stands first
abbrev pub name_in : {A : Type 0} → Bytes × A → Bytes
name_in (name, rest) = name

-- of a variable: its linkage
abbrev pub variable_linkage : VariableFields → Linkage
variable_linkage (name, (linkage, (constant, (ty, alignment)))) = linkage

-- whether it is a constant
abbrev pub variable_constant : VariableFields → Bool
variable_constant (name, (linkage, (constant, (ty, alignment)))) = constant

-- its type
abbrev pub variable_ty : VariableFields → ℕ
variable_ty (name, (linkage, (constant, (ty, alignment)))) = ty

-- its alignment
abbrev pub variable_alignment : VariableFields → Option ℕ
variable_alignment (name, (linkage, (constant, (ty, alignment)))) = alignment

-- of a function: its linkage
abbrev pub function_linkage : FunctionFields → Linkage
function_linkage (name, (linkage, (defined, (returns, (variadic, parameters))))) = linkage

-- whether it is defined
abbrev pub function_defined : FunctionFields → Bool
function_defined (name, (linkage, (defined, (returns, (variadic, parameters))))) = defined

-- what it returns
abbrev pub function_returns : FunctionFields → ℕ
function_returns (name, (linkage, (defined, (returns, (variadic, parameters))))) = returns

-- whether it is variadic
abbrev pub function_variadic : FunctionFields → Bool
function_variadic (name, (linkage, (defined, (returns, (variadic, parameters))))) = variadic

-- its parameters
abbrev pub function_parameters : FunctionFields → List ℕ
function_parameters (name, (linkage, (defined, (returns, (variadic, parameters))))) = parameters

-- of an alias: its linkage
abbrev pub alias_linkage : AliasFields → Linkage
alias_linkage (name, (linkage, ty)) = linkage

-- its type
abbrev pub alias_ty : AliasFields → AliasTypeFields
alias_ty (name, (linkage, ty)) = ty

-- ---- how they are laid out

-- a variable up to its alignment, where there are so many types
abbrev pub variable_front : Texts → ℕ → Layout VariableFields
variable_front texts types = fields.name texts & fields.linkage & fields.truth & earlier types & fields.alignment

-- all of a function
abbrev pub function_front : Texts → ℕ → Layout FunctionFields
function_front texts types = fields.name texts & fields.linkage & fields.truth & earlier types & fields.truth & counted (earlier types)

-- what a function type is made of
abbrev pub function_type : ℕ → Layout (ℕ × (Bool × List ℕ))
function_type types = earlier types & fields.truth & counted (earlier types)

-- what an alias says of its target
abbrev pub alias_type_front : ℕ → Layout AliasTypeFields
alias_type_front types = either (earlier types) (function_type types)

-- an alias up to its target
abbrev pub alias_front : Texts → ℕ → Layout AliasFields
alias_front texts types = fields.name texts & fields.linkage & alias_type_front types

-- ---- what is kept

-- the alias type of these parts
abbrev pub kept_alias_type : AliasTypeFields → the_alias_type.AliasType
kept_alias_type (inl t) = alias_type.Plain t
kept_alias_type (inr (t, (v, ts))) = alias_type.Function t ts v

-- the alias type that is kept is that one, and its types are some of so many
abbrev pub IsListedType : ℕ → the_alias_type.AliasType → AliasTypeFields → Type 0
IsListedType types kept read = (kept ≡ kept_alias_type read) × All (λ ty. ty < types) (alias_types kept)

-- the same of a function type
abbrev pub IsListedFunction : ℕ → the_alias_type.AliasType → ℕ × (Bool × List ℕ) → Type 0
IsListedFunction types kept read = IsListedType types kept (inr read)

-- a function type, where its parts are known
abbrev pub function_type_of : Option ℕ → Bool → Option (List ℕ) → Option the_alias_type.AliasType
function_type_of (Some returns) variadic (Some parameters) = Some (alias_type.Function returns parameters variadic)
function_type_of (Some returns) variadic None = None
function_type_of None variadic parameters = None

-- the text that others follow was read as a name; none only where a rule is broken
pub record ReadsFrontName (texts : Texts) (old new : Reader) (name : Option Bytes) : Type 0 where
  pub value : IsNameOf name ((fields.name texts).read old.walk).0
  pub reader : new ≡ record old { walk = ((fields.name texts).read old.walk).1 }
  pub broken : name ≡ None → IsBroken new.walk

-- The front of a variable was read. Codes and numbers are exact; a name is none exactly where the text is none that is good,
-- and a name or a type only where a rule is broken.
pub record ReadsVariable (texts : Texts) (types : ℕ) (old new : Reader) (front : VariableFront) : Type 0 where
  pub reader : new ≡ record old { walk = ((variable_front texts types).read old.walk).1 }
  pub name : IsNameOf front.name (name_in ((variable_front texts types).read old.walk).0)
  pub named : front.name ≡ None → IsBroken new.walk
  pub linkage : front.linkage ≡ variable_linkage ((variable_front texts types).read old.walk).0
  pub constant : front.constant ≡ variable_constant ((variable_front texts types).read old.walk).0
  pub ty : IsKept (IsBelow types) front.ty (variable_ty ((variable_front texts types).read old.walk).0) new.walk
  pub alignment : front.alignment ≡ variable_alignment ((variable_front texts types).read old.walk).0

-- the same of a function
pub record ReadsFunction (texts : Texts) (types : ℕ) (old new : Reader) (front : FunctionFront) : Type 0 where
  pub reader : new ≡ record old { walk = ((function_front texts types).read old.walk).1 }
  pub name : IsNameOf front.name (name_in ((function_front texts types).read old.walk).0)
  pub named : front.name ≡ None → IsBroken new.walk
  pub linkage : front.linkage ≡ function_linkage ((function_front texts types).read old.walk).0
  pub defined : front.defined ≡ function_defined ((function_front texts types).read old.walk).0
  pub returns : IsKept (IsBelow types) front.returns (function_returns ((function_front texts types).read old.walk).0) new.walk
  pub variadic : front.variadic ≡ function_variadic ((function_front texts types).read old.walk).0
  pub parameters : IsKept (AreBelow types) front.parameters (function_parameters ((function_front texts types).read old.walk).0) new.walk

-- the same of an alias
pub record ReadsAlias (texts : Texts) (types : ℕ) (old new : Reader) (front : AliasFront) : Type 0 where
  pub reader : new ≡ record old { walk = ((alias_front texts types).read old.walk).1 }
  pub name : IsNameOf front.name (name_in ((alias_front texts types).read old.walk).0)
  pub named : front.name ≡ None → IsBroken new.walk
  pub linkage : front.linkage ≡ alias_linkage ((alias_front texts types).read old.walk).0
  pub ty : IsKept (IsListedType types) front.ty (alias_ty ((alias_front texts types).read old.walk).0) new.walk
