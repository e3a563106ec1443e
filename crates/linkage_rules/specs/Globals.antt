-- For `resolve_symbols`: what a module has under a name: a variable, a function or an alias.
use Rattle.std.specs.Prelude.{ℕ, Bool, true, false, List, [], ◌++◌, map, is_some, Option, None}
use Rattle.ir_tables.specs.declared.linkage.Linkage.{Linkage}
use Rattle.type_table.specs.Tree.{Tree, int, ptr, void, array, struct, named}
use Rattle.module_arena.specs.Module.{Bytes, Constant, Variable, AliasType, PlainType, FunctionType, Alias, Function, Module}

-- a variable, a function or an alias of a module
pub data Global : Type 0 where
  OfVariable : (variable : Variable) → Global
  OfFunction : (function : Function) → Global
  OfAlias : (alias : Alias) → Global

-- its name
abbrev pub name_of : Global → Bytes
name_of (OfVariable v) = v.name
name_of (OfFunction f) = f.name
name_of (OfAlias a) = a.name

-- its linkage
abbrev pub linkage_of : Global → Linkage
linkage_of (OfVariable v) = v.linkage
linkage_of (OfFunction f) = f.linkage
linkage_of (OfAlias a) = a.linkage

-- the name of what an alias is of; nothing else names a target
abbrev pub target_name : Global → Bytes
target_name (OfVariable v) = []
target_name (OfFunction f) = []
target_name (OfAlias a) = a.target

-- whether an initialiser or a body is written; an alias names its target
abbrev pub is_written : Global → Bool
is_written (OfVariable v) = is_some v.initialiser
is_written (OfFunction f) = is_some f.body
is_written (OfAlias a) = true

-- another name of a variable or function
abbrev pub is_alias : Global → Bool
is_alias (OfAlias a) = true
is_alias (OfVariable v) = false
is_alias (OfFunction f) = false

-- the type of an alias of a variable
abbrev pub is_plain : AliasType → Bool
is_plain (PlainType t) = true
is_plain (FunctionType signature) = false

-- Of the two kinds, variable and function, that of a variable. An alias is of its target's kind, as its type says
abbrev pub is_variable : Global → Bool
is_variable (OfVariable v) = true
is_variable (OfFunction f) = false
is_variable (OfAlias a) = is_plain a.ty

-- all that a module has: its variables, its functions, its aliases
abbrev pub globals : Module → List Global
globals m = map OfVariable m.variables ++ map OfFunction m.functions ++ map OfAlias m.aliases

-- the type of a variable; nothing else has one here
abbrev pub type_of : Global → Tree
type_of (OfVariable v) = v.ty
type_of (OfFunction f) = void
type_of (OfAlias a) = void

-- a variable that is never written
abbrev pub is_constant : Global → Bool
is_constant (OfVariable v) = v.constant
is_constant (OfFunction f) = false
is_constant (OfAlias a) = false

-- the alignment that a variable states
abbrev pub stated : Global → Option ℕ
stated (OfVariable v) = v.alignment
stated (OfFunction f) = None
stated (OfAlias a) = None

-- what a variable holds at first, where that is written
-- the initialiser of a variable that has one
abbrev pub initialiser_of : Global → Option Constant
initialiser_of (OfVariable v) = v.initialiser
initialiser_of (OfFunction f) = None
initialiser_of (OfAlias a) = None

-- the type of an array's elements; of any other type the type itself
abbrev pub element_of : Tree → Tree
element_of (array n t) = t
element_of (int w) = int w
element_of ptr = ptr
element_of void = void
element_of (struct packed ts) = struct packed ts
element_of (named name) = named name

-- how many elements an array has; no other type counts
abbrev pub length_of : Tree → ℕ
length_of (array n t) = n
length_of (int w) = 0
length_of ptr = 0
length_of void = 0
length_of (struct packed ts) = 0
length_of (named name) = 0
