-- For `read_items`: the rows of aliases, and of what a global name may name.
use Rattle.std.specs.Prelude.{false, [], ◌∷◌, ◌++◌, Option, Some, None}
use Rattle.ir_terminals.specs.PhraseRows.Row.{Row, PhraseShape, chain, mapped, joined_values, keep_second, pair, alt, labelled}
use Rattle.ir_lexer.specs.Ahead.{Located}
use Rattle.ir_terminals.specs.declared.limits.Limits.{Limits}
use Rattle.ir_terminals.specs.declared.terminal.Terminal.TheVariants as terminal
use Rattle.ir_terminals.specs.declared.values.PlacedName.{PlacedName}
use Rattle.ir_terminals.specs.Role.{class}
use Rattle.ir_terminals.specs.Terminal.{code}
use Rattle.ir_terminals.specs.Tokens.{word, global_name_row}
use Rattle.ir_phrases.specs.Constants.Tree.{TypeTree}
use Rattle.ir_phrases.specs.Constants.Types.{type_shape, type_row}
use Rattle.ir_phrases.specs.Instructions.Tree.{SignatureTree}
use Rattle.ir_phrases.specs.Instructions.Calls.{signature_shape, signature_row}
use Rattle.ir_phrases.specs.Instructions.Dropped.{comma_shape}
use Rattle.ir_syntax.specs.Tree.{AliasTypeTree, PlainAlias, FunctionAlias, ItemTree, Alias}
use Rattle.ir_syntax.specs.Heads.{GlobalHead, global_head_row}
use Rattle.ir_syntax.specs.Variables.{variable_shape, variable_row}

-- a variable's type where no parameters are written, else a function's
abbrev pub alias_type_of : TypeTree → Option SignatureTree → AliasTypeTree
alias_type_of t None = PlainAlias t
alias_type_of t (Some s) = FunctionAlias t s.0 s.1

-- how the type of an alias begins and goes on
abbrev pub alias_type_shape : PhraseShape
alias_type_shape = record { first = type_shape.first; more = signature_shape.first; empty = false }

-- TYPE (( TYPE,* ))?, whose list may end in `...`, by its parts
unfoldable pub alias_type_core : Limits → Row Located AliasTypeTree
alias_type_core limits = joined_values alias_type_of (type_row limits) (signature_row limits)

-- TYPE (( TYPE,* ))?, whose list may end in `...`
abbrev pub alias_type_row : Limits → Row Located AliasTypeTree
alias_type_row limits = labelled alias_type_shape (alias_type_core limits)

-- , ptr GLOBAL, by its parts
unfoldable pub target_core : Row Located PlacedName
target_core = keep_second (word terminal.Comma) (keep_second (word terminal.Ptr) global_name_row)

-- , ptr GLOBAL
abbrev pub target_row : Row Located PlacedName
target_row = labelled comma_shape target_core

-- an alias of its parts
abbrev pub alias_of : GlobalHead → AliasTypeTree × PlacedName → ItemTree
alias_of h v = Alias (record { name = h.0; linkage = h.1; ty = v.0; target = v.1 })

-- how `alias` begins
abbrev pub alias_shape : PhraseShape
alias_shape = record { first = code terminal.«Alias» ∷ []; more = []; empty = false }

-- alias ATYPE , ptr GLOBAL, behind GLOBAL = LINKAGE? GDROP*, by its parts
unfoldable pub alias_core : Limits → GlobalHead → Row Located ItemTree
alias_core limits h = mapped (alias_of h) (keep_second (word terminal.«Alias») (pair (alias_type_row limits) target_row))

-- alias ATYPE , ptr GLOBAL, behind GLOBAL = LINKAGE? GDROP*
abbrev pub alias_row : Limits → GlobalHead → Row Located ItemTree
alias_row limits h = labelled alias_shape (alias_core limits h)

-- how an alias or a variable goes on behind its head
abbrev pub global_behind_shape : PhraseShape
global_behind_shape = record { first = alias_shape.first ++ variable_shape.first; more = variable_shape.more; empty = false }

-- an alias or a variable, behind its name and its linkage, by its parts
unfoldable pub global_behind_core : Limits → GlobalHead → Row Located ItemTree
global_behind_core limits h = alt class (alias_row limits h) (variable_row limits h)

-- an alias or a variable, behind its name and its linkage
abbrev pub global_behind_row : Limits → GlobalHead → Row Located ItemTree
global_behind_row limits h = labelled global_behind_shape (global_behind_core limits h)

-- GLOBAL = LINKAGE? GDROP* (global|constant) TYPE CONST? TAIL*, or GLOBAL = LINKAGE? GDROP* alias ATYPE , ptr GLOBAL
abbrev pub global_row : Limits → Row Located ItemTree
global_row limits = chain global_head_row global_behind_shape (global_behind_row limits)
