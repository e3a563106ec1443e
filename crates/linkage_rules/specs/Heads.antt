-- Says how the code of `head_of` reads: what is told of an entry of an arena without its names and types.
use Rattle.std.specs.Prelude.{Bool, true, false, is_some}
use Rattle.module_arena.specs.declared.entry.Alias.{Alias}
use Rattle.module_arena.specs.declared.entry.AliasType.{AliasType}
use Rattle.module_arena.specs.declared.entry.AliasType.TheVariants as alias_type
use Rattle.module_arena.specs.declared.entry.Function.{Function}
use Rattle.module_arena.specs.declared.entry.Variable.{Variable}
use Rattle.linkage_rules.specs.declared.entry.EntryHead.{EntryHead}

-- a variable
abbrev pub variable_head : Variable → EntryHead
variable_head v = record { linkage = v.linkage; written = is_some v.initialiser; variable = true; alias = false; constant = v.constant }

-- a function
abbrev pub function_head : Function → EntryHead
function_head f = record { linkage = f.linkage; written = is_some f.body; variable = false; alias = false; constant = false }

-- whether an alias is of a variable
abbrev pub is_of_variable : AliasType → Bool
is_of_variable (alias_type.Plain ty) = true
is_of_variable (alias_type.Function returns parameters variadic) = false

-- an alias
abbrev pub alias_head : Alias → EntryHead
alias_head x = record { linkage = x.linkage; written = true; variable = is_of_variable x.ty; alias = true; constant = false }
