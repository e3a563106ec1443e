-- For `equal_look_ups_give_equal_runs`: look-up, that is what stands at a place of a function, and what an address has, by the
-- rules of linking. Each name is looked up in the part in which it is written; nothing is merged.
use Rattle.std.specs.Prelude.{ℕ, ◌+◌, ◌-◌, ◌/◌, ◌%◌, ◌&&◌, nat_eq, nat_le, List, [], map, length, position, slice_get, Option, Some, None, unwrap_or, option_and_then, if◌then◌else◌}
use Rattle.std.specs.Option.{option_map, option_map_or}
use Rattle.ir_eval.specs.declared.value.Pointer.{Pointer}
use Rattle.ir_eval.specs.declared.value.Scalar.{Scalar}
use Rattle.ir_eval.specs.declared.value.Scalar.TheVariants.{Ptr, Poison}
use Rattle.ir_eval.specs.Cast.{pointer_at}
use Rattle.module_arena.specs.declared.host.HostRow.{HostRow}
use Rattle.module_arena.specs.HostRows.{host_row, host_types, signature_of}
use Rattle.module_arena.specs.Module.{Bytes, Block, Function, Module}
use Rattle.linkage_rules.specs.declared.address.TheConstants.{FIRST_FUNCTION, FUNCTION_STEP}
use Rattle.linkage_rules.specs.Bind.{Bound, meaning, behind}
use Rattle.linkage_rules.specs.Bind as bound
use Rattle.linkage_rules.specs.Globals.{Global, OfVariable, OfFunction, OfAlias}
use Rattle.linkage_rules.specs.Addresses.{rooms, address}
use Rattle.linkage_rules.specs.declared.symbol.Symbol.{Symbol}
use Rattle.linkage_rules.specs.Entries.{Entry, same_symbol, symbol_in, structs_at}
use Rattle.linkage_rules.specs.Symbols.{function_symbols}
use Rattle.linkage_rules.specs.Winner.{home}
use Rattle.run_rules.specs.Action.{Action}
use Rattle.run_rules.specs.Calls.{Callee, Code, Host, Nothing}
use Rattle.run_rules.specs.Constant.{Names}
use Rattle.run_rules.specs.Resolve.{signature_in, instruction_in, ending_in}
use Rattle.run_rules.specs.Scope.{FunctionScope, scope_of, leaf_count}

-- The address of a symbol: of an alias, that of what is behind it. A variable's block has its number among the variables
-- that lie in memory; a function has none
abbrev pub pointer_to : List Module → Symbol → Pointer
pointer_to parts s = record { block = position (λ row. same_symbol (behind parts s) row.0) (rooms parts); address = unwrap_or (address parts s) 0 }

-- the address by what the symbol means
abbrev pub leaf_of : List Module → Symbol → Bound → Scalar
leaf_of parts s (bound.Definition e) = Ptr (pointer_to parts s)
leaf_of parts s (bound.Appended symbol) = Ptr (pointer_to parts s)
leaf_of parts s (bound.Host name) = Ptr (pointer_to parts s)
leaf_of parts s bound.Null = Ptr (pointer_at 0)
leaf_of parts s bound.Unresolved = Poison

-- what a name is in part i. No run comes to a name that is unresolved
abbrev pub address_in : List Module → ℕ → Bytes → Scalar
address_in parts i name = leaf_of parts (symbol_in parts i name) (meaning parts (symbol_in parts i name))

-- where the variable with that number starts and ends
abbrev pub variable_bounds : List Module → ℕ → Option (ℕ × ℕ)
variable_bounds parts k = option_map (λ row. (unwrap_or (address parts row.0) 0, unwrap_or (address parts row.0) 0 + row.1.size)) (slice_get (rooms parts) k)

-- where the variable lies that a pointer is to
abbrev pub bounds_in : List Module → Pointer → Option (ℕ × ℕ)
bounds_in parts p = option_and_then (variable_bounds parts) p.block

-- what the names of part i mean
abbrev pub names_in : List Module → ℕ → Names
names_in parts i = record { structs = structs_at parts i; address = address_in parts i; bounds = bounds_in parts }

-- a function, and the part that defines it
abbrev pub Defined : Type 0
Defined = ℕ × Function

-- the function of an entry
abbrev pub defined_by : Entry → Global → Option Defined
defined_by e (OfVariable v) = None
defined_by e (OfFunction f) = Some (e.part, f)
defined_by e (OfAlias a) = None

-- the function that a symbol is bound to, itself or through an alias
abbrev pub defined : List Module → Symbol → Option Defined
defined parts s = option_and_then (λ e. defined_by e e.global) (home parts (behind parts s))

-- the function of the symbol with that number among the function symbols
abbrev pub function_at : List Module → ℕ → Option Defined
function_at parts n = option_and_then (defined parts) (slice_get (function_symbols parts) n)

-- behind the last instruction stands the end
abbrev pub ending_at : FunctionScope → Block → ℕ → Action
ending_at sc b position = if nat_eq position (length b.instructions) then ending_in sc b.name b.ending else Action.Stuck

-- the instruction at a position, or the end of the block
abbrev pub action_at : FunctionScope → Block → ℕ → Action
action_at sc b position = option_map_or (instruction_in sc) (slice_get b.instructions position) (ending_at sc b position)

-- the action at a place of a function
abbrev pub look_in : FunctionScope → ℕ → ℕ → Action
look_in sc block position = option_map_or (λ b. action_at sc b position) (slice_get sc.blocks block) Action.Stuck

-- the action at a place of the function with that number
abbrev pub look : List Module → ℕ → ℕ → ℕ → Action
look parts function block position =
    option_map_or (λ d. look_in (scope_of (names_in parts d.0) d.1) block position) (function_at parts function) Action.Stuck

-- the number of the function symbol with that address
abbrev pub function_number : ℕ → Option ℕ
function_number a = if nat_le FIRST_FUNCTION a && nat_eq ((a - FIRST_FUNCTION) % FUNCTION_STEP) 0 then Some ((a - FIRST_FUNCTION) / FUNCTION_STEP) else None

-- a function as a callee
abbrev pub code_of : List Module → ℕ → Defined → Callee
code_of parts n d = Code n (signature_in (names_in parts d.0) (signature_of d.1)) (leaf_count (names_in parts d.0) d.1)

-- the types of a host function name no struct
abbrev pub no_names : Names
no_names = record { structs = []; address = λ name. Poison; bounds = λ p. None }

-- a row of the host table as a callee
abbrev pub host_of : HostRow → Callee
host_of row = Host row (map (signature_in no_names) (host_types row))

-- the callee by what the symbol means
abbrev pub callee_by : List Module → ℕ → Bound → Callee
callee_by parts n (bound.Definition e) = option_map_or (code_of parts n) (defined_by e e.global) Nothing
callee_by parts n (bound.Host name) = option_map_or host_of (host_row name) Nothing
callee_by parts n (bound.Appended symbol) = Nothing
callee_by parts n bound.Null = Nothing
callee_by parts n bound.Unresolved = Nothing

-- the callee of a function symbol
abbrev pub callee_numbered : List Module → ℕ → Callee
callee_numbered parts n = option_map_or (λ s. callee_by parts n (meaning parts s)) (slice_get (function_symbols parts) n) Nothing

-- what an address has
abbrev pub table : List Module → ℕ → Callee
table parts a = option_map_or (callee_numbered parts) (function_number a) Nothing
