-- For `equal_look_ups_give_equal_runs`: what opening needs to know of parts. Once this is known, no part occurs in it, and no name
-- but that of the missing symbol.
use Rattle.std.specs.Prelude.{ℕ, ◌+◌, Bool, true, false, ◌&&◌, nat_eq, nat_le, List, [], ◌∷◌, ◌++◌, map, flat_map, filter_map, find, zip, codes, Option, Some, None, option_and_then, if◌then◌else◌}
use Rattle.std.specs.List.{list_any}
use Rattle.std.specs.Option.{option_map, option_map_or}
use Rattle.ir_eval.specs.declared.value.Pointer.{Pointer}
use Rattle.ir_eval.specs.declared.value.Scalar.{Scalar}
use Rattle.ir_eval.specs.declared.value.Scalar.TheVariants.{Int, Ptr}
use Rattle.module_arena.specs.HostRows.{signature_of}
use Rattle.module_arena.specs.UsedNames.{names_in_variable, names_in_function}
use Rattle.module_arena.specs.Module.{Bytes, Module}
use Rattle.type_table.specs.Layout.{size}
use Rattle.linkage_rules.specs.Bind.{Bound, Unresolved, meaning}
use Rattle.linkage_rules.specs.Contents.Contents.{ContentPiece, pieces}
use Rattle.linkage_rules.specs.Globals.{Global, OfVariable, OfFunction, OfAlias, linkage_of, is_constant}
use Rattle.linkage_rules.specs.Linkages.{is_appending}
use Rattle.linkage_rules.specs.Addresses.{rooms, Room, address}
use Rattle.linkage_rules.specs.declared.symbol.Symbol.{Symbol}
use Rattle.linkage_rules.specs.declared.symbol.Symbol.TheVariants.{Shared}
use Rattle.linkage_rules.specs.Entries.{Entry, symbol_name, same_symbol, symbol_in}
use Rattle.linkage_rules.specs.Symbols.{symbols}
use Rattle.linkage_rules.specs.Winner.{definitions, home}
use Rattle.run_rules.specs.Action.{Signature}
use Rattle.run_rules.specs.Calls.{same_signature}
use Rattle.run_rules.specs.Constant.{shape_of, constant_value}
use Rattle.run_rules.specs.Due.{plain_main, main_with_arguments}
use Rattle.run_rules.specs.Leaves.{Slot, slots_at}
use Rattle.run_rules.specs.Look.{Defined, names_in, pointer_to, defined}
use Rattle.run_rules.specs.Resolve.{signature_in}

-- ---- the first missing symbol

-- one definition, or all
abbrev pub chosen_by : List Entry → Entry → List Entry
chosen_by es e = if is_appending (linkage_of e.global) then es else e ∷ []

-- the definition of a symbol that a run has: the one that counts, or all that are appended
abbrev pub chosen_of : List Module → Symbol → List Entry
chosen_of parts s = option_map_or (chosen_by (definitions parts s)) (home parts s) []

-- the definitions that a run has
abbrev pub chosen : List Module → List Entry
chosen parts = flat_map (chosen_of parts) (symbols parts)

-- the names in an initialiser or a body; an alias has neither
abbrev pub names_used : Global → List Bytes
names_used (OfVariable v) = names_in_variable v
names_used (OfFunction f) = names_in_function f
names_used (OfAlias a) = []

-- one of these names is of the symbol
abbrev pub uses : List Module → Symbol → Entry → Bool
uses parts s e = list_any (λ name. same_symbol s (symbol_in parts e.part name)) (names_used e.global)

-- a symbol means nothing
abbrev pub is_unresolved : Bound → Bool
is_unresolved Unresolved = true
is_unresolved _ = false

-- a symbol means nothing and is used
abbrev pub is_missing : List Module → Symbol → Bool
is_missing parts s = is_unresolved (meaning parts s) && list_any (uses parts s) (chosen parts)

-- the first missing one in the order of symbols
abbrev pub first_missing : List Module → Option Bytes
first_missing parts = option_map symbol_name (find (is_missing parts) (symbols parts))

-- ---- main

-- where main is, and whether it takes arguments
pub record Main : Type 0 where
  pub address : ℕ
  pub takes_arguments : Bool

-- main by its type
abbrev pub main_of : Signature → ℕ → Option Main
main_of signature address =
    if same_signature signature plain_main then Some (record { address = address; takes_arguments = false })
    else (if same_signature signature main_with_arguments then Some (record { address = address; takes_arguments = true }) else None)

-- the name `main`, shared by all parts
abbrev pub main_symbol : Symbol
main_symbol = Shared (codes "main")

-- main by its definition
abbrev pub main_by : List Module → Defined → Option Main
main_by parts d = main_of (signature_in (names_in parts d.0) (signature_of d.1)) (pointer_to parts main_symbol).address

-- the function that the name `main` is bound to, itself or through an alias that is not local
abbrev pub main_in : List Module → Option Main
main_in parts = option_and_then (main_by parts) (defined parts main_symbol)

-- ---- variables

-- what a variable needs in memory
pub record Variable : Type 0 where
  pub size : ℕ
  pub align : ℕ
  pub constant : Bool

-- what the variable of a symbol needs
abbrev pub variable_of : List Module → Symbol × Room → Variable
variable_of parts row = record { size = row.1.size; align = row.1.alignment; constant = option_map_or (λ e. is_constant e.global) (home parts row.0) false }

-- where the leaves of an initialiser lie, and what they are
abbrev pub Contents : Type 0
Contents = List (Slot × Scalar)

-- pieces one behind the other, each looked up in its part
abbrev pub contents_from : List Module → ℕ → List ContentPiece → Contents
contents_from parts at [] = []
contents_from parts at (p ∷ ps) =
    zip (slots_at (shape_of (names_in parts p.part) p.ty) at) (constant_value (names_in parts p.part) p.ty p.value)
    ++ contents_from parts (at + size (shape_of (names_in parts p.part) p.ty)) ps

-- what a symbol holds at first
abbrev pub contents_of : List Module → Symbol → Contents
contents_of parts s = contents_from parts 0 (pieces parts s)

-- ---- constructors

-- a function that is called before main: its priority and its address
abbrev pub Constructor : Type 0
Constructor = ℕ × ℕ

-- an element of `llvm.global_ctors`, leaf by leaf; one whose function is null is passed over
abbrev pub constructor_of : List Scalar → Option Constructor
constructor_of (Int priority ∷ Ptr p ∷ data_leaves) = if nat_eq p.address 0 then None else Some (priority, p.address)
constructor_of _ = None

-- before those of a greater priority, and before those of the same
abbrev pub put_in_order : Constructor → List Constructor → List Constructor
put_in_order x [] = x ∷ []
put_in_order x (y ∷ ys) = if nat_le x.0 y.0 then x ∷ y ∷ ys else y ∷ put_in_order x ys

-- by priority, ties in the order of the array
abbrev pub in_order : List Constructor → List Constructor
in_order [] = []
in_order (x ∷ xs) = put_in_order x (in_order xs)

-- the array of constructors
abbrev pub constructors_symbol : Symbol
constructors_symbol = Shared (codes "llvm.global_ctors")

-- the constructors of all parts, in the order in which they are called
abbrev pub constructors : List Module → List Constructor
constructors parts = in_order (filter_map (λ p. constructor_of (constant_value (names_in parts p.part) p.ty p.value)) (pieces parts constructors_symbol))

-- what opening needs
pub record Plan : Type 0 where
  pub missing : Option Bytes
  pub main : Option Main
  pub variables : List Variable
  -- what is stored at first, and where
  pub stores : List (Pointer × Contents)
  pub constructors : List ℕ

-- what opening needs of these parts
abbrev pub plan : List Module → Plan
plan parts = record {
  missing = first_missing parts;
  main = main_in parts;
  variables = map (variable_of parts) (rooms parts);
  stores = map (λ row. (pointer_to parts row.0, contents_of parts row.0)) (rooms parts);
  constructors = map (λ c. c.1) (constructors parts);
}
