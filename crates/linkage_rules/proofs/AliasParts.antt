-- Parts with aliases that are linked in examples.
use Rattle.std.specs.Prelude.{ℕ, [], ◌∷◌, codes, Some, None}
use Prim.Native.String.{String}
use Rattle.ir_tables.specs.declared.linkage.Linkage.{Linkage}
use Rattle.ir_tables.specs.declared.linkage.Linkage.TheVariants.{External, Internal, Private, Weak}
use Rattle.type_table.specs.Tree.{ptr}
use Rattle.module_arena.specs.Module.{Integer, Address, Store, Load, Return, Variable, AliasType, PlainType, Function, Module}
use Rattle.module_arena.specs.Write.{i32, result, number, at, typed, gives, does, block, variable, function, just, alias, type_of_function, module_of}
use Rattle.linkage_rules.proofs.RowParts.{returns_call}

-- a variable, written by its other name
abbrev pub writes_alias : Function
writes_alias = function External i32 "main" [] (Some (block 0
    (does (Store 0 (typed i32 (number 6)) (typed ptr (at "y")) None) ∷ gives 1 (Load 0 i32 (typed ptr (at "x")) None) ∷ [])
    (Return (typed i32 (result 1))) ∷ []))

abbrev pub two_names : Module
two_names = record (module_of [] (variable External "x" i32 (Some (Integer 5)) ∷ []) (writes_alias ∷ [])) {
  aliases = alias External "y" (PlainType i32) "x" ∷ [];
}

-- an alias of a function that returns a number
abbrev pub returns_i32 : AliasType
returns_i32 = type_of_function i32 []

abbrev pub other_name : Linkage → String → Linkage → String → ℕ → Module
other_name linkage name of target n = record (module_of [] [] (function of i32 target [] (just n) ∷ [])) { aliases = alias linkage name returns_i32 target ∷ [] }

-- a weak function, and the alias that takes its place
abbrev pub weak_g : Module
weak_g = module_of [] [] (function Weak i32 "g" [] (just 1) ∷ returns_call "main" "g" ∷ [])

abbrev pub alias_g : Module
alias_g = other_name External "g" External "f" 2

-- variables that hold the addresses of names
abbrev pub holds : String → String → Variable
holds name other = variable External name ptr (Some (Address (codes other)))

-- a local variable that other parts know by its alias alone
abbrev pub hides_x : Module
hides_x = record (module_of [] (variable Internal "x" i32 (Some (Integer 3)) ∷ holds "p" "z" ∷ []) []) {
  aliases = alias External "y" (PlainType i32) "x" ∷ alias Internal "z" (PlainType i32) "x" ∷ [];
}

-- another part's own names
abbrev pub knows_y : Module
knows_y = record (module_of [] (variable External "y" i32 None ∷ variable Private "z" i32 (Some (Integer 4)) ∷ variable Internal "x" i32 (Some (Integer 5)) ∷ holds "q" "z" ∷ []) []) {
  aliases = alias Private "w" (PlainType i32) "x" ∷ [];
}
