-- Says how the code reads: what a function itself is asked for, without its blocks.
use Rattle.std.specs.Prelude.{ℕ, Bool, not, List, [], ◌∷◌, is_some}
use Rattle.module_arena.specs.EntryRules.{linkage_suits, is_common, is_appending, function_name_suits, function_types_suit}
use Rattle.module_arena.specs.Module.{Function, Module}
use Rattle.module_arena.specs.Valid.{Demand, Global, Test}

-- a test that a function is asked to pass
abbrev ask : Function → ℕ → Bool → Demand
ask f rule passes = record { entity = Global f.name; rule = rule; fact = Test passes }

-- what a function itself is asked for, without its blocks
abbrev pub head_demands : Module → Function → List Demand
head_demands m f =
    ask f 2 (linkage_suits (is_some f.body) f.linkage)
    ∷ ask f 3 (not (is_common f.linkage))
    ∷ ask f 4 (not (is_appending f.linkage))
    ∷ ask f 5 (function_name_suits f)
    ∷ ask f 6 (function_types_suit m.structs f)
    ∷ []
