-- For `functions_of_a_checked_module_suit` and `functions_of_a_checked_module_have_values`: what holds of each function of a checked module.
use Rattle.std.specs.Prelude.{◌≡◌, ℕ, List, Some, slice_get}
use Rattle.module_arena.specs.declared.entry.Function.{Function}
use Rattle.module_arena.specs.Known.{IsGood}
use Rattle.module_arena.specs.Lists.{Lists}
use Rattle.module_arena.specs.Valid.{IsValid}
use Rattle.module_arena.specs.View.{module_of}
use Rattle.module_arena.specs.WellFormed.{IsWellFormed}
use Rattle.run_decode.specs.Scopes.Places.{HasValues}
use Rattle.run_decode.specs.Scopes.Scopes.{Framed}
use Rattle.run_decode.specs.Operands.Suits.{AllSuit}

-- a fact that holds of each function of a checked module, wherever the leaves of its parameters and results begin in a frame
abbrev pub OfEachFunction : (Framed → Type 0) → Type 0
OfEachFunction fact =
    (a : Lists) → IsGood a → IsWellFormed (module_of a) → IsValid (module_of a)
    → (id : ℕ) (f : Function) → slice_get a.functions id ≡ Some f → (places : List ℕ) → fact (record { lists = a; function = f; places = places })

-- the parameters and results of each function are values
abbrev pub FunctionsHaveValues : Type 0
FunctionsHaveValues = OfEachFunction (λ s. HasValues s.lists s.function)

-- each function is what decoding asks for
abbrev pub FunctionsSuit : Type 0
FunctionsSuit = OfEachFunction AllSuit
