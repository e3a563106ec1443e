-- What is declared of a function is what it becomes, without its body.
use Rattle.std.proofs.Common.{◌≡◌, [], ◌∷◌, map, None, refl}
use Rattle.std.specs.Prelude.{option_to_list}
use Rattle.module_arena.specs.Module.{Function}
use Rattle.item_build.specs.Types.Parameters.{without_body}
use Rattle.extract_core.specs.declared.fates.fates.Fate.{Fate}
use Rattle.extract_core.specs.declared.fates.fates.Fate.TheVariants.{Kept, Declared, LeftOut}
use Rattle.extract_core.specs.Fates.Fates.{function_as, function_linkage, parameters_as}

-- a function as it is declared by this fate
abbrev pub function_declared : Fate → Function → Function
function_declared fate f = record f { linkage = function_linkage fate f.linkage; parameters = parameters_as fate f.parameters; body = None }

pub function_becomes : (fate : Fate) (f : Function) → (fate ≡ LeftOut → ⊥) → function_declared fate f ∷ [] ≡ map without_body (option_to_list (function_as fate f))
function_becomes Kept f there = refl
function_becomes Declared f there = refl
function_becomes LeftOut f there = absurd (there refl)
