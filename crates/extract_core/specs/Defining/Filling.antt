-- For `initialise_variables` and `define_functions`: declared entries that get their initialisers, targets and bodies.
use Rattle.std.specs.Prelude.{◌≡◌, ℕ, ◌+◌, ◌++◌, List, map, Option, Some, None}
use Rattle.module_arena.specs.Changes.{initialised, targeted, defined}
use Rattle.module_arena.specs.Lists.{Lists}
use Rattle.module_arena.specs.Module.{Constant, Block, Variable, Alias, Function, Module}
use Rattle.item_build.specs.Types.Declarations.{without_initialiser}
use Rattle.item_build.specs.Types.Parameters.{without_body}
use Rattle.entry_copy.specs.Copies.{Copies}
use Rattle.entry_copy.specs.Tables.{Tables}
use Rattle.extract_core.specs.declared.fates.fates.Fate.{Fate}
use Rattle.extract_core.specs.Fates.Fates.{variable_as, function_as, made}
use Rattle.extract_core.specs.Declaring.Declaring.{KeepsNames}
use Rattle.extract_core.specs.Declaring.Stages.{same_name, with_variables}
use Rattle.extract_core.specs.Part.FunctionsThere.{with_functions}

-- ---- one entry

-- the variable with that number has this initialiser, where there is one
abbrev pub initialised_by : Module → ℕ → Option Constant → Module
initialised_by m number None = m
initialised_by m number (Some c) = initialised m number c

-- what a variable becomes is initialised under that number, where it is not left out
abbrev pub initialised_as : Module → ℕ → Option Variable → Module
initialised_as m number None = m
initialised_as m number (Some v) = initialised_by m number v.initialiser

-- the function with that number has these blocks, where there are some
abbrev pub defined_by : Module → ℕ → Option (List Block) → Module
defined_by m number None = m
defined_by m number (Some blocks) = defined m number (λ f. blocks)

-- what a function becomes is defined under that number, where it is not left out
abbrev pub defined_as : Module → ℕ → Option Function → Module
defined_as m number None = m
defined_as m number (Some f) = defined_by m number f.body

-- what an alias becomes has its target under that number, where it stays an alias
abbrev pub targeted_as : Module → ℕ → Option Alias → Module
targeted_as m number None = m
targeted_as m number (Some x) = targeted m number x.target

-- the number behind what was made
abbrev pub behind_made : {A : Type 0} → ℕ → Option A → ℕ
behind_made number None = number
behind_made number (Some x) = number + 1

-- the module with these aliases
abbrev pub with_aliases : Module → List Alias → Module
with_aliases m aliases = record m { aliases = aliases }

-- ---- lists that begin with what entries become, none of them defined

-- variables
abbrev pub BeginWithVariables : List Fate → List Variable → List Variable → List Variable → Type 0
BeginWithVariables fates variables rest found = found ≡ map without_initialiser (made variable_as fates variables) ++ rest

-- functions
abbrev pub BeginWithFunctions : List Fate → List Function → List Function → List Function → Type 0
BeginWithFunctions fates functions rest found = found ≡ map without_body (made function_as fates functions) ++ rest

-- ---- what defining them makes of the module

-- what the variables become stands initialised in front, and those behind it stay
abbrev pub InitialisesVariables : List Fate → List Variable → (old new : Module) → Type 0
InitialisesVariables fates variables old new =
    (rest : List Variable) → BeginWithVariables fates variables rest old.variables
    → new ≡ with_variables old (made variable_as fates variables ++ rest)

-- what the functions become stands defined in front, and those behind it stay
abbrev pub DefinesFunctions : List Fate → List Function → (old new : Module) → Type 0
DefinesFunctions fates functions old new =
    (rest : List Function) → BeginWithFunctions fates functions rest old.functions
    → new ≡ with_functions old (made function_as fates functions ++ rest)

-- ---- what stays

-- What is copied to b is copied to c as well, its entries keep their names, and no alias changed.
pub record KeepsCopies (b c : Lists) : Type 0 where
  pub copies : (a : Lists) (t : Tables) → Copies same_name same_name a b t → Copies same_name same_name a c t
  pub names : KeepsNames b c
  pub aliases : c.aliases ≡ b.aliases
