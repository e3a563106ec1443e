-- For `set_initialisers`, `set_targets` and `set_bodies`: what entries hold then.
use Rattle.std.specs.Prelude.{◌≡◌, ◌<◌, ℕ, Bool, true, false, List, [], ◌∷◌, length, All, ⊤, Option, Some, None, option_to_list}
use Rattle.module_arena.specs.declared.entry.Alias as the_alias
use Rattle.module_arena.specs.declared.entry.Body.{Body}
use Rattle.module_arena.specs.declared.entry.Function as the_function
use Rattle.module_arena.specs.declared.entry.GlobalId.{GlobalId}
use Rattle.module_arena.specs.declared.entry.Variable as the_variable
use Rattle.module_arena.specs.Changes.{with_body}
use Rattle.module_arena.specs.Known.{HasGlobal, KnowsBody, counts}
use Rattle.module_arena.specs.Lists.{Lists}

-- ---- what is asked

-- no variable holds anything yet
abbrev pub AreUnset : Lists → Type 0
AreUnset a = All (λ (v : the_variable.Variable). v.initialiser ≡ None) a.variables

-- no alias does
abbrev pub AreUntargeted : Lists → Type 0
AreUntargeted a = All (λ (x : the_alias.Alias). x.target ≡ None) a.aliases

-- no function does
abbrev pub AreUndefined : Lists → Type 0
AreUndefined a = All (λ (f : the_function.Function). f.body ≡ None) a.functions

-- each constant is one of the arena
abbrev pub HasConstants : Lists → List (Option ℕ) → Type 0
HasConstants a all = All (λ o. All (λ id. id < length a.constants) (option_to_list o)) all

-- each target is an entry of the arena
abbrev pub HasTargets : Lists → List (Option GlobalId) → Type 0
HasTargets a all = All (λ o. All (HasGlobal (counts a)) (option_to_list o)) all

-- there is a body for each function that is to be defined, and it suits its parameters
abbrev pub Suits : ℕ → ℕ → List the_function.Function → List Bool → List Body → Type 0
Suits types constants fs [] bodies = bodies ≡ []
Suits types constants [] (d ∷ ds) bodies = ⊥
Suits types constants (f ∷ fs) (false ∷ ds) bodies = Suits types constants fs ds bodies
Suits types constants (f ∷ fs) (true ∷ ds) [] = ⊥
Suits types constants (f ∷ fs) (true ∷ ds) (b ∷ bodies) = KnowsBody types constants (length f.parameters) b × Suits types constants fs ds bodies

-- ---- the lists

-- the first of these with what each is given; those behind them stay
abbrev pub each_with : {A B : Type 0} → (A → Option B → A) → List A → List (Option B) → List A
each_with put xs [] = xs
each_with put [] (o ∷ os) = []
each_with put (x ∷ xs) (o ∷ os) = put x o ∷ each_with put xs os

-- variables with these initialisers, one each
abbrev pub initialised_by : List the_variable.Variable → List (Option ℕ) → List the_variable.Variable
initialised_by vs os = each_with (λ v o. record v { initialiser = o }) vs os

-- aliases with these targets, one each
abbrev pub targeted_by : List the_alias.Alias → List (Option GlobalId) → List the_alias.Alias
targeted_by xs os = each_with (λ x o. record x { target = o }) xs os

-- functions, of which those that are to be defined have these bodies, in order
abbrev pub defined_by : List the_function.Function → List Bool → List Body → List the_function.Function
defined_by fs [] bodies = fs
defined_by [] (d ∷ ds) bodies = []
defined_by (f ∷ fs) (false ∷ ds) bodies = f ∷ defined_by fs ds bodies
defined_by (f ∷ fs) (true ∷ ds) [] = f ∷ fs
defined_by (f ∷ fs) (true ∷ ds) (b ∷ bodies) = record f { body = Some b } ∷ defined_by fs ds bodies

-- the next body suits a function with so many parameters
abbrev pub NextSuits : ℕ → ℕ → ℕ → List Body → Type 0
NextSuits types constants parameters [] = ⊤
NextSuits types constants parameters (b ∷ bodies) = KnowsBody types constants parameters b

-- the function of that number gets the next body
abbrev pub DefinesNext : Lists → ℕ → List Body → Lists → List Body → Type 0
DefinesNext old number [] new left = (new ≡ old) × (left ≡ [])
DefinesNext old number (b ∷ bodies) new left = (new ≡ with_body old number b) × (left ≡ bodies)
