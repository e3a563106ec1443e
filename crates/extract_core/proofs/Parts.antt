-- The part of a module, once what is declared is initialised, defined and targeted.
use Rattle.std.proofs.Common.{◌≡◌, List, [], ◌∷◌, ◌++◌, map, Option, Some, None, refl, sym, subst, ap, ap₂, ◌∙◌}
use Rattle.std.specs.List.{cons_option}
use Rattle.std.proofs.lemmas.List.{map-append}
use Rattle.std.proofs.lemmas.Option.{same_Some}
use Rattle.module_arena.specs.Known.{AreDistinct, IsGood}
use Rattle.module_arena.specs.Lists.{Lists}
use Rattle.module_arena.specs.Module.{PlainType, FunctionType, AliasType, Variable, Alias, Function, Module}
use Rattle.module_arena.specs.Valid.{IsValid}
use Rattle.module_arena.specs.View.{module_of}
use Rattle.module_arena.specs.WellFormed.{IsWellFormed}
use Rattle.item_build.specs.Types.Declarations.{without_initialiser, without_target}
use Rattle.item_build.specs.Types.Parameters.{without_body}
use Rattle.entry_copy.specs.Tables.{Tables, with_constants}
use Rattle.extract_rules.specs.declared.selection.Selection.{Selection}
use Rattle.extract_rules.specs.Extracted.{alias_as_variable, alias_as_function}
use Rattle.extract_core.specs.declared.fates.fates.Fate.{Fate}
use Rattle.extract_core.specs.declared.fates.fates.Fate.TheVariants.{Kept, Declared, LeftOut}
use Rattle.extract_core.specs.declared.fates.fates.Fates.{Fates}
use Rattle.extract_core.specs.Fates.Fates.{AreFates, variable_as, function_as, alias_as, alias_variable_as, alias_function_as, made, part_by}
use Rattle.extract_core.specs.Declaring.Stages.{with_variables}
use Rattle.extract_core.specs.Part.FunctionsThere.{with_functions}
use Rattle.extract_core.specs.Entries.NewIds.{HaveNewIds}
use Rattle.extract_core.specs.Entries.Stages.{declared_by}
use Rattle.extract_core.specs.Defining.Filling.{BeginWithVariables, BeginWithFunctions, with_aliases}
use Rattle.extract_core.specs.Naming.{NamesAreThere}
use Rattle.extract_core.proofs.KeptNames.{variable_named, function_named}
use Rattle.extract_core.proofs.Targets.{alias_named}

-- ---- what aliases become is whole as it is declared

variable_whole : (M : Module) (fate : Fate) (x : Alias) (v : Variable) → alias_variable_as M fate x ≡ Some v → without_initialiser v ≡ v
variable_whole M Kept x v e = cc
variable_whole M LeftOut x v e = cc
variable_whole M Declared x v e = by x.ty e
  where
    by : (ty : AliasType) → alias_as_variable M x.name x.target ty ≡ Some v → without_initialiser v ≡ v
    by (PlainType t) is = subst (λ (u : Variable). without_initialiser u ≡ u) (same_Some _ v is) refl
    by (FunctionType signature) is = cc

function_whole : (fate : Fate) (x : Alias) (f : Function) → alias_function_as fate x ≡ Some f → without_body f ≡ f
function_whole Kept x f e = cc
function_whole LeftOut x f e = cc
function_whole Declared x f e = by x.ty e
  where
    by : (ty : AliasType) → alias_as_function x.name ty ≡ Some f → without_body f ≡ f
    by (PlainType t) is = cc
    by (FunctionType signature) is = subst (λ (u : Function). without_body u ≡ u) (same_Some _ f is) refl

all_whole : {A B : Type 0} (become : Fate → A → Option B) (declare : B → B) → ((fate : Fate) (x : A) (y : B) → become fate x ≡ Some y → declare y ≡ y) → (fates : List Fate) (xs : List A)
    → map declare (made become fates xs) ≡ made become fates xs
all_whole become declare whole [] xs = refl
all_whole become declare whole (f ∷ fates) [] = refl
all_whole {B = B} become declare whole (f ∷ fates) (x ∷ xs) = go (become f x) (λ y e. whole f x y e) (all_whole become declare whole fates xs)
  where
    go : (o : Option B) → ((y : B) → o ≡ Some y → declare y ≡ y) → map declare (made become fates xs) ≡ made become fates xs → map declare (cons_option o (made become fates xs)) ≡ cons_option o (made become fates xs)
    go None one more = more
    go (Some y) one more = ap₂ (λ z l. z ∷ l) (one y refl) more

-- ---- the three steps

module _ (M : Module) (fates : Fates) where
  abbrev pub variables_behind : List Variable
  variables_behind = map without_initialiser (made (alias_variable_as M) fates.aliases M.aliases)

  abbrev pub functions_behind : List Function
  functions_behind = map without_body (made alias_function_as fates.aliases M.aliases)

  module _ (m : Module) (declared : m ≡ declared_by M fates) where
    pub variables_begin : BeginWithVariables fates.variables M.variables variables_behind m.variables
    variables_begin = ap (λ (x : Module). x.variables) declared ∙ map-append without_initialiser (made variable_as fates.variables M.variables) (made (alias_variable_as M) fates.aliases M.aliases)

    functions_begin : BeginWithFunctions fates.functions M.functions functions_behind m.functions
    functions_begin = ap (λ (x : Module). x.functions) declared ∙ map-append without_body (made function_as fates.functions M.functions) (made alias_function_as fates.aliases M.aliases)

    -- behind the first step
    module _ (m1 : Module) (one : m1 ≡ with_variables m (made variable_as fates.variables M.variables ++ variables_behind)) where
      pub functions_begin_then : BeginWithFunctions fates.functions M.functions functions_behind m1.functions
      functions_begin_then = ap (λ (x : Module). x.functions) one ∙ functions_begin

      -- behind the second
      module _ (m2 : Module) (two : m2 ≡ with_functions m1 (made function_as fates.functions M.functions ++ functions_behind)) where
        pub aliases_declared : m2.aliases ≡ map without_target (made alias_as fates.aliases M.aliases)
        aliases_declared = ap (λ (x : Module). x.aliases) two ∙ ap (λ (x : Module). x.aliases) one ∙ ap (λ (x : Module). x.aliases) declared

        -- behind the third
        pub part_made : (m3 : Module) → m3 ≡ with_aliases m2 (made alias_as fates.aliases M.aliases) → m3 ≡ part_by M fates
        part_made m3 three =
            let vs = made variable_as fates.variables M.variables in
            let fs = made function_as fates.functions M.functions in
            let xs = made alias_as fates.aliases M.aliases in
            let vw = all_whole (alias_variable_as M) without_initialiser (variable_whole M) fates.aliases M.aliases in
            let fw = all_whole alias_function_as without_body function_whole fates.aliases M.aliases in
            three
            ∙ ap (λ (x : Module). with_aliases x xs) two
            ∙ ap (λ (x : Module). with_aliases (with_functions x (fs ++ functions_behind)) xs) one
            ∙ ap (λ (x : Module). with_aliases (with_functions (with_variables x (vs ++ variables_behind)) (fs ++ functions_behind)) xs) declared
            ∙ (λ i. record M { variables = vs ++ vw i; aliases = xs; functions = fs ++ fw i })

-- ---- names

pub names_there : (a : Lists) (s : Selection) → IsWellFormed (module_of a) → IsValid (module_of a) → AreDistinct a → IsGood a → (fates : Fates) → AreFates (module_of a) s fates
    → (b : Lists) (t : Tables) → HaveNewIds a fates b t → NamesAreThere a fates t
names_there a s formed valid distinct good fates are b t ids = record {
  variables = variable_named a s fates are b t ids;
  functions = function_named a s fates are b t ids;
  targets = alias_named a s formed valid distinct fates are b t ids good;
}

-- new ids of constants change none of entries
pub more_constants_ids : (a : Lists) (fates : Fates) (b : Lists) (t u : Tables) → u ≡ with_constants t u.constants → HaveNewIds a fates b t → HaveNewIds a fates b u
more_constants_ids a fates b t u more h =
    subst (HaveNewIds a fates b) (sym more) (record { variables = h.variables; functions = h.functions; aliases = h.aliases })
