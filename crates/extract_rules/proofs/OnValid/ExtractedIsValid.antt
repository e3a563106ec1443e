-- What is extracted of a valid module is valid.
use Rattle.std.proofs.Common.{◌≡◌, Bool, true, false, List, [], ◌∷◌, ◌++◌, filter, filter_map, flat_map, Some, None, refl, subst, bytes_eq, if◌then◌else◌}
use Rattle.std.specs.List.{AllByRecursion}
use Rattle.module_arena.specs.Module.{Bytes, Variable, Alias, Function, Module}
use Rattle.module_arena.specs.UsedNames.{names_in_variable, names_in_function}
use Rattle.module_arena.specs.EntryRules.{is_lasting}
use Rattle.module_arena.specs.Valid.{Demand, AllHold, IsValid, module_demands, variable_demands, alias_demands, function_demands}
use Rattle.module_arena.specs.WellFormed.{IsWellFormed}
use Rattle.module_arena.proofs.Parts.{front_holds, rest_holds, both_hold}
use Rattle.std.proofs.lemmas.Bool.{and_parts}
use Rattle.std.proofs.lemmas.Option.{same_Some}
use Rattle.extract_rules.specs.Valid.Laws.{ExtractedIsValid}
use Rattle.extract_rules.specs.declared.selection.Selection.{Selection}
use Rattle.extract_rules.specs.Selected.{is_among, keeps_variable, keeps_function, keeps_alias}
use Rattle.extract_rules.specs.Extracted.{kept_names, kept_linkage, declared_variable, declared_function, extracted_variable, extracted_function, extracted_alias, alias_as_variable, alias_as_function, declared_aliases, Extracted}
use Rattle.extract_rules.proofs.Closure.{all_follow}
use Rattle.extract_rules.proofs.OnValid.Functions.{function_kept, function_declared, alias_function}
use Rattle.extract_rules.proofs.OnValid.Variables.{variable_kept, variable_declared, alias_variable, alias_kept}
use Rattle.extract_rules.proofs.OnValid.Kept.{all_filtered, made_hold, any_front, either}
use Rattle.extract_rules.proofs.OnValid.Stays.{variables_hold, aliases_hold, functions_hold, no_more, target_stays}
use Rattle.extract_rules.proofs.OnValid.Constructors.{list_stays}
use Rattle.extract_rules.proofs.OnValid.Gathered.{gathered, both_all}

appended_hold : {X : Type 0} (g : X → List Demand) (xs ys : List X) → AllHold (flat_map g xs) → AllHold (flat_map g ys) → AllHold (flat_map g (xs ++ ys))
appended_hold g [] ys h k = k
appended_hold g (x ∷ xs) ys h k = both_hold (g x) _ (front_holds (g x) _ h) (appended_hold g xs ys (rest_holds (g x) _ h) k)

module _ (m : Module) (s : Selection) (good : IsWellFormed m) (valid : IsValid m) where
  abbrev n : Module
  n = Extracted m s

  abbrev vs : List Variable
  vs = n.variables

  abbrev as_ : List Alias
  as_ = n.aliases

  abbrev fs : List Function
  fs = n.functions

  abbrev Named : Variable → Type 0
  Named v = keeps_variable m s v ≡ true → (name : Bytes) → is_among (names_in_variable v) name ≡ true → is_among (kept_names m s) name ≡ true

  all_named : AllByRecursion Named m.variables
  all_named =
      all_follow (λ v. keeps_variable m s v ≡ true → (name : Bytes) → is_among (names_in_variable v) name ≡ true → is_among (flat_map names_in_variable (filter (keeps_variable m s) m.variables)) name ≡ true) Named m.variables
      (λ v p t name h. any_front (bytes_eq name) (flat_map names_in_variable (filter (keeps_variable m s) m.variables)) (flat_map names_in_function (filter (keeps_function m s) m.functions)) (p t name h))
      (gathered (keeps_variable m s) names_in_variable m.variables)

  alias_declared : AllByRecursion (λ a. AllHold (alias_demands m a)) (declared_aliases m s)
  alias_declared = all_filtered (λ a. AllHold (alias_demands m a)) _ m.aliases (aliases_hold m s good valid)

  variables : AllHold (flat_map (variable_demands n) n.variables)
  variables =
      appended_hold (variable_demands n) (filter_map (extracted_variable m s) m.variables) (filter_map (λ (a : Alias). alias_as_variable m a.name a.target a.ty) (declared_aliases m s))
      (made_hold (λ v. AllHold (variable_demands m v) × Named v) (extracted_variable m s) (variable_demands n)
      (λ v p y e. either (λ (w : Variable). AllHold (variable_demands n w)) (keeps_variable m s v) (is_among (kept_names m s) v.name) (record v { linkage = kept_linkage v.linkage }) (declared_variable v.linkage v) y e
      (λ k. variable_kept m vs as_ fs (no_more m s good valid) v (list_stays m s good valid v.initialiser (p.1 k)) p.0)
      (λ k c. variable_declared m vs as_ fs v p.0))
      m.variables (both_all (λ v. AllHold (variable_demands m v)) Named m.variables (variables_hold m s good valid) all_named))
      (made_hold (λ a. AllHold (alias_demands m a)) (λ (a : Alias). alias_as_variable m a.name a.target a.ty) (variable_demands n) (λ a h w e. alias_variable m vs as_ fs a w e h) (declared_aliases m s) alias_declared)

  functions : AllHold (flat_map (function_demands n) n.functions)
  functions =
      appended_hold (function_demands n) (filter_map (extracted_function m s) m.functions) (filter_map (λ (a : Alias). alias_as_function a.name a.ty) (declared_aliases m s))
      (made_hold (λ f. AllHold (function_demands m f)) (extracted_function m s) (function_demands n)
      (λ f h y e. either (λ (g : Function). AllHold (function_demands n g)) (keeps_function m s f) (is_among (kept_names m s) f.name) (record f { linkage = kept_linkage f.linkage }) (declared_function f) y e
      (λ k. function_kept m vs as_ fs (no_more m s good valid) f h)
      (λ k c. function_declared m vs as_ fs f h))
      m.functions (functions_hold m s good valid))
      (made_hold (λ a. AllHold (alias_demands m a)) (λ (a : Alias). alias_as_function a.name a.ty) (function_demands n) (λ a h g e. alias_function m vs as_ fs a g e h) (declared_aliases m s) alias_declared)

  aliases : AllHold (flat_map (alias_demands n) n.aliases)
  aliases = made_hold (λ a. AllHold (alias_demands m a)) (extracted_alias m s) (alias_demands n) each m.aliases (aliases_hold m s good valid)
    where
      by : (a : Alias) → AllHold (alias_demands m a) → (b : Bool) → keeps_alias m s a ≡ b → (y : Alias) → (if b then Some (record a { linkage = kept_linkage a.linkage }) else None) ≡ Some y → AllHold (alias_demands n y)
      by a h false k y e = cc
      by a h true k y e =
          subst (λ (x : Alias). AllHold (alias_demands n x)) (same_Some (record a { linkage = kept_linkage a.linkage }) y e)
          (alias_kept m vs as_ fs (no_more m s good valid) a (target_stays m s good valid a.ty a.target k (and_parts (is_lasting a.linkage) _ h.1.1.1.1.1.0).1) h)

      each : (a : Alias) → AllHold (alias_demands m a) → (y : Alias) → extracted_alias m s a ≡ Some y → AllHold (alias_demands n y)
      each a h y e = by a h (keeps_alias m s a) refl y e

  extracted_valid : IsValid n
  extracted_valid =
      both_hold (module_demands n) _ (front_holds (module_demands m) _ valid)
      (both_hold (flat_map (variable_demands n) n.variables) _ variables
      (both_hold (flat_map (alias_demands n) n.aliases) _ aliases functions))

pub extract_is_valid : ExtractedIsValid
extract_is_valid m s good valid = extracted_valid m s good valid
