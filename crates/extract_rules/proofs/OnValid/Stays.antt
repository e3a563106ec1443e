-- What is extracted of a valid module has no intrinsic more, and each target and function that is named.
use Rattle.std.proofs.Common.{◌≡◌, Bool, true, false, not, ◌&&◌, ◌||◌, ◌⊎◌, inl, inr, List, ◌++◌, filter_map, flat_map, Some, None, refl, sym, ap, ◌∙◌, subst, is_some, bytes_eq, if◌then◌else◌}
use Rattle.std.specs.Prelude.{⊤}
use Rattle.std.specs.List.{list_any, AllByRecursion}
use Rattle.std.proofs.lemmas.Bool.{and_from, and_parts, or_cases, both_ways, false_from_ne_true}
use Rattle.std.proofs.lemmas.Option.{same_Some}
use Rattle.std.proofs.lemmas.List.Folds.{list_any-append}
use Rattle.module_arena.specs.Module.{Bytes, Variable, AliasType, PlainType, FunctionType, Alias, Function, Module}
use Rattle.module_arena.specs.EntryRules.{is_llvm_name, has_function, is_only_called, is_lasting_variable, is_lasting_function, target_suits}
use Rattle.module_arena.specs.Valid.{AllHold, IsValid, module_demands, variable_demands, alias_demands, function_demands}
use Rattle.module_arena.specs.WellFormed.{IsWellFormed}
use Rattle.module_arena.proofs.Parts.{front_holds, rest_holds}
use Rattle.extract_rules.proofs.Among.{name_self, name_exact, any_key}
use Rattle.extract_rules.proofs.OnValid.Lists.{all_units}
use Rattle.extract_rules.proofs.OnValid.Plain.{alias_plain}
use Rattle.extract_rules.specs.declared.selection.Selection.{Selection}
use Rattle.extract_rules.specs.Selected.{is_among, keeps, keeps_variable, keeps_function, keeps_alias}
use Rattle.extract_rules.specs.Extracted.{kept_names, kept_linkage, declared_variable, declared_function, extracted_variable, extracted_function, alias_as_variable, alias_as_function, declared_aliases, Extracted}
use Rattle.extract_rules.proofs.OnValid.Bodies.{NoMore}
use Rattle.extract_rules.proofs.OnValid.Functions.{kept_lasting}
use Rattle.extract_rules.proofs.OnValid.Kept.{all_held, all_filtered, made_any, from_made, any_front, never, either}

pub turned : (a b : Bytes) → bytes_eq a b ≡ true → bytes_eq b a ≡ true
turned a b e = subst (λ z. bytes_eq b z ≡ true) (sym (name_exact a b e)) (name_self b)

module _ (m : Module) (s : Selection) (good : IsWellFormed m) (valid : IsValid m) where
  abbrev n : Module
  n = Extracted m s

  pub variables_hold : AllByRecursion (λ v. AllHold (variable_demands m v)) m.variables
  variables_hold = all_held (variable_demands m) m.variables (front_holds (flat_map (variable_demands m) m.variables) _ (rest_holds (module_demands m) _ valid))

  pub aliases_hold : AllByRecursion (λ a. AllHold (alias_demands m a)) m.aliases
  aliases_hold = all_held (alias_demands m) m.aliases (front_holds (flat_map (alias_demands m) m.aliases) _ (rest_holds (flat_map (variable_demands m) m.variables) _ (rest_holds (module_demands m) _ valid)))

  pub functions_hold : AllByRecursion (λ f. AllHold (function_demands m f)) m.functions
  functions_hold = all_held (function_demands m) m.functions (rest_holds (flat_map (alias_demands m) m.aliases) _ (rest_holds (flat_map (variable_demands m) m.variables) _ (rest_holds (module_demands m) _ valid)))

  abbrev calls : Bytes → Function → Bool
  calls name f = bytes_eq name f.name

  abbrev kept_functions : List Function
  kept_functions = filter_map (extracted_function m s) m.functions

  abbrev alias_functions : List Function
  alias_functions = filter_map (λ (a : Alias). alias_as_function a.name a.ty) (declared_aliases m s)

  has_it : (name : Bytes) → has_function n name ≡ (list_any (calls name) kept_functions || list_any (calls name) alias_functions)
  has_it name = any_key (λ (f : Function). f.name) (bytes_eq name) (kept_functions ++ alias_functions) ∙ list_any-append (calls name) kept_functions alias_functions

  -- NO INTRINSIC MORE

  was_kept : (name : Bytes) → list_any (calls name) kept_functions ≡ true → has_function m name ≡ true
  was_kept name h =
      any_key (λ (f : Function). f.name) (bytes_eq name) m.functions
      ∙ from_made (λ f. ⊤) (extracted_function m s) (calls name) (calls name)
      (λ f u g e q. either (λ (y : Function). bytes_eq name y.name ≡ true → bytes_eq name f.name ≡ true) (keeps_function m s f) (is_among (kept_names m s) f.name) (record f { linkage = kept_linkage f.linkage }) (declared_function f) g e (λ b h. h) (λ b c h. h) q)
      m.functions (all_units m.functions) h

  was_alias : (name : Bytes) → is_llvm_name name ≡ true → list_any (calls name) alias_functions ≡ true → ⊥
  was_alias name llvm h =
      never (λ a. AllHold (alias_demands m a)) (λ (a : Alias). bytes_eq name a.name) (declared_aliases m s)
      (λ a holds e. both_ways _ (alias_plain m a holds) (subst (λ z. is_llvm_name z ≡ true) (name_exact name a.name e) llvm)) held
      (from_made (λ a. AllHold (alias_demands m a)) (λ (a : Alias). alias_as_function a.name a.ty) (λ (a : Alias). bytes_eq name a.name) (calls name) (λ a u g e q. by_type a a.ty g e q) (declared_aliases m s) held h)
    where
      held : AllByRecursion (λ a. AllHold (alias_demands m a)) (declared_aliases m s)
      held = all_filtered (λ a. AllHold (alias_demands m a)) (λ (a : Alias). not (keeps_alias m s a) && is_among (kept_names m s) a.name) m.aliases aliases_hold

      by_type : (a : Alias) (t : AliasType) (g : Function) → alias_as_function a.name t ≡ Some g → bytes_eq name g.name ≡ true → bytes_eq name a.name ≡ true
      by_type a (PlainType t) g e q = cc
      by_type a (FunctionType signature) g e q = subst (λ (y : Function). bytes_eq name y.name ≡ true → bytes_eq name a.name ≡ true) (same_Some _ g e) (λ h. h) q

  pub no_more : NoMore m n
  no_more name h = go (is_llvm_name name) refl h
    where
      go : (b : Bool) → is_llvm_name name ≡ b → (b && has_function m name) ≡ false → is_only_called n name ≡ false
      go false e h = ap (λ b. b && has_function n name) e
      go true e h = ap (λ b. b && has_function n name) e ∙ false_from_ne_true _ (λ t. which (or_cases (list_any (calls name) kept_functions) _ (sym (has_it name) ∙ t)))
        where
          which : (list_any (calls name) kept_functions ≡ true) ⊎ (list_any (calls name) alias_functions ≡ true) → ⊥
          which (inl k) = both_ways _ h (was_kept name k)
          which (inr a) = was_alias name e a

  -- TARGETS

  variable_there : (name : Bytes) → keeps m s name ≡ true → (v : Variable) → is_lasting_variable name v ≡ true → (w : Variable) × (extracted_variable m s v ≡ Some w) × (is_lasting_variable name w ≡ true)
  variable_there name keep v e =
      let one = and_parts (bytes_eq v.name name) _ e in
      let two = and_parts (is_some v.initialiser) _ one.1 in
      let kept : keeps_variable m s v ≡ true = and_from _ _ two.0 (subst (λ z. keeps m s z ≡ true) (sym (name_exact v.name name one.0)) keep) in (
        record v { linkage = kept_linkage v.linkage },
        ap (λ b. if b then Some (record v { linkage = kept_linkage v.linkage }) else (if is_among (kept_names m s) v.name then Some (declared_variable v.linkage v) else None)) kept,
        and_from _ _ one.0 (and_from _ _ two.0 (kept_lasting v.linkage two.1)),
      )

  function_there : (name : Bytes) → keeps m s name ≡ true → (f : Function) → is_lasting_function name f ≡ true → (g : Function) × (extracted_function m s f ≡ Some g) × (is_lasting_function name g ≡ true)
  function_there name keep f e =
      let one = and_parts (bytes_eq f.name name) _ e in
      let two = and_parts (is_some f.body) _ one.1 in
      let kept : keeps_function m s f ≡ true = and_from _ _ two.0 (subst (λ z. keeps m s z ≡ true) (sym (name_exact f.name name one.0)) keep) in (
        record f { linkage = kept_linkage f.linkage },
        ap (λ b. if b then Some (record f { linkage = kept_linkage f.linkage }) else (if is_among (kept_names m s) f.name then Some (declared_function f) else None)) kept,
        and_from _ _ one.0 (and_from _ _ two.0 (kept_lasting f.linkage two.1)),
      )

  pub target_stays : (t : AliasType) (name : Bytes) → keeps m s name ≡ true → target_suits m t name ≡ true → target_suits n t name ≡ true
  target_stays (PlainType t) name keep h =
      any_front (is_lasting_variable name) (filter_map (extracted_variable m s) m.variables) (filter_map (λ (a : Alias). alias_as_variable m a.name a.target a.ty) (declared_aliases m s))
      (made_any (λ v. ⊤) (extracted_variable m s) (is_lasting_variable name) (is_lasting_variable name) (λ v u e. variable_there name keep v e) m.variables (all_units m.variables) h)
  target_stays (FunctionType signature) name keep h =
      any_front (is_lasting_function name) kept_functions alias_functions
      (made_any (λ f. ⊤) (extracted_function m s) (is_lasting_function name) (is_lasting_function name) (λ f u e. function_there name keep f e) m.functions (all_units m.functions) h)
