-- Functions and aliases that are kept or declared are well formed.
use Rattle.std.proofs.Common.{◌≡◌, ℕ, suc, Bool, true, false, List, [], ◌∷◌, ◌++◌, map, filter_map, Some, None, refl, ap, ◌∙◌, subst, bytes_eq, if◌then◌else◌}
use Rattle.std.specs.Prelude.{⊤}
use Rattle.std.specs.List.{list_all}
use Rattle.std.proofs.lemmas.Bool.{and_from, and_parts}
use Rattle.std.proofs.lemmas.Option.{same_Some}
use Rattle.ir_tables.specs.declared.linkage.Linkage.TheVariants.{External}
use Rattle.type_table.specs.Tree.{Tree}
use Rattle.module_arena.specs.Module.{Bytes, Numbered, Parameter, Variable, AliasType, PlainType, FunctionType, Alias, Function, Module}
use Rattle.module_arena.specs.Functions.{variable_names, alias_names, function_names, numbered_parameters}
use Rattle.module_arena.specs.EntryRules.{is_lasting, is_lasting_variable, is_lasting_function, target_suits}
use Rattle.module_arena.specs.Valid.{AllHold, IsValid, alias_demands}
use Rattle.module_arena.specs.WellFormed.{IsWellFormed, is_good_type, is_good_function, is_good_alias, types_of_alias, has_entry}
use Rattle.extract_rules.proofs.OnValid.Lists.{all_units, all_tests, all_tested, all_of_append}
use Rattle.extract_rules.proofs.OnValid.Numbers.{numbers, declared_names}
use Rattle.extract_rules.specs.declared.selection.Selection.{Selection}
use Rattle.extract_rules.specs.Selected.{is_among, keeps_function, keeps_alias}
use Rattle.extract_rules.specs.Extracted.{kept_names, kept_linkage, declared_function, extracted_function, extracted_alias, alias_as_function, declared_aliases, Extracted}
use Rattle.extract_rules.proofs.Among.{any_key}
use Rattle.extract_rules.proofs.OnValid.Functions.{passable_numbered, passable_from}
use Rattle.extract_rules.proofs.OnValid.Kept.{all_filtered, any_front, any_back, any_follow, either}
use Rattle.extract_rules.proofs.OnValid.Stays.{turned, aliases_hold, target_stays}
use Rattle.extract_rules.proofs.OnValid.Gathered.{both_all, made_all}

names_numbered : (k : ℕ) (ts : List Tree) → map (λ (p : Parameter). p.name) (numbered_parameters k ts) ≡ numbers k ts
names_numbered k [] = refl
names_numbered k (t ∷ ts) = ap (λ l. Numbered k ∷ l) (names_numbered (suc k) ts)

module _ (m : Module) (s : Selection) (good : IsWellFormed m) (valid : IsValid m) where
  abbrev n : Module
  n = Extracted m s

  declared_good : (f : Function) → is_good_function m f ≡ true → is_good_function n (declared_function f) ≡ true
  declared_good f h =
      let one = and_parts (is_good_type m.structs f.returns) _ h in
      let two = and_parts (list_all (λ (p : Parameter). is_good_type m.structs p.ty) f.parameters) _ one.1 in
      and_from _ _ one.0 (and_from _ _ (passable_numbered (is_good_type m.structs) f.parameters ∙ two.0)
      (and_from _ _ refl (and_from _ _ (declared_names (declared_function f) (map (λ (p : Parameter). p.ty) f.parameters) refl (names_numbered 0 (map (λ (p : Parameter). p.ty) f.parameters))) refl)))

  alias_function_good : (a : Alias) → is_good_alias m a ≡ true → (g : Function) → alias_as_function a.name a.ty ≡ Some g → is_good_function n g ≡ true
  alias_function_good a h g e = by_type a.ty (and_parts (list_all (is_good_type m.structs) (types_of_alias a.ty)) _ h).0 e
    where
      by_type : (t : AliasType) → list_all (is_good_type m.structs) (types_of_alias t) ≡ true → alias_as_function a.name t ≡ Some g → is_good_function n g ≡ true
      by_type (PlainType t) k e = cc
      by_type (FunctionType signature) k e =
          let x : Function = record { name = a.name; linkage = External; returns = signature.returns; parameters = numbered_parameters 0 signature.parameters; variadic = signature.variadic; body = None } in
          let one = and_parts (is_good_type m.structs signature.returns) _ k in
          subst (λ (y : Function). is_good_function n y ≡ true) (same_Some x g e)
          (and_from _ _ one.0 (and_from _ _ (passable_from (is_good_type m.structs) 0 signature.parameters ∙ one.1)
          (and_from _ _ refl (and_from _ _ (declared_names x signature.parameters refl (names_numbered 0 signature.parameters)) refl))))

  pub functions_good : list_all (is_good_function n) n.functions ≡ true
  functions_good =
      all_tested (is_good_function n) n.functions
      (all_of_append (λ g. is_good_function n g ≡ true) (filter_map (extracted_function m s) m.functions) (filter_map (λ (a : Alias). alias_as_function a.name a.ty) (declared_aliases m s))
      (made_all (λ f. is_good_function m f ≡ true) (extracted_function m s) (λ g. is_good_function n g ≡ true)
      (λ f h y e. either (λ (g : Function). is_good_function n g ≡ true) (keeps_function m s f) (is_among (kept_names m s) f.name) (record f { linkage = kept_linkage f.linkage }) (declared_function f) y e (λ k. h) (λ k c. declared_good f h))
      m.functions (all_tests (is_good_function m) m.functions good.functions))
      (made_all (λ a. is_good_alias m a ≡ true) (λ (a : Alias). alias_as_function a.name a.ty) (λ g. is_good_function n g ≡ true) alias_function_good (declared_aliases m s)
      (all_filtered (λ a. is_good_alias m a ≡ true) _ m.aliases (all_tests (is_good_alias m) m.aliases good.aliases))))

  target_named : (t : AliasType) (name : Bytes) → target_suits n t name ≡ true → has_entry n name ≡ true
  target_named (PlainType t) name h =
      any_front (bytes_eq name) (variable_names n) (alias_names n ++ function_names n)
      (any_key (λ (v : Variable). v.name) (bytes_eq name) n.variables ∙ any_follow (λ v. ⊤) (is_lasting_variable name) (λ (v : Variable). bytes_eq name v.name) n.variables (λ v u e. turned v.name name (and_parts (bytes_eq v.name name) _ e).0) (all_units n.variables) h)
  target_named (FunctionType signature) name h =
      any_back (bytes_eq name) (variable_names n) (alias_names n ++ function_names n) (any_back (bytes_eq name) (alias_names n) (function_names n)
      (any_key (λ (f : Function). f.name) (bytes_eq name) n.functions ∙ any_follow (λ f. ⊤) (is_lasting_function name) (λ (f : Function). bytes_eq name f.name) n.functions (λ f u e. turned f.name name (and_parts (bytes_eq f.name name) _ e).0) (all_units n.functions) h))

  pub aliases_good : list_all (is_good_alias n) n.aliases ≡ true
  aliases_good =
      all_tested (is_good_alias n) n.aliases
      (made_all (λ a. AllHold (alias_demands m a) × (is_good_alias m a ≡ true)) (extracted_alias m s) (λ a. is_good_alias n a ≡ true) (λ a p y e. by a p.0 p.1 (keeps_alias m s a) refl y e) m.aliases
      (both_all (λ a. AllHold (alias_demands m a)) (λ a. is_good_alias m a ≡ true) m.aliases (aliases_hold m s good valid) (all_tests (is_good_alias m) m.aliases good.aliases)))
    where
      by : (a : Alias) → AllHold (alias_demands m a) → is_good_alias m a ≡ true → (b : Bool) → keeps_alias m s a ≡ b → (y : Alias) → (if b then Some (record a { linkage = kept_linkage a.linkage }) else None) ≡ Some y → is_good_alias n y ≡ true
      by a h g false k y e = cc
      by a h g true k y e =
          subst (λ (x : Alias). is_good_alias n x ≡ true) (same_Some (record a { linkage = kept_linkage a.linkage }) y e)
          (and_from _ _ (and_parts (list_all (is_good_type m.structs) (types_of_alias a.ty)) _ g).0
          (target_named a.ty a.target (target_stays m s good valid a.ty a.target k (and_parts (is_lasting a.linkage) _ h.1.1.1.1.1.0).1)))
