-- Each function that is named by what is kept is there, so that lists of constructors stay such lists.
use Rattle.std.proofs.Common.{◌≡◌, Bool, true, false, not, ◌&&◌, ◌||◌, ◌⊎◌, inl, inr, List, [], ◌++◌, filter_map, Option, Some, None, refl, sym, ap, ◌∙◌, subst, bytes_eq, if◌then◌else◌}
use Rattle.std.specs.Prelude.{⊤}
use Rattle.std.specs.List.{list_any, list_all}
use Rattle.std.specs.Option.{option_map_or}
use Rattle.std.proofs.lemmas.Bool.{and_from, and_parts, or_left, or_right, or_cases, both_ways, false≢true}
use Rattle.module_arena.specs.Module.{Bytes, Constant, Constants, Variable, AliasType, PlainType, FunctionType, Alias, Function, Module}
use Rattle.module_arena.specs.Module.Brackets.{Braces}
use Rattle.module_arena.specs.Module.Constant.{Integer, Truth, Null, Undef, Poison, ZeroInitializer, Address, ByteString, Aggregate, ElementAddress, Cast, Binary}
use Rattle.module_arena.specs.Module.Constants.{no_constants, more_constants}
use Rattle.module_arena.specs.Same.{same_type}
use Rattle.module_arena.specs.TypeTests.{is_integer_of, is_pointer}
use Rattle.module_arena.specs.Functions.{variable_names, alias_names, function_names}
use Rattle.module_arena.specs.Names.{is_name}
use Rattle.module_arena.specs.UsedNames.{names_in_constant, names_in_constants}
use Rattle.module_arena.specs.EntryRules.{has_function, has_alias_of_function, is_lasting, is_lasting_variable, is_lasting_function, target_suits, constructor_type, is_function_or_null, is_constructor, are_constructors, lists_constructors}
use Rattle.module_arena.specs.Valid.{AllHold, IsValid, alias_demands}
use Rattle.module_arena.specs.WellFormed.{IsWellFormed, global_names}
use Rattle.extract_rules.proofs.Among.{name_self, name_exact, any_key}
use Rattle.extract_rules.proofs.OnValid.Lists.{all_units}
use Rattle.extract_rules.proofs.OnValid.Distinct.{distinct_apart, apart_parts}
use Rattle.extract_rules.specs.declared.selection.Selection.{Selection}
use Rattle.extract_rules.specs.Selected.{is_among, keeps_function, keeps_alias}
use Rattle.extract_rules.specs.Extracted.{kept_names, kept_linkage, declared_function, extracted_function, extracted_alias, alias_as_function, declared_aliases, Extracted}
use Rattle.extract_rules.proofs.OnValid.Kept.{all_filtered, made_any, any_front, any_back, any_follow, never}
use Rattle.extract_rules.proofs.OnValid.Stays.{turned, aliases_hold, target_stays}
use Rattle.extract_rules.proofs.OnValid.Gathered.{any_filtered, any_split}

module _ (m : Module) (s : Selection) (good : IsWellFormed m) (valid : IsValid m) where
  abbrev n : Module
  n = Extracted m s

  abbrev calls : Bytes → Function → Bool
  calls name f = bytes_eq name f.name

  abbrev kept_functions : List Function
  kept_functions = filter_map (extracted_function m s) m.functions

  abbrev alias_functions : List Function
  alias_functions = filter_map (λ (a : Alias). alias_as_function a.name a.ty) (declared_aliases m s)

  -- no variable and no function have one name
  not_both : (name : Bytes) → list_any (is_lasting_variable name) m.variables ≡ true → has_function m name ≡ true → ⊥
  not_both name v f =
      never (λ x. list_any (bytes_eq x) (alias_names m ++ function_names m) ≡ false) (bytes_eq name) (variable_names m)
      (λ x none e. both_ways _ none (subst (λ z. list_any (bytes_eq z) (alias_names m ++ function_names m) ≡ true) (name_exact name x e) (any_back (bytes_eq name) (alias_names m) (function_names m) f)))
      (apart_parts (variable_names m) (alias_names m ++ function_names m) (distinct_apart (global_names m) (and_parts (list_all is_name (global_names m)) _ good.global_names).1)).1.1
      (any_key (λ (w : Variable). w.name) (bytes_eq name) m.variables
      ∙ any_follow (λ w. ⊤) (is_lasting_variable name) (λ (w : Variable). bytes_eq name w.name) m.variables (λ w u e. turned w.name name (and_parts (bytes_eq w.name name) _ e).0) (all_units m.variables) v)

  function_stays : (name : Bytes) → is_among (kept_names m s) name ≡ true → has_function m name ≡ true → has_function n name ≡ true
  function_stays name among h =
      any_key (λ (f : Function). f.name) (bytes_eq name) (kept_functions ++ alias_functions)
      ∙ any_front (calls name) kept_functions alias_functions
      (made_any (λ f. ⊤) (extracted_function m s) (calls name) (calls name) (λ f u e. each f e (keeps_function m s f) refl) m.functions (all_units m.functions)
      (sym (any_key (λ (f : Function). f.name) (bytes_eq name) m.functions) ∙ h))
    where
      each : (f : Function) → calls name f ≡ true → (b : Bool) → keeps_function m s f ≡ b → (g : Function) × (extracted_function m s f ≡ Some g) × (calls name g ≡ true)
      each f e true k = (
        record f { linkage = kept_linkage f.linkage },
        ap (λ b. if b then Some (record f { linkage = kept_linkage f.linkage }) else (if is_among (kept_names m s) f.name then Some (declared_function f) else None)) k,
        e,
      )
      each f e false k = (
        declared_function f,
        ap (λ b. if b then Some (record f { linkage = kept_linkage f.linkage }) else (if is_among (kept_names m s) f.name then Some (declared_function f) else None)) k
            ∙ ap (λ c. if c then Some (declared_function f) else None) (subst (λ z. is_among (kept_names m s) z ≡ true) (name_exact name f.name e) among),
        e,
      )

  target_there : (a : Alias) → AllHold (alias_demands m a) → has_function m a.target ≡ true → keeps_alias m s a ≡ true → has_function n a.target ≡ true
  target_there a holds has k = by_type a.ty (and_parts (is_lasting a.linkage) _ holds.1.1.1.1.1.0).1
    where
      by_type : (t : AliasType) → target_suits m t a.target ≡ true → has_function n a.target ≡ true
      by_type (PlainType t) h = absurd (not_both a.target h has)
      by_type (FunctionType signature) h =
          any_key (λ (f : Function). f.name) (bytes_eq a.target) (kept_functions ++ alias_functions)
          ∙ any_follow (λ f. ⊤) (is_lasting_function a.target) (calls a.target) (kept_functions ++ alias_functions) (λ f u e. turned f.name a.target (and_parts (bytes_eq f.name a.target) _ e).0) (all_units (kept_functions ++ alias_functions))
          (target_stays m s good valid (FunctionType signature) a.target k h)

  abbrev names_it : Bytes → Alias → Bool
  names_it name a = bytes_eq a.name name && has_function m a.target

  alias_stays : (name : Bytes) → is_among (kept_names m s) name ≡ true → has_alias_of_function m name ≡ true → (has_function n name || has_alias_of_function n name) ≡ true
  alias_stays name among h = go (any_split (names_it name) (keeps_alias m s) m.aliases h)
    where
      kept : (a : Alias) → AllHold (alias_demands m a) → (names_it name a && keeps_alias m s a) ≡ true → (b : Alias) × (extracted_alias m s a ≡ Some b) × ((bytes_eq b.name name && has_function n b.target) ≡ true)
      kept a holds e =
          let one = and_parts (names_it name a) _ e in
          let two = and_parts (bytes_eq a.name name) _ one.0 in
          (record a { linkage = kept_linkage a.linkage }, ap (λ b. if b then Some (record a { linkage = kept_linkage a.linkage }) else None) one.1, and_from _ _ two.0 (target_there a holds two.1 one.1))

      chosen_so : (a : Alias) → (names_it name a && not (keeps_alias m s a)) ≡ true → (not (keeps_alias m s a) && is_among (kept_names m s) a.name) ≡ true
      chosen_so a e =
          let one = and_parts (names_it name a) _ e in
          let two = and_parts (bytes_eq a.name name) _ one.0 in
          and_from _ _ one.1 (subst (λ z. is_among (kept_names m s) z ≡ true) (sym (name_exact a.name name two.0)) among)

      declared : (a : Alias) → AllHold (alias_demands m a) → (names_it name a && not (keeps_alias m s a)) ≡ true → (g : Function) × (alias_as_function a.name a.ty ≡ Some g) × (calls name g ≡ true)
      declared a holds e = by_type a.ty (and_parts (is_lasting a.linkage) _ holds.1.1.1.1.1.0).1
        where
          one : (names_it name a ≡ true) × (not (keeps_alias m s a) ≡ true)
          one = and_parts (names_it name a) _ e

          two : (bytes_eq a.name name ≡ true) × (has_function m a.target ≡ true)
          two = and_parts (bytes_eq a.name name) _ one.0

          by_type : (t : AliasType) → target_suits m t a.target ≡ true → (g : Function) × (alias_as_function a.name t ≡ Some g) × (calls name g ≡ true)
          by_type (PlainType t) h = absurd (not_both a.target h two.1)
          by_type (FunctionType signature) h = (_, refl, turned a.name name two.0)

      go : (list_any (λ a. names_it name a && keeps_alias m s a) m.aliases ≡ true) ⊎ (list_any (λ a. names_it name a && not (keeps_alias m s a)) m.aliases ≡ true) → (has_function n name || has_alias_of_function n name) ≡ true
      go (inl t) = or_right (has_function n name) _ (made_any (λ a. AllHold (alias_demands m a)) (extracted_alias m s) (λ a. names_it name a && keeps_alias m s a) (λ b. bytes_eq b.name name && has_function n b.target) kept m.aliases (aliases_hold m s good valid) t)
      go (inr t) =
          or_left _ _ (any_key (λ (f : Function). f.name) (bytes_eq name) (kept_functions ++ alias_functions) ∙ any_back (calls name) kept_functions alias_functions
          (made_any (λ a. AllHold (alias_demands m a)) (λ (a : Alias). alias_as_function a.name a.ty) (λ a. names_it name a && not (keeps_alias m s a)) (calls name) declared (declared_aliases m s)
          (all_filtered (λ a. AllHold (alias_demands m a)) (λ (a : Alias). not (keeps_alias m s a) && is_among (kept_names m s) a.name) m.aliases (aliases_hold m s good valid))
          (any_filtered (λ a. names_it name a && not (keeps_alias m s a)) (λ (a : Alias). not (keeps_alias m s a) && is_among (kept_names m s) a.name) m.aliases chosen_so t)))

  stays : (name : Bytes) → is_among (kept_names m s) name ≡ true → (has_function m name || has_alias_of_function m name) ≡ true → (has_function n name || has_alias_of_function n name) ≡ true
  stays name among h = go (or_cases (has_function m name) _ h)
    where
      go : (has_function m name ≡ true) ⊎ (has_alias_of_function m name ≡ true) → (has_function n name || has_alias_of_function n name) ≡ true
      go (inl t) = or_left _ _ (function_stays name among t)
      go (inr t) = alias_stays name among t

  -- LISTS OF CONSTRUCTORS

  abbrev AllAmong : List Bytes → Type 0
  AllAmong names = (name : Bytes) → is_among names name ≡ true → is_among (kept_names m s) name ≡ true

  in_front : (xs ys : List Bytes) → AllAmong (xs ++ ys) → AllAmong xs
  in_front xs ys a name h = a name (any_front (bytes_eq name) xs ys h)

  behind_it : (xs ys : List Bytes) → AllAmong (xs ++ ys) → AllAmong ys
  behind_it xs ys a name h = a name (any_back (bytes_eq name) xs ys h)

  function_or_null : (c : Constant) → AllAmong (names_in_constant c) → is_function_or_null m c ≡ true → is_function_or_null n c ≡ true
  function_or_null (Address name) a h = stays name (a name (or_left _ _ (name_self name))) h
  function_or_null Null a h = refl
  function_or_null (Integer k) a h = cc
  function_or_null (Truth truth) a h = cc
  function_or_null Undef a h = cc
  function_or_null Poison a h = cc
  function_or_null ZeroInitializer a h = cc
  function_or_null (ByteString bytes) a h = cc
  function_or_null (Aggregate b cs) a h = cc
  function_or_null (ElementAddress flags source cs) a h = cc
  function_or_null (Cast opcode from value to) a h = cc
  function_or_null (Binary opcode flags l left r right) a h = cc

  constructor_stays : (c : Constant) → AllAmong (names_in_constant c) → is_constructor m c ≡ true → is_constructor n c ≡ true
  constructor_stays (Aggregate Braces (more_constants a (Integer priority) (more_constants b f (more_constants c x no_constants)))) among h =
      let one = and_parts (is_integer_of 32 a) _ h in
      let two = and_parts (is_pointer b) _ one.1 in
      let three = and_parts (is_pointer c) _ two.1 in
      and_from _ _ one.0 (and_from _ _ two.0 (and_from _ _ three.0 (function_or_null f (in_front (names_in_constant f) _ among) three.1)))
  constructor_stays _ among h = absurd (false≢true h)

  constructors_stay : (cs : Constants) → AllAmong (names_in_constants cs) → are_constructors m cs ≡ true → are_constructors n cs ≡ true
  constructors_stay no_constants a h = refl
  constructors_stay (more_constants t c cs) a h =
      let one = and_parts (same_type t constructor_type) _ h in
      let two = and_parts (is_constructor m c) _ one.1 in
      and_from _ _ one.0 (and_from _ _ (constructor_stays c (in_front (names_in_constant c) (names_in_constants cs) a) two.0) (constructors_stay cs (behind_it (names_in_constant c) (names_in_constants cs) a) two.1))

  pub list_stays : (o : Option Constant) → AllAmong (option_map_or names_in_constant o []) → lists_constructors m o ≡ true → lists_constructors n o ≡ true
  list_stays None a h = cc
  list_stays (Some (Aggregate b cs)) a h = constructors_stay cs a h
  list_stays (Some ZeroInitializer) a h = refl
  list_stays (Some (Address name)) a h = cc
  list_stays (Some Null) a h = cc
  list_stays (Some (Integer k)) a h = cc
  list_stays (Some (Truth truth)) a h = cc
  list_stays (Some Undef) a h = cc
  list_stays (Some Poison) a h = cc
  list_stays (Some (ByteString bytes)) a h = cc
  list_stays (Some (ElementAddress flags source cs)) a h = cc
  list_stays (Some (Cast opcode from value to)) a h = cc
  list_stays (Some (Binary opcode flags l left r right)) a h = cc
