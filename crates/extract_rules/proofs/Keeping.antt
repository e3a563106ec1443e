-- What is told of each entry, one after another.
use Rattle.std.proofs.Common.{◌≡◌, ℕ, suc, ◌+◌, Bool, not, ◌&&◌, List, [], ◌∷◌, ◌++◌, map, length, take, Some, refl, sym, ap, ap₂, ◌∙◌, is_some, slice_get, if◌then◌else◌}
use Rattle.std.specs.Option.{option_map, option_map_or}
use Rattle.std.proofs.lemmas.Option.{slice_get-map}
use Rattle.std.proofs.lemmas.List.{map-append}
use Rattle.type_table.specs.Types.{trees}
use Rattle.type_table.proofs.Steps.{take_next}
use Rattle.module_arena.specs.declared.entry.Alias as the_alias
use Rattle.module_arena.specs.declared.entry.Function as the_function
use Rattle.module_arena.specs.declared.entry.GlobalId.TheVariants as global
use Rattle.module_arena.specs.declared.entry.Variable as the_variable
use Rattle.module_arena.specs.Lists.{Lists, name_at}
use Rattle.module_arena.specs.Module.{Bytes}
use Rattle.module_arena.specs.View.{module_of, constants_of, variable_view, alias_view, function_view}
use Rattle.extract_rules.specs.declared.selection.Selection.{Selection}
use Rattle.extract_rules.specs.Calls.{AreNames}
use Rattle.extract_rules.specs.Entries.{target_or_own}
use Rattle.extract_rules.specs.Selected.{is_among, chosen, keeps, keeps_variable, keeps_function, keeps_alias}
use Rattle.extract_rules.proofs.Adding.{take_whole}
use Rattle.extract_rules.proofs.Entries.{some_mapped}

-- ---- lists

length_mapped : {A B : Type 0} (f : A → B) (xs : List A) → length (map f xs) ≡ length xs
length_mapped f [] = refl
length_mapped f (x ∷ xs) = ap suc (length_mapped f xs)

-- one more flag
pub flags_more : {A : Type 0} (f : A → Bool) (xs : List A) (k : ℕ) (x : A) (old new : List Bool) (b : Bool) → slice_get xs k ≡ Some x → old ≡ map f (take k xs) → new ≡ old ++ b ∷ [] → b ≡ f x → new ≡ map f (take (k + 1) xs)
flags_more f xs k x old new b at so_far pushed is =
    pushed ∙ ap₂ (λ l c. l ++ c ∷ []) so_far is ∙ sym (ap (map f) (take_next xs k x at) ∙ map-append f (take k xs) (x ∷ []))

pub flags_whole : {A : Type 0} (f : A → Bool) (xs : List A) (k : ℕ) (flags : List Bool) → k ≡ length xs → flags ≡ map f (take k xs) → flags ≡ map f xs
flags_whole f xs k flags e h = h ∙ ap (map f) (take_whole xs k e)

-- ---- the entries of an arena in its module

module _ (a : Lists) where
  pub variable_at : (k : ℕ) (v : the_variable.Variable) → slice_get a.variables k ≡ Some v → slice_get (module_of a).variables k ≡ Some (variable_view (trees a.table) (constants_of a) v)
  unfolding module_of
  variable_at k v h = slice_get-map (variable_view (trees a.table) (constants_of a)) a.variables k ∙ ap (option_map (variable_view (trees a.table) (constants_of a))) h

  pub function_at : (k : ℕ) (f : the_function.Function) → slice_get a.functions k ≡ Some f → slice_get (module_of a).functions k ≡ Some (function_view (trees a.table) (constants_of a) f)
  unfolding module_of
  function_at k f h = slice_get-map (function_view (trees a.table) (constants_of a)) a.functions k ∙ ap (option_map (function_view (trees a.table) (constants_of a))) h

  pub alias_at : (k : ℕ) (x : the_alias.Alias) → slice_get a.aliases k ≡ Some x → slice_get (module_of a).aliases k ≡ Some (alias_view (trees a.table) (name_at a) x)
  unfolding module_of
  alias_at k x h = slice_get-map (alias_view (trees a.table) (name_at a)) a.aliases k ∙ ap (option_map (alias_view (trees a.table) (name_at a))) h

  pub variables_length : length (module_of a).variables ≡ length a.variables
  unfolding module_of
  variables_length = length_mapped (variable_view (trees a.table) (constants_of a)) a.variables

  pub functions_length : length (module_of a).functions ≡ length a.functions
  unfolding module_of
  functions_length = length_mapped (function_view (trees a.table) (constants_of a)) a.functions

  pub aliases_length : length (module_of a).aliases ≡ length a.aliases
  unfolding module_of
  aliases_length = length_mapped (alias_view (trees a.table) (name_at a)) a.aliases

-- ---- what is kept

module _ (a : Lists) (s : Selection) (names : List Bytes) (are : AreNames names (chosen (module_of a) s)) where
  kept_name : (name : Bytes) (b : Bool) → b ≡ (if s.delete then not (is_among names name) else is_among names name) → b ≡ keeps (module_of a) s name
  kept_name name b e = e ∙ ap (λ c. if s.delete then not c else c) (are name)

  pub kept_variable : (v : the_variable.Variable) (is : Bool) (b : Bool) → b ≡ (if s.delete then not (is_among names v.name) else is_among names v.name) → is ≡ is_some v.initialiser → (is && b) ≡ keeps_variable (module_of a) s (variable_view (trees a.table) (constants_of a) v)
  kept_variable v is b e i = ap₂ (λ x y. x && y) (i ∙ sym (some_mapped _ v.initialiser)) (kept_name v.name b e)

  pub kept_function : (f : the_function.Function) (is : Bool) (b : Bool) → b ≡ (if s.delete then not (is_among names f.name) else is_among names f.name) → is ≡ is_some f.body → (is && b) ≡ keeps_function (module_of a) s (function_view (trees a.table) (constants_of a) f)
  kept_function f is b e i = ap₂ (λ x y. x && y) (i ∙ sym (some_mapped _ f.body)) (kept_name f.name b e)

  pub kept_alias : (k : ℕ) (x : the_alias.Alias) (target : Bytes) (b : Bool) → slice_get a.aliases k ≡ Some x → target ≡ target_or_own a (global.Alias k) → b ≡ (if s.delete then not (is_among names target) else is_among names target) → b ≡ keeps_alias (module_of a) s (alias_view (trees a.table) (name_at a) x)
  kept_alias k x target b at is e =
      kept_name target b e ∙ ap (keeps (module_of a) s) (is ∙ ap (λ o. option_map_or (λ (y : the_alias.Alias). option_map_or (name_at a) y.target []) o []) at)
