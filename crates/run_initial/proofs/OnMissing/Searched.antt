-- Names that are looked at one after another.
use Rattle.std.proofs.Common.{◌≡◌, ℕ, ◌+◌, ◌<◌, ◌≤◌, List, [], ◌∷◌, ◌++◌, drop, length, map, take, Bool, true, false, cond, Some, None, sym, ap, ◌∙◌}
use Rattle.std.specs.Prelude.{slice_get}
use Rattle.std.specs.List.{find}
use Rattle.std.specs.Option.{option_or}
use Rattle.std.proofs.lemmas.List.{take-append-drop, take_all}
use Rattle.std.proofs.lemmas.List.Folds.{find-append}
use Rattle.extract_rules.specs.Selected.{is_among}
use Rattle.module_arena.specs.declared.entry.GlobalId.TheVariants as global
use Rattle.module_arena.specs.Lists.{Lists, name_at}
use Rattle.module_arena.specs.Module.{Bytes, Function, Variable}
use Rattle.module_arena.specs.View.{module_of}
use Rattle.linkage_rules.proofs.Steps.{take_more, drop_more}
use Rattle.linkage_rules.proofs.Seen.{get_within}
use Rattle.run_names.proofs.Arena.{function_seen, function_there, variable_seen, variable_there}
use Rattle.run_names.proofs.Asked.{function_name, variable_name}
use Rattle.run_names.proofs.Listed.{mapped_at}

module _ (p : Bytes → Bool) (xs : List Bytes) (k : ℕ) where
  -- one more that is passed over
  pub passed : (x : Bytes) → slice_get xs k ≡ Some x → find p (take k xs) ≡ None → p x ≡ false → find p (take (k + 1) xs) ≡ None
  passed x at none is =
      ap (find p) (take_more xs k x at) ∙ find-append p (take k xs) (x ∷ []) ∙ ap (λ o. option_or o (find p (x ∷ []))) none ∙ ap (λ b. cond b (Some x) None) is

  -- the first that passes
  pub first_at : (x : Bytes) → slice_get xs k ≡ Some x → find p (take k xs) ≡ None → p x ≡ true → Some x ≡ find p xs
  first_at x at none is =
      sym
      (ap (find p) (sym (take-append-drop k xs) ∙ ap (λ l. take k xs ++ l) (drop_more xs k x at)) ∙ find-append p (take k xs) (x ∷ drop (k + 1) xs)
      ∙ ap (λ o. option_or o (find p (x ∷ drop (k + 1) xs))) none ∙ ap (λ b. cond b (Some x) (find p (drop (k + 1) xs))) is)

  -- none passes
  pub none_at_all : length xs ≤ k → find p (take k xs) ≡ None → None ≡ find p xs
  none_at_all le none = sym (ap (find p) (sym (take_all k xs le)) ∙ none)

module _ (a : Lists) where
  pub variable_name_at : (k : ℕ) → k < length a.variables → slice_get (map (λ (v : Variable). v.name) (module_of a).variables) k ≡ Some (name_at a (global.Variable k))
  variable_name_at k lt =
      let v = get_within a.variables k lt in
      mapped_at (λ (v : Variable). v.name) (module_of a).variables k (variable_seen a v.0) (variable_there a k v.0 v.1) ∙ ap (λ (n : Bytes). Some n) (sym (variable_name a k v.0 v.1))

  pub function_name_at : (k : ℕ) → k < length a.functions → slice_get (map (λ (f : Function). f.name) (module_of a).functions) k ≡ Some (name_at a (global.Function k))
  function_name_at k lt =
      let f = get_within a.functions k lt in
      mapped_at (λ (f : Function). f.name) (module_of a).functions k (function_seen a f.0) (function_there a k f.0 f.1) ∙ ap (λ (n : Bytes). Some n) (sym (function_name a k f.0 f.1))

  -- what is told of the entry with that number
  pub variable_used : (names : List Bytes) (used : List Bool) (k : ℕ) → used ≡ map (λ v. is_among names v.name) (module_of a).variables → k < length a.variables → slice_get used k ≡ Some (is_among names (name_at a (global.Variable k)))
  variable_used names used k e lt =
      let v = get_within a.variables k lt in
      ap (λ l. slice_get l k) e ∙ mapped_at (λ (v : Variable). is_among names v.name) (module_of a).variables k (variable_seen a v.0) (variable_there a k v.0 v.1)
      ∙ ap (λ (n : Bytes). Some (is_among names n)) (sym (variable_name a k v.0 v.1))

  pub function_used : (names : List Bytes) (used : List Bool) (k : ℕ) → used ≡ map (λ f. is_among names f.name) (module_of a).functions → k < length a.functions → slice_get used k ≡ Some (is_among names (name_at a (global.Function k)))
  function_used names used k e lt =
      let f = get_within a.functions k lt in
      ap (λ l. slice_get l k) e ∙ mapped_at (λ (f : Function). is_among names f.name) (module_of a).functions k (function_seen a f.0) (function_there a k f.0 f.1)
      ∙ ap (λ (n : Bytes). Some (is_among names n)) (sym (function_name a k f.0 f.1))
