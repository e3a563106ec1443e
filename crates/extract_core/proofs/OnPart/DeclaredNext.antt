-- What one entry more changes while entries are declared.
use Rattle.std.proofs.Common.{◌≡◌, ◌⊎◌, inl, inr, ℕ, ◌+◌, List, [], ◌∷◌, ◌++◌, length, slice_get, Some, sym, ap, ◌∙◌, arith}
use Rattle.std.specs.Option.{option_map}
use Rattle.std.proofs.lemmas.List.{length_push}
use Rattle.module_arena.specs.declared.entry.Alias as the_alias
use Rattle.module_arena.specs.declared.entry.Function as the_function
use Rattle.module_arena.specs.declared.entry.Variable as the_variable
use Rattle.module_arena.specs.declared.entry.GlobalId.{GlobalId}
use Rattle.module_arena.specs.declared.entry.GlobalId.TheVariants as global
use Rattle.module_arena.specs.Changes.{with_variable, with_alias, with_function}
use Rattle.module_arena.specs.Known.{Counts, counts}
use Rattle.module_arena.specs.Lists.{Lists, global_name}
use Rattle.module_arena.specs.Module.{Bytes}
use Rattle.module_arena.proofs.Found.{some-equal, none≢some, slice_get-push, slice_get-here, slice_get-beyond}
use Rattle.extract_core.specs.Declaring.Declaring.{KeepsNames, AreFewer}

-- ---- names in a list with one element more

module _ {X : Type 0} (own : X → Bytes) (xs : List X) (x : X) where
  either_in : (k : ℕ) (name : Bytes) → option_map own (slice_get (xs ++ x ∷ []) k) ≡ Some name → (option_map own (slice_get xs k) ≡ Some name) ⊎ (name ≡ own x)
  either_in k name e = go (slice_get-push xs x k)
    where
      go : (k ≡ length xs) ⊎ (slice_get (xs ++ x ∷ []) k ≡ slice_get xs k) → (option_map own (slice_get xs k) ≡ Some name) ⊎ (name ≡ own x)
      go (inl here) = inr (some-equal (sym e ∙ ap (λ i. option_map own (slice_get (xs ++ x ∷ []) i)) here ∙ ap (option_map own) (slice_get-here xs x)))
      go (inr old) = inl (sym (ap (option_map own) old) ∙ e)

  kept_in : (k : ℕ) (name : Bytes) → option_map own (slice_get xs k) ≡ Some name → option_map own (slice_get (xs ++ x ∷ []) k) ≡ Some name
  kept_in k name e = go (slice_get-push xs x k)
    where
      go : (k ≡ length xs) ⊎ (slice_get (xs ++ x ∷ []) k ≡ slice_get xs k) → option_map own (slice_get (xs ++ x ∷ []) k) ≡ Some name
      go (inl here) = absurd (none≢some (sym (ap (option_map own) (slice_get-beyond xs)) ∙ sym (ap (λ i. option_map own (slice_get xs i)) here) ∙ e))
      go (inr old) = ap (option_map own) old ∙ e

-- ---- a variable more, that an alias became

module _ (b : Lists) (v : the_variable.Variable) where
  pub fewer_as_variable : (n : Counts) → AreFewer n (counts b) → AreFewer (record n { aliases = n.aliases + 1 }) (counts (with_variable b v))
  fewer_as_variable n f =
      let long = length_push b.variables v in
      let vs = f.variables in
      let xs = f.aliases in
      record { as_variables = f.as_variables + 1; as_functions = f.as_functions; variables = omega (arith, long, vs); functions = f.functions; aliases = omega (arith, xs) }

-- ---- a function more

module _ (b : Lists) (f : the_function.Function) where
  pub either_function : (g : GlobalId) (name : Bytes) → global_name (with_function b f) g ≡ Some name → (global_name b g ≡ Some name) ⊎ (name ≡ f.name)
  either_function (global.Function k) name e = either_in (λ (w : the_function.Function). w.name) b.functions f k name e
  either_function (global.Variable k) name e = inl e
  either_function (global.Alias k) name e = inl e

  pub with_function_keeps : KeepsNames b (with_function b f)
  with_function_keeps (global.Function k) name e = kept_in (λ (w : the_function.Function). w.name) b.functions f k name e
  with_function_keeps (global.Variable k) name e = e
  with_function_keeps (global.Alias k) name e = e

  pub function_called : global_name (with_function b f) (global.Function (length b.functions)) ≡ Some f.name
  function_called = ap (option_map (λ (w : the_function.Function). w.name)) (slice_get-here b.functions f)

  pub fewer_with_function : (n : Counts) → AreFewer n (counts b) → AreFewer (record n { functions = n.functions + 1 }) (counts (with_function b f))
  fewer_with_function n h =
      let long = length_push b.functions f in
      let fs = h.functions in
      record { as_variables = h.as_variables; as_functions = h.as_functions; variables = h.variables; functions = omega (arith, long, fs); aliases = h.aliases }

  pub fewer_as_function : (n : Counts) → AreFewer n (counts b) → AreFewer (record n { aliases = n.aliases + 1 }) (counts (with_function b f))
  fewer_as_function n h =
      let long = length_push b.functions f in
      let fs = h.functions in
      let xs = h.aliases in
      record { as_variables = h.as_variables; as_functions = h.as_functions + 1; variables = h.variables; functions = omega (arith, long, fs); aliases = omega (arith, xs) }

-- ---- an alias more

module _ (b : Lists) (x : the_alias.Alias) where
  pub either_alias : (g : GlobalId) (name : Bytes) → global_name (with_alias b x) g ≡ Some name → (global_name b g ≡ Some name) ⊎ (name ≡ x.name)
  either_alias (global.Alias k) name e = either_in (λ (w : the_alias.Alias). w.name) b.aliases x k name e
  either_alias (global.Variable k) name e = inl e
  either_alias (global.Function k) name e = inl e

  pub with_alias_keeps : KeepsNames b (with_alias b x)
  with_alias_keeps (global.Alias k) name e = kept_in (λ (w : the_alias.Alias). w.name) b.aliases x k name e
  with_alias_keeps (global.Variable k) name e = e
  with_alias_keeps (global.Function k) name e = e

  pub alias_called : global_name (with_alias b x) (global.Alias (length b.aliases)) ≡ Some x.name
  alias_called = ap (option_map (λ (w : the_alias.Alias). w.name)) (slice_get-here b.aliases x)

  pub fewer_with_alias : (n : Counts) → AreFewer n (counts b) → AreFewer (record n { aliases = n.aliases + 1 }) (counts (with_alias b x))
  fewer_with_alias n h =
      let long = length_push b.aliases x in
      let xs = h.aliases in
      record { as_variables = h.as_variables; as_functions = h.as_functions; variables = h.variables; functions = h.functions; aliases = omega (arith, long, xs) }
