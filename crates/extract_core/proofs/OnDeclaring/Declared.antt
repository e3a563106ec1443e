-- What one entry more changes while entries are declared.
use Rattle.std.proofs.Common.{◌≡◌, ◌⊎◌, inl, inr, ℕ, ◌+◌, ◌≤◌, List, [], ◌∷◌, ◌++◌, length, slice_get, Some, sym, ap, ◌∙◌, arith}
use Rattle.std.specs.Option.{option_map}
use Rattle.std.proofs.lemmas.List.{length_push}
use Rattle.module_arena.specs.declared.entry.Variable as the_variable
use Rattle.module_arena.specs.declared.entry.GlobalId.{GlobalId}
use Rattle.module_arena.specs.declared.entry.GlobalId.TheVariants as global
use Rattle.module_arena.specs.Changes.{with_variable}
use Rattle.module_arena.specs.Known.{Counts, counts}
use Rattle.module_arena.specs.Lists.{Lists, global_name}
use Rattle.module_arena.specs.Module.{Bytes}
use Rattle.module_arena.proofs.Found.{some-equal, none≢some, slice_get-push, slice_get-here, slice_get-beyond}
use Rattle.extract_core.specs.Declaring.Declaring.{KeepsNames, AreFewer}

-- ---- names in a list with one element more

module _ {X : Type 0} (own : X → Bytes) (xs : List X) (x : X) where
  either_in : (k : ℕ) (name : Bytes) → option_map own (slice_get (xs ++ x ∷ []) k) ≡ Some name → (option_map own (slice_get xs k) ≡ Some name) ⊎ (name ≡ own x)
  either_in k name e = go (slice_get-push xs x k)
    where
      go : (k ≡ length xs) ⊎ (slice_get (xs ++ x ∷ []) k ≡ slice_get xs k) → (option_map own (slice_get xs k) ≡ Some name) ⊎ (name ≡ own x)
      go (inl here) = inr (some-equal (sym e ∙ ap (λ i. option_map own (slice_get (xs ++ x ∷ []) i)) here ∙ ap (option_map own) (slice_get-here xs x)))
      go (inr old) = inl (sym (ap (option_map own) old) ∙ e)

  kept_in : (k : ℕ) (name : Bytes) → option_map own (slice_get xs k) ≡ Some name → option_map own (slice_get (xs ++ x ∷ []) k) ≡ Some name
  kept_in k name e = go (slice_get-push xs x k)
    where
      go : (k ≡ length xs) ⊎ (slice_get (xs ++ x ∷ []) k ≡ slice_get xs k) → option_map own (slice_get (xs ++ x ∷ []) k) ≡ Some name
      go (inl here) = absurd (none≢some (sym (ap (option_map own) (slice_get-beyond xs)) ∙ sym (ap (λ i. option_map own (slice_get xs i)) here) ∙ e))
      go (inr old) = ap (option_map own) old ∙ e

-- ---- a variable more

module _ (b : Lists) (v : the_variable.Variable) where
  pub either_variable : (g : GlobalId) (name : Bytes) → global_name (with_variable b v) g ≡ Some name → (global_name b g ≡ Some name) ⊎ (name ≡ v.name)
  either_variable (global.Variable k) name e = either_in (λ (w : the_variable.Variable). w.name) b.variables v k name e
  either_variable (global.Function k) name e = inl e
  either_variable (global.Alias k) name e = inl e

  pub with_variable_keeps : KeepsNames b (with_variable b v)
  with_variable_keeps (global.Variable k) name e = kept_in (λ (w : the_variable.Variable). w.name) b.variables v k name e
  with_variable_keeps (global.Function k) name e = e
  with_variable_keeps (global.Alias k) name e = e

  pub variable_called : global_name (with_variable b v) (global.Variable (length b.variables)) ≡ Some v.name
  variable_called = ap (option_map (λ (w : the_variable.Variable). w.name)) (slice_get-here b.variables v)

  pub fewer_with_variable : (n : Counts) → AreFewer n (counts b) → AreFewer (record n { variables = n.variables + 1 }) (counts (with_variable b v))
  fewer_with_variable n f =
      let long = length_push b.variables v in
      let vs = f.variables in
      record { as_variables = f.as_variables; as_functions = f.as_functions; variables = omega (arith, long, vs); functions = f.functions; aliases = f.aliases }

-- ---- an entry that is left out

pub fewer_on : (n m now : Counts) → n.variables ≤ m.variables → n.functions ≤ m.functions → n.aliases ≤ m.aliases → AreFewer n now → AreFewer m now
fewer_on n m now v f x h =
    let vs = h.variables in
    let fs = h.functions in
    let xs = h.aliases in
    record { as_variables = h.as_variables; as_functions = h.as_functions; variables = omega (arith, v, vs); functions = omega (arith, f, fs); aliases = omega (arith, x, xs) }
