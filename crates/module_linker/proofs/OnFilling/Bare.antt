-- An entry that is declared and not defined: that it is there, and what it does not have yet.
use Rattle.std.proofs.Common.{◌≡◌, ℕ, ◌<◌, map, length, slice_get, Option, Some, None, refl, sym, ap, ◌∙◌, arith}
use Rattle.std.specs.Option.{option_map}
use Rattle.std.proofs.lemmas.List.{length-map}
use Rattle.std.proofs.lemmas.Option.{slice_get-map, slice_get_within}
use Rattle.type_table.specs.Types.{trees}
use Rattle.type_table.proofs.Rooms.{unmapped}
use Rattle.module_arena.specs.Changes.{alias_in, function_in, variable_in}
use Rattle.module_arena.specs.Lists.{Lists}
use Rattle.module_arena.specs.Module.{Alias, Function, Variable}
use Rattle.module_arena.specs.View.{body_view, constant_at, constants_of, local_view, module_of}
use Rattle.module_arena.specs.declared.entry.Function as the_function
use Rattle.module_arena.specs.declared.entry.GlobalId.TheVariants as global
use Rattle.module_arena.specs.declared.entry.Parameter as the_parameter
use Rattle.module_arena.specs.declared.entry.Variable as the_variable
use Rattle.linkage_rules.specs.Globals.{OfAlias, OfFunction, OfVariable}
use Rattle.item_build.specs.Types.Parameters.{without_body}
use Rattle.module_linker.specs.Filling.Filling.{IsBare}

unmapped_none : {A B : Type 0} (f : A → B) (o : Option A) → option_map f o ≡ None → o ≡ None
unmapped_none f None e = refl
unmapped_none f (Some x) e = cc

as_variable : (o : Option Variable) (v : Variable) → option_map OfVariable o ≡ Some (OfVariable v) → o ≡ Some v
as_variable None v e = cc
as_variable (Some w) v e = cc

as_function : (o : Option Function) (f : Function) → option_map OfFunction o ≡ Some (OfFunction f) → o ≡ Some f
as_function None f e = cc
as_function (Some g) f e = cc

as_alias : (o : Option Alias) (x : Alias) → option_map OfAlias o ≡ Some (OfAlias x) → o ≡ Some x
as_alias None x e = cc
as_alias (Some y) x e = cc

module _ (b : Lists) (n : ℕ) where
  variables_at : slice_get (module_of b).variables n ≡ option_map (variable_in b) (slice_get b.variables n)
  unfolding module_of
  variables_at = slice_get-map (variable_in b) b.variables n

  functions_at : slice_get (module_of b).functions n ≡ option_map (function_in b) (slice_get b.functions n)
  unfolding module_of
  functions_at = slice_get-map (function_in b) b.functions n

  aliases_long : length (module_of b).aliases ≡ length b.aliases
  unfolding module_of
  aliases_long = length-map b.aliases (alias_in b)

  -- a variable without an initialiser
  pub variable_bare : (w : Variable) → IsBare b (global.Variable n) (OfVariable w) → (v : the_variable.Variable) × (slice_get b.variables n ≡ Some v) × (v.initialiser ≡ None)
  variable_bare w h =
      let v = unmapped (variable_in b) (slice_get b.variables n) _ (sym variables_at ∙ as_variable (slice_get (module_of b).variables n) _ h) in
      (v.0, v.1, unmapped_none (constant_at (constants_of b)) v.0.initialiser (ap (λ (x : Variable). x.initialiser) v.2))

  -- a function without a body
  pub function_bare : (w : Function) → IsBare b (global.Function n) (OfFunction w) → (f : the_function.Function) × (slice_get b.functions n ≡ Some f) × (function_in b f ≡ without_body w)
  function_bare w h = unmapped (function_in b) (slice_get b.functions n) _ (sym functions_at ∙ as_function (slice_get (module_of b).functions n) _ h)

  pub no_body : (f : the_function.Function) (w : Function) → function_in b f ≡ without_body w → f.body ≡ None
  no_body f w e = unmapped_none (body_view (trees b.table) (constants_of b) (map (λ (p : the_parameter.Parameter). local_view p.name) f.parameters)) f.body (ap (λ (x : Function). x.body) e)

  -- an alias
  pub alias_there : (w : Alias) → IsBare b (global.Alias n) (OfAlias w) → n < length b.aliases
  alias_there w h =
      let lt = slice_get_within (module_of b).aliases n _ (as_alias (slice_get (module_of b).aliases n) _ h) in
      let long = aliases_long in
      omega (arith, lt, long)

  pub function_found : (f : the_function.Function) → slice_get b.functions n ≡ Some f → slice_get (module_of b).functions n ≡ Some (function_in b f)
  function_found f at = functions_at ∙ ap (option_map (function_in b)) at
