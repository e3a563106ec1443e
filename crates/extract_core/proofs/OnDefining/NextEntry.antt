-- The next declared entry of an arena: that it is there, and what it does not have yet.
use Rattle.std.proofs.Common.{◌≡◌, ℕ, ◌<◌, map, length, slice_get, Option, Some, None, refl, sym, ap, ◌∙◌, arith}
use Rattle.std.specs.Option.{option_map}
use Rattle.std.proofs.lemmas.Option.{same_Some, slice_get_within}
use Rattle.type_table.specs.Types.{trees}
use Rattle.module_arena.specs.declared.entry.Function as the_function
use Rattle.module_arena.specs.declared.entry.Parameter as the_parameter
use Rattle.module_arena.specs.declared.entry.Variable as the_variable
use Rattle.module_arena.specs.Changes.{variable_in, function_in}
use Rattle.module_arena.specs.Lists.{Lists}
use Rattle.module_arena.specs.Module.{Variable, Alias, Function}
use Rattle.module_arena.specs.View.{module_of, constant_at, constants_of, body_view, local_view}
use Rattle.item_build.specs.Types.Declarations.{without_initialiser}
use Rattle.item_build.specs.Types.Parameters.{without_body}
use Rattle.extract_rules.proofs.Keeping.{variable_at, function_at, variables_length, functions_length, aliases_length}

unmapped_none : {A B : Type 0} (f : A → B) (o : Option A) → option_map f o ≡ None → o ≡ None
unmapped_none f None e = refl
unmapped_none f (Some x) e = cc

module _ (b : Lists) (k : ℕ) where
  pub variable_there : (w : Variable) → slice_get (module_of b).variables k ≡ Some w → k < length b.variables
  variable_there w at = let lt = slice_get_within (module_of b).variables k w at in let long = variables_length b in omega (arith, lt, long)

  pub variable_unset : (w : Variable) → slice_get (module_of b).variables k ≡ Some (without_initialiser w) → (v : the_variable.Variable) → slice_get b.variables k ≡ Some v → v.initialiser ≡ None
  variable_unset w at v e = unmapped_none (constant_at (constants_of b)) v.initialiser (ap (λ (u : Variable). u.initialiser) (same_Some (variable_in b v) (without_initialiser w) (sym (variable_at b k v e) ∙ at)))

  pub function_there : (w : Function) → slice_get (module_of b).functions k ≡ Some w → k < length b.functions
  function_there w at = let lt = slice_get_within (module_of b).functions k w at in let long = functions_length b in omega (arith, lt, long)

  pub function_unset : (w : Function) → slice_get (module_of b).functions k ≡ Some (without_body w) → (f : the_function.Function) → slice_get b.functions k ≡ Some f → f.body ≡ None
  function_unset w at f e = unmapped_none (body_view (trees b.table) (constants_of b) (map (λ (p : the_parameter.Parameter). local_view p.name) f.parameters)) f.body (ap (λ (u : Function). u.body) (same_Some (function_in b f) (without_body w) (sym (function_at b k f e) ∙ at)))

  pub alias_there : (w : Alias) → slice_get (module_of b).aliases k ≡ Some w → k < length b.aliases
  alias_there w at = let lt = slice_get_within (module_of b).aliases k w at in let long = aliases_length b in omega (arith, lt, long)
