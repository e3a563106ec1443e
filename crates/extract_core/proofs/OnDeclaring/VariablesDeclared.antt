-- A variable is declared as what it becomes.
use Rattle.std.proofs.Common.{◌≡◌, ℕ, ◌+◌, ◌<◌, Bool, [], ◌∷◌, ◌++◌, map, length, slice_get, Option, Some, None, All, sym, subst, ap, ◌∙◌, append-nil, arith}
use Rattle.std.specs.Prelude.{option_to_list}
use Rattle.std.proofs.lemmas.Option.{same_Some, slice_get-map}
use Rattle.std.specs.Option.{option_map}
use Rattle.std.proofs.lemmas.List.Elements.{All-nil}
use Rattle.ir_tables.specs.declared.linkage.Linkage.{Linkage}
use Rattle.type_table.specs.Types.{trees}
use Rattle.module_arena.specs.declared.entry.GlobalId.TheVariants as global
use Rattle.module_arena.specs.declared.entry.Variable as the_variable
use Rattle.module_arena.specs.Changes.{with_variable, variable_in, more_variables}
use Rattle.module_arena.specs.Functions.{variable_names}
use Rattle.module_arena.specs.Known.{counts, AreDistinct, IsGood, KnowsVariable}
use Rattle.module_arena.specs.Lists.{Lists, global_name}
use Rattle.module_arena.specs.Module.{Bytes, Variable, Module}
use Rattle.module_arena.specs.View.{module_of, type_at}
use Rattle.item_build.specs.Types.Declarations.{IsFree, AreFew, one_variable_more, without_initialiser}
use Rattle.item_build.specs.Types.Stands.{IsType}
use Rattle.extract_rules.proofs.Keeping.{variable_at}
use Rattle.extract_core.specs.declared.fates.fates.Fate.{Fate}
use Rattle.extract_core.specs.declared.fates.fates.Fate.TheVariants.{LeftOut}
use Rattle.extract_core.specs.Fates.Fates.{variable_as, variable_linkage, is_emptied, type_as}
use Rattle.extract_core.specs.Declaring.Declaring.{variables_through, AreFewer, IsDeclaring}
use Rattle.extract_core.specs.Declaring.Stages.{with_variables}
use Rattle.extract_core.proofs.OnDeclaring.Becoming.{variable_declared, variable_becomes}
use Rattle.extract_core.proofs.OnDeclaring.Declared.{either_variable, fewer_with_variable, fewer_on}
use Rattle.extract_core.proofs.OnDeclaring.Room.{free_name, wider, stands_on, stands_one_more, less_within, within_limits, fewer_within, no_excess}

-- the name of a variable
pub variable_called_so : (a : Lists) (id : ℕ) (v : the_variable.Variable) → slice_get a.variables id ≡ Some v → global_name a (global.Variable id) ≡ Some v.name
variable_called_so a id v at = ap (option_map (λ (w : the_variable.Variable). w.name)) at

-- the same in the module
pub variable_listed : (a : Lists) (id : ℕ) (v : the_variable.Variable) → slice_get a.variables id ≡ Some v → slice_get (variable_names (module_of a)) id ≡ Some v.name
variable_listed a id v at = slice_get-map (λ (w : Variable). w.name) (module_of a).variables id ∙ ap (option_map (λ (w : Variable). w.name)) (variable_at a id v at)

module _ (a b : Lists) (id : ℕ) (old : IsDeclaring a (variables_through id) b) where
  -- its name is free
  pub variable_free : (name : Bytes) → AreDistinct a → global_name a (global.Variable id) ≡ Some name → IsFree b name
  variable_free name distinct called = free_name a b (variables_through id) (global.Variable id) name distinct old.stand called (λ lt. omega (arith, lt))

  -- there is room for it
  pub variable_few : IsGood a → id < length a.variables → AreFew (one_variable_more b)
  variable_few good lt =
      let f = old.fewer in
      let vs = f.variables in
      let one : AreFewer (variables_through (id + 1)) (one_variable_more b) = record {
        as_variables = f.as_variables;
        as_functions = f.as_functions;
        variables = omega (arith, vs);
        functions = f.functions;
        aliases = f.aliases;
      } in
      no_excess (one_variable_more b)
      (fewer_within (variables_through (id + 1)) (one_variable_more b)
      (less_within (variables_through (id + 1)) (counts a) (omega (arith, lt)) (omega arith) (omega arith) (within_limits (counts a) good.few)) one)

  -- one variable more is through, where it is declared and where it is left out
  pub variable_more : (d : the_variable.Variable) → global_name a (global.Variable id) ≡ Some d.name → IsDeclaring a (variables_through (id + 1)) (with_variable b d)
  variable_more d called = record {
    stand = stands_one_more a b (with_variable b d) (variables_through id) (variables_through (id + 1)) (global.Variable id) d.name called (omega arith) old.stand
        (wider (variables_through id) (variables_through (id + 1)) (omega arith) (omega arith) (omega arith)) (either_variable b d);
    fewer = fewer_with_variable b d (variables_through id) old.fewer;
    untargeted = λ k x le is. old.untargeted k x le is;
  }

  pub variable_passed : IsDeclaring a (variables_through (id + 1)) b
  variable_passed = record {
    stand = stands_on a b (variables_through id) (variables_through (id + 1)) (omega arith) (omega arith) (omega arith) old.stand;
    fewer = fewer_on (variables_through id) (variables_through (id + 1)) (counts b) (omega arith) (omega arith) (omega arith) old.fewer;
    untargeted = old.untargeted;
  }

-- what is declared is known
pub variable_known : (b : Lists) (d : the_variable.Variable) → d.ty < length b.table.types → d.initialiser ≡ None → KnowsVariable (length b.table.types) (length b.constants) d
variable_known b d lt none = record { ty_known = lt; initialiser_known = subst (λ (o : Option ℕ). All (λ i. i < length b.constants) (option_to_list o)) (sym none) (All-nil (λ i. i < length b.constants)) }

module _ (a b : Lists) (v : the_variable.Variable) (fate : Fate) (name : Bytes) (linkage : Linkage) (ty : ℕ) (emptied : Bool) where
  abbrev made : the_variable.Variable
  made = record { name = name; linkage = linkage; constant = v.constant; ty = ty; alignment = v.alignment; initialiser = None }

  pub variable_is : name ≡ v.name → linkage ≡ variable_linkage fate v.linkage → emptied ≡ is_emptied fate v.linkage → IsType b ty (type_as emptied (type_at (trees a.table) v.ty))
      → variable_in b made ≡ variable_declared fate v.linkage (variable_in a v)
  variable_is same linked empty is =
      let tree = is.tree ∙ ap (λ e. type_as e (type_at (trees a.table) v.ty)) empty in
      λ i. record { name = same i; linkage = linked i; constant = v.constant; ty = tree i; alignment = v.alignment; initialiser = None }

-- the module with it
pub variable_joined : (a b : Lists) (m : Module) (id : ℕ) (v d : the_variable.Variable) (fate : Fate) → (fate ≡ LeftOut → ⊥) → slice_get a.variables id ≡ Some v → variable_in b d ≡ variable_declared fate v.linkage (variable_in a v)
    → (w : Variable) → slice_get (module_of a).variables id ≡ Some w
    → more_variables m (variable_in b d) ≡ with_variables m (m.variables ++ map without_initialiser (option_to_list (variable_as fate w)))
variable_joined a b m id v d fate there at is w e =
    let same : variable_in a v ≡ w = same_Some (variable_in a v) w (sym (variable_at a id v at) ∙ e) in
    let one = ap (λ x. x ∷ []) (is ∙ ap (λ (x : Variable). variable_declared fate x.linkage x) same) ∙ variable_becomes fate w there in
    ap (λ xs. with_variables m (m.variables ++ xs)) one

-- nothing is joined where it is left out
pub variables_stay : (m : Module) → m ≡ with_variables m (m.variables ++ [])
variables_stay m = λ i. record m { variables = sym (append-nil m.variables) i }
