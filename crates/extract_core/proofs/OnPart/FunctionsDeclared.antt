-- A function is declared as what it becomes.
use Rattle.std.proofs.Common.{◌≡◌, ℕ, ◌+◌, ◌<◌, List, [], ◌∷◌, ◌++◌, map, length, slice_get, Option, Some, None, All, sym, subst, ap, ◌∙◌, append-nil, arith}
use Rattle.std.specs.Prelude.{option_to_list}
use Rattle.std.proofs.lemmas.Option.{same_Some, slice_get-map}
use Rattle.std.specs.Option.{option_map}
use Rattle.std.proofs.lemmas.List.Elements.{All-nil}
use Rattle.ir_tables.specs.declared.linkage.Linkage.{Linkage}
use Rattle.type_table.specs.Types.{trees}
use Rattle.module_arena.specs.declared.entry.Body.{Body}
use Rattle.module_arena.specs.declared.entry.Parameter as the_parameter
use Rattle.module_arena.specs.declared.entry.GlobalId.TheVariants as global
use Rattle.module_arena.specs.declared.entry.Function as the_function
use Rattle.module_arena.specs.Changes.{with_function, function_in, more_functions}
use Rattle.module_arena.specs.Functions.{function_names}
use Rattle.module_arena.specs.Known.{counts, AreDistinct, IsGood, KnowsFunction, KnowsBody}
use Rattle.module_arena.specs.Lists.{Lists, global_name}
use Rattle.module_arena.specs.Module.{Bytes, Function, Module}
use Rattle.module_arena.specs.View.{module_of, type_at, parameter_view}
use Rattle.item_build.specs.Types.Declarations.{IsFree, AreFew, one_function_more}
use Rattle.item_build.specs.Types.Parameters.{AreParameters, without_body}
use Rattle.item_build.specs.Types.Stands.{IsType}
use Rattle.extract_rules.proofs.Keeping.{function_at}
use Rattle.extract_core.specs.declared.fates.fates.Fate.{Fate}
use Rattle.extract_core.specs.declared.fates.fates.Fate.TheVariants.{LeftOut}
use Rattle.extract_core.specs.Fates.Fates.{function_as, function_linkage, parameters_as}
use Rattle.extract_core.specs.Declaring.Declaring.{AreFewer, IsDeclaring}
use Rattle.extract_core.specs.Part.FunctionsThere.{functions_through, with_functions}
use Rattle.extract_core.proofs.OnDeclaring.Declared.{fewer_on}
use Rattle.extract_core.proofs.OnPart.Becoming.{function_declared, function_becomes}
use Rattle.extract_core.proofs.OnPart.DeclaredNext.{either_function, fewer_with_function}
use Rattle.extract_core.proofs.OnDeclaring.Room.{free_name, wider, stands_on, stands_one_more, less_within, within_limits, fewer_within, no_excess}

-- the name of a function
pub function_called_so : (a : Lists) (id : ℕ) (f : the_function.Function) → slice_get a.functions id ≡ Some f → global_name a (global.Function id) ≡ Some f.name
function_called_so a id f at = ap (option_map (λ (w : the_function.Function). w.name)) at

-- the same in the module
pub function_listed : (a : Lists) (id : ℕ) (f : the_function.Function) → slice_get a.functions id ≡ Some f → slice_get (function_names (module_of a)) id ≡ Some f.name
function_listed a id f at = slice_get-map (λ (w : Function). w.name) (module_of a).functions id ∙ ap (option_map (λ (w : Function). w.name)) (function_at a id f at)

module _ (a b : Lists) (id : ℕ) (old : IsDeclaring a (functions_through a id) b) where
  -- its name is free
  pub function_free : (name : Bytes) → AreDistinct a → global_name a (global.Function id) ≡ Some name → IsFree b name
  function_free name distinct called = free_name a b (functions_through a id) (global.Function id) name distinct old.stand called (λ lt. omega (arith, lt))

  -- there is room for it
  pub function_few : IsGood a → id < length a.functions → AreFew (one_function_more b)
  function_few good lt =
      let f = old.fewer in
      let fs = f.functions in
      let one : AreFewer (functions_through a (id + 1)) (one_function_more b) = record {
        as_variables = f.as_variables;
        as_functions = f.as_functions;
        variables = f.variables;
        functions = omega (arith, fs);
        aliases = f.aliases;
      } in
      no_excess (one_function_more b)
      (fewer_within (functions_through a (id + 1)) (one_function_more b)
      (less_within (functions_through a (id + 1)) (counts a) (omega arith) (omega (arith, lt)) (omega arith) (within_limits (counts a) good.few)) one)

  -- one function more is through, where it is declared and where it is left out
  pub function_more : (d : the_function.Function) → global_name a (global.Function id) ≡ Some d.name → IsDeclaring a (functions_through a (id + 1)) (with_function b d)
  function_more d called = record {
    stand = stands_one_more a b (with_function b d) (functions_through a id) (functions_through a (id + 1)) (global.Function id) d.name called (omega arith) old.stand
        (wider (functions_through a id) (functions_through a (id + 1)) (omega arith) (omega arith) (omega arith)) (either_function b d);
    fewer = fewer_with_function b d (functions_through a id) old.fewer;
    untargeted = λ k x le is. old.untargeted k x le is;
  }

  pub function_passed : IsDeclaring a (functions_through a (id + 1)) b
  function_passed = record {
    stand = stands_on a b (functions_through a id) (functions_through a (id + 1)) (omega arith) (omega arith) (omega arith) old.stand;
    fewer = fewer_on (functions_through a id) (functions_through a (id + 1)) (counts b) (omega arith) (omega arith) (omega arith) old.fewer;
    untargeted = old.untargeted;
  }

-- what is declared is known
pub function_known : (b : Lists) (d : the_function.Function) → d.result < length b.table.types → All (λ (p : the_parameter.Parameter). p.ty < length b.table.types) d.parameters → d.body ≡ None
    → KnowsFunction (length b.table.types) (length b.constants) d
function_known b d lt known none = record {
  result_known = lt;
  parameters_known = known;
  body_known = subst (λ (o : Option Body). All (KnowsBody (length b.table.types) (length b.constants) (length d.parameters)) (option_to_list o)) (sym none) (All-nil (KnowsBody (length b.table.types) (length b.constants) (length d.parameters)));
}

module _ (a b : Lists) (f : the_function.Function) (fate : Fate) (name : Bytes) (linkage : Linkage) (returns : ℕ) (ps : List the_parameter.Parameter) where
  abbrev made : the_function.Function
  made = record { name = name; linkage = linkage; result = returns; parameters = ps; variadic = f.variadic; body = None }

  pub function_is : name ≡ f.name → linkage ≡ function_linkage fate f.linkage → IsType b returns (type_at (trees a.table) f.result) → AreParameters b ps (parameters_as fate (map (parameter_view (trees a.table)) f.parameters))
      → function_in b made ≡ function_declared fate (function_in a f)
  function_is same linked is are =
      let tree = is.tree in
      let parameters = are.parameters in
      λ i. record { name = same i; linkage = linked i; returns = tree i; parameters = parameters i; variadic = f.variadic; body = None }

-- the module with it
pub function_joined : (a b : Lists) (m : Module) (id : ℕ) (f d : the_function.Function) (fate : Fate) → (fate ≡ LeftOut → ⊥) → slice_get a.functions id ≡ Some f → function_in b d ≡ function_declared fate (function_in a f)
    → (w : Function) → slice_get (module_of a).functions id ≡ Some w
    → more_functions m (function_in b d) ≡ with_functions m (m.functions ++ map without_body (option_to_list (function_as fate w)))
function_joined a b m id f d fate there at is w e =
    let same : function_in a f ≡ w = same_Some (function_in a f) w (sym (function_at a id f at) ∙ e) in
    let one = ap (λ x. x ∷ []) (is ∙ ap (λ (x : Function). function_declared fate x) same) ∙ function_becomes fate w there in
    ap (λ xs. with_functions m (m.functions ++ xs)) one

-- nothing is joined where it is left out
pub functions_stay : (m : Module) → m ≡ with_functions m (m.functions ++ [])
functions_stay m = λ i. record m { functions = sym (append-nil m.functions) i }
