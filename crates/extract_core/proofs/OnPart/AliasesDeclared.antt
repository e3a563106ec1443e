-- An alias is declared as what it becomes: an alias, a variable or a function.
use Rattle.std.proofs.Common.{◌≡◌, ℕ, ◌+◌, ◌<◌, Bool, false, List, [], ◌∷◌, ◌++◌, map, length, slice_get, Option, Some, None, All, refl, sym, subst, ap, ◌∙◌, append-nil, bytes_eq, arith}
use Rattle.std.specs.Prelude.{option_to_list, ◌&&◌}
use Rattle.std.specs.List.{list_any}
use Rattle.std.proofs.lemmas.Option.{same_Some, slice_get-map}
use Rattle.std.proofs.lemmas.List.Elements.{All-head, All-nil}
use Rattle.std.specs.Option.{option_map, option_map_or}
use Rattle.ir_tables.specs.declared.linkage.Linkage.{Linkage}
use Rattle.ir_tables.specs.declared.linkage.Linkage.TheVariants.{External}
use Rattle.type_table.specs.Types.{trees}
use Rattle.module_arena.specs.declared.entry.AliasType as the_alias_type
use Rattle.module_arena.specs.declared.entry.AliasType.TheVariants as alias_type
use Rattle.module_arena.specs.declared.entry.Alias as the_alias
use Rattle.module_arena.specs.declared.entry.Function as the_function
use Rattle.module_arena.specs.declared.entry.GlobalId.{GlobalId}
use Rattle.module_arena.specs.declared.entry.GlobalId.TheVariants as global
use Rattle.module_arena.specs.declared.entry.Parameter as the_parameter
use Rattle.module_arena.specs.declared.entry.Variable as the_variable
use Rattle.module_arena.specs.Changes.{with_variable, with_alias, with_function, variable_in, alias_in, function_in, more_variables, more_aliases, more_functions}
use Rattle.module_arena.specs.Functions.{alias_names, numbered_parameters}
use Rattle.module_arena.specs.Known.{Counts, counts, HasGlobal, AreDistinct, IsGood, KnowsAlias, alias_types}
use Rattle.module_arena.specs.Lists.{Lists, global_name, name_at}
use Rattle.module_arena.specs.Module.{Bytes, Variable, Alias, Module}
use Rattle.module_arena.specs.View.{module_of, type_at, constants_of, variable_view, alias_type_view}
use Rattle.module_arena.specs.Renamed.{renamed_alias_type, own}
use Rattle.module_arena.proofs.Renamed.{alias_type_stays}
use Rattle.item_build.specs.Types.Declarations.{IsFree, AreFew, one_variable_more, one_alias_more, one_function_more}
use Rattle.item_build.specs.Types.Parameters.{AreParameters}
use Rattle.item_build.specs.Types.Stands.{IsType}
use Rattle.item_build.proofs.OnTypes.Untargeted.{untargeted_more}
use Rattle.entry_copy.specs.Copies.{IsAliasType}
use Rattle.entry_copy.proofs.ConstantsCopied.{name_is as name_here}
use Rattle.extract_rules.specs.Extracted.{kept_linkage, is_constant, alias_as_variable, alias_as_function}
use Rattle.extract_rules.proofs.Among.{any_key}
use Rattle.extract_rules.proofs.Entries.{at_one, nowhere, name_is, all_get}
use Rattle.extract_rules.proofs.Keeping.{alias_at}
use Rattle.extract_core.specs.declared.fates.fates.Fate.TheVariants.{Kept, Declared, LeftOut}
use Rattle.extract_core.specs.Declaring.Declaring.{AreFewer, IsDeclaring}
use Rattle.extract_core.specs.Part.AliasesThere.{with_declared, with_alias_as, aliases_through}
use Rattle.extract_core.proofs.OnDeclaring.Declared.{either_variable, fewer_on}
use Rattle.extract_core.proofs.OnPart.DeclaredNext.{either_alias, either_function, fewer_as_variable, fewer_with_alias, fewer_as_function}
use Rattle.extract_core.proofs.OnDeclaring.Room.{free_name, wider, stands_on, stands_one_more, less_within, within_limits, fewer_within, no_excess}

-- the name of an alias
pub alias_called_so : (a : Lists) (id : ℕ) (x : the_alias.Alias) → slice_get a.aliases id ≡ Some x → global_name a (global.Alias id) ≡ Some x.name
alias_called_so a id x at = ap (option_map (λ (w : the_alias.Alias). w.name)) at

-- the same in the module
pub alias_listed : (a : Lists) (id : ℕ) (x : the_alias.Alias) → slice_get a.aliases id ≡ Some x → slice_get (alias_names (module_of a)) id ≡ Some x.name
alias_listed a id x at = slice_get-map (λ (w : Alias). w.name) (module_of a).aliases id ∙ ap (option_map (λ (w : Alias). w.name)) (alias_at a id x at)

-- ---- names and counts

module _ (a b : Lists) (id : ℕ) (old : IsDeclaring a (aliases_through a id) b) where
  abbrev before : Counts
  before = aliases_through a id

  abbrev after : Counts
  after = aliases_through a (id + 1)

  -- its name is free
  pub alias_free : (name : Bytes) → AreDistinct a → global_name a (global.Alias id) ≡ Some name → IsFree b name
  alias_free name distinct called = free_name a b before (global.Alias id) name distinct old.stand called (λ lt. omega (arith, lt))

  few : IsGood a → id < length a.aliases → (now : Counts) → AreFewer after now → AreFew now
  few good lt now one =
      no_excess now (fewer_within after now (less_within after (counts a) (omega arith) (omega arith) (omega (arith, lt)) (within_limits (counts a) good.few)) one)

  -- there is room for an alias, a variable or a function
  pub alias_few : IsGood a → id < length a.aliases → AreFew (one_alias_more b)
  alias_few good lt =
      let f = old.fewer in
      let xs = f.aliases in
      few good lt (one_alias_more b) (record { as_variables = f.as_variables; as_functions = f.as_functions; variables = f.variables; functions = f.functions; aliases = omega (arith, xs) })

  pub variable_few : IsGood a → id < length a.aliases → AreFew (one_variable_more b)
  variable_few good lt =
      let f = old.fewer in
      let vs = f.variables in
      let xs = f.aliases in
      few good lt (one_variable_more b) (record { as_variables = f.as_variables + 1; as_functions = f.as_functions; variables = omega (arith, vs); functions = f.functions; aliases = omega (arith, xs) })

  pub function_few : IsGood a → id < length a.aliases → AreFew (one_function_more b)
  function_few good lt =
      let f = old.fewer in
      let fs = f.functions in
      let xs = f.aliases in
      few good lt (one_function_more b) (record { as_variables = f.as_variables; as_functions = f.as_functions + 1; variables = f.variables; functions = omega (arith, fs); aliases = omega (arith, xs) })

  -- one alias more is through
  pub alias_more : (d : the_alias.Alias) → d.target ≡ None → global_name a (global.Alias id) ≡ Some d.name → IsDeclaring a (aliases_through a (id + 1)) (with_alias b d)
  alias_more d none called = record {
    stand = stands_one_more a b (with_alias b d) before after (global.Alias id) d.name called (omega arith) old.stand (wider before after (omega arith) (omega arith) (omega arith)) (either_alias b d);
    fewer = fewer_with_alias b d before old.fewer;
    untargeted = untargeted_more b (with_alias b d) d none refl old.untargeted;
  }

  pub variable_more : (d : the_variable.Variable) → global_name a (global.Alias id) ≡ Some d.name → IsDeclaring a (aliases_through a (id + 1)) (with_variable b d)
  variable_more d called = record {
    stand = stands_one_more a b (with_variable b d) before after (global.Alias id) d.name called (omega arith) old.stand (wider before after (omega arith) (omega arith) (omega arith)) (either_variable b d);
    fewer = fewer_as_variable b d before old.fewer;
    untargeted = λ k x le is. old.untargeted k x le is;
  }

  pub function_more : (d : the_function.Function) → global_name a (global.Alias id) ≡ Some d.name → IsDeclaring a (aliases_through a (id + 1)) (with_function b d)
  function_more d called = record {
    stand = stands_one_more a b (with_function b d) before after (global.Alias id) d.name called (omega arith) old.stand (wider before after (omega arith) (omega arith) (omega arith)) (either_function b d);
    fewer = fewer_as_function b d before old.fewer;
    untargeted = λ k x le is. old.untargeted k x le is;
  }

  pub alias_passed : IsDeclaring a (aliases_through a (id + 1)) b
  alias_passed = record {
    stand = stands_on a b before after (omega arith) (omega arith) (omega arith) old.stand;
    fewer = fewer_on before after (counts b) (omega arith) (omega arith) (omega arith) old.fewer;
    untargeted = old.untargeted;
  }

-- ---- whether a variable is never written

module _ (a : Lists) (distinct : AreDistinct a) where
  named_there : (g : GlobalId) (name : Bytes) → global_name a g ≡ Some name → (j : ℕ) (y : the_variable.Variable) → slice_get a.variables j ≡ Some y → y.name ≡ name → global.Variable j ≡ g
  named_there g name called j y at same = distinct name (global.Variable j) g (ap (option_map (λ (w : the_variable.Variable). w.name)) at ∙ ap Some same) called

  constant_any : (name : Bytes) → is_constant (module_of a) name ≡ list_any (λ (v : the_variable.Variable). bytes_eq name v.name && v.constant) a.variables
  unfolding module_of
  constant_any name = any_key (variable_view (trees a.table) (constants_of a)) (λ (v : Variable). bytes_eq name v.name && v.constant) a.variables

  pub variable_constant : (id : ℕ) (v : the_variable.Variable) → slice_get a.variables id ≡ Some v → v.constant ≡ is_constant (module_of a) (name_at a (global.Variable id))
  variable_constant id v at =
      let called : global_name a (global.Variable id) ≡ Some v.name = ap (option_map (λ (w : the_variable.Variable). w.name)) at in
      let name = name_is a (global.Variable id) v.name called in
      sym (constant_any (name_at a (global.Variable id))
      ∙ at_one (λ (w : the_variable.Variable). w.name) (λ (w : the_variable.Variable). w.constant) (name_at a (global.Variable id)) a.variables id v at (sym name)
      (λ j y is same. let g = named_there (global.Variable id) v.name called j y is (same ∙ name) in cc))

  pub function_not_constant : (id : ℕ) → id < length a.functions → false ≡ is_constant (module_of a) (name_at a (global.Function id))
  function_not_constant id lt =
      let called = name_here a (global.Function id) lt in
      sym (constant_any (name_at a (global.Function id))
      ∙ nowhere (λ (w : the_variable.Variable). w.name) (λ (w : the_variable.Variable). w.constant) (name_at a (global.Function id)) a.variables
      (λ j y is same. let g = named_there (global.Function id) (name_at a (global.Function id)) called j y is same in cc))

  pub alias_not_constant : (id : ℕ) → id < length a.aliases → false ≡ is_constant (module_of a) (name_at a (global.Alias id))
  alias_not_constant id lt =
      let called = name_here a (global.Alias id) lt in
      sym (constant_any (name_at a (global.Alias id))
      ∙ nowhere (λ (w : the_variable.Variable). w.name) (λ (w : the_variable.Variable). w.constant) (name_at a (global.Alias id)) a.variables
      (λ j y is same. let g = named_there (global.Alias id) (name_at a (global.Alias id)) called j y is same in cc))

-- ---- what is declared is known

pub alias_known : (b : Lists) (d : the_alias.Alias) → All (λ i. i < length b.table.types) (alias_types d.ty) → d.target ≡ None → KnowsAlias (length b.table.types) (counts b) d
alias_known b d known none = record {
  types_known = known;
  target_known = subst (λ (o : Option GlobalId). All (HasGlobal (counts b)) (option_to_list o)) (sym none) (All-nil (HasGlobal (counts b)));
}

-- the types that an alias writes are those of its arena
pub plain_known : (a : Lists) → IsGood a → (id : ℕ) (x : the_alias.Alias) (ty : ℕ) → slice_get a.aliases id ≡ Some x → x.ty ≡ alias_type.Plain ty → ty < length a.table.types
plain_known a good id x ty at is =
    All-head (λ i. i < length a.table.types) ty [] (subst (λ y. All (λ i. i < length a.table.types) (alias_types y)) is (all_get (KnowsAlias (length a.table.types) (counts a)) a.aliases id x good.aliases at).types_known)

pub signature_known : (a : Lists) → IsGood a → (id : ℕ) (x : the_alias.Alias) (returns : ℕ) (ps : List ℕ) (variadic : Bool) → slice_get a.aliases id ≡ Some x → x.ty ≡ alias_type.Function returns ps variadic
    → All (λ i. i < length a.table.types) (returns ∷ ps)
signature_known a good id x returns ps variadic at is = subst (λ y. All (λ i. i < length a.table.types) (alias_types y)) is (all_get (KnowsAlias (length a.table.types) (counts a)) a.aliases id x good.aliases at).types_known

-- ---- the module with it

module _ (a b : Lists) (m : Module) (id : ℕ) (x : the_alias.Alias) (at : slice_get a.aliases id ≡ Some x) where
  abbrev M : Module
  M = module_of a

  abbrev seen : Alias
  seen = alias_in a x

  same : (w : Alias) → slice_get M.aliases id ≡ Some w → seen ≡ w
  same w e = same_Some seen w (sym (alias_at a id x at) ∙ e)

  pub kept_joined : (name : Bytes) (linkage : Linkage) (ty : the_alias_type.AliasType) → name ≡ x.name → linkage ≡ kept_linkage x.linkage → IsAliasType b ty (renamed_alias_type own (alias_type_view (trees a.table) x.ty))
      → (w : Alias) → slice_get M.aliases id ≡ Some w → more_aliases m (alias_in b (record { name = name; linkage = linkage; ty = ty; target = None })) ≡ with_alias_as M m Kept w
  kept_joined name linkage ty called linked is w e =
      let view = is.ty ∙ alias_type_stays (alias_type_view (trees a.table) x.ty) in
      let whole : more_aliases m (alias_in b (record { name = name; linkage = linkage; ty = ty; target = None })) ≡ with_alias_as M m Kept seen =
      λ i. record m {
        variables = sym (append-nil m.variables) i;
        aliases = m.aliases ++ record { name = called i; linkage = linked i; ty = view i; target = [] } ∷ [];
        functions = sym (append-nil m.functions) i;
      } in
      whole ∙ ap (λ y. with_alias_as M m Kept y) (same w e)

  pub variable_joined : (name : Bytes) (constant : Bool) (ty new : ℕ) (g : GlobalId) → name ≡ x.name → x.ty ≡ alias_type.Plain ty → IsType b new (type_at (trees a.table) ty) → x.target ≡ Some g → constant ≡ is_constant M (name_at a g)
      → (w : Alias) → slice_get M.aliases id ≡ Some w
      → more_variables m (variable_in b (record { name = name; linkage = External; constant = constant; ty = new; alignment = None; initialiser = None })) ≡ with_alias_as M m Declared w
  variable_joined name constant ty new g called plain is target written w e =
      let tree = is.tree in
      let of_target : constant ≡ is_constant M seen.target = written ∙ ap (λ o. is_constant M (option_map_or (name_at a) o [])) (sym target) in
      let as_variable : Some (record { name = x.name; linkage = External; constant = is_constant M seen.target; ty = type_at (trees a.table) ty; alignment = None; initialiser = None }) ≡ alias_as_variable M seen.name seen.target seen.ty
      = ap (λ y. alias_as_variable M seen.name seen.target (alias_type_view (trees a.table) y)) (sym plain) in
      let as_function : None ≡ alias_as_function seen.name seen.ty = ap (λ y. alias_as_function seen.name (alias_type_view (trees a.table) y)) (sym plain) in
      let first : more_variables m (variable_in b (record { name = name; linkage = External; constant = constant; ty = new; alignment = None; initialiser = None }))
      ≡ with_declared m (option_to_list (Some (record { name = x.name; linkage = External; constant = is_constant M seen.target; ty = type_at (trees a.table) ty; alignment = None; initialiser = None }))) [] (option_to_list None) =
      λ i. record m {
        variables = m.variables ++ record { name = called i; linkage = External; constant = of_target i; ty = tree i; alignment = None; initialiser = None } ∷ [];
        aliases = sym (append-nil m.aliases) i;
        functions = sym (append-nil m.functions) i;
      } in
      first ∙ (λ i. with_declared m (option_to_list (as_variable i)) [] (option_to_list (as_function i))) ∙ ap (λ y. with_alias_as M m Declared y) (same w e)

  pub function_joined : (name : Bytes) (returns new : ℕ) (ps : List ℕ) (variadic : Bool) (copy : List the_parameter.Parameter) → name ≡ x.name → x.ty ≡ alias_type.Function returns ps variadic
      → IsType b new (type_at (trees a.table) returns) → AreParameters b copy (numbered_parameters 0 (map (type_at (trees a.table)) ps))
      → (w : Alias) → slice_get M.aliases id ≡ Some w
      → more_functions m (function_in b (record { name = name; linkage = External; result = new; parameters = copy; variadic = variadic; body = None })) ≡ with_alias_as M m Declared w
  function_joined name returns new ps variadic copy called plain is are w e =
      let tree = is.tree in
      let parameters = are.parameters in
      let as_variable : None ≡ alias_as_variable M seen.name seen.target seen.ty = ap (λ y. alias_as_variable M seen.name seen.target (alias_type_view (trees a.table) y)) (sym plain) in
      let as_function : Some (record { name = x.name; linkage = External; returns = type_at (trees a.table) returns; parameters = numbered_parameters 0 (map (type_at (trees a.table)) ps); variadic = variadic; body = None }) ≡ alias_as_function seen.name seen.ty
      = ap (λ y. alias_as_function seen.name (alias_type_view (trees a.table) y)) (sym plain) in
      let first : more_functions m (function_in b (record { name = name; linkage = External; result = new; parameters = copy; variadic = variadic; body = None }))
      ≡ with_declared m (option_to_list None) [] (option_to_list (Some (record { name = x.name; linkage = External; returns = type_at (trees a.table) returns; parameters = numbered_parameters 0 (map (type_at (trees a.table)) ps); variadic = variadic; body = None }))) =
      λ i. record m {
        variables = sym (append-nil m.variables) i;
        aliases = sym (append-nil m.aliases) i;
        functions = m.functions ++ record { name = called i; linkage = External; returns = tree i; parameters = parameters i; variadic = variadic; body = None } ∷ [];
      } in
      first ∙ (λ i. with_declared m (option_to_list (as_variable i)) [] (option_to_list (as_function i))) ∙ ap (λ y. with_alias_as M m Declared y) (same w e)

-- nothing is joined where it is left out
pub aliases_stay : (M m : Module) (w : Alias) → m ≡ with_alias_as M m LeftOut w
aliases_stay M m w = λ i. record m { variables = sym (append-nil m.variables) i; aliases = sym (append-nil m.aliases) i; functions = sym (append-nil m.functions) i }
