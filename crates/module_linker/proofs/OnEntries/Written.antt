-- What is written of the entry with an id, by what its part's arena holds there.
use Rattle.std.proofs.Common.{◌≡◌, ℕ, ◌<◌, List, [], map, true, length, slice_get, Option, Some, None, All, sym, subst, ap, ◌∙◌, arith}
use Rattle.std.specs.Prelude.{option_to_list}
use Rattle.std.specs.Option.{option_map}
use Rattle.std.proofs.lemmas.List.Elements.{All-nil}
use Rattle.ir_tables.specs.declared.linkage.Linkage.{Linkage}
use Rattle.type_table.specs.Types.{trees}
use Rattle.module_arena.specs.declared.entry.Alias as the_alias
use Rattle.module_arena.specs.declared.entry.AliasType as the_alias_type
use Rattle.module_arena.specs.declared.entry.Body.{Body}
use Rattle.module_arena.specs.declared.entry.Function as the_function
use Rattle.module_arena.specs.declared.entry.GlobalId.{GlobalId}
use Rattle.module_arena.specs.declared.entry.Parameter as the_parameter
use Rattle.module_arena.specs.declared.entry.Variable as the_variable
use Rattle.module_arena.specs.Changes.{variable_in, alias_in, function_in}
use Rattle.module_arena.specs.Known.{counts, HasGlobal, KnowsVariable, KnowsAlias, KnowsFunction, KnowsBody, alias_types}
use Rattle.module_arena.specs.Lists.{Lists}
use Rattle.module_arena.specs.Module.{Bytes, Variable, Alias, Function}
use Rattle.module_arena.specs.Renamed.{renamed_alias_type}
use Rattle.module_arena.specs.View.{type_at, parameter_view, alias_type_view}
use Rattle.linkage_rules.specs.declared.entry.EntryId.{EntryId}
use Rattle.linkage_rules.specs.declared.symbol.SymbolKind.TheVariants as kind
use Rattle.linkage_rules.specs.Entries.{Entry}
use Rattle.linkage_rules.specs.Globals.{OfVariable, OfFunction, OfAlias, is_alias, type_of}
use Rattle.linkage_rules.specs.Ids.{IsEntryId, modules, seen, global_of}
use Rattle.linkage_rules.proofs.Seen.{get_within, known_global, variable_seen, function_seen, alias_seen}
use Rattle.link_rules.specs.Linked.{joined_type, joined_alignment, joined_initialiser, linked_alias, linked_block, linked_declaration, linked_definition, linked_parameter, declared_parameters}
use Rattle.link_rules.specs.Structs.{new_struct, linked_type}
use Rattle.item_build.specs.Types.Declarations.{without_initialiser, without_target}
use Rattle.item_build.specs.Types.Parameters.{AreParameters, without_body}
use Rattle.item_build.specs.Types.Stands.{IsType}
use Rattle.entry_copy.specs.Copies.{IsAliasType}
use Rattle.entry_copy.specs.Tables.{Tables, new_type}
use Rattle.module_linker.specs.Stages.Ground.{HasTypes}
use Rattle.module_linker.specs.Entries.Definitions.{entries_defined, joined_of, definition_of, declared_as}

-- ---- ids

pub variable_within : (parts : List Lists) (id : EntryId) (a : Lists) → slice_get parts id.part ≡ Some a → IsEntryId parts id → id.kind ≡ kind.Variable → id.number < length a.variables
variable_within parts id a there known is = subst (λ k. HasGlobal (counts a) (global_of k id.number)) is (known_global parts id a known there)

-- ---- types

-- each type of a part has its new id
pub type_there : (parts : List Lists) (i : ℕ) (a b : Lists) (t : Tables) → HasTypes (modules parts) i a b t → (ty : ℕ) → ty < length a.table.types → IsType b (new_type t ty) (linked_type (modules parts) i (type_at (trees a.table) ty))
type_there parts i a b t h ty lt = let all = h.all in h.copies.types ty (omega (arith, all, lt))

-- what is declared is known
pub variable_known : (b : Lists) (d : the_variable.Variable) → d.ty < length b.table.types → d.initialiser ≡ None → KnowsVariable (length b.table.types) (length b.constants) d
variable_known b d lt none = record { ty_known = lt; initialiser_known = subst (λ (o : Option ℕ). All (λ i. i < length b.constants) (option_to_list o)) (sym none) (All-nil (λ i. i < length b.constants)) }

pub function_known : (b : Lists) (d : the_function.Function) → d.result < length b.table.types → All (λ (p : the_parameter.Parameter). p.ty < length b.table.types) d.parameters → d.body ≡ None
    → KnowsFunction (length b.table.types) (length b.constants) d
function_known b d lt known none = record {
  result_known = lt;
  parameters_known = known;
  body_known = subst (λ (o : Option Body). All (KnowsBody (length b.table.types) (length b.constants) (length d.parameters)) (option_to_list o)) (sym none) (All-nil (KnowsBody (length b.table.types) (length b.constants) (length d.parameters)));
}

pub alias_known : (b : Lists) (d : the_alias.Alias) → All (λ i. i < length b.table.types) (alias_types d.ty) → d.target ≡ None → KnowsAlias (length b.table.types) (counts b) d
alias_known b d known none = record { types_known = known; target_known = subst (λ (o : Option GlobalId). All (HasGlobal (counts b)) (option_to_list o)) (sym none) (All-nil (HasGlobal (counts b))) }

module _ (parts : List Lists) (id : EntryId) (a : Lists) (there : slice_get parts id.part ≡ Some a) (name : Bytes) where
  -- ---- a variable

  module _ (v : the_variable.Variable) (is : id.kind ≡ kind.Variable) (at : slice_get a.variables id.number ≡ Some v) where
    pub variable_here : (seen (modules parts) id).global ≡ OfVariable (variable_in a v)
    variable_here = ap (λ (e : Entry). e.global) (variable_seen parts id a there v is at)

    -- as it is defined there
    abbrev pub defined_variable : List EntryId → Variable
    defined_variable ids = record {
      name = name;
      linkage = v.linkage;
      constant = v.constant;
      ty = joined_of parts id ids;
      alignment = joined_alignment (modules parts) (seen (modules parts) id) (entries_defined parts ids);
      initialiser = joined_initialiser (modules parts) (seen (modules parts) id) (entries_defined parts ids) (variable_in a v).initialiser;
    }

    pub variable_defined : (ids : List EntryId) → definition_of parts id ids name ≡ OfVariable (defined_variable ids)
    variable_defined ids =
        ap (linked_definition (modules parts) name (seen (modules parts) id) (entries_defined parts ids)) variable_here
        ∙ ap (λ t. OfVariable (record (defined_variable ids) { ty = joined_type (modules parts) (seen (modules parts) id) (entries_defined parts ids) t })) (sym (ap type_of variable_here))

    pub variable_is : (ids : List EntryId) (b : Lists) (called : Bytes) (ty : ℕ) (alignment : Option ℕ) → called ≡ name → IsType b ty (joined_of parts id ids)
        → alignment ≡ joined_alignment (modules parts) (seen (modules parts) id) (entries_defined parts ids)
        → variable_in b (record { name = called; linkage = v.linkage; constant = v.constant; ty = ty; alignment = alignment; initialiser = None }) ≡ without_initialiser (defined_variable ids)
    variable_is ids b called ty alignment same typed aligned =
        let tree = typed.tree in
        λ i. record { name = same i; linkage = v.linkage; constant = v.constant; ty = tree i; alignment = aligned i; initialiser = None }

    -- as it is declared
    abbrev pub declared_variable : Linkage → Variable
    declared_variable linkage = record {
      name = name;
      linkage = linkage;
      constant = v.constant;
      ty = linked_type (modules parts) id.part (type_at (trees a.table) v.ty);
      alignment = v.alignment;
      initialiser = None;
    }

    pub variable_declared : (linkage : Linkage) → declared_as parts linkage id name ≡ OfVariable (declared_variable linkage)
    variable_declared linkage = ap (linked_declaration linkage (modules parts) name id.part) variable_here

    pub declared_variable_is : (linkage : Linkage) (b : Lists) (called : Bytes) (ty : ℕ) → called ≡ name → IsType b ty (linked_type (modules parts) id.part (type_at (trees a.table) v.ty))
        → variable_in b (record { name = called; linkage = linkage; constant = v.constant; ty = ty; alignment = v.alignment; initialiser = None }) ≡ without_initialiser (declared_variable linkage)
    declared_variable_is linkage b called ty same typed =
        let tree = typed.tree in
        λ i. record { name = same i; linkage = linkage; constant = v.constant; ty = tree i; alignment = v.alignment; initialiser = None }

  -- ---- a function

  module _ (f : the_function.Function) (is : id.kind ≡ kind.Function) (at : slice_get a.functions id.number ≡ Some f) where
    abbrev pub defined_function : Function
    defined_function = record {
      name = name;
      linkage = f.linkage;
      returns = linked_type (modules parts) id.part (type_at (trees a.table) f.result);
      parameters = map (linked_parameter (modules parts) id.part) (map (parameter_view (trees a.table)) f.parameters);
      variadic = f.variadic;
      body = option_map (map (linked_block (modules parts) id.part)) (function_in a f).body;
    }

    pub function_defined : (ids : List EntryId) → definition_of parts id ids name ≡ OfFunction defined_function
    function_defined ids = ap (λ (e : Entry). linked_definition (modules parts) name e (entries_defined parts ids) e.global) (function_seen parts id a there f is at)

    abbrev pub declared_function : Linkage → Function
    declared_function linkage = record {
      name = name;
      linkage = linkage;
      returns = linked_type (modules parts) id.part (type_at (trees a.table) f.result);
      parameters = declared_parameters (modules parts) id.part 0 (map (parameter_view (trees a.table)) f.parameters);
      variadic = f.variadic;
      body = None;
    }

    pub function_declared : (linkage : Linkage) → declared_as parts linkage id name ≡ OfFunction (declared_function linkage)
    function_declared linkage = ap (λ (e : Entry). linked_declaration linkage (modules parts) name id.part e.global) (function_seen parts id a there f is at)

    pub function_is : (g : Function) (b : Lists) (called : Bytes) (linkage : Linkage) (returns : ℕ) (ps : List the_parameter.Parameter) → g.name ≡ name → g.linkage ≡ linkage → g.variadic ≡ f.variadic
        → called ≡ name → IsType b returns g.returns → AreParameters b ps g.parameters
        → function_in b (record { name = called; linkage = linkage; result = returns; parameters = ps; variadic = f.variadic; body = None }) ≡ without_body g
    function_is g b called linkage returns ps own link variadic same typed are =
        let tree = typed.tree in
        let parameters = are.parameters in
        let names : called ≡ g.name = same ∙ sym own in
        let linkages = sym link in
        let variadics = sym variadic in
        λ i. record { name = names i; linkage = linkages i; returns = tree i; parameters = parameters i; variadic = variadics i; body = None }

  -- ---- an alias

  module _ (x : the_alias.Alias) (is : id.kind ≡ kind.Alias) (at : slice_get a.aliases id.number ≡ Some x) where
    abbrev pub defined_alias : Alias
    defined_alias = linked_alias (modules parts) name id.part (alias_in a x)

    pub alias_defined : (ids : List EntryId) → definition_of parts id ids name ≡ OfAlias defined_alias
    alias_defined ids = ap (λ (e : Entry). linked_definition (modules parts) name e (entries_defined parts ids) e.global) (alias_seen parts id a there x is at)

    pub alias_is : (b : Lists) (called : Bytes) (ty : the_alias_type.AliasType) → called ≡ name → IsAliasType b ty (renamed_alias_type (new_struct (modules parts) id.part) (alias_type_view (trees a.table) x.ty))
        → alias_in b (record { name = called; linkage = x.linkage; ty = ty; target = None }) ≡ without_target defined_alias
    alias_is b called ty same typed =
        let view = typed.ty in
        λ i. record { name = same i; linkage = x.linkage; ty = view i; target = [] }

-- what is of that kind is one
pub kind_alias : (parts : List Lists) (id : EntryId) → IsEntryId parts id → id.kind ≡ kind.Alias → is_alias (seen (modules parts) id).global ≡ true
kind_alias parts id known is =
    let x = get_within known.0.aliases id.number (subst (λ k. HasGlobal (counts known.0) (global_of k id.number)) is known.2) in
    ap (λ (e : Entry). is_alias e.global) (alias_seen parts id known.0 known.1 x.0 is x.1)
