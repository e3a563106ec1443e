-- The body of a function that is defined, copied, gives the blocks that the linked module has.
use Rattle.std.proofs.Common.{◌≡◌, ℕ, List, [], map, length, slice_get, set, Option, Some, None, All, sym, subst, ap, ◌∙◌}
use Rattle.std.specs.Option.{option_map, option_map_or}
use Rattle.std.specs.Prelude.{option_to_list}
use Rattle.std.proofs.lemmas.List.{length-map}
use Rattle.std.proofs.lemmas.List.Elements.{All-head}
use Rattle.type_table.specs.Types.{trees}
use Rattle.module_arena.specs.Changes.{blocks_in, changed_at, defined, function_in}
use Rattle.module_arena.specs.Known.{IsGood, KnowsBody, KnowsFunction}
use Rattle.module_arena.specs.Lists.{Lists}
use Rattle.module_arena.specs.Module.{Block, Bytes, Function, LocalName, Module, Parameter}
use Rattle.module_arena.specs.Renamed.{renamed_block}
use Rattle.module_arena.specs.View.{local_view, module_of, parameter_view}
use Rattle.module_arena.specs.declared.entry.Body.{Body}
use Rattle.module_arena.specs.declared.entry.Function as the_function
use Rattle.module_arena.specs.declared.entry.GlobalId.TheVariants as global
use Rattle.module_arena.specs.declared.entry.Parameter as the_parameter
use Rattle.linkage_rules.specs.declared.entry.EntryId.{EntryId}
use Rattle.linkage_rules.specs.declared.symbol.SymbolKind.TheVariants as kind
use Rattle.linkage_rules.specs.Entries.{Entry}
use Rattle.linkage_rules.specs.Globals.{OfFunction}
use Rattle.linkage_rules.specs.Ids.{modules}
use Rattle.linkage_rules.proofs.Seen.{function_seen}
use Rattle.linkage_rules.proofs.Steps.{all_get}
use Rattle.link_rules.specs.Linked.{linked_block, linked_definition, linked_parameter}
use Rattle.link_rules.specs.Rename.{new_global}
use Rattle.link_rules.specs.Structs.{linked_type, new_struct}
use Rattle.item_build.specs.Types.Parameters.{without_body}
use Rattle.entry_copy.specs.Copies.{IsBody, blocks_of}
use Rattle.entry_copy.specs.Tables.{Tables}
use Rattle.module_linker.specs.Stages.Filled.{defined_as, with_blocks}
use Rattle.module_linker.specs.Stages.Definitions.{definition_of, entries_defined}
use Rattle.module_linker.specs.Filling.Filling.{IsBare, IsBareEntry}
use Rattle.module_linker.proofs.OnFilling.Bare.{function_bare, function_found}
use Rattle.item_build.proofs.OnTypes.Made.{map_twice}

-- what the parameters of a function are called
abbrev pub parameter_names : the_function.Function → List LocalName
parameter_names f = map (λ (p : the_parameter.Parameter). local_view p.name) f.parameters

-- a function of part i under that name, as it is written in the linked module
abbrev pub function_linked : List Module → ℕ → Bytes → Function → Function
function_linked parts i name f = record {
  name = name;
  linkage = f.linkage;
  returns = linked_type parts i f.returns;
  parameters = map (linked_parameter parts i) f.parameters;
  variadic = f.variadic;
  body = option_map (map (linked_block parts i)) f.body;
}

-- blocks that depend on the function are those of the function that is there
blocks_there : (fs : List Function) (k : ℕ) (g : Function) (blocks : Function → List Block) (found : List Block) → slice_get fs k ≡ Some g → blocks g ≡ found
    → changed_at fs k (λ f. record f { body = Some (blocks f) }) ≡ changed_at fs k (λ f. record f { body = Some found })
blocks_there fs k g blocks found at same =
    ap (λ o. option_map_or (λ (x : Function). set fs k (record x { body = Some (blocks x) })) o fs) at
    ∙ ap (λ l. set fs k (record g { body = Some l })) same
    ∙ sym (ap (λ o. option_map_or (λ (x : Function). set fs k (record x { body = Some found })) o fs) at)

module _ (parts : List Lists) (home : EntryId) (a : Lists) (there : slice_get parts home.part ≡ Some a) (is : home.kind ≡ kind.Function) (f : the_function.Function) (at : slice_get a.functions home.number ≡ Some f) where
  -- what is written of it
  abbrev pub linked_here : Bytes → Function
  linked_here name = function_linked (modules parts) home.part name (function_in a f)

  pub function_written : (ids : List EntryId) (name : Bytes) → definition_of parts home ids name ≡ OfFunction (linked_here name)
  function_written ids name =
      let es = entries_defined parts ids in
      ap (λ (e : Entry). linked_definition (modules parts) name e es e.global) (function_seen parts home a there f is at)

  -- nothing is defined where there is no body
  pub no_body_written : (m : Module) (new : ℕ) (ids : List EntryId) (name : Bytes) → f.body ≡ None → m ≡ defined_as m (global.Function new) (definition_of parts home ids name)
  no_body_written m new ids name none =
      sym (ap (defined_as m (global.Function new)) (function_written ids name) ∙ ap (λ (o : Option Body). with_blocks m new (option_map (map (linked_block (modules parts) home.part)) (option_map (blocks_of a (parameter_names f)) o))) none)

  module _ (body : Body) (given : f.body ≡ Some body) where
    pub body_known : IsGood a → KnowsBody (length a.table.types) (length a.constants) (length (parameter_names f)) body
    body_known good =
        let knows : ℕ → Body → Type 0 = KnowsBody (length a.table.types) (length a.constants) in
        let known = all_get (KnowsFunction (length a.table.types) (length a.constants)) a.functions home.number f good.functions at in
        subst (λ n. knows n body) (sym (length-map f.parameters (λ (p : the_parameter.Parameter). local_view p.name)))
        (All-head (knows (length f.parameters)) body [] (subst (λ (o : Option Body). All (knows (length f.parameters)) (option_to_list o)) given known.body_known))

    module _ (b : Lists) (new : ℕ) (name : Bytes) (g : the_function.Function) (found : slice_get b.functions new ≡ Some g) (bare : function_in b g ≡ without_body (linked_here name)) (copy : Body)
        (copied : IsBody b (parameter_names f) copy (map (renamed_block (new_struct (modules parts) home.part) (new_global (modules parts) home.part)) (blocks_of a (parameter_names f) body))) where
      parameters_same : (function_in b g).parameters ≡ map (linked_parameter (modules parts) home.part) (function_in a f).parameters
      parameters_same = ap (λ (y : Function). y.parameters) bare

      pub copy_known : KnowsBody (length b.table.types) (length b.constants) (length g.parameters) copy
      copy_known =
          let many : length (parameter_names f) ≡ length g.parameters
          = length-map f.parameters (λ (p : the_parameter.Parameter). local_view p.name) ∙ sym (length-map f.parameters (parameter_view (trees a.table)))
          ∙ sym (length-map (function_in a f).parameters (linked_parameter (modules parts) home.part)) ∙ ap length (sym parameters_same) ∙ length-map g.parameters (parameter_view (trees b.table)) in
          subst (λ n. KnowsBody (length b.table.types) (length b.constants) n copy) many copied.known

      called : map (λ (p : Parameter). p.name) (function_in b g).parameters ≡ parameter_names f
      called =
          ap (map (λ (p : Parameter). p.name)) parameters_same
          ∙ map_twice (linked_parameter (modules parts) home.part) (λ (p : Parameter). p.name) (function_in a f).parameters
          ∙ map_twice (parameter_view (trees a.table)) (λ (p : Parameter). p.name) f.parameters

      pub body_written : (ids : List EntryId) (other : Bytes) → defined (module_of b) new (blocks_in b copy) ≡ defined_as (module_of b) (global.Function new) (definition_of parts home ids other)
      body_written ids other =
          let whole : List Block = map (linked_block (modules parts) home.part) (blocks_of a (parameter_names f) body) in
          let blocks : blocks_in b copy (function_in b g) ≡ whole = ap (λ ns. blocks_of b ns copy) called ∙ copied.blocks in
          ap (λ l. record (module_of b) { functions = l }) (blocks_there (module_of b).functions new (function_in b g) (blocks_in b copy) whole (function_found b new g found) blocks)
          ∙ sym (ap (λ (o : Option Body). with_blocks (module_of b) new (option_map (map (linked_block (modules parts) home.part)) (option_map (blocks_of a (parameter_names f)) o))) given)
          ∙ sym (ap (defined_as (module_of b) (global.Function new)) (function_written ids other))

-- a function that is declared is there, without its body
pub bare_function : (parts : List Lists) (tables : List Tables) (home : EntryId) (ids : List EntryId) (name : Bytes) (a b : Lists) (t : Tables) (id : ℕ) (h : IsBareEntry parts tables home ids name a b t (global.Function id)) (is : home.kind ≡ kind.Function)
    (f : the_function.Function) (at : slice_get a.functions home.number ≡ Some f)
    → (g : the_function.Function) × (slice_get b.functions id ≡ Some g) × (function_in b g ≡ without_body (linked_here parts home a h.there is f at name))
bare_function parts tables home ids name a b t id h is f at =
    function_bare b id (linked_here parts home a h.there is f at name) (subst (IsBare b (global.Function id)) (function_written parts home a h.there is f at ids name) h.is_bare)
