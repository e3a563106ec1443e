-- The body of a kept function, copied, gives the blocks that it had.
use Rattle.std.proofs.Common.{◌≡◌, ℕ, List, [], map, flat_map, length, slice_get, Option, Some, None, All, sym, subst, ap, ◌∙◌}
use Rattle.std.specs.Prelude.{option_to_list}
use Rattle.std.specs.Option.{option_map, option_map_or}
use Rattle.std.proofs.lemmas.List.{length-map}
use Rattle.std.proofs.lemmas.List.Elements.{All-head}
use Rattle.type_table.specs.Types.{trees}
use Rattle.module_arena.specs.declared.entry.Body.{Body}
use Rattle.module_arena.specs.declared.entry.Function as the_function
use Rattle.module_arena.specs.declared.entry.Parameter as the_parameter
use Rattle.module_arena.specs.Changes.{defined, blocks_in, function_in}
use Rattle.module_arena.specs.Known.{IsGood, KnowsFunction, KnowsBody}
use Rattle.module_arena.specs.Lists.{Lists}
use Rattle.module_arena.specs.Module.{LocalName, Parameter}
use Rattle.module_arena.specs.Renamed.{renamed_block, own}
use Rattle.module_arena.specs.UsedNames.{names_in_block, names_in_function}
use Rattle.module_arena.specs.View.{module_of, local_view, parameter_view}
use Rattle.module_arena.proofs.Renamed.{map_stays, block_stays}
use Rattle.entry_copy.specs.Copies.{HasNew, IsBody, blocks_of}
use Rattle.entry_copy.specs.Tables.{Tables}
use Rattle.extract_rules.proofs.Entries.{all_get}
use Rattle.extract_rules.proofs.Keeping.{function_at}
use Rattle.extract_core.specs.declared.fates.fates.Fate.TheVariants.{Kept}
use Rattle.extract_core.specs.Fates.Fates.{function_as}
use Rattle.extract_core.specs.Defining.Filling.{defined_by, defined_as}
use Rattle.extract_core.proofs.OnDefining.Filled.{blocks_there}
use Rattle.item_build.proofs.OnTypes.Made.{map_twice}

-- what the parameters of a function are called
abbrev pub parameter_names : the_function.Function → List LocalName
parameter_names f = map (λ (p : the_parameter.Parameter). local_view p.name) f.parameters

module _ (a : Lists) (id : ℕ) (f : the_function.Function) (body : Body) (at : slice_get a.functions id ≡ Some f) (is : f.body ≡ Some body) where
  pub body_known : IsGood a → KnowsBody (length a.table.types) (length a.constants) (length (parameter_names f)) body
  body_known good =
      let knows : ℕ → Body → Type 0 = KnowsBody (length a.table.types) (length a.constants) in
      let known = all_get (KnowsFunction (length a.table.types) (length a.constants)) a.functions id f good.functions at in
      subst (λ n. knows n body) (sym (length-map f.parameters (λ (p : the_parameter.Parameter). local_view p.name)))
      (All-head (knows (length f.parameters)) body [] (subst (λ (o : Option Body). All (knows (length f.parameters)) (option_to_list o)) is known.body_known))

  pub body_named : (t : Tables) → All (HasNew a t) (names_in_function (function_in a f)) → All (HasNew a t) (flat_map names_in_block (blocks_of a (parameter_names f) body))
  body_named t named = subst (λ (o : Option Body). All (HasNew a t) (option_map_or (flat_map names_in_block) (option_map (blocks_of a (parameter_names f)) o) [])) is named

  module _ (b : Lists) (new : ℕ) (g : the_function.Function) (there : slice_get b.functions new ≡ Some g) (same : (function_in b g).parameters ≡ (function_in a f).parameters)
      (copy : Body) (copied : IsBody b (parameter_names f) copy (map (renamed_block own own) (blocks_of a (parameter_names f) body))) where
    pub copy_known : KnowsBody (length b.table.types) (length b.constants) (length g.parameters) copy
    copy_known =
        let as_many : length (parameter_names f) ≡ length g.parameters
        = length-map f.parameters (λ (p : the_parameter.Parameter). local_view p.name) ∙ sym (length-map f.parameters (parameter_view (trees a.table))) ∙ ap length (sym same) ∙ length-map g.parameters (parameter_view (trees b.table)) in
        subst (λ n. KnowsBody (length b.table.types) (length b.constants) n copy) as_many copied.known

    pub defined_there : defined (module_of b) new (blocks_in b copy) ≡ defined_as (module_of b) new (function_as Kept (function_in a f))
    defined_there =
        let called : map (λ (p : Parameter). p.name) (function_in b g).parameters ≡ parameter_names f
        = ap (map (λ (p : Parameter). p.name)) same ∙ map_twice (parameter_view (trees a.table)) (λ (p : Parameter). p.name) f.parameters in
        let blocks : blocks_in b copy (function_in b g) ≡ blocks_of a (parameter_names f) body
        = ap (λ ns. blocks_of b ns copy) called ∙ copied.blocks ∙ map_stays (renamed_block own own) block_stays (blocks_of a (parameter_names f) body) in
        ap (λ l. record (module_of b) { functions = l }) (blocks_there (module_of b).functions new (function_in b g) (blocks_in b copy) (blocks_of a (parameter_names f) body) (function_at b new g there) blocks)
        ∙ sym (ap (λ (o : Option Body). defined_by (module_of b) new (option_map (blocks_of a (parameter_names f)) o)) is)

-- nothing is defined where there is no body
pub no_body_there : (a b : Lists) (new : ℕ) (f : the_function.Function) → f.body ≡ None → module_of b ≡ defined_as (module_of b) new (function_as Kept (function_in a f))
no_body_there a b new f is = sym (ap (λ (o : Option Body). defined_by (module_of b) new (option_map (blocks_of a (parameter_names f)) o)) is)
