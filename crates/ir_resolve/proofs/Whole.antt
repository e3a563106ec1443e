-- The steps of a build, joined: texts and structs, then entries that are declared and completed.
use Rattle.std.proofs.Common.{◌≡◌, List, [], refl, sym, ap, ◌∙◌}
use Rattle.std.specs.Prelude.{filter_map}
use Rattle.std.proofs.lemmas.List.{append-nil}
use Rattle.ir_syntax.specs.Tree.{ItemTree}
use Rattle.type_table.specs.Types.{structs}
use Rattle.module_arena.specs.Lists.{Lists, no_lists}
use Rattle.module_arena.specs.Module.{Module}
use Rattle.module_arena.specs.View.{module_of}
use Rattle.module_arena.specs.WellFormed as formed
use Rattle.name_rules.specs.ModuleOf.{source_in, layout_in, triple_in, text_in, structs_in, variable_in, alias_in, function_in, module_of_items}
use Rattle.item_build.specs.Declaring.{declared_variables, declared_aliases, declared_functions, with_entries, with_declared, AreNamed}
use Rattle.item_build.specs.Completing.{with_targets, with_initialisers}
use Rattle.item_build.specs.Texts.{with_texts}
use Rattle.item_build.proofs.Completed.{targets_named, initialisers_named}
use Rattle.item_build.proofs.Declared.{declared_named, structs_kept}
use Rattle.item_build.specs.Partly.{with_structs}
use Rattle.ir_resolve.specs.Defining.{with_bodies}
use Rattle.ir_resolve.specs.Whole.{without_entries, with_items}

-- the structs of an arena are those of its module
pub structs_told : (a : Lists) (w : Module) → module_of a ≡ w → structs a.table ≡ w.structs
unfolding module_of
structs_told a w same = ap (λ (m : Module). m.structs) same

-- where nothing was there, the texts and the structs are all
pub nothing_else : (a : Lists) (items : List ItemTree) → a ≡ no_lists
    → with_structs (with_texts (module_of a) (text_in source_in items) (text_in layout_in items) (text_in triple_in items)) (structs_in items) ≡ without_entries items
unfolding module_of
nothing_else a items empty = ap (λ (w : Lists). with_structs (with_texts (module_of w) (text_in source_in items) (text_in layout_in items) (text_in triple_in items)) (structs_in items)) empty

module _ (items : List ItemTree) (a b : Lists) (declared : module_of b ≡ with_declared (module_of a) items) where
  -- ---- what is declared
  pub declared_structs : structs a.table ≡ structs_in items → structs b.table ≡ structs_in items
  declared_structs known = structs_kept a b (declared_variables items) (declared_aliases items) (declared_functions items) declared ∙ known

  pub names_declared : AreNamed (module_of b) items
  names_declared = declared_named b (module_of a) items declared

  pub aliases_declared : (module_of b).aliases ≡ declared_aliases items
  aliases_declared = ap (λ (m : Module). m.aliases) declared

  variables_declared : (module_of b).variables ≡ declared_variables items
  variables_declared = ap (λ (m : Module). m.variables) declared

  functions_declared : (module_of b).functions ≡ declared_functions items
  functions_declared = ap (λ (m : Module). m.functions) declared

  module _ (c : Lists) (targeted : module_of c ≡ with_targets (module_of b) items []) where
    -- ---- aliases that have their targets
    pub targeted_structs : structs a.table ≡ structs_in items → structs c.table ≡ structs_in items
    targeted_structs known = structs_told c (with_targets (module_of b) items []) targeted ∙ sym (structs_told b (module_of b) refl) ∙ declared_structs known

    pub names_targeted : AreNamed (module_of c) items
    names_targeted = ap formed.global_names targeted
        ∙ targets_named (module_of b) items [] (aliases_declared ∙ ap declared_aliases (sym (append-nil items)))
        ∙ names_declared

    pub variables_targeted : (module_of c).variables ≡ declared_variables items
    variables_targeted = ap (λ (m : Module). m.variables) targeted ∙ variables_declared

    functions_targeted : (module_of c).functions ≡ declared_functions items
    functions_targeted = ap (λ (m : Module). m.functions) targeted ∙ functions_declared

    module _ (d : Lists) (initialised : module_of d ≡ with_initialisers (module_of c) items []) where
      -- ---- variables that have their initialisers
      pub initialised_structs : structs a.table ≡ structs_in items → structs d.table ≡ structs_in items
      initialised_structs known = structs_told d (with_initialisers (module_of c) items []) initialised ∙ sym (structs_told c (module_of c) refl) ∙ targeted_structs known

      pub names_initialised : AreNamed (module_of d) items
      names_initialised = ap formed.global_names initialised
          ∙ initialisers_named (module_of c) items [] (variables_targeted ∙ ap declared_variables (sym (append-nil items)))
          ∙ names_targeted

      pub functions_initialised : (module_of d).functions ≡ declared_functions items
      functions_initialised = ap (λ (m : Module). m.functions) initialised ∙ functions_targeted

      -- ---- functions that have their blocks
      completed : with_bodies (with_initialisers (with_targets (with_declared (module_of a) items) items []) items []) items [] ≡ with_items (module_of a) items
      completed = λ j. with_entries (module_of a) (append-nil (filter_map variable_in items) j) (append-nil (filter_map alias_in items) j) (append-nil (filter_map function_in items) j)

      pub all_completed : (e : Lists) → module_of e ≡ with_bodies (module_of d) items [] → module_of e ≡ with_items (module_of a) items
      all_completed e bodies = bodies
          ∙ ap (λ m. with_bodies m items []) (initialised ∙ ap (λ m. with_initialisers m items []) (targeted ∙ ap (λ m. with_targets m items []) declared))
          ∙ completed

-- the entries of items, where there were none, are all
pub all_there : (a b : Lists) (items : List ItemTree) → module_of a ≡ without_entries items → module_of b ≡ with_items (module_of a) items → module_of b ≡ module_of_items items
all_there a b items before built = built ∙ ap (λ m. with_items m items) before
