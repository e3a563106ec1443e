-- The definitions of a module are what an extraction keeps that deletes the others.
use Rattle.std.proofs.Common.{◌≡◌, ℕ, List, [], ◌∷◌, ◌++◌, map, filter, Bool, true, false, not, ◌&&◌, Some, refl, sym, ap, ap₂, ◌∙◌, append-nil}
use Rattle.std.specs.Prelude.{flat_map, is_some, slice_get}
use Rattle.std.specs.List.{AllByRecursion}
use Rattle.std.proofs.lemmas.Bool.{and_parts}
use Rattle.extract_rules.specs.declared.flags.EntryFlags.{EntryFlags}
use Rattle.extract_rules.specs.declared.selection.Selection.{Selection}
use Rattle.extract_rules.specs.Extracted.{kept_names}
use Rattle.extract_rules.specs.Flags.{AreKept, AreNamed}
use Rattle.extract_rules.specs.Selected.{is_among, keeps, keeps_alias, keeps_function, keeps_variable}
use Rattle.linkage_rules.specs.Entries.{Entry, entries}
use Rattle.linkage_rules.specs.Globals.{OfFunction, OfVariable, is_written, linkage_of}
use Rattle.linkage_rules.specs.Linkages.{is_available_externally}
use Rattle.module_arena.specs.declared.entry.Function as the_function
use Rattle.module_arena.specs.declared.entry.Variable as the_variable
use Rattle.module_arena.specs.Lists.{Lists}
use Rattle.module_arena.specs.Module.{Alias, Bytes, Function, Module, Variable}
use Rattle.module_arena.specs.UsedNames.{names_in_function, names_in_variable}
use Rattle.module_arena.specs.Valid.{IsValid}
use Rattle.module_arena.specs.View.{module_of}
use Rattle.module_arena.specs.WellFormed.{IsWellFormed}
use Rattle.module_arena.proofs.ModuleSet.{map_map}
use Rattle.run_names.specs.Spots as spots
use Rattle.run_names.specs.Standings as standings
use Rattle.run_names.proofs.Apart.{same_filter}
use Rattle.run_names.proofs.Arena.{alias_seen, function_defined, function_seen, functions_are, variable_defined, variable_seen, variables_are}
use Rattle.run_names.proofs.Listed.{all_from_places}
use Rattle.run_names.proofs.Meant.{target_is}
use Rattle.run_names.proofs.OneModule.{entry, function_in, names_apart, variable_in}
use Rattle.run_names.proofs.Put.{same_maps}
use Rattle.run_initial.specs.Missing.Used.{AreDefinitions, AreUsed, is_function_defined, is_variable_defined, used_names}
use Rattle.run_initial.proofs.OnMissing.Picked.{among_picked, named}

-- an entry that is a declaration although it may be written
abbrev is_elsewhere : Entry → Bool
is_elsewhere e = is_available_externally (linkage_of e.global)

module _ (m : Module) (well_formed : IsWellFormed m) (valid : IsValid m) where
  abbrev parts : List Module
  parts = m ∷ []

  -- the names of those that are declarations
  abbrev deleted : List Bytes
  deleted = map named (filter is_elsewhere (entries parts))

  -- they are deleted
  abbrev pub others : Selection
  others = record { functions = []; variables = deleted; aliases = []; delete = true; recursive = false }

  kept_so : (k : ℕ) (e : Entry) → slice_get (entries parts) k ≡ Some e → keeps m others (named e) ≡ not (is_elsewhere e)
  kept_so k e at = ap (λ l. not (is_among l (named e))) (append-nil deleted) ∙ ap not (among_picked is_elsewhere (entries parts) (names_apart m well_formed) k e at)

  variables_kept : AllByRecursion (λ v. keeps_variable m others v ≡ is_variable_defined v) m.variables
  variables_kept = all_from_places (λ v. keeps_variable m others v ≡ is_variable_defined v) m.variables (λ k v at. ap (λ b. is_some v.initialiser && b) (kept_so k (entry (OfVariable v)) (variable_in m k v at)))

  functions_kept : AllByRecursion (λ f. keeps_function m others f ≡ is_function_defined f) m.functions
  functions_kept =
      all_from_places (λ f. keeps_function m others f ≡ is_function_defined f) m.functions
      (λ k f at. let r = function_in m k f at in ap (λ b. is_some f.body && b) (kept_so r.0 (entry (OfFunction f)) r.1))

  -- what an alias is of is defined
  aliases_kept : AllByRecursion (λ x. keeps_alias m others x ≡ true) m.aliases
  aliases_kept = all_from_places (λ x. keeps_alias m others x ≡ true) m.aliases kept
    where
      kept : (k : ℕ) (x : Alias) → slice_get m.aliases k ≡ Some x → keeps_alias m others x ≡ true
      kept k x at =
          let t = target_is m well_formed valid k x at in
          ap (keeps m others) (sym t.named) ∙ kept_so t.place t.one t.at ∙ (and_parts (is_written t.one.global) (not (is_elsewhere t.one)) t.defined).1

  -- the names in what is kept are those that are used
  pub names_kept : kept_names m others ≡ used_names m
  names_kept =
      ap₂ (λ vs fs. flat_map names_in_variable vs ++ flat_map names_in_function fs) (same_filter (keeps_variable m others) is_variable_defined m.variables variables_kept)
      (same_filter (keeps_function m others) is_function_defined m.functions functions_kept)

  -- what is told of the names that are kept is told of those that are used
  pub used_told : (flags : EntryFlags) → AreNamed m others flags → AreUsed m flags
  used_told flags h = record {
    variables = h.variables ∙ ap (λ names. map (λ (v : Variable). is_among names v.name) m.variables) names_kept;
    functions = h.functions ∙ ap (λ names. map (λ (f : Function). is_among names f.name) m.functions) names_kept;
  }

module _ (a : Lists) (well_formed : IsWellFormed (module_of a)) (valid : IsValid (module_of a)) where
  abbrev m : Module
  m = module_of a

  aliases_are : (module_of a).aliases ≡ map (alias_seen a) a.aliases
  unfolding module_of
  aliases_are = refl

  -- the definitions are kept
  pub definitions_kept : (flags : EntryFlags) → AreDefinitions a flags → AreKept m (others m well_formed valid) flags
  definitions_kept flags h = record { variables = variables; functions = functions; aliases = aliases }
    where
      s : Selection
      s = others m well_formed valid

      variables : flags.variables ≡ map (keeps_variable m s) m.variables
      variables =
          h.variables
          ∙ same_maps spots.is_defined (λ v. is_variable_defined (variable_seen a v)) a.variables (all_from_places (λ (v : the_variable.Variable). spots.is_defined v ≡ is_variable_defined (variable_seen a v)) a.variables (λ k v at. sym (variable_defined a v)))
          ∙ sym (map_map is_variable_defined (variable_seen a) a.variables) ∙ ap (map is_variable_defined) (sym (variables_are a))
          ∙ sym (same_maps (keeps_variable m s) is_variable_defined m.variables (variables_kept m well_formed valid))

      functions : flags.functions ≡ map (keeps_function m s) m.functions
      functions =
          h.functions
          ∙ same_maps standings.has_code (λ f. is_function_defined (function_seen a f)) a.functions (all_from_places (λ (f : the_function.Function). standings.has_code f ≡ is_function_defined (function_seen a f)) a.functions (λ k f at. sym (function_defined a f)))
          ∙ sym (map_map is_function_defined (function_seen a) a.functions) ∙ ap (map is_function_defined) (sym (functions_are a))
          ∙ sym (same_maps (keeps_function m s) is_function_defined m.functions (functions_kept m well_formed valid))

      aliases : flags.aliases ≡ map (keeps_alias m s) m.aliases
      aliases =
          h.aliases ∙ sym (map_map (λ (x : Alias). true) (alias_seen a) a.aliases) ∙ ap (map (λ (x : Alias). true)) (sym aliases_are)
          ∙ sym (same_maps (keeps_alias m s) (λ (x : Alias). true) m.aliases (aliases_kept m well_formed valid))
