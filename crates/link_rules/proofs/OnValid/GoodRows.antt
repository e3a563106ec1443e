-- The linked module is well formed, if the arrays that are appended are.
use Rattle.std.proofs.Common.{◌≡◌, ℕ, suc, Bool, true, false, not, ◌&&◌, ◌⊎◌, inl, inr, List, [], ◌∷◌, map, Option, Some, None, refl, sym, ap, ◌∙◌, subst, option_map, filter_map, flat_map}
use Rattle.std.specs.Prelude.{slice_get}
use Rattle.std.specs.Option.{option_or}
use Rattle.std.specs.List.{AllByRecursion}
use Rattle.std.proofs.lemmas.Bool.{and_from, and_parts, cases_Bool, both_ways, cond-false}
use Rattle.linkage_rules.proofs.Gathered.{all_joined}
use Rattle.module_arena.specs.Module.{Bytes, Variable, Function, Module}
use Rattle.module_arena.specs.Functions.{blocks}
use Rattle.module_arena.specs.WellFormed.{is_good_text, is_good_variable, is_good_alias, is_good_function, is_good_constant, known_of_block, known_of_variable, IsWellFormed}
use Rattle.linkage_rules.specs.Globals.{Global, OfVariable, OfFunction, OfAlias, linkage_of, is_written}
use Rattle.linkage_rules.specs.Linkages.{is_appending, is_available_externally}
use Rattle.linkage_rules.specs.Entries.{Entry, entries, part_at, symbol_of}
use Rattle.linkage_rules.specs.declared.symbol.Symbol.{Symbol}
use Rattle.linkage_rules.specs.Winner.{is_definition, definitions, home}
use Rattle.linkage_rules.specs.SymbolLaws.{symbol_exact}
use Rattle.link_rules.proofs.Symbols.{home_is}
use Rattle.link_rules.proofs.Agreed.{all_from_at}
use Rattle.link_rules.specs.Rename.{renaming, new_global}
use Rattle.link_rules.specs.Structs.{new_struct, linked_type}
use Rattle.link_rules.specs.Linked.{linked_constant, joined_type, joined_initialiser, joined_alignment, linked_definition, declared_linkage, linked_declaration, linked_first, linked_by, linked, linked_globals, variable_if, function_if, alias_if, first_of, link_result}
use Rattle.link_rules.proofs.Merged.{Row}
use Rattle.link_rules.proofs.Bound.{has_first}
use Rattle.link_rules.proofs.Searches.{at_all}
use Rattle.link_rules.specs.Valid.Laws.{AreLinkable}
use Rattle.link_rules.proofs.OnValid.Lists.{all_tested}
use Rattle.link_rules.proofs.OnValid.Known.{AllGood}
use Rattle.link_rules.proofs.OnValid.Entries.{renamed_variable}
use Rattle.link_rules.proofs.OnValid.PartEntries.{HasAt, EntryHolds, entries_at}
use Rattle.link_rules.proofs.OnValid.Renaming.{good_at, entries_hold, together}
use Rattle.link_rules.proofs.OnValid.Callees.{part_renames}
use Rattle.link_rules.proofs.OnValid.Commons.{commons_aligned}
use Rattle.link_rules.proofs.OnValid.Targets.{targets_kept}
use Rattle.link_rules.proofs.OnValid.LinkedRows.{undefined_first, first_is, joined_aligned}
use Rattle.link_rules.proofs.OnValid.LinkedIsValid.{appended_hold}
use Rattle.link_rules.proofs.OnValid.NamesGood.{all_digits_good, struct_names_good, global_names_good}
use Rattle.link_rules.specs.Counts.{too_many}
use Rattle.link_rules.proofs.OnValid.Few.{few_entries}
use Rattle.link_rules.proofs.OnValid.StructsGood.{structs_good}
use Rattle.link_rules.proofs.OnValid.LinkedGood.{EntryGood, entry_good, variable_good, defined_good, alias_good, declared_variable_good, declared_function_good}
use Rattle.module_arena.specs.EntryRules as rules
use Rattle.linkage_rules.proofs.Entries.{all_follow}
use Rattle.link_rules.proofs.Targets.{lasting_stays}

-- an array that is appended is well formed; left open
abbrev pub AppendedGood : List Module → Type 0
AppendedGood parts = (s : Symbol) (new : Bytes) (place : ℕ) (e : Entry) → slice_get (renaming parts) place ≡ Some (s, new) → home parts s ≡ Some e → is_appending (linkage_of e.global) ≡ true → EntryGood (link_result parts) (linked_definition parts new e (definitions parts s) e.global)

module _ (parts : List Module) (fine : AreLinkable parts) (appended : AppendedGood parts) where
  abbrev result : Module
  result = link_result parts

  abbrev Facts : Entry → Type 0
  Facts x = EntryHolds (part_at parts x.part) x.global × EntryGood (part_at parts x.part) x.global

  facts : AllByRecursion Facts (entries parts)
  facts = all_from_at Facts (entries parts) (λ k x at. (at_all (λ e. EntryHolds (part_at parts e.part) e.global) (entries parts) k x (entries_hold parts fine) at, entry_good (part_at parts x.part) x.global (good_at parts fine x.part) (at_all (λ e. HasAt (part_at parts e.part) e.global) (entries parts) k x (entries_at parts) at)))

  module _ (place : ℕ) (s : Symbol) (new : Bytes) (at : slice_get (renaming parts) place ≡ Some (s, new)) (e : Entry) (is : symbol_of e ≡ s) where
    plain_good : (v : Variable) → e.global ≡ OfVariable v → EntryHolds (part_at parts e.part) (OfVariable v) → EntryGood (part_at parts e.part) (OfVariable v) → is_appending (linkage_of e.global) ≡ false → EntryGood result (linked_definition parts new e (definitions parts s) (OfVariable v))
    plain_good v eq holds good f =
        let types : joined_type parts e (definitions parts s) v.ty ≡ linked_type parts e.part v.ty = cond-false (is_appending (linkage_of e.global)) _ _ f in
        let initialisers : joined_initialiser parts e (definitions parts s) v.initialiser ≡ option_map (linked_constant parts e.part) v.initialiser = cond-false (is_appending (linkage_of e.global)) _ _ f in
        let same : Variable = renamed_variable (new_struct parts e.part) (new_global parts e.part) new (joined_alignment parts e (definitions parts s)) v in
        let is_same : same ≡ record same { ty = joined_type parts e (definitions parts s) v.ty; initialiser = joined_initialiser parts e (definitions parts s) v.initialiser } = λ k. record same { ty = sym types k; initialiser = sym initialisers k } in
        subst (λ (w : Variable). EntryGood result (OfVariable w)) is_same
        (variable_good (part_at parts e.part) result (new_struct parts e.part) (new_global parts e.part) (part_renames parts fine e.part) new (joined_alignment parts e (definitions parts s)) v
        (joined_aligned parts fine (commons_aligned parts fine) (targets_kept parts fine) (appended_hold parts fine) place s new at e is v eq f holds.1.1.1.1.1.0) good)

    definition_good : (g : Global) → e.global ≡ g → EntryHolds (part_at parts e.part) g → EntryGood (part_at parts e.part) g → home parts s ≡ Some e → EntryGood result (linked_definition parts new e (definitions parts s) g)
    definition_good (OfVariable v) eq holds good h = go (cases_Bool (is_appending (linkage_of e.global)))
      where
        go : (is_appending (linkage_of e.global) ≡ true) ⊎ (is_appending (linkage_of e.global) ≡ false) → EntryGood result (linked_definition parts new e (definitions parts s) (OfVariable v))
        go (inl t) = subst (λ g. EntryGood result (linked_definition parts new e (definitions parts s) g)) eq (appended s new place e at h t)
        go (inr f) = plain_good v eq holds good f
    definition_good (OfFunction f) eq holds good h = defined_good (part_at parts e.part) result (new_struct parts e.part) (new_global parts e.part) (part_renames parts fine e.part) new f good
    definition_good (OfAlias a) eq holds good h = alias_good (part_at parts e.part) result (new_struct parts e.part) (new_global parts e.part) (part_renames parts fine e.part) new a good

    declared_good : is_definition e ≡ false → (g : Global) → e.global ≡ g → EntryHolds (part_at parts e.part) g → EntryGood (part_at parts e.part) g → EntryGood result (linked_declaration (declared_linkage parts s) parts new e.part g)
    declared_good undefined (OfVariable v) eq holds good = declared_variable_good parts fine e.part (declared_linkage parts s) new v good
    declared_good undefined (OfFunction f) eq holds good = declared_function_good parts fine e.part (declared_linkage parts s) new f good
    declared_good undefined (OfAlias a) eq holds good =
        absurd (both_ways _ undefined (ap is_definition_of eq ∙ lasting_stays a.linkage (and_parts (rules.is_lasting a.linkage) _ holds.1.1.1.1.1.0).0))
      where
        is_definition_of : Global → Bool
        is_definition_of g = is_written g && not (is_available_externally (linkage_of g))

  row_good : (place : ℕ) (s : Symbol) (new : Bytes) → slice_get (renaming parts) place ≡ Some (s, new) → (o : Option Entry) → home parts s ≡ o → EntryGood result (linked_by parts s new o)
  row_good place s new at (Some e) h =
      let found = home_is parts Facts s e facts h in
      definition_good place s new at e (sym (symbol_exact s (symbol_of e) found.0.1)) e.global refl found.0.0.0 found.0.0.1 h
  row_good place s new at None h =
      let first_entry = has_first parts (together parts fine) place s new at in
      let e = first_entry.0 in
      let found = first_is s (entries parts) e first_entry.1 in
      let here = at_all Facts (entries parts) found.0 e facts found.1 in
      subst (λ (o : Option Entry). EntryGood result (linked_first parts s new o)) (sym first_entry.1)
      (declared_good place s new at e (sym (symbol_exact s (symbol_of e) found.2)) (undefined_first parts s e h first_entry.1) e.global refl here.0 here.1)

  rows_good : (rows : List Row) → ((k : ℕ) (r : Row) → slice_get rows k ≡ Some r → EntryGood result (linked parts r)) → AllByRecursion (EntryGood result) (map (linked parts) rows)
  rows_good [] f = tt
  rows_good (r ∷ rows) f = (f 0 r refl, rows_good rows (λ k q e. f (suc k) q e))

  pub globals_good : AllByRecursion (EntryGood result) (linked_globals parts)
  globals_good = rows_good (renaming parts) (λ k r e. row_good k r.0 r.1 e (home parts r.0) refl)

-- A MODULE OF WHICH EACH ENTRY IS GOOD

variables_good : (m : Module) (gs : List Global) → AllByRecursion (EntryGood m) gs → AllByRecursion (λ v. is_good_variable m v ≡ true) (filter_map variable_if gs) × AllGood m (flat_map known_of_variable (filter_map variable_if gs))
variables_good m [] a = (tt, tt)
variables_good m (OfVariable v ∷ gs) a = let rest = variables_good m gs a.1 in ((a.0.0, rest.0), all_joined _ (known_of_variable v) (flat_map known_of_variable (filter_map variable_if gs)) a.0.1 rest.1)
variables_good m (OfFunction f ∷ gs) a = variables_good m gs a.1
variables_good m (OfAlias b ∷ gs) a = variables_good m gs a.1

functions_good : (m : Module) (gs : List Global) → AllByRecursion (EntryGood m) gs → AllByRecursion (λ f. is_good_function m f ≡ true) (filter_map function_if gs) × AllGood m (flat_map (λ (f : Function). flat_map known_of_block (blocks f)) (filter_map function_if gs))
functions_good m [] a = (tt, tt)
functions_good m (OfFunction f ∷ gs) a = let rest = functions_good m gs a.1 in ((a.0.0, rest.0), all_joined _ (flat_map known_of_block (blocks f)) (flat_map (λ (h : Function). flat_map known_of_block (blocks h)) (filter_map function_if gs)) a.0.1 rest.1)
functions_good m (OfVariable v ∷ gs) a = functions_good m gs a.1
functions_good m (OfAlias b ∷ gs) a = functions_good m gs a.1

aliases_good : (m : Module) (gs : List Global) → AllByRecursion (EntryGood m) gs → AllByRecursion (λ b. is_good_alias m b ≡ true) (filter_map alias_if gs)
aliases_good m [] a = tt
aliases_good m (OfAlias b ∷ gs) a = (a.0, aliases_good m gs a.1)
aliases_good m (OfVariable v ∷ gs) a = aliases_good m gs a.1
aliases_good m (OfFunction f ∷ gs) a = aliases_good m gs a.1

-- a text is that of a part
text_good : (field : Module → Option Bytes) (parts : List Module) → AllByRecursion (λ m. is_good_text (field m) ≡ true) parts → is_good_text (first_of field parts) ≡ true
text_good field [] a = refl
text_good field (m ∷ parts) a = go (field m) a.0 (text_good field parts a.1)
  where
    go : (o : Option Bytes) → is_good_text o ≡ true → is_good_text (first_of field parts) ≡ true → is_good_text (option_or o (first_of field parts)) ≡ true
    go None h more = more
    go (Some text) h more = h

-- linked parts that pass no count are well formed, if appended arrays are
pub linked_is_well_formed : (parts : List Module) → AreLinkable parts → too_many parts ≡ None → AppendedGood parts → IsWellFormed (link_result parts)
linked_is_well_formed parts fine few appended =
    let all = globals_good parts fine appended in
    let m = link_result parts in
    let vs = variables_good m (linked_globals parts) all in
    let fs = functions_good m (linked_globals parts) all in
    record {
      texts = and_from _ _ (text_good (λ (p : Module). p.source) parts (all_follow _ _ parts (λ p h. (and_parts (is_good_text p.source) _ h.texts).0) fine.good))
          (and_from _ _ (text_good (λ (p : Module). p.layout) parts (all_follow _ _ parts (λ p h. (and_parts (is_good_text p.layout) _ (and_parts (is_good_text p.source) _ h.texts).1).0) fine.good))
          (text_good (λ (p : Module). p.triple) parts (all_follow _ _ parts (λ p h. (and_parts (is_good_text p.layout) _ (and_parts (is_good_text p.source) _ h.texts).1).1) fine.good)));
      few = few_entries parts fine few;
      struct_names = struct_names_good parts fine all_digits_good;
      global_names = global_names_good parts fine all_digits_good;
      structs = structs_good parts fine;
      variables = all_tested (is_good_variable m) m.variables vs.0;
      aliases = all_tested (is_good_alias m) m.aliases (aliases_good m (linked_globals parts) all);
      functions = all_tested (is_good_function m) m.functions fs.0;
      constants = all_tested (is_good_constant m) _ (all_joined _ (flat_map known_of_variable m.variables) (flat_map (λ (f : Function). flat_map known_of_block (blocks f)) m.functions) vs.1 fs.1);
    }
