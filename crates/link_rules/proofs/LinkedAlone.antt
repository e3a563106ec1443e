-- The linked module of one module is that module.
use Rattle.std.proofs.Common.{◌≡◌, ℕ, suc, Bool, true, false, not, ◌&&◌, ◌⊎◌, inl, inr, List, [], ◌∷◌, ◌++◌, map, Option, Some, None, refl, sym, ap, ap₂, ◌∙◌, subst, filter, option_map, append-nil, bytes_eq}
use Rattle.std.specs.Prelude.{slice_get, slice_index_or, filter_map, if◌then◌else◌}
use Rattle.std.specs.Option.{option_or}
use Rattle.std.specs.List.{list_any, list_all, AllByRecursion}
use Rattle.std.proofs.lemmas.Bool.{or_from, or_parts, and_from, cond-true, cond-false, both_ways, false_from_ne_true}
use Rattle.std.proofs.lemmas.Option.{slice_get-map, get_or_from_slice_get}
use Rattle.std.proofs.lemmas.List.{map-append}
use Rattle.ir_tables.specs.declared.linkage.Linkage.TheVariants.{External, ExternWeak}
use Rattle.type_table.specs.Tree.{TreeBody, opaque_body, body_of}
use Rattle.module_arena.specs.Module.{Bytes, Variable, Alias, Function, Module}
use Rattle.module_arena.specs.Renamed.{renamed_body, own}
use Rattle.module_arena.proofs.Renamed.{body_stays}
use Rattle.module_arena.proofs.ModuleSet.{map_map}
use Rattle.linkage_rules.specs.Globals.{Global, OfVariable, OfFunction, OfAlias, name_of, linkage_of, is_written, is_alias, globals}
use Rattle.linkage_rules.specs.Linkages.{is_local, is_extern_weak}
use Rattle.linkage_rules.specs.Lists.{first}
use Rattle.linkage_rules.specs.Entries.{Entry, entries, same_symbol, symbol_of, entries_of, symbol_name}
use Rattle.linkage_rules.specs.declared.symbol.Symbol.TheVariants.{Shared, Local}
use Rattle.linkage_rules.specs.Symbols.{symbols}
use Rattle.linkage_rules.specs.Winner.{best, definitions, is_definition, home}
use Rattle.link_rules.specs.Rename.{new_global}
use Rattle.link_rules.specs.Structs.{struct_symbols, new_struct, linked_struct, struct_map}
use Rattle.link_rules.specs.Linked.{declared_linkage, linked_definition, linked_declaration, linked_first, linked_by, linked, linked_globals, variable_if, function_if, alias_if, link_result}
use Rattle.link_rules.proofs.Apart.{Apart, filter_at}
use Rattle.linkage_rules.specs.SymbolLaws.{symbol_self, symbol_exact, name_self}
use Rattle.link_rules.proofs.ByKind.{AliasesDefine, AreVariables, AreFunctions, AreAliases, variables_alone, functions_alone, alias_symbols_alone}
use Rattle.link_rules.proofs.StructRows.{index_at}
use Rattle.link_rules.proofs.OwnNames.{self_named, own_renaming, own_global, own_structs, own_struct}
use Rattle.link_rules.proofs.Alone.{StaysAlone, definition_own, declaration_own}
use Rattle.link_rules.proofs.Searches.{at_all}
use Rattle.link_rules.proofs.Unchanged.{IsUnchanged}

-- LISTS

map_rows : {A B : Type 0} (f g : A → B) (rows : List A) → ((k : ℕ) (r : A) → slice_get rows k ≡ Some r → f r ≡ g r) → map f rows ≡ map g rows
map_rows f g [] h = refl
map_rows f g (r ∷ rows) h = ap₂ (λ x l. x ∷ l) (h 0 r refl) (map_rows f g rows (λ k q e. h (suc k) q e))

map_own : {A : Type 0} (xs : List A) → map (λ x. x) xs ≡ xs
map_own [] = refl
map_own (x ∷ xs) = ap (λ l. x ∷ l) (map_own xs)

variables_back : (vs : List Variable) (fs : List Function) (others : List Alias) → filter_map variable_if (map OfVariable vs ++ map OfFunction fs ++ map OfAlias others) ≡ vs
variables_back [] [] [] = refl
variables_back [] [] (a ∷ others) = variables_back [] [] others
variables_back [] (f ∷ fs) others = variables_back [] fs others
variables_back (v ∷ vs) fs others = ap (λ l. v ∷ l) (variables_back vs fs others)

functions_back : (vs : List Variable) (fs : List Function) (others : List Alias) → filter_map function_if (map OfVariable vs ++ map OfFunction fs ++ map OfAlias others) ≡ fs
functions_back [] [] [] = refl
functions_back [] [] (a ∷ others) = functions_back [] [] others
functions_back [] (f ∷ fs) others = ap (λ l. f ∷ l) (functions_back [] fs others)
functions_back (v ∷ vs) fs others = functions_back vs fs others

aliases_back : (vs : List Variable) (fs : List Function) (others : List Alias) → filter_map alias_if (map OfVariable vs ++ map OfFunction fs ++ map OfAlias others) ≡ others
aliases_back [] [] [] = refl
aliases_back [] [] (a ∷ others) = ap (λ l. a ∷ l) (aliases_back [] [] others)
aliases_back [] (f ∷ fs) others = aliases_back [] fs others
aliases_back (v ∷ vs) fs others = aliases_back vs fs others

pub alone_or : {A : Type 0} (o : Option A) → option_or o None ≡ o
alone_or None = refl
alone_or (Some x) = refl

-- ENTRIES OF ONE MODULE

abbrev entry : Global → Entry
entry g = record { part = 0; global = g }

name_called : (b : Bool) (n : Bytes) → symbol_name (if b then Local 0 n else Shared n) ≡ n
name_called true n = refl
name_called false n = refl

entry_called : (g : Global) → symbol_name (symbol_of (entry g)) ≡ name_of g
entry_called g = name_called (is_local (linkage_of g)) (name_of g)

all_called : (gs : List Global) → map symbol_name (map symbol_of (map entry gs)) ≡ map name_of gs
all_called [] = refl
all_called (g ∷ gs) = ap₂ (λ n l. n ∷ l) (entry_called g) (all_called gs)

keys_apart : (gs : List Global) → Apart bytes_eq (map name_of gs) → Apart same_symbol (map symbol_of (map entry gs))
keys_apart [] a = tt
keys_apart (g ∷ gs) a = (clear gs a.0, keys_apart gs a.1)
  where
    clear : (hs : List Global) → list_any (bytes_eq (name_of g)) (map name_of hs) ≡ false → list_any (same_symbol (symbol_of (entry g))) (map symbol_of (map entry hs)) ≡ false
    clear [] h = refl
    clear (x ∷ hs) h =
        let halves = or_parts (bytes_eq (name_of g) (name_of x)) _ h in
        or_from _ _ (false_from_ne_true _ (λ e.
        let same = sym (entry_called g) ∙ ap symbol_name (symbol_exact (symbol_of (entry g)) (symbol_of (entry x)) e) ∙ entry_called x in
        both_ways _ halves.0 (subst (λ n. bytes_eq (name_of g) n ≡ true) same (name_self (name_of g))))) (clear hs halves.1)

module _ (m : Module) (s : StaysAlone m) where
  abbrev parts : List Module
  parts = m ∷ []

  entries_are : entries parts ≡ map entry (globals m)
  entries_are = append-nil (map entry (globals m))

  entry_keys : Apart same_symbol (map symbol_of (entries parts))
  entry_keys = subst (λ es. Apart same_symbol (map symbol_of es)) (sym entries_are) (keys_apart (globals m) s.distinct)

  abbrev variable_entries : List Entry
  variable_entries = map entry (map OfVariable m.variables)

  abbrev function_entries : List Entry
  function_entries = map entry (map OfFunction m.functions)

  abbrev alias_entries : List Entry
  alias_entries = map entry (map OfAlias m.aliases)

  three_kinds : map entry (globals m) ≡ variable_entries ++ function_entries ++ alias_entries
  three_kinds =
      map-append entry (map OfVariable m.variables ++ map OfFunction m.functions) (map OfAlias m.aliases)
      ∙ ap (λ l. l ++ alias_entries) (map-append entry (map OfVariable m.variables) (map OfFunction m.functions))

  aliases_define : AliasesDefine (entries parts)
  aliases_define = subst AliasesDefine (sym entries_are) (go (globals m) s.stay)
    where
      defines : (g : Global) → IsUnchanged g → is_alias g ≡ true → is_definition (entry g) ≡ true
      defines (OfAlias a) h t = ap not (h.written refl)
      defines (OfVariable v) h t = cc
      defines (OfFunction f) h t = cc

      go : (gs : List Global) → AllByRecursion IsUnchanged gs → AliasesDefine (map entry gs)
      go [] a = tt
      go (g ∷ gs) a = (defines g a.0, go gs a.1)

  symbols_are : symbols parts ≡ map symbol_of (map entry (globals m))
  symbols_are =
      ap₂ (λ x y. x ++ y)
      (ap₂ (λ x y. x ++ y)
      (variables_alone parts entry_keys aliases_define variable_entries function_entries alias_entries (entries_are ∙ three_kinds) (all_variables m.variables) (all_functions m.functions) (all_aliases m.aliases))
      (functions_alone parts entry_keys aliases_define variable_entries function_entries alias_entries (entries_are ∙ three_kinds) (all_variables m.variables) (all_functions m.functions) (all_aliases m.aliases)))
      (alias_symbols_alone parts entry_keys aliases_define variable_entries function_entries alias_entries (entries_are ∙ three_kinds) (all_variables m.variables) (all_functions m.functions) (all_aliases m.aliases))
      ∙ sym (map-append symbol_of (variable_entries ++ function_entries) alias_entries ∙ ap (λ l. l ++ map symbol_of alias_entries) (map-append symbol_of variable_entries function_entries))
      ∙ ap (map symbol_of) (sym three_kinds)
    where
      all_variables : (vs : List Variable) → AreVariables (map entry (map OfVariable vs))
      all_variables [] = tt
      all_variables (v ∷ vs) = ((refl, refl), all_variables vs)

      all_functions : (fs : List Function) → AreFunctions (map entry (map OfFunction fs))
      all_functions [] = tt
      all_functions (f ∷ fs) = ((refl, refl), all_functions fs)

      all_aliases : (others : List Alias) → AreAliases (map entry (map OfAlias others))
      all_aliases [] = tt
      all_aliases (a ∷ others) = (refl, all_aliases others)

  names_apart : Apart bytes_eq (map symbol_name (symbols parts))
  names_apart = subst (Apart bytes_eq) (sym (ap (map symbol_name) symbols_are ∙ all_called (globals m))) s.distinct

  struct_names_are : map symbol_name (struct_symbols parts) ≡ map (λ t. t.0) m.structs
  struct_names_are = ap (map symbol_name) (append-nil (map (λ t. Local 0 t.0) m.structs)) ∙ map_map symbol_name (λ t. Local 0 t.0) m.structs

  structs_apart : Apart bytes_eq (map symbol_name (struct_symbols parts))
  structs_apart = subst (Apart bytes_eq) (sym struct_names_are) s.distinct_structs

  structs_own : new_struct parts 0 ≡ own
  structs_own = λ i n. own_struct parts structs_apart 0 n i

  globals_own : new_global parts 0 ≡ own
  globals_own = λ i n. own_global parts names_apart 0 n i

  module _ (k : ℕ) (g : Global) (at : slice_get (globals m) k ≡ Some g) where
    stays : IsUnchanged g
    stays = at_all IsUnchanged (globals m) k g s.stay at

    one_entry : entries_of parts (symbol_of (entry g)) ≡ entry g ∷ []
    one_entry =
        filter_at same_symbol symbol_self symbol_exact symbol_of (λ e. true) (entries parts) k (entry g) entry_keys
        (ap (λ l. slice_get l k) entries_are ∙ slice_get-map entry (globals m) k ∙ ap (option_map entry) at)

    unwritten : is_definition (entry g) ≡ false → is_written g ≡ false
    unwritten h = false_from_ne_true _ (λ w. both_ways _ h (and_from _ _ w (ap not (stays.written w))))

    weak_as_before : is_written g ≡ false → declared_linkage parts (symbol_of (entry g)) ≡ linkage_of g
    weak_as_before w = ap (λ es. if list_all (λ (e : Entry). is_extern_weak (linkage_of e.global)) es then ExternWeak else External) one_entry ∙ by (stays.declared w)
      where
        by : (linkage_of g ≡ External) ⊎ (linkage_of g ≡ ExternWeak) → (if is_extern_weak (linkage_of g) && true then ExternWeak else External) ≡ linkage_of g
        by (inl h) = ap (λ l. if is_extern_weak l && true then ExternWeak else External) h ∙ sym h
        by (inr h) = ap (λ l. if is_extern_weak l && true then ExternWeak else External) h ∙ sym h

    linked_by_test : (b : Bool) → is_definition (entry g) ≡ b → linked_by parts (symbol_of (entry g)) (name_of g) (home parts (symbol_of (entry g))) ≡ g
    linked_by_test true h =
        let all : definitions parts (symbol_of (entry g)) ≡ entry g ∷ [] = ap (filter is_definition) one_entry ∙ cond-true (is_definition (entry g)) _ _ h in
        ap (linked_by parts (symbol_of (entry g)) (name_of g)) (ap (best parts) all)
        ∙ ap (λ es. linked_definition parts (name_of g) (entry g) es g) all
        ∙ definition_own parts structs_own globals_own g stays
    linked_by_test false h =
        let w = unwritten h in
        let all : definitions parts (symbol_of (entry g)) ≡ [] = ap (filter is_definition) one_entry ∙ cond-false (is_definition (entry g)) _ _ h in
        ap (linked_by parts (symbol_of (entry g)) (name_of g)) (ap (best parts) all)
        ∙ ap (λ es. linked_first parts (symbol_of (entry g)) (name_of g) (first es)) one_entry
        ∙ ap (λ l. linked_declaration l parts (name_of g) 0 g) (weak_as_before w)
        ∙ declaration_own parts structs_own globals_own g w (stays.numbered w)

    linked_at : linked parts (self_named (symbol_of (entry g))) ≡ g
    linked_at = ap (λ n. linked_by parts (symbol_of (entry g)) n (home parts (symbol_of (entry g)))) (entry_called g) ∙ linked_by_test (is_definition (entry g)) refl

  globals_are : linked_globals parts ≡ globals m
  globals_are =
      ap (map (linked parts)) (own_renaming parts names_apart ∙ ap (map self_named) symbols_are)
      ∙ ap (map (linked parts)) (map_map self_named symbol_of (map entry (globals m)) ∙ map_map (λ e. self_named (symbol_of e)) entry (globals m))
      ∙ map_map (linked parts) (λ g. self_named (symbol_of (entry g))) (globals m)
      ∙ map_rows (λ g. linked parts (self_named (symbol_of (entry g)))) (λ g. g) (globals m) (λ k g at. linked_at k g at)
      ∙ map_own (globals m)

  structs_are : map (linked_struct parts) (struct_map parts) ≡ m.structs
  structs_are =
      ap (map (linked_struct parts)) (own_structs parts structs_apart ∙ ap (map self_named) (append-nil (map (λ t. Local 0 t.0) m.structs)) ∙ map_map self_named (λ t. Local 0 t.0) m.structs)
      ∙ map_map (linked_struct parts) (λ t. self_named (Local 0 t.0)) m.structs
      ∙ map_rows (λ t. linked_struct parts (self_named (Local 0 t.0))) (λ t. t) m.structs each
      ∙ map_own m.structs
    where
      each : (k : ℕ) (t : Bytes × TreeBody) → slice_get m.structs k ≡ Some t → linked_struct parts (self_named (Local 0 t.0)) ≡ t
      each k t at =
          let body : body_of m.structs t.0 ≡ t.1 =
          ap (λ j. slice_index_or (map (λ x. x.1) m.structs) j opaque_body) (index_at (map (λ x. x.0) m.structs) k t.0 s.distinct_structs (slice_get-map (λ x. x.0) m.structs k ∙ ap (option_map (λ x. x.0)) at))
          ∙ get_or_from_slice_get (map (λ x. x.1) m.structs) k t.1 opaque_body (slice_get-map (λ x. x.1) m.structs k ∙ ap (option_map (λ x. x.1)) at) in
          let renamed = ap₂ (λ f b. renamed_body f b) structs_own body ∙ body_stays t.1 in
          λ i. (t.0, renamed i)

  -- a module that writes nothing which linking would write anew is its own linked module
  pub linked_alone : link_result parts ≡ m
  linked_alone =
      let structs = structs_are in
      let variables = ap (filter_map variable_if) globals_are ∙ variables_back m.variables m.functions m.aliases in
      let functions = ap (filter_map function_if) globals_are ∙ functions_back m.variables m.functions m.aliases in
      let aliases = ap (filter_map alias_if) globals_are ∙ aliases_back m.variables m.functions m.aliases in
      let source = alone_or m.source in let layout = alone_or m.layout in let triple = alone_or m.triple in
      λ i. record { source = source i; layout = layout i; triple = triple i; structs = structs i; variables = variables i; aliases = aliases i; functions = functions i }
