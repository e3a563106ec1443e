-- The symbols of the merged module are the renaming's rows, and each has at most one definition, the moved one.
use Rattle.std.proofs.Common.{◌≡◌, Bool, true, false, List, [], ◌∷◌, ◌++◌, map, Option, Some, None, refl, sym, ap, ap₂, ◌∙◌, subst, append-nil}
use Rattle.std.specs.List.{AllByRecursion}
use Rattle.std.proofs.lemmas.Bool.{both_ways}
use Rattle.std.proofs.lemmas.List.{map-append}
use Rattle.module_arena.specs.Module.{Module}
use Rattle.module_arena.proofs.ModuleSet.{map_map}
use Rattle.linkage_rules.specs.Globals.{Global, is_variable, is_alias, globals}
use Rattle.linkage_rules.specs.Lists.{has}
use Rattle.linkage_rules.specs.Entries.{Entry, entries, same_symbol, symbol_of}
use Rattle.linkage_rules.specs.declared.symbol.Symbol.{Symbol}
use Rattle.linkage_rules.specs.Symbols.{is_alias_symbol, variable_symbols, function_symbols, alias_symbols, symbols}
use Rattle.linkage_rules.specs.Winner.{is_definition, home}
use Rattle.link_rules.specs.Rename.{renaming, all_names, base_of, shared_names, given_after}
use Rattle.link_rules.specs.Linked.{linked, linked_globals, link_result}
use Rattle.link_rules.proofs.Apart.{Apart}
use Rattle.link_rules.proofs.Symbols.{GoTogether, AreOfKind, variables_plain, functions_plain, aliases_are, variable_kinds, function_kinds, symbols_have, home_is}
use Rattle.link_rules.proofs.ByKind.{AliasesDefine, variables_alone, functions_alone, alias_symbols_alone}
use Rattle.link_rules.proofs.Names.{keys_named}
use Rattle.link_rules.proofs.Merged.{Row, as_row, rows_apart, variable_rows, function_rows, alias_rows, renaming_split, keys, names, linked_is_alias, linked_is_alias_none, entry_by, row_entry, linked_symbol, linked_kind}
use Rattle.link_rules.proofs.Moved.{moved_defines}
use Rattle.link_rules.proofs.Sorted.{IsVariable, IsFunction, by_kind, sorted}
use Rattle.link_rules.proofs.Searches.{all_front, all_back, all_both}
use Rattle.link_rules.specs.Carried.{merged}

-- LISTS

-- what holds of the keys holds of the rows
pub rows_from : (P : Symbol → Type 0) (rows : List Row) (ss : List Symbol) → map (λ r. r.0) rows ≡ ss → AllByRecursion P ss → AllByRecursion (λ r. P r.0) rows
rows_from P rows ss e a = go rows (subst (AllByRecursion P) (sym e) a)
  where
    go : (rs : List Row) → AllByRecursion P (map (λ r. r.0) rs) → AllByRecursion (λ r. P r.0) rs
    go [] a = tt
    go (r ∷ rs) a = (a.0, go rs a.1)

module _ (parts : List Module) where
  pub variable_keys : map (λ r. r.0) (variable_rows parts) ≡ variable_symbols parts
  variable_keys = keys_named base_of (all_names parts) (shared_names (symbols parts)) (variable_symbols parts)

  pub function_keys : map (λ r. r.0) (function_rows parts) ≡ function_symbols parts
  function_keys = keys_named base_of (all_names parts) (given_after base_of (all_names parts) (shared_names (symbols parts)) (variable_symbols parts)) (function_symbols parts)

  pub alias_keys : map (λ r. r.0) (alias_rows parts) ≡ alias_symbols parts
  alias_keys = keys_named base_of (all_names parts) (given_after base_of (all_names parts) (shared_names (symbols parts)) (variable_symbols parts ++ function_symbols parts)) (alias_symbols parts)

module _ (parts : List Module) (together : GoTogether parts) where
  abbrev Here : Symbol → Type 0
  Here s = has same_symbol (map symbol_of (entries parts)) s ≡ true

  abbrev Plain : Symbol → Type 0
  Plain s = is_alias_symbol parts s ≡ false

  linked_all : (b : Bool) (rows : List Row) → AllByRecursion (λ r. AreOfKind parts b r.0 × (Here r.0 × Plain r.0)) rows → AllByRecursion (λ r. (is_variable (linked parts r) ≡ b) × (is_alias (linked parts r) ≡ false)) rows
  linked_all b [] a = tt
  linked_all b (r ∷ rows) a = ((linked_kind parts together b r.0 r.1 (home parts r.0) refl a.0.0 a.0.1.0, linked_is_alias parts r ∙ a.0.1.1), linked_all b rows a.1)

  front_here : AllByRecursion Here (variable_symbols parts ++ function_symbols parts)
  front_here = all_front Here (variable_symbols parts ++ function_symbols parts) (alias_symbols parts) (symbols_have parts)

  pub variables_linked : AllByRecursion (λ r. IsVariable (linked parts r)) (variable_rows parts)
  variables_linked =
      linked_all true (variable_rows parts)
      (rows_from (λ s. AreOfKind parts true s × (Here s × Plain s)) (variable_rows parts) (variable_symbols parts) (variable_keys parts)
      (all_both (AreOfKind parts true) (λ s. Here s × Plain s) (variable_symbols parts) (variable_kinds parts together)
      (all_both Here Plain (variable_symbols parts) (all_front Here (variable_symbols parts) (function_symbols parts) front_here) (variables_plain parts))))

  pub functions_linked : AllByRecursion (λ r. IsFunction (linked parts r)) (function_rows parts)
  functions_linked =
      linked_all false (function_rows parts)
      (rows_from (λ s. AreOfKind parts false s × (Here s × Plain s)) (function_rows parts) (function_symbols parts) (function_keys parts)
      (all_both (AreOfKind parts false) (λ s. Here s × Plain s) (function_symbols parts) (function_kinds parts together)
      (all_both Here Plain (function_symbols parts) (all_back Here (variable_symbols parts) (function_symbols parts) front_here) (functions_plain parts))))

  pub aliases_linked : AllByRecursion (λ r. is_alias (linked parts r) ≡ true) (alias_rows parts)
  aliases_linked = go (alias_rows parts) (rows_from (λ s. is_alias_symbol parts s ≡ true) (alias_rows parts) (alias_symbols parts) (alias_keys parts) (aliases_are parts))
    where
      go : (rows : List Row) → AllByRecursion (λ r. is_alias_symbol parts r.0 ≡ true) rows → AllByRecursion (λ r. is_alias (linked parts r) ≡ true) rows
      go [] a = tt
      go (r ∷ rows) a = (linked_is_alias parts r ∙ a.0, go rows a.1)

  all_linked : (P : Global → Type 0) (rows : List Row) → AllByRecursion (λ r. P (linked parts r)) rows → AllByRecursion P (map (linked parts) rows)
  all_linked P [] a = tt
  all_linked P (r ∷ rows) a = (a.0, all_linked P rows a.1)

  map_three : {B : Type 0} (f : Row → B) → map f (renaming parts) ≡ map f (variable_rows parts) ++ map f (function_rows parts) ++ map f (alias_rows parts)
  map_three f =
      ap (map f) (renaming_split parts) ∙ map-append f (variable_rows parts ++ function_rows parts) (alias_rows parts)
      ∙ ap (λ l. l ++ map f (alias_rows parts)) (map-append f (variable_rows parts) (function_rows parts))

  pub globals_merged : globals (link_result parts) ≡ linked_globals parts
  globals_merged =
      ap by_kind (map_three (linked parts))
      ∙ sorted (map (linked parts) (variable_rows parts)) (map (linked parts) (function_rows parts)) (map (linked parts) (alias_rows parts))
      (all_linked IsVariable (variable_rows parts) variables_linked) (all_linked IsFunction (function_rows parts) functions_linked) (all_linked (λ g. is_alias g ≡ true) (alias_rows parts) aliases_linked)
      ∙ sym (map_three (linked parts))

  pub entries_merged : entries (merged parts) ≡ map (row_entry parts) (renaming parts)
  entries_merged =
      append-nil _ ∙ ap (map (λ g. let e : Entry = record { part = 0; global = g } in e)) globals_merged
      ∙ map_map (λ g. let e : Entry = record { part = 0; global = g } in e) (linked parts) (renaming parts)

  rows_here : AllByRecursion (λ r. Here r.0) (renaming parts)
  rows_here = rows_from Here (renaming parts) (symbols parts) (keys parts) (symbols_have parts)

  keys_of_rows : (rows : List Row) → AllByRecursion (λ r. Here r.0) rows → map symbol_of (map (row_entry parts) rows) ≡ map as_row rows
  keys_of_rows [] a = refl
  keys_of_rows (r ∷ rows) a = ap₂ (λ x l. x ∷ l) (linked_symbol parts together r.0 r.1 a.0) (keys_of_rows rows a.1)

  pub keys_merged : map symbol_of (entries (merged parts)) ≡ map as_row (renaming parts)
  keys_merged = ap (map symbol_of) entries_merged ∙ keys_of_rows (renaming parts) rows_here

  pub merged_apart : Apart same_symbol (map symbol_of (entries (merged parts)))
  merged_apart = subst (Apart same_symbol) (sym keys_merged) (rows_apart (renaming parts) (names parts))

  -- an alias of the merged module is a definition
  aliases_define : AliasesDefine (entries (merged parts))
  aliases_define = subst AliasesDefine (sym entries_merged) (go (renaming parts))
    where
      by_home : (r : Row) (o : Option Entry) → home parts r.0 ≡ o → is_alias (entry_by parts r.0 r.1 o).global ≡ true → is_definition (entry_by parts r.0 r.1 o) ≡ true
      by_home r None h t = absurd (both_ways _ (linked_is_alias_none parts r.0 r.1) t)
      by_home r (Some e) h t = moved_defines parts r.0 r.1 e (home_is parts _ r.0 e together.locals h).1

      go : (rows : List Row) → AliasesDefine (map (row_entry parts) rows)
      go [] = tt
      go (r ∷ rows) = (by_home r (home parts r.0) refl, go rows)

  split_merged : entries (merged parts) ≡ map (row_entry parts) (variable_rows parts) ++ map (row_entry parts) (function_rows parts) ++ map (row_entry parts) (alias_rows parts)
  split_merged = entries_merged ∙ map_three (row_entry parts)

  all_entries : (P : Entry → Type 0) (rows : List Row) → AllByRecursion (λ r. P (row_entry parts r)) rows → AllByRecursion P (map (row_entry parts) rows)
  all_entries P [] a = tt
  all_entries P (r ∷ rows) a = (a.0, all_entries P rows a.1)

  here_split : AllByRecursion (λ r. Here r.0) (variable_rows parts ++ function_rows parts ++ alias_rows parts)
  here_split = subst (AllByRecursion (λ r. Here r.0)) (renaming_split parts) rows_here

  here_front : AllByRecursion (λ r. Here r.0) (variable_rows parts ++ function_rows parts)
  here_front = all_front _ (variable_rows parts ++ function_rows parts) (alias_rows parts) here_split

  pub variables_merged : variable_symbols (merged parts) ≡ map as_row (variable_rows parts)
  variables_merged =
      variables_alone (merged parts) merged_apart aliases_define _ _ _ split_merged (all_entries _ _ variables_linked) (all_entries _ _ functions_linked) (all_entries _ _ aliases_linked)
      ∙ keys_of_rows (variable_rows parts) (all_front _ (variable_rows parts) (function_rows parts) here_front)

  pub functions_merged : function_symbols (merged parts) ≡ map as_row (function_rows parts)
  functions_merged =
      functions_alone (merged parts) merged_apart aliases_define _ _ _ split_merged (all_entries _ _ variables_linked) (all_entries _ _ functions_linked) (all_entries _ _ aliases_linked)
      ∙ keys_of_rows (function_rows parts) (all_back _ (variable_rows parts) (function_rows parts) here_front)

  pub aliases_merged : alias_symbols (merged parts) ≡ map as_row (alias_rows parts)
  aliases_merged =
      alias_symbols_alone (merged parts) merged_apart aliases_define _ _ _ split_merged (all_entries _ _ variables_linked) (all_entries _ _ functions_linked) (all_entries _ _ aliases_linked)
      ∙ keys_of_rows (alias_rows parts) (all_back _ (variable_rows parts ++ function_rows parts) (alias_rows parts) here_split)

  -- the merged symbols are the renaming's rows, in order
  pub symbols_merged : symbols (merged parts) ≡ map as_row (renaming parts)
  symbols_merged = ap₂ (λ x y. x ++ y) (ap₂ (λ x y. x ++ y) variables_merged functions_merged) aliases_merged ∙ sym (map_three as_row)
