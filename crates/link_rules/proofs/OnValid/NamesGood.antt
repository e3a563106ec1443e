-- The names of the linked module's entries and structs are good, and each is there once.
use Rattle.std.proofs.Common.{◌≡◌, ℕ, suc, ◌+◌, ◌<◌, Bool, true, false, ◌&&◌, ◌⊎◌, inl, inr, List, [], ◌∷◌, ◌++◌, map, length, refl, sym, ap, ap₂, ◌∙◌, subst, bytes_eq, nat_lt, codes, arith, lt-ltb}
use Rattle.std.specs.Prelude.{slice_get}
use Rattle.std.specs.List.{list_all, AllByRecursion}
use Rattle.std.specs.Int.Digits.{digits_of}
use Rattle.std.proofs.lemmas.Int.Digits.{all_below_base_digits_of}
use Rattle.std.proofs.lemmas.Bool.{and_from, and_parts, cases_Bool, cond-true, cond-false, not_from_false}
use Rattle.std.proofs.lemmas.Option.{slice_get-map}
use Rattle.linkage_rules.proofs.Gathered.{all_joined, all_mapped}
use Rattle.ir_tables.specs.Table.{is_distinct}
use Rattle.type_table.proofs.Rooms.{unmapped}
use Rattle.module_arena.specs.Module.{Bytes, Module}
use Rattle.module_arena.specs.Functions.{variable_names, alias_names, function_names}
use Rattle.module_arena.specs.Names.{is_name}
use Rattle.module_arena.specs.WellFormed.{struct_names, global_names, are_good_names, IsWellFormed}
use Rattle.linkage_rules.specs.Globals.{Global, name_of, linkage_of, globals}
use Rattle.linkage_rules.specs.Linkages.{is_local}
use Rattle.linkage_rules.specs.Lists.{has}
use Rattle.linkage_rules.specs.Entries.{Entry, entries_from, entries, same_symbol, symbol_of, symbol_name}
use Rattle.linkage_rules.specs.declared.symbol.Symbol.{Symbol}
use Rattle.linkage_rules.specs.declared.symbol.Symbol.TheVariants.{Shared, Local}
use Rattle.linkage_rules.specs.Symbols.{symbols}
use Rattle.linkage_rules.specs.Winner.{home}
use Rattle.link_rules.proofs.Apart.{Apart, at_has}
use Rattle.linkage_rules.specs.SymbolLaws.{symbol_self, symbol_exact}
use Rattle.link_rules.proofs.Symbols.{all_firsts, symbols_have}
use Rattle.link_rules.specs.Rename.{dotted, least, fresh, new_name, with_given_names, base_of, all_names, shared_names, renaming}
use Rattle.link_rules.specs.Structs.{structs_from, struct_symbols, same_struct, struct_map, linked_struct}
use Rattle.link_rules.specs.Linked.{linked, linked_globals, link_result}
use Rattle.link_rules.proofs.Merged.{Row, names, linked_name}
use Rattle.link_rules.proofs.Result.{globals_merged}
use Rattle.type_table.specs.Tree.{Structs}
use Rattle.module_arena.proofs.ModuleSet.{map_map}
use Rattle.linkage_rules.proofs.Entries.{all_follow}
use Rattle.link_rules.specs.Valid.Laws.{AreLinkable}
use Rattle.link_rules.proofs.OnValid.Lists.{all_tested}
use Rattle.link_rules.proofs.OnValid.Linking.{names_of, apart_parts, apart_together, cross_back, cross_front, Cross}
use Rattle.link_rules.proofs.OnValid.Renaming.{together}
use Rattle.link_rules.proofs.OnValid.Callees.{local_symbol, shared_symbol}
use Rattle.link_rules.proofs.StructRows as rows
use Rattle.link_rules.proofs.Searches.{at_all, all_front, all_back}
use Rattle.link_rules.proofs.Parts.{all_true}

-- GOOD NAMES

abbrev is_byte_of_name : ℕ → Bool
is_byte_of_name c = nat_lt 0 c && nat_lt c 256

all_append : (xs ys : List ℕ) → list_all is_byte_of_name xs ≡ true → list_all is_byte_of_name ys ≡ true → list_all is_byte_of_name (xs ++ ys) ≡ true
all_append [] ys h k = k
all_append (x ∷ xs) ys h k = let both = and_parts (is_byte_of_name x) _ h in and_from _ _ both.0 (all_append xs ys both.1 k)

name_append : (xs ys : Bytes) → is_name xs ≡ true → list_all is_byte_of_name ys ≡ true → is_name (xs ++ ys) ≡ true
name_append [] ys h k = cc
name_append (x ∷ xs) ys h k = all_append (x ∷ xs) ys h k

-- a digit is a byte of a name
digits_good : (ds : List ℕ) → AllByRecursion (λ d. d < 10) ds → list_all is_byte_of_name (map (λ d. d + 48) ds) ≡ true
digits_good [] a = refl
digits_good (d ∷ ds) a =
    let below : d < 10 = a.0 in
    let some : 0 < d + 48 = omega arith in
    let few : d + 48 < 256 = omega arith in
    and_from _ _ (and_from _ _ (lt-ltb 0 (d + 48) some) (lt-ltb (d + 48) 256 few)) (digits_good ds a.1)

pub all_digits_good : (n : ℕ) → list_all is_byte_of_name (map (λ d. d + 48) (digits_of 10 n)) ≡ true
all_digits_good n = digits_good (digits_of 10 n) (all_below_base_digits_of 10 n (omega arith))

module _ (base : Bytes → Bytes) (base_good : (name : Bytes) → is_name name ≡ true → is_name (base name) ≡ true) (digits : (n : ℕ) → list_all is_byte_of_name (map (λ d. d + 48) (digits_of 10 n)) ≡ true) (everywhere : List Bytes) where
  dotted_good : (name : Bytes) (n : ℕ) → is_name name ≡ true → is_name (dotted name n) ≡ true
  dotted_good name n h = name_append name (46 ∷ map (λ d. d + 48) (digits_of 10 n)) h (and_from _ _ refl (digits n))

  new_good : (given : List Bytes) (name : Bytes) → is_name name ≡ true → is_name (new_name base everywhere given name) ≡ true
  new_good given name h = go (cases_Bool (has bytes_eq given name))
    where
      go : (has bytes_eq given name ≡ true) ⊎ (has bytes_eq given name ≡ false) → is_name (new_name base everywhere given name) ≡ true
      go (inl t) = ap is_name (cond-true (has bytes_eq given name) (fresh (given ++ everywhere) (base name)) name t) ∙ dotted_good (base name) (least (length (given ++ everywhere)) (given ++ everywhere) (base name) 1) (base_good name h)
      go (inr f) = ap is_name (cond-false (has bytes_eq given name) (fresh (given ++ everywhere) (base name)) name f) ∙ h

  named_good : (given : List Bytes) (ss : List Symbol) → AllByRecursion (λ s. is_name (symbol_name s) ≡ true) ss → AllByRecursion (λ (r : Row). is_name r.1 ≡ true) (with_given_names base everywhere given ss)
  named_good given [] a = tt
  named_good given (Shared n ∷ ss) a = (a.0, named_good given ss a.1)
  named_good given (Local i n ∷ ss) a = (new_good given n a.0, named_good (new_name base everywhere given n ∷ given) ss a.1)

apart_distinct : (xs : List Bytes) → Apart bytes_eq xs → is_distinct bytes_eq xs ≡ true
apart_distinct [] a = refl
apart_distinct (x ∷ xs) a = and_from _ _ (not_from_false _ a.0) (apart_distinct xs a.1)

base_of_good : (name : Bytes) → is_name name ≡ true → is_name (base_of name) ≡ true
base_of_good name h = go (cases_Bool (bytes_eq name (codes "llvm")))
  where
    go : (bytes_eq name (codes "llvm") ≡ true) ⊎ (bytes_eq name (codes "llvm") ≡ false) → is_name (base_of name) ≡ true
    go (inl t) = ap is_name (cond-true (bytes_eq name (codes "llvm")) (codes "llvm_") name t)
    go (inr f) = ap is_name (cond-false (bytes_eq name (codes "llvm")) (codes "llvm_") name f) ∙ h

-- variables, functions, aliases, as variables, aliases, functions
in_order : (vs fs as_ : List Bytes) → Apart bytes_eq ((vs ++ fs) ++ as_) → Apart bytes_eq (vs ++ (as_ ++ fs))
in_order vs fs as_ a =
    let one = apart_parts (vs ++ fs) as_ a in
    let two = apart_parts vs fs one.0 in
    let front = split vs fs as_ one.1.1 in
    apart_together vs (as_ ++ fs) two.0 (apart_together as_ fs one.1.0 two.1.0 (cross_back fs as_ front.1)) (cross_back (as_ ++ fs) vs (cross_front as_ fs vs (cross_back vs as_ front.0) (cross_back vs fs two.1.1)))
  where
    split : (xs ys zs : List Bytes) → Cross (xs ++ ys) zs → Cross xs zs × Cross ys zs
    split [] ys zs c = (tt, c)
    split (x ∷ xs) ys zs c = let rest = split xs ys zs c.1 in ((c.0, rest.0), rest.1)

module _ (parts : List Module) (fine : AreLinkable parts) (digits : (n : ℕ) → list_all is_byte_of_name (map (λ d. d + 48) (digits_of 10 n)) ≡ true) where
  -- STRUCTS

  struct_symbols_good : (i : ℕ) (ms : List Module) → AllByRecursion IsWellFormed ms → AllByRecursion (λ s. is_name (symbol_name s) ≡ true) (structs_from i ms)
  struct_symbols_good i [] a = tt
  struct_symbols_good i (m ∷ ms) a =
      all_joined _ (map (λ s. Local i s.0) m.structs) (structs_from (suc i) ms)
      (each m.structs (and_parts (list_all is_name (struct_names m)) _ a.0.struct_names).0)
      (struct_symbols_good (suc i) ms a.1)
    where
      each : (structs : Structs) → list_all is_name (map (λ s. s.0) structs) ≡ true → AllByRecursion (λ s. is_name (symbol_name s) ≡ true) (map (λ s. Local i s.0) structs)
      each [] h = tt
      each (s ∷ structs) h = let both = and_parts (is_name s.0) _ h in (both.0, each structs both.1)

  pub struct_names_good : are_good_names (struct_names (link_result parts)) ≡ true
  struct_names_good =
      let same : struct_names (link_result parts) ≡ map (λ r. r.1) (struct_map parts) = map_map (λ s. s.0) (linked_struct parts) (struct_map parts) in
      ap are_good_names same
      ∙ and_from _ _
      (all_tested is_name _ (all_mapped (λ n. is_name n ≡ true) (λ r. r.1) (struct_map parts)
      (named_good (λ name. name) (λ name h. h) digits (map symbol_name (struct_symbols parts)) [] _ (all_firsts _ (same_struct parts) (struct_symbols parts) (struct_symbols_good 0 parts fine.good)))))
      (apart_distinct _ (rows.struct_names parts))

  -- ENTRIES

  entry_names : (i : ℕ) (ms : List Module) → AllByRecursion IsWellFormed ms → AllByRecursion (λ e. is_name (name_of e.global) ≡ true) (entries_from i ms)
  entry_names i [] a = tt
  entry_names i (m ∷ ms) a =
      let good = all_true is_name (global_names m) (and_parts (list_all is_name (global_names m)) _ a.0.global_names).0 in
      let vs = all_front _ (variable_names m) (alias_names m ++ function_names m) good in
      let rest = all_back _ (variable_names m) (alias_names m ++ function_names m) good in
      let as_ = all_front _ (alias_names m) (function_names m) rest in
      let fs = all_back _ (alias_names m) (function_names m) rest in
      all_joined _ (map (λ g. let e : Entry = record { part = i; global = g } in e) (globals m)) (entries_from (suc i) ms)
      (placed (globals m) (subst (AllByRecursion (λ n. is_name n ≡ true)) (sym (names_of m.variables m.functions m.aliases)) (all_joined _ (variable_names m ++ function_names m) (alias_names m) (all_joined _ (variable_names m) (function_names m) vs fs) as_)))
      (entry_names (suc i) ms a.1)
    where
      placed : (gs : List Global) → AllByRecursion (λ n. is_name n ≡ true) (map name_of gs) → AllByRecursion (λ e. is_name (name_of e.global) ≡ true) (map (λ g. let e : Entry = record { part = i; global = g } in e) gs)
      placed [] a = tt
      placed (g ∷ gs) a = (a.0, placed gs a.1)

  name_of_entry : (e : Entry) (s : Symbol) → symbol_of e ≡ s → name_of e.global ≡ symbol_name s
  name_of_entry e s is = go (cases_Bool (is_local (linkage_of e.global))) ∙ ap symbol_name is
    where
      go : (is_local (linkage_of e.global) ≡ true) ⊎ (is_local (linkage_of e.global) ≡ false) → name_of e.global ≡ symbol_name (symbol_of e)
      go (inl t) = ap symbol_name (sym (local_symbol e t))
      go (inr f) = ap symbol_name (sym (shared_symbol e f))

  symbols_good : AllByRecursion (λ s. is_name (symbol_name s) ≡ true) (symbols parts)
  symbols_good = all_follow _ _ (symbols parts) (λ s there.
      let found = at_has same_symbol symbol_self symbol_exact (map symbol_of (entries parts)) s there in
      let x = unmapped symbol_of (slice_get (entries parts) found.0) s (sym (slice_get-map symbol_of (entries parts) found.0) ∙ found.1) in
      ap is_name (sym (name_of_entry x.0 s x.2)) ∙ at_all (λ e. is_name (name_of e.global) ≡ true) (entries parts) found.0 x.0 (entry_names 0 parts fine.good) x.1) (symbols_have parts)

  linked_names : map name_of (linked_globals parts) ≡ map (λ r. r.1) (renaming parts)
  linked_names = map_map name_of (linked parts) (renaming parts) ∙ each (renaming parts)
    where
      each : (rows : List Row) → map (λ r. name_of (linked parts r)) rows ≡ map (λ r. r.1) rows
      each [] = refl
      each (r ∷ rows) = ap₂ (λ n ns. n ∷ ns) (linked_name parts r.0 r.1 (home parts r.0)) (each rows)

  merged_names : (variable_names (link_result parts) ++ function_names (link_result parts)) ++ alias_names (link_result parts) ≡ map (λ r. r.1) (renaming parts)
  merged_names =
      sym (names_of (link_result parts).variables (link_result parts).functions (link_result parts).aliases)
      ∙ ap (map name_of) (globals_merged parts (together parts fine)) ∙ linked_names

  pub global_names_good : are_good_names (global_names (link_result parts)) ≡ true
  global_names_good =
      let m = link_result parts in
      let good : AllByRecursion (λ n. is_name n ≡ true) ((variable_names m ++ function_names m) ++ alias_names m) =
      subst (AllByRecursion (λ n. is_name n ≡ true)) (sym merged_names) (all_mapped (λ n. is_name n ≡ true) (λ r. r.1) (renaming parts) (named_good base_of base_of_good digits (all_names parts) (shared_names (symbols parts)) (symbols parts) symbols_good)) in
      let both = all_front _ (variable_names m ++ function_names m) (alias_names m) good in
      and_from _ _
      (all_tested is_name (global_names m)
      (all_joined _ (variable_names m) (alias_names m ++ function_names m) (all_front _ (variable_names m) (function_names m) both)
      (all_joined _ (alias_names m) (function_names m) (all_back _ (variable_names m ++ function_names m) (alias_names m) good) (all_back _ (variable_names m) (function_names m) both))))
      (apart_distinct (global_names m) (in_order (variable_names m) (function_names m) (alias_names m) (subst (Apart bytes_eq) (sym merged_names) (names parts))))
