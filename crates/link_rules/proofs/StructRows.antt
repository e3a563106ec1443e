-- The merged module's structs: each name of a part stands for one of them, of its name and shape.
use Rattle.std.proofs.Common.{◌≡◌, ℕ, zero, suc, Bool, true, false, ◌||◌, ◌&&◌, List, [], ◌∷◌, ◌++◌, map, Option, Some, refl, sym, ap, ◌∙◌, subst, option_map, bytes_eq}
use Rattle.std.specs.Prelude.{slice_get, slice_index_or}
use Rattle.std.specs.List.{list_any, AllByRecursion}
use Rattle.std.specs.Map.{lookup}
use Rattle.std.proofs.lemmas.Bool.{or_left, or_right, or_from, or_parts, and_from, and_parts, both_ways, cond-true, cond-false, false_from_ne_true}
use Rattle.std.proofs.lemmas.Option.{same_Some, slice_get-map, get_or_from_slice_get}
use Rattle.type_table.specs.Tree.{opaque_body, Structs, index_of, body_of}
use Rattle.type_table.specs.Shape.{Shape}
use Rattle.module_arena.specs.Module.{Bytes, Module}
use Rattle.module_arena.proofs.ModuleSet.{map_map}
use Rattle.linkage_rules.specs.Lists.{firsts, has}
use Rattle.linkage_rules.specs.SameShape.{alike}
use Rattle.linkage_rules.specs.declared.symbol.Symbol.{Symbol}
use Rattle.linkage_rules.specs.declared.symbol.Symbol.TheVariants.{Shared, Local}
use Rattle.linkage_rules.specs.Entries.{same_symbol, symbol_name}
use Rattle.link_rules.specs.Rename.{name_or}
use Rattle.link_rules.specs.Structs.{structs_from, struct_symbols, shape_of, same_struct, struct_map, new_struct, linked_struct}
use Rattle.link_rules.proofs.Apart.{Apart, none_at, has_at, at_has, apart_firsts}
use Rattle.linkage_rules.proofs.Lists.{has_firsts}
use Rattle.linkage_rules.specs.SymbolLaws.{name_self, name_exact, symbol_self, symbol_exact}
use Rattle.linkage_rules.proofs.Shapes.{alike_self, alike_exact}
use Rattle.linkage_rules.proofs.Entries.{firsts_map}
use Rattle.link_rules.proofs.Symbols.{all_firsts}
use Rattle.link_rules.proofs.Names.{keys_named, names_apart, shared_has}
use Rattle.link_rules.proofs.Merged.{Row}
use Rattle.link_rules.proofs.ByKind.{any_key}
use Rattle.link_rules.proofs.Searches.{at_all}

-- LISTS

pub index_at : (names : List Bytes) (k : ℕ) (name : Bytes) → Apart bytes_eq names → slice_get names k ≡ Some name → index_of names name ≡ k
index_at [] k name a h = cc
index_at (n ∷ names) zero name a h = cond-true (bytes_eq n name) _ _ (subst (λ z. bytes_eq n z ≡ true) (same_Some n name h) (name_self n))
index_at (n ∷ names) (suc k) name a h = cond-false (bytes_eq n name) _ _ (none_at (bytes_eq n) names k name a.0 h) ∙ ap suc (index_at names k name a.1 h)

-- a row whose key passes
pub record Found (test : Symbol → Bool) (rows : List Row) : Type 0 where
  pub place : ℕ
  pub row : Row
  pub at : slice_get rows place ≡ Some row
  pub passes : test row.0 ≡ true
  pub found : lookup test rows ≡ Some row.1

find_row : (test : Symbol → Bool) (rows : List Row) → list_any test (map (λ r. r.0) rows) ≡ true → Found test rows
find_row test [] h = cc
find_row test (r ∷ rows) h = go (test r.0) refl (find_row test rows)
  where
    go : (b : Bool) → test r.0 ≡ b → (list_any test (map (λ q. q.0) rows) ≡ true → Found test rows) → Found test (r ∷ rows)
    go true t more = record { place = 0; row = r; at = refl; passes = t; found = cond-true (test r.0) _ _ t }
    go false t more =
        let later = more (subst (λ c. (c || list_any test (map (λ q. q.0) rows)) ≡ true) t h) in
        record { place = suc later.place; row = later.row; at = later.at; passes = later.passes; found = cond-false (test r.0) _ _ t ∙ later.found }

-- KEYS

abbrev pub Key : Type 0
Key = Bytes × Option Shape

abbrev pub same_key : Key → Key → Bool
same_key a b = bytes_eq a.0 b.0 && alike a.1 b.1

pub key_self : (a : Key) → same_key a a ≡ true
key_self a = and_from _ _ (name_self a.0) (alike_self a.1)

pub key_exact : (a b : Key) → same_key a b ≡ true → a ≡ b
key_exact a b h =
    let halves = and_parts (bytes_eq a.0 b.0) (alike a.1 b.1) h in
    let names = name_exact a.0 b.0 halves.0 in
    let shapes = alike_exact a.1 b.1 halves.1 in
    λ i. (names i, shapes i)

module _ (parts : List Module) where
  abbrev pub key : Symbol → Key
  key s = (symbol_name s, shape_of parts s)

  abbrev pub first_structs : List Symbol
  first_structs = firsts (same_struct parts) (struct_symbols parts)

  pub first_keys : map key first_structs ≡ firsts same_key (map key (struct_symbols parts))
  first_keys = firsts_map key same_key (struct_symbols parts)

  pub struct_keys : map (λ r. r.0) (struct_map parts) ≡ first_structs
  struct_keys = keys_named (λ name. name) (map symbol_name (struct_symbols parts)) [] first_structs

  -- symbols that are unlike as structs are unlike
  apart_symbols : (ss : List Symbol) → Apart same_key (map key ss) → Apart same_symbol ss
  apart_symbols [] a = tt
  apart_symbols (s ∷ ss) a = (clear ss a.0, apart_symbols ss a.1)
    where
      clear : (ts : List Symbol) → list_any (same_key (key s)) (map key ts) ≡ false → list_any (same_symbol s) ts ≡ false
      clear [] h = refl
      clear (t ∷ ts) h =
          let halves = or_parts (same_key (key s) (key t)) _ h in
          or_from (same_symbol s t) _ (false_from_ne_true _ (λ e. both_ways _ halves.0 (subst (λ z. same_key (key s) (key z) ≡ true) (symbol_exact s t e) (key_self (key s))))) (clear ts halves.1)

  none_shared : (i : ℕ) (ms : List Module) (n : Bytes) → has same_symbol (structs_from i ms) (Shared n) ≡ false
  none_shared i [] n = refl
  none_shared i (m ∷ ms) n = go m.structs (none_shared (suc i) ms n)
    where
      go : (ts : Structs) → has same_symbol (structs_from (suc i) ms) (Shared n) ≡ false → has same_symbol (map (λ s. Local i s.0) ts ++ structs_from (suc i) ms) (Shared n) ≡ false
      go [] h = h
      go (t ∷ ts) h = go ts h

  no_shared_firsts : (n : Bytes) → has same_symbol first_structs (Shared n) ≡ false
  no_shared_firsts n = false_from_ne_true _ (λ e.
      let found = at_has same_symbol symbol_self symbol_exact first_structs (Shared n) e in
      both_ways _ (none_shared 0 parts n) (at_all (λ s. has same_symbol (struct_symbols parts) s ≡ true) first_structs found.0 (Shared n) (all_firsts _ (same_struct parts) (struct_symbols parts) (own (struct_symbols parts) (struct_symbols parts) (λ s h. h))) found.1))
    where
      own : (all ss : List Symbol) → ((s : Symbol) → has same_symbol ss s ≡ true → has same_symbol all s ≡ true) → AllByRecursion (λ s. has same_symbol all s ≡ true) ss
      own all [] f = tt
      own all (s ∷ ss) f = (f s (or_left _ _ (symbol_self s)), own all ss (λ t h. f t (or_right _ _ h)))

  pub struct_names : Apart bytes_eq (map (λ r. r.1) (struct_map parts))
  struct_names =
      names_apart (λ name. name) (map symbol_name (struct_symbols parts)) first_structs []
      (apart_symbols first_structs (subst (Apart same_key) (sym first_keys) (apart_firsts same_key key_self key_exact (map key (struct_symbols parts)))))
      (λ n h. absurd (both_ways _ (shared_has first_structs n ∙ no_shared_firsts n) h))

  -- a struct of a part has a row of its name and shape, whose name is its new one
  module _ (i : ℕ) (name : Bytes) (known : has same_symbol (struct_symbols parts) (Local i name) ≡ true) where
    struct_is_there : list_any (same_struct parts (Local i name)) (map (λ r. r.0) (struct_map parts)) ≡ true
    struct_is_there =
        let found = at_has same_symbol symbol_self symbol_exact (struct_symbols parts) (Local i name) known in
        let there = has_at same_key key_self key_exact (map key (struct_symbols parts)) found.0 (key (Local i name)) (slice_get-map key (struct_symbols parts) found.0 ∙ ap (option_map key) found.1) in
        ap (list_any (same_struct parts (Local i name))) struct_keys
        ∙ sym (any_key key (same_key (key (Local i name))) first_structs)
        ∙ ap (list_any (same_key (key (Local i name)))) first_keys
        ∙ has_firsts same_key key_self key_exact (map key (struct_symbols parts)) (key (Local i name)) there

    pub struct_row : Found (same_struct parts (Local i name)) (struct_map parts)
    struct_row = find_row (same_struct parts (Local i name)) (struct_map parts) struct_is_there

    pub new_name_is : new_struct parts i name ≡ struct_row.row.1
    new_name_is = ap (name_or name) struct_row.found

    pub same_shapes_are : shape_of parts (Local i name) ≡ shape_of parts struct_row.row.0
    same_shapes_are = ap (λ a. a.1) (key_exact (key (Local i name)) (key struct_row.row.0) struct_row.passes)

    pub body_is : body_of (map (linked_struct parts) (struct_map parts)) struct_row.row.1 ≡ (linked_struct parts struct_row.row).1
    body_is =
        ap (λ k. slice_index_or (map (λ s. s.1) (map (linked_struct parts) (struct_map parts))) k opaque_body)
        (index_at (map (λ s. s.0) (map (linked_struct parts) (struct_map parts))) struct_row.place struct_row.row.1 (subst (Apart bytes_eq) (sym (map_map (λ s. s.0) (linked_struct parts) (struct_map parts))) struct_names)
        (ap (λ l. slice_get l struct_row.place) (map_map (λ s. s.0) (linked_struct parts) (struct_map parts)) ∙ slice_get-map (λ r. r.1) (struct_map parts) struct_row.place ∙ ap (option_map (λ r. r.1)) struct_row.at))
        ∙ get_or_from_slice_get _ struct_row.place _ opaque_body
        (ap (λ l. slice_get l struct_row.place) (map_map (λ s. s.1) (linked_struct parts) (struct_map parts)) ∙ slice_get-map (λ r. (linked_struct parts r).1) (struct_map parts) struct_row.place ∙ ap (option_map (λ r. (linked_struct parts r).1)) struct_row.at)
