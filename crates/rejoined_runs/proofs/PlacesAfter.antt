-- All symbols have the same addresses where the first parts are one.
use Rattle.std.proofs.Common.{◌≡◌, ℕ, suc, ◌+◌, ◌-◌, ◌<◌, ◌≤◌, Bool, true, false, List, ◌++◌, map, length, Option, Some, None, refl, sym, ap, ap₂, ◌∙◌, subst, option_map, unwrap_or, position, filter_map, option_and_then}
use Rattle.std.specs.Prelude.{slice_get, if◌then◌else◌}
use Rattle.std.specs.List.{AllByRecursion}
use Rattle.std.specs.Map.{lookup}
use Rattle.std.proofs.lemmas.Option.{slice_get-map}
use Rattle.std.proofs.lemmas.List.{map-append}
use Rattle.ir_eval.specs.declared.value.Scalar.TheVariants.{Ptr}
use Rattle.type_table.specs.Shape.{void_leaf}
use Rattle.module_arena.specs.Module.{Bytes, Module}
use Rattle.linkage_rules.specs.Addresses.{Room, room, rooms, placed_from, addressed_from, place, address}
use Rattle.linkage_rules.specs.Bind.{Bound, Definition, Appended, Host, Null, Unresolved, bound_to, undefined, behind, own_meaning, meaning}
use Rattle.linkage_rules.specs.Entries.{Entry, entries, same_symbol, symbol_of, symbol_in}
use Rattle.linkage_rules.specs.Globals.{linkage_of}
use Rattle.linkage_rules.specs.Linkages.{is_appending}
use Rattle.linkage_rules.specs.Lists.{has}
use Rattle.linkage_rules.specs.declared.symbol.Symbol.{Symbol}
use Rattle.linkage_rules.specs.declared.symbol.Symbol.TheVariants.{Shared, Local}
use Rattle.linkage_rules.specs.Symbols.{variable_symbols, function_symbols, symbols}
use Rattle.linkage_rules.specs.Winner.{home}
use Rattle.linkage_rules.proofs.Entries.{all_follow}
use Rattle.link_rules.specs.Carried.{IsSymbol}
use Rattle.link_rules.specs.Known.{KnownName, KnownTree}
use Rattle.link_rules.specs.Linked.{link_result}
use Rattle.link_rules.specs.Merges.{Merges}
use Rattle.link_rules.specs.Rename.{new_global}
use Rattle.link_rules.specs.Structs.{new_struct}
use Rattle.link_rules.proofs.Agreed.{is_symbol}
use Rattle.link_rules.proofs.Searches.{at_all, lookup_map, position_map}
use Rattle.linked_runs.proofs.Known.{Fit}
use Rattle.linked_runs.proofs.Places.{under, rows_map, placed_map, addressed_map, rooms_are, places_are, behind_is}
use Rattle.linked_runs.proofs.SameNames.{defined_leaf}
use Rattle.run_rules.specs.Look.{pointer_to, leaf_of, address_in, names_in, variable_bounds, bounds_in}
use Rattle.run_rules.proofs.OnLaws.SameConstants.{Agree}
use Rattle.rejoined_runs.specs.Regrouped.{symbol_after, entry_after}
use Rattle.rejoined_runs.specs.Regroups.{Regroups}
use Rattle.rejoined_runs.proofs.Homes.{Ready, old, new}
use Rattle.rejoined_runs.proofs.LookUps.{first_symbol, absent_same}
use Rattle.rejoined_runs.proofs.Shifted.{structs_behind}
use Rattle.rejoined_runs.proofs.SymbolsAfter.{symbol_stays}

-- parts that can be linked at once, and in two goes
pub record Both (a b : List Module) : Type 0 where
  pub first : Fit a
  pub first_merges : Merges a
  pub fit : Fit (a ++ b)
  pub merges : Merges (a ++ b)
  pub regroups : Regroups a b

module _ (a b : List Module) (both : Both a b)
    (rooms_kept : AllByRecursion (λ s. room (new a b) (symbol_after a s) ≡ room (old a b) s)
    (variable_symbols (old a b))) where
  abbrev r : Regroups a b
  r = both.regroups

  pub rooms_same : rooms (new a b) ≡ map (under (symbol_after a)) (rooms (old a b))
  rooms_same =
      ap (filter_map
      (λ s. option_map {U = Symbol × Room} (λ k. (s, k)) (room (new a b) s))) r.variables
      ∙ rows_map (symbol_after a) (room (new a b)) (room (old a b))
      (variable_symbols (old a b)) rooms_kept

  places_same : place (new a b) ≡ map (under (symbol_after a)) (place (old a b))
  places_same =
      ap₂ (λ rs fs. placed_from 65536 rs ++ addressed_from 0 fs) rooms_same r.functions
      ∙ ap₂ (λ xs ys. xs ++ ys) (placed_map (symbol_after a) 65536 (rooms (old a b)))
      (addressed_map (symbol_after a) 0 (function_symbols (old a b)))
      ∙ sym (map-append (under (symbol_after a)) (placed_from 65536 (rooms (old a b)))
      (addressed_from 0 (function_symbols (old a b))))

  behind_stays : (s : Symbol) → IsSymbol (old a b) s → IsSymbol (old a b) (behind (old a b) s)
  behind_stays s here = behind_is (old a b) both.fit both.merges s here

  module _ (s : Symbol) (here : IsSymbol (old a b) s) where
    abbrev back : Symbol
    back = behind (old a b) s

    pub address_same : address (new a b) (symbol_after a s) ≡ address (old a b) s
    address_same =
        (λ i. lookup (same_symbol (r.behinds s here i)) (places_same i))
        ∙ lookup_map (symbol_after a) (same_symbol (symbol_after a back)) (same_symbol back)
        (place (old a b))
        (all_follow _ _ (place (old a b))
        (λ row k. r.apart back row.0 (behind_stays s here) k) (places_are (old a b)))

    block_same : position
        (λ (row : Symbol × Room). same_symbol (behind (new a b) (symbol_after a s)) row.0)
        (rooms (new a b))
        ≡ position (λ (row : Symbol × Room). same_symbol back row.0) (rooms (old a b))
    block_same =
        (λ i. position (λ (row : Symbol × Room). same_symbol (r.behinds s here i) row.0)
        (rooms_same i))
        ∙ position_map (under (symbol_after a))
        (λ (row : Symbol × Room). same_symbol (symbol_after a back) row.0)
        (λ (row : Symbol × Room). same_symbol back row.0) (rooms (old a b))
        (all_follow _ _ (rooms (old a b)) (λ row k. r.apart back row.0 (behind_stays s here) k)
        (rooms_are (old a b)))

    pub pointer_same : pointer_to (new a b) (symbol_after a s) ≡ pointer_to (old a b) s
    pointer_same = λ i. record { block = block_same i; address = unwrap_or (address_same i) 0 }

  variable_bounds_same : (k : ℕ) → variable_bounds (new a b) k ≡ variable_bounds (old a b) k
  variable_bounds_same k =
      ap (option_map
      (λ (row : Symbol × Room). (
        unwrap_or (address (new a b) row.0) 0,
        unwrap_or
            (address (new a b) row.0) 0 + row.1.size,
      ))) (ap (λ l. slice_get l k) rooms_same
      ∙ slice_get-map (under (symbol_after a)) (rooms (old a b)) k)
      ∙ go (slice_get (rooms (old a b)) k) refl
    where
      go : (o : Option (Symbol × Room)) → slice_get (rooms (old a b)) k ≡ o
          → option_map {U = ℕ × ℕ}
          (λ (row : Symbol × Room). (
            unwrap_or (address (new a b) row.0) 0,
            unwrap_or
                (address (new a b) row.0) 0 + row.1.size,
          ))
          (option_map (under (symbol_after a)) o)
          ≡ option_map {U = ℕ × ℕ}
          (λ (row : Symbol × Room). (
            unwrap_or (address (old a b) row.0) 0,
            unwrap_or
                (address (old a b) row.0) 0 + row.1.size,
          )) o
      go None h = refl
      go (Some row) h =
          let here = at_all _ (rooms (old a b)) k row (rooms_are (old a b)) h in
          λ i. Some (
            unwrap_or (address_same row.0 here i) 0,
            unwrap_or
                (address_same row.0 here i) 0 + row.1.size,
          )

  pub bounds_same : bounds_in (new a b) ≡ bounds_in (old a b)
  bounds_same = λ i p. option_and_then (λ k. variable_bounds_same k i) p.block

  -- MEANINGS

  pub meaning_path : (s : Symbol) (here : IsSymbol (old a b) s)
      → meaning (new a b) (symbol_after a s)
      ≡ bound_to (new a b) (symbol_after a (behind (old a b) s))
      (option_map (entry_after a (behind (old a b) s))
      (home (old a b) (behind (old a b) s)))
  meaning_path s here =
      ap (own_meaning (new a b)) (r.behinds s here)
      ∙ ap (bound_to (new a b) (symbol_after a (behind (old a b) s)))
      (r.homes (behind (old a b) s) (behind_stays s here))

  pub leaf_same : (s : Symbol) → IsSymbol (old a b) s
      → leaf_of (new a b) (symbol_after a s) (meaning (new a b) (symbol_after a s))
      ≡ leaf_of (old a b) s (meaning (old a b) s)
  leaf_same s here = ap (leaf_of (new a b) (symbol_after a s)) (meaning_path s here)
      ∙ by_home (home (old a b) (behind (old a b) s)) refl
    where
      pointers : Ptr (pointer_to (new a b) (symbol_after a s)) ≡ Ptr (pointer_to (old a b) s)
      pointers = ap Ptr (pointer_same s here)

      by_meaning : (x : Bound) → leaf_of (new a b) (symbol_after a s) x ≡ leaf_of (old a b) s x
      by_meaning (Definition e) = pointers
      by_meaning (Appended t) = pointers
      by_meaning (Host name) = pointers
      by_meaning Null = refl
      by_meaning Unresolved = refl

      by_home : (o : Option Entry) → home (old a b) (behind (old a b) s) ≡ o
          → leaf_of (new a b) (symbol_after a s)
          (bound_to (new a b) (symbol_after a (behind (old a b) s))
          (option_map (entry_after a (behind (old a b) s)) o))
          ≡ leaf_of (old a b) s (bound_to (old a b) (behind (old a b) s) o)
      by_home None h =
          ap (leaf_of (new a b) (symbol_after a s))
          (r.undefined_same (behind (old a b) s) (behind_stays s here) h)
          ∙ by_meaning (undefined (old a b) (behind (old a b) s))
      by_home (Some e) h =
          defined_leaf (new a b) (symbol_after a s) (symbol_after a (behind (old a b) s))
          (entry_after a (behind (old a b) s) e)
          (is_appending (linkage_of (entry_after a (behind (old a b) s) e).global))
          ∙ pointers
          ∙ sym (defined_leaf (old a b) s (behind (old a b) s) e
          (is_appending (linkage_of e.global)))

  -- NAMES

  pub first_known : (i : ℕ) (name : Bytes) → i < length a → KnownName a i name
      → IsSymbol (old a b) (symbol_in (old a b) i name)
  first_known i name h known =
      subst (IsSymbol (old a b)) (sym (first_symbol a b i name h))
      (symbol_stays a b (symbol_in a i name) known)

  -- what is written in a first part is looked up to the same
  pub first_agree : (i : ℕ) → i < length a
      → Agree (names_in (old a b) i) (names_in (new a b) 0) (new_struct a i) (new_global a i)
      (KnownTree a i) (KnownName a i)
  first_agree i h = record {
    same_shape = λ t k. ap (λ o. unwrap_or o void_leaf) (r.first_shapes i t h k);
    same_address =
        λ name k.
        (λ j. leaf_of (new a b) (r.first_names i name h k j)
        (meaning (new a b) (r.first_names i name h k j)))
        ∙ leaf_same (symbol_in (old a b) i name) (first_known i name h k);
    same_bounds = bounds_same;
  }

  leaf_anyway : (ready : Ready a) (s : Symbol) (i : ℕ) (name : Bytes)
      → symbol_in (old a b) i name ≡ s
      → leaf_of (new a b) (symbol_after a s) (meaning (new a b) (symbol_after a s))
      ≡ leaf_of (old a b) s (meaning (old a b) s)
  leaf_anyway ready (Local j m) i name h =
      leaf_same (Local j m)
      (is_symbol (old a b) (Local j m)
      (go (has same_symbol (map symbol_of (entries (old a b))) (Local i name)) refl h))
    where
      go : (c : Bool) → has same_symbol (map symbol_of (entries (old a b))) (Local i name) ≡ c
          → (if c then Local i name else Shared name) ≡ Local j m
          → has same_symbol (map symbol_of (entries (old a b))) (Local j m) ≡ true
      go true t k = subst (λ u. has same_symbol (map symbol_of (entries (old a b))) u ≡ true) k t
      go false t k = cc
  leaf_anyway ready (Shared m) i name h = go (has same_symbol (symbols (old a b)) (Shared m)) refl
    where
      go : (c : Bool) → has same_symbol (symbols (old a b)) (Shared m) ≡ c
          → leaf_of (new a b) (Shared m) (meaning (new a b) (Shared m))
          ≡ leaf_of (old a b) (Shared m) (meaning (old a b) (Shared m))
      go true here = leaf_same (Shared m) here
      go false gone =
          let means = absent_same a b ready m gone in
          ap (leaf_of (new a b) (Shared m)) means.0
          ∙ sym (ap (leaf_of (old a b) (Shared m)) means.1)

  -- and each name of another part means what it meant
  pub later_same : Ready a → (i : ℕ) → length a ≤ i
      → names_in (new a b) (suc (i - length a)) ≡ names_in (old a b) i
  later_same ready i h =
      λ j. record {
        structs = structs_behind a b (link_result a) i h j;
        address =
            λ name. address_there name j;
        bounds = bounds_same j;
      }
    where
      address_there : (name : Bytes)
          → address_in (new a b) (suc (i - length a)) name ≡ address_in (old a b) i name
      address_there name =
          (λ j. leaf_of (new a b) (r.later_names i name h j)
          (meaning (new a b) (r.later_names i name h j)))
          ∙ leaf_anyway ready (symbol_in (old a b) i name) i name refl
