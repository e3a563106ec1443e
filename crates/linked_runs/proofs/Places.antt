-- All symbols have the same addresses in the result.
use Rattle.std.proofs.Common.{◌≡◌, ℕ, suc, ◌+◌, List, [], ◌∷◌, ◌++◌, map, Option, Some, None, refl, sym, ap, ap₂, ◌∙◌, option_map, unwrap_or, position, filter_map, option_and_then}
use Rattle.std.specs.Prelude.{slice_get}
use Rattle.std.specs.List.{AllByRecursion, cons_option}
use Rattle.std.specs.Map.{lookup}
use Rattle.std.specs.Int.{next_multiple_of}
use Rattle.std.proofs.lemmas.Option.{slice_get-map}
use Rattle.std.proofs.lemmas.List.{map-append}
use Rattle.module_arena.specs.Module.{Module}
use Rattle.linkage_rules.specs.Bind.{behind_from, target_of, behind}
use Rattle.linkage_rules.specs.Entries.{Entry, same_symbol}
use Rattle.linkage_rules.specs.declared.symbol.Symbol.{Symbol}
use Rattle.linkage_rules.specs.Globals.{Global, OfVariable, OfFunction, OfAlias}
use Rattle.linkage_rules.specs.Addresses.{Room, room, rooms, placed_from, function_address, addressed_from, place, address}
use Rattle.linkage_rules.specs.Symbols.{variable_symbols, function_symbols, alias_symbols, symbols}
use Rattle.linkage_rules.specs.Winner.{home}
use Rattle.link_rules.proofs.Symbols.{home_is, all_among, variables_plain, variable_kinds}
use Rattle.linkage_rules.proofs.Entries.{all_follow}
use Rattle.linkage_rules.specs.SymbolLaws.{symbol_self}
use Rattle.linkage_rules.proofs.Gathered.{all_joined}
use Rattle.run_rules.specs.Look.{pointer_to, variable_bounds, bounds_in}
use Rattle.link_rules.specs.Carried.{merged, IsSymbol, carry}
use Rattle.linked_runs.proofs.Known.{IsKnown, Fit}
use Rattle.link_rules.specs.Merges.{Merges}
use Rattle.link_rules.proofs.Searches.{at_all, lookup_map, position_map, all_both, all_front, all_back}
use Rattle.linked_runs.proofs.Rooms.{room_same}

module _ {K : Type 0} (h : Symbol → Option K) where
  abbrev row_by : Symbol → Option (Symbol × K)
  row_by s = option_map {U = Symbol × K} (λ k. (s, k)) (h s)

  rows_all : (P : Symbol → Type 0) (ss : List Symbol) → AllByRecursion P ss → AllByRecursion (λ (row : Symbol × K). P row.0) (filter_map row_by ss)
  rows_all P [] a = tt
  rows_all P (s ∷ ss) a = go (h s) (rows_all P ss a.1)
    where
      go : (o : Option _) → AllByRecursion (λ (row : Symbol × _). P row.0) (filter_map row_by ss) → AllByRecursion (λ (row : Symbol × _). P row.0) (cons_option (option_map {U = Symbol × _} (λ k. (s, k)) o) (filter_map row_by ss))
      go None r = r
      go (Some k) r = (a.0, r)

pub rows_map : {K : Type 0} (f : Symbol → Symbol) (g h : Symbol → Option K) (ss : List Symbol) → AllByRecursion (λ s. g (f s) ≡ h s) ss
    → filter_map {Y = Symbol × K} (λ s. option_map {U = Symbol × K} (λ k. (s, k)) (g s)) (map f ss) ≡ map {B = Symbol × K} (λ (row : Symbol × K). (f row.0, row.1)) (filter_map (λ s. option_map {U = Symbol × K} (λ k. (s, k)) (h s)) ss)
rows_map f g h [] a = refl
rows_map {K} f g h (s ∷ ss) a =
    ap₂ (λ o rows. cons_option (option_map {U = Symbol × K} (λ k. (f s, k)) o) rows) a.0 (rows_map f g h ss a.1) ∙ go (h s)
  where
    go : (o : Option K) → cons_option (option_map {U = Symbol × K} (λ k. (f s, k)) o) (map {B = Symbol × K} (λ (row : Symbol × K). (f row.0, row.1)) (filter_map (λ s. option_map {U = Symbol × K} (λ k. (s, k)) (h s)) ss))
        ≡ map {B = Symbol × K} (λ (row : Symbol × K). (f row.0, row.1)) (cons_option (option_map {U = Symbol × K} (λ k. (s, k)) o) (filter_map (λ s. option_map {U = Symbol × K} (λ k. (s, k)) (h s)) ss))
    go None = refl
    go (Some k) = refl

placed_all : (P : Symbol → Type 0) (next : ℕ) (rows : List (Symbol × Room)) → AllByRecursion (λ (row : Symbol × Room). P row.0) rows → AllByRecursion (λ (row : Symbol × ℕ). P row.0) (placed_from next rows)
placed_all P next [] a = tt
placed_all P next (row ∷ rows) a = (a.0, placed_all P (next_multiple_of next row.1.alignment + row.1.size + 16) rows a.1)

addressed_all : (P : Symbol → Type 0) (n : ℕ) (ss : List Symbol) → AllByRecursion P ss → AllByRecursion (λ (row : Symbol × ℕ). P row.0) (addressed_from n ss)
addressed_all P n [] a = tt
addressed_all P n (s ∷ ss) a = (a.0, addressed_all P (suc n) ss a.1)

module _ (f : Symbol → Symbol) where
  abbrev pub under : {K : Type 0} → Symbol × K → Symbol × K
  under row = (f row.0, row.1)

  pub placed_map : (next : ℕ) (rows : List (Symbol × Room)) → placed_from next (map under rows) ≡ map under (placed_from next rows)
  placed_map next [] = refl
  placed_map next (row ∷ rows) = ap (λ l. (f row.0, next_multiple_of next row.1.alignment) ∷ l) (placed_map (next_multiple_of next row.1.alignment + row.1.size + 16) rows)

  pub addressed_map : (n : ℕ) (ss : List Symbol) → addressed_from n (map f ss) ≡ map under (addressed_from n ss)
  addressed_map n [] = refl
  addressed_map n (s ∷ ss) = ap (λ l. (f s, function_address n) ∷ l) (addressed_map (suc n) ss)

-- PARTS

module _ (parts : List Module) where
  pub all_symbols : AllByRecursion (IsSymbol parts) (symbols parts)
  all_symbols = all_among same_symbol symbol_self (symbols parts) (symbols parts) (λ s h. h)

  pub variables_are : AllByRecursion (IsSymbol parts) (variable_symbols parts)
  variables_are = all_front _ (variable_symbols parts) (function_symbols parts) (all_front _ (variable_symbols parts ++ function_symbols parts) (alias_symbols parts) all_symbols)

  pub functions_are : AllByRecursion (IsSymbol parts) (function_symbols parts)
  functions_are = all_back _ (variable_symbols parts) (function_symbols parts) (all_front _ (variable_symbols parts ++ function_symbols parts) (alias_symbols parts) all_symbols)

  pub rooms_are : AllByRecursion (λ (row : Symbol × Room). IsSymbol parts row.0) (rooms parts)
  rooms_are = rows_all (room parts) (IsSymbol parts) (variable_symbols parts) variables_are

  pub places_are : AllByRecursion (λ (row : Symbol × ℕ). IsSymbol parts row.0) (place parts)
  places_are = all_joined _ (placed_from 65536 (rooms parts)) (addressed_from 0 (function_symbols parts)) (placed_all _ 65536 (rooms parts) rooms_are) (addressed_all _ 0 (function_symbols parts) functions_are)

module _ (parts : List Module) (fit : Fit parts) (merges : Merges parts) where
  pub rooms_same : rooms (merged parts) ≡ map (under (carry parts)) (rooms parts)
  rooms_same =
      ap (filter_map (λ s. option_map {U = Symbol × Room} (λ r. (s, r)) (room (merged parts) s))) merges.variables
      ∙ rows_map (carry parts) (room (merged parts)) (room parts) (variable_symbols parts)
      (all_follow _ _ (variable_symbols parts) (λ s h. room_same parts fit merges s h.0 h.1.0 h.1.1)
      (all_both _ _ (variable_symbols parts) (variables_are parts) (all_both _ _ (variable_symbols parts) (variable_kinds parts fit.together) (variables_plain parts))))

  places_same : place (merged parts) ≡ map (under (carry parts)) (place parts)
  places_same =
      ap₂ (λ rs fs. placed_from 65536 rs ++ addressed_from 0 fs) rooms_same merges.functions
      ∙ ap₂ (λ xs ys. xs ++ ys) (placed_map (carry parts) 65536 (rooms parts)) (addressed_map (carry parts) 0 (function_symbols parts))
      ∙ sym (map-append (under (carry parts)) (placed_from 65536 (rooms parts)) (addressed_from 0 (function_symbols parts)))

  -- what an alias is of is a symbol
  pub behind_is : (s : Symbol) → IsSymbol parts s → IsSymbol parts (behind parts s)
  behind_is s here = by_home (home parts s) refl
    where
      by_global : (i : ℕ) (g : Global) → IsKnown parts i g → IsSymbol parts (target_of parts s i g)
      by_global i (OfVariable v) known = here
      by_global i (OfFunction f) known = here
      by_global i (OfAlias a) known = known.0

      by_home : (o : Option Entry) → home parts s ≡ o → IsSymbol parts (behind_from parts s o)
      by_home None h = here
      by_home (Some e) h = by_global e.part e.global (home_is parts (λ d. IsKnown parts d.part d.global) s e fit.known h).0.0

  module _ (s : Symbol) (here : IsSymbol parts s) where
    abbrev b : Symbol
    b = behind parts s

    pub address_same : address (merged parts) (carry parts s) ≡ address parts s
    address_same =
        (λ i. lookup (same_symbol (merges.behinds s here i)) (places_same i))
        ∙ lookup_map (carry parts) (same_symbol (carry parts b)) (same_symbol b) (place parts) (all_follow _ _ (place parts) (λ row k. merges.apart b row.0 (behind_is s here) k) (places_are parts))

    block_same : position (λ (row : Symbol × Room). same_symbol (behind (merged parts) (carry parts s)) row.0) (rooms (merged parts)) ≡ position (λ (row : Symbol × Room). same_symbol b row.0) (rooms parts)
    block_same =
        (λ i. position (λ (row : Symbol × Room). same_symbol (merges.behinds s here i) row.0) (rooms_same i))
        ∙ position_map (under (carry parts)) (λ (row : Symbol × Room). same_symbol (carry parts b) row.0) (λ (row : Symbol × Room). same_symbol b row.0) (rooms parts) (all_follow _ _ (rooms parts) (λ row k. merges.apart b row.0 (behind_is s here) k) (rooms_are parts))

    pub pointer_same : pointer_to (merged parts) (carry parts s) ≡ pointer_to parts s
    pointer_same = λ i. record { block = block_same i; address = unwrap_or (address_same i) 0 }

  variable_bounds_same : (k : ℕ) → variable_bounds (merged parts) k ≡ variable_bounds parts k
  variable_bounds_same k =
      ap (option_map (λ (row : Symbol × Room). (unwrap_or (address (merged parts) row.0) 0, unwrap_or (address (merged parts) row.0) 0 + row.1.size))) (ap (λ l. slice_get l k) rooms_same ∙ slice_get-map (under (carry parts)) (rooms parts) k)
      ∙ go (slice_get (rooms parts) k) refl
    where
      go : (o : Option (Symbol × Room)) → slice_get (rooms parts) k ≡ o
          → option_map {U = ℕ × ℕ} (λ (row : Symbol × Room). (unwrap_or (address (merged parts) row.0) 0, unwrap_or (address (merged parts) row.0) 0 + row.1.size)) (option_map (under (carry parts)) o)
          ≡ option_map {U = ℕ × ℕ} (λ (row : Symbol × Room). (unwrap_or (address parts row.0) 0, unwrap_or (address parts row.0) 0 + row.1.size)) o
      go None h = refl
      go (Some row) h =
          let here = at_all _ (rooms parts) k row (rooms_are parts) h in
          λ i. Some (unwrap_or (address_same row.0 here i) 0, unwrap_or (address_same row.0 here i) 0 + row.1.size)

  pub bounds_same : bounds_in (merged parts) ≡ bounds_in parts
  bounds_same = λ i p. option_and_then (λ k. variable_bounds_same k i) p.block
