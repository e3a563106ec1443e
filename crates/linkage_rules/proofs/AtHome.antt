-- The home that stands where a symbol does is the symbol's.
use Rattle.std.proofs.Common.{◌≡◌, ℕ, suc, ◌+◌, ◌<◌, Bool, true, false, not, cond, List, [], ◌∷◌, map, length, Option, Some, None, refl, sym, ap, ◌∙◌, filter, arith, nat_lt, get_or}
use Rattle.std.specs.Prelude.{slice_get, unwrap_or, option_and_then}
use Rattle.std.specs.List.{position, position_or_len}
use Rattle.std.specs.Map.{lookup}
use Rattle.std.specs.Option.{option_map}
use Rattle.std.proofs.lemmas.Bool.{cond-true, lt-ltb}
use Rattle.std.proofs.lemmas.List.Quantifiers.{position-Some}
use Rattle.std.proofs.lemmas.Option.{slice_get-map, same_Some, slice_get-get_or}
use Rattle.module_arena.specs.Module.{Module}
use Rattle.linkage_rules.specs.declared.entry.EntryId.{EntryId}
use Rattle.linkage_rules.specs.Entries.{Symbol, same_symbol, entries_of}
use Rattle.linkage_rules.specs.Grouped.{Rows, group_in, home_in}
use Rattle.linkage_rules.specs.Ids.{seen}
use Rattle.linkage_rules.specs.SymbolLaws.{symbol_exact}
use Rattle.linkage_rules.specs.Winner.{best, is_definition, home}

module _ {V : Type 0} (p : Symbol → Bool) where
  found_within : (rows : List (Symbol × V)) (v : V) → lookup p rows ≡ Some v → position_or_len p (map (λ r. r.0) rows) < length (map (λ r. r.0) rows)
  found_within [] v h = cc
  found_within (r ∷ rows) v h = go (p r.0) h (found_within rows v)
    where
      go : (b : Bool) → cond b (Some r.1) (lookup p rows) ≡ Some v → (lookup p rows ≡ Some v → position_or_len p (map (λ q. q.0) rows) < length (map (λ q. q.0) rows)) → cond (not b) (1 + position_or_len p (map (λ q. q.0) rows)) 0 < suc (length (map (λ q. q.0) rows))
      go true e more = omega arith
      go false e more = let lt = more e in omega (arith, lt)

  -- what has no place is not found
  pub not_found : (rows : List (Symbol × V)) → position p (map (λ r. r.0) rows) ≡ None → lookup p rows ≡ None
  not_found rows h = by (lookup p rows) refl
    where
      by : (o : Option V) → lookup p rows ≡ o → lookup p rows ≡ None
      by None e = e
      by (Some v) e =
          let is : position p (map (λ r. r.0) rows) ≡ Some (position_or_len p (map (λ r. r.0) rows)) = cond-true (nat_lt (position_or_len p (map (λ r. r.0) rows)) (length (map (λ r. r.0) rows))) _ _ (lt-ltb _ _ (found_within rows v e)) in
          cc

module _ (parts : List Module) (rows : Rows) (homes : List (Option EntryId)) where
  -- at a place, from the place of its symbol
  at_place : map (option_map (seen parts)) homes ≡ map (home parts) (map (λ r. r.0) rows) → (k : ℕ) (s : Symbol) → slice_get (map (λ r. r.0) rows) k ≡ Some s → option_map (seen parts) (unwrap_or (slice_get homes k) None) ≡ home parts s
  at_place each k s h = by (slice_get homes k) (sym (slice_get-map (option_map (seen parts)) homes k) ∙ ap (λ l. slice_get l k) each ∙ slice_get-map (home parts) (map (λ r. r.0) rows) k ∙ ap (option_map (home parts)) h)
    where
      by : (o : Option (Option EntryId)) → option_map (option_map (seen parts)) o ≡ Some (home parts s) → option_map (seen parts) (unwrap_or o None) ≡ home parts s
      by None e = cc
      by (Some x) e = same_Some (option_map (seen parts) x) (home parts s) e

  pub home_is : map (option_map (seen parts)) homes ≡ map (home parts) (map (λ r. r.0) rows) → ((s : Symbol) → map (seen parts) (group_in rows s) ≡ entries_of parts s) → (s : Symbol) → option_map (seen parts) (home_in rows homes s) ≡ home parts s
  home_is each groups s = by (position (same_symbol s) (map (λ r. r.0) rows)) refl
    where
      by : (o : Option ℕ) → position (same_symbol s) (map (λ r. r.0) rows) ≡ o → option_map (seen parts) (option_and_then (λ k. unwrap_or (slice_get homes k) None) o) ≡ home parts s
      by None e =
          let nothing : group_in rows s ≡ [] = ap (λ o. unwrap_or o []) (not_found (same_symbol s) rows e) in
          ap (λ es. best parts (filter is_definition es)) (sym (ap (map (seen parts)) nothing) ∙ groups s)
      by (Some k) e =
          let at = position-Some (same_symbol s) (map (λ r. r.0) rows) k s e in
          at_place each k s (slice_get-get_or (map (λ r. r.0) rows) k s at.0 ∙ ap Some (sym (symbol_exact s (get_or (map (λ r. r.0) rows) k s) at.1)))
