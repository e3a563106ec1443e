-- The homes that stand beside the symbols are theirs.
use Rattle.std.proofs.Common.{◌≡◌, ℕ, suc, Bool, false, cond, List, [], ◌∷◌, map, length, Option, Some, None, refl, sym, ap, ap₂, ◌∙◌, subst, filter, All}
use Rattle.std.specs.Prelude.{slice_get, unwrap_or, option_and_then}
use Rattle.std.specs.List.{position}
use Rattle.std.specs.Option.{option_map, option_map_or}
use Rattle.module_arena.specs.Lists.{Lists}
use Rattle.linkage_rules.specs.declared.entry.EntryId.{EntryId}
use Rattle.linkage_rules.specs.declared.symbol.SymbolKind.TheVariants as kind
use Rattle.linkage_rules.specs.Entries.{Entry, Symbol, same_symbol, symbol_of, entries_of}
use Rattle.linkage_rules.specs.Globals.{is_alias, is_variable}
use Rattle.linkage_rules.specs.Grouped.{Rows, home_in, key_in, AreIds, IsFiled, AreGroups, AreAliasGroups, IsHome, AreHomes, kind_of}
use Rattle.linkage_rules.specs.Ids.{IsEntryId, modules, seen}
use Rattle.linkage_rules.specs.Lists.{firsts, first}
use Rattle.linkage_rules.specs.Winner.{home}
use Rattle.linkage_rules.proofs.AtHome.{home_is}
use Rattle.linkage_rules.proofs.Entries.{map_filter}
use Rattle.linkage_rules.proofs.Steps.{all_get, all_kept}

same_length : {A B C : Type 0} (f : A → C) (g : B → C) (xs : List A) (ys : List B) → map f xs ≡ map g ys → length xs ≡ length ys
same_length f g xs ys h = sym (length_map f xs) ∙ ap length h ∙ length_map g ys
  where
    length_map : {D E : Type 0} (k : D → E) (zs : List D) → length (map k zs) ≡ length zs
    length_map k [] = refl
    length_map k (z ∷ zs) = ap suc (length_map k zs)

map_twice : {A B C : Type 0} (g : B → C) (f : A → B) (xs : List A) → map (λ x. g (f x)) xs ≡ map g (map f xs)
map_twice g f [] = refl
map_twice g f (x ∷ xs) = ap (λ l. g (f x) ∷ l) (map_twice g f xs)

module _ (parts : List Lists) where
  pub homes_length : (symbols : List Symbol) (homes : List (Option EntryId)) → AreHomes parts symbols homes → length homes ≡ length symbols
  homes_length symbols homes h = same_length (option_map (seen (modules parts))) (home (modules parts)) homes symbols h.each

  pub homes_count : (rows : Rows) (homes : List (Option EntryId)) → AreHomes parts (map (λ r. r.0) rows) homes → length homes ≡ length rows
  homes_count rows homes h = homes_length (map (λ r. r.0) rows) homes h ∙ length_rows rows
    where
      length_rows : (rs : Rows) → length (map (λ r. r.0) rs) ≡ length rs
      length_rows [] = refl
      length_rows (r ∷ rs) = ap suc (length_rows rs)

  module _ (rows : Rows) (homes : List (Option EntryId)) (are : AreHomes parts (map (λ r. r.0) rows) homes) where
    pub home_known : (s : Symbol) → IsHome parts (home_in rows homes s)
    home_known s = by (position (same_symbol s) (map (λ r. r.0) rows))
      where
        at : (k : ℕ) (o : Option (Option EntryId)) → slice_get homes k ≡ o → IsHome parts (unwrap_or o None)
        at k None e = tt
        at k (Some x) e = all_get (IsHome parts) homes k x are.known e

        by : (o : Option ℕ) → IsHome parts (option_and_then (λ k. unwrap_or (slice_get homes k) None) o)
        by None = tt
        by (Some k) = at k (slice_get homes k) refl

    pub home_at : AreGroups parts rows → (s : Symbol) → option_map (seen (modules parts)) (home_in rows homes s) ≡ home (modules parts) s
    home_at groups s = home_is (modules parts) rows homes are.each groups.groups s

  -- what is filed of all entries
  pub are_groups : (ids : List EntryId) (rows : Rows) → AreIds parts ids → IsFiled (key_in (modules parts)) ids rows → AreGroups parts rows
  are_groups ids rows all filed = record {
    keys = filed.keys ∙ ap (firsts same_symbol) (map_twice symbol_of (seen (modules parts)) ids ∙ ap (map symbol_of) all.entries);
    groups = λ s.
        ap (map (seen (modules parts))) (filed.groups s)
        ∙ map_filter (seen (modules parts)) (λ e. same_symbol s (symbol_of e)) ids
        ∙ ap (filter (λ e. same_symbol s (symbol_of e))) all.entries;
    known = λ s. subst (All (IsEntryId parts)) (sym (filed.groups s)) (all_kept (IsEntryId parts) (λ id. same_symbol s (key_in (modules parts) id)) ids all.known);
  }

  pub are_alias_groups : (ids found : List EntryId) (rows : Rows) → AreIds parts ids → found ≡ filter (λ id. is_alias (seen (modules parts) id).global) ids → IsFiled (key_in (modules parts)) found rows → AreAliasGroups parts rows
  are_alias_groups ids found rows all is filed =
      filed.keys
      ∙ ap (firsts same_symbol)
      (map_twice symbol_of (seen (modules parts)) found
      ∙ ap (map symbol_of) (ap (map (seen (modules parts))) is ∙ map_filter (seen (modules parts)) (λ (e : Entry). is_alias e.global) ids ∙ ap (filter (λ (e : Entry). is_alias e.global)) all.entries))

-- a kind from its tests
pub kind_is : (parts : List Lists) (s : Symbol) (a b : Bool) (home_entry : Option Entry) (es : List Entry) → a ≡ option_map_or (λ e. is_alias e.global) home_entry false → home_entry ≡ home (modules parts) s → b ≡ option_map_or (λ e. is_variable e.global) (first es) false → es ≡ entries_of (modules parts) s
    → cond a kind.Alias (cond b kind.Variable kind.Function) ≡ kind_of (modules parts) s
kind_is parts s a b home_entry es p q r t =
    ap₂ (λ x y. cond x kind.Alias (cond y kind.Variable kind.Function)) (p ∙ ap (λ o. option_map_or (λ (e : Entry). is_alias e.global) o false) q) (r ∙ ap (λ l. option_map_or (λ (e : Entry). is_variable e.global) (first l) false) t)
