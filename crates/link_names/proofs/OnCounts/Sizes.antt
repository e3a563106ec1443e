-- Appended arrays that are past the limit, looked for in all symbols.
use Rattle.std.proofs.Common.{◌≡◌, ◌⊎◌, inl, inr, ℕ, ◌+◌, ◌-◌, ◌^◌, ◌<◌, Bool, true, false, cond, List, [], ◌∷◌, filter, map, length, drop, nat_lt, Option, Some, None, refl, sym, ap, ◌∙◌}
use Rattle.std.specs.Prelude.{filter_map, slice_get}
use Rattle.std.specs.List.{cons_option}
use Rattle.std.specs.Option.{option_map}
use Rattle.module_arena.specs.Lists.{Lists}
use Rattle.module_arena.specs.Module.{Module}
use Rattle.linkage_rules.specs.declared.entry.EntryId.{EntryId}
use Rattle.linkage_rules.specs.declared.symbol.Symbol.{Symbol}
use Rattle.linkage_rules.specs.declared.symbol.SymbolKind.{SymbolKind}
use Rattle.linkage_rules.specs.declared.symbol.SymbolKind.TheVariants as kind
use Rattle.linkage_rules.specs.Conflicts.{appends}
use Rattle.linkage_rules.specs.Entries.{Entry}
use Rattle.linkage_rules.specs.Grouped.{AreGroups, AreHomes, Rows, group_in, home_in, kind_of, same_kind}
use Rattle.linkage_rules.specs.Ids.{modules, seen}
use Rattle.linkage_rules.specs.Lists.{first}
use Rattle.linkage_rules.specs.Symbols.{symbols}
use Rattle.linkage_rules.specs.Winner.{definitions, home, is_definition}
use Rattle.linkage_rules.proofs.KindsAmong.{variables_among}
use Rattle.linkage_rules.proofs.Standing.{home_at}
use Rattle.linkage_rules.proofs.Steps.{drop_more, drop_whole}
use Rattle.linkage_rules.specs.Resolving.Places.{clamped}
use Rattle.link_rules.specs.Counts.{appended_bytes}
use Rattle.link_names.specs.Counts.Told.{appended_at, appended_of, first_appended, if_long, too_long_of}
use Rattle.link_names.proofs.OnCounts.Clamped.{past_clamped}

-- ONE SYMBOL

module _ (parts : List Lists) (rows : Rows) (homes : List (Option EntryId)) (groups : AreGroups parts rows) (are : AreHomes parts (map (λ r. r.0) rows) homes) (s : Symbol) where
  home_from : (o : Option EntryId) → o ≡ home_in rows homes s → home (modules parts) s ≡ option_map (seen (modules parts)) o
  home_from o is = sym (home_at parts rows homes are groups s) ∙ ap (option_map (seen (modules parts))) (sym is)

  appended_from : (o : Option Entry) → home (modules parts) s ≡ o → appended_of (modules parts) s ≡ appended_at (modules parts) s o
  appended_from o is = ap (appended_at (modules parts) s) is

  -- not defined
  pub none_there : None ≡ home_in rows homes s → None ≡ option_map clamped (appended_of (modules parts) s)
  none_there is = sym (ap (option_map clamped) (appended_from None (home_from None is)))

  module _ (id : EntryId) (is : Some id ≡ home_in rows homes s) where
    at_home : appended_of (modules parts) s ≡ appended_at (modules parts) s (Some (seen (modules parts) id))
    at_home = appended_from (Some (seen (modules parts) id)) (home_from (Some id) is)

    -- not appended
    pub not_appended : appends (seen (modules parts) id) ≡ false → None ≡ option_map clamped (appended_of (modules parts) s)
    not_appended plain = sym (ap (option_map clamped) (at_home ∙ ap (λ b. cond b (Some (appended_bytes (modules parts) (seen (modules parts) id) (definitions (modules parts) s))) None) plain))

    -- appended
    pub told_appended : (ids : List EntryId) (n : ℕ) → appends (seen (modules parts) id) ≡ true → ids ≡ group_in rows s → n ≡ clamped (appended_bytes (modules parts) (seen (modules parts) id) (filter is_definition (map (seen (modules parts)) ids)))
        → Some n ≡ option_map clamped (appended_of (modules parts) s)
    told_appended ids n appending group bytes =
        ap Some (bytes ∙ ap (λ es. clamped (appended_bytes (modules parts) (seen (modules parts) id) (filter is_definition es))) (ap (map (seen (modules parts))) group ∙ groups.groups s))
        ∙ sym (ap (option_map clamped) (at_home ∙ ap (λ b. cond b (Some (appended_bytes (modules parts) (seen (modules parts) id) (definitions (modules parts) s))) None) appending))

-- a size that is past the limit, cut or not
pub long_clamped : 2 ^ 40 < 2 ^ 64 - 1 → (o : Option ℕ) → if_long (option_map clamped o) ≡ option_map clamped (if_long o)
long_clamped small None = refl
long_clamped small (Some n) = ap (λ b. cond b (Some (clamped n)) None) (past_clamped (2 ^ 64 - 1) (2 ^ 40) n small) ∙ go (nat_lt (2 ^ 40) n)
  where
    go : (b : Bool) → cond b (Some (clamped n)) None ≡ option_map clamped (cond b (Some n) None)
    go true = refl
    go false = refl

pub variable_long : (parts : List Module) (s : Symbol) → kind_of parts s ≡ kind.Variable → too_long_of parts s ≡ if_long (appended_of parts s)
variable_long parts s is = ap (λ b. cond b (if_long (appended_of parts s)) None) (ap (same_kind kind.Variable) is)

pub plain_long : (parts : List Module) (s : Symbol) (found : SymbolKind) → found ≡ kind_of parts s → (found ≡ kind.Function) ⊎ (found ≡ kind.Alias) → too_long_of parts s ≡ None
plain_long parts s found is (inl other) = ap (λ b. cond b (if_long (appended_of parts s)) None) (ap (same_kind kind.Variable) (sym is ∙ other))
plain_long parts s found is (inr other) = ap (λ b. cond b (if_long (appended_of parts s)) None) (ap (same_kind kind.Variable) (sym is ∙ other))

-- ALL SYMBOLS

module _ (parts : List Module) where
  abbrev is_variable : Symbol → Bool
  is_variable s = same_kind kind.Variable (kind_of parts s)

  one_long : (o : Option ℕ) (ns ms : List ℕ) → filter (nat_lt (2 ^ 40)) ns ≡ ms → filter (nat_lt (2 ^ 40)) (cons_option o ns) ≡ cons_option (if_long o) ms
  one_long None ns ms e = e
  one_long (Some n) ns ms e = go (nat_lt (2 ^ 40) n)
    where
      go : (b : Bool) → cond b (n ∷ filter (nat_lt (2 ^ 40)) ns) (filter (nat_lt (2 ^ 40)) ns) ≡ cons_option (cond b (Some n) None) ms
      go true = ap (λ l. n ∷ l) e
      go false = e

  long_among : (ss : List Symbol) → filter (nat_lt (2 ^ 40)) (filter_map (appended_of parts) (filter is_variable ss)) ≡ filter_map (too_long_of parts) ss
  long_among [] = refl
  long_among (s ∷ ss) = go (is_variable s) (long_among ss)
    where
      go : (b : Bool) → filter (nat_lt (2 ^ 40)) (filter_map (appended_of parts) (filter is_variable ss)) ≡ filter_map (too_long_of parts) ss
          → filter (nat_lt (2 ^ 40)) (filter_map (appended_of parts) (cond b (s ∷ filter is_variable ss) (filter is_variable ss))) ≡ cons_option (cond b (if_long (appended_of parts s)) None) (filter_map (too_long_of parts) ss)
      go true e = one_long (appended_of parts s) (filter_map (appended_of parts) (filter is_variable ss)) (filter_map (too_long_of parts) ss) e
      go false e = e

  pub long_begins : (ss : List Symbol) → ss ≡ symbols parts → first_appended parts ≡ first (filter_map (too_long_of parts) ss)
  long_begins ss all =
      ap (λ vs. first (filter (nat_lt (2 ^ 40)) (filter_map (appended_of parts) vs))) (sym (variables_among parts) ∙ ap (filter is_variable) (sym all))
      ∙ ap first (long_among ss)

  module _ (ss : List Symbol) (k : ℕ) where
    pub long_ends : k ≡ length ss → first_appended parts ≡ first (filter_map (too_long_of parts) (drop k ss)) → None ≡ option_map clamped (first_appended parts)
    long_ends end so_far = sym (ap (option_map clamped) (so_far ∙ ap (λ l. first (filter_map (too_long_of parts) l)) (ap (λ n. drop n ss) end ∙ drop_whole ss)))

    module _ (s : Symbol) (at : slice_get ss k ≡ Some s) (so_far : first_appended parts ≡ first (filter_map (too_long_of parts) (drop k ss))) where
      next : first_appended parts ≡ first (cons_option (too_long_of parts s) (filter_map (too_long_of parts) (drop (k + 1) ss)))
      next = so_far ∙ ap (λ l. first (filter_map (too_long_of parts) l)) (drop_more ss k s at)

      pub long_passed : None ≡ option_map clamped (too_long_of parts s) → first_appended parts ≡ first (filter_map (too_long_of parts) (drop (k + 1) ss))
      long_passed none = next ∙ go (too_long_of parts s) none
        where
          go : (o : Option ℕ) → None ≡ option_map clamped o → first (cons_option o (filter_map (too_long_of parts) (drop (k + 1) ss))) ≡ first (filter_map (too_long_of parts) (drop (k + 1) ss))
          go None e = refl
          go (Some n) e = cc

      pub long_found : (n : ℕ) → Some n ≡ option_map clamped (too_long_of parts s) → Some n ≡ option_map clamped (first_appended parts)
      long_found n found = go (too_long_of parts s) found ∙ sym (ap (option_map clamped) next)
        where
          go : (o : Option ℕ) → Some n ≡ option_map clamped o → Some n ≡ option_map clamped (first (cons_option o (filter_map (too_long_of parts) (drop (k + 1) ss))))
          go None e = cc
          go (Some m) e = e
