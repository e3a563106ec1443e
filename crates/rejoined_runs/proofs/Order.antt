-- The symbols of parts of which the first are as others were: those of the first, and then the
-- later ones that are new.
use Rattle.std.proofs.Common.{◌≡◌, Bool, true, false, not, ◌||◌, List, [], ◌∷◌, ◌++◌, map, refl, sym, ap, ap₂, ◌∙◌, subst, filter}
use Rattle.std.specs.List.{list_any, AllByRecursion}
use Rattle.std.proofs.lemmas.Bool.{both_ways}
use Rattle.std.proofs.lemmas.List.Elements.{filter-append}
use Rattle.std.proofs.lemmas.List.{map-append}
use Rattle.module_arena.specs.Module.{Module}
use Rattle.linkage_rules.specs.Entries.{Entry, entries, same_symbol, symbol_of}
use Rattle.linkage_rules.specs.Globals.{is_alias}
use Rattle.linkage_rules.specs.Lists.{firsts, has}
use Rattle.linkage_rules.specs.SymbolLaws.{symbol_self, symbol_exact}
use Rattle.linkage_rules.specs.Symbols.{is_alias_symbol, plain_entries, alias_symbols}
use Rattle.linkage_rules.specs.declared.symbol.Symbol.{Symbol}
use Rattle.linkage_rules.proofs.Entries.{map_filter, firsts_map, all_follow, all_passing}
use Rattle.linkage_rules.proofs.Lists.{has_firsts, firsts_has}
use Rattle.linkage_rules.proofs.Gathered.{all_mapped}
use Rattle.link_rules.proofs.Searches.{all_both}
use Rattle.link_rules.proofs.Symbols.{all_firsts}
use Rattle.rejoined_runs.proofs.Lists.{same_truth, filter_all, filter_swapped, filter_narrower, is_new, firsts_joined}

-- two entries of one symbol
abbrev pub alike : Entry → Entry → Bool
alike d e = same_symbol (symbol_of d) (symbol_of e)

pub same_swapped : (s t : Symbol) → same_symbol s t ≡ same_symbol t s
same_swapped s t =
    same_truth (same_symbol s t) (same_symbol t s)
    (λ h. subst (λ u. same_symbol u s ≡ true) (symbol_exact s t h) (symbol_self s))
    (λ h. subst (λ u. same_symbol u t ≡ true) (symbol_exact t s h) (symbol_self t))

-- whether an entry is new, by its symbol
pub new_by_symbol : (es : List Entry) (e : Entry)
    → is_new alike es e ≡ not (has same_symbol (map symbol_of es) (symbol_of e))
new_by_symbol es e = ap not (go es)
  where
    go : (ds : List Entry)
        → list_any (λ d. alike d e) ds ≡ has same_symbol (map symbol_of ds) (symbol_of e)
    go [] = refl
    go (d ∷ ds) = ap₂ (λ b c. b || c) (same_swapped (symbol_of d) (symbol_of e)) (go ds)

module _ (parts others : List Module) (behind : List Entry)
    (split : entries parts ≡ entries others ++ behind)
    (stay : AllByRecursion (λ e. is_alias_symbol others (symbol_of e) ≡ true
    → is_alias_symbol parts (symbol_of e) ≡ true) (entries others)) where
  abbrev is_plain : Entry → Bool
  is_plain e = not (is_alias_symbol parts (symbol_of e))

  abbrev was_plain : Entry → Bool
  was_plain e = not (is_alias_symbol others (symbol_of e))

  narrow : (b c : Bool) → (b ≡ true → c ≡ true) → not c ≡ true → not b ≡ true
  narrow true true f h = h
  narrow true false f h = absurd (both_ways false refl (f refl))
  narrow false c f h = refl

  -- those of one kind among the plain ones
  pub kind_split : (p : Entry → Bool) → map symbol_of (filter p (plain_entries parts))
      ≡ filter (λ s. not (is_alias_symbol parts s))
      (map symbol_of (filter p (plain_entries others)))
      ++ map symbol_of
      (filter p
      (filter is_plain (filter (is_new alike (entries others)) (firsts alike behind))))
  kind_split p =
      ap (λ es. map symbol_of (filter p (filter is_plain es))) (ap (firsts alike) split
      ∙ firsts_joined alike (entries others) behind)
      ∙ ap (λ es. map symbol_of (filter p es))
      (filter-append is_plain (firsts alike (entries others))
      (filter (is_new alike (entries others)) (firsts alike behind)))
      ∙ ap (map symbol_of)
      (filter-append p (filter is_plain (firsts alike (entries others)))
      (filter is_plain (filter (is_new alike (entries others)) (firsts alike behind))))
      ∙ map-append symbol_of (filter p (filter is_plain (firsts alike (entries others))))
      (filter p
      (filter is_plain (filter (is_new alike (entries others)) (firsts alike behind))))
      ∙ ap (λ l. l ++ map symbol_of
      (filter p
      (filter is_plain (filter (is_new alike (entries others)) (firsts alike behind)))))
      (sym front)
    where
      front : filter (λ s. not (is_alias_symbol parts s))
          (map symbol_of (filter p (plain_entries others)))
          ≡ map symbol_of (filter p (filter is_plain (firsts alike (entries others))))
      front =
          sym (map_filter symbol_of (λ s. not (is_alias_symbol parts s))
          (filter p (plain_entries others)))
          ∙ ap (map symbol_of) (filter_swapped is_plain p (plain_entries others)
          ∙ ap (filter p) (filter_narrower is_plain was_plain (firsts alike (entries others))
          (all_follow _ _ (firsts alike (entries others))
          (λ e f. narrow (is_alias_symbol others (symbol_of e))
          (is_alias_symbol parts (symbol_of e)) f)
          (all_firsts _ alike (entries others) stay))))

  abbrev aliases : List Entry → List Entry
  aliases es = filter (λ e. is_alias e.global) es

  module _ (win : AllByRecursion (λ e. is_alias e.global ≡ true
      → is_alias_symbol others (symbol_of e) ≡ true) (entries others)) where
    all_win : AllByRecursion
        (λ e. (is_alias_symbol others (symbol_of e) ≡ true) ×
        (is_alias_symbol parts (symbol_of e) ≡ true)) (firsts alike (aliases (entries others)))
    all_win =
        all_firsts _ alike (aliases (entries others))
        (all_follow _ _ (aliases (entries others)) (λ e h. (h.0.0 h.1, h.0.1 (h.0.0 h.1)))
        (all_passing _ (λ e. is_alias e.global) (entries others)
        (all_both _ _ (entries others) win stay)))

    keep : (test : Symbol → Bool)
        → AllByRecursion (λ e. test (symbol_of e) ≡ true) (firsts alike (aliases (entries others)))
        → filter test (map symbol_of (firsts alike (aliases (entries others))))
        ≡ map symbol_of (firsts alike (aliases (entries others)))
    keep test all =
        filter_all test (map symbol_of (firsts alike (aliases (entries others))))
        (all_mapped _ symbol_of (firsts alike (aliases (entries others))) all)

    -- the alias symbols are those of the first alias entries
    pub aliases_are : alias_symbols others ≡ map symbol_of (firsts alike (aliases (entries others)))
    aliases_are =
        keep (is_alias_symbol others)
        (all_follow _ _ (firsts alike (aliases (entries others))) (λ e h. h.0) all_win)

    pub has_alias : (s : Symbol)
        → has same_symbol (alias_symbols others) s
        ≡ has same_symbol (map symbol_of (aliases (entries others))) s
    has_alias s =
        ap (λ l. has same_symbol l s) (aliases_are
        ∙ firsts_map symbol_of same_symbol (aliases (entries others)))
        ∙ same_truth _ _
        (λ h. go (has same_symbol (map symbol_of (aliases (entries others))) s) refl h)
        (has_firsts same_symbol symbol_self symbol_exact
        (map symbol_of (aliases (entries others))) s)
      where
        go : (b : Bool) → has same_symbol (map symbol_of (aliases (entries others))) s ≡ b
            → has same_symbol (firsts same_symbol (map symbol_of (aliases (entries others)))) s
            ≡ true → has same_symbol (map symbol_of (aliases (entries others))) s ≡ true
        go true k h = k
        go false k h =
            absurd (both_ways _
            (firsts_has same_symbol symbol_self symbol_exact
            (map symbol_of (aliases (entries others))) s k) h)

    pub aliases_split : alias_symbols parts
        ≡ alias_symbols others ++ filter (is_alias_symbol parts)
        (map symbol_of
        (filter (is_new alike (aliases (entries others))) (firsts alike (aliases behind))))
    aliases_split =
        ap (λ es. filter (is_alias_symbol parts) (map symbol_of es))
        (ap (λ es. firsts alike (aliases es)) split
        ∙ ap (firsts alike) (filter-append (λ e. is_alias e.global) (entries others) behind)
        ∙ firsts_joined alike (aliases (entries others)) (aliases behind))
        ∙ ap (filter (is_alias_symbol parts))
        (map-append symbol_of (firsts alike (aliases (entries others)))
        (filter (is_new alike (aliases (entries others))) (firsts alike (aliases behind))))
        ∙ filter-append (is_alias_symbol parts)
        (map symbol_of (firsts alike (aliases (entries others))))
        (map symbol_of
        (filter (is_new alike (aliases (entries others)))
        (firsts alike (aliases behind))))
        ∙ ap (λ l. l ++ filter (is_alias_symbol parts)
        (map symbol_of
        (filter (is_new alike (aliases (entries others))) (firsts alike (aliases behind)))))
        (keep (is_alias_symbol parts)
        (all_follow _ _ (firsts alike (aliases (entries others))) (λ e h. h.1) all_win)
        ∙ sym aliases_are)
