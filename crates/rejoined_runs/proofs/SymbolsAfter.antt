-- The symbols stay in their order where the first parts are one.
use Rattle.std.proofs.Common.{◌≡◌, ℕ, suc, ◌-◌, ◌<◌, ◌≤◌, Bool, true, false, not, List, [], ◌∷◌, ◌++◌, map, length, refl, sym, ap, ap₂, ◌∙◌, subst, filter, nat_lt, arith}
use Rattle.std.specs.Prelude.{if◌then◌else◌}
use Rattle.std.specs.List.{AllByRecursion}
use Rattle.std.proofs.lemmas.Bool.{cond-false, or_left, or_right}
use Rattle.std.proofs.lemmas.List.{map-append, append_cancel_left}
use Rattle.module_arena.specs.Module.{Bytes, Module}
use Rattle.module_arena.proofs.ModuleSet.{map_map}
use Rattle.linkage_rules.specs.Entries.{Entry, entries, same_symbol, symbol_of}
use Rattle.linkage_rules.specs.Globals.{name_of, linkage_of, is_variable, is_alias}
use Rattle.linkage_rules.specs.Linkages.{is_local}
use Rattle.linkage_rules.specs.Lists.{firsts, has}
use Rattle.linkage_rules.specs.SymbolLaws.{symbol_self, symbol_exact}
use Rattle.linkage_rules.specs.Symbols.{is_alias_symbol, plain_entries, variable_symbols, function_symbols, alias_symbols, symbols}
use Rattle.linkage_rules.specs.declared.symbol.Symbol.{Symbol}
use Rattle.linkage_rules.specs.declared.symbol.Symbol.TheVariants.{Shared, Local}
use Rattle.linkage_rules.proofs.Entries.{all_follow}
use Rattle.linkage_rules.proofs.Gathered.{all_mapped}
use Rattle.link_rules.specs.Carried.{merged, IsSymbol, carry}
use Rattle.link_rules.specs.Rename.{renaming}
use Rattle.link_rules.proofs.Agreed.{any_left, any_right, is_symbol}
use Rattle.link_rules.proofs.Apart.{at_has}
use Rattle.link_rules.proofs.Merged.{Row, row_entry, keys, linked_is_alias}
use Rattle.link_rules.proofs.Result.{rows_from, entries_merged}
use Rattle.link_rules.proofs.Searches.{at_all, all_both, all_front, all_back, map_all}
use Rattle.link_rules.proofs.Symbols.{symbols_have, all_firsts, all_among}
use Rattle.rejoined_runs.specs.Regrouped.{symbol_after}
use Rattle.rejoined_runs.proofs.Homes.{Ready, old, new, later, later_shifted, entries_old, entries_new, before_all, later_all, same_after, local_part, after_carry, carried_has, carried_none, merged_keys, alias_after, alias_merged, alias_stays, is_past}
use Rattle.rejoined_runs.proofs.Lists.{same_truth, filter_mapped, is_new, firsts_mapped, all_filtered, all_true_of}
use Rattle.rejoined_runs.proofs.Order.{alike, new_by_symbol, kind_split, aliases_split, has_alias}
use Rattle.rejoined_runs.proofs.Shifted.{shift}

module _ (a b : List Module) where
  -- SYMBOLS OF ENTRIES

  own_symbols : (all es : List Entry)
      → ((s : Symbol) → has same_symbol (map symbol_of es) s ≡ true
      → has same_symbol (map symbol_of all) s ≡ true)
      → AllByRecursion (λ e. has same_symbol (map symbol_of all) (symbol_of e) ≡ true) es
  own_symbols all [] f = tt
  own_symbols all (e ∷ es) f = (
    f (symbol_of e) (or_left _ _ (symbol_self (symbol_of e))),
    own_symbols all es
        (λ s h. f s (or_right _ _ h)),
  )

  old_has : (s : Symbol)
      → has same_symbol (map symbol_of (entries a) ++ map symbol_of (later a b)) s ≡ true
      → has same_symbol (map symbol_of (entries (old a b))) s ≡ true
  old_has s h =
      subst (λ l. has same_symbol l s ≡ true)
      (sym (ap (map symbol_of) (entries_old a b)
      ∙ map-append symbol_of (entries a) (later a b))) h

  pub later_symbols : AllByRecursion (λ e. IsSymbol (old a b) (symbol_of e)) (later a b)
  later_symbols =
      all_follow _ _ (later a b) (λ e h. is_symbol (old a b) (symbol_of e) h)
      (own_symbols (entries (old a b)) (later a b)
      (λ s h. old_has s
      (any_right (same_symbol s) (map symbol_of (entries a))
      (map symbol_of (later a b)) h)))

  entry_of : (ms : List Module) (s : Symbol) → IsSymbol ms s
      → has same_symbol (map symbol_of (entries ms)) s ≡ true
  entry_of ms s h = let found =
      at_has same_symbol symbol_self symbol_exact (symbols ms) s h in at_all _
      (symbols ms) found.0 s (symbols_have ms) found.1

  -- a symbol of the first parts is one of all
  pub symbol_stays : (s : Symbol) → IsSymbol a s → IsSymbol (old a b) s
  symbol_stays s h =
      is_symbol (old a b) s
      (old_has s
      (any_left (same_symbol s) (map symbol_of (entries a)) (map symbol_of (later a b))
      (entry_of a s h)))

  pub shifted_symbol : (e : Entry) → length a ≤ e.part
      → symbol_of (shift (length a) e) ≡ symbol_after a (symbol_of e)
  shifted_symbol e h = go (is_local (linkage_of e.global))
    where
      go : (c : Bool)
          → (if c then Local (suc (e.part - length a)) (name_of e.global) else Shared
          (name_of e.global))
          ≡ symbol_after a
          (if c then Local e.part (name_of e.global) else Shared (name_of e.global))
      go true = sym (cond-false (nat_lt e.part (length a)) _ _ (is_past e.part (length a) h))
      go false = refl

  -- ALIASES OF THE FIRST PARTS' MODULE

  module _ (ready : Ready a) where
    each_same : {B : Type 0} (f g : Row → B) (rows : List Row) → map f rows ≡ map g rows
        → AllByRecursion (λ r. f r ≡ g r) rows
    each_same f g [] h = tt
    each_same f g (r ∷ rows) h = (cc, each_same f g rows (cc))

    row_symbols : AllByRecursion (λ r. symbol_of (row_entry a r) ≡ carry a r.0) (renaming a)
    row_symbols =
        each_same (λ r. symbol_of (row_entry a r)) (λ r. carry a r.0) (renaming a)
        (sym (map_map symbol_of (row_entry a) (renaming a))
        ∙ sym (ap (map symbol_of) (entries_merged a ready.together)) ∙ merged_keys a b ready
        ∙ ap (map (carry a)) (sym (keys a)) ∙ map_map (carry a) (λ (r : Row). r.0) (renaming a))

    rows_symbols : AllByRecursion (λ (r : Row). IsSymbol a r.0) (renaming a)
    rows_symbols =
        rows_from (IsSymbol a) (renaming a) (symbols a) (keys a)
        (all_among same_symbol symbol_self (symbols a) (symbols a) (λ s h. h))

    of_rows : (P : Entry → Type 0)
        → ((r : Row) → symbol_of (row_entry a r) ≡ carry a r.0 → IsSymbol a r.0 → P (row_entry a r))
        → AllByRecursion P (entries (merged a))
    of_rows P f =
        subst (AllByRecursion P) (sym (entries_merged a ready.together))
        (all_mapped P (row_entry a) (renaming a)
        (all_follow _ _ (renaming a) (λ r h. f r h.0 h.1)
        (all_both _ _ (renaming a) row_symbols rows_symbols)))

    merged_wins : AllByRecursion (λ e. is_alias e.global ≡ true
        → is_alias_symbol (merged a) (symbol_of e) ≡ true) (entries (merged a))
    merged_wins =
        of_rows _ (λ r is here t. ap (is_alias_symbol (merged a)) is
        ∙ alias_merged a b ready r.0 here ∙ sym (linked_is_alias a r) ∙ t)

    merged_stay : AllByRecursion (λ e. is_alias_symbol (merged a) (symbol_of e) ≡ true
        → is_alias_symbol (new a b) (symbol_of e) ≡ true) (entries (merged a))
    merged_stay =
        of_rows _ (λ r is here t.
        ap (is_alias_symbol (new a b)) (is ∙ sym (after_carry a b r.0 here))
        ∙ alias_after a b ready r.0 (symbol_stays r.0 here)
        ∙ alias_stays a b ready r.0 (sym (alias_merged a b ready r.0 here)
        ∙ sym (ap (is_alias_symbol (merged a)) is) ∙ t))

    first_stay : AllByRecursion (λ e. is_alias_symbol a (symbol_of e) ≡ true
        → is_alias_symbol (old a b) (symbol_of e) ≡ true) (entries a)
    first_stay = all_true_of _ (λ e h. alias_stays a b ready (symbol_of e) h) (entries a)

    -- LATER SYMBOLS THAT ARE NEW

    -- whether some first entries have the symbol of a later entry
    has_after : (ss : List Symbol) (ys : List Entry)
        → ((m : Bytes)
        → has same_symbol ss (Shared m) ≡ has same_symbol (map symbol_of ys) (Shared m))
        → AllByRecursion (λ y. y.part < length a) ys
        → (e : Entry) → length a ≤ e.part
        → has same_symbol (map (carry a) ss) (symbol_of (shift (length a) e))
        ≡ has same_symbol (map symbol_of ys) (symbol_of e)
    has_after ss ys shared low e h = go (is_local (linkage_of e.global))
      where
        too_low : (i : ℕ) → length a ≤ i → i < length a → ⊥
        too_low i h k = omega arith

        no_local : (c : Bool) (i : ℕ) (m : Bytes)
            → has same_symbol (map symbol_of ys) (Local i m) ≡ c → length a ≤ i → false ≡ c
        no_local true i m t k =
            absurd (too_low i k (local_part a b ys i m t (λ j. j < length a) low))
        no_local false i m t k = refl

        go : (c : Bool)
            → has same_symbol (map (carry a) ss)
            (if c then Local (suc (e.part - length a)) (name_of e.global) else Shared
            (name_of e.global))
            ≡ has same_symbol (map symbol_of ys)
            (if c then Local e.part (name_of e.global) else Shared (name_of e.global))
        go true = carried_none a b ready ss (e.part - length a) (name_of e.global)
            ∙ no_local (has same_symbol (map symbol_of ys) (Local e.part (name_of e.global))) e.part
            (name_of e.global) refl h
        go false = carried_has a b ready ss (name_of e.global) ∙ shared (name_of e.global)

    first_has : (e : Entry) → length a ≤ e.part
        → has same_symbol (map symbol_of (entries (merged a))) (symbol_of (shift (length a) e))
        ≡ has same_symbol (map symbol_of (entries a)) (symbol_of e)
    first_has e h =
        ap (λ l. has same_symbol l (symbol_of (shift (length a) e))) (merged_keys a b ready)
        ∙ has_after (symbols a) (entries a)
        (λ m. same_truth _ _ (entry_of a (Shared m)) (is_symbol a (Shared m)))
        (before_all a b) e h

    -- an entry of a later part, and its symbol
    abbrev Later : Entry → Type 0
    Later e = (length a ≤ e.part) × IsSymbol (old a b) (symbol_of e)

    all_later : AllByRecursion Later (later a b)
    all_later = all_both _ _ (later a b) (later_all a b) later_symbols

    alike_after : (d e : Entry) → Later d → Later e
        → alike (shift (length a) d) (shift (length a) e) ≡ alike d e
    alike_after d e p q =
        ap (λ s. same_symbol s (symbol_of (shift (length a) e))) (shifted_symbol d p.0)
        ∙ same_after a b (symbol_of d) e q.0

    new_after : (xs ys : List Entry)
        → ((e : Entry) → length a ≤ e.part
        → has same_symbol (map symbol_of xs) (symbol_of (shift (length a) e))
        ≡ has same_symbol (map symbol_of ys) (symbol_of e))
        → (e : Entry) → Later e → is_new alike xs (shift (length a) e) ≡ is_new alike ys e
    new_after xs ys same e p = new_by_symbol xs (shift (length a) e) ∙ ap not (same e p.0)
        ∙ sym (new_by_symbol ys e)

    alias_shifted : (e : Entry) → Later e
        → is_alias_symbol (new a b) (symbol_of (shift (length a) e))
        ≡ is_alias_symbol (old a b) (symbol_of e)
    alias_shifted e p = ap (is_alias_symbol (new a b)) (shifted_symbol e p.0)
        ∙ alias_after a b ready (symbol_of e) p.1

    filter_later : (p q : Entry → Bool) (es : List Entry) → AllByRecursion Later es
        → ((e : Entry) → Later e → p (shift (length a) e) ≡ q e)
        → filter p (map (shift (length a)) es) ≡ map (shift (length a)) (filter q es)
    filter_later p q es all f =
        filter_mapped (shift (length a)) p q es (all_follow Later _ es f all)

    symbols_later : (es : List Entry) → AllByRecursion Later es
        → map symbol_of (map (shift (length a)) es) ≡ map (symbol_after a) (map symbol_of es)
    symbols_later es all =
        map_map symbol_of (shift (length a)) es
        ∙ map_all (λ e. symbol_of (shift (length a) e)) (λ e. symbol_after a (symbol_of e)) Later es
        (λ e p. shifted_symbol e p.0) all
        ∙ sym (map_map (symbol_after a) symbol_of es)

    carried_all : (ss : List Symbol) → AllByRecursion (IsSymbol a) ss
        → map (carry a) ss ≡ map (symbol_after a) ss
    carried_all ss all =
        map_all (carry a) (symbol_after a) (IsSymbol a) ss
        (λ s here. sym (after_carry a b s here)) all

    -- PLAIN SYMBOLS

    module _ (p : Entry → Bool) (kept : (e : Entry) → p (shift (length a) e) ≡ p e) where
      abbrev plain_in : List Module → Entry → Bool
      plain_in ms e = not (is_alias_symbol ms (symbol_of e))

      abbrev later_firsts : List Entry
      later_firsts = filter (is_new alike (entries a)) (firsts alike (later a b))

      -- the symbols of this kind in the first parts
      abbrev ss : List Symbol
      ss = map symbol_of (filter p (plain_entries a))

      abbrev plain_symbol : Symbol → Bool
      plain_symbol s = not (is_alias_symbol (old a b) s)

      firsts_after : firsts alike (map (shift (length a)) (later a b))
          ≡ map (shift (length a)) (firsts alike (later a b))
      firsts_after =
          (firsts_mapped (shift (length a)) alike alike Later alike_after (later a b) all_later).0

      all_firsts_later : AllByRecursion Later (firsts alike (later a b))
      all_firsts_later = all_firsts Later alike (later a b) all_later

      kind_later : map symbol_of
          (filter p
          (filter (plain_in (new a b))
          (filter (is_new alike (entries (merged a)))
          (firsts alike (map (shift (length a)) (later a b))))))
          ≡ map (symbol_after a)
          (map symbol_of (filter p (filter (plain_in (old a b)) later_firsts)))
      kind_later =
          ap (λ l. map symbol_of (filter p (filter (plain_in (new a b)) l)))
          (ap (filter (is_new alike (entries (merged a)))) firsts_after
          ∙ filter_later _ _ (firsts alike (later a b)) all_firsts_later
          (new_after (entries (merged a)) (entries a) first_has))
          ∙ ap (λ l. map symbol_of (filter p l))
          (filter_later _ _ later_firsts news (λ e q. ap not (alias_shifted e q)))
          ∙ ap (map symbol_of)
          (filter_later p p (filter (plain_in (old a b)) later_firsts) plains (λ e q. kept e))
          ∙ symbols_later (filter p (filter (plain_in (old a b)) later_firsts))
          (all_filtered Later p (filter (plain_in (old a b)) later_firsts) plains)
        where
          news : AllByRecursion Later later_firsts
          news = all_filtered Later (is_new alike (entries a))
              (firsts alike (later a b)) all_firsts_later

          plains : AllByRecursion Later (filter (plain_in (old a b)) later_firsts)
          plains = all_filtered Later (plain_in (old a b)) later_firsts news

      -- symbols of one kind, as they were in the first parts' module
      pub kind_after : map symbol_of (filter p (plain_entries (merged a)))
          ≡ map (carry a) (map symbol_of (filter p (plain_entries a)))
          → AllByRecursion (IsSymbol a) (map symbol_of (filter p (plain_entries a)))
          → map symbol_of (filter p (plain_entries (new a b)))
          ≡ map (symbol_after a) (map symbol_of (filter p (plain_entries (old a b))))
      kind_after same all =
          kind_split (new a b) (merged a) (later_shifted a b) (entries_new a b) merged_stay p
          ∙ ap₂ (λ x y. x ++ y) front kind_later
          ∙ sym (map-append (symbol_after a) (filter plain_symbol ss)
          (map symbol_of (filter p (filter (plain_in (old a b)) later_firsts))))
          ∙ ap (map (symbol_after a))
          (sym (kind_split (old a b) a (later a b) (entries_old a b) first_stay p))
        where
          front : filter (λ s. not (is_alias_symbol (new a b) s))
              (map symbol_of (filter p (plain_entries (merged a))))
              ≡ map (symbol_after a) (filter plain_symbol ss)
          front =
              ap (filter (λ s. not (is_alias_symbol (new a b) s))) (same ∙ carried_all ss all)
              ∙ filter_mapped (symbol_after a)
              (λ s. not (is_alias_symbol (new a b) s)) plain_symbol ss
              (all_follow (IsSymbol a) _ ss
              (λ s here. ap not (alias_after a b ready s (symbol_stays s here))) all)

    front_symbols : AllByRecursion (IsSymbol a)
        (variable_symbols a ++ function_symbols a ++ alias_symbols a)
    front_symbols = all_among same_symbol symbol_self (symbols a) (symbols a) (λ s h. h)

    pub variables_after : variable_symbols (new a b)
        ≡ map (symbol_after a) (variable_symbols (old a b))
    variables_after =
        kind_after (λ e. is_variable e.global) (λ e. refl) ready.merges.variables
        (all_front _ (variable_symbols a) (function_symbols a)
        (all_front _ (variable_symbols a ++ function_symbols a)
        (alias_symbols a) front_symbols))

    pub functions_after : function_symbols (new a b)
        ≡ map (symbol_after a) (function_symbols (old a b))
    functions_after =
        kind_after (λ e. not (is_variable e.global)) (λ e. refl) ready.merges.functions
        (all_back _ (variable_symbols a) (function_symbols a)
        (all_front _ (variable_symbols a ++ function_symbols a)
        (alias_symbols a) front_symbols))

    -- ALIAS SYMBOLS

    aliases_carried : alias_symbols (merged a) ≡ map (carry a) (alias_symbols a)
    aliases_carried =
        append_cancel_left (map (carry a) (variable_symbols a ++ function_symbols a))
        (alias_symbols (merged a)) (map (carry a) (alias_symbols a))
        (ap (λ l. l ++ alias_symbols (merged a))
        (map-append (carry a) (variable_symbols a) (function_symbols a)
        ∙ sym (ap₂ (λ x y. x ++ y) ready.merges.variables ready.merges.functions))
        ∙ ready.merges.all
        ∙ map-append (carry a) (variable_symbols a ++ function_symbols a) (alias_symbols a))

    abbrev aliases : List Entry → List Entry
    aliases es = filter (λ e. is_alias e.global) es

    abbrev later_aliases : List Entry
    later_aliases = filter (is_new alike (aliases (entries a))) (firsts alike (aliases (later a b)))

    alias_has : (e : Entry) → length a ≤ e.part
        → has same_symbol (map symbol_of (aliases (entries (merged a))))
        (symbol_of (shift (length a) e))
        ≡ has same_symbol (map symbol_of (aliases (entries a))) (symbol_of e)
    alias_has e h =
        sym (has_alias (new a b) (merged a) (later_shifted a b)
        (entries_new a b) merged_stay merged_wins (symbol_of (shift (length a) e)))
        ∙ ap (λ l. has same_symbol l (symbol_of (shift (length a) e))) aliases_carried
        ∙ has_after (alias_symbols a) (aliases (entries a))
        (λ m. has_alias (old a b) a (later a b) (entries_old a b) first_stay ready.wins
        (Shared m))
        (all_filtered _ (λ e. is_alias e.global) (entries a) (before_all a b)) e h

    pub aliases_after : alias_symbols (new a b) ≡ map (symbol_after a) (alias_symbols (old a b))
    aliases_after =
        aliases_split (new a b) (merged a) (later_shifted a b)
        (entries_new a b) merged_stay merged_wins
        ∙ ap₂ (λ x y. x ++ y) (aliases_carried
        ∙ carried_all (alias_symbols a)
        (all_back _ (variable_symbols a ++ function_symbols a)
        (alias_symbols a) front_symbols)) back
        ∙ sym (map-append (symbol_after a) (alias_symbols a)
        (filter (is_alias_symbol (old a b)) (map symbol_of later_aliases)))
        ∙ ap (map (symbol_after a))
        (sym (aliases_split (old a b) a (later a b) (entries_old a b) first_stay ready.wins))
      where
        all_aliases : AllByRecursion Later (aliases (later a b))
        all_aliases = all_filtered Later (λ e. is_alias e.global) (later a b) all_later

        all_first : AllByRecursion Later (firsts alike (aliases (later a b)))
        all_first = all_firsts Later alike (aliases (later a b)) all_aliases

        all_new : AllByRecursion Later later_aliases
        all_new =
            all_filtered Later (is_new alike (aliases (entries a)))
            (firsts alike (aliases (later a b))) all_first

        back : filter (is_alias_symbol (new a b))
            (map symbol_of
            (filter (is_new alike (aliases (entries (merged a))))
            (firsts alike (aliases (later_shifted a b)))))
            ≡ map (symbol_after a)
            (filter (is_alias_symbol (old a b)) (map symbol_of later_aliases))
        back =
            ap (λ l. filter (is_alias_symbol (new a b))
            (map symbol_of
            (filter (is_new alike (aliases (entries (merged a)))) (firsts alike l))))
            (filter_later _ (λ e. is_alias e.global) (later a b) all_later (λ e q. refl))
            ∙ ap (λ l. filter (is_alias_symbol (new a b))
            (map symbol_of (filter (is_new alike (aliases (entries (merged a)))) l)))
            (firsts_mapped (shift (length a)) alike alike Later alike_after
            (aliases (later a b)) all_aliases).0
            ∙ ap (λ l. filter (is_alias_symbol (new a b)) (map symbol_of l))
            (filter_later _ _ (firsts alike (aliases (later a b))) all_first
            (new_after (aliases (entries (merged a))) (aliases (entries a)) alias_has))
            ∙ ap (filter (is_alias_symbol (new a b))) (symbols_later later_aliases all_new)
            ∙ filter_mapped (symbol_after a) (is_alias_symbol (new a b)) (is_alias_symbol (old a b))
            (map symbol_of later_aliases)
            (all_mapped
            (λ s. is_alias_symbol (new a b) (symbol_after a s)
            ≡ is_alias_symbol (old a b) s) symbol_of later_aliases
            (all_follow Later _ later_aliases
            (λ e q. alias_after a b ready (symbol_of e) q.1) all_new))

    -- all symbols, in order
    pub symbols_after : symbols (new a b) ≡ map (symbol_after a) (symbols (old a b))
    symbols_after =
        ap₂ (λ x y. x ++ y) (ap₂ (λ x y. x ++ y) variables_after functions_after) aliases_after
        ∙ ap (λ l. l ++ map (symbol_after a) (alias_symbols (old a b)))
        (sym (map-append (symbol_after a) (variable_symbols (old a b))
        (function_symbols (old a b))))
        ∙ sym (map-append (symbol_after a)
        (variable_symbols (old a b) ++ function_symbols (old a b)) (alias_symbols (old a b)))
