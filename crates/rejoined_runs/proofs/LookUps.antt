-- What a name means is the same where the first parts are one.
use Rattle.std.proofs.Common.{◌≡◌, ℕ, zero, suc, ◌-◌, ◌<◌, ◌≤◌, Bool, true, false, not, ◌&&◌, ◌||◌, ◌⊎◌, inl, inr, List, [], ◌∷◌, ◌++◌, map, length, Option, Some, None, refl, sym, ap, ap₂, ◌∙◌, subst, filter, option_map, nat_lt, nat_eq, arith}
use Rattle.std.specs.Prelude.{slice_get, is_some, if◌then◌else◌}
use Rattle.std.specs.Option.{option_map_or}
use Rattle.std.specs.List.{list_all, AllByRecursion}
use Rattle.std.proofs.lemmas.Bool.{cond-false, both_ways, false_from_ne_true, or_from}
use Rattle.std.proofs.lemmas.Bool.Decides.{nat_tests}
use Rattle.std.proofs.lemmas.List.Folds.{list_any-append, list_all-append}
use Rattle.std.proofs.lemmas.List.{map-append}
use Rattle.std.proofs.lemmas.Option.{same_Some}
use Rattle.type_table.specs.Shape.{shape}
use Rattle.type_table.specs.Tree.{Tree}
use Rattle.module_arena.specs.HostRows.{host_row}
use Rattle.module_arena.specs.Module.{Bytes, Module}
use Rattle.linkage_rules.specs.Bind.{Host, Null, Unresolved, bound_to, own_meaning, meaning, undefined, all_extern_weak, is_function_symbol, target_of, behind_from, behind}
use Rattle.linkage_rules.specs.Entries.{Entry, entries, same_symbol, symbol_of, symbol_in, entries_of}
use Rattle.linkage_rules.specs.Globals.{Global, OfVariable, OfFunction, OfAlias, name_of, linkage_of, is_variable}
use Rattle.linkage_rules.specs.Linkages.{is_local, is_extern_weak}
use Rattle.linkage_rules.specs.Lists.{has, first}
use Rattle.linkage_rules.specs.SymbolLaws.{symbol_self, symbol_exact}
use Rattle.linkage_rules.specs.Symbols.{symbols}
use Rattle.linkage_rules.specs.Winner.{gives_way, is_definition, best, home, shape_in}
use Rattle.linkage_rules.specs.declared.symbol.Symbol.{Symbol}
use Rattle.linkage_rules.specs.declared.symbol.Symbol.TheVariants.{Shared, Local}
use Rattle.linkage_rules.proofs.Entries.{all_follow}
use Rattle.linkage_rules.proofs.Gathered.{all_joined}
use Rattle.link_rules.specs.Carried.{merged, IsSymbol, moved}
use Rattle.link_rules.specs.Known.{KnownName, KnownTree}
use Rattle.link_rules.specs.Linked.{link_result}
use Rattle.link_rules.specs.Rename.{base_of, all_names, shared_names, renaming, new_name_of, new_global}
use Rattle.link_rules.specs.Structs.{linked_type}
use Rattle.link_rules.proofs.Agreed.{is_symbol}
use Rattle.link_rules.proofs.Apart.{at_has, filter_none}
use Rattle.link_rules.proofs.Bound.{row_of, KnownTarget, TargetsKnown, merged_entries, merged_weak, merged_kind, has_first}
use Rattle.link_rules.proofs.Merged.{keys}
use Rattle.link_rules.proofs.Names.{shared_stays}
use Rattle.link_rules.proofs.Searches.{at_all}
use Rattle.link_rules.proofs.Symbols.{symbols_have, home_is}
use Rattle.rejoined_runs.specs.Regrouped.{symbol_after, entry_after}
use Rattle.rejoined_runs.specs.Regroups.{Regroups}
use Rattle.rejoined_runs.proofs.Best.{better_of}
use Rattle.rejoined_runs.proofs.Homes.{Ready, old, new, later, later_shifted, later_of, later_home, entries_old, entries_new, entries_of_old, entries_of_new, later_all, same_after, local_part, IsLater, either, after_carry, nothing_before, nothing_merged, merged_keys, carried_none, home_old, home_after, below, not_below, is_past}
use Rattle.rejoined_runs.proofs.Order.{same_swapped}
use Rattle.rejoined_runs.proofs.Shifted.{shift, structs_before, structs_behind}
use Rattle.rejoined_runs.proofs.SymbolsAfter.{variables_after, functions_after, symbols_after, shifted_symbol}

zero_differs : (k : ℕ) → nat_eq 0 (suc k) ≡ false
zero_differs k = grind (arith, nat_tests)

zero_apart : (k : ℕ) (c : Bool) → (nat_eq 0 (suc k) && c) ≡ false
zero_apart k c = ap (λ d. d && c) (zero_differs k)

module _ (a b : List Module) where
  -- NAMES

  too_low : (i : ℕ) → length a ≤ i → i < length a → ⊥
  too_low i h k = omega arith

  in_halves : (ss ts : List Symbol) (s : Symbol)
      → has same_symbol (ss ++ ts) s ≡ (has same_symbol ss s || has same_symbol ts s)
  in_halves ss ts s = list_any-append (same_symbol s) ss ts

  keys_old : map symbol_of (entries (old a b))
      ≡ map symbol_of (entries a) ++ map symbol_of (later a b)
  keys_old = ap (map symbol_of) (entries_old a b) ∙ map-append symbol_of (entries a) (later a b)

  keys_new : map symbol_of (entries (new a b))
      ≡ map symbol_of (entries (merged a)) ++ map symbol_of (later_shifted a b)
  keys_new = ap (map symbol_of) (entries_new a b)
      ∙ map-append symbol_of (entries (merged a)) (later_shifted a b)

  in_old : (s : Symbol)
      → has same_symbol (map symbol_of (entries (old a b))) s
      ≡ (has same_symbol (map symbol_of (entries a)) s || has same_symbol
      (map symbol_of (later a b)) s)
  in_old s = ap (λ l. has same_symbol l s) keys_old
      ∙ in_halves (map symbol_of (entries a)) (map symbol_of (later a b)) s

  in_new : (s : Symbol)
      → has same_symbol (map symbol_of (entries (new a b))) s
      ≡ (has same_symbol (map symbol_of (entries (merged a))) s || has same_symbol
      (map symbol_of (later_shifted a b)) s)
  in_new s = ap (λ l. has same_symbol l s) keys_new
      ∙ in_halves (map symbol_of (entries (merged a))) (map symbol_of (later_shifted a b)) s

  or_nothing : (c d : Bool) → d ≡ false → (c || d) ≡ c
  or_nothing true d h = refl
  or_nothing false d h = h

  -- a local symbol of a first part is that of no later entry
  none_later : (i : ℕ) (name : Bytes) → i < length a
      → has same_symbol (map symbol_of (later a b)) (Local i name) ≡ false
  none_later i name h =
      false_from_ne_true _
      (λ t. too_low i
      (local_part a b (later a b) i name t (λ j. length a ≤ j) (later_all a b)) h)

  none_before : (i : ℕ) (name : Bytes) → length a ≤ i
      → has same_symbol (map symbol_of (entries a)) (Local i name) ≡ false
  none_before i name h = nothing_before a b (Local i name) h

  first_local : (i : ℕ) (name : Bytes) → i < length a
      → has same_symbol (map symbol_of (entries (old a b))) (Local i name)
      ≡ has same_symbol (map symbol_of (entries a)) (Local i name)
  first_local i name h = in_old (Local i name) ∙ or_nothing _ _ (none_later i name h)

  -- a name of a first part is of the same symbol among those alone
  pub first_symbol : (i : ℕ) (name : Bytes) → i < length a
      → symbol_in (old a b) i name ≡ symbol_in a i name
  first_symbol i name h = ap (λ c. if c then Local i name else Shared name) (first_local i name h)

  -- a later entry is of no symbol of part 0
  none_shifted : (name : Bytes)
      → has same_symbol (map symbol_of (later_shifted a b)) (Local 0 name) ≡ false
  none_shifted name = go (later a b)
    where
      by_test : (c : Bool) (k : ℕ) (m : Bytes)
          → same_symbol (Local 0 name) (if c then Local (suc k) m else Shared m) ≡ false
      by_test true k m = zero_apart k _
      by_test false k m = refl

      go : (es : List Entry)
          → has same_symbol (map symbol_of (map (shift (length a)) es)) (Local 0 name) ≡ false
      go [] = refl
      go (e ∷ es) =
          or_from _ _
          (by_test (is_local (linkage_of e.global)) (e.part - length a) (name_of e.global))
          (go es)

  shifted_has : (i : ℕ) (name : Bytes) → length a ≤ i
      → has same_symbol (map symbol_of (later_shifted a b)) (Local (suc (i - length a)) name)
      ≡ has same_symbol (map symbol_of (later a b)) (Local i name)
  shifted_has i name h = go (later a b) (later_all a b)
    where
      after : symbol_after a (Local i name) ≡ Local (suc (i - length a)) name
      after = cond-false (nat_lt i (length a)) _ _ (is_past i (length a) h)

      go : (es : List Entry) → AllByRecursion (λ e. length a ≤ e.part) es
          → has same_symbol (map symbol_of (map (shift (length a)) es))
          (Local (suc (i - length a)) name) ≡ has same_symbol (map symbol_of es) (Local i name)
      go [] all = refl
      go (e ∷ es) all =
          ap₂ (λ c d. c || d) (ap (λ s. same_symbol s (symbol_of (shift (length a) e))) (sym after)
          ∙ same_after a b (Local i name) e all.0) (go es all.1)

  module _ (ready : Ready a) where
    pub first_names : (i : ℕ) (name : Bytes) → i < length a → KnownName a i name
        → symbol_in (new a b) 0 (new_global a i name) ≡ symbol_after a (symbol_in (old a b) i name)
    first_names i name h known =
        ap (λ c. if c then Local 0 m else Shared m) (in_new (Local 0 m)
        ∙ or_nothing _ _ (none_shifted m))
        ∙ ready.merges.names i name known ∙ sym (after_carry a b (symbol_in a i name) known)
        ∙ ap (λ c. symbol_after a (if c then Local i name else Shared name))
        (sym (first_local i name h))
      where
        m : Bytes
        m = new_global a i name

    pub later_names : (i : ℕ) (name : Bytes) → length a ≤ i
        → symbol_in (new a b) (suc (i - length a)) name
        ≡ symbol_after a (symbol_in (old a b) i name)
    later_names i name h =
        ap (λ c. if c then Local (suc (i - length a)) name else Shared name)
        (in_new (Local (suc (i - length a)) name)
        ∙ ap₂ (λ c d. c || d)
        (ap (λ l. has same_symbol l (Local (suc (i - length a)) name)) (merged_keys a b ready)
        ∙ carried_none a b ready (symbols a) (i - length a) name) (shifted_has i name h)
        ∙ sym (in_old (Local i name)
        ∙ ap (λ c. c || has same_symbol (map symbol_of (later a b)) (Local i name))
        (none_before i name h)))
        ∙ go (has same_symbol (map symbol_of (entries (old a b))) (Local i name))
      where
        go : (c : Bool)
            → (if c then Local (suc (i - length a)) name else Shared name)
            ≡ symbol_after a (if c then Local i name else Shared name)
        go true = sym (cond-false (nat_lt i (length a)) _ _ (is_past i (length a) h))
        go false = refl

    -- NO TWO BECOME ONE

    -- a later symbol is that of a later entry
    later_entry : (t : Symbol) → IsSymbol (old a b) t → IsLater a b t
        → (e : Entry) × (length a ≤ e.part) × (symbol_of e ≡ t)
    later_entry t here is =
        let found = at_has same_symbol symbol_self symbol_exact (symbols (old a b)) t here in
        let there = at_all _ (symbols (old a b)) found.0 t (symbols_have (old a b)) found.1 in
        let behind =
        at_has same_symbol symbol_self symbol_exact (map symbol_of (later a b)) t
        (in_later there) in
        by_place (later a b) behind.0 (later_all a b) behind.1
      where
        in_later : has same_symbol (map symbol_of (entries (old a b))) t ≡ true
            → has same_symbol (map symbol_of (later a b)) t ≡ true
        in_later h =
            sym (ap (λ c. c || has same_symbol (map symbol_of (later a b)) t)
            (nothing_before a b t is)) ∙ sym (in_old t) ∙ h

        by_place : (es : List Entry) (k : ℕ) → AllByRecursion (λ e. length a ≤ e.part) es
            → slice_get (map symbol_of es) k ≡ Some t
            → (e : Entry) × (length a ≤ e.part) × (symbol_of e ≡ t)
        by_place [] k all h = cc
        by_place (e ∷ es) zero all h = (e, all.0, same_Some (symbol_of e) t h)
        by_place (e ∷ es) (suc k) all h = by_place es k all.1 h

    apart_later : (s t : Symbol) → IsSymbol (old a b) t → IsLater a b t
        → same_symbol (symbol_after a s) (symbol_after a t) ≡ same_symbol s t
    apart_later s t here is =
        let found = later_entry t here is in
        ap (λ u. same_symbol (symbol_after a s) (symbol_after a u)) (sym found.2)
        ∙ ap (same_symbol (symbol_after a s)) (sym (shifted_symbol a b found.0 found.1))
        ∙ same_after a b s found.0 found.1 ∙ ap (same_symbol s) found.2

    pub apart_after : (s t : Symbol) → IsSymbol (old a b) s → IsSymbol (old a b) t
        → same_symbol (symbol_after a s) (symbol_after a t) ≡ same_symbol s t
    apart_after s t here there = go (either a b s here) (either a b t there)
      where
        go : IsSymbol a s ⊎ IsLater a b s → IsSymbol a t ⊎ IsLater a b t
            → same_symbol (symbol_after a s) (symbol_after a t) ≡ same_symbol s t
        go (inl k) (inl l) = (λ i. same_symbol (after_carry a b s k i) (after_carry a b t l i))
            ∙ ready.merges.apart s t k l
        go (inr k) q = same_swapped (symbol_after a s) (symbol_after a t) ∙ apart_later t s here k
            ∙ same_swapped t s
        go (inl k) (inr l) = apart_later s t there l

    -- WHERE NOTHING IS DEFINED

    after_has : (ss : List Symbol) (m : Bytes)
        → has same_symbol (map (symbol_after a) ss) (Shared m) ≡ has same_symbol ss (Shared m)
    after_has [] m = refl
    after_has (Shared n ∷ ss) m = ap (λ c. same_symbol (Shared m) (Shared n) || c) (after_has ss m)
    after_has (Local i n ∷ ss) m = ap₂ (λ c d. c || d) (go (nat_lt i (length a))) (after_has ss m)
      where
        go : (c : Bool)
            → same_symbol (Shared m)
            (if c then Local 0 (new_name_of a (Local i n)) else Local (suc (i - length a)) n)
            ≡ false
        go true = refl
        go false = refl

    no_entries : (ms : List Module) (m : Bytes) → has same_symbol (symbols ms) (Shared m) ≡ false
        → entries_of ms (Shared m) ≡ []
    no_entries ms m gone =
        filter_none same_symbol symbol_self symbol_exact symbol_of (λ e. true) (Shared m)
        (entries ms)
        (false_from_ne_true _ (λ h. both_ways _ gone (is_symbol ms (Shared m) h)))

    no_home : (ms : List Module) (m : Bytes) → has same_symbol (symbols ms) (Shared m) ≡ false
        → home ms (Shared m) ≡ None
    no_home ms m gone = ap (λ es. best ms (filter is_definition es)) (no_entries ms m gone)

    still_absent : (m : Bytes) → has same_symbol (symbols (old a b)) (Shared m) ≡ false
        → has same_symbol (symbols (new a b)) (Shared m) ≡ false
    still_absent m gone = ap (λ l. has same_symbol l (Shared m)) (symbols_after a b ready)
        ∙ after_has (symbols (old a b)) m ∙ gone

    -- a name that no part has means as much as one that each can do without
    absent_means : (ms : List Module) (m : Bytes) → has same_symbol (symbols ms) (Shared m) ≡ false
        → meaning ms (Shared m) ≡ Null
    absent_means ms m gone =
        (λ i. own_meaning ms (behind_from ms (Shared m) (no_home ms m gone i)))
        ∙ (λ i. bound_to ms (Shared m) (no_home ms m gone i))
        ∙ (λ i. if kind_of (no_entries ms m gone i) && is_some (host_row m) then Host m else
        (if list_all (λ (e : Entry). is_extern_weak (linkage_of e.global))
        (no_entries ms m gone i) then Null else Unresolved))
      where
        kind_of : List Entry → Bool
        kind_of es = option_map_or (λ (e : Entry). not (is_variable e.global)) (first es) false

    pub absent_same : (m : Bytes) → has same_symbol (symbols (old a b)) (Shared m) ≡ false
        → (meaning (new a b) (Shared m) ≡ Null) × (meaning (old a b) (Shared m) ≡ Null)
    absent_same m gone =
        (absent_means (new a b) m (still_absent m gone), absent_means (old a b) m gone)

    pub absent_after : (m : Bytes) → has same_symbol (symbols (old a b)) (Shared m) ≡ false
        → (home (old a b) (Shared m) ≡ None) × (home (new a b) (Shared m) ≡ None)
    absent_after m gone = (no_home (old a b) m gone, no_home (new a b) m (still_absent m gone))

    no_first : (s : Symbol) → home (old a b) s ≡ None → home a s ≡ None
    no_first s h = go (home a s) refl
      where
        some : (e : Entry) (o : Option Entry) → better_of (old a b) (Some e) o ≡ None → ⊥
        some e None k = cc
        some e (Some y) k = by_test (gives_way (old a b) e y) k
          where
            by_test : (c : Bool) → (if c then Some y else Some e) ≡ None → ⊥
            by_test true k = cc
            by_test false k = cc

        go : (o : Option Entry) → home a s ≡ o → home a s ≡ None
        go None k = k
        go (Some e) k =
            absurd (some e (later_home a b ready s)
            (sym (home_old a b ready s
            ∙ ap (λ o. better_of (old a b) o (later_home a b ready s)) k) ∙ h))

    abbrev weak : Entry → Bool
    weak e = is_extern_weak (linkage_of e.global)

    abbrev kind_in : List Entry → Bool
    kind_in es = option_map_or (λ (e : Entry). not (is_variable e.global)) (first es) false

    -- an entry for a name that they do not define is as weak as theirs, and of their kind
    pub record IsDeclared (es ds : List Entry) : Type 0 where
      pub weak_same : list_all weak es ≡ list_all weak ds
      pub kind_same : kind_in es ≡ kind_in ds
      pub empty_same : is_some (first es) ≡ is_some (first ds)

    declared_first : (m : Bytes) → home a (Shared m) ≡ None
        → IsDeclared (entries_of (merged a) (Shared m)) (entries_of a (Shared m))
    declared_first m h = go (has same_symbol (symbols a) (Shared m)) refl
      where
        go : (c : Bool) → has same_symbol (symbols a) (Shared m) ≡ c
            → IsDeclared (entries_of (merged a) (Shared m)) (entries_of a (Shared m))
        go false gone =
            let one =
            filter_none same_symbol symbol_self symbol_exact symbol_of (λ e. true) (Shared m)
            (entries (merged a)) (nothing_merged a b ready (Shared m) gone) in
            let other =
            filter_none same_symbol symbol_self symbol_exact symbol_of (λ e. true) (Shared m)
            (entries a) (nothing_before a b (Shared m) gone) in
            record {
              weak_same = ap (list_all weak) (one ∙ sym other);
              kind_same = ap kind_in (one ∙ sym other);
              empty_same = ap (λ es. is_some (first es)) (one ∙ sym other);
            }
        go true there =
            let found = at_has same_symbol symbol_self symbol_exact (symbols a) (Shared m) there in
            let row =
            row_of (renaming a) found.0 (Shared m) (ap (λ l. slice_get l found.0) (keys a)
            ∙ found.1) in
            let stays =
            shared_stays base_of (all_names a) (shared_names (symbols a))
            (symbols a) found.0 m row.0 row.1 in
            let at = subst (λ n. slice_get (renaming a) found.0 ≡ Some (Shared m, n)) stays row.1 in
            record {
              weak_same = merged_weak a ready.together found.0 (Shared m) m at h;
              kind_same = merged_kind a ready.together found.0 (Shared m) m at h;
              empty_same =
                  ap (λ es. is_some (first es))
                  (merged_entries a ready.together found.0 (Shared m) m at)
                  ∙ sym (ap is_some (has_first a ready.together found.0 (Shared m) m at).1);
            }

    weak_joined : (m : Bytes) → home a (Shared m) ≡ None
        → all_extern_weak (new a b) (Shared m) ≡ all_extern_weak (old a b) (Shared m)
    weak_joined m h =
        ap (list_all weak) (entries_of_new a b (Shared m))
        ∙ list_all-append weak (entries_of (merged a) (Shared m))
        (map (shift (length a)) (later_of a b (Shared m)))
        ∙ ap₂ (λ c d. c && d) (declared_first m h).weak_same
        (shifted_weak (later_of a b (Shared m)))
        ∙ sym (ap (list_all weak) (entries_of_old a b (Shared m))
        ∙ list_all-append weak (entries_of a (Shared m)) (later_of a b (Shared m)))
      where
        shifted_weak : (es : List Entry)
            → list_all weak (map (shift (length a)) es) ≡ list_all weak es
        shifted_weak [] = refl
        shifted_weak (e ∷ es) = ap (λ c. weak e && c) (shifted_weak es)

    kind_joined : (m : Bytes) → home a (Shared m) ≡ None
        → is_function_symbol (new a b) (Shared m) ≡ is_function_symbol (old a b) (Shared m)
    kind_joined m h =
        ap kind_in (entries_of_new a b (Shared m))
        ∙ kinds (entries_of (merged a) (Shared m)) (entries_of a (Shared m))
        (map (shift (length a)) (later_of a b (Shared m))) (later_of a b (Shared m))
        (declared_first m h) (shifted_kind (later_of a b (Shared m)))
        ∙ sym (ap kind_in (entries_of_old a b (Shared m)))
      where
        shifted_kind : (es : List Entry) → kind_in (map (shift (length a)) es) ≡ kind_in es
        shifted_kind [] = refl
        shifted_kind (e ∷ es) = refl

        kinds : (es ds xs ys : List Entry) → IsDeclared es ds → kind_in xs ≡ kind_in ys
            → kind_in (es ++ xs) ≡ kind_in (ds ++ ys)
        kinds [] [] xs ys is same = same
        kinds [] (d ∷ ds) xs ys is same =
            absurd (both_ways (is_some (first {A = Entry} [])) refl is.empty_same)
        kinds (e ∷ es) [] xs ys is same =
            absurd (both_ways (is_some (first {A = Entry} [])) refl (sym is.empty_same))
        kinds (e ∷ es) (d ∷ ds) xs ys is same = is.kind_same

    pub undefined_after : (s : Symbol) → home (old a b) s ≡ None
        → undefined (new a b) (symbol_after a s) ≡ undefined (old a b) s
    undefined_after (Shared m) h =
        let none = no_first (Shared m) h in
        λ i. if kind_joined m none i && is_some (host_row m) then Host m else
        (if weak_joined m none i then Null else Unresolved)
    undefined_after (Local i m) h = go (nat_lt i (length a))
      where
        go : (c : Bool)
            → undefined (new a b)
            (if c then Local 0 (new_name_of a (Local i m)) else Local (suc (i - length a)) m)
            ≡ Unresolved
        go true = refl
        go false = refl

    -- ALIASES

    module _ (targets : TargetsKnown a) where
      abbrev KnownFirst : Entry → Type 0
      KnownFirst e = e.part < length a → KnownTarget a e.part e.global

      known_first : AllByRecursion KnownFirst (entries (old a b))
      known_first =
          subst (AllByRecursion KnownFirst) (sym (entries_old a b))
          (all_joined KnownFirst (entries a) (later a b)
          (all_follow _ KnownFirst (entries a) (λ e k h. k) targets)
          (all_follow _ KnownFirst (later a b) (λ e low h. absurd (too_low e.part low h))
          (later_all a b)))

      target_after : (s : Symbol) (i : ℕ) (g : Global) → (i < length a → KnownTarget a i g)
          → target_of (new a b) (symbol_after a s)
          (entry_after a s (record { part = i; global = g })).part
          (entry_after a s (record { part = i; global = g })).global
          ≡ symbol_after a (target_of (old a b) s i g)
      target_after s i g known = go (nat_lt i (length a)) refl
        where
          first_target : (g : Global) → i < length a → KnownTarget a i g
              → target_of (new a b) (symbol_after a s) 0
              (moved a s (record { part = i; global = g })).global
              ≡ symbol_after a (target_of (old a b) s i g)
          first_target (OfVariable v) h k = refl
          first_target (OfFunction f) h k = refl
          first_target (OfAlias x) h k = first_names i x.target h k

          later_target : (g : Global) → length a ≤ i
              → target_of (new a b) (symbol_after a s) (suc (i - length a)) g
              ≡ symbol_after a (target_of (old a b) s i g)
          later_target (OfVariable v) h = refl
          later_target (OfFunction f) h = refl
          later_target (OfAlias x) h = later_names i x.target h

          go : (c : Bool) → nat_lt i (length a) ≡ c
              → target_of (new a b) (symbol_after a s)
              (if c then moved a s (record { part = i; global = g }) else record {
                part =
                    suc (i - length a);
                global = g;
              }).part
              (if c then moved a s
              (record { part = i; global = g }) else record {
                part =
                    suc (i - length a);
                global = g;
              }).global
              ≡ symbol_after a (target_of (old a b) s i g)
          go true t = let low = below i (length a) t in first_target g low (known low)
          go false t = later_target g (not_below i (length a) t)

      pub behind_after : (s : Symbol) → IsSymbol (old a b) s
          → behind (new a b) (symbol_after a s) ≡ symbol_after a (behind (old a b) s)
      behind_after s here =
          ap (behind_from (new a b) (symbol_after a s)) (home_after a b ready s here)
          ∙ go (home (old a b) s) refl
        where
          go : (o : Option Entry) → home (old a b) s ≡ o
              → behind_from (new a b) (symbol_after a s) (option_map (entry_after a s) o)
              ≡ symbol_after a (behind_from (old a b) s o)
          go None h = refl
          go (Some e) h =
              target_after s e.part e.global (home_is (old a b) KnownFirst s e known_first h).0.0

      -- TYPES

      first_shapes : (i : ℕ) (t : Tree) → i < length a → KnownTree a i t
          → shape_in (new a b) 0 (linked_type a i t) ≡ shape_in (old a b) i t
      first_shapes i t h known = ready.merges.shapes i t known
          ∙ ap (λ structs. shape structs t) (sym (structs_before a b i h))

      later_shapes : (i : ℕ) (t : Tree) → length a ≤ i
          → shape_in (new a b) (suc (i - length a)) t ≡ shape_in (old a b) i t
      later_shapes i t h = ap (λ structs. shape structs t) (structs_behind a b (link_result a) i h)

      pub regroups : Regroups a b
      regroups = record {
        variables = variables_after a b ready;
        functions = functions_after a b ready;
        all = symbols_after a b ready;
        apart = apart_after;
        homes = home_after a b ready;
        undefined_same = λ s here. undefined_after s;
        absent = absent_after;
        behinds = behind_after;
        first_names = first_names;
        later_names = later_names;
        first_shapes = first_shapes;
        later_shapes = later_shapes;
      }
