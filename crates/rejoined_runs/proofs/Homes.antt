-- Where a symbol is defined, once the first parts are one: by the better of its definition there
-- and the later ones.
use Rattle.std.proofs.Common.{◌≡◌, ℕ, suc, ◌-◌, ◌<◌, ◌≤◌, Bool, true, false, ◌&&◌, ◌||◌, ◌⊎◌, inl, inr, List, [], ◌∷◌, ◌++◌, map, length, Option, Some, None, refl, sym, ap, ap₂, ◌∙◌, subst, filter, option_map, option_to_list, nat_lt, nat_eq, bytes_eq, append-nil, arith}
use Rattle.std.specs.Prelude.{if◌then◌else◌}
use Rattle.std.specs.Option.{option_map_or}
use Rattle.std.specs.List.{list_any, AllByRecursion}
use Rattle.std.proofs.lemmas.Bool.{cond-true, cond-false, both_ways, false_from_ne_true, or_cases, and_parts, eqb-true}
use Rattle.std.proofs.lemmas.Bool.Decides.{nat_tests}
use Rattle.std.proofs.lemmas.List.Elements.{filter-append}
use Rattle.std.proofs.lemmas.List.Folds.{list_any-append}
use Rattle.std.proofs.lemmas.List.{map-append}
use Rattle.ir_tables.specs.declared.linkage.Linkage.{Linkage}
use Rattle.ir_tables.specs.declared.linkage.Linkage.TheVariants.{Common}
use Rattle.type_table.specs.Layout.{size}
use Rattle.type_table.specs.Shape.{shape}
use Rattle.module_arena.specs.Module.{Bytes, Module}
use Rattle.linkage_rules.specs.Entries.{Entry, entries_from, entries, same_symbol, symbol_of, entries_of}
use Rattle.linkage_rules.specs.Globals.{Global, OfVariable, OfFunction, OfAlias, name_of, linkage_of, type_of, is_alias}
use Rattle.linkage_rules.specs.Linkages.{is_local, is_common, is_appending, rank}
use Rattle.linkage_rules.specs.Lists.{has}
use Rattle.linkage_rules.specs.SymbolLaws.{symbol_self, symbol_exact}
use Rattle.linkage_rules.specs.Symbols.{is_alias_symbol, symbols}
use Rattle.linkage_rules.specs.Winner.{definitions, is_definition, best, home, bytes_of, size_in}
use Rattle.linkage_rules.specs.declared.symbol.Symbol.{Symbol}
use Rattle.linkage_rules.specs.declared.symbol.Symbol.TheVariants.{Shared, Local}
use Rattle.linkage_rules.proofs.Entries.{all_follow}
use Rattle.link_rules.specs.Carried.{merged, IsSymbol, carry, moved}
use Rattle.link_rules.specs.Known.{KnownTree}
use Rattle.link_rules.specs.Linked.{link_result, linked_definition}
use Rattle.link_rules.specs.Merges.{Merges}
use Rattle.link_rules.specs.Rename.{new_name_of}
use Rattle.link_rules.proofs.Agreed.{is_symbol}
use Rattle.link_rules.proofs.Apart.{at_has, filter_none}
use Rattle.link_rules.proofs.Merged.{definition_linkage}
use Rattle.link_rules.proofs.Result.{keys_merged, symbols_merged}
use Rattle.link_rules.proofs.SameShapes.{StructsFine, size_same}
use Rattle.link_rules.proofs.Searches.{at_all, all_both}
use Rattle.link_rules.proofs.Symbols.{GoTogether, home_is, best_has, symbols_have, all_filter}
use Rattle.rejoined_runs.specs.Regrouped.{regrouped, symbol_after, entry_after}
use Rattle.rejoined_runs.proofs.Best.{better_of, best_joined, CountsAs, best_moved, better_apart, best_same, strongest_first}
use Rattle.rejoined_runs.proofs.Lists.{filter_mapped, all_true_of}
use Rattle.rejoined_runs.proofs.Shifted.{entries_joined, entries_within, shift, entries_shifted, structs_before, structs_behind}

-- what is asked of the parts that are linked first
pub record Ready (a : List Module) : Type 0 where
  pub together : GoTogether a
  pub structs : StructsFine a
  pub merges : Merges a
  pub types : AllByRecursion (λ e. KnownTree a e.part (type_of e.global)) (entries a)
  -- an alias is of the greatest rank, and the definition that counts of its symbol
  pub ranks : AllByRecursion (λ e. is_alias e.global ≡ true
      → rank (linkage_of e.global) ≡ 4) (entries a)
  pub wins : AllByRecursion (λ e. is_alias e.global ≡ true
      → is_alias_symbol a (symbol_of e) ≡ true) (entries a)

-- whether two numbers past a third are equal
shifted_alike : (n i j : ℕ) → n ≤ i → n ≤ j → nat_eq (suc (i - n)) (suc (j - n)) ≡ nat_eq i j
shifted_alike n i j h k = grind (arith, nat_tests)

zero_differs : (k : ℕ) → nat_eq 0 (suc k) ≡ false
zero_differs k = grind (arith, nat_tests)

suc_differs : (k : ℕ) → nat_eq (suc k) 0 ≡ false
suc_differs k = grind (arith, nat_tests)

less_differs : (i j : ℕ) → i < j → nat_eq i j ≡ false
less_differs i j h = grind (arith, nat_tests)

pub below : (i n : ℕ) → nat_lt i n ≡ true → i < n
below i n h = grind (arith, nat_tests)

pub not_below : (i n : ℕ) → nat_lt i n ≡ false → n ≤ i
not_below i n h = grind (arith, nat_tests)

pub is_below : (i n : ℕ) → i < n → nat_lt i n ≡ true
is_below i n h = grind (arith, nat_tests)

pub is_past : (i n : ℕ) → n ≤ i → nat_lt i n ≡ false
is_past i n h = grind (arith, nat_tests)

module _ (a b : List Module) where
  abbrev pub old : List Module
  old = a ++ b

  abbrev pub new : List Module
  new = regrouped a b

  -- the entries of the later parts
  abbrev pub later : List Entry
  later = entries_from (length a) b

  abbrev pub later_shifted : List Entry
  later_shifted = map (shift (length a)) later

  pub entries_old : entries old ≡ entries a ++ later
  entries_old = entries_joined 0 a b ∙ ap (λ k. entries a ++ entries_from k b) (omega arith)

  pub entries_new : entries new ≡ entries (merged a) ++ later_shifted
  entries_new =
      ap₂ (λ x y. x ++ y) (sym (append-nil _)) (entries_shifted (length a) 0 b
      ∙ ap (λ k. map (shift (length a)) (entries_from k b)) (omega arith))

  pub before_all : AllByRecursion (λ e. e.part < length a) (entries a)
  before_all =
      all_follow _ _ (entries a) (λ e h. let high = h.1 in omega arith) (entries_within 0 a)

  pub later_all : AllByRecursion (λ e. length a ≤ e.part) later
  later_all = all_follow _ _ later (λ e h. h.0) (entries_within (length a) b)

  -- a symbol is that of a later entry as before
  pub same_after : (s : Symbol) (e : Entry) → length a ≤ e.part
      → same_symbol (symbol_after a s) (symbol_of (shift (length a) e))
      ≡ same_symbol s (symbol_of e)
  same_after (Shared m) e h = go (is_local (linkage_of e.global))
    where
      go : (c : Bool)
          → same_symbol (Shared m)
          (if c then Local (suc (e.part - length a)) (name_of e.global) else Shared
          (name_of e.global))
          ≡ same_symbol (Shared m)
          (if c then Local e.part (name_of e.global) else Shared (name_of e.global))
      go true = refl
      go false = refl
  same_after (Local i m) e h = go (nat_lt i (length a)) (is_local (linkage_of e.global)) refl
    where
      go : (d c : Bool) → nat_lt i (length a) ≡ d
          → same_symbol
          (if d then Local 0 (new_name_of a (Local i m)) else Local (suc (i - length a)) m)
          (if c then Local (suc (e.part - length a)) (name_of e.global) else Shared
          (name_of e.global))
          ≡ same_symbol (Local i m)
          (if c then Local e.part (name_of e.global) else Shared (name_of e.global))
      go true true t =
          let low = below i (length a) t in
          ap (λ x. x && bytes_eq (new_name_of a (Local i m)) (name_of e.global))
          (zero_differs (e.part - length a))
          ∙ ap (λ x. x && bytes_eq m (name_of e.global)) (sym (less_differs i e.part (omega arith)))
      go true false t = refl
      go false true t =
          ap (λ x. x && bytes_eq m (name_of e.global))
          (shifted_alike (length a) i e.part (not_below i (length a) t) h)
      go false false t = refl

  -- the later entries of a symbol, and its later definitions
  abbrev pub later_of : Symbol → List Entry
  later_of s = filter (λ e. same_symbol s (symbol_of e)) later

  abbrev pub later_definitions : Symbol → List Entry
  later_definitions s = filter is_definition (later_of s)

  pub entries_of_old : (s : Symbol) → entries_of old s ≡ entries_of a s ++ later_of s
  entries_of_old s = ap (filter (λ e. same_symbol s (symbol_of e))) entries_old
      ∙ filter-append (λ e. same_symbol s (symbol_of e)) (entries a) later

  pub entries_of_new : (s : Symbol)
      → entries_of new (symbol_after a s)
      ≡ entries_of (merged a) (symbol_after a s) ++ map (shift (length a)) (later_of s)
  entries_of_new s =
      ap (filter (λ e. same_symbol (symbol_after a s) (symbol_of e))) entries_new
      ∙ filter-append (λ e. same_symbol (symbol_after a s) (symbol_of e))
      (entries (merged a)) later_shifted
      ∙ ap (λ l. entries_of (merged a) (symbol_after a s) ++ l)
      (filter_mapped (shift (length a)) (λ e. same_symbol (symbol_after a s) (symbol_of e))
      (λ e. same_symbol s (symbol_of e)) later
      (all_follow _ _ later (λ e h. same_after s e h) later_all))

  pub definitions_old : (s : Symbol) → definitions old s ≡ definitions a s ++ later_definitions s
  definitions_old s = ap (filter is_definition) (entries_of_old s)
      ∙ filter-append is_definition (entries_of a s) (later_of s)

  pub definitions_new : (s : Symbol)
      → definitions new (symbol_after a s)
      ≡ definitions (merged a) (symbol_after a s) ++ map (shift (length a))
      (later_definitions s)
  definitions_new s =
      ap (filter is_definition) (entries_of_new s)
      ∙ filter-append is_definition (entries_of (merged a) (symbol_after a s))
      (map (shift (length a)) (later_of s))
      ∙ ap (λ l. definitions (merged a) (symbol_after a s) ++ l)
      (filter_mapped (shift (length a)) is_definition is_definition (later_of s)
      (all_true_of _ (λ e. refl) (later_of s)))

  -- a symbol that no first part has
  abbrev pub IsLater : Symbol → Type 0
  IsLater (Shared m) = has same_symbol (symbols a) (Shared m) ≡ false
  IsLater (Local i m) = length a ≤ i

  pub local_part : (es : List Entry) (i : ℕ) (m : Bytes)
      → has same_symbol (map symbol_of es) (Local i m) ≡ true → (P : ℕ → Type 0)
      → AllByRecursion (λ e. P e.part) es → P i
  local_part [] i m h P all = cc
  local_part (e ∷ es) i m h P all =
      by_cases (or_cases (same_symbol (Local i m) (symbol_of e)) _ h)
      (λ k. local_part es i m k P all.1)
    where
      by_test : (c : Bool)
          → same_symbol (Local i m)
          (if c then Local e.part (name_of e.global) else Shared (name_of e.global)) ≡ true
          → P i
      by_test true k = subst P (sym (eqb-true i e.part (and_parts (nat_eq i e.part) _ k).0)) all.0
      by_test false k = cc

      by_cases : (same_symbol (Local i m) (symbol_of e) ≡ true) ⊎
          (has same_symbol (map symbol_of es) (Local i m) ≡ true)
          → (has same_symbol (map symbol_of es) (Local i m) ≡ true → P i) → P i
      by_cases (inl k) more = by_test (is_local (linkage_of e.global)) k
      by_cases (inr k) more = more k

  -- a local symbol of the first parts is of one of them
  pub symbol_part : (i : ℕ) (m : Bytes) → IsSymbol a (Local i m) → i < length a
  symbol_part i m here = local_part (entries a) i m (symbol_has here) (λ j. j < length a) before_all
    where
      symbol_has : IsSymbol a (Local i m)
          → has same_symbol (map symbol_of (entries a)) (Local i m) ≡ true
      symbol_has h = let found =
          at_has same_symbol symbol_self symbol_exact (symbols a) (Local i m) h in at_all _
          (symbols a) found.0 (Local i m) (symbols_have a) found.1

  pub either : (s : Symbol) → IsSymbol old s → IsSymbol a s ⊎ IsLater s
  either (Shared m) here = go (has same_symbol (symbols a) (Shared m)) refl
    where
      go : (c : Bool) → has same_symbol (symbols a) (Shared m) ≡ c
          → (has same_symbol (symbols a) (Shared m) ≡ true) ⊎
          (has same_symbol (symbols a) (Shared m) ≡ false)
      go true h = inl h
      go false h = inr h
  either (Local i m) here =
      let found = at_has same_symbol symbol_self symbol_exact (symbols old) (Local i m) here in
      let there = at_all _ (symbols old) found.0 (Local i m) (symbols_have old) found.1 in
      halves (subst (λ l. list_any (same_symbol (Local i m)) l ≡ true)
      (ap (map symbol_of) entries_old ∙ map-append symbol_of (entries a) later) there)
    where
      halves : list_any (same_symbol (Local i m)) (map symbol_of (entries a) ++ map symbol_of later)
          ≡ true → IsSymbol a (Local i m) ⊎ (length a ≤ i)
      halves h =
          go (or_cases (list_any (same_symbol (Local i m)) (map symbol_of (entries a))) _
          (subst (λ c. c ≡ true)
          (list_any-append (same_symbol (Local i m)) (map symbol_of (entries a))
          (map symbol_of later)) h))
        where
          go : (list_any (same_symbol (Local i m)) (map symbol_of (entries a)) ≡ true) ⊎
              (list_any (same_symbol (Local i m)) (map symbol_of later) ≡ true)
              → IsSymbol a (Local i m) ⊎ (length a ≤ i)
          go (inl k) = inl (is_symbol a (Local i m) k)
          go (inr k) = inr (local_part later i m k (λ j. length a ≤ j) later_all)

  -- a symbol of the first parts is carried over
  pub after_carry : (s : Symbol) → IsSymbol a s → symbol_after a s ≡ carry a s
  after_carry (Shared m) here = refl
  after_carry (Local i m) here =
      cond-true (nat_lt i (length a)) _ _ (is_below i (length a) (symbol_part i m here))

  -- no first part has an entry of a later symbol, nor has their module
  pub nothing_before : (s : Symbol) → IsLater s
      → has same_symbol (map symbol_of (entries a)) s ≡ false
  nothing_before (Shared m) h = false_from_ne_true _ (λ t. both_ways _ h (is_symbol a (Shared m) t))
  nothing_before (Local i m) h =
      false_from_ne_true _
      (λ t. absurd (less i h (local_part (entries a) i m t (λ j. j < length a) before_all)))
    where
      less : (i : ℕ) → length a ≤ i → i < length a → ⊥
      less i h k = omega arith

  -- MODULES THAT ARE READY

  module _ (ready : Ready a) where
    pub carried_has : (ss : List Symbol) (m : Bytes)
        → has same_symbol (map (carry a) ss) (Shared m) ≡ has same_symbol ss (Shared m)
    carried_has [] m = refl
    carried_has (Shared n ∷ ss) m =
        ap (λ c. same_symbol (Shared m) (Shared n) || c) (carried_has ss m)
    carried_has (Local i n ∷ ss) m = carried_has ss m

    pub carried_none : (ss : List Symbol) (k : ℕ) (m : Bytes)
        → has same_symbol (map (carry a) ss) (Local (suc k) m) ≡ false
    carried_none [] k m = refl
    carried_none (Shared n ∷ ss) k m = carried_none ss k m
    carried_none (Local i n ∷ ss) k m =
        ap (λ c. (c && bytes_eq m (new_name_of a (Local i n))) || has same_symbol (map (carry a) ss)
        (Local (suc k) m)) (suc_differs k) ∙ carried_none ss k m

    pub merged_keys : map symbol_of (entries (merged a)) ≡ map (carry a) (symbols a)
    merged_keys = keys_merged a ready.together ∙ sym (symbols_merged a ready.together)
        ∙ ready.merges.all

    pub nothing_merged : (s : Symbol) → IsLater s
        → has same_symbol (map symbol_of (entries (merged a))) (symbol_after a s) ≡ false
    nothing_merged (Shared m) h = ap (λ l. has same_symbol l (Shared m)) merged_keys
        ∙ carried_has (symbols a) m ∙ h
    nothing_merged (Local i m) h =
        ap (has same_symbol (map symbol_of (entries (merged a))))
        (cond-false (nat_lt i (length a)) _ _ (is_past i (length a) h))
        ∙ ap (λ l. has same_symbol l (Local (suc (i - length a)) m)) merged_keys
        ∙ carried_none (symbols a) (i - length a) m

    -- the definition that the first parts' module has of a symbol
    pub first_definitions : (s : Symbol) → IsSymbol old s
        → definitions (merged a) (symbol_after a s)
        ≡ option_to_list (option_map (moved a s) (home a s))
    first_definitions s here = go (either s here)
      where
        go : IsSymbol a s ⊎ IsLater s
            → definitions (merged a) (symbol_after a s)
            ≡ option_to_list (option_map (moved a s) (home a s))
        go (inl k) = ap (definitions (merged a)) (after_carry s k) ∙ ready.merges.defined_once s k
        go (inr k) =
            ap (filter is_definition)
            (filter_none same_symbol symbol_self symbol_exact symbol_of (λ e. true)
            (symbol_after a s) (entries (merged a)) (nothing_merged s k))
            ∙ sym (ap
            (λ es. option_to_list (option_map (moved a s) (best a (filter is_definition es))))
            (filter_none same_symbol symbol_self symbol_exact symbol_of (λ e. true) s
            (entries a) (nothing_before s k)))

    -- HOMES

    same_bytes : (i : ℕ) → i < length a → (g : Global) → bytes_of old i g ≡ bytes_of a i g
    same_bytes i h (OfVariable v) =
        ap (λ t. option_map_or size (shape t v.ty) 0) (structs_before a b i h)
    same_bytes i h (OfFunction f) = refl
    same_bytes i h (OfAlias x) = refl

    later_bytes : (i : ℕ) → length a ≤ i → (g : Global)
        → bytes_of new (suc (i - length a)) g ≡ bytes_of old i g
    later_bytes i h (OfVariable v) =
        ap (λ t. option_map_or size (shape t v.ty) 0) (structs_behind a b (link_result a) i h)
    later_bytes i h (OfFunction f) = refl
    later_bytes i h (OfAlias x) = refl

    plain_common : (l : Linkage) → is_common l ≡ true → is_appending l ≡ false
    plain_common Common h = refl
    plain_common l h = cc

    moved_bytes : (s : Symbol) (i : ℕ) (g : Global) → KnownTree a i (type_of g)
        → is_common (linkage_of g) ≡ true
        → bytes_of new 0 (moved a s (record { part = i; global = g })).global ≡ bytes_of a i g
    moved_bytes s i (OfVariable v) known common =
        ap (λ t. size_in new 0 t)
        (cond-false (is_appending v.linkage) _ _ (plain_common v.linkage common))
        ∙ size_same a ready.structs i v.ty known
    moved_bytes s i (OfFunction f) known common = refl
    moved_bytes s i (OfAlias x) known common = refl

    -- what holds of all first entries holds of a home there
    first_home : (s : Symbol) (e : Entry) → home a s ≡ Some e
        → (e.part < length a) × KnownTree a e.part (type_of e.global)
    first_home s e h = (home_is a _ s e (all_both _ _ (entries a) before_all ready.types) h).0.0

    pub first_counts : (s : Symbol) (e : Entry) → home a s ≡ Some e
        → CountsAs new old (moved a s e) e × (moved a s e ≡ entry_after a s e)
    first_counts s e h =
        let is = first_home s e h in (
          record {
            linkage = definition_linkage a (new_name_of a s) e (definitions a s) e.global;
            bytes = λ common. moved_bytes s e.part e.global is.1 common
                ∙ sym (same_bytes e.part is.0 e.global);
          },
          sym (cond-true (nat_lt e.part (length a)) _ _ (is_below e.part (length a) is.0)),
        )

    -- the best of the later definitions
    abbrev pub later_home : Symbol → Option Entry
    later_home s = best old (later_definitions s)

    all_later : (s : Symbol) → AllByRecursion (λ e. length a ≤ e.part) (later_definitions s)
    all_later s =
        all_filter _ is_definition (later_of s)
        (all_filter _ (λ e. same_symbol s (symbol_of e)) later later_all)

    shift_counts : (e : Entry) → length a ≤ e.part → CountsAs new old (shift (length a) e) e
    shift_counts e h = record { linkage = refl; bytes = λ common. later_bytes e.part h e.global }

    pub later_counts : (s : Symbol) (e : Entry) → later_home s ≡ Some e
        → CountsAs new old (shift (length a) e) e × (shift (length a) e ≡ entry_after a s e)
    later_counts s e h =
        let is = best_has old (λ d. length a ≤ d.part) (later_definitions s) e (all_later s) h in (
          shift_counts e is,
          sym
              (cond-false (nat_lt e.part (length a)) _ _ (is_past e.part (length a) is)),
        )

    -- of all parts at once
    pub home_old : (s : Symbol) → home old s ≡ better_of old (home a s) (later_home s)
    home_old s =
        ap (best old) (definitions_old s) ∙ best_joined old (definitions a s) (later_definitions s)
        ∙ ap (λ o. better_of old o (later_home s))
        (best_same old a (definitions a s)
        (all_follow _ _ (definitions a s)
        (λ e h. record { linkage = refl; bytes = λ common. same_bytes e.part h e.global })
        (all_filter _ is_definition (entries_of a s)
        (all_filter _ (λ e. same_symbol s (symbol_of e)) (entries a) before_all))))

    one_best : (ms : List Module) (o : Option Entry) → best ms (option_to_list o) ≡ o
    one_best ms None = refl
    one_best ms (Some e) = refl

    -- and where the first are one
    pub home_new : (s : Symbol) → IsSymbol old s
        → home new (symbol_after a s)
        ≡ better_of new (option_map (moved a s) (home a s))
        (option_map (shift (length a)) (later_home s))
    home_new s here =
        ap (best new) (definitions_new s
        ∙ ap (λ l. l ++ map (shift (length a)) (later_definitions s))
        (first_definitions s here))
        ∙ best_joined new (option_to_list (option_map (moved a s) (home a s)))
        (map (shift (length a)) (later_definitions s))
        ∙ ap₂ (better_of new) (one_best new (option_map (moved a s) (home a s)))
        (best_moved new old (shift (length a)) (later_definitions s)
        (all_follow _ _ (later_definitions s) shift_counts (all_later s)))

    -- a symbol is defined where it was
    pub home_after : (s : Symbol) → IsSymbol old s
        → home new (symbol_after a s) ≡ option_map (entry_after a s) (home old s)
    home_after s here =
        home_new s here
        ∙ better_apart new old (moved a s) (shift (length a)) (entry_after a s) (home a s)
        (later_home s) (first_counts s) (later_counts s)
        ∙ ap (option_map (entry_after a s)) (sym (home_old s))

    -- ALIASES

    abbrev is_alias_at : Option Entry → Bool
    is_alias_at o = option_map_or (λ e. is_alias e.global) o false

    linked_stays : (s : Symbol) (e : Entry) (g : Global) (es : List Entry)
        → is_alias (linked_definition a (new_name_of a s) e es g) ≡ is_alias g
    linked_stays s e (OfVariable v) es = refl
    linked_stays s e (OfFunction f) es = refl
    linked_stays s e (OfAlias x) es = refl

    entry_stays : (s : Symbol) (e : Entry) → is_alias (entry_after a s e).global ≡ is_alias e.global
    entry_stays s e = go (nat_lt e.part (length a))
      where
        go : (c : Bool)
            → is_alias
            (if c then moved a s e else record {
              part = suc (e.part - length a);
              global =
                  e.global;
            }).global ≡ is_alias e.global
        go true = linked_stays s e e.global (definitions a s)
        go false = refl

    -- a symbol is an alias where it was one
    pub alias_after : (s : Symbol) → IsSymbol old s
        → is_alias_symbol new (symbol_after a s) ≡ is_alias_symbol old s
    alias_after s here = ap is_alias_at (home_after s here) ∙ go (home old s)
      where
        go : (o : Option Entry) → is_alias_at (option_map (entry_after a s) o) ≡ is_alias_at o
        go None = refl
        go (Some e) = entry_stays s e

    pub alias_merged : (s : Symbol) → IsSymbol a s
        → is_alias_symbol (merged a) (carry a s) ≡ is_alias_symbol a s
    alias_merged s here = ap is_alias_at (ready.merges.homes s here) ∙ go (home a s)
      where
        go : (o : Option Entry) → is_alias_at (option_map (moved a s) o) ≡ is_alias_at o
        go None = refl
        go (Some e) = linked_stays s e e.global (definitions a s)

    -- an alias of the first parts stays one
    pub alias_stays : (s : Symbol) → is_alias_symbol a s ≡ true → is_alias_symbol old s ≡ true
    alias_stays s h = ap is_alias_at (home_old s) ∙ go (home a s) refl h
      where
        go : (o : Option Entry) → home a s ≡ o → is_alias_at o ≡ true
            → is_alias_at (better_of old o (later_home s)) ≡ true
        go None k t = cc
        go (Some e) k t =
            ap is_alias_at
            (strongest_first old e (later_home s) ((home_is a _ s e ready.ranks k).0.0 t)) ∙ t
