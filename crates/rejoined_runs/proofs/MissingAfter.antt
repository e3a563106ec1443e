-- The same symbols are missing where the first parts are one: those that mean nothing, and are
-- used.
use Rattle.std.proofs.Common.{◌≡◌, ℕ, suc, ◌-◌, ◌<◌, ◌≤◌, Bool, true, false, ◌&&◌, ◌||◌, List, [], ◌∷◌, ◌++◌, map, length, Option, Some, None, refl, sym, ap, ap₂, ◌∙◌, subst, option_map, option_to_list, flat_map, find, nat_lt, arith}
use Rattle.std.specs.Prelude.{if◌then◌else◌}
use Rattle.std.specs.List.{list_any, AllByRecursion}
use Rattle.std.specs.Option.{option_map_or}
use Rattle.std.proofs.lemmas.Bool.{cond-true, cond-false, both_ways, and_parts}
use Rattle.std.proofs.lemmas.List.Folds.{list_any-append}
use Rattle.module_arena.specs.Module.{Bytes, Constant, Integer, Truth, Null, Undef, Poison, ZeroInitializer, Address, ByteString, Aggregate, ElementAddress, Cast, Binary, Square, Constants, no_constants, more_constants, Module}
use Rattle.module_arena.specs.UsedNames.{names_in_constant, names_in_constants}
use Rattle.linkage_rules.specs.Addresses.{room}
use Rattle.linkage_rules.specs.Bind.{bound_to, behind, meaning}
use Rattle.linkage_rules.specs.Contents.Contents.{ContentPiece, pieces_of_constants, elements_of, elements_in}
use Rattle.linkage_rules.specs.Entries.{Entry, same_symbol, symbol_of, symbol_in, entries, entries_of, symbol_name}
use Rattle.linkage_rules.specs.Globals.{Global, OfVariable, OfFunction, OfAlias, linkage_of}
use Rattle.linkage_rules.specs.Linkages.{is_appending}
use Rattle.linkage_rules.specs.Symbols.{variable_symbols, symbols}
use Rattle.linkage_rules.specs.Winner.{definitions, is_definition, home}
use Rattle.linkage_rules.specs.declared.symbol.Symbol.{Symbol}
use Rattle.linkage_rules.specs.declared.symbol.Symbol.TheVariants.{Shared, Local}
use Rattle.linkage_rules.proofs.Entries.{all_follow}
use Rattle.linkage_rules.proofs.Gathered.{all_joined}
use Rattle.link_rules.specs.Carried.{IsSymbol, moved}
use Rattle.link_rules.specs.Known.{KnownName}
use Rattle.link_rules.specs.Linked.{linked_constant, linked_pieces, linked_definition}
use Rattle.link_rules.specs.Rename.{new_global, new_name_of}
use Rattle.link_rules.specs.Structs.{new_struct}
use Rattle.link_rules.proofs.Searches.{any_flat, any_map, find_name, all_both, all_front, all_back}
use Rattle.link_rules.proofs.Symbols.{home_is, best_has, all_filter}
use Rattle.linked_runs.proofs.Contents.{all_flat}
use Rattle.linked_runs.proofs.Known.{IsList, AppendsLists, names_in_pieces}
use Rattle.linked_runs.proofs.Missing.{or_false, flat_symbols, defined_resolved, local_resolved}
use Rattle.linked_runs.proofs.NamesKept.{constant_names, body_names, initialiser_names}
use Rattle.linked_runs.proofs.Places.{all_symbols, behind_is}
use Rattle.run_rules.specs.Plan.{chosen_by, chosen_of, chosen, names_used, uses, is_unresolved, is_missing, first_missing}
use Rattle.rejoined_runs.specs.Regrouped.{symbol_after, entry_after}
use Rattle.rejoined_runs.proofs.Best.{best_empty}
use Rattle.rejoined_runs.proofs.CodeAfter.{same_linkage}
use Rattle.rejoined_runs.proofs.ContentsAfter.{first_appended}
use Rattle.rejoined_runs.proofs.Homes.{Ready, old, new, later, later_definitions, definitions_old, definitions_new, first_definitions, entries_old, before_all, later_all, below, not_below}
use Rattle.rejoined_runs.proofs.PlacesAfter.{Both, meaning_path, first_known}
use Rattle.rejoined_runs.proofs.Shifted.{shift}

any_alike : {A : Type 0} (p q : A → Bool) (xs : List A) → AllByRecursion (λ x. p x ≡ q x) xs
    → list_any p xs ≡ list_any q xs
any_alike p q [] all = refl
any_alike p q (x ∷ xs) all = ap₂ (λ c d. c || d) all.0 (any_alike p q xs all.1)

module _ (a b : List Module) (ready : Ready a) (both : Both a b)
    (rooms_kept : AllByRecursion (λ s. room (new a b) (symbol_after a s) ≡ room (old a b) s)
    (variable_symbols (old a b))) where
  unresolved_same : (s : Symbol) → IsSymbol (old a b) s
      → is_unresolved (meaning (new a b) (symbol_after a s)) ≡ is_unresolved (meaning (old a b) s)
  unresolved_same s here = ap is_unresolved (meaning_path a b both rooms_kept s here)
      ∙ by_home (home (old a b) (behind (old a b) s)) refl
    where
      by_home : (o : Option Entry) → home (old a b) (behind (old a b) s) ≡ o
          → is_unresolved
          (bound_to (new a b) (symbol_after a (behind (old a b) s))
          (option_map (entry_after a (behind (old a b) s)) o))
          ≡ is_unresolved (bound_to (old a b) (behind (old a b) s) o)
      by_home None h =
          ap is_unresolved
          (both.regroups.undefined_same (behind (old a b) s)
          (behind_is (old a b) both.fit both.merges s here) h)
      by_home (Some e) h =
          defined_resolved (new a b) (symbol_after a (behind (old a b) s))
          (entry_after a (behind (old a b) s) e)
          ∙ sym (defined_resolved (old a b) (behind (old a b) s) e)

  -- names that are used in a first part are known there
  abbrev UsedFirst : Entry → Type 0
  UsedFirst e = e.part < length a → AllByRecursion (KnownName a e.part) (names_used e.global)

  too_low : (i : ℕ) → length a ≤ i → i < length a → ⊥
  too_low i h k = omega arith

  used_first : AllByRecursion UsedFirst (entries (old a b))
  used_first =
      subst (AllByRecursion UsedFirst) (sym (entries_old a b))
      (all_joined UsedFirst (entries a) (later a b)
      (all_follow _ UsedFirst (entries a) (λ e k h. k) both.first.names)
      (all_follow _ UsedFirst (later a b) (λ e low h. absurd (too_low e.part low h))
      (later_all a b)))

  -- USES

  module _ (s : Symbol) (here : IsSymbol (old a b) s) where
    abbrev used_before : ℕ → Bytes → Bool
    used_before i name = same_symbol s (symbol_in (old a b) i name)

    abbrev used_after : ℕ → Bytes → Bool
    used_after i name = same_symbol (symbol_after a s) (symbol_in (new a b) i name)

    names_first : (i : ℕ) → i < length a → (names : List Bytes)
        → AllByRecursion (KnownName a i) names
        → list_any (used_after 0) (map (new_global a i) names) ≡ list_any (used_before i) names
    names_first i h names known =
        any_map (new_global a i) (used_after 0) (used_before i) names
        (all_follow _ _ names
        (λ name k. ap (same_symbol (symbol_after a s)) (both.regroups.first_names i name h k)
        ∙ both.regroups.apart s (symbol_in (old a b) i name) here
        (first_known a b both rooms_kept i name h k)) known)

    names_later : (i : ℕ) → length a ≤ i → (names : List Bytes)
        → AllByRecursion (KnownName (old a b) i) names
        → list_any (used_after (suc (i - length a))) names ≡ list_any (used_before i) names
    names_later i h names known =
        any_alike (used_after (suc (i - length a))) (used_before i) names
        (all_follow _ _ names
        (λ name k. ap (same_symbol (symbol_after a s)) (both.regroups.later_names i name h)
        ∙ both.regroups.apart s (symbol_in (old a b) i name) here k) known)

    constant_same : (i : ℕ) → i < length a → (c : Constant)
        → AllByRecursion (KnownName a i) (names_in_constant c)
        → list_any (used_after 0) (names_in_constant (linked_constant a i c))
        ≡ list_any (used_before i) (names_in_constant c)
    constant_same i h c known =
        ap (list_any (used_after 0)) (constant_names (new_struct a i) (new_global a i) c)
        ∙ names_first i h (names_in_constant c) known

    -- one definition of a first part
    alone_first : (m : Bytes) (i : ℕ) → i < length a → (g : Global) (es : List Entry)
        → is_appending (linkage_of g) ≡ false → AllByRecursion (KnownName a i) (names_used g)
        → list_any (used_after 0)
        (names_used (linked_definition a m (record { part = i; global = g }) es g))
        ≡ list_any (used_before i) (names_used g)
    alone_first m i h (OfVariable v) es plain known =
        ap (λ c. list_any (used_after 0) (option_map_or names_in_constant c []))
        (cond-false (is_appending v.linkage) (joined_list)
        (option_map (linked_constant a i) v.initialiser) plain)
        ∙ ap (list_any (used_after 0))
        (initialiser_names (new_struct a i) (new_global a i) v.initialiser)
        ∙ names_first i h (option_map_or names_in_constant v.initialiser []) known
      where
        joined_list : Option Constant
        joined_list = Some (Aggregate Square (linked_pieces a (flat_map elements_in es)))
    alone_first m i h (OfFunction f) es plain known =
        ap (list_any (used_after 0)) (body_names (new_struct a i) (new_global a i) f.body)
        ∙ names_first i h (names_used (OfFunction f)) known
    alone_first m i h (OfAlias x) es plain known = refl

    alone_same : (t : Symbol) (i : ℕ) (g : Global) → is_appending (linkage_of g) ≡ false
        → (i < length a → AllByRecursion (KnownName a i) (names_used g))
        → AllByRecursion (KnownName (old a b) i) (names_used g)
        → uses (new a b) (symbol_after a s) (entry_after a t (record { part = i; global = g }))
        ≡ uses (old a b) s (record { part = i; global = g })
    alone_same t i g plain first known = go (nat_lt i (length a)) refl
      where
        go : (c : Bool) → nat_lt i (length a) ≡ c
            → uses (new a b) (symbol_after a s)
            (if c then moved a t (record { part = i; global = g }) else record {
              part =
                  suc (i - length a);
              global = g;
            })
            ≡ uses (old a b) s (record { part = i; global = g })
        go true k = let low =
            below i (length a) k in alone_first (new_name_of a t) i low g (definitions a t) plain
            (first low)
        go false k = names_later i (not_below i (length a) k) (names_used g) known

    -- pieces of first parts, one after another
    abbrev piece_uses : ContentPiece → Bool
    piece_uses p = list_any (used_before p.part) (names_in_constant p.value)

    abbrev KnownNames : ContentPiece → Type 0
    KnownNames p = (p.part < length a) × AllByRecursion (KnownName a p.part)
        (names_in_constant p.value)

    pieces_used : (ps : List ContentPiece) → AllByRecursion KnownNames ps
        → list_any (used_after 0) (names_in_constants (linked_pieces a ps)) ≡ list_any piece_uses ps
    pieces_used [] known = refl
    pieces_used (p ∷ ps) known =
        list_any-append (used_after 0) (names_in_constant (linked_constant a p.part p.value))
        (names_in_constants (linked_pieces a ps))
        ∙ ap₂ (λ c d. c || d) (constant_same p.part known.0.0 p.value known.0.1)
        (pieces_used ps known.1)

    constants_used : (i : ℕ) (cs : Constants)
        → list_any piece_uses (pieces_of_constants i cs)
        ≡ list_any (used_before i) (names_in_pieces (pieces_of_constants i cs))
    constants_used i no_constants = refl
    constants_used i (more_constants t c cs) =
        ap (λ d. list_any (used_before i) (names_in_constant c) || d) (constants_used i cs)
        ∙ sym (list_any-append (used_before i) (names_in_constant c)
        (names_in_pieces (pieces_of_constants i cs)))

    elements_used : (i : ℕ) (c : Constant)
        → list_any piece_uses (elements_of i c)
        ≡ list_any (used_before i) (names_in_pieces (elements_of i c))
    elements_used i (Aggregate k cs) = constants_used i cs
    elements_used i (Integer n) = refl
    elements_used i (Truth t) = refl
    elements_used i Null = refl
    elements_used i Undef = refl
    elements_used i Poison = refl
    elements_used i ZeroInitializer = refl
    elements_used i (Address name) = refl
    elements_used i (ByteString bytes) = refl
    elements_used i (ElementAddress flags source operands) = refl
    elements_used i (Cast opcode from value to) = refl
    elements_used i (Binary opcode flags left_type left right_type right) = refl

    entry_used : (i : ℕ) (g : Global) → AppendsLists i g → is_appending (linkage_of g) ≡ true
        → list_any piece_uses (elements_in (record { part = i; global = g }))
        ≡ uses (old a b) s (record { part = i; global = g })
    entry_used i (OfVariable v) lists appends = go v.initialiser (lists appends).1
      where
        go : (o : Option Constant) → IsList i o
            → list_any (piece_uses) (option_map_or (elements_of i) o [])
            ≡ list_any (used_before i) (option_map_or names_in_constant o [])
        go None h = refl
        go (Some c) h = elements_used i c ∙ ap (list_any (used_before i)) h
    entry_used i (OfFunction f) lists appends =
        absurd (both_ways (is_appending f.linkage) lists appends)
    entry_used i (OfAlias x) lists appends =
        absurd (both_ways (is_appending x.linkage) lists appends)

    constants_known : (i : ℕ) → i < length a → (cs : Constants)
        → AllByRecursion (KnownName a i) (names_in_pieces (pieces_of_constants i cs))
        → AllByRecursion KnownNames (pieces_of_constants i cs)
    constants_known i h no_constants k = tt
    constants_known i h (more_constants t c cs) k = (
      (
        h,
        all_front _ (names_in_constant c)
            (names_in_pieces (pieces_of_constants i cs)) k,
      ),
      constants_known i h cs
          (all_back _ (names_in_constant c) (names_in_pieces (pieces_of_constants i cs)) k),
    )

    elements_known : (i : ℕ) → i < length a → (c : Constant)
        → AllByRecursion (KnownName a i) (names_in_pieces (elements_of i c))
        → AllByRecursion KnownNames (elements_of i c)
    elements_known i h (Aggregate n cs) k = constants_known i h cs k
    elements_known i h (Integer n) k = tt
    elements_known i h (Truth t) k = tt
    elements_known i h Null k = tt
    elements_known i h Undef k = tt
    elements_known i h Poison k = tt
    elements_known i h ZeroInitializer k = tt
    elements_known i h (Address name) k = tt
    elements_known i h (ByteString bytes) k = tt
    elements_known i h (ElementAddress flags source operands) k = tt
    elements_known i h (Cast opcode from value to) k = tt
    elements_known i h (Binary opcode flags left_type left right_type right) k = tt

    entry_known : (i : ℕ) → i < length a → (g : Global) → AppendsLists i g
        → is_appending (linkage_of g) ≡ true → AllByRecursion (KnownName a i) (names_used g)
        → AllByRecursion KnownNames (elements_in (record { part = i; global = g }))
    entry_known i h (OfVariable v) lists appends known = go v.initialiser (lists appends).1 known
      where
        go : (o : Option Constant) → IsList i o
            → AllByRecursion (KnownName a i) (option_map_or names_in_constant o [])
            → AllByRecursion (KnownNames) (option_map_or (elements_of i) o [])
        go None l k = tt
        go (Some c) l k = elements_known i h c (subst (AllByRecursion (KnownName a i)) (sym l) k)
    entry_known i h (OfFunction f) lists appends known = tt
    entry_known i h (OfAlias x) lists appends known = tt

    -- all definitions of an appended symbol in the first parts
    abbrev Appends : Entry → Type 0
    Appends e = (e.part < length a) ×
        (AppendsLists e.part e.global × AllByRecursion (KnownName a e.part) (names_used e.global)) ×
        (is_appending (linkage_of e.global) ≡ true)

    entries_used : (es : List Entry) → AllByRecursion Appends es
        → list_any (used_after 0) (names_in_constants (linked_pieces a (flat_map elements_in es)))
        ≡ list_any (uses (old a b) s) es
    entries_used es all =
        pieces_used (flat_map elements_in es) (flat_known es all)
        ∙ any_flat piece_uses (uses (old a b) s) elements_in es
        (all_follow Appends _ es (λ e k. entry_used e.part e.global k.1.0 k.2) all)
      where
        flat_known : (ds : List Entry) → AllByRecursion Appends ds
            → AllByRecursion KnownNames (flat_map elements_in ds)
        flat_known ds k =
            all_flat KnownNames elements_in ds
            (all_follow Appends _ ds (λ e x. entry_known e.part x.0 e.global x.1.0 x.2 x.1.1) k)

    appended_first : (m : Bytes) (i : ℕ) (g : Global) (es : List Entry)
        → is_appending (linkage_of g) ≡ true → AppendsLists i g → AllByRecursion Appends es
        → list_any (used_after 0)
        (names_used (linked_definition a m (record { part = i; global = g }) es g))
        ≡ list_any (uses (old a b) s) es
    appended_first m i (OfVariable v) es appends lists all =
        ap (λ c. list_any (used_after 0) (option_map_or names_in_constant c []))
        (cond-true (is_appending v.linkage)
        (Some (Aggregate Square (linked_pieces a (flat_map elements_in es))))
        (option_map (linked_constant a i) v.initialiser) appends)
        ∙ entries_used es all
    appended_first m i (OfFunction f) es appends lists all =
        absurd (both_ways (is_appending f.linkage) lists appends)
    appended_first m i (OfAlias x) es appends lists all =
        absurd (both_ways (is_appending x.linkage) lists appends)

    -- ALL DEFINITIONS

    module _ (t : Symbol) (there : IsSymbol (old a b) t) where
      first_all : AllByRecursion (λ d. is_appending (linkage_of d.global) ≡ true) (definitions a t)
          → AllByRecursion Appends (definitions a t)
      first_all appends =
          all_follow _ Appends (definitions a t) (λ e k. (k.0.0, (k.0.1.0, k.0.1.1), k.1))
          (all_both _ _ (definitions a t)
          (all_filter _ is_definition (entries_of a t)
          (all_filter _ (λ e. same_symbol t (symbol_of e)) (entries a)
          (all_both _ _ (entries a) (before_all a b)
          (all_both _ _ (entries a) both.first.appended both.first.names))))
          appends)

      later_names_known : AllByRecursion
          (λ e. (length a ≤ e.part) × AllByRecursion (KnownName (old a b) e.part)
          (names_used e.global)) (later_definitions a b t)
      later_names_known =
          all_filter _ is_definition _ (all_filter _ (λ e. same_symbol t (symbol_of e)) (later a b)
          (all_both _ _ (later a b) (later_all a b)
          (all_back _ (entries a) (later a b)
          (subst (AllByRecursion
          (λ e. AllByRecursion (KnownName (old a b) e.part) (names_used e.global)))
          (entries_old a b) both.fit.names))))

      appended_same : AllByRecursion (λ d. is_appending (linkage_of d.global) ≡ true)
          (definitions a t)
          → list_any (uses (new a b) (symbol_after a s)) (definitions (new a b) (symbol_after a t))
          ≡ list_any (uses (old a b) s) (definitions (old a b) t)
      appended_same appends =
          ap (list_any (uses (new a b) (symbol_after a s))) (definitions_new a b t
          ∙ ap (λ l. l ++ map (shift (length a)) (later_definitions a b t))
          (first_definitions a b ready t there))
          ∙ list_any-append (uses (new a b) (symbol_after a s))
          (option_to_list (option_map (moved a t) (home a t)))
          (map (shift (length a)) (later_definitions a b t))
          ∙ ap₂ (λ c d. c || d) (front (home a t) refl)
          (any_map (shift (length a)) (uses (new a b) (symbol_after a s)) (uses (old a b) s)
          (later_definitions a b t)
          (all_follow _ _ (later_definitions a b t)
          (λ e k. names_later e.part k.0 (names_used e.global) k.1) later_names_known))
          ∙ sym (ap (list_any (uses (old a b) s)) (definitions_old a b t)
          ∙ list_any-append (uses (old a b) s) (definitions a t) (later_definitions a b t))
        where
          front : (o : Option Entry) → home a t ≡ o
              → list_any (uses (new a b) (symbol_after a s))
              (option_to_list (option_map (moved a t) o))
              ≡ list_any (uses (old a b) s) (definitions a t)
          front None h = sym (ap (list_any (uses (old a b) s)) (best_empty a (definitions a t) h))
          front (Some w) h =
              or_false (uses (new a b) (symbol_after a s) (moved a t w))
              ∙ appended_first (new_name_of a t) w.part w.global (definitions a t)
              (best_has a (λ d. is_appending (linkage_of d.global) ≡ true)
              (definitions a t) w appends h)
              (home_is a (λ d. AppendsLists d.part d.global) t w both.first.appended h).0.0
              (first_all appends)

      chosen_same : list_any (uses (new a b) (symbol_after a s))
          (chosen_of (new a b) (symbol_after a t))
          ≡ list_any (uses (old a b) s) (chosen_of (old a b) t)
      chosen_same =
          ap (λ o. list_any (uses (new a b) (symbol_after a s))
          (option_map_or (chosen_by (definitions (new a b) (symbol_after a t))) o []))
          (both.regroups.homes t there)
          ∙ by_home (home (old a b) t) refl
        where
          by_home : (o : Option Entry) → home (old a b) t ≡ o
              → list_any (uses (new a b) (symbol_after a s))
              (option_map_or (chosen_by (definitions (new a b) (symbol_after a t)))
              (option_map (entry_after a t) o) [])
              ≡ list_any (uses (old a b) s)
              (option_map_or (chosen_by (definitions (old a b) t)) o [])
          by_home None h = refl
          by_home (Some e) h =
              ap (λ c. list_any (uses (new a b) (symbol_after a s))
              (if c then definitions (new a b) (symbol_after a t) else entry_after a t e ∷ []))
              (ap is_appending (same_linkage a b ready both rooms_kept t e))
              ∙ by_test (is_appending (linkage_of e.global)) refl
            where
              by_test : (c : Bool) → is_appending (linkage_of e.global) ≡ c
                  → list_any (uses (new a b) (symbol_after a s))
                  (if c then definitions (new a b)
                  (symbol_after a t) else entry_after a t e ∷ [])
                  ≡ list_any (uses (old a b) s)
                  (if c then definitions (old a b) t else e ∷ [])
              by_test true k = appended_same (first_appended a b ready both rooms_kept t e h k)
              by_test false k =
                  ap (λ c. c || false)
                  (alone_same t e.part e.global k
                  (home_is (old a b) UsedFirst t e used_first h).0.0
                  (home_is (old a b)
                  (λ d. AllByRecursion (KnownName (old a b) d.part)
                  (names_used d.global)) t e both.fit.names h).0.0)

    uses_same : list_any (uses (new a b) (symbol_after a s)) (chosen (new a b))
        ≡ list_any (uses (old a b) s) (chosen (old a b))
    uses_same =
        ap (λ ts. list_any (uses (new a b) (symbol_after a s))
        (flat_map (chosen_of (new a b)) ts)) both.regroups.all
        ∙ flat_symbols (uses (new a b) (symbol_after a s)) (uses (old a b) s) (chosen_of (new a b))
        (chosen_of (old a b)) (symbol_after a) (symbols (old a b))
        (all_follow (IsSymbol (old a b)) _ (symbols (old a b)) (λ t there. chosen_same t there)
        (all_symbols (old a b)))

    missing_same : is_missing (new a b) (symbol_after a s) ≡ is_missing (old a b) s
    missing_same = ap₂ (λ c d. c && d) (unresolved_same s here) uses_same

  same_name : (s : Symbol) → IsSymbol (old a b) s → is_missing (old a b) s ≡ true
      → symbol_name (symbol_after a s) ≡ symbol_name s
  same_name (Shared n) here missing = refl
  same_name (Local i n) here missing =
      absurd (both_ways (is_unresolved (meaning (old a b) (Local i n)))
      (local_resolved (old a b) both.fit both.merges i n here)
      (and_parts (is_unresolved (meaning (old a b) (Local i n))) _ missing).0)

  pub first_missing_same : first_missing (new a b) ≡ first_missing (old a b)
  first_missing_same =
      ap (λ ss. option_map symbol_name (find (is_missing (new a b)) ss)) both.regroups.all
      ∙ find_name (symbol_after a) (is_missing (new a b))
      (is_missing (old a b)) symbol_name symbol_name (symbols (old a b))
      (all_follow (IsSymbol (old a b)) _ (symbols (old a b)) missing_same (all_symbols (old a b)))
      (all_follow (IsSymbol (old a b)) _ (symbols (old a b)) same_name (all_symbols (old a b)))
