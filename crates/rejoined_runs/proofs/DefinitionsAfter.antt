-- The definitions of a symbol, and what they are together, where the first parts are one.
use Rattle.std.proofs.Common.{◌≡◌, ℕ, suc, ◌+◌, ◌-◌, ◌<◌, ◌≤◌, Bool, true, false, ◌&&◌, ◌⊎◌, inl, inr, List, [], ◌∷◌, ◌++◌, map, length, sum, Option, Some, None, refl, sym, ap, ap₂, ◌∙◌, subst, filter, option_map, option_to_list, unwrap_or, filter_map, nat_lt, nat_le, arith}
use Rattle.std.specs.Prelude.{if◌then◌else◌}
use Rattle.std.specs.Option.{option_map_or}
use Rattle.std.specs.List.{AllByRecursion, cons_option}
use Rattle.std.proofs.lemmas.Bool.{cond-true, cond-false, both_ways, false_from_ne_true}
use Rattle.std.proofs.lemmas.List.Elements.{filter-append, filter_map-append}
use Rattle.std.proofs.lemmas.List.{map-append}
use Rattle.std.proofs.lemmas.Option.{same_Some}
use Rattle.type_table.specs.Layout.{align}
use Rattle.type_table.specs.Shape.{shape}
use Rattle.type_table.specs.Tree.{Tree, array, void}
use Rattle.module_arena.specs.Module.{Module}
use Rattle.module_arena.proofs.ModuleSet.{map_map}
use Rattle.linkage_rules.specs.Addresses.{Room, joined_length, alignment_in, greatest_stated, commons, greatest_common, size_by, alignment_by, room}
use Rattle.linkage_rules.specs.Entries.{Entry, entries, same_symbol, symbol_of}
use Rattle.linkage_rules.specs.Globals.{Global, OfVariable, OfFunction, OfAlias, linkage_of, type_of, element_of, length_of, stated}
use Rattle.linkage_rules.specs.Linkages.{is_common, is_appending, rank}
use Rattle.linkage_rules.specs.Lists.{greatest}
use Rattle.linkage_rules.specs.Winner.{definitions, is_definition, gives_way, best, home, shape_in}
use Rattle.linkage_rules.specs.declared.symbol.Symbol.{Symbol}
use Rattle.linkage_rules.specs.SymbolLaws.{symbol_self, symbol_exact}
use Rattle.linkage_rules.proofs.Entries.{all_follow}
use Rattle.link_rules.specs.Carried.{merged, IsSymbol, carry, moved}
use Rattle.link_rules.specs.Known.{KnownTree}
use Rattle.link_rules.specs.Rename.{new_name_of}
use Rattle.link_rules.specs.Structs.{linked_type}
use Rattle.link_rules.proofs.Apart.{filter_none}
use Rattle.link_rules.proofs.Merged.{definition_linkage}
use Rattle.link_rules.proofs.Searches.{all_both, map_all}
use Rattle.link_rules.proofs.Symbols.{home_is, best_has, all_filter}
use Rattle.linked_runs.proofs.Known.{AppendsLists}
use Rattle.linked_runs.proofs.Rooms.{none_pass}
use Rattle.rejoined_runs.specs.Regrouped.{symbol_after}
use Rattle.rejoined_runs.specs.Regroups.{Regroups}
use Rattle.rejoined_runs.proofs.Best.{better_of, best_empty, best_stays, best_rank, strongest_first}
use Rattle.rejoined_runs.proofs.Homes.{Ready, old, new, later, later_definitions, later_home, home_old, definitions_old, definitions_new, first_definitions, before_all, later_all, IsLater, either, nothing_before}
use Rattle.rejoined_runs.proofs.Lists.{filter_mapped, filter_empty, all_true_of}
use Rattle.rejoined_runs.proofs.PlacesAfter.{Both}
use Rattle.rejoined_runs.proofs.Shifted.{shift, structs_before}
use Rattle.rejoined_runs.proofs.Greatest.{greater, greatest_joined, greatest_one, length_joined, plain_common, above_common, common_rank}

nothing_is : (w : Entry) → None ≡ Some w → ⊥
nothing_is w h = cc

module _ (a b : List Module) (ready : Ready a) (both : Both a b) where
  abbrev r : Regroups a b
  r = both.regroups

  -- TYPES

  pub first_shape : (s : Symbol) (i : ℕ) → i < length a → (g : Global) → KnownTree a i (type_of g)
      → is_appending (linkage_of g) ≡ false
      → shape_in (new a b) 0 (type_of (moved a s (record { part = i; global = g })).global)
      ≡ shape_in (old a b) i (type_of g)
  first_shape s i h (OfVariable v) known plain =
      ap (shape_in (new a b) 0)
      (cond-false (is_appending v.linkage)
      (array (joined_length (definitions a s)) (linked_type a i (element_of v.ty)))
      (linked_type a i v.ty) plain) ∙ r.first_shapes i v.ty h known
  first_shape s i h (OfFunction f) known plain = r.first_shapes i void h tt
  first_shape s i h (OfAlias x) known plain = r.first_shapes i void h tt

  pub joined_is : (s : Symbol) (i : ℕ) (g : Global) → AppendsLists i g
      → is_appending (linkage_of g) ≡ true
      → type_of (moved a s (record { part = i; global = g })).global
      ≡ array (joined_length (definitions a s)) (linked_type a i (element_of (type_of g)))
  joined_is s i (OfVariable v) lists appends =
      cond-true (is_appending v.linkage)
      (array (joined_length (definitions a s)) (linked_type a i (element_of v.ty)))
      (linked_type a i v.ty) appends
  joined_is s i (OfFunction f) lists appends =
      absurd (both_ways (is_appending f.linkage) lists appends)
  joined_is s i (OfAlias x) lists appends =
      absurd (both_ways (is_appending x.linkage) lists appends)

  pub was_array : (i : ℕ) (g : Global) → AppendsLists i g → is_appending (linkage_of g) ≡ true
      → array (length_of (type_of g)) (element_of (type_of g)) ≡ type_of g
  was_array i (OfVariable v) lists appends = (lists appends).0
  was_array i (OfFunction f) lists appends =
      absurd (both_ways (is_appending f.linkage) lists appends)
  was_array i (OfAlias x) lists appends = absurd (both_ways (is_appending x.linkage) lists appends)

  stated_joined : (s : Symbol) (i : ℕ) (g : Global) → AppendsLists i g
      → is_appending (linkage_of g) ≡ true
      → stated (moved a s (record { part = i; global = g })).global
      ≡ greatest_stated (definitions a s)
  stated_joined s i (OfVariable v) lists appends = cond-true (is_appending v.linkage) _ _ appends
  stated_joined s i (OfFunction f) lists appends =
      absurd (both_ways (is_appending f.linkage) lists appends)
  stated_joined s i (OfAlias x) lists appends =
      absurd (both_ways (is_appending x.linkage) lists appends)

  pub stated_plain : (s : Symbol) (i : ℕ) (g : Global) → is_appending (linkage_of g) ≡ false
      → is_common (linkage_of g) ≡ false
      → stated (moved a s (record { part = i; global = g })).global ≡ stated g
  stated_plain s i (OfVariable v) plain other =
      cond-false (is_appending v.linkage) _ _ plain
      ∙ cond-false (is_common v.linkage && nat_le 2 (length (commons (definitions a s)))) _ _
      (ap (λ c. c && nat_le 2 (length (commons (definitions a s)))) other)
  stated_plain s i (OfFunction f) plain other = refl
  stated_plain s i (OfAlias x) plain other = refl

  pub later_shape : (i : ℕ) (t : Tree) → length a ≤ i
      → shape_in (new a b) (suc (i - length a)) t ≡ shape_in (old a b) i t
  later_shape = r.later_shapes

  -- LISTS OF DEFINITIONS

  module _ (s : Symbol) (here : IsSymbol (old a b) s) where
    abbrev one : List Entry
    one = option_to_list (option_map (moved a s) (home a s))

    abbrev behind : List Entry
    behind = later_definitions a b s

    abbrev shifted : List Entry
    shifted = map (shift (length a)) behind

    definitions_are : definitions (new a b) (symbol_after a s) ≡ one ++ shifted
    definitions_are = definitions_new a b s
        ∙ ap (λ l. l ++ shifted) (first_definitions a b ready s here)

    high : AllByRecursion (λ e. length a ≤ e.part) behind
    high = all_filter _ is_definition _
        (all_filter _ (λ e. same_symbol s (symbol_of e)) (later a b) (later_all a b))

    -- an entry of the first parts that is the home there
    pub record FirstHome (w : Entry) : Type 0 where
      pub low : w.part < length a
      pub types : KnownTree a w.part (type_of w.global)
      pub lists : AppendsLists w.part w.global

    pub first_home : (w : Entry) → home a s ≡ Some w → FirstHome w
    first_home w h =
        let is = (home_is a _ s w
        (all_both _ _ (entries a) (before_all a b)
        (all_both _ _ (entries a) ready.types both.first.appended)) h).0.0 in
        record { low = is.0; types = is.1.0; lists = is.1.1 }

    -- the home, where it is of a first part
    pub from_first : (e : Entry) → home (old a b) s ≡ Some e → e.part < length a → home a s ≡ Some e
    from_first e h low = go (home a s) refl (sym (home_old a b ready s) ∙ h)
      where
        high_home : (y : Entry) → later_home a b ready s ≡ Some y → length a ≤ y.part
        high_home y k = best_has (old a b) (λ d. length a ≤ d.part) behind y high k

        too_low : (y : Entry) → length a ≤ y.part → y ≡ e → ⊥
        too_low y k q = let lower : y.part < length a =
            subst (λ d. d.part < length a) (sym q) low in omega arith

        by_test : (c : Bool) (w y : Entry) → later_home a b ready s ≡ Some y → home a s ≡ Some w
            → (if c then Some y else Some w) ≡ Some e → home a s ≡ Some e
        by_test true w y k p q = absurd (too_low y (high_home y k) (same_Some y e q))
        by_test false w y k p q = p ∙ q

        by_later : (w : Entry) (o : Option Entry) → later_home a b ready s ≡ o → home a s ≡ Some w
            → better_of (old a b) (Some w) o ≡ Some e → home a s ≡ Some e
        by_later w None k p q = p ∙ q
        by_later w (Some y) k p q = by_test (gives_way (old a b) w y) w y k p q

        go : (o : Option Entry) → home a s ≡ o
            → better_of (old a b) o (later_home a b ready s) ≡ Some e → home a s ≡ Some e
        go None p q = absurd (too_low e (high_home e q) refl)
        go (Some w) p q = by_later w (later_home a b ready s) refl p q

    -- a symbol that they define is one of theirs
    pub has_home : (w : Entry) → home a s ≡ Some w → IsSymbol a s
    has_home w h = go (either a b s here)
      where
        go : IsSymbol a s ⊎ IsLater a b s → IsSymbol a s
        go (inl k) = k
        go (inr k) =
            let no = filter_none same_symbol symbol_self symbol_exact symbol_of (λ d. true) s
            (entries a) (nothing_before a b s k) in
            absurd (nothing_is w (sym (ap (λ es. best a (filter is_definition es)) no) ∙ h))

    -- APPENDED

    module _ (appends : AllByRecursion (λ d. is_appending (linkage_of d.global) ≡ true)
        (definitions a s)) where
      home_appends : (w : Entry) → home a s ≡ Some w → is_appending (linkage_of w.global) ≡ true
      home_appends w h =
          best_has a (λ d. is_appending (linkage_of d.global) ≡ true) (definitions a s) w appends h

      pub length_same : joined_length (definitions (new a b) (symbol_after a s))
          ≡ joined_length (definitions (old a b) s)
      length_same =
          ap joined_length definitions_are ∙ length_joined one shifted
          ∙ ap₂ (λ n k. n + k) (front (home a s) refl) (back behind)
          ∙ sym (ap joined_length (definitions_old a b s) ∙ length_joined (definitions a s) behind)
        where
          back : (es : List Entry) → joined_length (map (shift (length a)) es) ≡ joined_length es
          back es =
              ap sum (map_map (λ (e : Entry). length_of (type_of e.global)) (shift (length a)) es)

          front : (o : Option Entry) → home a s ≡ o
              → joined_length (option_to_list (option_map (moved a s) o))
              ≡ joined_length (definitions a s)
          front None h = sym (ap joined_length (best_empty a (definitions a s) h))
          front (Some w) h =
              ap (λ t. 0 + length_of t)
              (joined_is s w.part w.global (first_home w h).lists (home_appends w h))
              ∙ omega arith

      pub stated_same : greatest_stated (definitions (new a b) (symbol_after a s))
          ≡ greatest_stated (definitions (old a b) s)
      stated_same =
          ap greatest_stated definitions_are
          ∙ ap greatest (filter_map-append (λ (e : Entry). stated e.global) one shifted)
          ∙ greatest_joined (filter_map (λ (e : Entry). stated e.global) one)
          (filter_map (λ (e : Entry). stated e.global) shifted)
          ∙ ap₂ greater (front (home a s) refl) (ap greatest (back behind))
          ∙ sym (ap greatest_stated (definitions_old a b s)
          ∙ ap greatest
          (filter_map-append (λ (e : Entry). stated e.global) (definitions a s) behind)
          ∙ greatest_joined (filter_map (λ (e : Entry). stated e.global) (definitions a s))
          (filter_map (λ (e : Entry). stated e.global) behind))
        where
          back : (es : List Entry)
              → filter_map (λ (e : Entry). stated e.global) (map (shift (length a)) es)
              ≡ filter_map (λ (e : Entry). stated e.global) es
          back [] = refl
          back (e ∷ es) = ap (cons_option (stated e.global)) (back es)

          front : (o : Option Entry) → home a s ≡ o
              → greatest
              (filter_map (λ (e : Entry). stated e.global)
              (option_to_list (option_map (moved a s) o)))
              ≡ greatest_stated (definitions a s)
          front None h = sym (ap greatest_stated (best_empty a (definitions a s) h))
          front (Some w) h =
              greatest_one (stated (moved a s w).global)
              ∙ stated_joined s w.part w.global (first_home w h).lists (home_appends w h)

    -- COMMON

    module _ (e : Entry) (is_home : home (old a b) s ≡ Some e)
        (common : is_common (linkage_of e.global) ≡ true)
        (first_room : (w : Entry) → home a s ≡ Some w
        → room (merged a) (carry a s) ≡ room a s) where
      abbrev common_in : List Entry → List Entry
      common_in es = filter (λ d. is_common (linkage_of d.global)) es

      -- a home of the first parts that is not common has no common beside it
      no_common : (w : Entry) → home a s ≡ Some w → is_common (linkage_of w.global) ≡ false
          → common_in (definitions a s) ≡ []
      no_common w h other =
          filter_empty (λ d. is_common (linkage_of d.global)) (definitions a s)
          (all_follow _ _ (definitions a s) (λ d k. none d (best_rank a w d k))
          (best_stays a (definitions a s) w h))
        where
          stays : rank (linkage_of w.global) ≡ 4 → w ≡ e
          stays q =
              same_Some w e (sym (strongest_first (old a b) w (later_home a b ready s) q)
              ∙ sym (home_old a b ready s
              ∙ ap (λ o. better_of (old a b) o (later_home a b ready s)) h) ∙ is_home)

          none : (d : Entry)
              → nat_lt (rank (linkage_of w.global)) (rank (linkage_of d.global)) ≡ false
              → is_common (linkage_of d.global) ≡ false
          none d k =
              false_from_ne_true _ (λ c.
              let top =
              above_common (linkage_of w.global)
              (subst (λ n. nat_lt (rank (linkage_of w.global)) n ≡ false)
              (common_rank (linkage_of d.global) c) k) other in
              both_ways (is_common (linkage_of w.global)) other
              (ap (λ (x : Entry). is_common (linkage_of x.global)) (stays top) ∙ common))

      moved_linkage : (w : Entry) → linkage_of (moved a s w).global ≡ linkage_of w.global
      moved_linkage w = definition_linkage a (new_name_of a s) w (definitions a s) w.global

      -- a list with a common in it has a greatest alignment
      some_greatest : (ms : List Module) (es : List Entry) (o : Option ℕ)
          → greatest (map (alignment_in ms) (common_in es)) ≡ o → o ≡ None → common_in es ≡ []
      some_greatest ms es o h n = go (common_in es) (h ∙ n)
        where
          go : (ds : List Entry) → greatest (map (alignment_in ms) ds) ≡ None → ds ≡ []
          go [] k = refl
          go (d ∷ ds) k = cc

      alignment_here : (w : Entry) → home a s ≡ Some w → is_common (linkage_of w.global) ≡ true
          → Some (alignment_in (merged a) (moved a s w)) ≡ greatest_common a (definitions a s)
      alignment_here w h c = ap Some (sym one_alignment)
          ∙ (sym left ∙ ap (option_map (λ (k : Room). k.alignment)) (first_room w h) ∙ right)
          ∙ ap Some whole_alignment
          ∙ is_some_greatest (greatest_common a (definitions a s)) refl
        where
          here_first : IsSymbol a s
          here_first = has_home w h

          left : option_map (λ (k : Room). k.alignment) (room (merged a) (carry a s))
              ≡ Some (alignment_by (merged a) (moved a s w) (moved a s w ∷ []))
          left =
              (λ i. option_map (λ (k : Room). k.alignment)
              (option_map
              (λ e. record {
                size =
                    size_by (merged a) e
                    (both.first_merges.defined_once s here_first i);
                alignment =
                    alignment_by (merged a) e
                    (both.first_merges.defined_once s here_first i);
              })
              (both.first_merges.homes s here_first i)))
              ∙ (λ i. option_map (λ (k : Room). k.alignment)
              (option_map
              (λ e. record {
                size =
                    size_by (merged a) e
                    (option_to_list (option_map (moved a s) (h i)));
                alignment =
                    alignment_by (merged a) e
                    (option_to_list (option_map (moved a s) (h i)));
              })
              (option_map (moved a s) (h i))))

          right : option_map (λ (k : Room). k.alignment) (room a s)
              ≡ Some (alignment_by a w (definitions a s))
          right = λ i. option_map (λ (k : Room). k.alignment)
              (option_map
              (λ e. record {
                size = size_by a e (definitions a s);
                alignment =
                    alignment_by a e (definitions a s);
              }) (h i))

          plain : is_appending (linkage_of w.global) ≡ false
          plain = plain_common (linkage_of w.global) c

          one_alignment : alignment_by (merged a) (moved a s w) (moved a s w ∷ [])
              ≡ alignment_in (merged a) (moved a s w)
          one_alignment =
              cond-false (is_appending (linkage_of (moved a s w).global)) _ _
              (ap is_appending (moved_linkage w) ∙ plain)
              ∙ cond-true (is_common (linkage_of (moved a s w).global)) _ _
              (ap is_common (moved_linkage w) ∙ c)
              ∙ ap (λ l. unwrap_or (greatest (map (alignment_in (merged a)) l))
              (alignment_in (merged a) (moved a s w)))
              (cond-true (is_common (linkage_of (moved a s w).global)) (moved a s w ∷ []) []
              (ap is_common (moved_linkage w) ∙ c))

          whole_alignment : alignment_by a w (definitions a s)
              ≡ unwrap_or (greatest_common a (definitions a s)) (alignment_in a w)
          whole_alignment = cond-false (is_appending (linkage_of w.global)) _ _ plain
              ∙ cond-true (is_common (linkage_of w.global)) _ _ c

          is_some_greatest : (o : Option ℕ) → greatest_common a (definitions a s) ≡ o
              → Some (unwrap_or o (alignment_in a w)) ≡ o
          is_some_greatest (Some n) k = refl
          is_some_greatest None k =
              absurd (best_has a (λ d. is_common (linkage_of d.global) ≡ true
              → ⊥) (definitions a s) w
              (none_pass (λ d. is_common (linkage_of d.global)) (definitions a s)
              (some_greatest a (definitions a s) None k refl)) h c)

      greatest_same : greatest_common (new a b) (definitions (new a b) (symbol_after a s))
          ≡ greatest_common (old a b) (definitions (old a b) s)
      greatest_same =
          ap (greatest_common (new a b)) definitions_are
          ∙ ap (λ l. greatest (map (alignment_in (new a b)) l))
          (filter-append (λ d. is_common (linkage_of d.global)) one shifted)
          ∙ ap greatest (map-append (alignment_in (new a b)) (common_in one) (common_in shifted))
          ∙ greatest_joined (map (alignment_in (new a b)) (common_in one))
          (map (alignment_in (new a b)) (common_in shifted))
          ∙ ap₂ greater (front (home a s) refl ∙ low_alignments) back
          ∙ sym (ap (greatest_common (old a b)) (definitions_old a b s)
          ∙ ap (λ l. greatest (map (alignment_in (old a b)) l))
          (filter-append (λ d. is_common (linkage_of d.global)) (definitions a s) behind)
          ∙ ap greatest
          (map-append (alignment_in (old a b)) (common_in (definitions a s)) (common_in behind))
          ∙ greatest_joined (map (alignment_in (old a b)) (common_in (definitions a s)))
          (map (alignment_in (old a b)) (common_in behind)))
        where
          back : greatest (map (alignment_in (new a b)) (common_in shifted))
              ≡ greatest (map (alignment_in (old a b)) (common_in behind))
          back =
              ap (λ l. greatest (map (alignment_in (new a b)) l))
              (filter_mapped (shift (length a)) (λ d. is_common (linkage_of d.global))
              (λ d. is_common (linkage_of d.global)) behind
              (all_true_of _ (λ d. refl) behind))
              ∙ ap greatest (map_map (alignment_in (new a b)) (shift (length a)) (common_in behind)
              ∙ map_all (λ d. alignment_in (new a b) (shift (length a) d)) (alignment_in (old a b))
              (λ d. length a ≤ d.part) (common_in behind)
              (λ d k. ap (λ o. unwrap_or (stated d.global) (option_map_or align o 1))
              (later_shape d.part (type_of d.global) k))
              (all_filter _ (λ d. is_common (linkage_of d.global)) behind high))

          low_alignments : greatest_common a (definitions a s)
              ≡ greatest (map (alignment_in (old a b)) (common_in (definitions a s)))
          low_alignments =
              ap greatest
              (map_all (alignment_in a) (alignment_in (old a b)) (λ d. d.part < length a)
              (common_in (definitions a s))
              (λ d k. ap
              (λ structs. unwrap_or (stated d.global)
              (option_map_or align (shape structs (type_of d.global)) 1))
              (sym (structs_before a b d.part k)))
              (all_filter _ (λ d. is_common (linkage_of d.global)) (definitions a s)
              (all_filter _ is_definition _
              (all_filter _ (λ d. same_symbol s (symbol_of d)) (entries a)
              (before_all a b)))))

          of_common : (w : Entry) → home a s ≡ Some w → (c : Bool)
              → is_common (linkage_of w.global) ≡ c
              → greatest (map (alignment_in (new a b)) (if c then moved a s w ∷ [] else []))
              ≡ greatest_common a (definitions a s)
          of_common w h true c = alignment_here w h c
          of_common w h false c =
              sym (ap (λ l. greatest (map (alignment_in a) l)) (no_common w h c))

          front : (o : Option Entry) → home a s ≡ o
              → greatest
              (map (alignment_in (new a b))
              (common_in (option_to_list (option_map (moved a s) o))))
              ≡ greatest_common a (definitions a s)
          front None h = sym (ap (greatest_common a) (best_empty a (definitions a s) h))
          front (Some w) h =
              ap (λ c. greatest (map (alignment_in (new a b)) (if c then moved a s w ∷ [] else [])))
              (ap is_common (moved_linkage w))
              ∙ of_common w h (is_common (linkage_of w.global)) refl

      pub common_alignment : (d : Entry)
          → unwrap_or (greatest_common (new a b) (definitions (new a b) (symbol_after a s)))
          (alignment_in (new a b) d)
          ≡ unwrap_or (greatest_common (old a b) (definitions (old a b) s))
          (alignment_in (old a b) e)
      common_alignment d = ap (λ o. unwrap_or o (alignment_in (new a b) d)) greatest_same
          ∙ go (greatest_common (old a b) (definitions (old a b) s)) refl
        where
          go : (o : Option ℕ) → greatest_common (old a b) (definitions (old a b) s) ≡ o
              → unwrap_or o (alignment_in (new a b) d) ≡ unwrap_or o (alignment_in (old a b) e)
          go (Some n) k = refl
          go None k =
              absurd (best_has (old a b) (λ x. is_common (linkage_of x.global) ≡ true
              → ⊥) (definitions (old a b) s) e
              (none_pass (λ x. is_common (linkage_of x.global)) (definitions (old a b) s)
              (some_greatest (old a b) (definitions (old a b) s) None k refl)) is_home common)
