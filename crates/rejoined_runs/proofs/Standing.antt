-- The entry of a name in the first parts' module is in conflict where one of theirs is.
use Rattle.std.proofs.Common.{◌≡◌, ℕ, zero, suc, Bool, true, false, not, ◌&&◌, ◌⊎◌, inl, inr, List, [], ◌∷◌, map, Option, Some, None, refl, sym, ap, ◌∙◌, subst, filter, nat_lt, cond}
use Rattle.std.specs.Prelude.{slice_get, if◌then◌else◌}
use Rattle.std.specs.List.{list_any, AllByRecursion}
use Rattle.std.proofs.lemmas.Bool.{cond-true, both_ways, false_from_ne_true, and_parts, and_from, or_left, or_right, or_cases, or_from}
use Rattle.std.proofs.lemmas.Option.{same_Some}
use Rattle.ir_tables.specs.declared.linkage.Linkage.{Linkage}
use Rattle.ir_tables.specs.declared.linkage.Linkage.TheVariants.{External, Private, Internal, AvailableExternally, Linkonce, LinkonceOdr, Weak, WeakOdr, Common, Appending, ExternWeak}
use Rattle.type_table.specs.Shape.{Shape}
use Rattle.type_table.specs.Tree.{Tree, array, int, ptr, void, struct, named}
use Rattle.module_arena.specs.Module.{Bytes, Module}
use Rattle.linkage_rules.specs.declared.conflict.ConflictKind.{ConflictKind}
use Rattle.linkage_rules.specs.declared.conflict.ConflictKind.TheVariants.{AppendingAndPlain, ElementShape, Constness}
use Rattle.linkage_rules.specs.Conflicts.{conflict_kinds, is_strong, appends, elements_alike, clash, found_conflict, conflicts_of_kind, conflicts_of, conflicts, first_conflict}
use Rattle.linkage_rules.specs.Bind.{all_extern_weak}
use Rattle.linkage_rules.specs.Entries.{Entry, entries, same_symbol, symbol_of, mentions}
use Rattle.linkage_rules.specs.Globals.{Global, OfVariable, OfFunction, OfAlias, linkage_of, is_variable, is_constant, type_of, element_of}
use Rattle.linkage_rules.specs.Linkages.{is_local, is_external, is_appending, rank}
use Rattle.linkage_rules.specs.Lists.{has, pairs, first}
use Rattle.linkage_rules.specs.SameShape.{agree}
use Rattle.linkage_rules.specs.SymbolLaws.{symbol_self, symbol_exact}
use Rattle.linkage_rules.specs.Symbols.{symbols}
use Rattle.linkage_rules.specs.Winner.{definitions, is_definition, home, shape_in}
use Rattle.linkage_rules.specs.declared.symbol.Symbol.TheVariants.{Shared}
use Rattle.linkage_rules.proofs.Entries.{all_follow, all_passing}
use Rattle.linkage_rules.proofs.Shapes.{agree_exact, alike_exact}
use Rattle.link_rules.specs.Carried.{merged, IsSymbol, moved_under}
use Rattle.link_rules.specs.Known.{KnownTree}
use Rattle.link_rules.specs.Linked.{linked_definition, linked_first, declared_linkage}
use Rattle.link_rules.proofs.Agreed.{all_from_at, nothing_from, nothing_mapped, none_passes, first_none, agreed, pair_at, pairs_behind}
use Rattle.link_rules.proofs.Apart.{at_has}
use Rattle.link_rules.proofs.Merged.{definition_linkage, declares, linked_kind, entry_by}
use Rattle.link_rules.proofs.Moved.{moved_defines, first_undefined}
use Rattle.link_rules.proofs.Searches.{at_all, all_both, all_units}
use Rattle.link_rules.proofs.Symbols.{AreOfKind, best_has, symbol_shared, symbols_have, all_filter}
use Rattle.rejoined_runs.proofs.Best.{best_empty, best_stays, best_rank}
use Rattle.rejoined_runs.proofs.Homes.{Ready}
use Rattle.rejoined_runs.proofs.Lists.{same_truth}

-- two elements of a list, where each is related to each later one
related : (R : Entry → Entry → Type 0) → ((x : Entry) → R x x) → ((x y : Entry) → R x y → R y x)
    → (es : List Entry) → AllByRecursion (λ pair. R pair.0 pair.1) (pairs es)
    → (i j : ℕ) (d e : Entry) → slice_get es i ≡ Some d → slice_get es j ≡ Some e → R d e
related R self turn [] all i j d e h k = cc
related R self turn (x ∷ es) all zero zero d e h k =
    subst (λ z. R d z) (sym (same_Some x d h) ∙ same_Some x e k) (self d)
related R self turn (x ∷ es) all zero (suc j) d e h k =
    subst (λ z. R z e) (same_Some x d h) (pair_at (λ pair. R pair.0 pair.1) es es x j e all k)
related R self turn (x ∷ es) all (suc i) zero d e h k =
    subst (λ z. R d z) (same_Some x e k)
    (turn x d (pair_at (λ pair. R pair.0 pair.1) es es x i d all h))
related R self turn (x ∷ es) all (suc i) (suc j) d e h k =
    related R self turn es (pairs_behind (λ pair. R pair.0 pair.1) es es x all) i j d e h k

-- each is related to each
pub each_to_each : (R : Entry → Entry → Type 0) → ((x : Entry) → R x x)
    → ((x y : Entry) → R x y → R y x) → (es : List Entry)
    → AllByRecursion (λ pair. R pair.0 pair.1) (pairs es)
    → AllByRecursion (λ e. AllByRecursion (λ x. R x e) es) es
each_to_each R self turn es all =
    all_from_at _ es (λ j e k. all_from_at _ es (λ i d h. related R self turn es all i j d e h k))

any_at : {A : Type 0} (test : A → Bool) (xs : List A) (k : ℕ) (x : A) → slice_get xs k ≡ Some x
    → test x ≡ true → list_any test xs ≡ true
any_at test [] k x h t = cc
any_at test (y ∷ xs) zero x h t = or_left _ _ (ap test (same_Some y x h) ∙ t)
any_at test (y ∷ xs) (suc k) x h t = or_right _ _ (any_at test xs k x h t)

-- one that passes, and what holds of all
any_is : {A : Type 0} (test : A → Bool) (P : A → Type 0) (xs : List A) → AllByRecursion P xs
    → list_any test xs ≡ true → (x : A) × (test x ≡ true) × P x
any_is test P [] all h = cc
any_is test P (x ∷ xs) all h = go (or_cases (test x) _ h) (any_is test P xs all.1)
  where
    go : (test x ≡ true) ⊎ (list_any test xs ≡ true)
        → (list_any test xs ≡ true → (y : _) × (test y ≡ true) × P y)
        → (y : _) × (test y ≡ true) × P y
    go (inl k) more = (x, k, all.0)
    go (inr k) more = more k

any_none : {A : Type 0} (test : A → Bool) (xs : List A) → AllByRecursion (λ x. test x ≡ false) xs
    → list_any test xs ≡ false
any_none test [] all = refl
any_none test (x ∷ xs) all = or_from (test x) _ all.0 (any_none test xs all.1)

-- external or appending, by the rank
pub strongest : (l : Linkage) → is_local l ≡ false → nat_lt (rank l) 4 ≡ false
    → is_appending l ≡ false → is_external l ≡ true
strongest External h k n = refl
strongest Private h k n = cc
strongest Internal h k n = cc
strongest AvailableExternally h k n = cc
strongest Linkonce h k n = cc
strongest LinkonceOdr h k n = cc
strongest Weak h k n = cc
strongest WeakOdr h k n = cc
strongest Common h k n = cc
strongest Appending h k n = cc
strongest ExternWeak h k n = cc

pub external_rank : (l : Linkage) → is_external l ≡ true → (rank l ≡ 4) × (is_appending l ≡ false)
external_rank External h = (refl, refl)
external_rank l h = cc

module _ (a : List Module) (none : first_conflict a ≡ None) (m : Bytes)
    (there : IsSymbol a (Shared m)) where
  -- no two of the entries of the name are in conflict
  pub no_clash : (j : ℕ) (k : ConflictKind) → slice_get conflict_kinds j ≡ Some k
      → AllByRecursion (λ pair. clash a k pair.0 pair.1 ≡ false) (pairs (mentions a m))
  no_clash j k h =
      let found = at_has same_symbol symbol_self symbol_exact (symbols a) (Shared m) there in
      let of_name =
      nothing_from (conflicts_of a) (symbols a) found.0 (Shared m)
      (first_none (conflicts a) none) found.1 in
      let of_kind = nothing_from (conflicts_of_kind a m) conflict_kinds j k of_name h in
      none_passes (λ pair. clash a k pair.0 pair.1) (pairs (mentions a m))
      (nothing_mapped (found_conflict k m) _ of_kind)

  abbrev pub AppendAlike : Entry → Entry → Type 0
  AppendAlike d e = appends d ≡ appends e

  pub all_append : AllByRecursion (λ e. AllByRecursion (λ x. AppendAlike x e) (mentions a m))
      (mentions a m)
  all_append =
      each_to_each AppendAlike (λ x. refl) (λ x y h. sym h) (mentions a m)
      (all_follow _ _ (pairs (mentions a m)) (λ pair h. agreed _ _ h)
      (no_clash 2 AppendingAndPlain refl))

module _ (a : List Module) (ready : Ready a) (none : first_conflict a ≡ None) (m : Bytes)
    (there : IsSymbol a (Shared m)) where
  abbrev pub named_entries : List Entry
  named_entries = mentions a m

  abbrev shape_of_element : Entry → Option Shape
  shape_of_element e = shape_in a e.part (element_of (type_of e.global))

  -- where both are appended
  abbrev WhereAppended : (Entry → Entry → Type 0) → Entry → Entry → Type 0
  WhereAppended R d e = appends d ≡ true → appends e ≡ true → R d e

  by_appending : (R : Entry → Entry → Bool) (d e : Entry)
      → (appends d && appends e && not (R d e)) ≡ false → appends d ≡ true → appends e ≡ true
      → R d e ≡ true
  by_appending R d e h p q = go (appends d) (appends e) (R d e) p q h
    where
      go : (b c r : Bool) → b ≡ true → c ≡ true → (b && c && not r) ≡ false → r ≡ true
      go true true true p q h = refl
      go true true false p q h = cc
      go true false r p q h = cc
      go false c r p q h = cc

  abbrev ShapedAlike : Entry → Entry → Type 0
  ShapedAlike d e = shape_of_element d ≡ shape_of_element e

  all_shaped : AllByRecursion
      (λ e. AllByRecursion (λ x. WhereAppended ShapedAlike x e) named_entries) named_entries
  all_shaped =
      each_to_each (WhereAppended ShapedAlike) (λ x p q. refl)
      (λ x y h p q. sym (h q p)) named_entries
      (all_follow _ _ (pairs named_entries)
      (λ pair h p q. alike_exact _ _ (by_appending (elements_alike a) pair.0 pair.1 h p q))
      (no_clash a none m there 3 ElementShape refl))

  abbrev ConstantAlike : Entry → Entry → Type 0
  ConstantAlike d e = is_constant d.global ≡ is_constant e.global

  all_constant : AllByRecursion
      (λ e. AllByRecursion (λ x. WhereAppended ConstantAlike x e) named_entries) named_entries
  all_constant =
      each_to_each (WhereAppended ConstantAlike) (λ x p q. refl)
      (λ x y h p q. sym (h q p)) named_entries
      (all_follow _ _ (pairs named_entries)
      (λ pair h p q. agree_exact _ _
      (by_appending
      (λ d e. agree (is_constant d.global) (is_constant e.global)) pair.0 pair.1 h p q))
      (no_clash a none m there 4 Constness refl))

  -- the entries' own facts
  all_named : (P : Entry → Type 0) → AllByRecursion P (entries a) → AllByRecursion P named_entries
  all_named P all = all_filter P (λ e. same_symbol (Shared m) (symbol_of e)) (entries a) all

  has_entry : has same_symbol (map symbol_of (entries a)) (Shared m) ≡ true
  has_entry = let found =
      at_has same_symbol symbol_self symbol_exact (symbols a) (Shared m) there in at_all _
      (symbols a) found.0 (Shared m) (symbols_have a) found.1

  -- an entry of one module that can be in a conflict where these can
  pub record StandsForAll (l : Entry) : Type 0 where
    pub strong : is_strong l ≡ list_any is_strong named_entries
    pub variable : AllByRecursion (λ x. is_variable x.global ≡ is_variable l.global) named_entries
    pub append : AllByRecursion (λ x. appends x ≡ appends l) named_entries
    pub shaped : AllByRecursion (λ x. appends x ≡ true
        → shape_of_element x ≡ shape_in (merged a) 0 (element_of (type_of l.global))) named_entries
    pub constant : AllByRecursion (λ x. appends x ≡ true
        → is_constant x.global ≡ is_constant l.global) named_entries

  of_kind : AllByRecursion (λ x. AreOfKind a (is_variable x.global) (Shared m)) named_entries
  of_kind =
      all_follow _ _ named_entries
      (λ x h. subst (AreOfKind a (is_variable x.global))
      (sym (symbol_exact (Shared m) (symbol_of x) h.1)) h.0)
      (all_passing _ (λ e. same_symbol (Shared m) (symbol_of e)) (entries a) ready.together.kinds)

  module _ (name : Bytes) where
    same_kinds : (o : Option Entry) → home a (Shared m) ≡ o
        → AllByRecursion
        (λ x. is_variable x.global
        ≡ is_variable (entry_by a (Shared m) name o).global) named_entries
    same_kinds o h =
        all_follow _ _ named_entries
        (λ x kind. sym
        (linked_kind a ready.together (is_variable x.global)
        (Shared m) name o h kind has_entry)) of_kind

    constant_kept : (e : Entry) (es : List Entry) (g : Global)
        → is_constant (linked_definition a name e es g) ≡ is_constant g
    constant_kept e es (OfVariable v) = refl
    constant_kept e es (OfFunction f) = refl
    constant_kept e es (OfAlias x) = refl

    known_element : (i : ℕ) (t : Tree) → KnownTree a i t → KnownTree a i (element_of t)
    known_element i (array n t) k = k
    known_element i (int w) k = k
    known_element i ptr k = k
    known_element i void k = k
    known_element i (struct packed ts) k = k
    known_element i (named n) k = k

    element_kept : (i : ℕ) (es : List Entry) (g : Global) → KnownTree a i (type_of g)
        → is_appending (linkage_of g) ≡ true
        → shape_in (merged a) 0
        (element_of (type_of (linked_definition a name (record { part = i; global = g }) es g)))
        ≡ shape_in a i (element_of (type_of g))
    element_kept i es (OfVariable v) known h =
        ap (λ t. shape_in (merged a) 0 (element_of t)) (cond-true (is_appending v.linkage) _ _ h)
        ∙ ready.merges.shapes i (element_of v.ty) (known_element i v.ty known)
    element_kept i es (OfFunction f) known h = ready.merges.shapes i void tt
    element_kept i es (OfAlias x) known h = ready.merges.shapes i void tt

    -- WHERE NO PART DEFINES IT

    module _ (appended : AllByRecursion (λ e. appends e ≡ true
        → is_definition e ≡ true) (entries a)) where
      nowhere : home a (Shared m) ≡ None → StandsForAll (entry_by a (Shared m) name None)
      nowhere h = record {
        strong = ap (λ b. b && is_external (linkage_of l))
            (first_undefined a (Shared m) name (first named_entries))
            ∙ sym (any_none is_strong named_entries
            (all_follow _ _ named_entries
            (λ x n. ap (λ b. b && is_external (linkage_of x.global)) n) undefined));
        variable = same_kinds None h;
        append = all_follow _ _ named_entries (λ x n. n
            ∙ sym (plain (first named_entries))) no_append;
        shaped = all_follow _ _ named_entries
            (λ x n t. absurd (both_ways (appends x) n t)) no_append;
        constant =
            all_follow _ _ named_entries (λ x n t. absurd (both_ways (appends x) n t)) no_append;
      }
        where
          l : Global
          l = linked_first a (Shared m) name (first named_entries)

          undefined : AllByRecursion (λ x. is_definition x ≡ false) named_entries
          undefined =
              none_passes is_definition named_entries (best_empty a (definitions a (Shared m)) h)

          no_append : AllByRecursion (λ x. appends x ≡ false) named_entries
          no_append =
              all_follow _ _ named_entries
              (λ x n. false_from_ne_true (appends x)
              (λ t. both_ways (is_definition x) n.0 (n.1 t)))
              (all_both _ _ named_entries undefined (all_named _ appended))

          declared_plain : (b : Bool) → is_appending (if b then ExternWeak else External) ≡ false
          declared_plain true = refl
          declared_plain false = refl

          plain : (o : Option Entry)
              → is_appending (linkage_of (linked_first a (Shared m) name o)) ≡ false
          plain None = refl
          plain (Some e) =
              ap is_appending
              (declares (declared_linkage a (Shared m)) a name e.part e.global).linkage
              ∙ declared_plain (all_extern_weak a (Shared m))

      -- WHERE ONE DOES

      module _ (e : Entry) (h : home a (Shared m) ≡ Some e) where
        of_home : (P : Entry → Type 0) → AllByRecursion P named_entries → P e
        of_home P all =
            best_has a P (definitions a (Shared m)) e
            (all_filter P is_definition named_entries all) h

        defines : is_definition e ≡ true
        defines =
            best_has a (λ x. is_definition x ≡ true) (definitions a (Shared m)) e
            (all_follow _ _ (definitions a (Shared m)) (λ x k. k.1)
            (all_passing (λ x. Unit {0}) is_definition named_entries
            (all_units named_entries))) h

        same_linkage : linkage_of (moved_under a (Shared m) name e).global ≡ linkage_of e.global
        same_linkage = definition_linkage a name e (definitions a (Shared m)) e.global

        not_local : is_local (linkage_of e.global) ≡ false
        not_local =
            of_home _
            (all_follow _ _ named_entries (λ x k. symbol_shared m x k.1)
            (all_passing (λ x. Unit {0}) (λ x. same_symbol (Shared m) (symbol_of x))
            (entries a) (all_units (entries a))))

        -- a definition does not outrank the home
        in_rank : AllByRecursion (λ x. is_definition x ≡ true
            → nat_lt (rank (linkage_of e.global)) (rank (linkage_of x.global))
            ≡ false) named_entries
        in_rank =
            from_filter named_entries
            (all_follow _ _ (definitions a (Shared m)) (λ x k. best_rank a e x k)
            (best_stays a (definitions a (Shared m)) e h))
          where
            from_filter : (es : List Entry)
                → AllByRecursion
                (λ x. nat_lt (rank (linkage_of e.global)) (rank (linkage_of x.global)) ≡ false)
                (filter is_definition es)
                → AllByRecursion (λ x. is_definition x ≡ true
                → nat_lt (rank (linkage_of e.global)) (rank (linkage_of x.global)) ≡ false) es
            from_filter [] all = tt
            from_filter (x ∷ es) all = go (is_definition x) refl all (from_filter es)
              where
                go : (b : Bool) → is_definition x ≡ b
                    → AllByRecursion
                    (λ y. nat_lt (rank (linkage_of e.global)) (rank (linkage_of y.global))
                    ≡ false) (cond b (x ∷ filter is_definition es)
                    (filter is_definition es))
                    → (AllByRecursion
                    (λ y. nat_lt (rank (linkage_of e.global)) (rank (linkage_of y.global))
                    ≡ false) (filter is_definition es)
                    → AllByRecursion (λ y. is_definition y ≡ true
                    → nat_lt (rank (linkage_of e.global))
                    (rank (linkage_of y.global)) ≡ false) es)
                    → AllByRecursion (λ y. is_definition y ≡ true
                    → nat_lt (rank (linkage_of e.global)) (rank (linkage_of y.global)) ≡ false)
                    (x ∷ es)
                go true t all more = ((λ u. all.0), more all.1)
                go false t all more = ((λ u. absurd (both_ways (is_definition x) t u)), more all)

        strong_home : list_any is_strong named_entries ≡ true
            → is_external (linkage_of e.global) ≡ true
        strong_home t =
            let found =
            any_is is_strong _ named_entries
            (all_both _ _ named_entries in_rank
            (of_home _ (all_append a none m there))) t in
            let halves =
            and_parts (is_definition found.0)
            (is_external (linkage_of found.0.global)) found.1 in
            let external = external_rank (linkage_of found.0.global) halves.1 in
            strongest (linkage_of e.global) not_local
            (subst (λ k. nat_lt (rank (linkage_of e.global)) k ≡ false) external.0
            (found.2.0 halves.0))
            (sym found.2.1 ∙ external.1)

        home_strong : is_external (linkage_of e.global) ≡ true
            → list_any is_strong named_entries ≡ true
        home_strong t =
            of_home (λ x. is_strong x ≡ true
            → list_any is_strong named_entries ≡ true)
            (all_from_at _ named_entries
            (λ k x at s. any_at is_strong named_entries k x at s))
            (and_from _ _ defines t)

        somewhere : StandsForAll (entry_by a (Shared m) name (Some e))
        somewhere = record {
          strong =
              (λ i. moved_defines a (Shared m) name e defines i && is_external (same_linkage i))
              ∙ same_truth (is_external (linkage_of e.global))
              (list_any is_strong named_entries) home_strong strong_home;
          variable = same_kinds (Some e) h;
          append = all_follow _ _ named_entries (λ x k. k
              ∙ sym (ap is_appending same_linkage)) (of_home _ (all_append a none m there));
          shaped = all_follow _ _ named_entries (λ x k t. k.1 t (sym k.0 ∙ t)
              ∙ sym (element_kept e.part (definitions a (Shared m)) e.global known (sym k.0 ∙ t)))
              (all_both _ _ named_entries (of_home _ (all_append a none m there))
              (of_home _ all_shaped));
          constant =
              all_follow _ _ named_entries (λ x k t. k.1 t (sym k.0 ∙ t)
              ∙ sym (constant_kept e (definitions a (Shared m)) e.global))
              (all_both _ _ named_entries (of_home _ (all_append a none m there))
              (of_home _ all_constant));
        }
          where
            known : KnownTree a e.part (type_of e.global)
            known = of_home (λ x. KnownTree a x.part (type_of x.global)) (all_named _ ready.types)

      pub stands_for_all : StandsForAll (entry_by a (Shared m) name (home a (Shared m)))
      stands_for_all = go (home a (Shared m)) refl
        where
          go : (o : Option Entry) → home a (Shared m) ≡ o
              → StandsForAll (entry_by a (Shared m) name o)
          go None h = nowhere h
          go (Some e) h = somewhere e h
