-- The first conflict is the same where the first parts, which have none, are one.
use Rattle.std.proofs.Common.{◌≡◌, ℕ, suc, ◌-◌, ◌<◌, ◌≤◌, Bool, true, false, not, ◌&&◌, ◌||◌, List, [], ◌∷◌, ◌++◌, map, length, Option, Some, None, refl, sym, ap, ap₂, ◌∙◌, subst, filter, option_map, nat_lt, cond}
use Rattle.std.specs.Prelude.{slice_get, flat_map, if◌then◌else◌}
use Rattle.std.specs.Option.{option_or}
use Rattle.std.specs.List.{list_any, AllByRecursion}
use Rattle.std.proofs.lemmas.Bool.{cond-true, cond-false}
use Rattle.type_table.specs.Shape.{shape}
use Rattle.type_table.specs.Tree.{Tree}
use Rattle.module_arena.specs.Module.{Bytes, Module}
use Rattle.linkage_rules.specs.declared.conflict.ConflictKind.{ConflictKind}
use Rattle.linkage_rules.specs.declared.conflict.ConflictKind.TheVariants.{TwoStrong, FunctionAndVariable, AppendingAndPlain, ElementShape, Constness}
use Rattle.linkage_rules.specs.Conflicts.{FoundConflict, conflict_kinds, is_strong, appends, clash, found_conflict, conflicts_of_kind, conflicts_of, first_conflict}
use Rattle.linkage_rules.specs.Entries.{Entry, entries, same_symbol, symbol_of, mentions, entries_of}
use Rattle.linkage_rules.specs.Globals.{is_variable, is_constant, type_of, element_of}
use Rattle.linkage_rules.specs.Lists.{has, pairs, first}
use Rattle.linkage_rules.specs.SameShape.{agree, alike}
use Rattle.linkage_rules.specs.SymbolLaws.{symbol_self, symbol_exact}
use Rattle.linkage_rules.specs.Symbols.{symbols}
use Rattle.linkage_rules.specs.Winner.{is_definition, shape_in}
use Rattle.linkage_rules.specs.declared.symbol.Symbol.{Symbol}
use Rattle.linkage_rules.specs.declared.symbol.Symbol.TheVariants.{Shared, Local}
use Rattle.linkage_rules.proofs.Entries.{all_follow}
use Rattle.linkage_rules.proofs.Gathered.{all_joined, all_mapped}
use Rattle.link_rules.specs.Carried.{merged, IsSymbol}
use Rattle.link_rules.specs.Linked.{link_result}
use Rattle.link_rules.specs.Rename.{base_of, all_names, shared_names, renaming, new_name_of}
use Rattle.link_rules.proofs.Apart.{at_has, filter_none}
use Rattle.link_rules.proofs.Bound.{row_of, merged_entries}
use Rattle.link_rules.proofs.Merged.{keys, row_entry}
use Rattle.link_rules.proofs.Names.{shared_stays}
use Rattle.link_rules.proofs.Searches.{at_all, all_both}
use Rattle.link_rules.proofs.Symbols.{symbols_have, all_filter}
use Rattle.rejoined_runs.specs.Regrouped.{part_after, symbol_after}
use Rattle.rejoined_runs.specs.Conflicts.{conflict_after}
use Rattle.rejoined_runs.proofs.Homes.{Ready, old, new, later, later_of, later_all, before_all, entries_of_old, entries_of_new, nothing_before, nothing_merged, is_below, is_past}
use Rattle.rejoined_runs.proofs.Lists.{filter_mapped, all_true_of}
use Rattle.rejoined_runs.proofs.Search.{first_mapped, first_found, later_pairs, first_pairs}
use Rattle.rejoined_runs.proofs.Shifted.{shift, structs_before, structs_behind}
use Rattle.rejoined_runs.proofs.Standing.{no_clash, StandsForAll, stands_for_all}
use Rattle.rejoined_runs.proofs.SymbolsAfter.{symbols_after}

all_pairs : {A : Type 0} (P : A → Type 0) (xs : List A) → AllByRecursion P xs
    → AllByRecursion (λ (pair : A × A). P pair.0 × P pair.1) (pairs xs)
all_pairs P [] all = tt
all_pairs {A} P (x ∷ xs) all =
    all_joined _ (map {B = A × A} (λ y. (x, y)) xs) (pairs xs)
    (all_mapped _ (λ y. (x, y)) xs (all_follow P _ xs (λ y p. (all.0, p)) all.1))
    (all_pairs P xs all.1)

composed : {A B C : Type 0} (g : B → C) (f : A → B) (o : Option A)
    → option_map g (option_map f o) ≡ option_map (λ x. g (f x)) o
composed g f None = refl
composed g f (Some x) = refl

-- a list has an element of the symbol that it has
some_named : (s : Symbol) (es : List Entry) → has same_symbol (map symbol_of es) s ≡ true
    → list_any (λ (e : Entry). true) (filter (λ e. same_symbol s (symbol_of e)) es) ≡ true
some_named s [] h = cc
some_named s (e ∷ es) h = go (same_symbol s (symbol_of e)) h (some_named s es)
  where
    go : (c : Bool) → (c || has same_symbol (map symbol_of es) s) ≡ true
        → (has same_symbol (map symbol_of es) s ≡ true
        → list_any (λ (d : Entry). true) (filter (λ d. same_symbol s (symbol_of d)) es) ≡ true)
        → list_any (λ (d : Entry). true)
        (cond c (e ∷ filter (λ d. same_symbol s (symbol_of d)) es)
        (filter (λ d. same_symbol s (symbol_of d)) es)) ≡ true
    go true h more = refl
    go false h more = more h

module _ (a b : List Module) (k : ConflictKind) (m : Bytes) where
  abbrev found_old : Entry × Entry → FoundConflict
  found_old pair = conflict_after (length a) (found_conflict k m pair)

  abbrev found_new : Entry × Entry → FoundConflict
  found_new pair = found_conflict k m pair

  abbrev clash_old : Entry × Entry → Bool
  clash_old pair = clash (old a b) k pair.0 pair.1

  abbrev clash_new : Entry × Entry → Bool
  clash_new pair = clash (new a b) k pair.0 pair.1

  abbrev moved_on : Entry → Entry
  moved_on e = shift (length a) e

  abbrev some_later : List Entry
  some_later = later_of a b (Shared m)

  all_later : AllByRecursion (λ e. length a ≤ e.part) some_later
  all_later = all_filter _ (λ e. same_symbol (Shared m) (symbol_of e)) (later a b) (later_all a b)

  part_behind : (i : ℕ) → length a ≤ i → part_after (length a) i ≡ suc (i - length a)
  part_behind i h = cond-false (nat_lt i (length a)) _ _ (is_past i (length a) h)

  part_first : (i : ℕ) → i < length a → part_after (length a) i ≡ 0
  part_first i h = cond-true (nat_lt i (length a)) _ _ (is_below i (length a) h)

  shape_later : (i : ℕ) (t : Tree) → length a ≤ i
      → shape_in (new a b) (suc (i - length a)) t ≡ shape_in (old a b) i t
  shape_later i t h = ap (λ structs. shape structs t) (structs_behind a b (link_result a) i h)

  shape_first : (i : ℕ) (t : Tree) → i < length a → shape_in (old a b) i t ≡ shape_in a i t
  shape_first i t h = ap (λ structs. shape structs t) (structs_before a b i h)

  -- LATER PAIRS

  later_clash : (kind : ConflictKind) (x y : Entry) → length a ≤ x.part → length a ≤ y.part
      → clash (new a b) kind (moved_on x) (moved_on y) ≡ clash (old a b) kind x y
  later_clash TwoStrong x y h i = refl
  later_clash FunctionAndVariable x y h i = refl
  later_clash AppendingAndPlain x y h i = refl
  later_clash ElementShape x y h i =
      ap₂ (λ s t. appends x && appends y && not (alike s t))
      (shape_later x.part (element_of (type_of x.global)) h)
      (shape_later y.part (element_of (type_of y.global)) i)
  later_clash Constness x y h i = refl

  later_found : (x y : Entry) → length a ≤ x.part → length a ≤ y.part
      → found_new (moved_on x, moved_on y) ≡ found_old (x, y)
  later_found x y h i =
      λ t. record {
        kind = k;
        name = m;
        one = sym (part_behind x.part h) t;
        other =
            sym (part_behind y.part i) t;
      }

  pairs_later : option_map found_new (first (filter clash_new (pairs (map moved_on some_later))))
      ≡ option_map found_old (first (filter clash_old (pairs some_later)))
  pairs_later =
      later_pairs clash_old clash_new moved_on found_old found_new (λ e. true) (λ e. true)
      (λ e. found_old (e, e)) some_later
      (all_follow _ _ (pairs some_later)
      (λ pair h. record {
        tested = later_clash k pair.0 pair.1 h.0 h.1;
        same =
            later_found pair.0 pair.1 h.0 h.1;
      }) (all_pairs _ some_later all_later))

  -- ONE ENTRY IN PLACE OF SOME

  module _ (l : Entry) (first_part : l.part ≡ 0) (some : List Entry) where
    -- which of them can be in a conflict, and with which later ones
    abbrev weak : ConflictKind → Entry → Bool
    weak TwoStrong x = is_strong x
    weak FunctionAndVariable x = true
    weak AppendingAndPlain x = true
    weak ElementShape x = true
    weak Constness x = true

    abbrev strict : ConflictKind → Entry → Bool
    strict TwoStrong y = is_strong y
    strict FunctionAndVariable y = clash (new a b) FunctionAndVariable l y
    strict AppendingAndPlain y = clash (new a b) AppendingAndPlain l y
    strict ElementShape y = clash (new a b) ElementShape l y
    strict Constness y = clash (new a b) Constness l y

    abbrev report : Entry → FoundConflict
    report y = record { kind = k; name = m; one = 0; other = y.part }

    -- an entry that it is in place of
    pub record InPlaceOf (x : Entry) : Type 0 where
      pub low : x.part < length a
      pub variable : is_variable x.global ≡ is_variable l.global
      pub append : appends x ≡ appends l
      pub shaped : appends x ≡ true
          → shape_in a x.part (element_of (type_of x.global))
          ≡ shape_in (new a b) l.part (element_of (type_of l.global))
      pub constant : appends x ≡ true → is_constant x.global ≡ is_constant l.global

    first_clash : (kind : ConflictKind) (x y : Entry) → InPlaceOf x → length a ≤ y.part
        → clash (old a b) kind x y ≡ (weak kind x && strict kind (moved_on y))
    first_clash TwoStrong x y is h = refl
    first_clash FunctionAndVariable x y is h =
        ap (λ v. not (agree v (is_variable y.global))) is.variable
    first_clash AppendingAndPlain x y is h = ap (λ v. not (agree v (appends y))) is.append
    first_clash ElementShape x y is h =
        go (appends x) refl
        ∙ ap (λ c. c && appends y && not
        (alike (shape_in (new a b) l.part (element_of (type_of l.global)))
        (shape_in (new a b) (suc (y.part - length a))
        (element_of (type_of y.global))))) is.append
      where
        go : (c : Bool) → appends x ≡ c
            → (c && appends y && not
            (alike (shape_in (old a b) x.part (element_of (type_of x.global)))
            (shape_in (old a b) y.part (element_of (type_of y.global)))))
            ≡ (c && appends y && not
            (alike (shape_in (new a b) l.part (element_of (type_of l.global)))
            (shape_in (new a b) (suc (y.part - length a)) (element_of (type_of y.global)))))
        go true t =
            ap₂ (λ s r. appends y && not (alike s r))
            (shape_first x.part (element_of (type_of x.global)) is.low
            ∙ is.shaped t) (sym (shape_later y.part (element_of (type_of y.global)) h))
        go false t = refl
    first_clash Constness x y is h =
        go (appends x) refl
        ∙ ap (λ c. c && appends y && not
        (agree (is_constant l.global) (is_constant y.global))) is.append
      where
        go : (c : Bool) → appends x ≡ c
            → (c && appends y && not (agree (is_constant x.global) (is_constant y.global)))
            ≡ (c && appends y && not (agree (is_constant l.global) (is_constant y.global)))
        go true t = ap (λ v. appends y && not (agree v (is_constant y.global))) (is.constant t)
        go false t = refl

    own_clash : (kind : ConflictKind) (z : Entry)
        → clash (new a b) kind l z ≡ (weak kind l && strict kind z)
    own_clash TwoStrong z = refl
    own_clash FunctionAndVariable z = refl
    own_clash AppendingAndPlain z = refl
    own_clash ElementShape z = refl
    own_clash Constness z = refl

    first_report : (x y : Entry) → x.part < length a → length a ≤ y.part
        → found_old (x, y) ≡ report (moved_on y)
    first_report x y h i =
        λ t. record {
          kind = k;
          name = m;
          one = part_first x.part h t;
          other =
              part_behind y.part i t;
        }

    own_report : (z : Entry) → found_new (l, z) ≡ report z
    own_report z = λ t. record { kind = k; name = m; one = first_part t; other = z.part }

    weak_any : (kind : ConflictKind) → is_strong l ≡ list_any is_strong some
        → list_any (λ (e : Entry). true) some ≡ true
        → list_any (weak kind) (l ∷ []) ≡ list_any (weak kind) some
    weak_any TwoStrong strong any = or_nothing (is_strong l) ∙ strong
      where
        or_nothing : (c : Bool) → (c || false) ≡ c
        or_nothing true = refl
        or_nothing false = refl
    weak_any FunctionAndVariable strong any = sym any
    weak_any AppendingAndPlain strong any = sym any
    weak_any ElementShape strong any = sym any
    weak_any Constness strong any = sym any

    report_later : option_map report (first (filter (strict k) (map moved_on some_later)))
        ≡ option_map (λ y. report (moved_on y))
        (first (filter (λ y. strict k (moved_on y)) some_later))
    report_later =
        ap (λ es. option_map report (first es))
        (filter_mapped moved_on (strict k) (λ y. strict k (moved_on y)) some_later
        (all_true_of _ (λ y. refl) some_later))
        ∙ ap (option_map report)
        (first_mapped moved_on (filter (λ y. strict k (moved_on y)) some_later))
        ∙ composed report moved_on (first (filter (λ y. strict k (moved_on y)) some_later))

    pairs_first : AllByRecursion InPlaceOf some → is_strong l ≡ list_any is_strong some
        → list_any (λ (e : Entry). true) some ≡ true
        → AllByRecursion (λ pair. clash_old pair ≡ false) (pairs some)
        → option_map found_new (first (filter clash_new (pairs (l ∷ map moved_on some_later))))
        ≡ option_map found_old (first (filter clash_old (pairs (some ++ some_later))))
    pairs_first all strong any quiet =
        first_pairs clash_new clash_new moved_on found_new found_new (weak k) (strict k) report
        (l ∷ []) (map moved_on some_later) (
          record {
            tested = all_true_of _ (own_clash k) (map moved_on some_later);
            same =
                all_true_of _ own_report (map moved_on some_later);
          },
          tt,
        ) tt
        ∙ ap₂ option_or
        ((λ i. if weak_any k strong any i then report_later i else None))
        pairs_later
        ∙ sym (first_pairs clash_old clash_old moved_on found_old found_old (weak k)
        (λ y. strict k (moved_on y)) (λ y. report (moved_on y)) some some_later
        (all_follow InPlaceOf _ some (λ x is. record {
          tested = all_follow _ _ some_later (λ y h. first_clash k x y is h) all_later;
          same = all_follow _ _ some_later (λ y h. first_report x y is.low h) all_later;
        }) all) quiet)

clash_before : (a b : List Module) (kind : ConflictKind) (x y : Entry) → x.part < length a
    → y.part < length a → clash (old a b) kind x y ≡ clash a kind x y
clash_before a b TwoStrong x y h i = refl
clash_before a b FunctionAndVariable x y h i = refl
clash_before a b AppendingAndPlain x y h i = refl
clash_before a b ElementShape x y h i =
    ap₂ (λ s t. appends x && appends y && not
    (alike (shape s (element_of (type_of x.global))) (shape t (element_of (type_of y.global)))))
    (structs_before a b x.part h) (structs_before a b y.part i)
clash_before a b Constness x y h i = refl

module _ (a b : List Module) (ready : Ready a) (none : first_conflict a ≡ None)
    (appended : AllByRecursion (λ e. appends e ≡ true → is_definition e ≡ true) (entries a)) where
  module _ (m : Bytes) where
    -- the entry that the module of the first parts has of a name of theirs
    one_entry : IsSymbol a (Shared m)
        → entries_of (merged a) (Shared m) ≡ row_entry a (Shared m, m) ∷ []
    one_entry there =
        let found = at_has same_symbol symbol_self symbol_exact (symbols a) (Shared m) there in
        let row =
        row_of (renaming a) found.0 (Shared m) (ap (λ l. slice_get l found.0) (keys a)
        ∙ found.1) in
        let stays =
        shared_stays base_of (all_names a) (shared_names (symbols a))
        (symbols a) found.0 m row.0 row.1 in
        merged_entries a ready.together found.0 (Shared m) m
        (subst (λ n. slice_get (renaming a) found.0 ≡ Some (Shared m, n)) stays row.1)

    low_named : AllByRecursion (λ e. e.part < length a) (mentions a m)
    low_named =
        all_filter _ (λ e. same_symbol (Shared m) (symbol_of e)) (entries a) (before_all a b)

    in_place : (there : IsSymbol a (Shared m))
        → StandsForAll a ready none m there (row_entry a (Shared m, m))
        → AllByRecursion
        (InPlaceOf a b TwoStrong m (row_entry a (Shared m, m)) refl (mentions a m))
        (mentions a m)
    in_place there stands =
        all_follow _ _ (mentions a m)
        (λ x h. record {
          low = h.0;
          variable = h.1.0;
          append = h.1.1.0;
          shaped =
              h.1.1.1.0;
          constant = h.1.1.1.1;
        })
        (all_both _ _ (mentions a m) low_named
        (all_both _ _ (mentions a m) stands.variable
        (all_both _ _ (mentions a m) stands.append
        (all_both _ _ (mentions a m) stands.shaped stands.constant))))

    module _ (j : ℕ) (k : ConflictKind) (at : slice_get conflict_kinds j ≡ Some k) where
      abbrev SamePair : List Entry → List Entry → Type 0
      SamePair es ds =
          option_map (found_new a b k m) (first (filter (clash_new a b k m) (pairs es)))
          ≡ option_map (found_old a b k m) (first (filter (clash_old a b k m) (pairs ds)))

      quiet : (there : IsSymbol a (Shared m))
          → AllByRecursion (λ pair. clash_old a b k m pair ≡ false) (pairs (mentions a m))
      quiet there =
          all_follow _ _ (pairs (mentions a m))
          (λ pair h. clash_before a b k pair.0 pair.1 h.1.0 h.1.1 ∙ h.0)
          (all_both _ _ (pairs (mentions a m)) (no_clash a none m there j k at)
          (all_pairs _ (mentions a m) low_named))

      same_pair : SamePair (mentions (new a b) m) (mentions (old a b) m)
      same_pair = go (has same_symbol (symbols a) (Shared m)) refl
        where
          go : (c : Bool) → has same_symbol (symbols a) (Shared m) ≡ c
              → SamePair (mentions (new a b) m) (mentions (old a b) m)
          go true there =
              let stands = stands_for_all a ready none m there m appended in
              let found =
              at_has same_symbol symbol_self symbol_exact (symbols a) (Shared m) there in
              (λ i. option_map (found_new a b k m)
              (first (filter (clash_new a b k m)
              (pairs ((entries_of_new a b (Shared m)
              ∙ ap (λ l. l ++ map (shift (length a)) (later_of a b (Shared m)))
              (one_entry there)) i)))))
              ∙ pairs_first a b k m (row_entry a (Shared m, m)) refl (mentions a m)
              (all_follow _ _ (mentions a m)
              (λ x p. record {
                low = p.low;
                variable = p.variable;
                append =
                    p.append;
                shaped = p.shaped;
                constant = p.constant;
              })
              (in_place there stands))
              stands.strong
              (some_named (Shared m) (entries a)
              (at_all _ (symbols a) found.0 (Shared m) (symbols_have a) found.1))
              (quiet there)
              ∙ (λ i. option_map (found_old a b k m)
              (first (filter (clash_old a b k m)
              (pairs (sym (entries_of_old a b (Shared m)) i)))))
          go false absent =
              (λ i. option_map (found_new a b k m)
              (first (filter (clash_new a b k m) (pairs ((entries_of_new a b (Shared m)
              ∙ ap (λ l. l ++ map (shift (length a)) (later_of a b (Shared m)))
              (filter_none same_symbol symbol_self symbol_exact symbol_of (λ e. true) (Shared m)
              (entries (merged a)) (nothing_merged a b ready (Shared m) absent))) i)))))
              ∙ pairs_later a b k m
              ∙ (λ i. option_map (found_old a b k m)
              (first (filter (clash_old a b k m) (pairs (sym (entries_of_old a b (Shared m)
              ∙ ap (λ l. l ++ later_of a b (Shared m))
              (filter_none same_symbol symbol_self symbol_exact symbol_of (λ e. true) (Shared m)
              (entries a) (nothing_before a b (Shared m) absent))) i)))))

      of_kind : first (conflicts_of_kind (new a b) m k)
          ≡ option_map (conflict_after (length a)) (first (conflicts_of_kind (old a b) m k))
      of_kind =
          first_mapped (found_conflict k m)
          (filter (clash_new a b k m) (pairs (mentions (new a b) m)))
          ∙ same_pair
          ∙ sym (composed (conflict_after (length a)) (found_conflict k m)
          (first (filter (clash_old a b k m) (pairs (mentions (old a b) m)))))
          ∙ ap (option_map (conflict_after (length a)))
          (sym (first_mapped (found_conflict k m)
          (filter (clash_old a b k m) (pairs (mentions (old a b) m)))))

  of_symbol : (s : Symbol)
      → first (conflicts_of (new a b) (symbol_after a s))
      ≡ option_map (conflict_after (length a)) (first (conflicts_of (old a b) s))
  of_symbol (Shared m) =
      first_found (λ k. k) (conflict_after (length a)) (conflicts_of_kind (new a b) m)
      (conflicts_of_kind (old a b) m) conflict_kinds (
        of_kind m 0 TwoStrong refl,
        (
          of_kind m 1 FunctionAndVariable refl,
          (
            of_kind m 2 AppendingAndPlain refl,
            (of_kind m 3 ElementShape refl, (of_kind m 4 Constness refl, tt)),
          ),
        ),
      )
  of_symbol (Local i m) = go (nat_lt i (length a))
    where
      go : (c : Bool)
          → first (conflicts_of (new a b)
          (if c then Local 0 (new_name_of a (Local i m)) else Local (suc (i - length a)) m))
          ≡ None
      go true = refl
      go false = refl

  pub conflict_stays : first_conflict (new a b)
      ≡ option_map (conflict_after (length a)) (first_conflict (old a b))
  conflict_stays =
      ap (λ ss. first (flat_map (conflicts_of (new a b)) ss)) (symbols_after a b ready)
      ∙ first_found (symbol_after a) (conflict_after (length a)) (conflicts_of (new a b))
      (conflicts_of (old a b)) (symbols (old a b)) (all_true_of _ of_symbol (symbols (old a b)))
