-- Parts that are well formed and valid, and have no conflict, are ready to be linked first.
use Rattle.std.proofs.Common.{◌≡◌, ℕ, Bool, true, false, not, ◌&&◌, ◌||◌, List, [], ◌∷◌, map, Option, Some, None, refl, sym, ap, ◌∙◌, subst, nat_lt, nat_eq, bytes_eq}
use Rattle.std.specs.Prelude.{slice_get, is_some}
use Rattle.std.specs.Option.{option_map_or}
use Rattle.std.specs.List.{AllByRecursion}
use Rattle.std.proofs.lemmas.Bool.{both_ways, and_parts, and_from, not-true, or_left, or_right}
use Rattle.std.proofs.lemmas.Cmp.{nat_eq_equiv}
use Rattle.ir_tables.specs.declared.linkage.Linkage.{Linkage}
use Rattle.ir_tables.specs.declared.linkage.Linkage.TheVariants.{External, Private, Internal, Appending}
use Rattle.type_table.specs.Tree.{Tree, array, int, ptr, void, struct, named}
use Rattle.module_arena.specs.EntryRules.{is_list_of, is_list_variable, appending_variable_suits, is_lasting}
use Rattle.module_arena.specs.Module.{Bytes, Constant, Variable, Module}
use Rattle.module_arena.specs.Valid.{IsValid}
use Rattle.module_arena.specs.WellFormed.{IsWellFormed, is_good_type}
use Rattle.linkage_rules.specs.declared.conflict.ConflictKind.TheVariants.{TwoStrong}
use Rattle.linkage_rules.specs.Conflicts.{is_strong, appends, first_conflict}
use Rattle.linkage_rules.specs.Entries.{Entry, entries, same_symbol, symbol_of, mentions, entries_of, part_at}
use Rattle.linkage_rules.specs.Globals.{Global, OfVariable, OfFunction, OfAlias, name_of, linkage_of, type_of, is_alias, globals}
use Rattle.linkage_rules.specs.Linkages.{is_local, is_external, is_appending, is_available_externally, rank}
use Rattle.linkage_rules.specs.Lists.{has, pairs}
use Rattle.linkage_rules.specs.SymbolLaws.{symbol_self, symbol_exact, name_self}
use Rattle.linkage_rules.specs.Symbols.{is_alias_symbol}
use Rattle.linkage_rules.specs.Winner.{definitions, is_definition, home}
use Rattle.linkage_rules.specs.declared.symbol.Symbol.{Symbol}
use Rattle.linkage_rules.specs.declared.symbol.Symbol.TheVariants.{Shared, Local}
use Rattle.linkage_rules.proofs.Entries.{all_follow}
use Rattle.link_rules.specs.Carried.{IsSymbol}
use Rattle.link_rules.specs.Known.{KnownTree}
use Rattle.link_rules.proofs.Agreed.{all_from_at, is_symbol, entries_apart, one_place, symbol_parts, none_passes, filter_at}
use Rattle.link_rules.proofs.Asked.{of_variables, of_aliases, of_functions, aliases_suit}
use Rattle.link_rules.proofs.Carrying.{all_distinct, together, carries_symbols}
use Rattle.link_rules.proofs.KnownTypes.{tree_known, structs_fine}
use Rattle.link_rules.proofs.Parts.{all_true, entries_by, globals_all}
use Rattle.link_rules.proofs.Searches.{at_all, all_units}
use Rattle.link_rules.proofs.Symbols.{best_has, home_is, symbol_shared, all_filter}
use Rattle.rejoined_runs.proofs.Best.{best_empty, best_stays, best_rank}
use Rattle.rejoined_runs.proofs.Homes.{Ready}
use Rattle.rejoined_runs.proofs.Standing.{no_clash, all_append, each_to_each, strongest}

-- ---- aliases

lasting_rank : (l : Linkage) → is_lasting l ≡ true
    → (rank l ≡ 4) × ((is_appending l ≡ false) × (is_available_externally l ≡ false))
lasting_rank External h = (refl, (refl, refl))
lasting_rank Private h = (refl, (refl, refl))
lasting_rank Internal h = (refl, (refl, refl))
lasting_rank l h = cc

lasting_external : (l : Linkage) → is_lasting l ≡ true → is_local l ≡ false → is_external l ≡ true
lasting_external External h k = refl
lasting_external Private h k = cc
lasting_external Internal h k = cc
lasting_external l h k = cc

-- an alias's linkage
abbrev Lasts : Global → Type 0
Lasts g = is_alias g ≡ true → is_lasting (linkage_of g) ≡ true

module_lasts : (m : Module) → IsValid m → AllByRecursion Lasts (globals m)
module_lasts m valid =
    globals_all Lasts m
    (all_follow _ _ m.variables (λ v u t. cc) (all_units m.variables))
    (all_follow _ _ m.functions (λ f u t. cc) (all_units m.functions))
    (all_follow _ _ m.aliases (λ x h t. (and_parts (is_lasting x.linkage) _ h).0)
    (aliases_suit m valid))

-- ---- appended entries

list_written : (n : ℕ) (o : Option Constant) → is_list_of n o ≡ true → is_some o ≡ true
list_written n None h = cc
list_written n (Some c) h = refl

list_defines : (t : Tree) (o : Option Constant) → is_list_variable t o ≡ true → is_some o ≡ true
list_defines (array n t) o h = list_written n o (and_parts _ (is_list_of n o) h).1
list_defines (int w) o h = cc
list_defines ptr o h = cc
list_defines void o h = cc
list_defines (struct packed ts) o h = cc
list_defines (named name) o h = cc

appending_stays : (l : Linkage) → is_appending l ≡ true → not (is_available_externally l) ≡ true
appending_stays Appending h = refl
appending_stays l h = cc

abbrev Appended : ℕ → Global → Type 0
Appended i g = is_appending (linkage_of g) ≡ true
    → is_definition (record { part = i; global = g }) ≡ true

variable_defines : (i : ℕ) (v : Variable) → appending_variable_suits v ≡ true
    → Appended i (OfVariable v)
variable_defines i v h appending =
    and_from _ _ (list_defines v.ty v.initialiser (suits (is_appending v.linkage) appending h))
    (appending_stays v.linkage appending)
  where
    suits : (c : Bool) → c ≡ true → (not c || is_list_variable v.ty v.initialiser) ≡ true
        → is_list_variable v.ty v.initialiser ≡ true
    suits true t h = h
    suits false t h = cc

module_appended : (i : ℕ) (m : Module) → IsValid m → AllByRecursion (Appended i) (globals m)
module_appended i m valid =
    globals_all (Appended i) m
    (all_follow _ _ m.variables (λ v h. variable_defines i v h.1.1.0) (of_variables m valid))
    (all_follow _ _ m.functions
    (λ f h t. absurd
    (both_ways (is_appending f.linkage) (not-true (is_appending f.linkage) h.1.1.0) t))
    (of_functions m valid))
    (all_follow _ _ m.aliases
    (λ x h t. absurd
    (both_ways (is_appending x.linkage) (not-true (is_appending x.linkage) h.1.1.0) t))
    (of_aliases m valid))

-- ---- types

module_types : (a : List Module) (i : ℕ) → IsWellFormed (part_at a i)
    → AllByRecursion (λ g. KnownTree a i (type_of g)) (globals (part_at a i))
module_types a i w =
    globals_all (λ g. KnownTree a i (type_of g)) (part_at a i)
    (all_follow _ _ (part_at a i).variables
    (λ v h. tree_known a i v.ty (and_parts (is_good_type (part_at a i).structs v.ty) _ h).0)
    (all_true _ (part_at a i).variables w.variables))
    (all_follow _ _ (part_at a i).functions (λ f u. tt) (all_units (part_at a i).functions))
    (all_follow _ _ (part_at a i).aliases (λ x u. tt) (all_units (part_at a i).aliases))

module _ (a : List Module) (formed : AllByRecursion IsWellFormed a)
    (valid : AllByRecursion IsValid a) (none : first_conflict a ≡ None) where
  lasts : AllByRecursion (λ e. Lasts e.global) (entries a)
  lasts = entries_by IsValid (λ i g. Lasts g) a valid (λ i v. module_lasts (part_at a i) v)

  alias_defines : (e : Entry) → Lasts e.global → is_alias e.global ≡ true → is_definition e ≡ true
  alias_defines e h t = go e.global t ((lasting_rank (linkage_of e.global) (h t)).1.1)
    where
      go : (g : Global) → is_alias g ≡ true → is_available_externally (linkage_of g) ≡ false
          → is_definition (record { part = e.part; global = g }) ≡ true
      go (OfVariable v) t n = cc
      go (OfFunction f) t n = cc
      go (OfAlias x) t n = ap not n

  -- what an alias entry of a symbol is to its other definitions: the only one of the greatest rank
  abbrev IsOne : Entry → Entry → Type 0
  IsOne d e = is_strong d ≡ true → is_strong e ≡ true → d ≡ e

  of_home : (m : Bytes) (d : Entry) → home a (Shared m) ≡ Some d → (P : Entry → Type 0)
      → AllByRecursion P (mentions a m) → P d
  of_home m d h P all =
      best_has a P (definitions a (Shared m)) d (all_filter P is_definition (mentions a m) all) h

  home_defines : (m : Bytes) (d : Entry) → home a (Shared m) ≡ Some d → is_definition d ≡ true
  home_defines m d h = (home_is a (λ x. Unit {0}) (Shared m) d (all_units (entries a)) h).1

  home_shared : (m : Bytes) (d : Entry) → home a (Shared m) ≡ Some d
      → is_local (linkage_of d.global) ≡ false
  home_shared m d h =
      symbol_shared m d (home_is a (λ x. Unit {0}) (Shared m) d (all_units (entries a)) h).0.1

  all_one : (m : Bytes) → IsSymbol a (Shared m)
      → AllByRecursion (λ e. AllByRecursion (λ x. IsOne x e) (mentions a m)) (mentions a m)
  all_one m there =
      each_to_each IsOne (λ x p q. refl) (λ x y h p q. sym (h q p)) (mentions a m)
      (all_follow _ _ (pairs (mentions a m))
      (λ pair h p q. absurd
      (both_ways (is_strong pair.0 && is_strong pair.1) h (and_from _ _ p q)))
      (no_clash a none m there 0 TwoStrong refl))

  module _ (k : ℕ) (e : Entry) (at : slice_get (entries a) k ≡ Some e)
      (is : is_alias e.global ≡ true) where
    lasting : is_lasting (linkage_of e.global) ≡ true
    lasting = at_all _ (entries a) k e lasts at is

    defines : is_definition e ≡ true
    defines = alias_defines e (λ t. lasting) is

    here : IsSymbol a (symbol_of e)
    here = is_symbol a (symbol_of e)
        (at_all _ (entries a) k e (own (entries a) (entries a) (λ s h. h)) at)
      where
        own : (all es : List Entry)
            → ((s : Symbol) → has same_symbol (map symbol_of es) s ≡ true
            → has same_symbol (map symbol_of all) s ≡ true)
            → AllByRecursion
            (λ x. has same_symbol (map symbol_of all) (symbol_of x) ≡ true) es
        own all [] f = tt
        own all (x ∷ es) f = (
          f (symbol_of x) (or_left _ _ (symbol_self (symbol_of x))),
          own all es
              (λ s h. f s (or_right _ _ h)),
        )

    -- the home of its symbol is it
    same_home : (s : Symbol) → symbol_of e ≡ s → (d : Entry) → home a s ≡ Some d → d ≡ e
    same_home (Local i m) p d h =
        (home_is a (λ x. same_symbol (Local i m) (symbol_of x) ≡ true
        → x ≡ e) (Local i m) d
        (all_from_at _ (entries a)
        (λ j x there t. only j x there
        (sym (symbol_exact (Local i m) (symbol_of x) t)))) h).0.0
        (home_is a (λ x. Unit {0}) (Local i m) d (all_units (entries a)) h).0.1
      where
        only : (j : ℕ) (x : Entry) → slice_get (entries a) j ≡ Some x → symbol_of x ≡ Local i m
            → x ≡ e
        only j x there q =
            let one =
            symbol_parts (is_local (linkage_of x.global)) x.part i (name_of x.global) m q in
            let other =
            symbol_parts (is_local (linkage_of e.global)) e.part i (name_of e.global) m p in
            one_place (entries a) j k x e (entries_apart 0 a (all_distinct a formed)) there at
            (and_from _ _
            (subst (λ n. nat_eq x.part n ≡ true) (one.0
            ∙ sym other.0) (nat_eq_equiv.refl x.part))
            (subst (λ n. bytes_eq (name_of x.global) n ≡ true) (one.1
            ∙ sym other.1) (name_self (name_of x.global))))
    same_home (Shared m) p d h =
        let there = subst (IsSymbol a) p here in
        let found =
        filter_at (λ x. same_symbol (Shared m) (symbol_of x)) (entries a) k e at
        (subst (λ s. same_symbol (Shared m) s ≡ true) (sym p) (symbol_self (Shared m))) in
        let shared =
        symbol_shared m e
        (subst (λ s. same_symbol (Shared m) s ≡ true) (sym p) (symbol_self (Shared m))) in
        let external = lasting_external (linkage_of e.global) lasting shared in
        let rank_is = (lasting_rank (linkage_of e.global) lasting).0 in
        let defined = filter_at is_definition (mentions a m) found.0 e found.1 defines in
        let greatest =
        best_rank a d e
        (at_all _ (definitions a (Shared m)) defined.0 e
        (best_stays a (definitions a (Shared m)) d h) defined.1) in
        let alike =
        at_all _ (mentions a m) found.0 e
        (of_home m d h (λ x. AllByRecursion (λ y. appends y ≡ appends x) (mentions a m))
        (all_append a none m there)) found.1 in
        let external_home =
        strongest (linkage_of d.global) (home_shared m d h)
        (subst (λ n. nat_lt (rank (linkage_of d.global)) n ≡ false) rank_is greatest)
        (sym alike ∙ (lasting_rank (linkage_of e.global) lasting).1.0) in
        let one =
        at_all _ (mentions a m) found.0 e
        (of_home m d h (λ x. AllByRecursion (λ y. IsOne y x) (mentions a m))
        (all_one m there)) found.1 in
        sym (one (and_from _ _ defines external) (and_from _ _ (home_defines m d h) external_home))

    -- so its symbol is an alias
    wins : is_alias_symbol a (symbol_of e) ≡ true
    wins = go (home a (symbol_of e)) refl
      where
        found : (j : ℕ) × (slice_get (entries_of a (symbol_of e)) j ≡ Some e)
        found = filter_at (λ x. same_symbol (symbol_of e) (symbol_of x)) (entries a) k e at
            (symbol_self (symbol_of e))

        go : (o : Option Entry) → home a (symbol_of e) ≡ o
            → option_map_or (λ x. is_alias x.global) o false ≡ true
        go None h =
            absurd (both_ways (is_definition e)
            (at_all _ (entries_of a (symbol_of e)) found.0 e
            (none_passes is_definition (entries_of a (symbol_of e))
            (best_empty a (definitions a (symbol_of e)) h)) found.1) defines)
        go (Some d) h = ap (λ x. is_alias x.global) (same_home (symbol_of e) refl d h) ∙ is

  pub ready : Ready a
  ready = record {
    together = together a formed valid none;
    structs = structs_fine a formed;
    merges = carries_symbols a formed valid none;
    types = entries_by IsWellFormed (λ i g. KnownTree a i (type_of g)) a formed (module_types a);
    ranks = all_follow _ _ (entries a)
        (λ e h t. (lasting_rank (linkage_of e.global) (h t)).0) lasts;
    wins = all_from_at _ (entries a) (λ k e at is. wins k e at is);
  }

  pub appended : AllByRecursion (λ e. appends e ≡ true → is_definition e ≡ true) (entries a)
  appended = entries_by IsValid Appended a valid (λ i v. module_appended i (part_at a i) v)
