-- What names mean in the merged module: the same, but for where a definition stands.
use Rattle.std.proofs.Common.{◌≡◌, ℕ, zero, suc, Bool, true, false, not, cond, ◌||◌, ◌&&◌, List, [], ◌∷◌, map, Option, Some, None, refl, sym, ap, ◌∙◌, subst, filter, option_map}
use Rattle.std.specs.Prelude.{slice_get, if◌then◌else◌, is_some}
use Rattle.std.specs.Option.{option_map_or}
use Rattle.std.specs.List.{list_any, list_all, AllByRecursion}
use Rattle.std.proofs.lemmas.Bool.{cond-true, cond-false}
use Rattle.std.proofs.lemmas.Option.{same_Some, slice_get-map}
use Rattle.ir_tables.specs.declared.linkage.Linkage.TheVariants.{External, ExternWeak}
use Rattle.module_arena.specs.Module.{Bytes, Module}
use Rattle.linkage_rules.specs.Globals.{Global, OfVariable, OfFunction, OfAlias, linkage_of, is_variable}
use Rattle.linkage_rules.specs.Linkages.{is_appending, is_extern_weak}
use Rattle.module_arena.specs.HostRows.{host_row}
use Rattle.linkage_rules.specs.Lists.{first, has}
use Rattle.linkage_rules.specs.Entries.{Entry, entries, same_symbol, symbol_of, symbol_in, entries_of}
use Rattle.linkage_rules.specs.declared.symbol.Symbol.{Symbol}
use Rattle.linkage_rules.specs.declared.symbol.Symbol.TheVariants.{Shared, Local}
use Rattle.linkage_rules.specs.Symbols.{symbols}
use Rattle.linkage_rules.specs.Winner.{definitions, is_definition, home, best}
use Rattle.linkage_rules.specs.Bind.{Bound, Definition, Appended, Host, Null, Unresolved, all_extern_weak, is_function_symbol, undefined, bound_to, own_meaning, target_of, behind_from, behind, bind}
use Rattle.link_rules.specs.Rename.{renaming, all_names, base_of, shared_names, name_or, new_global}
use Rattle.link_rules.specs.Linked.{linked_definition, linked_declaration, declared_linkage, linked_first}
use Rattle.link_rules.proofs.Apart.{Apart, has_at, at_has, lookup_at, filter_at}
use Rattle.linkage_rules.specs.SymbolLaws.{symbol_self, symbol_exact}
use Rattle.link_rules.proofs.Symbols.{GoTogether, symbols_apart, symbols_have, home_is}
use Rattle.link_rules.proofs.Names.{shared_stays}
use Rattle.link_rules.proofs.Merged.{Row, as_renamed, as_row, not_captured, keys, names, definition_linkage, declares, entry_by, row_entry, linked_symbol}
use Rattle.link_rules.specs.Carried.{moved_under, merged}
use Rattle.link_rules.proofs.Moved.{moved_defines, first_undefined}
use Rattle.link_rules.proofs.Result.{entries_merged, keys_merged, merged_apart, symbols_merged}

weak_again : (b : Bool) → (is_extern_weak (if b then ExternWeak else External) && true) ≡ b
weak_again true = refl
weak_again false = refl

abbrev pub listed : Option Entry → List Entry
listed None = []
listed (Some e) = e ∷ []

pub row_of : (rows : List Row) (j : ℕ) (t : Symbol) → slice_get (map (λ r. r.0) rows) j ≡ Some t → (m : Bytes) × (slice_get rows j ≡ Some (t, m))
row_of [] j t h = cc
row_of (r ∷ rows) zero t h = (r.1, ap (λ x. Some (x, r.1)) (same_Some r.0 t h))
row_of (r ∷ rows) (suc j) t h = row_of rows j t h

-- what an alias of part i names is a symbol
abbrev pub KnownTarget : List Module → ℕ → Global → Type 0
KnownTarget parts i (OfAlias a) = has same_symbol (symbols parts) (symbol_in parts i a.target) ≡ true
KnownTarget parts i (OfVariable v) = Unit {0}
KnownTarget parts i (OfFunction f) = Unit {0}

-- so it is with every alias
abbrev pub TargetsKnown : List Module → Type 0
TargetsKnown parts = AllByRecursion (λ e. KnownTarget parts e.part e.global) (entries parts)

module _ (parts : List Module) (together : GoTogether parts) where
  -- what the merged module has for the k-th symbol
  module _ (k : ℕ) (s : Symbol) (m : Bytes) (at : slice_get (renaming parts) k ≡ Some (s, m)) where
    pub symbol_at : slice_get (symbols parts) k ≡ Some s
    symbol_at = ap (λ l. slice_get l k) (sym (keys parts)) ∙ slice_get-map (λ r. r.0) (renaming parts) k ∙ ap (option_map (λ r. r.0)) at

    pub here : has same_symbol (map symbol_of (entries parts)) s ≡ true
    here = go (symbols parts) k symbol_at (symbols_have parts)
      where
        go : (ss : List Symbol) (j : ℕ) → slice_get ss j ≡ Some s → AllByRecursion (λ t. has same_symbol (map symbol_of (entries parts)) t ≡ true) ss → has same_symbol (map symbol_of (entries parts)) s ≡ true
        go [] j h a = cc
        go (t ∷ ss) zero h a = subst (λ z. has same_symbol (map symbol_of (entries parts)) z ≡ true) (same_Some t s h) a.0
        go (t ∷ ss) (suc j) h a = go ss j h a.1

    pub merged_at : slice_get (symbols (merged parts)) k ≡ Some (as_renamed s m)
    merged_at = ap (λ l. slice_get l k) (symbols_merged parts together) ∙ slice_get-map as_row (renaming parts) k ∙ ap (option_map as_row) at

    entry_at : slice_get (entries (merged parts)) k ≡ Some (row_entry parts (s, m))
    entry_at = ap (λ l. slice_get l k) (entries_merged parts together) ∙ slice_get-map (row_entry parts) (renaming parts) k ∙ ap (option_map (row_entry parts)) at

    -- one entry
    pub merged_entries : entries_of (merged parts) (as_renamed s m) ≡ row_entry parts (s, m) ∷ []
    merged_entries =
        ap (entries_of (merged parts)) (sym (linked_symbol parts together s m here))
        ∙ filter_at same_symbol symbol_self symbol_exact symbol_of (λ e. true) (entries (merged parts)) k (row_entry parts (s, m)) (merged_apart parts together) entry_at

    -- at most one definition
    pub merged_definitions : definitions (merged parts) (as_renamed s m) ≡ listed (option_map (moved_under parts s m) (home parts s))
    merged_definitions = ap (filter is_definition) merged_entries ∙ by_home (home parts s) refl
      where
        by_home : (o : Option Entry) → home parts s ≡ o → cond (is_definition (entry_by parts s m o)) (entry_by parts s m o ∷ []) [] ≡ listed (option_map (moved_under parts s m) o)
        by_home None h = cond-false (is_definition (entry_by parts s m None)) _ _ (first_undefined parts s m (first (entries_of parts s)))
        by_home (Some e) h = cond-true (is_definition (moved_under parts s m e)) _ _ (moved_defines parts s m e (home_is parts _ s e together.locals h).1)

    pub merged_home : home (merged parts) (as_renamed s m) ≡ option_map (moved_under parts s m) (home parts s)
    merged_home = ap (best (merged parts)) merged_definitions ∙ by_home (home parts s)
      where
        by_home : (o : Option Entry) → best (merged parts) (listed (option_map (moved_under parts s m) o)) ≡ option_map (moved_under parts s m) o
        by_home None = refl
        by_home (Some e) = refl

    pub has_first : (e : Entry) × (first (entries_of parts s) ≡ Some e)
    has_first = go (entries parts) here
      where
        go : (es : List Entry) → has same_symbol (map symbol_of es) s ≡ true → (e : Entry) × (first (filter (λ e. same_symbol s (symbol_of e)) es) ≡ Some e)
        go [] h = cc
        go (e ∷ es) h = by_test (same_symbol s (symbol_of e)) refl (go es)
          where
            by_test : (b : Bool) → same_symbol s (symbol_of e) ≡ b → (has same_symbol (map symbol_of es) s ≡ true → (d : Entry) × (first (filter (λ d. same_symbol s (symbol_of d)) es) ≡ Some d)) → (d : Entry) × (first (filter (λ d. same_symbol s (symbol_of d)) (e ∷ es)) ≡ Some d)
            by_test true t more = (e, ap first (cond-true (same_symbol s (symbol_of e)) _ _ t))
            by_test false t more =
                let later = more (subst (λ c. (c || list_any (same_symbol s) (map symbol_of es)) ≡ true) t h) in
                (later.0, ap first (cond-false (same_symbol s (symbol_of e)) _ _ t) ∙ later.1)

    -- where it is nowhere defined, it is as weak and of the same kind
    module _ (none : home parts s ≡ None) where
      undefined_entries : entries_of (merged parts) (as_renamed s m) ≡ record { part = 0; global = linked_declaration (declared_linkage parts s) parts m (has_first).0.part (has_first).0.global } ∷ []
      undefined_entries =
          merged_entries ∙ ap (λ o. entry_by parts s m o ∷ []) none
          ∙ ap (λ o. let e : Entry = record { part = 0; global = linked_first parts s m o } in e ∷ []) (has_first).1

      pub merged_weak : all_extern_weak (merged parts) (as_renamed s m) ≡ all_extern_weak parts s
      merged_weak =
          ap (list_all (λ e. is_extern_weak (linkage_of e.global))) undefined_entries
          ∙ ap (λ l. is_extern_weak l && true) (declares (declared_linkage parts s) parts m (has_first).0.part (has_first).0.global).linkage
          ∙ weak_again (all_extern_weak parts s)

      pub merged_kind : is_function_symbol (merged parts) (as_renamed s m) ≡ is_function_symbol parts s
      merged_kind =
          ap (λ es. option_map_or (λ (e : Entry). not (is_variable e.global)) (first es) false) undefined_entries
          ∙ ap not (declares (declared_linkage parts s) parts m (has_first).0.part (has_first).0.global).same_kind
          ∙ sym (ap (λ o. option_map_or (λ (e : Entry). not (is_variable e.global)) o false) (has_first).1)

  -- what a name of the merged module is of
  pub merged_symbol : (k : ℕ) (s : Symbol) (m : Bytes) → slice_get (renaming parts) k ≡ Some (s, m) → symbol_in (merged parts) 0 m ≡ as_renamed s m
  merged_symbol k (Shared n) m at =
      cond-false (has same_symbol (map symbol_of (entries (merged parts))) (Local 0 m)) _ _
      (subst (λ l. has same_symbol l (Local 0 m) ≡ false) (sym (keys_merged parts together)) (not_captured n m (renaming parts) k (names parts) at))
  merged_symbol k (Local i n) m at =
      cond-true (has same_symbol (map symbol_of (entries (merged parts))) (Local 0 m)) _ _
      (subst (λ l. has same_symbol l (Local 0 m) ≡ true) (sym (keys_merged parts together))
      (has_at same_symbol symbol_self symbol_exact (map as_row (renaming parts)) k (Local 0 m) (slice_get-map as_row (renaming parts) k ∙ ap (option_map as_row) at)))

  -- the same meaning, with a definition where it was moved
  abbrev pub carried : Symbol → Bytes → Bound → Bound
  carried s m (Definition e) = Definition (moved_under parts s m e)
  carried s m (Appended t) = Appended (as_renamed t m)
  carried s m (Host name) = Host name
  carried s m Null = Null
  carried s m Unresolved = Unresolved

  carried_undefined : (s : Symbol) (m name : Bytes) (b c : Bool) → carried s m (if b then Host name else (if c then Null else Unresolved)) ≡ (if b then Host name else (if c then Null else Unresolved))
  carried_undefined s m name true c = refl
  carried_undefined s m name false true = refl
  carried_undefined s m name false false = refl

  undefined_merged : (k : ℕ) (s : Symbol) (m : Bytes) → slice_get (renaming parts) k ≡ Some (s, m) → home parts s ≡ None → undefined (merged parts) (as_renamed s m) ≡ carried s m (undefined parts s)
  undefined_merged k (Shared n) m at none =
      let same : m ≡ n = shared_stays base_of (all_names parts) (shared_names (symbols parts)) (symbols parts) k n m at in
      (λ i. if merged_kind k (Shared n) m at none i && is_some (host_row (same i)) then Host (same i) else (if merged_weak k (Shared n) m at none i then Null else Unresolved))
      ∙ sym (carried_undefined (Shared n) m n (is_function_symbol parts (Shared n) && is_some (host_row n)) (all_extern_weak parts (Shared n)))
  undefined_merged k (Local i n) m at none = refl

  defined_merged : (s : Symbol) (m : Bytes) (e : Entry) → bound_to (merged parts) (as_renamed s m) (Some (moved_under parts s m e)) ≡ carried s m (bound_to parts s (Some e))
  defined_merged s m e =
      ap (λ l. if is_appending l then Appended (as_renamed s m) else Definition (moved_under parts s m e)) (definition_linkage parts m e (definitions parts s) e.global)
      ∙ go (is_appending (linkage_of e.global))
    where
      go : (b : Bool) → (if b then Appended (as_renamed s m) else Definition (moved_under parts s m e)) ≡ carried s m (if b then Appended s else Definition e)
      go true = refl
      go false = refl

  pub own_meaning_merged : (k : ℕ) (s : Symbol) (m : Bytes) → slice_get (renaming parts) k ≡ Some (s, m) → own_meaning (merged parts) (as_renamed s m) ≡ carried s m (own_meaning parts s)
  own_meaning_merged k s m at = ap (bound_to (merged parts) (as_renamed s m)) (merged_home k s m at) ∙ by_home (home parts s) refl
    where
      by_home : (o : Option Entry) → home parts s ≡ o → bound_to (merged parts) (as_renamed s m) (option_map (moved_under parts s m) o) ≡ carried s m (bound_to parts s o)
      by_home None h = undefined_merged k s m at h
      by_home (Some e) h = defined_merged s m e

  -- the row of what a name of part i is of
  pub record NameRow (i : ℕ) (name : Bytes) : Type 0 where
    pub place : ℕ
    pub new : Bytes
    pub at : slice_get (renaming parts) place ≡ Some (symbol_in parts i name, new)
    pub named : new_global parts i name ≡ new
    pub symbol_same : symbol_in (merged parts) 0 new ≡ as_renamed (symbol_in parts i name) new

  pub name_row : (i : ℕ) (name : Bytes) → has same_symbol (symbols parts) (symbol_in parts i name) ≡ true → NameRow i name
  name_row i name there =
      let t = symbol_in parts i name in
      let found = at_has same_symbol symbol_self symbol_exact (symbols parts) t there in
      let row = row_of (renaming parts) found.0 t (ap (λ l. slice_get l found.0) (keys parts) ∙ found.1) in
      record {
        place = found.0;
        new = row.0;
        at = row.1;
        named = ap (name_or name) (lookup_at same_symbol symbol_self symbol_exact (renaming parts) found.0 t row.0 (subst (Apart same_symbol) (sym (keys parts)) (symbols_apart parts)) row.1);
        symbol_same = merged_symbol found.0 t row.0 row.1;
      }

  -- the row of one symbol, which the other is in the merged module
  pub record SameRow (old new_one : Symbol) : Type 0 where
    pub place : ℕ
    pub new : Bytes
    pub at : slice_get (renaming parts) place ≡ Some (old, new)
    pub same : new_one ≡ as_renamed old new

  module _ (targets : TargetsKnown parts) where
    -- what is behind a symbol is behind it in the merged module
    pub behind_row : (k : ℕ) (s : Symbol) (m : Bytes) → slice_get (renaming parts) k ≡ Some (s, m) → SameRow (behind parts s) (behind (merged parts) (as_renamed s m))
    behind_row k s m at =
        let row = by_home (home parts s) refl in
        record { place = row.place; new = row.new; at = row.at; same = ap (behind_from (merged parts) (as_renamed s m)) (merged_home k s m at) ∙ row.same }
      where
        itself : SameRow s (as_renamed s m)
        itself = record { place = k; new = m; at = at; same = refl }

        by_global : (i : ℕ) (e : Entry) (es : List Entry) (g : Global) → KnownTarget parts i g → e.part ≡ i → SameRow (target_of parts s i g) (target_of (merged parts) (as_renamed s m) 0 (linked_definition parts m e es g))
        by_global i e es (OfVariable v) known is = itself
        by_global i e es (OfFunction f) known is = itself
        by_global i e es (OfAlias a) known is =
            let row = name_row i a.target known in
            record { place = row.place; new = row.new; at = row.at; same = ap (symbol_in (merged parts) 0) (ap (λ p. new_global parts p a.target) is ∙ row.named) ∙ row.symbol_same }

        by_home : (o : Option Entry) → home parts s ≡ o → SameRow (behind_from parts s o) (behind_from (merged parts) (as_renamed s m) (option_map (moved_under parts s m) o))
        by_home None h = itself
        by_home (Some e) h = by_global e.part e (definitions parts s) e.global (home_is parts (λ d. KnownTarget parts d.part d.global) s e targets h).0.0 refl

    -- a name of part i, and what it is in the merged module, have the same meaning
    pub record RowFor (i : ℕ) (name : Bytes) : Type 0 where
      pub row : NameRow i name
      pub back : SameRow (behind parts (symbol_in parts i name)) (behind (merged parts) (symbol_in (merged parts) 0 row.new))
      pub meaning_same : bind (merged parts) 0 row.new ≡ carried (behind parts (symbol_in parts i name)) back.new (bind parts i name)

    pub row_in : (i : ℕ) (name : Bytes) → has same_symbol (symbols parts) (symbol_in parts i name) ≡ true → RowFor i name
    row_in i name there =
        let own = name_row i name there in
        let back = behind_row own.place (symbol_in parts i name) own.new own.at in
        let same = ap (behind (merged parts)) own.symbol_same ∙ back.same in
        record {
          row = own;
          back = record { place = back.place; new = back.new; at = back.at; same = same };
          meaning_same = ap (own_meaning (merged parts)) same ∙ own_meaning_merged back.place (behind parts (symbol_in parts i name)) back.new back.at;
        }
