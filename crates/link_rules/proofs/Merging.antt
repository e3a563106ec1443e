-- Linking carries each symbol over, in order, with its definition and its meaning.
use Rattle.std.proofs.Common.{◌≡◌, ℕ, zero, suc, Bool, true, false, ◌&&◌, ◌||◌, List, [], ◌∷◌, ◌++◌, map, Option, Some, None, refl, sym, ap, ap₂, ◌∙◌, subst, filter, option_map, option_to_list}
use Rattle.std.specs.Prelude.{slice_get, if◌then◌else◌, is_some}
use Rattle.std.specs.List.{AllByRecursion}
use Rattle.std.proofs.lemmas.Bool.{both_ways, false_from_ne_true}
use Rattle.std.proofs.lemmas.Option.{same_Some, slice_get-map}
use Rattle.module_arena.specs.Module.{Bytes, Module}
use Rattle.linkage_rules.specs.Bind.{Host, Null, Unresolved, bound_to, undefined, behind, own_meaning, all_extern_weak, is_function_symbol}
use Rattle.linkage_rules.specs.Entries.{Entry, same_symbol, symbol_of, symbol_in, entries, symbol_name}
use Rattle.linkage_rules.specs.declared.symbol.Symbol.{Symbol}
use Rattle.linkage_rules.specs.declared.symbol.Symbol.TheVariants.{Shared, Local}
use Rattle.module_arena.specs.HostRows.{host_row}
use Rattle.linkage_rules.specs.Lists.{has}
use Rattle.linkage_rules.specs.Symbols.{variable_symbols, function_symbols, symbols}
use Rattle.linkage_rules.specs.Winner.{definitions, is_definition, best, home}
use Rattle.link_rules.proofs.Agreed.{all_from_at, is_symbol}
use Rattle.link_rules.proofs.Symbols.{GoTogether, symbols_apart}
use Rattle.link_rules.proofs.Apart.{Apart, none_at, at_has, lookup_at, filter_none}
use Rattle.linkage_rules.specs.SymbolLaws.{symbol_self, symbol_exact}
use Rattle.link_rules.specs.Rename.{base_of, all_names, shared_names, name_or, renaming, new_name_of}
use Rattle.link_rules.proofs.Bound.{row_of, TargetsKnown, merged_home, merged_definitions, own_meaning_merged, carried, name_row, behind_row, listed}
use Rattle.link_rules.proofs.Merged.{Row, as_renamed, as_row, rows_apart, variable_rows, function_rows, alias_rows, renaming_split, keys, names}
use Rattle.link_rules.proofs.Names.{shared_stays}
use Rattle.link_rules.proofs.Result.{variable_keys, function_keys, keys_merged, variables_merged, functions_merged, symbols_merged}
use Rattle.link_rules.proofs.SameShapes.{StructsFine, shape_same}
use Rattle.link_rules.specs.Carried.{merged, IsSymbol, carry, moved}
use Rattle.link_rules.specs.Merges.{Merges}
use Rattle.link_rules.proofs.Searches.{all_front, all_back}

-- LISTS

same_truth : (a b : Bool) → (a ≡ true → b ≡ true) → (b ≡ true → a ≡ true) → a ≡ b
same_truth true b f g = sym (f refl)
same_truth false true f g = g refl
same_truth false false f g = refl

-- where none is the same as a later one, each stands at one place
one_at : {A : Type 0} (same : A → A → Bool) → ((x : A) → same x x ≡ true) → (xs : List A) (a b : ℕ) (x : A) → Apart same xs → slice_get xs a ≡ Some x → slice_get xs b ≡ Some x → a ≡ b
one_at same self [] a b x p h k = cc
one_at same self (y ∷ xs) zero zero x p h k = refl
one_at same self (y ∷ xs) zero (suc b) x p h k = absurd (both_ways (same x x) (subst (λ z. same z x ≡ false) (same_Some y x h) (none_at (same y) xs b x p.0 k)) (self x))
one_at same self (y ∷ xs) (suc a) zero x p h k = absurd (both_ways (same x x) (subst (λ z. same z x ≡ false) (same_Some y x k) (none_at (same y) xs a x p.0 h)) (self x))
one_at same self (y ∷ xs) (suc a) (suc b) x p h k = ap suc (one_at same self xs a b x p.1 h k)

as_listed : (o : Option Entry) → listed o ≡ option_to_list o
as_listed None = refl
as_listed (Some e) = refl

rows_carried : (new : Symbol → Symbol) (rows : List Row) (ss : List Symbol) → AllByRecursion (λ (r : Row). as_row r ≡ new r.0) rows → map (λ (r : Row). r.0) rows ≡ ss → map as_row rows ≡ map new ss
rows_carried new rows ss a h = go rows a ∙ ap (map new) h
  where
    go : (rs : List Row) → AllByRecursion (λ (r : Row). as_row r ≡ new r.0) rs → map as_row rs ≡ map new (map (λ (r : Row). r.0) rs)
    go [] a = refl
    go (r ∷ rs) a = ap₂ (λ x xs. x ∷ xs) a.0 (go rs a.1)

module _ (parts : List Module) where
  -- ROWS

  name_at : (k : ℕ) (s : Symbol) (m : Bytes) → slice_get (renaming parts) k ≡ Some (s, m) → new_name_of parts s ≡ m
  name_at k s m at = ap (name_or (symbol_name s)) (lookup_at same_symbol symbol_self symbol_exact (renaming parts) k s m (subst (Apart same_symbol) (sym (keys parts)) (symbols_apart parts)) at)

  carried_at : (k : ℕ) (s : Symbol) (m : Bytes) → slice_get (renaming parts) k ≡ Some (s, m) → as_renamed s m ≡ carry parts s
  carried_at k (Shared n) m at = ap Shared (shared_stays base_of (all_names parts) (shared_names (symbols parts)) (symbols parts) k n m at)
  carried_at k (Local i n) m at = ap (Local 0) (sym (name_at k (Local i n) m at))

  all_carried : AllByRecursion (λ (r : Row). as_row r ≡ carry parts r.0) (renaming parts)
  all_carried = all_from_at _ (renaming parts) (λ k r at. carried_at k r.0 r.1 at)

  split_carried : AllByRecursion (λ (r : Row). as_row r ≡ carry parts r.0) (variable_rows parts ++ function_rows parts ++ alias_rows parts)
  split_carried = subst (AllByRecursion (λ (r : Row). as_row r ≡ carry parts r.0)) (renaming_split parts) all_carried

  pub record RowOf (s : Symbol) : Type 0 where
    pub place : ℕ
    pub at : slice_get (renaming parts) place ≡ Some (s, new_name_of parts s)
    pub is : as_renamed s (new_name_of parts s) ≡ carry parts s

  row_for : (s : Symbol) → IsSymbol parts s → RowOf s
  row_for s here =
      let found = at_has same_symbol symbol_self symbol_exact (symbols parts) s here in
      let row = row_of (renaming parts) found.0 s (ap (λ l. slice_get l found.0) (keys parts) ∙ found.1) in
      let at = subst (λ m. slice_get (renaming parts) found.0 ≡ Some (s, m)) (sym (name_at found.0 s row.0 row.1)) row.1 in
      record { place = found.0; at = at; is = carried_at found.0 s (new_name_of parts s) at }

  -- NO TWO BECOME ONE

  same_back : (s t : Symbol) → IsSymbol parts s → IsSymbol parts t → same_symbol (carry parts s) (carry parts t) ≡ true → same_symbol s t ≡ true
  same_back s t here there h =
      let a = row_for s here in
      let b = row_for t there in
      let at : slice_get (map as_row (renaming parts)) a.place ≡ Some (carry parts t) = slice_get-map as_row (renaming parts) a.place ∙ ap (option_map as_row) a.at ∙ ap Some (a.is ∙ symbol_exact (carry parts s) (carry parts t) h) in
      let other : slice_get (map as_row (renaming parts)) b.place ≡ Some (carry parts t) = slice_get-map as_row (renaming parts) b.place ∙ ap (option_map as_row) b.at ∙ ap Some b.is in
      let places = one_at same_symbol symbol_self (map as_row (renaming parts)) a.place b.place (carry parts t) (rows_apart (renaming parts) (names parts)) at other in
      let rows = same_Some (s, new_name_of parts s) (t, new_name_of parts t) (sym a.at ∙ ap (slice_get (renaming parts)) places ∙ b.at) in
      subst (λ u. same_symbol s u ≡ true) (ap (λ (r : Row). r.0) rows) (symbol_self s)

  apart : (s t : Symbol) → IsSymbol parts s → IsSymbol parts t → same_symbol (carry parts s) (carry parts t) ≡ same_symbol s t
  apart s t here there =
      same_truth (same_symbol (carry parts s) (carry parts t)) (same_symbol s t) (same_back s t here there)
      (λ h. subst (λ u. same_symbol (carry parts s) (carry parts u) ≡ true) (symbol_exact s t h) (symbol_self (carry parts s)))

  shared_carried : (ss : List Symbol) (n : Bytes) → has same_symbol (map (carry parts) ss) (Shared n) ≡ has same_symbol ss (Shared n)
  shared_carried [] n = refl
  shared_carried (Shared m ∷ ss) n = ap (λ b. same_symbol (Shared n) (Shared m) || b) (shared_carried ss n)
  shared_carried (Local i m ∷ ss) n = shared_carried ss n

  no_home : (ms : List Module) (s : Symbol) → has same_symbol (map symbol_of (entries ms)) s ≡ false → home ms s ≡ None
  no_home ms s h = ap (λ es. best ms (filter is_definition es)) (filter_none same_symbol symbol_self symbol_exact symbol_of (λ e. true) s (entries ms) h)

  undefined_is : (s : Symbol) (m : Bytes) (together : GoTogether parts) → carried parts together s m (undefined parts s) ≡ undefined parts s
  undefined_is (Local i n) m together = refl
  undefined_is (Shared n) m together = go (is_function_symbol parts (Shared n) && is_some (host_row n)) (all_extern_weak parts (Shared n))
    where
      go : (b c : Bool) → carried parts together (Shared n) m (if b then Host n else (if c then Null else Unresolved)) ≡ (if b then Host n else (if c then Null else Unresolved))
      go true c = refl
      go false true = refl
      go false false = refl

module _ (parts : List Module) (together : GoTogether parts) (targets : TargetsKnown parts) (fine : StructsFine parts) where
  homes : (s : Symbol) → IsSymbol parts s → home (merged parts) (carry parts s) ≡ option_map (moved parts s) (home parts s)
  homes s here = let row = row_for parts s here in ap (home (merged parts)) (sym row.is) ∙ merged_home parts together row.place s (new_name_of parts s) row.at

  undefined_same : (s : Symbol) → IsSymbol parts s → home parts s ≡ None → undefined (merged parts) (carry parts s) ≡ undefined parts s
  undefined_same s here none =
      let row = row_for parts s here in
      sym (ap (bound_to (merged parts) (carry parts s)) (homes s here ∙ ap (option_map (moved parts s)) none))
      ∙ ap (own_meaning (merged parts)) (sym row.is) ∙ own_meaning_merged parts together row.place s (new_name_of parts s) row.at
      ∙ ap (λ o. carried parts together s (new_name_of parts s) (bound_to parts s o)) none ∙ undefined_is parts s (new_name_of parts s) together

  all : symbols (merged parts) ≡ map (carry parts) (symbols parts)
  all = symbols_merged parts together ∙ rows_carried (carry parts) (renaming parts) (symbols parts) (all_carried parts) (keys parts)

  absent : (n : Bytes) → has same_symbol (symbols parts) (Shared n) ≡ false → (home parts (Shared n) ≡ None) × (home (merged parts) (Shared n) ≡ None)
  absent n gone = (
    no_home parts parts (Shared n) (false_from_ne_true _ (λ h. both_ways _ gone (is_symbol parts (Shared n) h))),
    no_home parts (merged parts) (Shared n)
        (ap (λ l. has same_symbol l (Shared n)) (keys_merged parts together ∙ rows_carried (carry parts) (renaming parts) (symbols parts) (all_carried parts) (keys parts))
        ∙ shared_carried parts (symbols parts) n ∙ gone),
  )

  pub merging : Merges parts
  merging = record {
    variables = variables_merged parts together ∙ rows_carried (carry parts) (variable_rows parts) (variable_symbols parts) (all_front _ (variable_rows parts) (function_rows parts) (all_front _ (variable_rows parts ++ function_rows parts) (alias_rows parts) (split_carried parts))) (variable_keys parts);
    functions = functions_merged parts together ∙ rows_carried (carry parts) (function_rows parts) (function_symbols parts) (all_back _ (variable_rows parts) (function_rows parts) (all_front _ (variable_rows parts ++ function_rows parts) (alias_rows parts) (split_carried parts))) (function_keys parts);
    all = all;
    apart = apart parts;
    homes = homes;
    defined_once = λ s here. let row = row_for parts s here in ap (definitions (merged parts)) (sym row.is) ∙ merged_definitions parts together row.place s (new_name_of parts s) row.at ∙ as_listed (option_map (moved parts s) (home parts s));
    undefined_same = undefined_same;
    absent = absent;
    behinds = λ s here.
        let row = row_for parts s here in
        let back = behind_row parts together targets row.place s (new_name_of parts s) row.at in
        ap (behind (merged parts)) (sym row.is) ∙ back.same ∙ carried_at parts back.place (behind parts s) back.new back.at;
    names = λ i name known.
        let row = name_row parts together i name known in
        ap (symbol_in (merged parts) 0) row.named ∙ row.symbol_same ∙ carried_at parts row.place (symbol_in parts i name) row.new row.at;
    shapes = shape_same parts fine;
  }
