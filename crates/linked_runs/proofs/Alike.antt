-- Of the entries of a symbol, all are appended or none, where no conflict is told.
use Rattle.std.proofs.Common.{◌≡◌, ℕ, zero, suc, true, false, List, [], ◌∷◌, map, Some, None, refl, sym, ap, ◌∙◌, subst, nat_eq, bytes_eq}
use Rattle.std.specs.Prelude.{slice_get}
use Rattle.std.specs.List.{AllByRecursion}
use Rattle.std.proofs.lemmas.Bool.{or_left, or_right, and_from}
use Rattle.std.proofs.lemmas.Cmp.{nat_eq_equiv}
use Rattle.std.proofs.lemmas.Option.{same_Some}
use Rattle.module_arena.specs.Module.{Bytes, Module}
use Rattle.linkage_rules.specs.declared.conflict.ConflictKind.TheVariants.{AppendingAndPlain}
use Rattle.linkage_rules.specs.Conflicts.{conflict_kinds, appends, clash, found_conflict, conflicts_of_kind, conflicts_of, conflicts, first_conflict}
use Rattle.linkage_rules.specs.Entries.{Entry, entries, same_symbol, symbol_of, mentions}
use Rattle.linkage_rules.specs.declared.symbol.Symbol.{Symbol}
use Rattle.linkage_rules.specs.declared.symbol.Symbol.TheVariants.{Shared, Local}
use Rattle.linkage_rules.specs.Globals.{name_of, linkage_of}
use Rattle.linkage_rules.specs.Linkages.{is_local}
use Rattle.linkage_rules.specs.Lists.{has, pairs}
use Rattle.linkage_rules.specs.Symbols.{symbols}
use Rattle.link_rules.proofs.Agreed.{AreDistinct, filter_at, all_from_at, nothing_from, nothing_mapped, none_passes, first_none, is_symbol, same_place, entries_apart, one_place, symbol_parts, agreed, pair_at, pairs_behind}
use Rattle.link_rules.proofs.Apart.{at_has}
use Rattle.linkage_rules.specs.SymbolLaws.{name_self, symbol_self, symbol_exact}
use Rattle.linked_runs.proofs.Known.{AppendAlike}

same_at : (parts : List Module) (es : List Entry) → AllByRecursion (λ pair. clash parts AppendingAndPlain pair.0 pair.1 ≡ false) (pairs es) → (a b : ℕ) (d e : Entry) → slice_get es a ≡ Some d → slice_get es b ≡ Some e → appends d ≡ appends e
same_at parts [] p a b d e h i = cc
same_at parts (x ∷ es) p zero zero d e h i = ap appends (sym (same_Some x d h) ∙ same_Some x e i)
same_at parts (x ∷ es) p zero (suc b) d e h i = ap appends (sym (same_Some x d h)) ∙ agreed _ _ (pair_at (λ pair. clash parts AppendingAndPlain pair.0 pair.1 ≡ false) es es x b e p i)
same_at parts (x ∷ es) p (suc a) zero d e h i = sym (agreed _ _ (pair_at (λ pair. clash parts AppendingAndPlain pair.0 pair.1 ≡ false) es es x a d p h)) ∙ ap appends (same_Some x e i)
same_at parts (x ∷ es) p (suc a) (suc b) d e h i = same_at parts es (pairs_behind (λ pair. clash parts AppendingAndPlain pair.0 pair.1 ≡ false) es es x p) a b d e h i

module _ (parts : List Module) (distinct : AllByRecursion AreDistinct parts) (none : first_conflict parts ≡ None) where
  none_clash : (n : Bytes) → has same_symbol (symbols parts) (Shared n) ≡ true → AllByRecursion (λ pair. clash parts AppendingAndPlain pair.0 pair.1 ≡ false) (pairs (mentions parts n))
  none_clash n there =
      let found = at_has same_symbol symbol_self symbol_exact (symbols parts) (Shared n) there in
      let of_name = nothing_from (conflicts_of parts) (symbols parts) found.0 (Shared n) (first_none (conflicts parts) none) found.1 in
      let of_kind = nothing_from (conflicts_of_kind parts n) conflict_kinds 2 AppendingAndPlain of_name refl in
      none_passes (λ pair. clash parts AppendingAndPlain pair.0 pair.1) (pairs (mentions parts n)) (nothing_mapped (found_conflict AppendingAndPlain n) _ of_kind)

  append_by : (s : Symbol) (a b : ℕ) (d e : Entry) → symbol_of d ≡ s → symbol_of e ≡ s → slice_get (entries parts) a ≡ Some d → slice_get (entries parts) b ≡ Some e → appends d ≡ appends e
  append_by (Shared n) a b d e p q h i =
      let there = is_symbol parts (Shared n) (subst (λ s. has same_symbol (map symbol_of (entries parts)) s ≡ true) p (key_at (entries parts) a d h)) in
      let first_at = filter_at (λ x. same_symbol (Shared n) (symbol_of x)) (entries parts) a d h (subst (λ s. same_symbol (Shared n) s ≡ true) (sym p) (symbol_self (Shared n))) in
      let other_at = filter_at (λ x. same_symbol (Shared n) (symbol_of x)) (entries parts) b e i (subst (λ s. same_symbol (Shared n) s ≡ true) (sym q) (symbol_self (Shared n))) in
      same_at parts (mentions parts n) (none_clash n there) first_at.0 other_at.0 d e first_at.1 other_at.1
    where
      key_at : (es : List Entry) (k : ℕ) (x : Entry) → slice_get es k ≡ Some x → has same_symbol (map symbol_of es) (symbol_of x) ≡ true
      key_at [] k x h = cc
      key_at (y ∷ es) zero x h = or_left _ _ (subst (λ z. same_symbol (symbol_of x) (symbol_of z) ≡ true) (sym (same_Some y x h)) (symbol_self (symbol_of x)))
      key_at (y ∷ es) (suc k) x h = or_right _ _ (key_at es k x h)
  append_by (Local j m) a b d e p q h i =
      let one = symbol_parts (is_local (linkage_of d.global)) d.part j (name_of d.global) m p in
      let other = symbol_parts (is_local (linkage_of e.global)) e.part j (name_of e.global) m q in
      let alike : same_place d e ≡ true = and_from _ _ (subst (λ n. nat_eq d.part n ≡ true) (one.0 ∙ sym other.0) (nat_eq_equiv.refl d.part)) (subst (λ n. bytes_eq (name_of d.global) n ≡ true) (one.1 ∙ sym other.1) (name_self (name_of d.global))) in
      ap appends (one_place (entries parts) a b d e (entries_apart 0 parts distinct) h i alike)

  pub append_alike : AllByRecursion (AppendAlike parts) (entries parts)
  append_alike = all_from_at _ (entries parts) (λ a d h. all_from_at _ (entries parts) (λ b e i t. append_by (symbol_of d) b a e d (sym (symbol_exact (symbol_of d) (symbol_of e) t)) refl i h))
