-- A definition that no other suffers or replaces is the one that counts, and so what an alias is of is in the linked module
-- such a definition still.
use Rattle.std.proofs.Common.{◌≡◌, ℕ, zero, suc, ◌<◌, ◌≤◌, Bool, true, false, not, ◌&&◌, ◌||◌, ◌⊎◌, inl, inr, List, [], ◌∷◌, Option, Some, None, refl, sym, ap, ◌∙◌, subst, bytes_eq, nat_eq, nat_lt, arith, ltb-true, ltb-false}
use Rattle.std.specs.Prelude.{slice_get, if◌then◌else◌}
use Rattle.std.specs.List.{AllByRecursion}
use Rattle.std.proofs.lemmas.Bool.{and_from, or_left, cases_Bool, cond-true, cond-false, eqb-true, eqb-false}
use Rattle.std.proofs.lemmas.Cmp.{nat_eq_equiv}
use Rattle.std.proofs.lemmas.Option.{same_Some}
use Rattle.ir_tables.specs.declared.linkage.Linkage.{Linkage}
use Rattle.ir_tables.specs.declared.linkage.Linkage.TheVariants.{External, Private, Internal, Common, Appending, ExternWeak, AvailableExternally, Linkonce, LinkonceOdr, Weak, WeakOdr}
use Rattle.module_arena.specs.Module.{Bytes, Module}
use Rattle.linkage_rules.specs.Globals.{name_of, linkage_of}
use Rattle.linkage_rules.specs.Linkages.{is_local, is_appending, is_common, is_external, rank}
use Rattle.linkage_rules.specs.Entries.{Entry, entries, same_symbol, symbol_of, entries_of, mentions}
use Rattle.linkage_rules.specs.declared.symbol.Symbol.{Symbol}
use Rattle.linkage_rules.specs.declared.symbol.Symbol.TheVariants.{Shared, Local}
use Rattle.linkage_rules.specs.Winner.{is_definition, gives_way, better, best, definitions, home}
use Rattle.linkage_rules.specs.declared.conflict.ConflictKind.{ConflictKind}
use Rattle.linkage_rules.specs.declared.conflict.ConflictKind.TheVariants.{TwoStrong, AppendingAndPlain}
use Rattle.linkage_rules.specs.Conflicts.{clash}
use Rattle.linkage_rules.specs.SameShape.{agree}
use Rattle.linkage_rules.specs.SymbolLaws.{name_self, symbol_self, symbol_exact}
use Rattle.linkage_rules.proofs.Entries.{all_passing, all_follow}
use Rattle.link_rules.proofs.Symbols.{best_has}
use Rattle.link_rules.proofs.Agreed.{AreDistinct, filter_at, all_from_at, entries_apart, one_place}
use Rattle.link_rules.proofs.Conflicting.{contains_at, none_unless_told}
use Rattle.link_rules.specs.Valid.Laws.{AreLinkable}
use Rattle.link_rules.proofs.OnValid.Callees.{local_symbol, shared_symbol}
use Rattle.module_arena.specs.EntryRules as rules
use Rattle.link_rules.proofs.Distinct.{are_distinct}

-- THE BEST OF SOME

module _ (parts : List Module) where
  -- d, or something that d is to be preferred to
  abbrev IsBehind : Entry → Entry → Type 0
  IsBehind d x = (x ≡ d) ⊎ ((gives_way parts x d ≡ true) × (gives_way parts d x ≡ false))

  better_first : (d : Entry) (o : Option Entry) → ((y : Entry) → o ≡ Some y → IsBehind d y) → better parts d o ≡ Some d
  better_first d None h = refl
  better_first d (Some y) h = go (h y refl)
    where
      go : IsBehind d y → better parts d (Some y) ≡ Some d
      go (inl e) = subst (λ z. (if gives_way parts d z then Some z else Some d) ≡ Some d) (sym e) (same (gives_way parts d d))
        where
          same : (b : Bool) → (if b then Some d else Some d) ≡ Some d
          same true = refl
          same false = refl
      go (inr p) = cond-false (gives_way parts d y) _ _ p.1

  better_last : (x d : Entry) → IsBehind d x → better parts x (Some d) ≡ Some d
  better_last x d (inl e) = subst (λ z. (if gives_way parts z d then Some d else Some z) ≡ Some d) (sym e) (same (gives_way parts d d))
    where
      same : (b : Bool) → (if b then Some d else Some d) ≡ Some d
      same true = refl
      same false = refl
  better_last x d (inr p) = cond-true (gives_way parts x d) _ _ p.0

  best_is : (es : List Entry) (k : ℕ) (d : Entry) → slice_get es k ≡ Some d → AllByRecursion (IsBehind d) es → best parts es ≡ Some d
  best_is [] k d at a = cc
  best_is (x ∷ es) zero d at a =
      ap (λ z. better parts z (best parts es)) (same_Some x d at) ∙ better_first d (best parts es) (λ y e. best_has parts (IsBehind d) es y a.1 e)
  best_is (x ∷ es) (suc k) d at a = ap (better parts x) (best_is es k d at a.1) ∙ better_last x d a.0

-- OTHER DEFINITIONS OF THE NAME

lasting_external : (l : Linkage) → rules.is_lasting l ≡ true → is_local l ≡ false → is_external l ≡ true
lasting_external External h f = refl
lasting_external Private h f = cc
lasting_external Internal h f = cc
lasting_external Appending h f = cc
lasting_external Common h f = cc
lasting_external ExternWeak h f = cc
lasting_external AvailableExternally h f = cc
lasting_external Linkonce h f = cc
lasting_external LinkonceOdr h f = cc
lasting_external Weak h f = cc
lasting_external WeakOdr h f = cc

-- of the linkages that are not local, external outranks all that are neither external nor appending
outranked : (l k : Linkage) → is_external l ≡ true → is_local k ≡ false → is_external k ≡ false → is_appending k ≡ false → (nat_lt (rank k) (rank l) ≡ true) × ((nat_lt (rank l) (rank k) ≡ false) × (is_common l ≡ false))
outranked External Common e f g h = (refl, (refl, refl))
outranked External Weak e f g h = (refl, (refl, refl))
outranked External WeakOdr e f g h = (refl, (refl, refl))
outranked External Linkonce e f g h = (refl, (refl, refl))
outranked External LinkonceOdr e f g h = (refl, (refl, refl))
outranked External AvailableExternally e f g h = (refl, (refl, refl))
outranked External ExternWeak e f g h = (refl, (refl, refl))
outranked External External e f g h = cc
outranked External Appending e f g h = cc
outranked External Private e f g h = cc
outranked External Internal e f g h = cc
outranked Private k e f g h = cc
outranked Internal k e f g h = cc
outranked Appending k e f g h = cc
outranked Common k e f g h = cc
outranked Weak k e f g h = cc
outranked WeakOdr k e f g h = cc
outranked Linkonce k e f g h = cc
outranked LinkonceOdr k e f g h = cc
outranked AvailableExternally k e f g h = cc
outranked ExternWeak k e f g h = cc

external_plain : (l : Linkage) → is_external l ≡ true → is_appending l ≡ false
external_plain External e = refl
external_plain Private e = cc
external_plain Internal e = cc
external_plain Appending e = cc
external_plain Common e = cc
external_plain Weak e = cc
external_plain WeakOdr e = cc
external_plain Linkonce e = cc
external_plain LinkonceOdr e = cc
external_plain AvailableExternally e = cc
external_plain ExternWeak e = cc

unlike_agree : (a b : Bool) → a ≡ true → b ≡ false → not (agree a b) ≡ true
unlike_agree true false p q = refl
unlike_agree true true p q = cc
unlike_agree false b p q = cc

unlike_agree_back : (a b : Bool) → a ≡ false → b ≡ true → not (agree a b) ≡ true
unlike_agree_back false true p q = refl
unlike_agree_back false false p q = cc
unlike_agree_back true b p q = cc

module _ (parts : List Module) (fine : AreLinkable parts) where
  pub distinct : AllByRecursion AreDistinct parts
  distinct = all_follow _ _ parts (λ m good. are_distinct m good) fine.good

  -- entries of one part and name are one
  pub one_entry : (a b : ℕ) (d e : Entry) → slice_get (entries parts) a ≡ Some d → slice_get (entries parts) b ≡ Some e → d.part ≡ e.part → name_of d.global ≡ name_of e.global → d ≡ e
  one_entry a b d e h i p n =
      one_place (entries parts) a b d e (entries_apart 0 parts distinct) h i
      (and_from _ _ (subst (λ k. nat_eq d.part k ≡ true) p (nat_eq_equiv.refl d.part)) (subst (λ k. bytes_eq (name_of d.global) k ≡ true) n (name_self (name_of d.global))))

  pub no_clash : (kind : ConflictKind) (n : Bytes) (a b : ℕ) (d e : Entry) → slice_get (entries parts) a ≡ Some d → slice_get (entries parts) b ≡ Some e → symbol_of d ≡ Shared n → symbol_of e ≡ Shared n → d.part < e.part → clash parts kind d e ≡ true → ⊥
  no_clash kind n a b d e h i p q below c =
      let one = filter_at (λ x. same_symbol (Shared n) (symbol_of x)) (entries parts) a d h (subst (λ s. same_symbol (Shared n) s ≡ true) (sym p) (symbol_self (Shared n))) in
      let other = filter_at (λ x. same_symbol (Shared n) (symbol_of x)) (entries parts) b e i (subst (λ s. same_symbol (Shared n) s ≡ true) (sym q) (symbol_self (Shared n))) in
      none_unless_told parts distinct fine.agree kind n d.part e.part (record { one = d; other = e; one_is = contains_at (mentions parts n) one.0 d one.1; other_is = contains_at (mentions parts n) other.0 e other.1; one_part = refl; other_part = refl; in_order = below; clashes = c })

  -- an external definition comes before all others of its name
  module _ (a : ℕ) (d : Entry) (d_at : slice_get (entries parts) a ≡ Some d) (defined : is_definition d ≡ true) (lasting : rules.is_lasting (linkage_of d.global) ≡ true) where
    shared_behind : (n : Bytes) (b : ℕ) (x : Entry) → slice_get (entries parts) b ≡ Some x → symbol_of d ≡ Shared n → symbol_of x ≡ Shared n → is_definition x ≡ true → is_local (linkage_of d.global) ≡ false → is_local (linkage_of x.global) ≡ false → IsBehind parts d x
    shared_behind n b x x_at p q x_defined f g = by_part (cases_Bool (nat_eq x.part d.part)) (cases_Bool (nat_lt x.part d.part))
      where
        external : is_external (linkage_of d.global) ≡ true
        external = lasting_external (linkage_of d.global) lasting f

        named : name_of x.global ≡ name_of d.global
        named = let same : Shared (name_of x.global) ≡ Shared (name_of d.global) = sym (shared_symbol x g) ∙ q ∙ sym p ∙ shared_symbol d f in cc

        -- a conflict, whichever comes first
        conflict_before : (kind : ConflictKind) → x.part < d.part → clash parts kind x d ≡ true → ⊥
        conflict_before kind below c = no_clash kind n b a x d x_at d_at q p below c

        conflict_after : (kind : ConflictKind) → d.part < x.part → clash parts kind d x ≡ true → ⊥
        conflict_after kind below c = no_clash kind n a b d x d_at x_at p q below c

        by_linkage : ((kind : ConflictKind) → (clash parts kind x d ≡ true) × (clash parts kind d x ≡ true) → ⊥) → (is_external (linkage_of x.global) ≡ true) ⊎ (is_external (linkage_of x.global) ≡ false) → (is_appending (linkage_of x.global) ≡ true) ⊎ (is_appending (linkage_of x.global) ≡ false) → IsBehind parts d x
        by_linkage never (inl t) o = absurd (never TwoStrong (and_from _ _ (and_from _ _ x_defined t) (and_from _ _ defined external), and_from _ _ (and_from _ _ defined external) (and_from _ _ x_defined t)))
        by_linkage never (inr u) (inl t) = absurd (never AppendingAndPlain (unlike_agree _ _ t (external_plain (linkage_of d.global) external), unlike_agree_back _ _ (external_plain (linkage_of d.global) external) t))
        by_linkage never (inr u) (inr v) =
            let r = outranked (linkage_of d.global) (linkage_of x.global) external g u v in
            inr (or_left _ _ r.0, neither _ _ r.1.0 (both_not _ _ (both_not _ _ r.1.1)))
          where
            neither : (m k : Bool) → m ≡ false → k ≡ false → (m || k) ≡ false
            neither false false p q = refl
            neither true k p q = cc
            neither false true p q = cc

            both_not : (m k : Bool) → m ≡ false → (m && k) ≡ false
            both_not false k p = refl
            both_not true k p = cc

        by_part : (nat_eq x.part d.part ≡ true) ⊎ (nat_eq x.part d.part ≡ false) → (nat_lt x.part d.part ≡ true) ⊎ (nat_lt x.part d.part ≡ false) → IsBehind parts d x
        by_part (inl t) o = inl (one_entry b a x d x_at d_at (eqb-true x.part d.part t) named)
        by_part (inr u) (inl t) = by_linkage (λ kind c. conflict_before kind (ltb-true x.part d.part t) c.0) (cases_Bool (is_external (linkage_of x.global))) (cases_Bool (is_appending (linkage_of x.global)))
        by_part (inr u) (inr v) =
            by_linkage (λ kind c. conflict_after kind (after (ltb-false x.part d.part v)) c.1) (cases_Bool (is_external (linkage_of x.global))) (cases_Bool (is_appending (linkage_of x.global)))
          where
            after : d.part ≤ x.part → d.part < x.part
            after h = let ne = eqb-false x.part d.part u in omega arith

    local_behind : (j : ℕ) (n : Bytes) (b : ℕ) (x : Entry) → slice_get (entries parts) b ≡ Some x → symbol_of d ≡ Local j n → symbol_of x ≡ Local j n → is_local (linkage_of d.global) ≡ true → is_local (linkage_of x.global) ≡ true → IsBehind parts d x
    local_behind j n b x x_at p q f g =
        let same : Local x.part (name_of x.global) ≡ Local d.part (name_of d.global) = sym (local_symbol x g) ∙ q ∙ sym p ∙ local_symbol d f in
        let part : x.part ≡ d.part = cc in
        let named : name_of x.global ≡ name_of d.global = cc in
        inl (one_entry b a x d x_at d_at part named)

    kind_of_symbol : (x : Entry) → (s : Symbol) → symbol_of x ≡ s → ((j : ℕ) × (n : Bytes) × (s ≡ Local j n) × (is_local (linkage_of x.global) ≡ true)) ⊎ ((n : Bytes) × (s ≡ Shared n) × (is_local (linkage_of x.global) ≡ false))
    kind_of_symbol x s p = go (cases_Bool (is_local (linkage_of x.global)))
      where
        go : (is_local (linkage_of x.global) ≡ true) ⊎ (is_local (linkage_of x.global) ≡ false) → ((j : ℕ) × (n : Bytes) × (s ≡ Local j n) × (is_local (linkage_of x.global) ≡ true)) ⊎ ((n : Bytes) × (s ≡ Shared n) × (is_local (linkage_of x.global) ≡ false))
        go (inl t) = inl (x.part, name_of x.global, sym p ∙ local_symbol x t, t)
        go (inr f) = inr (name_of x.global, sym p ∙ shared_symbol x f, f)

    behind : (b : ℕ) (x : Entry) → slice_get (entries parts) b ≡ Some x → symbol_of x ≡ symbol_of d → is_definition x ≡ true → IsBehind parts d x
    behind b x x_at same x_defined = go (kind_of_symbol d (symbol_of d) refl) (kind_of_symbol x (symbol_of d) same)
      where
        go : ((j : ℕ) × (n : Bytes) × (symbol_of d ≡ Local j n) × (is_local (linkage_of d.global) ≡ true)) ⊎ ((n : Bytes) × (symbol_of d ≡ Shared n) × (is_local (linkage_of d.global) ≡ false)) → ((j : ℕ) × (n : Bytes) × (symbol_of d ≡ Local j n) × (is_local (linkage_of x.global) ≡ true)) ⊎ ((n : Bytes) × (symbol_of d ≡ Shared n) × (is_local (linkage_of x.global) ≡ false)) → IsBehind parts d x
        go (inl l) (inl m) = local_behind l.0 l.1 b x x_at l.2 (same ∙ l.2) l.3 m.3
        go (inr l) (inr m) = shared_behind l.0 b x x_at l.1 (same ∙ l.1) x_defined l.2 m.2
        go (inl l) (inr m) = let differ : Local l.0 l.1 ≡ Shared m.0 = sym l.2 ∙ m.1 in cc
        go (inr l) (inl m) = let differ : Shared l.0 ≡ Local m.0 m.1 = sym l.1 ∙ m.2 in cc

    -- such a definition is the one that counts
    pub lasting_home : home parts (symbol_of d) ≡ Some d
    lasting_home =
        let s = symbol_of d in
        let one = filter_at (λ x. same_symbol s (symbol_of x)) (entries parts) a d d_at (symbol_self s) in
        let two = filter_at is_definition (entries_of parts s) one.0 d one.1 defined in
        let all : AllByRecursion (λ x. same_symbol s (symbol_of x) ≡ true → is_definition x ≡ true → IsBehind parts d x) (entries parts) = all_from_at _ (entries parts) (λ b x x_at t u. behind b x x_at (sym (symbol_exact s (symbol_of x) t)) u) in
        best_is parts (definitions parts s) two.0 d two.1
        (all_follow _ _ (definitions parts s) (λ x h. h.0.0 h.0.1 h.1) (all_passing _ is_definition (entries_of parts s) (all_passing _ (λ x. same_symbol s (symbol_of x)) (entries parts) all)))
