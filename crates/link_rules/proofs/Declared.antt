-- A name that a part has an entry for is of a symbol.
use Rattle.std.proofs.Common.{◌≡◌, ℕ, zero, suc, ◌+◌, Bool, true, false, ◌&&◌, ◌⊎◌, inl, inr, List, [], ◌∷◌, map, refl, sym, ap, ap₂, ◌∙◌, subst, nat_eq, bytes_eq, arith}
use Rattle.std.specs.Prelude.{slice_index_or}
use Rattle.std.specs.List.{list_any}
use Rattle.std.proofs.lemmas.Bool.{or_left, or_right, or_cases, and_from, and_parts, cond-true, cond-false, both_ways, eqb-true}
use Rattle.std.proofs.lemmas.Cmp.{nat_eq_equiv}
use Rattle.module_arena.specs.Module.{Bytes, Module, empty_module}
use Rattle.linkage_rules.specs.Globals.{Global, name_of, linkage_of, globals}
use Rattle.linkage_rules.specs.Linkages.{is_local}
use Rattle.linkage_rules.specs.Lists.{has}
use Rattle.linkage_rules.specs.Entries.{Entry, entries_from, entries, part_at, same_symbol, symbol_of, symbol_in}
use Rattle.linkage_rules.specs.declared.symbol.Symbol.TheVariants.{Shared, Local}
use Rattle.linkage_rules.specs.Symbols.{symbols}
use Rattle.linkage_rules.specs.SymbolLaws.{name_exact, symbol_self}
use Rattle.link_rules.proofs.Agreed.{is_symbol, any_left, any_right}

-- part i has an entry of the name
abbrev pub HasEntry : List Module → ℕ → Bytes → Type 0
HasEntry parts i name = list_any (λ g. bytes_eq name (name_of g)) (globals (part_at parts i)) ≡ true

abbrev stands : ℕ → Bytes → Entry → Bool
stands i name e = nat_eq i e.part && bytes_eq name (name_of e.global)

in_part : (i : ℕ) (name : Bytes) (gs : List Global) → list_any (λ g. bytes_eq name (name_of g)) gs ≡ true → list_any (stands i name) (map (λ g. let e : Entry = record { part = i; global = g } in e) gs) ≡ true
in_part i name [] h = cc
in_part i name (g ∷ gs) h = go (or_cases (bytes_eq name (name_of g)) _ h) (in_part i name gs)
  where
    go : (bytes_eq name (name_of g) ≡ true) ⊎ (list_any (λ x. bytes_eq name (name_of x)) gs ≡ true) → (list_any (λ x. bytes_eq name (name_of x)) gs ≡ true → list_any (stands i name) (map (λ x. let e : Entry = record { part = i; global = x } in e) gs) ≡ true) → list_any (stands i name) (map (λ x. let e : Entry = record { part = i; global = x } in e) (g ∷ gs)) ≡ true
    go (inl k) more = or_left _ _ (and_from _ _ (nat_eq_equiv.refl i) k)
    go (inr k) more = or_right _ _ (more k)

entry_there : (j : ℕ) (ms : List Module) (i : ℕ) (name : Bytes) → list_any (λ g. bytes_eq name (name_of g)) (globals (slice_index_or ms i empty_module)) ≡ true → list_any (stands (j + i) name) (entries_from j ms) ≡ true
entry_there j [] i name h = cc
entry_there j (m ∷ ms) zero name h =
    let same : j + 0 ≡ j = omega arith in
    subst (λ n. list_any (stands n name) (entries_from j (m ∷ ms)) ≡ true) (sym same) (any_left (stands j name) _ (entries_from (suc j) ms) (in_part j name (globals m) h))
entry_there j (m ∷ ms) (suc i) name h =
    let same : j + suc i ≡ suc j + i = omega arith in
    subst (λ n. list_any (stands n name) (entries_from j (m ∷ ms)) ≡ true) (sym same) (any_right (stands (suc j + i) name) _ (entries_from (suc j) ms) (entry_there (suc j) ms i name h))

either : (i : ℕ) (name : Bytes) (es : List Entry) → list_any (stands i name) es ≡ true → (has same_symbol (map symbol_of es) (Local i name) ≡ true) ⊎ (has same_symbol (map symbol_of es) (Shared name) ≡ true)
either i name [] h = cc
either i name (e ∷ es) h = go (or_cases (stands i name e) _ h) (either i name es)
  where
    here : (b : Bool) → is_local (linkage_of e.global) ≡ b → i ≡ e.part → name ≡ name_of e.global → (same_symbol (Local i name) (symbol_of e) ≡ true) ⊎ (same_symbol (Shared name) (symbol_of e) ≡ true)
    here true t p n = inl (subst (λ s. same_symbol (Local i name) s ≡ true) (ap₂ Local p n ∙ sym (cond-true (is_local (linkage_of e.global)) _ _ t)) (symbol_self (Local i name)))
    here false t p n = inr (subst (λ s. same_symbol (Shared name) s ≡ true) (ap Shared n ∙ sym (cond-false (is_local (linkage_of e.global)) _ _ t)) (symbol_self (Shared name)))

    first_of : (same_symbol (Local i name) (symbol_of e) ≡ true) ⊎ (same_symbol (Shared name) (symbol_of e) ≡ true) → (has same_symbol (map symbol_of (e ∷ es)) (Local i name) ≡ true) ⊎ (has same_symbol (map symbol_of (e ∷ es)) (Shared name) ≡ true)
    first_of (inl k) = inl (or_left _ _ k)
    first_of (inr k) = inr (or_left _ _ k)

    later : (has same_symbol (map symbol_of es) (Local i name) ≡ true) ⊎ (has same_symbol (map symbol_of es) (Shared name) ≡ true) → (has same_symbol (map symbol_of (e ∷ es)) (Local i name) ≡ true) ⊎ (has same_symbol (map symbol_of (e ∷ es)) (Shared name) ≡ true)
    later (inl k) = inl (or_right _ _ k)
    later (inr k) = inr (or_right _ _ k)

    go : (stands i name e ≡ true) ⊎ (list_any (stands i name) es ≡ true) → (list_any (stands i name) es ≡ true → (has same_symbol (map symbol_of es) (Local i name) ≡ true) ⊎ (has same_symbol (map symbol_of es) (Shared name) ≡ true)) → (has same_symbol (map symbol_of (e ∷ es)) (Local i name) ≡ true) ⊎ (has same_symbol (map symbol_of (e ∷ es)) (Shared name) ≡ true)
    go (inl k) more =
        let halves = and_parts (nat_eq i e.part) _ k in
        first_of (here (is_local (linkage_of e.global)) refl (eqb-true i e.part halves.0) (name_exact name (name_of e.global) halves.1))
    go (inr k) more = later (more k)

-- what a name that the part has an entry for is of, is a symbol
pub is_declared : (parts : List Module) (i : ℕ) (name : Bytes) → HasEntry parts i name → has same_symbol (symbols parts) (symbol_in parts i name) ≡ true
is_declared parts i name h = is_symbol parts (symbol_in parts i name) (go (has same_symbol (map symbol_of (entries parts)) (Local i name)) refl (either i name (entries parts) (subst (λ n. list_any (stands n name) (entries parts) ≡ true) same (entry_there 0 parts i name h))))
  where
    same : 0 + i ≡ i
    same = omega arith

    go : (b : Bool) → has same_symbol (map symbol_of (entries parts)) (Local i name) ≡ b → (has same_symbol (map symbol_of (entries parts)) (Local i name) ≡ true) ⊎ (has same_symbol (map symbol_of (entries parts)) (Shared name) ≡ true) → has same_symbol (map symbol_of (entries parts)) (symbol_in parts i name) ≡ true
    go true t either_one = subst (λ s. has same_symbol (map symbol_of (entries parts)) s ≡ true) (sym (cond-true (has same_symbol (map symbol_of (entries parts)) (Local i name)) (Local i name) (Shared name) t)) t
    go false t (inl k) = absurd (both_ways _ t k)
    go false t (inr k) = subst (λ s. has same_symbol (map symbol_of (entries parts)) s ≡ true) (sym (cond-false (has same_symbol (map symbol_of (entries parts)) (Local i name)) (Local i name) (Shared name) t)) k
