-- What a valid alias is of is defined.
use Rattle.std.proofs.Common.{◌≡◌, ℕ, zero, suc, ◌+◌, Bool, true, false, not, ◌&&◌, ◌||◌, ◌⊎◌, inl, inr, List, [], ◌∷◌, ◌++◌, map, Option, Some, None, refl, sym, ap, ap₂, ◌∙◌, subst, filter, nat_eq, bytes_eq, arith}
use Rattle.std.specs.Prelude.{is_some, slice_index_or, if◌then◌else◌}
use Rattle.std.specs.List.{list_any}
use Rattle.std.proofs.lemmas.Bool.{and_parts, and_from, or_left, or_right, or_cases, or_parts, both_ways, cond-true, cond-false, eqb-true}
use Rattle.std.proofs.lemmas.Cmp.{nat_eq_equiv}
use Rattle.ir_tables.specs.declared.linkage.Linkage.{Linkage}
use Rattle.ir_tables.specs.declared.linkage.Linkage.TheVariants.{External, Private, Internal}
use Rattle.module_arena.specs.EntryRules.{is_lasting, is_lasting_variable, is_lasting_function, target_suits, alias_suits}
use Rattle.module_arena.specs.Module.{Bytes, AliasType, PlainType, FunctionType, Alias, Module, empty_module}
use Rattle.linkage_rules.specs.Entries.{Entry, entries_from, entries, part_at, same_symbol, symbol_of, symbol_in}
use Rattle.linkage_rules.specs.declared.symbol.Symbol.TheVariants.{Shared, Local}
use Rattle.linkage_rules.specs.Globals.{Global, OfVariable, OfFunction, OfAlias, name_of, linkage_of, is_written, globals}
use Rattle.linkage_rules.specs.Linkages.{is_local, is_available_externally}
use Rattle.linkage_rules.specs.Lists.{has}
use Rattle.linkage_rules.specs.Winner.{is_definition, gives_way, better, best, home}
use Rattle.link_rules.proofs.Symbols.{GoTogether, local_home}
use Rattle.linkage_rules.specs.SymbolLaws.{name_exact, name_self, symbol_self}
use Rattle.link_rules.proofs.Agreed.{any_left, any_right}

pub lasting_stays : (l : Linkage) → is_lasting l ≡ true → not (is_available_externally l) ≡ true
lasting_stays External h = refl
lasting_stays Private h = refl
lasting_stays Internal h = refl
lasting_stays l h = cc

any_to : {A B : Type 0} (p : A → Bool) (q : B → Bool) (f : A → B) (xs : List A) → ((x : A) → p x ≡ true → q (f x) ≡ true) → list_any p xs ≡ true → list_any q (map f xs) ≡ true
any_to p q f [] k h = cc
any_to p q f (x ∷ xs) k h = go (or_cases (p x) _ h) (any_to p q f xs k)
  where
    go : (p x ≡ true) ⊎ (list_any p xs ≡ true) → (list_any p xs ≡ true → list_any q (map f xs) ≡ true) → list_any q (map f (x ∷ xs)) ≡ true
    go (inl j) more = or_left _ _ (k x j)
    go (inr j) more = or_right _ _ (more j)

-- a definition of that name
abbrev defines : Bytes → Global → Bool
defines name g = bytes_eq name (name_of g) && (is_written g && not (is_available_externally (linkage_of g)))

other_name : (m n : Bytes) → bytes_eq m n ≡ true → bytes_eq n m ≡ true
other_name m n h = subst (λ x. bytes_eq n x ≡ true) (sym (name_exact m n h)) (name_self n)

target_there : (m : Module) (t : AliasType) (name : Bytes) → target_suits m t name ≡ true → list_any (defines name) (globals m) ≡ true
target_there m (PlainType ty) name h =
    any_left (defines name) (map OfVariable m.variables ++ map OfFunction m.functions) (map OfAlias m.aliases)
    (any_left (defines name) (map OfVariable m.variables) (map OfFunction m.functions)
    (any_to (is_lasting_variable name) (defines name) OfVariable m.variables
    (λ v k. let halves = and_parts (bytes_eq v.name name) _ k in
    let rest = and_parts (is_some v.initialiser) _ halves.1 in
    and_from _ _ (other_name v.name name halves.0) (and_from _ _ rest.0 (lasting_stays v.linkage rest.1))) h))
target_there m (FunctionType signature) name h =
    any_left (defines name) (map OfVariable m.variables ++ map OfFunction m.functions) (map OfAlias m.aliases)
    (any_right (defines name) (map OfVariable m.variables) (map OfFunction m.functions)
    (any_to (is_lasting_function name) (defines name) OfFunction m.functions
    (λ f k. let halves = and_parts (bytes_eq f.name name) _ k in
    let rest = and_parts (is_some f.body) _ halves.1 in
    and_from _ _ (other_name f.name name halves.0) (and_from _ _ rest.0 (lasting_stays f.linkage rest.1))) h))

module _ (q : Global → Bool) where
  -- an entry of part i that passes
  abbrev stands : ℕ → Entry → Bool
  stands i e = nat_eq i e.part && q e.global

  entry_there : (ms : List Module) (j i : ℕ) → list_any q (globals (slice_index_or ms i empty_module)) ≡ true → list_any (stands (j + i)) (entries_from j ms) ≡ true
  entry_there [] j i h = cc
  entry_there (m ∷ ms) j zero h =
      let same : j + 0 ≡ j = omega arith in
      subst (λ n. list_any (stands n) (entries_from j (m ∷ ms)) ≡ true) (sym same)
      (any_left (stands j) (map {B = Entry} (λ g. record { part = j; global = g }) (globals m)) (entries_from (suc j) ms)
      (any_to q (stands j) (λ g. record { part = j; global = g }) (globals m) (λ g k. and_from _ _ (nat_eq_equiv.refl j) k) h))
  entry_there (m ∷ ms) j (suc i) h =
      let same : j + suc i ≡ suc j + i = omega arith in
      subst (λ n. list_any (stands n) (entries_from j (m ∷ ms)) ≡ true) (sym same)
      (any_right (stands (suc j + i)) (map {B = Entry} (λ g. record { part = j; global = g }) (globals m)) (entries_from (suc j) ms) (entry_there ms (suc j) i h))

best_some : (parts : List Module) (e : Entry) (es : List Entry) → is_some (best parts (e ∷ es)) ≡ true
best_some parts e es = go (best parts es)
  where
    by_test : (x : Entry) (b : Bool) → is_some (if b then Some x else Some e) ≡ true
    by_test x true = refl
    by_test x false = refl

    go : (o : Option Entry) → is_some (better parts e o) ≡ true
    go None = refl
    go (Some x) = by_test x (gives_way parts e x)

best_kept : (parts : List Module) (p q : Entry → Bool) (es : List Entry) → list_any (λ e. p e && q e) es ≡ true → is_some (best parts (filter q (filter p es))) ≡ true
best_kept parts p q [] h = cc
best_kept parts p q (e ∷ es) h = go (p e) refl h (best_kept parts p q es)
  where
    inner : (c : Bool) → q e ≡ c → (c || list_any (λ x. p x && q x) es) ≡ true → (list_any (λ x. p x && q x) es ≡ true → is_some (best parts (filter q (filter p es))) ≡ true) → is_some (best parts (filter q (e ∷ filter p es))) ≡ true
    inner true t k more = ap (λ l. is_some (best parts l)) (cond-true (q e) _ _ t) ∙ best_some parts e (filter q (filter p es))
    inner false t k more = ap (λ l. is_some (best parts l)) (cond-false (q e) _ _ t) ∙ more k

    go : (b : Bool) → p e ≡ b → ((p e && q e) || list_any (λ x. p x && q x) es) ≡ true → (list_any (λ x. p x && q x) es ≡ true → is_some (best parts (filter q (filter p es))) ≡ true) → is_some (best parts (filter q (filter p (e ∷ es)))) ≡ true
    go true t k more =
        ap (λ l. is_some (best parts (filter q l))) (cond-true (p e) _ _ t)
        ∙ inner (q e) refl (subst (λ c. ((c && q e) || list_any (λ x. p x && q x) es) ≡ true) t k) more
    go false t k more =
        ap (λ l. is_some (best parts (filter q l))) (cond-false (p e) _ _ t)
        ∙ more (subst (λ c. ((c && q e) || list_any (λ x. p x && q x) es) ≡ true) t k)

shared_there : (i : ℕ) (name : Bytes) (es : List Entry) → list_any (stands (defines name) i) es ≡ true → list_any (same_symbol (Local i name)) (map symbol_of es) ≡ false
    → list_any (λ e. same_symbol (Shared name) (symbol_of e) && is_definition e) es ≡ true
shared_there i name [] h k = cc
shared_there i name (e ∷ es) h k =
    let parts = or_parts (same_symbol (Local i name) (symbol_of e)) _ k in
    go (or_cases (stands (defines name) i e) _ h) parts.0 (λ j. shared_there i name es j parts.1)
  where
    own : (b : Bool) → is_local (linkage_of e.global) ≡ b → same_symbol (Local i name) (symbol_of e) ≡ false → i ≡ e.part → name ≡ name_of e.global → same_symbol (Shared name) (symbol_of e) ≡ true
    own true t other p n = absurd (both_ways _ other (subst (λ s. same_symbol (Local i name) s ≡ true) (ap₂ Local p n ∙ sym (cond-true (is_local (linkage_of e.global)) _ _ t)) (symbol_self (Local i name))))
    own false t other p n = subst (λ s. same_symbol (Shared name) s ≡ true) (ap Shared n ∙ sym (cond-false (is_local (linkage_of e.global)) _ _ t)) (symbol_self (Shared name))

    go : (stands (defines name) i e ≡ true) ⊎ (list_any (stands (defines name) i) es ≡ true) → same_symbol (Local i name) (symbol_of e) ≡ false
        → (list_any (stands (defines name) i) es ≡ true → list_any (λ x. same_symbol (Shared name) (symbol_of x) && is_definition x) es ≡ true) → list_any (λ x. same_symbol (Shared name) (symbol_of x) && is_definition x) (e ∷ es) ≡ true
    go (inl j) other more =
        let halves = and_parts (nat_eq i e.part) _ j in
        let named = and_parts (bytes_eq name (name_of e.global)) _ halves.1 in
        or_left _ _ (and_from _ _ (own (is_local (linkage_of e.global)) refl other (eqb-true i e.part halves.0) (name_exact name (name_of e.global) named.0)) named.1)
    go (inr j) other more = or_right _ _ (more j)

pub target_defined : (parts : List Module) → GoTogether parts → (i : ℕ) (a : Alias) → alias_suits (part_at parts i) a ≡ true → is_some (home parts (symbol_in parts i a.target)) ≡ true
target_defined parts together i a h = go (has same_symbol (map symbol_of (entries parts)) (Local i a.target)) refl
  where
    there : list_any (stands (defines a.target) i) (entries parts) ≡ true
    there =
        let same : 0 + i ≡ i = omega arith in
        subst (λ n. list_any (stands (defines a.target) n) (entries parts) ≡ true) same
        (entry_there (defines a.target) parts 0 i (target_there (part_at parts i) a.ty a.target (and_parts (is_lasting a.linkage) _ h).1))

    some_home : (o : Option Entry) → home parts (Local i a.target) ≡ o → has same_symbol (map symbol_of (entries parts)) (Local i a.target) ≡ true → is_some o ≡ true
    some_home None k t = absurd (local_home parts i a.target together t k)
    some_home (Some e) k t = refl

    go : (b : Bool) → has same_symbol (map symbol_of (entries parts)) (Local i a.target) ≡ b → is_some (home parts (symbol_in parts i a.target)) ≡ true
    go true t = ap (λ s. is_some (home parts s)) (cond-true (has same_symbol (map symbol_of (entries parts)) (Local i a.target)) (Local i a.target) (Shared a.target) t) ∙ some_home (home parts (Local i a.target)) refl t
    go false t =
        ap (λ s. is_some (home parts s)) (cond-false (has same_symbol (map symbol_of (entries parts)) (Local i a.target)) (Local i a.target) (Shared a.target) t)
        ∙ best_kept parts (λ e. same_symbol (Shared a.target) (symbol_of e)) is_definition (entries parts) (shared_there i a.target (entries parts) there t)
