-- Which entries stand under a symbol, and that a symbol more is filed.
use Rattle.std.proofs.Common.{◌≡◌, ℕ, zero, suc, ◌+◌, ◌<◌, ◌≤◌, ◌⊎◌, inl, inr, Bool, true, false, cond, ◌||◌, List, [], ◌∷◌, ◌++◌, map, filter, slice_get, All, Some, refl, sym, ap, ap₂, ◌∙◌, subst, nat_eq, arith}
use Rattle.std.specs.Prelude.{unwrap_or}
use Rattle.std.specs.List.{list_any}
use Rattle.std.specs.Option.{option_map}
use Rattle.std.proofs.lemmas.Bool.{and_from, and_parts, both_ways, cases_lt, cond-true, cond-false, eqb-true}
use Rattle.std.proofs.lemmas.Cmp.{nat_eq_equiv}
use Rattle.std.proofs.lemmas.Option.{same_Some, slice_get-map}
use Rattle.std.proofs.lemmas.Map.Keys.{any_passes_from_place}
use Rattle.type_table.proofs.Rooms.{unmapped}
use Rattle.module_arena.specs.Known.{AreDistinct, HasGlobal, counts}
use Rattle.module_arena.specs.Lists.{Lists, global_name, name_at}
use Rattle.module_arena.specs.Module.{Module}
use Rattle.module_arena.specs.SameConst.{same_global}
use Rattle.module_arena.specs.View.{module_of}
use Rattle.module_arena.specs.declared.entry.GlobalId.{GlobalId}
use Rattle.module_arena.specs.declared.entry.GlobalId.TheVariants as global
use Rattle.linkage_rules.specs.Entries.{Entry, entries_from, entries, same_symbol, symbol_of}
use Rattle.linkage_rules.specs.Globals.{Global, OfVariable, OfFunction, OfAlias, globals, name_of}
use Rattle.linkage_rules.specs.Grouped.{AreGroups, Rows, group_in, key_in}
use Rattle.linkage_rules.specs.Ids.{IsEntryId, entry_in, global_at, global_id, modules, no_entry, seen}
use Rattle.linkage_rules.specs.SymbolLaws.{symbol_self, symbol_exact}
use Rattle.linkage_rules.specs.declared.entry.EntryId.{EntryId}
use Rattle.linkage_rules.specs.declared.symbol.Symbol.{Symbol}
use Rattle.linkage_rules.proofs.Seen.{has_entry, known_global, name_seen, seen_is, seen_part}
use Rattle.link_rules.proofs.Apart.{Apart, none_at}
use Rattle.entry_copy.proofs.ConstantsCopied.{name_is}
use Rattle.linkage_rules.proofs.Steps.{all_get}
use Rattle.link_rules.proofs.Agreed.{filter_at}
use Rattle.module_linker.specs.Ids.Filing.{KnownIds, new_id_of, same_entry, IsFiledUnder}

-- ---- lists

-- where one passes
abbrev Passing : {A : Type 0} → (A → Bool) → List A → Type 0
Passing {A} test xs = (k : ℕ) × (x : A) × (slice_get xs k ≡ Some x) × (test x ≡ true)

at_any : {A : Type 0} (test : A → Bool) (xs : List A) → list_any test xs ≡ true → Passing test xs
at_any test [] h = cc
at_any test (x ∷ xs) h = go (test x) refl h (at_any test xs)
  where
    go : (b : Bool) → test x ≡ b → (b || list_any test xs) ≡ true → (list_any test xs ≡ true → Passing test xs) → Passing test (x ∷ xs)
    go true t e more = (0, x, refl, t)
    go false f e more = let p = more e in (suc p.0, p.1, p.2, p.3)

kept_passes : {A : Type 0} (test : A → Bool) (xs : List A) (j : ℕ) (x : A) → slice_get (filter test xs) j ≡ Some x → test x ≡ true
kept_passes test [] j x at = cc
kept_passes {A = A} test (y ∷ ys) j x at = go (test y) refl at (kept_passes test ys)
  where
    first : (k : ℕ) → test y ≡ true → slice_get (y ∷ filter test ys) k ≡ Some x → ((i : ℕ) (z : A) → slice_get (filter test ys) i ≡ Some z → test z ≡ true) → test x ≡ true
    first zero t e more = subst (λ z. test z ≡ true) (same_Some y x e) t
    first (suc k) t e more = more k x e

    go : (b : Bool) → test y ≡ b → slice_get (cond b (y ∷ filter test ys) (filter test ys)) j ≡ Some x → ((i : ℕ) (z : A) → slice_get (filter test ys) i ≡ Some z → test z ≡ true) → test x ≡ true
    go true t e more = first j t e more
    go false f e more = more j x e

in_front : {A : Type 0} (xs ys : List A) (k : ℕ) (x : A) → slice_get xs k ≡ Some x → (n : ℕ) × (slice_get (xs ++ ys) n ≡ Some x)
in_front [] ys k x at = cc
in_front (z ∷ zs) ys zero x at = (0, at)
in_front (z ∷ zs) ys (suc k) x at = let later = in_front zs ys k x at in (suc later.0, later.1)

behind : {A : Type 0} (xs ys : List A) (k : ℕ) (x : A) → slice_get ys k ≡ Some x → (n : ℕ) × (slice_get (xs ++ ys) n ≡ Some x)
behind [] ys k x at = (k, at)
behind (z ∷ zs) ys k x at = let later = behind zs ys k x at in (suc later.0, later.1)

-- ---- the entries of all parts

there : (m : Module) (g : GlobalId) (x : Global) → global_at m g ≡ Some x → (k : ℕ) × (slice_get (globals m) k ≡ Some x)
there m (global.Variable n) x at =
    let front = in_front (map OfVariable m.variables) (map OfFunction m.functions) n x (slice_get-map OfVariable m.variables n ∙ at) in
    in_front (map OfVariable m.variables ++ map OfFunction m.functions) (map OfAlias m.aliases) front.0 x front.1
there m (global.Function n) x at =
    let front = behind (map OfVariable m.variables) (map OfFunction m.functions) n x (slice_get-map OfFunction m.functions n ∙ at) in
    in_front (map OfVariable m.variables ++ map OfFunction m.functions) (map OfAlias m.aliases) front.0 x front.1
there m (global.Alias n) x at = behind (map OfVariable m.variables ++ map OfFunction m.functions) (map OfAlias m.aliases) n x (slice_get-map OfAlias m.aliases n ∙ at)

abbrev entry : ℕ → Global → Entry
entry i g = record { part = i; global = g }

entry_there : (first : ℕ) (ms : List Module) (i : ℕ) (m : Module) (k : ℕ) (x : Global) → slice_get ms i ≡ Some m → slice_get (globals m) k ≡ Some x → (n : ℕ) × (slice_get (entries_from first ms) n ≡ Some (entry (first + i) x))
entry_there first [] i m k x at has = cc
entry_there first (y ∷ ms) zero m k x at has =
    let same : first ≡ first + 0 = omega arith in
    let here = slice_get-map (entry first) (globals y) k ∙ ap (option_map (entry first)) (ap (λ z. slice_get (globals z) k) (same_Some y m at) ∙ has) ∙ ap (λ n. Some (entry n x)) same in
    in_front (map (entry first) (globals y)) (entries_from (suc first) ms) k (entry (first + 0) x) here
entry_there first (y ∷ ms) (suc i) m k x at has =
    let later = entry_there (suc first) ms i m k x at has in
    let same : suc first + i ≡ first + suc i = omega arith in
    behind (map (entry first) (globals y)) (entries_from (suc first) ms) later.0 (entry (first + suc i) x) (later.1 ∙ ap (λ n. Some (entry n x)) same)

pub own_place : (parts : List Lists) (id : EntryId) → IsEntryId parts id → (n : ℕ) × (slice_get (entries (modules parts)) n ≡ Some (seen (modules parts) id))
own_place parts id h =
    let x = has_entry h.0 (global_id id) h.2 in
    let k = there (module_of h.0) (global_id id) x.0 x.1 in
    let none : 0 + id.part ≡ id.part = omega arith in
    let found = entry_there 0 (modules parts) id.part (module_of h.0) k.0 x.0 (slice_get-map module_of parts id.part ∙ ap (option_map module_of) h.1) k.1 in
    (found.0, found.1 ∙ ap (λ n. Some (entry n x.0)) none ∙ ap Some (sym (seen_is parts id h.0 h.1 x.0 x.1)))

-- ---- ids of one entry

global_self : (g : GlobalId) → same_global g g ≡ true
global_self (global.Variable n) = nat_eq_equiv.refl n
global_self (global.Function n) = nat_eq_equiv.refl n
global_self (global.Alias n) = nat_eq_equiv.refl n

global_exact : (g h : GlobalId) → same_global g h ≡ true → g ≡ h
global_exact (global.Variable i) (global.Variable j) t = ap global.Variable (eqb-true i j t)
global_exact (global.Function i) (global.Function j) t = ap global.Function (eqb-true i j t)
global_exact (global.Alias i) (global.Alias j) t = ap global.Alias (eqb-true i j t)
global_exact (global.Variable i) (global.Function j) t = cc
global_exact (global.Variable i) (global.Alias j) t = cc
global_exact (global.Function i) (global.Variable j) t = cc
global_exact (global.Function i) (global.Alias j) t = cc
global_exact (global.Alias i) (global.Variable j) t = cc
global_exact (global.Alias i) (global.Function j) t = cc

-- what is seen under an id has the name that the arena has there
pub called_so : (parts : List Lists) (id : EntryId) (a : Lists) → slice_get parts id.part ≡ Some a → HasGlobal (counts a) (global_id id) → global_name a (global_id id) ≡ Some (name_of (seen (modules parts) id).global)
called_so parts id a at has = let e = name_is a (global_id id) has in e ∙ ap Some (name_seen parts id a at (name_at a (global_id id)) e)

same_where_seen : (parts : List Lists) → All AreDistinct parts → (d e : EntryId) → IsEntryId parts d → IsEntryId parts e → seen (modules parts) d ≡ seen (modules parts) e → same_entry d e ≡ true
same_where_seen parts distinct d e hd he same =
    let part : d.part ≡ e.part = sym (seen_part parts d hd) ∙ ap (λ (x : Entry). x.part) same ∙ seen_part parts e he in
    let a = hd.0 in
    let at : slice_get parts e.part ≡ Some a = ap (slice_get parts) (sym part) ∙ hd.1 in
    let named = called_so parts d a hd.1 hd.2 in
    let other = called_so parts e a at (known_global parts e a he at) ∙ ap (λ (x : Entry). Some (name_of x.global)) (sym same) in
    let one : global_id d ≡ global_id e = all_get AreDistinct parts d.part a distinct hd.1 (name_of (seen (modules parts) d).global) (global_id d) (global_id e) named other in
    and_from (nat_eq d.part e.part) _ (subst (λ n. nat_eq d.part n ≡ true) part (nat_eq_equiv.refl d.part)) (subst (λ g. same_global (global_id d) g ≡ true) one (global_self (global_id d)))

same_key : (ms : List Module) (d e : EntryId) → same_entry d e ≡ true → key_in ms d ≡ key_in ms e
same_key ms d e t =
    let halves = and_parts (nat_eq d.part e.part) _ t in
    ap₂ (λ n g. symbol_of (unwrap_or (entry_in n (slice_get ms n) g) no_entry)) (eqb-true d.part e.part halves.0) (global_exact (global_id d) (global_id e) halves.1)

module _ (parts : List Lists) (rows : Rows) (groups : AreGroups parts rows) where
  -- what stands under a symbol is of the symbol
  of_symbol : (s : Symbol) (k : ℕ) (e : EntryId) → slice_get (group_in rows s) k ≡ Some e → key_in (modules parts) e ≡ s
  of_symbol s k e at =
      let ms = modules parts in
      let seen_at = sym (ap (λ l. slice_get l k) (groups.groups s)) ∙ slice_get-map (seen ms) (group_in rows s) k ∙ ap (option_map (seen ms)) at in
      sym (symbol_exact s (symbol_of (seen ms e)) (kept_passes (λ x. same_symbol s (symbol_of x)) (entries ms) k (seen ms e) seen_at))

  -- each entry stands under its symbol
  under_symbol : All AreDistinct parts → (id : EntryId) → IsEntryId parts id → list_any (same_entry id) (group_in rows (key_in (modules parts) id)) ≡ true
  under_symbol distinct id known =
      let ms = modules parts in
      let s = key_in ms id in
      let all = own_place parts id known in
      let own = filter_at (λ x. same_symbol s (symbol_of x)) (entries ms) all.0 (seen ms id) all.1 (symbol_self s) in
      let filed : option_map (seen ms) (slice_get (group_in rows s) own.0) ≡ Some (seen ms id) = sym (slice_get-map (seen ms) (group_in rows s) own.0) ∙ ap (λ l. slice_get l own.0) (groups.groups s) ∙ own.1 in
      let e = unmapped (seen ms) (slice_get (group_in rows s) own.0) (seen ms id) filed in
      any_passes_from_place (same_entry id) (group_in rows s) own.0 e.0 e.1
      (same_where_seen parts distinct id e.0 known (all_get (IsEntryId parts) (group_in rows s) own.0 e.0 (groups.known s) e.1) (sym e.2))

-- ---- symbol after symbol

one_place : (ss : List Symbol) (j k : ℕ) (s : Symbol) → Apart same_symbol ss → slice_get ss j ≡ Some s → slice_get ss k ≡ Some s → j ≡ k
one_place [] j k s apart one other = cc
one_place (x ∷ ss) zero zero s apart one other = refl
one_place (x ∷ ss) zero (suc k) s apart one other =
    absurd (both_ways (same_symbol x s) (none_at (same_symbol x) ss k s apart.0 other) (subst (λ z. same_symbol x z ≡ true) (same_Some x s one) (symbol_self x)))
one_place (x ∷ ss) (suc j) zero s apart one other =
    absurd (both_ways (same_symbol x s) (none_at (same_symbol x) ss j s apart.0 one) (subst (λ z. same_symbol x z ≡ true) (same_Some x s other) (symbol_self x)))
one_place (x ∷ ss) (suc j) (suc k) s apart one other = ap suc (one_place ss j k s apart.1 one other)

-- the entries of the first so many symbols have their new ids
abbrev pub AreFiledTo : ℕ → List Lists → List Symbol → List GlobalId → List KnownIds → Type 0
AreFiledTo count parts ss new all = (id : EntryId) (k : ℕ) → IsEntryId parts id → k < count → slice_get ss k ≡ Some (key_in (modules parts) id) → new_id_of all id ≡ slice_get new k

pub symbol_filed : (parts : List Lists) (rows : Rows) → AreGroups parts rows → All AreDistinct parts → (ss : List Symbol) → Apart same_symbol ss → (new : List GlobalId) (before now : List KnownIds) (count : ℕ) (s : Symbol) (g : GlobalId)
    → slice_get ss count ≡ Some s → slice_get new count ≡ Some g → IsFiledUnder before (group_in rows s) g now → AreFiledTo count parts ss new before → AreFiledTo (count + 1) parts ss new now
symbol_filed parts rows groups distinct ss apart new before now count s g here is filed through id k known lt at = go (list_any (same_entry id) (group_in rows s)) refl (cases_lt k count)
  where
    go : (b : Bool) → list_any (same_entry id) (group_in rows s) ≡ b → (k < count) ⊎ (count ≤ k) → new_id_of now id ≡ slice_get new k
    go true t either =
        let e = at_any (same_entry id) (group_in rows s) t in
        let own : key_in (modules parts) id ≡ s = same_key (modules parts) id e.1 e.3 ∙ of_symbol parts rows groups s e.0 e.1 e.2 in
        let same : k ≡ count = one_place ss k count s apart (at ∙ ap Some own) here in
        filed.each id ∙ cond-true (list_any (same_entry id) (group_in rows s)) (Some g) (new_id_of before id) t ∙ sym is ∙ ap (slice_get new) (sym same)
    go false f (inl less) = filed.each id ∙ cond-false (list_any (same_entry id) (group_in rows s)) (Some g) (new_id_of before id) f ∙ through id k known less at
    go false f (inr more) =
        let same : k ≡ count = omega (arith, lt, more) in
        let own : key_in (modules parts) id ≡ s = same_Some (key_in (modules parts) id) s (sym at ∙ ap (slice_get ss) same ∙ here) in
        absurd (both_ways (list_any (same_entry id) (group_in rows s)) f (subst (λ x. list_any (same_entry id) (group_in rows x) ≡ true) own (under_symbol parts rows groups distinct id known)))
