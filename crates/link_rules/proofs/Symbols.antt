-- The symbols of some parts are their first entries', each once, and a home is a definition among them.
use Rattle.std.proofs.Common.{◌≡◌, ℕ, Bool, true, false, not, cond, ◌||◌, ◌⊎◌, inl, inr, List, [], ◌∷◌, ◌++◌, map, Option, Some, None, refl, sym, ap, ◌∙◌, subst, filter}
use Rattle.std.specs.Prelude.{if◌then◌else◌}
use Rattle.std.specs.List.{list_any, AllByRecursion}
use Rattle.std.proofs.lemmas.Bool.{or_left, or_right, or_from, or_parts, both_ways, false_from_ne_true, cases_cond, cond-true, cond-false, not-true}
use Rattle.std.proofs.lemmas.Option.{same_Some}
use Rattle.module_arena.specs.Module.{Bytes, Module}
use Rattle.linkage_rules.specs.Globals.{name_of, linkage_of, is_variable, is_alias}
use Rattle.linkage_rules.specs.Linkages.{is_local}
use Rattle.linkage_rules.specs.Lists.{firsts, has}
use Rattle.linkage_rules.specs.Entries.{Entry, entries, same_symbol, symbol_of, entries_of}
use Rattle.linkage_rules.specs.declared.symbol.Symbol.{Symbol}
use Rattle.linkage_rules.specs.declared.symbol.Symbol.TheVariants.{Shared, Local}
use Rattle.linkage_rules.specs.Symbols.{is_alias_symbol, first_entries, plain_entries, variable_symbols, function_symbols, alias_entries, alias_symbols, symbols}
use Rattle.linkage_rules.specs.Winner.{gives_way, better, best, definitions, is_definition, home}
use Rattle.link_rules.proofs.Apart.{Apart, apart_filter, apart_firsts}
use Rattle.linkage_rules.proofs.Lists.{other_way}
use Rattle.linkage_rules.specs.SymbolLaws.{symbol_self, symbol_exact}
use Rattle.linkage_rules.proofs.Entries.{map_filter, firsts_map, all_passing, all_follow}
use Rattle.linkage_rules.proofs.Gathered.{all_joined, all_mapped}

-- LISTS

pub any_append : {A : Type 0} (test : A → Bool) (xs ys : List A) → list_any test xs ≡ false → list_any test ys ≡ false → list_any test (xs ++ ys) ≡ false
any_append test [] ys h g = g
any_append test (x ∷ xs) ys h g =
    let parts = or_parts (test x) (list_any test xs) h in
    or_from (test x) _ parts.0 (any_append test xs ys parts.1 g)

pub any_halves : {A : Type 0} (test : A → Bool) (xs ys : List A) → list_any test (xs ++ ys) ≡ false → (list_any test xs ≡ false) × (list_any test ys ≡ false)
any_halves test [] ys h = (refl, h)
any_halves test (x ∷ xs) ys h =
    let parts = or_parts (test x) (list_any test (xs ++ ys)) h in
    let rest = any_halves test xs ys parts.1 in
    (or_from (test x) _ parts.0 rest.0, rest.1)

pub any_map_filter : {A B : Type 0} (test : B → Bool) (f : A → B) (p : A → Bool) (xs : List A) → list_any test (map f xs) ≡ false → list_any test (map f (filter p xs)) ≡ false
any_map_filter test f p [] h = refl
any_map_filter test f p (x ∷ xs) h = go (p x) refl (any_map_filter test f p xs (or_parts (test (f x)) _ h).1)
  where
    go : (b : Bool) → p x ≡ b → list_any test (map f (filter p xs)) ≡ false → list_any test (map f (filter p (x ∷ xs))) ≡ false
    go true e rest = rw e (or_from (test (f x)) _ (or_parts (test (f x)) _ h).0 rest)
    go false e rest = rw e rest

module _ {A : Type 0} (same : A → A → Bool) (self : (x : A) → same x x ≡ true) (exact : (x y : A) → same x y ≡ true → x ≡ y) where
  apart_insert : (x : A) (xs ys : List A) → Apart same (xs ++ ys) → list_any (same x) (xs ++ ys) ≡ false → Apart same (xs ++ x ∷ ys)
  apart_insert x [] ys a h = (h, a)
  apart_insert x (y ∷ xs) ys a h =
      let parts = or_parts (same x y) (list_any (same x) (xs ++ ys)) h in
      let halves = any_halves (same y) xs ys a.0 in
      (any_append (same y) xs (x ∷ ys) halves.0 (or_from (same y x) _ (other_way same self exact x y parts.0) halves.1), apart_insert x xs ys a.1 parts.1)

  -- what passes a test, before what does not
  pub apart_split : {B : Type 0} (key : B → A) (p : B → Bool) (es : List B) → Apart same (map key es) → Apart same (map key (filter p es) ++ map key (filter (λ e. not (p e)) es))
  apart_split key p [] a = tt
  apart_split key p (e ∷ es) a = go (p e) refl (apart_split key p es a.1)
    where
      clear : list_any (same (key e)) (map key (filter p es) ++ map key (filter (λ d. not (p d)) es)) ≡ false
      clear = any_append (same (key e)) _ _ (any_map_filter (same (key e)) key p es a.0) (any_map_filter (same (key e)) key (λ d. not (p d)) es a.0)

      go : (b : Bool) → p e ≡ b → Apart same (map key (filter p es) ++ map key (filter (λ d. not (p d)) es)) → Apart same (map key (filter p (e ∷ es)) ++ map key (filter (λ d. not (p d)) (e ∷ es)))
      go true h rest = rw h (clear, rest)
      go false h rest = rw h (apart_insert (key e) (map key (filter p es)) (map key (filter (λ d. not (p d)) es)) rest clear)

-- a test tells the first ones from the last
pub apart_join : {A : Type 0} (same : A → A → Bool) (exact : (x y : A) → same x y ≡ true → x ≡ y) (p : A → Bool) (xs ys : List A) → Apart same xs → Apart same ys → AllByRecursion (λ x. p x ≡ false) xs → AllByRecursion (λ y. p y ≡ true) ys → Apart same (xs ++ ys)
apart_join same exact p [] ys a b n t = b
apart_join same exact p (x ∷ xs) ys a b n t = (any_append (same x) xs ys a.0 (none ys t), apart_join same exact p xs ys a.1 b n.1 t)
  where
    none : (zs : List _) → AllByRecursion (λ y. p y ≡ true) zs → list_any (same x) zs ≡ false
    none [] t = refl
    none (z ∷ zs) t = or_from (same x z) _ (false_from_ne_true (same x z) (λ e. both_ways (p x) n.0 (ap p (exact x z e) ∙ t.0))) (none zs t.1)

pub all_filter : {A : Type 0} (P : A → Type 0) (p : A → Bool) (es : List A) → AllByRecursion P es → AllByRecursion P (filter p es)
all_filter P p [] a = tt
all_filter P p (e ∷ es) a = go (p e) refl (all_filter P p es a.1)
  where
    go : (b : Bool) → p e ≡ b → AllByRecursion P (filter p es) → AllByRecursion P (cond (p e) (e ∷ filter p es) (filter p es))
    go true h rest = rw h (a.0, rest)
    go false h rest = rw h rest

pub all_firsts : {A : Type 0} (P : A → Type 0) (same : A → A → Bool) (es : List A) → AllByRecursion P es → AllByRecursion P (firsts same es)
all_firsts P same [] a = tt
all_firsts P same (e ∷ es) a = (a.0, all_filter P (λ d. not (same e d)) (firsts same es) (all_firsts P same es a.1))

-- each element is one of the list's
pub all_among : {A : Type 0} (same : A → A → Bool) (self : (x : A) → same x x ≡ true) (all xs : List A) → ((x : A) → has same xs x ≡ true → has same all x ≡ true) → AllByRecursion (λ x. has same all x ≡ true) xs
all_among same self all [] f = tt
all_among same self all (x ∷ xs) f = (f x (or_left _ _ (self x)), all_among same self all xs (λ y h. f y (or_right _ _ h)))

-- SYMBOLS

-- the keys of first entries
pub apart_keys : (es : List Entry) → Apart same_symbol (map symbol_of (firsts (λ d e. same_symbol (symbol_of d) (symbol_of e)) es))
apart_keys es = subst (Apart same_symbol) (sym (firsts_map symbol_of same_symbol es)) (apart_firsts same_symbol symbol_self symbol_exact (map symbol_of es))

-- a plain entry is of no alias symbol
pub plain_are : (parts : List Module) → AllByRecursion (λ e. is_alias_symbol parts (symbol_of e) ≡ false) (plain_entries parts)
plain_are parts = all_follow _ _ (plain_entries parts) (λ e h. not-true (is_alias_symbol parts (symbol_of e)) h.1) (all_passing (λ e. Unit {0}) (λ e. not (is_alias_symbol parts (symbol_of e))) (first_entries parts) (all_units (first_entries parts)))
  where
    all_units : (es : List Entry) → AllByRecursion (λ e. Unit {0}) es
    all_units [] = tt
    all_units (e ∷ es) = (tt, all_units es)

pub variables_plain : (parts : List Module) → AllByRecursion (λ s. is_alias_symbol parts s ≡ false) (variable_symbols parts)
variables_plain parts = all_mapped _ symbol_of _ (all_filter _ (λ e. is_variable e.global) (plain_entries parts) (plain_are parts))

pub functions_plain : (parts : List Module) → AllByRecursion (λ s. is_alias_symbol parts s ≡ false) (function_symbols parts)
functions_plain parts = all_mapped _ symbol_of _ (all_filter _ (λ e. not (is_variable e.global)) (plain_entries parts) (plain_are parts))

pub aliases_are : (parts : List Module) → AllByRecursion (λ s. is_alias_symbol parts s ≡ true) (alias_symbols parts)
aliases_are parts = all_follow _ _ (alias_symbols parts) (λ s h. h.1) (all_passing (λ s. Unit {0}) (is_alias_symbol parts) (map symbol_of (alias_entries parts)) (all_units (map symbol_of (alias_entries parts))))
  where
    all_units : (ss : List Symbol) → AllByRecursion (λ s. Unit {0}) ss
    all_units [] = tt
    all_units (s ∷ ss) = (tt, all_units ss)

pub symbols_apart : (parts : List Module) → Apart same_symbol (symbols parts)
symbols_apart parts =
    apart_join same_symbol symbol_exact (is_alias_symbol parts) (variable_symbols parts ++ function_symbols parts) (alias_symbols parts)
    (apart_split same_symbol symbol_self symbol_exact symbol_of (λ e. is_variable e.global) (plain_entries parts)
    (subst (Apart same_symbol) (sym (map_filter symbol_of (λ s. not (is_alias_symbol parts s)) (first_entries parts))) (apart_filter same_symbol symbol_self symbol_exact (λ s. not (is_alias_symbol parts s)) (map symbol_of (first_entries parts)) (apart_keys (entries parts)))))
    (apart_filter same_symbol symbol_self symbol_exact (is_alias_symbol parts) (map symbol_of (alias_entries parts)) (apart_keys (filter (λ e. is_alias e.global) (entries parts))))
    (all_joined _ (variable_symbols parts) (function_symbols parts) (variables_plain parts) (functions_plain parts))
    (aliases_are parts)

-- the entries of a symbol are of that kind
abbrev pub AreOfKind : List Module → Bool → Symbol → Type 0
AreOfKind parts b s = AllByRecursion (λ e. same_symbol s (symbol_of e) ≡ true → is_variable e.global ≡ b) (entries parts)

-- a part keeps to itself what it defines, and no symbol has entries of both kinds
pub record GoTogether (parts : List Module) : Type 0 where
  pub locals : AllByRecursion (λ e. is_local (linkage_of e.global) ≡ true → is_definition e ≡ true) (entries parts)
  pub kinds : AllByRecursion (λ d. AreOfKind parts (is_variable d.global) (symbol_of d)) (entries parts)

kinds_from : (parts : List Module) (b : Bool) (es : List Entry) → AllByRecursion (λ d. AreOfKind parts (is_variable d.global) (symbol_of d) × (is_variable d.global ≡ b)) es → AllByRecursion (AreOfKind parts b) (map symbol_of es)
kinds_from parts b [] a = tt
kinds_from parts b (e ∷ es) a = (subst (λ c. AreOfKind parts c (symbol_of e)) a.0.1 a.0.0, kinds_from parts b es a.1)

pub variable_kinds : (parts : List Module) → GoTogether parts → AllByRecursion (AreOfKind parts true) (variable_symbols parts)
variable_kinds parts g = kinds_from parts true _ (all_passing _ (λ e. is_variable e.global) (plain_entries parts) (all_filter _ (λ e. not (is_alias_symbol parts (symbol_of e))) (first_entries parts) (all_firsts _ _ (entries parts) g.kinds)))

pub function_kinds : (parts : List Module) → GoTogether parts → AllByRecursion (AreOfKind parts false) (function_symbols parts)
function_kinds parts g =
    kinds_from parts false _ (all_follow _ _ _ (λ e h. (h.0, not-true (is_variable e.global) h.1)) (all_passing _ (λ e. not (is_variable e.global)) (plain_entries parts) (all_filter _ (λ e. not (is_alias_symbol parts (symbol_of e))) (first_entries parts) (all_firsts _ _ (entries parts) g.kinds))))

-- a symbol has an entry
pub symbols_have : (parts : List Module) → AllByRecursion (λ s. has same_symbol (map symbol_of (entries parts)) s ≡ true) (symbols parts)
symbols_have parts =
    let all = own_keys (entries parts) (entries parts) (λ s h. h) in
    let own = all_filter _ (λ e. not (is_alias_symbol parts (symbol_of e))) (first_entries parts) (all_firsts _ (λ d e. same_symbol (symbol_of d) (symbol_of e)) (entries parts) all) in
    let aliases = all_firsts _ (λ d e. same_symbol (symbol_of d) (symbol_of e)) (filter (λ e. is_alias e.global) (entries parts)) (all_filter _ (λ e. is_alias e.global) (entries parts) all) in
    all_joined _ (variable_symbols parts ++ function_symbols parts) (alias_symbols parts)
    (all_joined _ (variable_symbols parts) (function_symbols parts) (all_mapped _ symbol_of _ (all_filter _ (λ e. is_variable e.global) (plain_entries parts) own)) (all_mapped _ symbol_of _ (all_filter _ (λ e. not (is_variable e.global)) (plain_entries parts) own)))
    (all_filter _ (is_alias_symbol parts) (map symbol_of (alias_entries parts)) (all_mapped _ symbol_of _ aliases))
  where
    own_keys : (all es : List Entry) → ((s : Symbol) → has same_symbol (map symbol_of es) s ≡ true → has same_symbol (map symbol_of all) s ≡ true) → AllByRecursion (λ e. has same_symbol (map symbol_of all) (symbol_of e) ≡ true) es
    own_keys all [] f = tt
    own_keys all (e ∷ es) f = (f (symbol_of e) (or_left _ _ (symbol_self (symbol_of e))), own_keys all es (λ s h. f s (or_right _ _ h)))

-- an entry of a local symbol is local, and one of a shared symbol is not
local_by : (b : Bool) (i j : ℕ) (n m : Bytes) → same_symbol (Local i n) (if b then Local j m else Shared m) ≡ true → b ≡ true
local_by true i j n m h = refl
local_by false i j n m h = cc

shared_by : (b : Bool) (j : ℕ) (n m : Bytes) → same_symbol (Shared n) (if b then Local j m else Shared m) ≡ true → b ≡ false
shared_by true j n m h = cc
shared_by false j n m h = refl

pub symbol_local : (i : ℕ) (n : Bytes) (e : Entry) → same_symbol (Local i n) (symbol_of e) ≡ true → is_local (linkage_of e.global) ≡ true
symbol_local i n e h = local_by (is_local (linkage_of e.global)) i e.part n (name_of e.global) h

pub symbol_shared : (n : Bytes) (e : Entry) → same_symbol (Shared n) (symbol_of e) ≡ true → is_local (linkage_of e.global) ≡ false
symbol_shared n e h = shared_by (is_local (linkage_of e.global)) e.part n (name_of e.global) h

-- HOMES

module _ (parts : List Module) where
  pub better_cases : (e x : Entry) (o : Option Entry) → better parts e o ≡ Some x → (x ≡ e) ⊎ (o ≡ Some x)
  better_cases e x None h = inl (sym (same_Some e x h))
  better_cases e x (Some y) h = go (cases_cond (gives_way parts e y) (Some y) (Some e) (Some x) (sym h))
    where
      go : (Some x ≡ Some y) ⊎ (Some x ≡ Some e) → (x ≡ e) ⊎ (Some y ≡ Some x)
      go (inl h) = inr (sym h)
      go (inr h) = inl (same_Some x e h)

  -- what holds of all holds of the best
  pub best_has : (P : Entry → Type 0) (es : List Entry) (x : Entry) → AllByRecursion P es → best parts es ≡ Some x → P x
  best_has P [] x a h = cc
  best_has P (e ∷ es) x a h = go (better_cases e x (best parts es) h) (best_has P es x a.1)
    where
      go : (x ≡ e) ⊎ (best parts es ≡ Some x) → (best parts es ≡ Some x → P x) → P x
      go (inl same) more = subst P (sym same) a.0
      go (inr later) more = more later

  better_some : (e : Entry) (o : Option Entry) → better parts e o ≡ None → ⊥
  better_some e None h = cc
  better_some e (Some y) h = go (gives_way parts e y) h
    where
      go : (b : Bool) → cond b (Some y) (Some e) ≡ None → ⊥
      go true h = cc
      go false h = cc

  -- a home is an entry of the symbol, and a definition
  pub home_is : (P : Entry → Type 0) (s : Symbol) (e : Entry) → AllByRecursion P (entries parts) → home parts s ≡ Some e → (P e × (same_symbol s (symbol_of e) ≡ true)) × (is_definition e ≡ true)
  home_is P s e a h =
      best_has _ (definitions parts s) e (all_passing _ is_definition (entries_of parts s) (all_passing P (λ d. same_symbol s (symbol_of d)) (entries parts) a)) h

  -- a local symbol has a home
  pub local_home : (i : ℕ) (n : Bytes) → GoTogether parts → has same_symbol (map symbol_of (entries parts)) (Local i n) ≡ true → home parts (Local i n) ≡ None → ⊥
  local_home i n g there none = go (entries parts) g.locals there none
    where
      go : (es : List Entry) → AllByRecursion (λ e. is_local (linkage_of e.global) ≡ true → is_definition e ≡ true) es → has same_symbol (map symbol_of es) (Local i n) ≡ true → best parts (filter is_definition (filter (λ e. same_symbol (Local i n) (symbol_of e)) es)) ≡ None → ⊥
      go [] a h w = cc
      go (e ∷ es) a h w = by_test (same_symbol (Local i n) (symbol_of e)) refl (go es a.1)
        where
          by_test : (b : Bool) → same_symbol (Local i n) (symbol_of e) ≡ b → (has same_symbol (map symbol_of es) (Local i n) ≡ true → best parts (filter is_definition (filter (λ d. same_symbol (Local i n) (symbol_of d)) es)) ≡ None → ⊥) → ⊥
          by_test true t more =
              let defined = a.0 (symbol_local i n e t) in
              better_some e (best parts (filter is_definition (filter (λ d. same_symbol (Local i n) (symbol_of d)) es)))
              (subst (λ l. best parts l ≡ None) (ap (filter is_definition) (cond-true (same_symbol (Local i n) (symbol_of e)) _ _ t) ∙ cond-true (is_definition e) _ _ defined) w)
          by_test false t more =
              more (subst (λ c. (c || list_any (same_symbol (Local i n)) (map symbol_of es)) ≡ true) t h)
              (subst (λ l. best parts (filter is_definition l) ≡ None) (cond-false (same_symbol (Local i n) (symbol_of e)) _ _ t) w)
