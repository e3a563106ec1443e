-- Parts without a conflict go together.
use Rattle.std.proofs.Common.{◌≡◌, ℕ, zero, suc, ◌<◌, Bool, true, false, not, cond, ◌&&◌, ◌⊎◌, inl, inr, List, [], ◌∷◌, ◌++◌, map, Option, Some, None, refl, sym, ap, ◌∙◌, subst, filter, nat_eq, bytes_eq, arith, le_refl}
use Rattle.std.specs.Prelude.{slice_get, flat_map, if◌then◌else◌}
use Rattle.std.specs.List.{list_any, AllByRecursion}
use Rattle.std.specs.Option.{option_map_or}
use Rattle.std.proofs.lemmas.Bool.{or_left, or_right, or_from, or_parts, or_cases, and_from, and_parts, and_left, and_right, cond-true, cond-false, both_ways, false_from_ne_true, eqb-true}
use Rattle.std.proofs.lemmas.Cmp.{nat_eq_equiv}
use Rattle.std.proofs.lemmas.Option.{same_Some}
use Rattle.module_arena.specs.Module.{Bytes, Module}
use Rattle.linkage_rules.specs.Globals.{Global, name_of, linkage_of, is_variable, is_alias, globals}
use Rattle.linkage_rules.specs.Linkages.{is_local}
use Rattle.linkage_rules.specs.Lists.{firsts, has, pairs, first}
use Rattle.linkage_rules.specs.SameShape.{agree}
use Rattle.linkage_rules.specs.Entries.{Entry, entries_from, entries, same_symbol, symbol_of, mentions}
use Rattle.linkage_rules.specs.declared.symbol.Symbol.{Symbol}
use Rattle.linkage_rules.specs.declared.symbol.Symbol.TheVariants.{Shared, Local}
use Rattle.linkage_rules.specs.Symbols.{is_alias_symbol, first_entries, plain_entries, variable_symbols, function_symbols, alias_entries, alias_symbols, symbols}
use Rattle.linkage_rules.specs.Winner.{is_definition, home}
use Rattle.linkage_rules.specs.declared.conflict.ConflictKind.TheVariants.{FunctionAndVariable}
use Rattle.linkage_rules.specs.Conflicts.{conflict_kinds, clash, found_conflict, conflicts_of_kind, conflicts_of, conflicts, first_conflict}
use Rattle.link_rules.proofs.Apart.{Apart, none_at, at_has}
use Rattle.linkage_rules.proofs.Lists.{any_kept, has_firsts}
use Rattle.linkage_rules.specs.SymbolLaws.{name_self, name_exact, symbol_self, symbol_exact}
use Rattle.link_rules.proofs.Symbols.{GoTogether, any_append, home_is}
use Rattle.linkage_rules.proofs.Entries.{firsts_map, map_filter}

-- LISTS

pub filter_at : {A : Type 0} (p : A → Bool) (xs : List A) (k : ℕ) (x : A) → slice_get xs k ≡ Some x → p x ≡ true → (j : ℕ) × (slice_get (filter p xs) j ≡ Some x)
filter_at p [] k x h t = cc
filter_at p (y ∷ xs) zero x h t =
    let is = same_Some y x h in
    (0, ap (λ l. slice_get l 0) (cond-true (p y) _ _ (ap p is ∙ t)) ∙ ap Some is)
filter_at p (y ∷ xs) (suc k) x h t = go (p y) refl (filter_at p xs k x h t)
  where
    go : (b : Bool) → p y ≡ b → (j : ℕ) × (slice_get (filter p xs) j ≡ Some x) → (j : ℕ) × (slice_get (filter p (y ∷ xs)) j ≡ Some x)
    go true e r = (suc r.0, ap (λ l. slice_get l (suc r.0)) (cond-true (p y) _ _ e) ∙ r.1)
    go false e r = (r.0, ap (λ l. slice_get l r.0) (cond-false (p y) _ _ e) ∙ r.1)

pub all_from_at : {A : Type 0} (P : A → Type 0) (xs : List A) → ((k : ℕ) (x : A) → slice_get xs k ≡ Some x → P x) → AllByRecursion P xs
all_from_at P [] f = tt
all_from_at P (x ∷ xs) f = (f 0 x refl, all_from_at P xs (λ k y h. f (suc k) y h))

nothing_joined : {A : Type 0} (xs ys : List A) → xs ++ ys ≡ [] → (xs ≡ []) × (ys ≡ [])
nothing_joined [] ys h = (refl, h)
nothing_joined (x ∷ xs) ys h = cc

-- where all together give nothing, each gives nothing
pub nothing_from : {A B : Type 0} (f : A → List B) (xs : List A) (k : ℕ) (x : A) → flat_map f xs ≡ [] → slice_get xs k ≡ Some x → f x ≡ []
nothing_from f [] k x h e = cc
nothing_from f (y ∷ xs) zero x h e = ap f (sym (same_Some y x e)) ∙ (nothing_joined (f y) (flat_map f xs) h).0
nothing_from f (y ∷ xs) (suc k) x h e = nothing_from f xs k x (nothing_joined (f y) (flat_map f xs) h).1 e

pub nothing_mapped : {A B : Type 0} (f : A → B) (xs : List A) → map f xs ≡ [] → xs ≡ []
nothing_mapped f [] h = refl
nothing_mapped f (x ∷ xs) h = cc

pub none_passes : {A : Type 0} (p : A → Bool) (xs : List A) → filter p xs ≡ [] → AllByRecursion (λ x. p x ≡ false) xs
none_passes p [] h = tt
none_passes p (x ∷ xs) h = go (p x) refl h (none_passes p xs)
  where
    go : (b : Bool) → p x ≡ b → cond b (x ∷ filter p xs) (filter p xs) ≡ [] → (filter p xs ≡ [] → AllByRecursion (λ y. p y ≡ false) xs) → AllByRecursion (λ y. p y ≡ false) (x ∷ xs)
    go true e h more = cc
    go false e h more = (e, more h)

pub first_none : {A : Type 0} (xs : List A) → first xs ≡ None → xs ≡ []
first_none [] h = refl
first_none (x ∷ xs) h = cc

any_middle : {A : Type 0} (test : A → Bool) (xs : List A) (y : A) (ys : List A) → (test y ≡ true) ⊎ (list_any test (xs ++ ys) ≡ true) → list_any test (xs ++ y ∷ ys) ≡ true
any_middle test [] y ys (inl h) = or_left _ _ h
any_middle test [] y ys (inr h) = or_right _ _ h
any_middle test (x ∷ xs) y ys (inl h) = or_right (test x) _ (any_middle test xs y ys (inl h))
any_middle test (x ∷ xs) y ys (inr h) = go (or_cases (test x) _ h) (λ k. any_middle test xs y ys (inr k))
  where
    go : (test x ≡ true) ⊎ (list_any test (xs ++ ys) ≡ true) → (list_any test (xs ++ ys) ≡ true → list_any test (xs ++ y ∷ ys) ≡ true) → list_any test (x ∷ xs ++ y ∷ ys) ≡ true
    go (inl k) more = or_left _ _ k
    go (inr k) more = or_right (test x) _ (more k)

any_split : {A B : Type 0} (test : B → Bool) (f : A → B) (p : A → Bool) (xs : List A) → list_any test (map f xs) ≡ true → list_any test (map f (filter p xs) ++ map f (filter (λ x. not (p x)) xs)) ≡ true
any_split test f p [] h = cc
any_split test f p (x ∷ xs) h = go (p x) refl (or_cases (test (f x)) _ h) (any_split test f p xs)
  where
    go : (b : Bool) → p x ≡ b → (test (f x) ≡ true) ⊎ (list_any test (map f xs) ≡ true) → (list_any test (map f xs) ≡ true → list_any test (map f (filter p xs) ++ map f (filter (λ y. not (p y)) xs)) ≡ true) → list_any test (map f (filter p (x ∷ xs)) ++ map f (filter (λ y. not (p y)) (x ∷ xs))) ≡ true
    go true e (inl h) more = rw e (or_left _ _ h)
    go true e (inr h) more = rw e (or_right (test (f x)) _ (more h))
    go false e (inl h) more = rw e (any_middle test (map f (filter p xs)) (f x) (map f (filter (λ y. not (p y)) xs)) (inl h))
    go false e (inr h) more = rw e (any_middle test (map f (filter p xs)) (f x) (map f (filter (λ y. not (p y)) xs)) (inr (more h)))

pub any_left : {A : Type 0} (test : A → Bool) (xs ys : List A) → list_any test xs ≡ true → list_any test (xs ++ ys) ≡ true
any_left test [] ys h = cc
any_left test (x ∷ xs) ys h = go (or_cases (test x) _ h) (any_left test xs ys)
  where
    go : (test x ≡ true) ⊎ (list_any test xs ≡ true) → (list_any test xs ≡ true → list_any test (xs ++ ys) ≡ true) → list_any test (x ∷ xs ++ ys) ≡ true
    go (inl k) more = or_left _ _ k
    go (inr k) more = or_right (test x) _ (more k)

pub any_right : {A : Type 0} (test : A → Bool) (xs ys : List A) → list_any test ys ≡ true → list_any test (xs ++ ys) ≡ true
any_right test [] ys h = h
any_right test (x ∷ xs) ys h = or_right (test x) _ (any_right test xs ys h)

module _ (parts : List Module) where
  -- the symbol of an alias entry is one of an alias entry
  own_alias : (all es : List Entry) → ((s : Symbol) → has same_symbol (map symbol_of (filter (λ e. is_alias e.global) es)) s ≡ true → has same_symbol (map symbol_of (filter (λ e. is_alias e.global) all)) s ≡ true)
      → AllByRecursion (λ e. is_alias e.global ≡ true → has same_symbol (map symbol_of (filter (λ d. is_alias d.global) all)) (symbol_of e) ≡ true) es
  own_alias all [] f = tt
  own_alias all (e ∷ es) f = (λ t. f (symbol_of e) (rw t (or_left _ _ (symbol_self (symbol_of e)))), own_alias all es (λ s h. f s (go (is_alias e.global) refl s h)))
    where
      go : (b : Bool) → is_alias e.global ≡ b → (s : Symbol) → has same_symbol (map symbol_of (filter (λ d. is_alias d.global) es)) s ≡ true → has same_symbol (map symbol_of (filter (λ d. is_alias d.global) (e ∷ es))) s ≡ true
      go true t s h = rw t (or_right (same_symbol s (symbol_of e)) _ h)
      go false t s h = rw t h

  has_alias : (s : Symbol) → is_alias_symbol parts s ≡ true → has same_symbol (map symbol_of (filter (λ e. is_alias e.global) (entries parts))) s ≡ true
  has_alias s h = go (home parts s) refl h
    where
      go : (o : Option Entry) → home parts s ≡ o → option_map_or (λ e. is_alias e.global) o false ≡ true → has same_symbol (map symbol_of (filter (λ e. is_alias e.global) (entries parts))) s ≡ true
      go None k t = cc
      go (Some e) k t =
          let is = home_is parts _ s e (own_alias (entries parts) (entries parts) (λ s h. h)) k in
          subst (λ z. has same_symbol (map symbol_of (filter (λ d. is_alias d.global) (entries parts))) z ≡ true) (sym (symbol_exact s (symbol_of e) is.0.1)) (is.0.0 t)

  first_key : (es : List Entry) (s : Symbol) → has same_symbol (map symbol_of es) s ≡ true → has same_symbol (map symbol_of (firsts (λ d e. same_symbol (symbol_of d) (symbol_of e)) es)) s ≡ true
  first_key es s h = subst (λ l. has same_symbol l s ≡ true) (sym (firsts_map symbol_of same_symbol es)) (has_firsts same_symbol symbol_self symbol_exact (map symbol_of es) s h)

  -- an entry's symbol is a symbol
  pub is_symbol : (s : Symbol) → has same_symbol (map symbol_of (entries parts)) s ≡ true → has same_symbol (symbols parts) s ≡ true
  is_symbol s h = go (is_alias_symbol parts s) refl
    where
      stays : (p : Symbol → Bool) → p s ≡ true → (x : Symbol) → same_symbol s x ≡ true → p x ≡ true
      stays p t x e = subst (λ z. p z ≡ true) (symbol_exact s x e) t

      go : (b : Bool) → is_alias_symbol parts s ≡ b → has same_symbol (symbols parts) s ≡ true
      go true t =
          any_right (same_symbol s) (variable_symbols parts ++ function_symbols parts) (alias_symbols parts)
          (any_kept (same_symbol s) (is_alias_symbol parts) (map symbol_of (alias_entries parts)) (stays (is_alias_symbol parts) t) (first_key (filter (λ e. is_alias e.global) (entries parts)) s (has_alias s t)))
      go false t =
          any_left (same_symbol s) (variable_symbols parts ++ function_symbols parts) (alias_symbols parts)
          (any_split (same_symbol s) symbol_of (λ e. is_variable e.global) (plain_entries parts)
          (subst (λ l. has same_symbol l s ≡ true) (sym (map_filter symbol_of (λ x. not (is_alias_symbol parts x)) (first_entries parts)))
          (any_kept (same_symbol s) (λ x. not (is_alias_symbol parts x)) (map symbol_of (first_entries parts)) (stays (λ x. not (is_alias_symbol parts x)) (ap not t)) (first_key (entries parts) s h))))

-- ENTRIES OF ONE PART AND NAME

abbrev pub same_place : Entry → Entry → Bool
same_place d e = nat_eq d.part e.part && bytes_eq (name_of d.global) (name_of e.global)

place_sym : (d e : Entry) → same_place d e ≡ true → same_place e d ≡ true
place_sym d e h =
    let halves = and_parts (nat_eq d.part e.part) _ h in
    let parts : d.part ≡ e.part = eqb-true d.part e.part halves.0 in
    let names : name_of d.global ≡ name_of e.global = name_exact (name_of d.global) (name_of e.global) halves.1 in
    and_from _ _ (subst (λ n. nat_eq n d.part ≡ true) parts (nat_eq_equiv.refl d.part)) (subst (λ n. bytes_eq n (name_of d.global) ≡ true) names (name_self (name_of d.global)))

-- no two entries of a module have one name
abbrev pub AreDistinct : Module → Type 0
AreDistinct m = Apart bytes_eq (map name_of (globals m))

abbrev placed : ℕ → List Global → List Entry
placed i gs = map (λ g. let e : Entry = record { part = i; global = g } in e) gs

later_parts : (i j : ℕ) (ms : List Module) (e : Entry) → i < j → e.part ≡ i → list_any (same_place e) (entries_from j ms) ≡ false
later_parts i j [] e below is = refl
later_parts i j (m ∷ ms) e below is = any_append (same_place e) (placed j (globals m)) (entries_from (suc j) ms) (here (globals m)) (later_parts i (suc j) ms e (omega (arith, below)) is)
  where
    here : (gs : List Global) → list_any (same_place e) (placed j gs) ≡ false
    here [] = refl
    here (g ∷ gs) = or_from _ _ (and_left (nat_eq e.part j) _ (false_from_ne_true _ (λ t. let same : e.part ≡ j = eqb-true e.part j t in omega (arith, below, is, same)))) (here gs)

pub entries_apart : (i : ℕ) (ms : List Module) → AllByRecursion AreDistinct ms → Apart same_place (entries_from i ms)
entries_apart i [] a = tt
entries_apart i (m ∷ ms) a = go (globals m) a.0 (entries_apart (suc i) ms a.1)
  where
    others : (g : Global) (gs : List Global) → list_any (bytes_eq (name_of g)) (map name_of gs) ≡ false → list_any (same_place (record { part = i; global = g })) (placed i gs) ≡ false
    others g [] h = refl
    others g (x ∷ gs) h =
        let halves = or_parts (bytes_eq (name_of g) (name_of x)) _ h in
        or_from _ _ (and_right (nat_eq i i) _ halves.0) (others g gs halves.1)

    go : (gs : List Global) → Apart bytes_eq (map name_of gs) → Apart same_place (entries_from (suc i) ms) → Apart same_place (placed i gs ++ entries_from (suc i) ms)
    go [] b rest = rest
    go (g ∷ gs) b rest =
        (any_append (same_place (record { part = i; global = g })) (placed i gs) (entries_from (suc i) ms) (others g gs b.0) (later_parts i (suc i) ms (record { part = i; global = g }) (le_refl (suc i)) refl), go gs b.1 rest)

-- entries that stand apart and pass the test are one
pub one_place : (es : List Entry) (a b : ℕ) (d e : Entry) → Apart same_place es → slice_get es a ≡ Some d → slice_get es b ≡ Some e → same_place d e ≡ true → d ≡ e
one_place [] a b d e p h i t = cc
one_place (x ∷ es) zero zero d e p h i t = sym (same_Some x d h) ∙ same_Some x e i
one_place (x ∷ es) zero (suc b) d e p h i t =
    absurd (both_ways (same_place d e) (subst (λ z. same_place z e ≡ false) (same_Some x d h) (none_at (same_place x) es b e p.0 i)) t)
one_place (x ∷ es) (suc a) zero d e p h i t =
    absurd (both_ways (same_place e d) (subst (λ z. same_place z d ≡ false) (same_Some x e i) (none_at (same_place x) es a d p.0 h)) (place_sym d e t))
one_place (x ∷ es) (suc a) (suc b) d e p h i t = one_place es a b d e p.1 h i t

-- NO CONFLICT

module _ (parts : List Module) (none : first_conflict parts ≡ None) where
  none_at_all : conflicts parts ≡ []
  none_at_all = first_none (conflicts parts) none

  -- no two entries of a name are a function and a variable
  kinds_agree : (n : Bytes) → has same_symbol (symbols parts) (Shared n) ≡ true → AllByRecursion (λ pair. clash parts FunctionAndVariable pair.0 pair.1 ≡ false) (pairs (mentions parts n))
  kinds_agree n there =
      let found = at_has same_symbol symbol_self symbol_exact (symbols parts) (Shared n) there in
      let of_name = nothing_from (conflicts_of parts) (symbols parts) found.0 (Shared n) none_at_all found.1 in
      let of_kind = nothing_from (conflicts_of_kind parts n) conflict_kinds 1 FunctionAndVariable of_name refl in
      none_passes (λ pair. clash parts FunctionAndVariable pair.0 pair.1) (pairs (mentions parts n)) (nothing_mapped (found_conflict FunctionAndVariable n) _ of_kind)

pub agreed : (a b : Bool) → not (agree a b) ≡ false → a ≡ b
agreed true true h = refl
agreed true false h = cc
agreed false true h = cc
agreed false false h = refl

-- what holds of all pairs holds of two that stand at places, one way or the other
pub pair_at : (P : Entry × Entry → Type 0) (xs ys : List Entry) (x : Entry) (k : ℕ) (y : Entry) → AllByRecursion P (map {B = Entry × Entry} (λ z. (x, z)) xs ++ pairs ys) → slice_get xs k ≡ Some y → P (x, y)
pair_at P [] ys x k y a h = cc
pair_at P (z ∷ xs) ys x zero y a h = subst (λ w. P (x, w)) (same_Some z y h) a.0
pair_at P (z ∷ xs) ys x (suc k) y a h = pair_at P xs ys x k y a.1 h

pub pairs_behind : (P : Entry × Entry → Type 0) (xs ys : List Entry) (x : Entry) → AllByRecursion P (map {B = Entry × Entry} (λ z. (x, z)) xs ++ pairs ys) → AllByRecursion P (pairs ys)
pairs_behind P [] ys x a = a
pairs_behind P (z ∷ xs) ys x a = pairs_behind P xs ys x a.1

same_kind_at : (parts : List Module) (es : List Entry) → AllByRecursion (λ pair. clash parts FunctionAndVariable pair.0 pair.1 ≡ false) (pairs es) → (a b : ℕ) (d e : Entry) → slice_get es a ≡ Some d → slice_get es b ≡ Some e → is_variable d.global ≡ is_variable e.global
same_kind_at parts [] p a b d e h i = cc
same_kind_at parts (x ∷ es) p zero zero d e h i = ap (λ z. is_variable z.global) (sym (same_Some x d h) ∙ same_Some x e i)
same_kind_at parts (x ∷ es) p zero (suc b) d e h i =
    ap (λ z. is_variable z.global) (sym (same_Some x d h)) ∙ agreed _ _ (pair_at (λ pair. clash parts FunctionAndVariable pair.0 pair.1 ≡ false) es es x b e p i)
same_kind_at parts (x ∷ es) p (suc a) zero d e h i =
    sym (agreed _ _ (pair_at (λ pair. clash parts FunctionAndVariable pair.0 pair.1 ≡ false) es es x a d p h)) ∙ ap (λ z. is_variable z.global) (same_Some x e i)
same_kind_at parts (x ∷ es) p (suc a) (suc b) d e h i =
    same_kind_at parts es (pairs_behind (λ pair. clash parts FunctionAndVariable pair.0 pair.1 ≡ false) es es x p) a b d e h i

-- the symbol of an entry is of its name, and where it is local, of its part
pub symbol_parts : (b : Bool) (i j : ℕ) (n m : Bytes) → (if b then Local i n else Shared n) ≡ Local j m → (i ≡ j) × (n ≡ m)
symbol_parts true i j n m h = let parts = and_parts (nat_eq i j) (bytes_eq n m) (subst (λ s. same_symbol (Local i n) s ≡ true) h (symbol_self (Local i n))) in (eqb-true i j parts.0, name_exact n m parts.1)
symbol_parts false i j n m h = let no : same_symbol (Local j m) (Shared n) ≡ true = subst (λ s. same_symbol s (Shared n) ≡ true) h (symbol_self (Shared n)) in cc

module _ (parts : List Module) (distinct : AllByRecursion AreDistinct parts) (none : first_conflict parts ≡ None) where
  kind_by : (s : Symbol) (a b : ℕ) (d e : Entry) → symbol_of d ≡ s → symbol_of e ≡ s → slice_get (entries parts) a ≡ Some d → slice_get (entries parts) b ≡ Some e → is_variable d.global ≡ is_variable e.global
  kind_by (Shared n) a b d e p q h i =
      let there = is_symbol parts (Shared n) (subst (λ s. has same_symbol (map symbol_of (entries parts)) s ≡ true) p (any_key_at (entries parts) a d h)) in
      let first_at = filter_at (λ x. same_symbol (Shared n) (symbol_of x)) (entries parts) a d h (subst (λ s. same_symbol (Shared n) s ≡ true) (sym p) (symbol_self (Shared n))) in
      let other_at = filter_at (λ x. same_symbol (Shared n) (symbol_of x)) (entries parts) b e i (subst (λ s. same_symbol (Shared n) s ≡ true) (sym q) (symbol_self (Shared n))) in
      same_kind_at parts (mentions parts n) (kinds_agree parts none n there) first_at.0 other_at.0 d e first_at.1 other_at.1
    where
      any_key_at : (es : List Entry) (k : ℕ) (x : Entry) → slice_get es k ≡ Some x → has same_symbol (map symbol_of es) (symbol_of x) ≡ true
      any_key_at [] k x h = cc
      any_key_at (y ∷ es) zero x h = or_left _ _ (subst (λ z. same_symbol (symbol_of x) (symbol_of z) ≡ true) (sym (same_Some y x h)) (symbol_self (symbol_of x)))
      any_key_at (y ∷ es) (suc k) x h = or_right _ _ (any_key_at es k x h)
  kind_by (Local j m) a b d e p q h i =
      let one = symbol_parts (is_local (linkage_of d.global)) d.part j (name_of d.global) m p in
      let other = symbol_parts (is_local (linkage_of e.global)) e.part j (name_of e.global) m q in
      let alike : same_place d e ≡ true = and_from _ _ (subst (λ n. nat_eq d.part n ≡ true) (one.0 ∙ sym other.0) (nat_eq_equiv.refl d.part)) (subst (λ n. bytes_eq (name_of d.global) n ≡ true) (one.1 ∙ sym other.1) (name_self (name_of d.global))) in
      ap (λ z. is_variable z.global) (one_place (entries parts) a b d e (entries_apart 0 parts distinct) h i alike)

  -- parts whose local entries are definitions go together
  pub go_together : AllByRecursion (λ e. is_local (linkage_of e.global) ≡ true → is_definition e ≡ true) (entries parts) → GoTogether parts
  go_together locals = record {
    locals = locals;
    kinds = all_from_at _ (entries parts) (λ a d h. all_from_at _ (entries parts) (λ b e i t. sym (kind_by (symbol_of d) a b d e refl (sym (symbol_exact (symbol_of d) (symbol_of e) t)) h i)));
  }
