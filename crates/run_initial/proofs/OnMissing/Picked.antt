-- Tests on lists of entries.
use Rattle.std.proofs.Common.{◌≡◌, ℕ, zero, suc, List, [], ◌∷◌, map, filter, Bool, true, false, ◌&&◌, ◌||◌, cond, bytes_eq, Some, None, refl, sym, ap, ap₂, ◌∙◌, subst, true≢false}
use Rattle.std.specs.Prelude.{flat_map, slice_get}
use Rattle.std.specs.List.{AllByRecursion, find, list_any}
use Rattle.std.specs.Option.{option_map}
use Rattle.std.proofs.lemmas.Option.{same_Some}
use Rattle.std.proofs.lemmas.List.Folds.{list_any-append}
use Rattle.extract_rules.specs.Selected.{is_among}
use Rattle.linkage_rules.specs.Entries.{Entry, symbol_name, symbol_of}
use Rattle.linkage_rules.specs.Globals.{Global, name_of}
use Rattle.linkage_rules.specs.SymbolLaws.{name_exact, name_self}
use Rattle.linkage_rules.specs.declared.symbol.Symbol.{Symbol}
use Rattle.module_arena.specs.Module.{Bytes}
use Rattle.run_names.proofs.Distinct.{Distinct}
use Rattle.run_names.proofs.OneModule.{entry, name_of_symbol}

-- the name of an entry
abbrev pub named : Entry → Bytes
named e = name_of e.global

-- ---- entries with names of their own

unlike_kept : (p : Entry → Bool) (n : Bytes) (es : List Entry) → AllByRecursion (λ x. bytes_eq n x ≡ false) (map named es) → is_among (map named (filter p es)) n ≡ false
unlike_kept p n [] h = refl
unlike_kept p n (x ∷ es) h = go (p x) (unlike_kept p n es h.1)
  where
    go : (b : Bool) → is_among (map named (filter p es)) n ≡ false → list_any (bytes_eq n) (map named (cond b (x ∷ filter p es) (filter p es))) ≡ false
    go true k = ap (λ b. b || list_any (bytes_eq n) (map named (filter p es))) h.0 ∙ k
    go false k = k

unlike_at : (n : Bytes) (es : List Entry) (k : ℕ) (e : Entry) → AllByRecursion (λ x. bytes_eq n x ≡ false) (map named es) → slice_get es k ≡ Some e → n ≡ named e → ⊥
unlike_at n [] k e h at same = cc
unlike_at n (x ∷ es) zero e h at same =
    true≢false (sym (name_self n) ∙ ap (bytes_eq n) (same ∙ ap named (sym (same_Some x e at))) ∙ h.0)
unlike_at n (x ∷ es) (suc k) e h at same = unlike_at n es k e h.1 at same

-- a name is among those that are picked exactly where its entry is picked
pub among_picked : (p : Entry → Bool) (es : List Entry) → Distinct bytes_eq (map named es) → (k : ℕ) (e : Entry) → slice_get es k ≡ Some e → is_among (map named (filter p es)) (named e) ≡ p e
among_picked p [] h k e at = cc
among_picked p (x ∷ es) h zero e at = subst (λ y. is_among (map named (filter p (x ∷ es))) (named y) ≡ p y) (same_Some x e at) (go (p x))
  where
    go : (b : Bool) → list_any (bytes_eq (named x)) (map named (cond b (x ∷ filter p es) (filter p es))) ≡ b
    go true = ap (λ b. b || list_any (bytes_eq (named x)) (map named (filter p es))) (name_self (named x))
    go false = unlike_kept p (named x) es h.0
among_picked p (x ∷ es) h (suc k) e at = go (p x) ∙ among_picked p es h.1 k e at
  where
    unlike : (b : Bool) → bytes_eq (named e) (named x) ≡ b → b ≡ false
    unlike false q = refl
    unlike true q = absurd (unlike_at (named x) es k e h.0 at (sym (name_exact (named e) (named x) q)))

    go : (b : Bool) → list_any (bytes_eq (named e)) (map named (cond b (x ∷ filter p es) (filter p es))) ≡ is_among (map named (filter p es)) (named e)
    go true = ap (λ b. b || is_among (map named (filter p es)) (named e)) (unlike (bytes_eq (named e) (named x)) refl)
    go false = refl

-- ---- finding

-- the first symbol that passes is that of the first name that does
pub find_named : (p : Symbol → Bool) (q : Bytes → Bool) (es : List Entry) → AllByRecursion (λ e. p (symbol_of e) ≡ q (named e)) es → option_map symbol_name (find p (map symbol_of es)) ≡ find q (map named es)
find_named p q [] h = refl
find_named p q (e ∷ es) h = ap (λ b. option_map symbol_name (cond b (Some (symbol_of e)) (find p (map symbol_of es)))) h.0 ∙ go (q (named e)) (find_named p q es h.1)
  where
    go : (b : Bool) → option_map symbol_name (find p (map symbol_of es)) ≡ find q (map named es) → option_map symbol_name (cond b (Some (symbol_of e)) (find p (map symbol_of es))) ≡ cond b (Some (named e)) (find q (map named es))
    go true k = ap (λ n. Some n) (name_of_symbol e)
    go false k = k

pub find_none : {A : Type 0} (p : A → Bool) (xs : List A) → AllByRecursion (λ x. p x ≡ false) xs → find p xs ≡ None
find_none p [] h = refl
find_none p (x ∷ xs) h = ap (λ b. cond b (Some x) (find p xs)) h.0 ∙ find_none p xs h.1

-- ---- any of some

pub any_same : {A : Type 0} (p q : A → Bool) (xs : List A) → AllByRecursion (λ x. p x ≡ q x) xs → list_any p xs ≡ list_any q xs
any_same p q [] h = refl
any_same p q (x ∷ xs) h = ap₂ (λ a b. a || b) h.0 (any_same p q xs h.1)

-- of entries of one kind
pub any_of_kind : {A : Type 0} (p : Entry → Bool) (kind : A → Global) (xs : List A) → list_any p (map entry (map kind xs)) ≡ list_any (λ x. p (entry (kind x))) xs
any_of_kind p kind [] = refl
any_of_kind p kind (x ∷ xs) = ap (λ b. p (entry (kind x)) || b) (any_of_kind p kind xs)

-- a name is in what is defined
pub any_defined : {A : Type 0} (d : A → Bool) (f : A → List Bytes) (n : Bytes) (xs : List A) → list_any (λ x. d x && is_among (f x) n) xs ≡ is_among (flat_map f (filter d xs)) n
any_defined d f n [] = refl
any_defined d f n (x ∷ xs) = go (d x) (any_defined d f n xs)
  where
    go : (b : Bool) → list_any (λ x. d x && is_among (f x) n) xs ≡ is_among (flat_map f (filter d xs)) n → ((b && is_among (f x) n) || list_any (λ x. d x && is_among (f x) n) xs) ≡ is_among (flat_map f (cond b (x ∷ filter d xs) (filter d xs))) n
    go true k = ap (λ b. is_among (f x) n || b) k ∙ sym (list_any-append (bytes_eq n) (f x) (flat_map f (filter d xs)))
    go false k = k

pub none_named : {A : Type 0} (d : A → Bool) (xs : List A) → list_any (λ x. d x && false) xs ≡ false
none_named d [] = refl
none_named d (x ∷ xs) = go (d x) (none_named d xs)
  where
    go : (b : Bool) → list_any (λ x. d x && false) xs ≡ false → ((b && false) || list_any (λ x. d x && false) xs) ≡ false
    go true k = k
    go false k = k

-- ---- entries of one kind

pub of_kind : {A : Type 0} (P : Entry → Type 0) (kind : A → Global) (xs : List A) → ((k : ℕ) (x : A) → slice_get xs k ≡ Some x → P (entry (kind x))) → AllByRecursion P (map entry (map kind xs))
of_kind P kind [] h = tt
of_kind P kind (x ∷ xs) h = (h 0 x refl, of_kind P kind xs (λ k y e. h (suc k) y e))

pub none_of_kind : {A : Type 0} (p : Entry → Bool) (kind : A → Global) → ((x : A) → p (entry (kind x)) ≡ false) → (xs : List A) → filter p (map entry (map kind xs)) ≡ []
none_of_kind p kind h [] = refl
none_of_kind p kind h (x ∷ xs) = ap (λ b. cond b (entry (kind x) ∷ filter p (map entry (map kind xs))) (filter p (map entry (map kind xs)))) (h x) ∙ none_of_kind p kind h xs

pub all_of_kind : {A : Type 0} (p : Entry → Bool) (kind : A → Global) → ((x : A) → p (entry (kind x)) ≡ true) → (xs : List A) → filter p (map entry (map kind xs)) ≡ map entry (map kind xs)
all_of_kind p kind h [] = refl
all_of_kind p kind h (x ∷ xs) =
    ap (λ b. cond b (entry (kind x) ∷ filter p (map entry (map kind xs))) (filter p (map entry (map kind xs)))) (h x) ∙ ap (λ l. entry (kind x) ∷ l) (all_of_kind p kind h xs)

-- those of which each passes
pub all_symbols : (p : Symbol → Bool) (es : List Entry) → AllByRecursion (λ e. p (symbol_of e) ≡ true) es → filter p (map symbol_of es) ≡ map symbol_of es
all_symbols p [] h = refl
all_symbols p (e ∷ es) h = ap (λ b. cond b (symbol_of e ∷ filter p (map symbol_of es)) (filter p (map symbol_of es))) h.0 ∙ ap (λ l. symbol_of e ∷ l) (all_symbols p es h.1)

pub names_of_kind : {A : Type 0} (kind : A → Global) (xs : List A) → map named (map entry (map kind xs)) ≡ map (λ x. name_of (kind x)) xs
names_of_kind kind [] = refl
names_of_kind kind (x ∷ xs) = ap (λ l. name_of (kind x) ∷ l) (names_of_kind kind xs)
