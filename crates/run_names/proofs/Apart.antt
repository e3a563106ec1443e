-- Parts of which each entry has a symbol of its own, as those of one module have.
use Rattle.std.proofs.Common.{◌≡◌, ℕ, zero, suc, List, [], ◌∷◌, filter, Bool, true, false, not, cond, Option, Some, None, refl, sym, ap, ◌∙◌, subst, true≢false}
use Rattle.std.specs.Prelude.{slice_get, ⊤, if◌then◌else◌}
use Rattle.std.specs.List.{AllByRecursion}
use Rattle.std.specs.Option.{option_map_or}
use Rattle.std.proofs.lemmas.Bool.{cond-true, cond-false}
use Rattle.std.proofs.lemmas.Option.{same_Some}
use Rattle.module_arena.specs.Module.{Module}
use Rattle.linkage_rules.specs.Entries.{Entry, entries, entries_of, same_symbol, symbol_of}
use Rattle.linkage_rules.specs.Globals.{is_alias}
use Rattle.linkage_rules.specs.Lists.{firsts}
use Rattle.linkage_rules.specs.SymbolLaws.{symbol_self, symbol_exact}
use Rattle.linkage_rules.specs.Symbols.{is_alias_symbol, first_entries}
use Rattle.linkage_rules.specs.Winner.{best, home, is_definition}

-- ---- filters

pub none_passes : {A : Type 0} (p : A → Bool) (xs : List A) → AllByRecursion (λ x. p x ≡ false) xs → filter p xs ≡ []
none_passes p [] h = refl
none_passes p (x ∷ xs) h = cond-false (p x) (x ∷ filter p xs) (filter p xs) h.0 ∙ none_passes p xs h.1

all_pass : {A : Type 0} (p : A → Bool) (xs : List A) → AllByRecursion (λ x. p x ≡ true) xs → filter p xs ≡ xs
all_pass p [] h = refl
all_pass p (x ∷ xs) h = cond-true (p x) (x ∷ filter p xs) (filter p xs) h.0 ∙ ap (λ l. x ∷ l) (all_pass p xs h.1)

pub same_filter : {A : Type 0} (p q : A → Bool) (xs : List A) → AllByRecursion (λ x. p x ≡ q x) xs → filter p xs ≡ filter q xs
same_filter p q [] h = refl
same_filter p q (x ∷ xs) h = (λ j. cond (h.0 j) (x ∷ filter p xs) (filter p xs)) ∙ ap (λ l. cond (q x) (x ∷ l) l) (same_filter p q xs h.1)

-- ---- entries with symbols of their own

abbrev pub same_entry : Entry → Entry → Bool
same_entry d e = same_symbol (symbol_of d) (symbol_of e)

-- no two have one symbol
abbrev pub AreApart : List Entry → Type 0
AreApart [] = ⊤
AreApart (e ∷ es) = AllByRecursion (λ d. same_entry e d ≡ false) es × AreApart es

negated : (e : Entry) (es : List Entry) → AllByRecursion (λ d. same_entry e d ≡ false) es → AllByRecursion (λ d. not (same_entry e d) ≡ true) es
negated e [] h = tt
negated e (d ∷ es) h = (ap not h.0, negated e es h.1)

-- each is the first of its symbol
pub firsts_apart : (es : List Entry) → AreApart es → firsts same_entry es ≡ es
firsts_apart [] h = refl
firsts_apart (e ∷ es) h = ap (λ l. e ∷ filter (λ d. not (same_entry e d)) l) (firsts_apart es h.1) ∙ ap (λ l. e ∷ l) (all_pass (λ d. not (same_entry e d)) es (negated e es h.0))

pub turned : (d e : Entry) → same_entry d e ≡ false → same_entry e d ≡ false
turned d e h = go (same_entry e d) refl
  where
    go : (b : Bool) → same_entry e d ≡ b → same_entry e d ≡ false
    go false q = q
    go true q = absurd (both (subst (λ s. same_symbol s (symbol_of e) ≡ false) (sym (symbol_exact (symbol_of e) (symbol_of d) q)) h))
      where
        both : same_symbol (symbol_of e) (symbol_of e) ≡ false → ⊥
        both f = true≢false (sym (symbol_self (symbol_of e)) ∙ f)

apart_at : (d : Entry) (es : List Entry) (k : ℕ) (e : Entry) → AllByRecursion (λ x. same_entry d x ≡ false) es → slice_get es k ≡ Some e → same_entry d e ≡ false
apart_at d [] k e h at = cc
apart_at d (x ∷ es) zero e h at = subst (λ y. same_entry d y ≡ false) (same_Some x e at) h.0
apart_at d (x ∷ es) (suc k) e h at = apart_at d es k e h.1 at

-- the entries of its symbol are the one
pub alone_of_symbol : (es : List Entry) (k : ℕ) (e : Entry) → AreApart es → slice_get es k ≡ Some e → filter (same_entry e) es ≡ e ∷ []
alone_of_symbol [] k e h at = cc
alone_of_symbol (x ∷ es) zero e h at =
    let is : x ≡ e = same_Some x e at in
    subst (λ y. filter (same_entry y) (x ∷ es) ≡ y ∷ []) is
    (cond-true (same_entry x x) (x ∷ filter (same_entry x) es) (filter (same_entry x) es) (symbol_self (symbol_of x)) ∙ ap (λ l. x ∷ l) (none_passes (same_entry x) es h.0))
alone_of_symbol (x ∷ es) (suc k) e h at =
    cond-false (same_entry e x) (x ∷ filter (same_entry e) es) (filter (same_entry e) es) (turned x e (apart_at x es k e h.0 at)) ∙ alone_of_symbol es k e h.1 at

-- ---- homes

module _ (parts : List Module) (apart : AreApart (entries parts)) where
  pub own_entries : (k : ℕ) (e : Entry) → slice_get (entries parts) k ≡ Some e → entries_of parts (symbol_of e) ≡ e ∷ []
  own_entries k e at = alone_of_symbol (entries parts) k e apart at

  -- an entry is the home of its symbol exactly where it is a definition
  pub own_home : (k : ℕ) (e : Entry) → slice_get (entries parts) k ≡ Some e → home parts (symbol_of e) ≡ (if is_definition e then Some e else None)
  own_home k e at = ap (λ es. best parts (filter is_definition es)) (own_entries k e at) ∙ go (is_definition e)
    where
      go : (b : Bool) → best parts (cond b (e ∷ []) []) ≡ (if b then Some e else None)
      go true = refl
      go false = refl

  pub all_first : first_entries parts ≡ entries parts
  all_first = firsts_apart (entries parts) apart

  -- where aliases are definitions, a symbol is an alias's exactly where its entry is one
  pub own_kind : (k : ℕ) (e : Entry) → slice_get (entries parts) k ≡ Some e → (is_alias e.global ≡ true → is_definition e ≡ true) → is_alias_symbol parts (symbol_of e) ≡ is_alias e.global
  own_kind k e at h = ap (λ (o : Option Entry). option_map_or (λ e. is_alias e.global) o false) (own_home k e at) ∙ go (is_definition e) h
    where
      none : (c : Bool) → (c ≡ true → false ≡ true) → false ≡ c
      none true h = h refl
      none false h = refl

      go : (b : Bool) → (is_alias e.global ≡ true → b ≡ true) → option_map_or (λ (x : Entry). is_alias x.global) (if b then Some e else None) false ≡ is_alias e.global
      go true h = refl
      go false h = none (is_alias e.global) h
