-- What holds of all entries of some parts holds of homes; and when the entries of parts go together.
use Rattle.std.proofs.Common.{◌≡◌, Bool, true, false, not, cond, ◌⊎◌, inl, inr, List, [], ◌∷◌, ◌++◌, Option, Some, None, refl, sym, subst, filter}
use Rattle.std.specs.List.{AllByRecursion}
use Rattle.std.proofs.lemmas.Bool.{cases_cond}
use Rattle.std.proofs.lemmas.Option.{same_Some}
use Rattle.module_arena.specs.Module.{Module}
use Rattle.linkage_rules.specs.declared.symbol.Symbol.{Symbol}
use Rattle.linkage_rules.specs.Entries.{Entry, entries, same_symbol, symbol_of, entries_of}
use Rattle.linkage_rules.specs.Globals.{linkage_of, is_variable}
use Rattle.linkage_rules.specs.Linkages.{is_local}
use Rattle.linkage_rules.specs.Lists.{firsts}
use Rattle.linkage_rules.specs.Winner.{is_definition, definitions, gives_way, better, best, home}
use Rattle.linkage_rules.proofs.Entries.{all_passing}

pub all_filter : {A : Type 0} (P : A → Type 0) (p : A → Bool) (es : List A) → AllByRecursion P es → AllByRecursion P (filter p es)
all_filter P p [] a = tt
all_filter P p (e ∷ es) a = go (p e) refl (all_filter P p es a.1)
  where
    go : (b : Bool) → p e ≡ b → AllByRecursion P (filter p es) → AllByRecursion P (cond (p e) (e ∷ filter p es) (filter p es))
    go true h rest = rw h (a.0, rest)
    go false h rest = rw h rest

pub all_firsts : {A : Type 0} (P : A → Type 0) (same : A → A → Bool) (es : List A) → AllByRecursion P es → AllByRecursion P (firsts same es)
all_firsts P same [] a = tt
all_firsts P same (e ∷ es) a = (a.0, all_filter P (λ d. not (same e d)) (firsts same es) (all_firsts P same es a.1))

pub all_append : {A : Type 0} (P : A → Type 0) (xs ys : List A) → AllByRecursion P xs → AllByRecursion P ys → AllByRecursion P (xs ++ ys)
all_append P [] ys a b = b
all_append P (x ∷ xs) ys a b = (a.0, all_append P xs ys a.1 b)

-- the entries of a symbol are of that kind
abbrev pub AreOfKind : List Module → Bool → Symbol → Type 0
AreOfKind parts b s = AllByRecursion (λ e. same_symbol s (symbol_of e) ≡ true → is_variable e.global ≡ b) (entries parts)

-- a part keeps to itself what it defines, and no symbol has entries of both kinds
pub record GoTogether (parts : List Module) : Type 0 where
  pub locals : AllByRecursion (λ e. is_local (linkage_of e.global) ≡ true → is_definition e ≡ true) (entries parts)
  pub kinds : AllByRecursion (λ d. AreOfKind parts (is_variable d.global) (symbol_of d)) (entries parts)

module _ (parts : List Module) where
  pub better_cases : (e x : Entry) (o : Option Entry) → better parts e o ≡ Some x → (x ≡ e) ⊎ (o ≡ Some x)
  better_cases e x None h = inl (sym (same_Some e x h))
  better_cases e x (Some y) h = go (cases_cond (gives_way parts e y) (Some y) (Some e) (Some x) (sym h))
    where
      go : (Some x ≡ Some y) ⊎ (Some x ≡ Some e) → (x ≡ e) ⊎ (Some y ≡ Some x)
      go (inl h) = inr (sym h)
      go (inr h) = inl (same_Some x e h)

  -- what holds of all holds of the best
  pub best_has : (P : Entry → Type 0) (es : List Entry) (x : Entry) → AllByRecursion P es → best parts es ≡ Some x → P x
  best_has P [] x a h = cc
  best_has P (e ∷ es) x a h = go (better_cases e x (best parts es) h) (best_has P es x a.1)
    where
      go : (x ≡ e) ⊎ (best parts es ≡ Some x) → (best parts es ≡ Some x → P x) → P x
      go (inl same) more = subst P (sym same) a.0
      go (inr later) more = more later

  -- a home is an entry of the symbol, and a definition
  pub home_is : (P : Entry → Type 0) (s : Symbol) (e : Entry) → AllByRecursion P (entries parts) → home parts s ≡ Some e → (P e × (same_symbol s (symbol_of e) ≡ true)) × (is_definition e ≡ true)
  home_is P s e a h =
      best_has _ (definitions parts s) e (all_passing _ is_definition (entries_of parts s) (all_passing P (λ d. same_symbol s (symbol_of d)) (entries parts) a)) h
