-- Those of all symbols that are variables, and those that are functions.
use Rattle.std.proofs.Common.{◌≡◌, Bool, true, false, cond, List, [], ◌∷◌, ◌++◌, map, refl, sym, ap, ap₂, ◌∙◌, append-nil, filter}
use Rattle.std.proofs.lemmas.Bool.{cond-true, cond-false}
use Rattle.std.proofs.lemmas.List.Elements.{filter-append}
use Rattle.module_arena.specs.Module.{Module}
use Rattle.linkage_rules.specs.declared.symbol.SymbolKind.{SymbolKind}
use Rattle.linkage_rules.specs.declared.symbol.SymbolKind.TheVariants as kind
use Rattle.linkage_rules.specs.Entries.{Symbol, same_symbol, symbol_of, entries}
use Rattle.linkage_rules.specs.Globals.{is_alias}
use Rattle.linkage_rules.specs.Grouped.{kind_of, same_kind}
use Rattle.linkage_rules.specs.Lists.{firsts}
use Rattle.linkage_rules.specs.Symbols.{variable_symbols, function_symbols, symbols}
use Rattle.linkage_rules.proofs.Ordered as ordered

-- what is kept is kept again
kept_again : {A : Type 0} (p : A → Bool) (xs : List A) → filter p (filter p xs) ≡ filter p xs
kept_again p [] = refl
kept_again p (x ∷ xs) = go (p x) refl (kept_again p xs)
  where
    go : (b : Bool) → p x ≡ b → filter p (filter p xs) ≡ filter p xs → filter p (cond b (x ∷ filter p xs) (filter p xs)) ≡ cond b (x ∷ filter p xs) (filter p xs)
    go true h e = cond-true (p x) _ _ h ∙ ap (λ l. x ∷ l) e
    go false h e = e

-- nothing is kept of what never passes
none_kept : {A : Type 0} (p q : A → Bool) → ((x : A) → q x ≡ true → p x ≡ false) → (xs : List A) → filter p (filter q xs) ≡ []
none_kept p q apart [] = refl
none_kept p q apart (x ∷ xs) = go (q x) refl (none_kept p q apart xs)
  where
    go : (b : Bool) → q x ≡ b → filter p (filter q xs) ≡ [] → filter p (cond b (x ∷ filter q xs) (filter q xs)) ≡ []
    go true h e = cond-false (p x) _ _ (apart x h) ∙ e
    go false h e = e

no_function : (k : SymbolKind) → same_kind kind.Function k ≡ true → same_kind kind.Variable k ≡ false
no_function kind.Variable h = cc
no_function kind.Function h = refl
no_function kind.Alias h = cc

no_variable : (k : SymbolKind) → same_kind kind.Variable k ≡ true → same_kind kind.Function k ≡ false
no_variable kind.Variable h = refl
no_variable kind.Function h = cc
no_variable kind.Alias h = cc

no_alias : (k : SymbolKind) → same_kind kind.Alias k ≡ true → (same_kind kind.Variable k ≡ false) × (same_kind kind.Function k ≡ false)
no_alias kind.Variable h = cc
no_alias kind.Function h = cc
no_alias kind.Alias h = (refl, refl)

module _ (parts : List Module) where
  abbrev is : SymbolKind → Symbol → Bool
  is wanted s = same_kind wanted (kind_of parts s)

  abbrev keys : List Symbol
  keys = firsts same_symbol (map symbol_of (entries parts))

  abbrev alias_keys : List Symbol
  alias_keys = firsts same_symbol (map symbol_of (filter (λ e. is_alias e.global) (entries parts)))

  by_kind : (p : Symbol → Bool) → filter p (symbols parts) ≡ (filter p (filter (is kind.Variable) keys) ++ filter p (filter (is kind.Function) keys)) ++ filter p (filter (is kind.Alias) alias_keys)
  by_kind p =
      ap (filter p) (sym (ordered.in_order parts keys alias_keys refl refl))
      ∙ filter-append p (filter (is kind.Variable) keys ++ filter (is kind.Function) keys) (filter (is kind.Alias) alias_keys)
      ∙ ap (λ l. l ++ filter p (filter (is kind.Alias) alias_keys)) (filter-append p (filter (is kind.Variable) keys) (filter (is kind.Function) keys))

  pub variables_among : filter (λ s. same_kind kind.Variable (kind_of parts s)) (symbols parts) ≡ variable_symbols parts
  variables_among =
      by_kind (is kind.Variable)
      ∙ ap₂ (λ l r. (filter (is kind.Variable) (filter (is kind.Variable) keys) ++ l) ++ r)
      (none_kept (is kind.Variable) (is kind.Function) (λ s. no_function (kind_of parts s)) keys) (none_kept (is kind.Variable) (is kind.Alias) (λ s h. (no_alias (kind_of parts s) h).0) alias_keys)
      ∙ append-nil _ ∙ append-nil _ ∙ kept_again (is kind.Variable) keys ∙ ordered.variables parts

  pub functions_among : filter (λ s. same_kind kind.Function (kind_of parts s)) (symbols parts) ≡ function_symbols parts
  functions_among =
      by_kind (is kind.Function)
      ∙ ap₂ (λ l r. (l ++ filter (is kind.Function) (filter (is kind.Function) keys)) ++ r)
      (none_kept (is kind.Function) (is kind.Variable) (λ s. no_variable (kind_of parts s)) keys) (none_kept (is kind.Function) (is kind.Alias) (λ s h. (no_alias (kind_of parts s) h).1) alias_keys)
      ∙ append-nil _ ∙ kept_again (is kind.Function) keys ∙ ordered.functions parts
