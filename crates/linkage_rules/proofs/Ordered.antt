-- The symbols by kind, each kind in its order, are the symbols.
use Rattle.std.proofs.Common.{◌≡◌, Bool, true, false, not, cond, ◌&&◌, List, [], ◌∷◌, ◌++◌, map, Some, refl, sym, ap, ap₂, ◌∙◌, filter}
use Rattle.std.specs.List.{AllByRecursion}
use Rattle.std.specs.Option.{option_map_or}
use Rattle.std.proofs.lemmas.Bool.{cond-true, cond-false}
use Rattle.std.proofs.lemmas.List.Elements.{filter_agree}
use Rattle.module_arena.specs.Module.{Module}
use Rattle.linkage_rules.specs.declared.symbol.SymbolKind.{SymbolKind}
use Rattle.linkage_rules.specs.declared.symbol.SymbolKind.TheVariants as kind
use Rattle.linkage_rules.specs.Entries.{Entry, Symbol, same_symbol, symbol_of, entries, entries_of}
use Rattle.linkage_rules.specs.Globals.{is_variable, is_alias}
use Rattle.linkage_rules.specs.Grouped.{begins_as_variable, kind_of, same_kind}
use Rattle.linkage_rules.specs.Lists.{firsts, first}
use Rattle.linkage_rules.specs.SymbolLaws.{symbol_self, symbol_exact}
use Rattle.linkage_rules.specs.Symbols.{is_alias_symbol, first_entries, plain_entries, variable_symbols, function_symbols, alias_symbols, symbols}
use Rattle.linkage_rules.proofs.Entries.{map_filter, firsts_map, all_passing, all_follow}
use Rattle.linkage_rules.proofs.Lists.{other_way}

abbrev same_key : Entry → Entry → Bool
same_key d e = same_symbol (symbol_of d) (symbol_of e)

-- a first entry is the first of its symbol
firsts_begin : (es : List Entry) → AllByRecursion (λ d. first (filter (λ e. same_key d e) es) ≡ Some d) (firsts same_key es)
firsts_begin [] = tt
firsts_begin (x ∷ xs) = (
  ap first (cond-true (same_key x x) _ _ (symbol_self (symbol_of x))),
  all_follow _ (λ d. first (filter (λ e. same_key d e) (x ∷ xs)) ≡ Some d) (filter (λ d. not (same_key x d)) (firsts same_key xs)) behind
      (all_passing (λ d. first (filter (λ e. same_key d e) xs) ≡ Some d) (λ d. not (same_key x d)) (firsts same_key xs) (firsts_begin xs)),
)
  where
    flipped : (b : Bool) → not b ≡ true → b ≡ false
    flipped false h = refl
    flipped true h = cc

    behind : (d : Entry) → (first (filter (λ e. same_key d e) xs) ≡ Some d) × (not (same_key x d) ≡ true) → first (filter (λ e. same_key d e) (x ∷ xs)) ≡ Some d
    behind d h =
        ap first (cond-false (same_key d x) _ _ (other_way same_symbol symbol_self symbol_exact (symbol_of x) (symbol_of d) (flipped (same_key x d) h.1))) ∙ h.0

filter_twice : {A : Type 0} (p q r : A → Bool) (xs : List A) → AllByRecursion (λ x. p x ≡ (q x && r x)) xs → filter p xs ≡ filter r (filter q xs)
filter_twice p q r [] h = refl
filter_twice p q r (x ∷ xs) h = ap₂ (λ b l. cond b (x ∷ l) l) h.0 (filter_twice p q r xs h.1) ∙ go (q x) (r x) refl
  where
    go : (b c : Bool) → r x ≡ c → cond (b && c) (x ∷ filter r (filter q xs)) (filter r (filter q xs)) ≡ filter r (cond b (x ∷ filter q xs) (filter q xs))
    go true true e = sym (cond-true (r x) _ _ e)
    go true false e = sym (cond-false (r x) _ _ e)
    go false c e = refl

module _ (parts : List Module) where
  abbrev kind_test : (wanted : SymbolKind) (a b : Bool) → Bool
  kind_test wanted a b = same_kind wanted (cond a kind.Alias (cond b kind.Variable kind.Function))

  of_variable : (a b : Bool) → kind_test kind.Variable a b ≡ (not a && b)
  of_variable true true = refl
  of_variable true false = refl
  of_variable false true = refl
  of_variable false false = refl

  of_function : (a b : Bool) → kind_test kind.Function a b ≡ (not a && not b)
  of_function true true = refl
  of_function true false = refl
  of_function false true = refl
  of_function false false = refl

  of_alias : (a b : Bool) → kind_test kind.Alias a b ≡ a
  of_alias true true = refl
  of_alias true false = refl
  of_alias false true = refl
  of_alias false false = refl

  begins : (d : Entry) → first (entries_of parts (symbol_of d)) ≡ Some d → begins_as_variable parts (symbol_of d) ≡ is_variable d.global
  begins d h = ap (λ o. option_map_or (λ (e : Entry). is_variable e.global) o false) h

  -- the symbols of one of the kinds, from the first entries
  by_first : (wanted : SymbolKind) (r : Entry → Bool) → ((d : Entry) → begins_as_variable parts (symbol_of d) ≡ is_variable d.global → same_kind wanted (kind_of parts (symbol_of d)) ≡ (not (is_alias_symbol parts (symbol_of d)) && r d))
      → filter (λ s. same_kind wanted (kind_of parts s)) (firsts same_symbol (map symbol_of (entries parts))) ≡ map symbol_of (filter r (plain_entries parts))
  by_first wanted r e =
      ap (filter (λ s. same_kind wanted (kind_of parts s))) (sym (firsts_map symbol_of same_symbol (entries parts)))
      ∙ sym (map_filter symbol_of (λ s. same_kind wanted (kind_of parts s)) (first_entries parts))
      ∙ ap (map symbol_of) (filter_twice (λ d. same_kind wanted (kind_of parts (symbol_of d))) (λ d. not (is_alias_symbol parts (symbol_of d))) r (first_entries parts)
      (all_follow _ _ (first_entries parts) (λ d h. e d (begins d h)) (firsts_begin (entries parts))))

  pub variables : filter (λ s. same_kind kind.Variable (kind_of parts s)) (firsts same_symbol (map symbol_of (entries parts))) ≡ variable_symbols parts
  variables =
      by_first kind.Variable (λ d. is_variable d.global)
      (λ d h. of_variable (is_alias_symbol parts (symbol_of d)) (begins_as_variable parts (symbol_of d)) ∙ ap (λ b. not (is_alias_symbol parts (symbol_of d)) && b) h)

  pub functions : filter (λ s. same_kind kind.Function (kind_of parts s)) (firsts same_symbol (map symbol_of (entries parts))) ≡ function_symbols parts
  functions =
      by_first kind.Function (λ d. not (is_variable d.global))
      (λ d h. of_function (is_alias_symbol parts (symbol_of d)) (begins_as_variable parts (symbol_of d)) ∙ ap (λ b. not (is_alias_symbol parts (symbol_of d)) && not b) h)

  aliases : filter (λ s. same_kind kind.Alias (kind_of parts s)) (firsts same_symbol (map symbol_of (filter (λ e. is_alias e.global) (entries parts)))) ≡ alias_symbols parts
  aliases =
      filter_agree (λ s. same_kind kind.Alias (kind_of parts s)) (is_alias_symbol parts) (λ s. of_alias (is_alias_symbol parts s) (begins_as_variable parts s)) _
      ∙ ap (filter (is_alias_symbol parts)) (sym (firsts_map symbol_of same_symbol (filter (λ e. is_alias e.global) (entries parts))))

  pub in_order : (keys alias_keys : List Symbol) → keys ≡ firsts same_symbol (map symbol_of (entries parts)) → alias_keys ≡ firsts same_symbol (map symbol_of (filter (λ e. is_alias e.global) (entries parts)))
      → (filter (λ s. same_kind kind.Variable (kind_of parts s)) keys ++ filter (λ s. same_kind kind.Function (kind_of parts s)) keys) ++ filter (λ s. same_kind kind.Alias (kind_of parts s)) alias_keys ≡ symbols parts
  in_order keys alias_keys p q =
      ap₂ (λ ks as_. (filter (λ s. same_kind kind.Variable (kind_of parts s)) ks ++ filter (λ s. same_kind kind.Function (kind_of parts s)) ks) ++ filter (λ s. same_kind kind.Alias (kind_of parts s)) as_) p q
      ∙ ap₂ (λ x y. x ++ y) (ap₂ (λ x y. x ++ y) variables functions) aliases
