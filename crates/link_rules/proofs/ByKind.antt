-- Where no two entries are of one symbol, the symbols are those of the entries, kind by kind.
use Rattle.std.proofs.Common.{◌≡◌, ℕ, Bool, true, false, not, cond, ◌||◌, List, [], ◌∷◌, ◌++◌, map, Some, None, refl, sym, ap, ap₂, ◌∙◌, filter}
use Rattle.std.specs.Prelude.{slice_get}
use Rattle.std.specs.Option.{option_map_or}
use Rattle.std.specs.List.{list_any, AllByRecursion}
use Rattle.std.proofs.lemmas.Bool.{cond-true, cond-false}
use Rattle.module_arena.specs.Module.{Module}
use Rattle.linkage_rules.specs.Globals.{is_variable, is_alias}
use Rattle.linkage_rules.specs.Lists.{firsts}
use Rattle.linkage_rules.specs.Entries.{Entry, entries, same_symbol, symbol_of}
use Rattle.linkage_rules.specs.Symbols.{is_alias_symbol, plain_entries, variable_symbols, function_symbols, alias_entries, alias_symbols}
use Rattle.linkage_rules.specs.Winner.{is_definition, best, home}
use Rattle.link_rules.proofs.Apart.{Apart, all_left, filter_at}
use Rattle.linkage_rules.specs.SymbolLaws.{symbol_self, symbol_exact}
use Rattle.link_rules.proofs.Symbols.{any_map_filter}
use Rattle.linkage_rules.proofs.Entries.{all_passing, all_follow}
use Rattle.linkage_rules.proofs.Gathered.{all_joined, all_mapped}
use Rattle.link_rules.proofs.Agreed.{all_from_at}
use Rattle.link_rules.proofs.Searches.{at_all}

-- LISTS

pub any_key : {A B : Type 0} (key : A → B) (test : B → Bool) (xs : List A) → list_any test (map key xs) ≡ list_any (λ x. test (key x)) xs
any_key key test [] = refl
any_key key test (x ∷ xs) = ap (λ b. test (key x) || b) (any_key key test xs)

-- where no two have one key, each is the first of its key
pub firsts_by_key : {A B : Type 0} (key : A → B) (same : B → B → Bool) (xs : List A) → Apart same (map key xs) → firsts (λ x y. same (key x) (key y)) xs ≡ xs
firsts_by_key key same [] a = refl
firsts_by_key key same (x ∷ xs) a =
    ap (λ l. x ∷ filter (λ y. not (same (key x) (key y))) l) (firsts_by_key key same xs a.1)
    ∙ ap (λ l. x ∷ l) (all_left (λ y. same (key x) (key y)) xs (sym (any_key key (same (key x)) xs) ∙ a.0))

apart_kept : {A B : Type 0} (key : A → B) (same : B → B → Bool) (p : A → Bool) (xs : List A) → Apart same (map key xs) → Apart same (map key (filter p xs))
apart_kept key same p [] a = tt
apart_kept key same p (x ∷ xs) a = go (p x) refl (apart_kept key same p xs a.1)
  where
    go : (b : Bool) → p x ≡ b → Apart same (map key (filter p xs)) → Apart same (map key (filter p (x ∷ xs)))
    go true e rest = rw e (any_map_filter (same (key x)) key p xs a.0, rest)
    go false e rest = rw e rest

filter_alike : {A : Type 0} (p q : A → Bool) (xs : List A) → AllByRecursion (λ x. p x ≡ q x) xs → filter p xs ≡ filter q xs
filter_alike p q [] a = refl
filter_alike p q (x ∷ xs) a = ap₂ (λ b l. cond b (x ∷ l) l) a.0 (filter_alike p q xs a.1)

all_kept : {A : Type 0} (p : A → Bool) (xs : List A) → AllByRecursion (λ x. p x ≡ true) xs → filter p xs ≡ xs
all_kept p [] a = refl
all_kept p (x ∷ xs) a = cond-true (p x) _ _ a.0 ∙ ap (λ l. x ∷ l) (all_kept p xs a.1)

-- what passes a test, before what does not
pub pick_front : {A : Type 0} (p : A → Bool) (xs ys : List A) → AllByRecursion (λ x. p x ≡ true) xs → AllByRecursion (λ x. p x ≡ false) ys → (filter p (xs ++ ys) ≡ xs) × (filter (λ x. not (p x)) (xs ++ ys) ≡ ys)
pick_front p [] [] a b = (refl, refl)
pick_front p [] (y ∷ ys) a b =
    let rest = pick_front p [] ys tt b.1 in
    (cond-false (p y) _ _ b.0 ∙ rest.0, cond-true (not (p y)) _ _ (ap not b.0) ∙ ap (λ l. y ∷ l) rest.1)
pick_front p (x ∷ xs) ys a b =
    let rest = pick_front p xs ys a.1 b in
    (cond-true (p x) _ _ a.0 ∙ ap (λ l. x ∷ l) rest.0, cond-false (not (p x)) _ _ (ap not a.0) ∙ rest.1)

-- and what does not, before what does
pick_back : {A : Type 0} (p : A → Bool) (xs ys : List A) → AllByRecursion (λ x. p x ≡ false) xs → AllByRecursion (λ x. p x ≡ true) ys → (filter (λ x. not (p x)) (xs ++ ys) ≡ xs) × (filter p (xs ++ ys) ≡ ys)
pick_back p [] ys a b = (none ys b, all_kept p ys b)
  where
    none : (zs : List _) → AllByRecursion (λ x. p x ≡ true) zs → filter (λ x. not (p x)) zs ≡ []
    none [] b = refl
    none (z ∷ zs) b = cond-false (not (p z)) _ _ (ap not b.0) ∙ none zs b.1
pick_back p (x ∷ xs) ys a b =
    let rest = pick_back p xs ys a.1 b in
    (cond-true (not (p x)) _ _ (ap not a.0) ∙ ap (λ l. x ∷ l) rest.0, cond-false (p x) _ _ a.0 ∙ rest.1)

-- ENTRIES

-- an alias is a definition
abbrev pub AliasesDefine : List Entry → Type 0
AliasesDefine es = AllByRecursion (λ e. is_alias e.global ≡ true → is_definition e ≡ true) es

abbrev pub AreVariables : List Entry → Type 0
AreVariables es = AllByRecursion (λ e. (is_variable e.global ≡ true) × (is_alias e.global ≡ false)) es

abbrev pub AreFunctions : List Entry → Type 0
AreFunctions es = AllByRecursion (λ e. (is_variable e.global ≡ false) × (is_alias e.global ≡ false)) es

abbrev pub AreAliases : List Entry → Type 0
AreAliases es = AllByRecursion (λ e. is_alias e.global ≡ true) es

module _ (parts : List Module) (apart : Apart same_symbol (map symbol_of (entries parts))) where
  -- an entry is the home of its symbol, or none is
  pub home_alone : (k : ℕ) (e : Entry) → slice_get (entries parts) k ≡ Some e → home parts (symbol_of e) ≡ cond (is_definition e) (Some e) None
  home_alone k e h = ap (λ l. best parts (filter is_definition l)) (filter_at same_symbol symbol_self symbol_exact symbol_of (λ x. true) (entries parts) k e apart h) ∙ go (is_definition e)
    where
      go : (b : Bool) → best parts (cond b (e ∷ []) []) ≡ cond b (Some e) None
      go true = refl
      go false = refl

  module _ (define : AliasesDefine (entries parts)) where
    aliases_alone : AllByRecursion (λ e. is_alias_symbol parts (symbol_of e) ≡ is_alias e.global) (entries parts)
    aliases_alone = all_from_at _ (entries parts) (λ k e h. ap (λ o. option_map_or (λ (d : Entry). is_alias d.global) o false) (home_alone k e h) ∙ go e (is_alias e.global) refl (at_all (λ d. is_alias d.global ≡ true → is_definition d ≡ true) (entries parts) k e define h))
      where
        go : (e : Entry) (b : Bool) → is_alias e.global ≡ b → (is_alias e.global ≡ true → is_definition e ≡ true) → option_map_or (λ (d : Entry). is_alias d.global) (cond (is_definition e) (Some e) None) false ≡ is_alias e.global
        go e true t d = ap (λ o. option_map_or (λ (x : Entry). is_alias x.global) o false) (cond-true (is_definition e) (Some e) None (d t))
        go e false t d = by_test (is_definition e) ∙ sym t
          where
            by_test : (c : Bool) → option_map_or (λ (x : Entry). is_alias x.global) (cond c (Some e) None) false ≡ false
            by_test true = t
            by_test false = refl

    plain_alone : plain_entries parts ≡ filter (λ e. not (is_alias e.global)) (entries parts)
    plain_alone =
        ap (filter (λ e. not (is_alias_symbol parts (symbol_of e)))) (firsts_by_key symbol_of same_symbol (entries parts) apart)
        ∙ filter_alike (λ e. not (is_alias_symbol parts (symbol_of e))) (λ e. not (is_alias e.global)) (entries parts) (all_follow _ _ (entries parts) (λ e h. ap not h) aliases_alone)

    first_aliases : alias_entries parts ≡ filter (λ e. is_alias e.global) (entries parts)
    first_aliases = firsts_by_key symbol_of same_symbol (filter (λ e. is_alias e.global) (entries parts)) (apart_kept symbol_of same_symbol (λ e. is_alias e.global) (entries parts) apart)

    alone_aliases : alias_symbols parts ≡ map symbol_of (filter (λ e. is_alias e.global) (entries parts))
    alone_aliases =
        ap (λ es. filter (is_alias_symbol parts) (map symbol_of es)) first_aliases
        ∙ all_kept (is_alias_symbol parts) (map symbol_of (filter (λ e. is_alias e.global) (entries parts)))
        (all_mapped (λ s. is_alias_symbol parts s ≡ true) symbol_of (filter (λ e. is_alias e.global) (entries parts))
        (all_follow _ _ (filter (λ e. is_alias e.global) (entries parts)) (λ e h. h.0 ∙ h.1)
        (all_passing (λ e. is_alias_symbol parts (symbol_of e) ≡ is_alias e.global) (λ e. is_alias e.global) (entries parts) aliases_alone)))

    module _ (xs ys zs : List Entry) (split : entries parts ≡ (xs ++ ys) ++ zs) (variables : AreVariables xs) (functions : AreFunctions ys) (aliases : AreAliases zs) where
      picked : (filter (λ e. not (is_alias e.global)) (entries parts) ≡ xs ++ ys) × (filter (λ e. is_alias e.global) (entries parts) ≡ zs)
      picked =
          let both = pick_back (λ (e : Entry). is_alias e.global) (xs ++ ys) zs
          (all_joined (λ e. is_alias e.global ≡ false) xs ys (all_follow _ _ xs (λ e h. h.1) variables) (all_follow _ _ ys (λ e h. h.1) functions)) aliases in
          (ap (filter (λ e. not (is_alias e.global))) split ∙ both.0, ap (filter (λ e. is_alias e.global)) split ∙ both.1)

      sorted : (filter (λ e. is_variable e.global) (xs ++ ys) ≡ xs) × (filter (λ e. not (is_variable e.global)) (xs ++ ys) ≡ ys)
      sorted = pick_front (λ (e : Entry). is_variable e.global) xs ys (all_follow _ _ xs (λ e h. h.0) variables) (all_follow _ _ ys (λ e h. h.0) functions)

      pub variables_alone : variable_symbols parts ≡ map symbol_of xs
      variables_alone = ap (λ es. map symbol_of (filter (λ e. is_variable e.global) es)) (plain_alone ∙ picked.0) ∙ ap (map symbol_of) sorted.0

      pub functions_alone : function_symbols parts ≡ map symbol_of ys
      functions_alone = ap (λ es. map symbol_of (filter (λ e. not (is_variable e.global)) es)) (plain_alone ∙ picked.0) ∙ ap (map symbol_of) sorted.1

      pub alias_symbols_alone : alias_symbols parts ≡ map symbol_of zs
      alias_symbols_alone = alone_aliases ∙ ap (map symbol_of) picked.1
