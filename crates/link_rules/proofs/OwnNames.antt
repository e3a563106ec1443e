-- The names of a single module stay.
use Rattle.std.proofs.Common.{◌≡◌, ℕ, Bool, true, false, cond, List, [], ◌∷◌, map, refl, sym, ap, ◌∙◌, filter, not, bytes_eq}
use Rattle.std.specs.List.{list_any, AllByRecursion}
use Rattle.std.specs.Map.{lookup}
use Rattle.std.proofs.lemmas.Bool.{or_from, or_parts, and_parts, cond-true, cond-false, both_ways, false_from_ne_true}
use Rattle.module_arena.specs.Module.{Bytes, Module}
use Rattle.linkage_rules.specs.Lists.{firsts, has}
use Rattle.linkage_rules.specs.Entries.{entries, same_symbol, symbol_of, symbol_in, symbol_name}
use Rattle.linkage_rules.specs.declared.symbol.Symbol.{Symbol}
use Rattle.linkage_rules.specs.declared.symbol.Symbol.TheVariants.{Shared, Local}
use Rattle.linkage_rules.specs.Symbols.{symbols}
use Rattle.link_rules.specs.Rename.{new_name, with_given_names, shared_names, all_names, base_of, renaming, name_or, new_global}
use Rattle.link_rules.specs.Structs.{struct_symbols, same_struct, struct_map, new_struct}
use Rattle.link_rules.proofs.Apart.{Apart, all_left}
use Rattle.linkage_rules.specs.SymbolLaws.{name_exact, symbol_exact}
use Rattle.link_rules.proofs.Merged.{Row, other_name}

-- a symbol by its name
abbrev pub self_named : Symbol → Row
self_named s = (s, symbol_name s)

-- a local symbol's name is not given yet
abbrev pub IsFree : List Bytes → Symbol → Type 0
IsFree given (Shared name) = Unit {0}
IsFree given (Local i name) = has bytes_eq given name ≡ false

still_free : (given : List Bytes) (n : Bytes) (ss : List Symbol) → list_any (bytes_eq n) (map symbol_name ss) ≡ false → AllByRecursion (IsFree given) ss → AllByRecursion (IsFree (n ∷ given)) ss
still_free given n [] h a = tt
still_free given n (Shared m ∷ ss) h a = (tt, still_free given n ss (or_parts (bytes_eq n m) _ h).1 a.1)
still_free given n (Local i m ∷ ss) h a =
    let halves = or_parts (bytes_eq n m) _ h in
    (or_from (bytes_eq m n) _ (other_name n m halves.0) a.0, still_free given n ss halves.1 a.1)

-- where no name is taken each symbol keeps its own
pub names_stay : (base : Bytes → Bytes) (everywhere given : List Bytes) (ss : List Symbol) → Apart bytes_eq (map symbol_name ss) → AllByRecursion (IsFree given) ss → with_given_names base everywhere given ss ≡ map self_named ss
names_stay base everywhere given [] p a = refl
names_stay base everywhere given (Shared n ∷ ss) p a = ap (λ l. (Shared n, n) ∷ l) (names_stay base everywhere given ss p.1 a.1)
names_stay base everywhere given (Local i n ∷ ss) p a =
    let same : new_name base everywhere given n ≡ n = cond-false (has bytes_eq given n) _ _ a.0 in
    ap (λ m. (Local i n, m) ∷ with_given_names base everywhere (m ∷ given) ss) same
    ∙ ap (λ l. (Local i n, n) ∷ l) (names_stay base everywhere (n ∷ given) ss p.1 (still_free given n ss p.0 a.1))

-- a name that no symbol has is no shared one's
shared_free : (n : Bytes) (ss : List Symbol) → list_any (bytes_eq n) (map symbol_name ss) ≡ false → has bytes_eq (shared_names ss) n ≡ false
shared_free n [] h = refl
shared_free n (Shared m ∷ ss) h = let halves = or_parts (bytes_eq n m) _ h in or_from (bytes_eq n m) _ halves.0 (shared_free n ss halves.1)
shared_free n (Local i m ∷ ss) h = shared_free n ss (or_parts (bytes_eq n m) _ h).1

-- where names are distinct no local one is a shared one
pub all_free : (ss : List Symbol) → Apart bytes_eq (map symbol_name ss) → AllByRecursion (IsFree (shared_names ss)) ss
all_free [] p = tt
all_free (Shared n ∷ ss) p = (tt, still_free (shared_names ss) n ss p.0 (all_free ss p.1))
all_free (Local i n ∷ ss) p = (shared_free n ss p.0, all_free ss p.1)

-- what is looked up by a test that only its own name passes is that name
pub found_own : (test : Symbol → Bool) (name : Bytes) → ((s : Symbol) → test s ≡ true → symbol_name s ≡ name) → (ss : List Symbol) → name_or name (lookup test (map self_named ss)) ≡ name
found_own test name h [] = refl
found_own test name h (s ∷ ss) = go (test s) refl (found_own test name h ss)
  where
    go : (b : Bool) → test s ≡ b → name_or name (lookup test (map self_named ss)) ≡ name → name_or name (lookup test (map self_named (s ∷ ss))) ≡ name
    go true t more = ap (name_or name) (cond-true (test s) _ _ t) ∙ h s t
    go false t more = ap (name_or name) (cond-false (test s) _ _ t) ∙ more

symbol_called : (parts : List Module) (i : ℕ) (name : Bytes) → symbol_name (symbol_in parts i name) ≡ name
symbol_called parts i name = go (has same_symbol (map symbol_of (entries parts)) (Local i name))
  where
    go : (b : Bool) → symbol_name (cond b (Local i name) (Shared name)) ≡ name
    go true = refl
    go false = refl

module _ (parts : List Module) where
  -- no two symbols have one name
  pub own_renaming : Apart bytes_eq (map symbol_name (symbols parts)) → renaming parts ≡ map self_named (symbols parts)
  own_renaming p = names_stay base_of (all_names parts) (shared_names (symbols parts)) (symbols parts) p (all_free (symbols parts) p)

  pub own_global : Apart bytes_eq (map symbol_name (symbols parts)) → (i : ℕ) (name : Bytes) → new_global parts i name ≡ name
  own_global p i name =
      ap (λ rows. name_or name (lookup (same_symbol (symbol_in parts i name)) rows)) (own_renaming p)
      ∙ found_own (same_symbol (symbol_in parts i name)) name (λ s t. sym (ap symbol_name (symbol_exact (symbol_in parts i name) s t)) ∙ symbol_called parts i name) (symbols parts)

  -- no two structs have one name
  module _ (p : Apart bytes_eq (map symbol_name (struct_symbols parts))) where
    structs_apart : (ss : List Symbol) → Apart bytes_eq (map symbol_name ss) → firsts (same_struct parts) ss ≡ ss
    structs_apart [] a = refl
    structs_apart (s ∷ ss) a = ap (λ l. s ∷ filter (λ t. not (same_struct parts s t)) l) (structs_apart ss a.1) ∙ ap (λ l. s ∷ l) (all_left (same_struct parts s) ss (clear ss a.0))
      where
        clear : (ts : List Symbol) → list_any (bytes_eq (symbol_name s)) (map symbol_name ts) ≡ false → list_any (same_struct parts s) ts ≡ false
        clear [] h = refl
        clear (t ∷ ts) h =
            let halves = or_parts (bytes_eq (symbol_name s) (symbol_name t)) _ h in
            or_from (same_struct parts s t) _ (false_from_ne_true _ (λ e. both_ways _ halves.0 (and_parts (bytes_eq (symbol_name s) (symbol_name t)) _ e).0)) (clear ts halves.1)

    free_again : (ss : List Symbol) → AllByRecursion (IsFree []) ss
    free_again [] = tt
    free_again (Shared n ∷ ss) = (tt, free_again ss)
    free_again (Local i n ∷ ss) = (refl, free_again ss)

    pub own_structs : struct_map parts ≡ map self_named (struct_symbols parts)
    own_structs =
        ap (with_given_names (λ name. name) (map symbol_name (struct_symbols parts)) []) (structs_apart (struct_symbols parts) p)
        ∙ names_stay (λ name. name) (map symbol_name (struct_symbols parts)) [] (struct_symbols parts) p (free_again (struct_symbols parts))

    pub own_struct : (i : ℕ) (name : Bytes) → new_struct parts i name ≡ name
    own_struct i name =
        ap (λ rows. name_or name (lookup (same_struct parts (Local i name)) rows)) own_structs
        ∙ found_own (same_struct parts (Local i name)) name (λ s t. sym (name_exact name (symbol_name s) (and_parts (bytes_eq name (symbol_name s)) _ t).0)) (struct_symbols parts)
