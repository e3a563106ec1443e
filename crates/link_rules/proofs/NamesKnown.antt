-- A name that a part is known to have an entry of is one of a symbol.
use Rattle.std.proofs.Common.{◌≡◌, ℕ, Bool, true, ◌⊎◌, inl, inr, List, [], ◌∷◌, ◌++◌, map, refl, sym, subst, bytes_eq}
use Rattle.std.specs.List.{list_any}
use Rattle.std.proofs.lemmas.Bool.{or_left, or_right, or_cases}
use Rattle.module_arena.specs.Functions.{variable_names, alias_names, function_names}
use Rattle.module_arena.specs.Module.{Bytes, Module}
use Rattle.module_arena.specs.WellFormed.{has_entry}
use Rattle.linkage_rules.specs.Entries.{part_at}
use Rattle.linkage_rules.specs.Globals.{Global, OfVariable, OfFunction, OfAlias, name_of, globals}
use Rattle.link_rules.specs.Known.{KnownName}
use Rattle.link_rules.proofs.Declared.{is_declared}
use Rattle.link_rules.proofs.Agreed.{any_left, any_right}

named_by : {A : Type 0} (of_it : A → Global) (name_in : A → Bytes) → ((x : A) → name_of (of_it x) ≡ name_in x) → (name : Bytes) (xs : List A) → list_any (bytes_eq name) (map name_in xs) ≡ true → list_any (λ g. bytes_eq name (name_of g)) (map of_it xs) ≡ true
named_by of_it name_in same name [] h = cc
named_by of_it name_in same name (x ∷ xs) h = go (or_cases (bytes_eq name (name_in x)) _ h) (named_by of_it name_in same name xs)
  where
    go : (bytes_eq name (name_in x) ≡ true) ⊎ (list_any (bytes_eq name) (map name_in xs) ≡ true) → (list_any (bytes_eq name) (map name_in xs) ≡ true → list_any (λ g. bytes_eq name (name_of g)) (map of_it xs) ≡ true) → list_any (λ g. bytes_eq name (name_of g)) (map of_it (x ∷ xs)) ≡ true
    go (inl k) more = or_left _ _ (subst (λ n. bytes_eq name n ≡ true) (sym (same x)) k)
    go (inr k) more = or_right _ _ (more k)

any_parts : {A : Type 0} (p : A → Bool) (xs ys : List A) → list_any p (xs ++ ys) ≡ true → (list_any p xs ≡ true) ⊎ (list_any p ys ≡ true)
any_parts p [] ys h = inr h
any_parts p (x ∷ xs) ys h = go (or_cases (p x) _ h) (any_parts p xs ys)
  where
    go : (p x ≡ true) ⊎ (list_any p (xs ++ ys) ≡ true) → (list_any p (xs ++ ys) ≡ true → (list_any p xs ≡ true) ⊎ (list_any p ys ≡ true)) → (list_any p (x ∷ xs) ≡ true) ⊎ (list_any p ys ≡ true)
    go (inl k) more = inl (or_left _ _ k)
    go (inr k) more = later (more k)
      where
        later : (list_any p xs ≡ true) ⊎ (list_any p ys ≡ true) → (list_any p (x ∷ xs) ≡ true) ⊎ (list_any p ys ≡ true)
        later (inl j) = inl (or_right _ _ j)
        later (inr j) = inr j

entry_named : (m : Module) (name : Bytes) → has_entry m name ≡ true → list_any (λ g. bytes_eq name (name_of g)) (globals m) ≡ true
entry_named m name h = by_variable (any_parts (bytes_eq name) (variable_names m) (alias_names m ++ function_names m) h)
  where
    by_alias : (list_any (bytes_eq name) (alias_names m) ≡ true) ⊎ (list_any (bytes_eq name) (function_names m) ≡ true) → list_any (λ g. bytes_eq name (name_of g)) (globals m) ≡ true
    by_alias (inl k) = any_right (λ g. bytes_eq name (name_of g)) (map OfVariable m.variables ++ map OfFunction m.functions) (map OfAlias m.aliases) (named_by OfAlias (λ a. a.name) (λ a. refl) name m.aliases k)
    by_alias (inr k) =
        any_left (λ g. bytes_eq name (name_of g)) (map OfVariable m.variables ++ map OfFunction m.functions) (map OfAlias m.aliases)
        (any_right (λ g. bytes_eq name (name_of g)) (map OfVariable m.variables) (map OfFunction m.functions) (named_by OfFunction (λ f. f.name) (λ f. refl) name m.functions k))

    by_variable : (list_any (bytes_eq name) (variable_names m) ≡ true) ⊎ (list_any (bytes_eq name) (alias_names m ++ function_names m) ≡ true) → list_any (λ g. bytes_eq name (name_of g)) (globals m) ≡ true
    by_variable (inl k) =
        any_left (λ g. bytes_eq name (name_of g)) (map OfVariable m.variables ++ map OfFunction m.functions) (map OfAlias m.aliases)
        (any_left (λ g. bytes_eq name (name_of g)) (map OfVariable m.variables) (map OfFunction m.functions) (named_by OfVariable (λ v. v.name) (λ v. refl) name m.variables k))
    by_variable (inr k) = by_alias (any_parts (bytes_eq name) (alias_names m) (function_names m) k)

-- a name that well-formedness finds in a part is one of a symbol
pub name_known : (parts : List Module) (i : ℕ) (name : Bytes) → has_entry (part_at parts i) name ≡ true → KnownName parts i name
name_known parts i name h = is_declared parts i name (entry_named (part_at parts i) name h)
