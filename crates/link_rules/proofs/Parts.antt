-- What holds in each part holds of all entries and of all structs.
use Rattle.std.proofs.Common.{◌≡◌, ℕ, suc, ◌+◌, Bool, true, List, [], ◌∷◌, ◌++◌, map, Some, refl, sym, subst, flat_map, arith}
use Rattle.std.specs.Prelude.{slice_get}
use Rattle.std.specs.List.{list_all, AllByRecursion}
use Rattle.std.proofs.lemmas.Bool.{and_parts, and_from}
use Rattle.std.proofs.lemmas.Option.{get_or_from_slice_get}
use Rattle.type_table.specs.Tree.{TreeBody}
use Rattle.module_arena.specs.Module.{Bytes, Module, empty_module}
use Rattle.linkage_rules.specs.Entries.{Entry, entries_from, entries, part_at, symbol_name}
use Rattle.linkage_rules.specs.declared.symbol.Symbol.TheVariants.{Local}
use Rattle.linkage_rules.specs.Globals.{Global, OfVariable, OfFunction, OfAlias, globals}
use Rattle.linkage_rules.proofs.Gathered.{all_joined, all_mapped}
use Rattle.link_rules.specs.Structs.{structs_from, struct_symbols, part_of}
use Rattle.link_rules.proofs.Searches.{at_all}

-- LISTS

pub all_true : {A : Type 0} (p : A → Bool) (xs : List A) → list_all p xs ≡ true → AllByRecursion (λ x. p x ≡ true) xs
all_true p [] h = tt
all_true p (x ∷ xs) h = let halves = and_parts (p x) (list_all p xs) h in (halves.0, all_true p xs halves.1)

pub all_halves : {A : Type 0} (p : A → Bool) (xs ys : List A) → list_all p (xs ++ ys) ≡ true → (list_all p xs ≡ true) × (list_all p ys ≡ true)
all_halves p [] ys h = (refl, h)
all_halves p (x ∷ xs) ys h =
    let halves = and_parts (p x) (list_all p (xs ++ ys)) h in
    let rest = all_halves p xs ys halves.1 in
    (and_from _ _ halves.0 rest.0, rest.1)

pub all_flat_true : {A B : Type 0} (p : B → Bool) (f : A → List B) (xs : List A) → list_all p (flat_map f xs) ≡ true → AllByRecursion (λ x. list_all p (f x) ≡ true) xs
all_flat_true p f [] h = tt
all_flat_true p f (x ∷ xs) h = let halves = all_halves p (f x) (flat_map f xs) h in (halves.0, all_flat_true p f xs halves.1)

-- ENTRIES

abbrev entry : ℕ → Global → Entry
entry i g = record { part = i; global = g }

part_is : (ms : List Module) (i : ℕ) (m : Module) → slice_get ms i ≡ Some m → part_at ms i ≡ m
part_is ms i m h = get_or_from_slice_get ms i m empty_module h

entries_all : (P : ℕ → Global → Type 0) (ms : List Module) (j : ℕ) → ((i : ℕ) (m : Module) → slice_get ms i ≡ Some m → AllByRecursion (P (j + i)) (globals m)) → AllByRecursion (λ e. P e.part e.global) (entries_from j ms)
entries_all P [] j f = tt
entries_all P (m ∷ ms) j f =
    let here : j + 0 ≡ j = omega arith in
    all_joined _ (map (entry j) (globals m)) (entries_from (suc j) ms)
    (all_mapped _ (entry j) (globals m) (subst (λ n. AllByRecursion (P n) (globals m)) here (f 0 m refl)))
    (entries_all P ms (suc j) (λ i n h. let next : j + suc i ≡ suc j + i = omega arith in subst (λ k. AllByRecursion (P k) (globals n)) next (f (suc i) n h)))

pub entries_by : (Q : Module → Type 0) (P : ℕ → Global → Type 0) (parts : List Module) → AllByRecursion Q parts → ((i : ℕ) → Q (part_at parts i) → AllByRecursion (P i) (globals (part_at parts i))) → AllByRecursion (λ e. P e.part e.global) (entries parts)
entries_by Q P parts all f =
    entries_all P parts 0 (λ i m h.
    let same : 0 + i ≡ i = omega arith in
    let is = part_is parts i m h in
    subst (λ n. AllByRecursion (P n) (globals m)) (sym same) (subst (λ n. AllByRecursion (P i) (globals n)) is (f i (subst Q (sym is) (at_all Q parts i m all h)))))

pub globals_all : (P : Global → Type 0) (m : Module) → AllByRecursion (λ v. P (OfVariable v)) m.variables → AllByRecursion (λ f. P (OfFunction f)) m.functions → AllByRecursion (λ a. P (OfAlias a)) m.aliases → AllByRecursion P (globals m)
globals_all P m vs fs as_ =
    all_joined P (map OfVariable m.variables ++ map OfFunction m.functions) (map OfAlias m.aliases)
    (all_joined P (map OfVariable m.variables) (map OfFunction m.functions) (all_mapped P OfVariable m.variables vs) (all_mapped P OfFunction m.functions fs)) (all_mapped P OfAlias m.aliases as_)

-- STRUCTS

structs_all : (P : ℕ → Bytes → Type 0) (ms : List Module) (j : ℕ) → ((i : ℕ) (m : Module) → slice_get ms i ≡ Some m → AllByRecursion (λ s. P (j + i) s.0) m.structs) → AllByRecursion (λ s. P (part_of s) (symbol_name s)) (structs_from j ms)
structs_all P [] j f = tt
structs_all P (m ∷ ms) j f =
    let here : j + 0 ≡ j = omega arith in
    all_joined _ (map (λ (s : Bytes × TreeBody). Local j s.0) m.structs) (structs_from (suc j) ms)
    (all_mapped _ (λ (s : Bytes × TreeBody). Local j s.0) m.structs (subst (λ n. AllByRecursion (λ (s : Bytes × TreeBody). P n s.0) m.structs) here (f 0 m refl)))
    (structs_all P ms (suc j) (λ i n h. let next : j + suc i ≡ suc j + i = omega arith in subst (λ k. AllByRecursion (λ (s : Bytes × TreeBody). P k s.0) n.structs) next (f (suc i) n h)))

pub structs_by : (Q : Module → Type 0) (P : ℕ → Bytes → Type 0) (parts : List Module) → AllByRecursion Q parts → ((i : ℕ) → Q (part_at parts i) → AllByRecursion (λ s. P i s.0) (part_at parts i).structs) → AllByRecursion (λ s. P (part_of s) (symbol_name s)) (struct_symbols parts)
structs_by Q P parts all f =
    structs_all P parts 0 (λ i m h.
    let same : 0 + i ≡ i = omega arith in
    let is = part_is parts i m h in
    subst (λ n. AllByRecursion (λ (s : Bytes × TreeBody). P n s.0) m.structs) (sym same) (subst (λ n. AllByRecursion (λ (s : Bytes × TreeBody). P i s.0) n.structs) is (f i (subst Q (sym is) (at_all Q parts i m all h)))))
