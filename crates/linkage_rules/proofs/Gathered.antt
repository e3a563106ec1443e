-- The ids that are numbered part by part are those of all entries.
use Rattle.std.proofs.Common.{◌≡◌, ℕ, zero, suc, ◌+◌, ◌<◌, List, [], ◌∷◌, ◌++◌, map, length, Some, refl, sym, ap, ap₂, ◌∙◌, subst, arith}
use Rattle.std.specs.Prelude.{slice_get}
use Rattle.std.specs.Option.{option_map}
use Rattle.std.specs.List.{AllByRecursion}
use Rattle.std.proofs.lemmas.List.Elements.{All-from_recursion}
use Rattle.module_arena.specs.Known.{counts, HasGlobal, upto}
use Rattle.module_arena.specs.Lists.{Lists}
use Rattle.module_arena.specs.Module.{Module}
use Rattle.module_arena.specs.View.{module_of}
use Rattle.linkage_rules.specs.declared.entry.EntryId.{EntryId}
use Rattle.linkage_rules.specs.declared.symbol.SymbolKind.{SymbolKind}
use Rattle.linkage_rules.specs.declared.symbol.SymbolKind.TheVariants as kind
use Rattle.linkage_rules.specs.Entries.{Entry, entries_from}
use Rattle.linkage_rules.specs.Globals.{Global, OfVariable, OfFunction, OfAlias, globals}
use Rattle.linkage_rules.specs.Grouped.{numbered, ids_of, ids_from, AreIds}
use Rattle.linkage_rules.specs.Ids.{modules, global_at, global_of, seen, IsEntryId}
use Rattle.linkage_rules.proofs.Filed.{map_joined}
use Rattle.linkage_rules.proofs.Seen.{seen_is}

upto_more : (first count : ℕ) → upto first (suc count) ≡ upto first count ++ (first + count) ∷ []
unfolding upto
upto_more first zero = ap (λ n. n ∷ []) (omega arith)
upto_more first (suc count) =
    ap (λ l. first ∷ l) (upto_more (first + 1) count)
    ∙ ap (λ n. first ∷ upto (first + 1) count ++ n ∷ []) (omega arith)

upto_none : (first : ℕ) → upto first 0 ≡ []
unfolding upto
upto_none first = refl

-- one id more of a kind
pub numbered_more : (part : ℕ) (of : SymbolKind) (count : ℕ) → numbered part of (count + 1) ≡ numbered part of count ++ (record { part = part; kind = of; number = count }) ∷ []
numbered_more part of count =
    ap (numbered part of) (omega arith)
    ∙ ap (map {B = EntryId} (λ n. record { part = part; kind = of; number = n })) (upto_more 0 count ∙ ap (λ n. upto 0 count ++ n ∷ []) (omega arith))
    ∙ map_joined {B = EntryId} (λ n. record { part = part; kind = of; number = n }) (upto 0 count) (count ∷ [])

pub numbered_none : (part : ℕ) (of : SymbolKind) → numbered part of 0 ≡ []
numbered_none part of = ap (map {B = EntryId} (λ n. record { part = part; kind = of; number = n })) (upto_none 0)

-- what stands at each number is the list
tabled : {A B : Type 0} (h : ℕ → B) (f : A → B) (xs : List A) (first : ℕ) → ((k : ℕ) (x : A) → slice_get xs k ≡ Some x → h (first + k) ≡ f x) → map h (upto first (length xs)) ≡ map f xs
unfolding upto
tabled h f [] first e = refl
tabled h f (x ∷ xs) first e =
    ap₂ (λ y ys. y ∷ ys) (ap h (omega arith) ∙ e 0 x refl)
    (tabled h f xs (first + 1) (λ k y g. ap h (omega arith) ∙ e (suc k) y g))

all_tabled : (P : ℕ → Type 0) (count first : ℕ) → ((k : ℕ) → k < count → P (first + k)) → AllByRecursion P (upto first count)
unfolding upto
all_tabled P zero first e = tt
all_tabled P (suc count) first e =
    (subst P (omega arith) (e 0 (omega arith)), all_tabled P count (first + 1) (λ k lt. subst P (omega arith) (e (suc k) (omega (arith, lt)))))

pub all_mapped : {A B : Type 0} (P : B → Type 0) (f : A → B) (xs : List A) → AllByRecursion (λ x. P (f x)) xs → AllByRecursion P (map f xs)
all_mapped P f [] a = tt
all_mapped P f (x ∷ xs) a = (a.0, all_mapped P f xs a.1)

pub all_joined : {A : Type 0} (P : A → Type 0) (xs ys : List A) → AllByRecursion P xs → AllByRecursion P ys → AllByRecursion P (xs ++ ys)
all_joined P [] ys a b = b
all_joined P (x ∷ xs) ys a b = (a.0, all_joined P xs ys a.1 b)

-- ONE PART

abbrev placed : ℕ → Global → Entry
placed i g = record { part = i; global = g }

module _ (parts : List Lists) (i : ℕ) (a : Lists) (there : slice_get parts i ≡ Some a) where
  of_kind : {A : Type 0} (of : SymbolKind) (f : A → Global) (xs : List A) → ((k : ℕ) (x : A) → slice_get xs k ≡ Some x → global_at (module_of a) (global_of of k) ≡ Some (f x)) → map (seen (modules parts)) (numbered i of (length xs)) ≡ map (λ x. placed i (f x)) xs
  of_kind of f xs e =
      map_twice (upto 0 (length xs)) ∙ tabled (λ n. seen (modules parts) (record { part = i; kind = of; number = n })) (λ x. placed i (f x)) xs 0 (λ k x h. ap (λ n. seen (modules parts) (record { part = i; kind = of; number = n })) (omega arith) ∙ seen_is parts (record { part = i; kind = of; number = k }) a there (f x) (e k x h))
    where
      map_twice : (ns : List ℕ) → map (seen (modules parts)) (map {B = EntryId} (λ n. record { part = i; kind = of; number = n }) ns) ≡ map (λ n. seen (modules parts) (record { part = i; kind = of; number = n })) ns
      map_twice [] = refl
      map_twice (n ∷ ns) = ap (λ l. seen (modules parts) (record { part = i; kind = of; number = n }) ∷ l) (map_twice ns)

  map_placed : {A : Type 0} (f : A → Global) (xs : List A) → map (λ x. placed i (f x)) xs ≡ map (placed i) (map f xs)
  map_placed f [] = refl
  map_placed f (x ∷ xs) = ap (λ l. placed i (f x) ∷ l) (map_placed f xs)

  length_mapped : {A B : Type 0} (f : A → B) (xs : List A) → length (map f xs) ≡ length xs
  length_mapped f [] = refl
  length_mapped f (x ∷ xs) = ap suc (length_mapped f xs)

  variable_count : length (module_of a).variables ≡ length a.variables
  unfolding module_of
  variable_count = length_mapped _ a.variables

  function_count : length (module_of a).functions ≡ length a.functions
  unfolding module_of
  function_count = length_mapped _ a.functions

  alias_count : length (module_of a).aliases ≡ length a.aliases
  unfolding module_of
  alias_count = length_mapped _ a.aliases

  -- the ids of a part are those of its entries
  part_entries : map (seen (modules parts)) (ids_of i a) ≡ map (placed i) (globals (module_of a))
  part_entries =
      map_joined (seen (modules parts)) (numbered i kind.Variable (length a.variables) ++ numbered i kind.Function (length a.functions)) (numbered i kind.Alias (length a.aliases))
      ∙ ap₂ (λ x y. x ++ y) (map_joined (seen (modules parts)) (numbered i kind.Variable (length a.variables)) (numbered i kind.Function (length a.functions)) ∙ ap₂ (λ x y. x ++ y) variables functions) aliases
      ∙ sym (map_joined (placed i) (map OfVariable m.variables ++ map OfFunction m.functions) (map OfAlias m.aliases) ∙ ap (λ l. l ++ map (placed i) (map OfAlias m.aliases)) (map_joined (placed i) (map OfVariable m.variables) (map OfFunction m.functions)))
    where
      m : Module
      m = module_of a

      variables : map (seen (modules parts)) (numbered i kind.Variable (length a.variables)) ≡ map (placed i) (map OfVariable m.variables)
      variables =
          ap (λ n. map (seen (modules parts)) (numbered i kind.Variable n)) (sym variable_count)
          ∙ of_kind kind.Variable OfVariable m.variables (λ k x h. ap (option_map OfVariable) h) ∙ map_placed OfVariable m.variables

      functions : map (seen (modules parts)) (numbered i kind.Function (length a.functions)) ≡ map (placed i) (map OfFunction m.functions)
      functions =
          ap (λ n. map (seen (modules parts)) (numbered i kind.Function n)) (sym function_count)
          ∙ of_kind kind.Function OfFunction m.functions (λ k x h. ap (option_map OfFunction) h) ∙ map_placed OfFunction m.functions

      aliases : map (seen (modules parts)) (numbered i kind.Alias (length a.aliases)) ≡ map (placed i) (map OfAlias m.aliases)
      aliases =
          ap (λ n. map (seen (modules parts)) (numbered i kind.Alias n)) (sym alias_count)
          ∙ of_kind kind.Alias OfAlias m.aliases (λ k x h. ap (option_map OfAlias) h) ∙ map_placed OfAlias m.aliases

  kind_known : (of : SymbolKind) (count : ℕ) → ((k : ℕ) → k < count → HasGlobal (counts a) (global_of of k)) → AllByRecursion (IsEntryId parts) (numbered i of count)
  kind_known of count e =
      all_mapped {B = EntryId} (IsEntryId parts) (λ n. record { part = i; kind = of; number = n }) (upto 0 count)
      (all_tabled (λ n. IsEntryId parts (record { part = i; kind = of; number = n })) count 0 (λ k lt. (a, there, subst (λ n. HasGlobal (counts a) (global_of of n)) (omega arith) (e k lt))))

  pub part_known : AllByRecursion (IsEntryId parts) (ids_of i a)
  part_known =
      all_joined (IsEntryId parts) (numbered i kind.Variable (length a.variables) ++ numbered i kind.Function (length a.functions)) (numbered i kind.Alias (length a.aliases))
      (all_joined (IsEntryId parts) (numbered i kind.Variable (length a.variables)) (numbered i kind.Function (length a.functions))
      (kind_known kind.Variable (length a.variables) (λ k lt. lt)) (kind_known kind.Function (length a.functions) (λ k lt. lt)))
      (kind_known kind.Alias (length a.aliases) (λ k lt. lt))

  pub entries_of_part : map (seen (modules parts)) (ids_of i a) ≡ map (λ g. let e : Entry = record { part = i; global = g } in e) (globals (module_of a))
  entries_of_part = part_entries

-- ALL PARTS

module _ (parts : List Lists) where
  all_entries : (i : ℕ) (rest : List Lists) → ((k : ℕ) (a : Lists) → slice_get rest k ≡ Some a → slice_get parts (i + k) ≡ Some a) → map (seen (modules parts)) (ids_from i rest) ≡ entries_from i (modules rest)
  all_entries i [] h = refl
  all_entries i (a ∷ rest) h =
      map_joined (seen (modules parts)) (ids_of i a) (ids_from (i + 1) rest)
      ∙ ap₂ (λ x y. x ++ y) (entries_of_part parts i a (ap (slice_get parts) (omega arith) ∙ h 0 a refl))
      (all_entries (i + 1) rest (λ k b e. ap (slice_get parts) (omega arith) ∙ h (suc k) b e) ∙ ap (λ n. entries_from n (modules rest)) (omega arith))

  all_known : (i : ℕ) (rest : List Lists) → ((k : ℕ) (a : Lists) → slice_get rest k ≡ Some a → slice_get parts (i + k) ≡ Some a) → AllByRecursion (IsEntryId parts) (ids_from i rest)
  all_known i [] h = tt
  all_known i (a ∷ rest) h =
      all_joined (IsEntryId parts) (ids_of i a) (ids_from (i + 1) rest) (part_known parts i a (ap (slice_get parts) (omega arith) ∙ h 0 a refl))
      (all_known (i + 1) rest (λ k b e. ap (slice_get parts) (omega arith) ∙ h (suc k) b e))

  pub are_ids : AreIds parts (ids_from 0 parts)
  are_ids = record {
    entries = all_entries 0 parts (λ k a h. ap (slice_get parts) (omega arith) ∙ h);
    known = All-from_recursion (IsEntryId parts) (ids_from 0 parts) (all_known 0 parts (λ k a h. ap (slice_get parts) (omega arith) ∙ h));
  }
