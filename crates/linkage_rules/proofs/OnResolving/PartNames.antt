-- The names of a part as they are put down one by one, and those of all parts.
use Rattle.std.proofs.Common.{◌≡◌, ℕ, zero, suc, ◌+◌, Bool, true, false, cond, ◌||◌, ◌⊎◌, inl, inr, List, [], ◌∷◌, ◌++◌, map, length, take, Option, Some, None, refl, sym, ap, ◌∙◌, subst, bytes_eq, arith}
use Rattle.std.specs.Prelude.{is_some, IfSome, slice_get, slice_index_or, option_and_then}
use Rattle.std.specs.List.{list_any}
use Rattle.std.specs.Map.{lookup}
use Rattle.std.specs.Option.{option_map}
use Rattle.std.proofs.lemmas.Option.{slice_get-map, same_Some, get_or_from_slice_get}
use Rattle.indexmap.specs.IndexMap.{insert_entry}
use Rattle.module_arena.specs.Lists.{Lists}
use Rattle.module_arena.specs.Module.{Bytes, Module, empty_module}
use Rattle.module_arena.specs.View.{module_of}
use Rattle.linkage_rules.specs.declared.resolving.bound.Bound as the_bound
use Rattle.linkage_rules.specs.Resolving.Meanings.{NamesTold, AreNames, AreMeanings, bound_view, has_name}
use Rattle.linkage_rules.specs.declared.entry.EntryId.{EntryId}
use Rattle.linkage_rules.specs.Bind.{bind}
use Rattle.linkage_rules.specs.Entries.{Entry}
use Rattle.linkage_rules.specs.Globals.{Global, globals, name_of}
use Rattle.linkage_rules.specs.Grouped.{ids_of}
use Rattle.linkage_rules.specs.Ids.{modules, seen}
use Rattle.linkage_rules.specs.SymbolLaws.{name_self, name_exact}
use Rattle.linkage_rules.proofs.Filed.{found_inserted}
use Rattle.linkage_rules.proofs.Gathered.{entries_of_part}
use Rattle.linkage_rules.proofs.Steps.{take_more, take_whole}

-- ONE PART

-- the names of some ids of a part, with what they mean
pub record AreNamesOf (parts : List Module) (part : ℕ) (ids : List EntryId) (names : NamesTold) : Type 0 where
  pub bound : (name : Bytes) → IfSome (lookup (bytes_eq name) names) (λ b. bound_view parts b ≡ Some (bind parts part name))
  pub known : (name : Bytes) → is_some (lookup (bytes_eq name) names) ≡ list_any (λ id. bytes_eq name (name_of (seen parts id).global)) ids

any_joined : {A : Type 0} (p : A → Bool) (xs : List A) (x : A) → list_any p (xs ++ x ∷ []) ≡ (p x || list_any p xs)
any_joined p [] x = refl
any_joined p (y ∷ xs) x = ap (λ b. p y || b) (any_joined p xs x) ∙ swap (p y) (p x) (list_any p xs)
  where
    swap : (a b c : Bool) → (a || (b || c)) ≡ (b || (a || c))
    swap true true c = refl
    swap true false c = refl
    swap false true c = refl
    swap false false c = refl

pub names_none : (parts : List Module) (part : ℕ) → AreNamesOf parts part [] []
names_none parts part = record { bound = λ name. tt; known = λ name. refl }

names_more : (parts : List Module) (part : ℕ) (ids : List EntryId) (names : NamesTold) (id : EntryId) (name : Bytes) (b : the_bound.Bound) → AreNamesOf parts part ids names
    → name ≡ name_of (seen parts id).global → bound_view parts b ≡ Some (bind parts part name) → AreNamesOf parts part (ids ++ id ∷ []) (insert_entry bytes_eq names name b)
names_more parts part ids names id name b h is means = record { bound = the_bounds; known = the_known }
  where
    found : (q : Bytes) → lookup (bytes_eq q) (insert_entry bytes_eq names name b) ≡ cond (bytes_eq q name) (Some b) (lookup (bytes_eq q) names)
    found q = found_inserted bytes_eq name_self name_exact names name b q

    the_bounds : (q : Bytes) → IfSome (lookup (bytes_eq q) (insert_entry bytes_eq names name b)) (λ x. bound_view parts x ≡ Some (bind parts part q))
    the_bounds q = subst (λ o. IfSome o (λ x. bound_view parts x ≡ Some (bind parts part q))) (sym (found q)) (go (bytes_eq q name) refl)
      where
        go : (c : Bool) → bytes_eq q name ≡ c → IfSome (cond c (Some b) (lookup (bytes_eq q) names)) (λ x. bound_view parts x ≡ Some (bind parts part q))
        go true e = means ∙ ap (λ n. Some (bind parts part n)) (sym (name_exact q name e))
        go false e = h.bound q

    the_known : (q : Bytes) → is_some (lookup (bytes_eq q) (insert_entry bytes_eq names name b)) ≡ list_any (λ x. bytes_eq q (name_of (seen parts x).global)) (ids ++ id ∷ [])
    the_known q =
        ap is_some (found q) ∙ go (bytes_eq q name)
        ∙ ap (λ n. bytes_eq q n || list_any (λ x. bytes_eq q (name_of (seen parts x).global)) ids) is
        ∙ sym (any_joined (λ x. bytes_eq q (name_of (seen parts x).global)) ids id)
      where
        go : (c : Bool) → is_some (cond c (Some b) (lookup (bytes_eq q) names)) ≡ (c || list_any (λ x. bytes_eq q (name_of (seen parts x).global)) ids)
        go true = refl
        go false = h.known q

-- one id more of a list
pub names_step : (parts : List Module) (part : ℕ) (ids : List EntryId) (k : ℕ) (id : EntryId) (names after : NamesTold) (name : Bytes) (b : the_bound.Bound) → slice_get ids k ≡ Some id → AreNamesOf parts part (take k ids) names
    → after ≡ insert_entry bytes_eq names name b → name ≡ name_of (seen parts id).global → bound_view parts b ≡ Some (bind parts part name) → AreNamesOf parts part (take (k + 1) ids) after
names_step parts part ids k id names after name b at h inserted is means =
    subst (λ l. AreNamesOf parts part l after) (sym (take_more ids k id at))
    (subst (AreNamesOf parts part (take k ids ++ id ∷ [])) (sym inserted) (names_more parts part (take k ids) names id name b h is means))

any_mapped : {A B : Type 0} (p : B → Bool) (f : A → B) (xs : List A) → list_any p (map f xs) ≡ list_any (λ x. p (f x)) xs
any_mapped p f [] = refl
any_mapped p f (x ∷ xs) = ap (λ b. p (f x) || b) (any_mapped p f xs)

abbrev placed : ℕ → Global → Entry
placed i g = record { part = i; global = g }

-- all ids of a part
pub names_done : (parts : List Lists) (part : ℕ) (a : Lists) (ids : List EntryId) (k : ℕ) (names : NamesTold) → slice_get parts part ≡ Some a → ids ≡ ids_of part a → k ≡ length ids → AreNamesOf (modules parts) part (take k ids) names
    → AreNames (modules parts) part names
names_done parts part a ids k names there all end done = record {
  bound = h.bound;
  known = λ name.
      h.known name
      ∙ sym (any_mapped (λ (e : Entry). bytes_eq name (name_of e.global)) (seen (modules parts)) (ids_of part a))
      ∙ ap (list_any (λ (e : Entry). bytes_eq name (name_of e.global))) (entries_of_part parts part a there)
      ∙ any_mapped (λ (e : Entry). bytes_eq name (name_of e.global)) (placed part) (globals (module_of a))
      ∙ ap (λ m. list_any (λ g. bytes_eq name (name_of g)) (globals m)) (sym (get_or_from_slice_get (modules parts) part (module_of a) empty_module (slice_get-map module_of parts part ∙ ap (option_map module_of) there)));
}
  where
    h : AreNamesOf (modules parts) part (ids_of part a) names
    h = subst (λ l. AreNamesOf (modules parts) part l names) (ap (λ n. take n ids) end ∙ take_whole ids ∙ all) done

-- ALL PARTS

pub length_mapped : {A B : Type 0} (f : A → B) (xs : List A) → length (map f xs) ≡ length xs
length_mapped f [] = refl
length_mapped f (x ∷ xs) = ap suc (length_mapped f xs)

-- the names of the first parts
abbrev pub AreNamesUpto : List Module → List NamesTold → Type 0
AreNamesUpto parts all = (k : ℕ) (names : NamesTold) → slice_get all k ≡ Some names → AreNames parts k names

pub upto_none : (parts : List Module) → AreNamesUpto parts []
upto_none parts k names e = cc

at_end : {A : Type 0} (front : List A) (x : A) (j : ℕ) (y : A) → slice_get (front ++ x ∷ []) j ≡ Some y → (slice_get front j ≡ Some y) ⊎ ((length front ≡ j) × (x ≡ y))
at_end [] x zero y e = inr (refl, same_Some x y e)
at_end [] x (suc j) y e = cc
at_end (z ∷ front) x zero y e = inl e
at_end (z ∷ front) x (suc j) y e = further (at_end front x j y e)
  where
    further : (slice_get front j ≡ Some y) ⊎ ((length front ≡ j) × (x ≡ y)) → (slice_get front j ≡ Some y) ⊎ ((suc (length front) ≡ suc j) × (x ≡ y))
    further (inl h) = inl h
    further (inr h) = inr (ap suc h.0, h.1)

pub upto_more : (parts : List Module) (all : List NamesTold) (names : NamesTold) → AreNamesUpto parts all → AreNames parts (length all) names → AreNamesUpto parts (all ++ names ∷ [])
upto_more parts all names h last k found e = go (at_end all names k found e)
  where
    go : (slice_get all k ≡ Some found) ⊎ ((length all ≡ k) × (names ≡ found)) → AreNames parts k found
    go (inl there) = h k found there
    go (inr end) = subst (λ n. AreNames parts n found) end.0 (subst (AreNames parts (length all)) end.1 last)

missing : {A B : Type 0} (xs : List A) (ys : List B) (k : ℕ) (d : B) → length xs ≡ length ys → slice_get xs k ≡ None → slice_index_or ys k d ≡ d
missing xs [] zero d e h = refl
missing xs [] (suc k) d e h = refl
missing [] (y ∷ ys) k d e h = absurd (omega (arith, e))
missing (x ∷ xs) (y ∷ ys) zero d e h = cc
missing (x ∷ xs) (y ∷ ys) (suc k) d e h = missing xs ys k d (omega (arith, e)) h

-- those of all parts
pub all_names : (parts : List Module) (all : List NamesTold) → length all ≡ length parts → AreNamesUpto parts all → AreMeanings parts all
all_names parts all count h = record { bound = λ part name. the_bound part name (slice_get all part) refl; known = λ part name. the_known part name (slice_get all part) refl }
  where
    the_bound : (part : ℕ) (name : Bytes) (o : Option NamesTold) → slice_get all part ≡ o → IfSome (option_and_then (lookup (bytes_eq name)) o) (λ b. bound_view parts b ≡ Some (bind parts part name))
    the_bound part name None e = tt
    the_bound part name (Some names) e = (h part names e).bound name

    the_known : (part : ℕ) (name : Bytes) (o : Option NamesTold) → slice_get all part ≡ o → is_some (option_and_then (lookup (bytes_eq name)) o) ≡ has_name parts part name
    the_known part name None e = ap (λ m. list_any (λ g. bytes_eq name (name_of g)) (globals m)) (sym (missing all parts part empty_module count e))
    the_known part name (Some names) e = (h part names e).known name
