-- Names that are avoided or given one after another.
use Rattle.std.proofs.Common.{◌≡◌, ℕ, ◌+◌, Bool, true, false, ◌||◌, List, [], ◌∷◌, ◌++◌, map, take, Some, Result, Ok, Err, OnOk, refl, sym, ap, ◌∙◌, subst, bytes_eq}
use Rattle.std.specs.Prelude.{slice_get}
use Rattle.std.proofs.lemmas.List.Folds.{list_any-append}
use Rattle.module_arena.specs.Lists.{Lists}
use Rattle.module_arena.specs.Module.{Bytes, Module}
use Rattle.module_arena.proofs.ModuleSet.{map_map}
use Rattle.linkage_rules.specs.declared.entry.EntryId.{EntryId}
use Rattle.linkage_rules.specs.declared.symbol.Symbol.{Symbol}
use Rattle.linkage_rules.specs.declared.symbol.Symbol.TheVariants.{Shared, Local}
use Rattle.linkage_rules.specs.Entries.{Entry}
use Rattle.linkage_rules.specs.Globals.{name_of}
use Rattle.linkage_rules.specs.Grouped.{AreIds}
use Rattle.linkage_rules.specs.Ids.{modules, seen}
use Rattle.linkage_rules.specs.Lists.{has}
use Rattle.linkage_rules.proofs.Steps.{map_step, take_more}
use Rattle.link_rules.specs.Rename.{all_names, shared_names}
use Rattle.link_names.specs.Naming.{HasMore, HasOneMore}

turned : (a b c : Bool) → (b || (a || c)) ≡ ((a || b) || c)
turned true true c = refl
turned true false c = refl
turned false true c = refl
turned false false c = refl

-- some names, and then more
pub more_names : (old mid new xs ys : List Bytes) → HasMore old xs mid → HasMore mid ys new → HasMore old (xs ++ ys) new
more_names old mid new xs ys first second name =
    second name ∙ list_any-append (bytes_eq name) ys mid
    ∙ ap (λ b. has bytes_eq ys name || b) (first name ∙ list_any-append (bytes_eq name) xs old)
    ∙ turned (has bytes_eq xs name) (has bytes_eq ys name) (has bytes_eq old name)
    ∙ sym (list_any-append (bytes_eq name) (xs ++ ys) old ∙ ap (λ b. b || has bytes_eq old name) (list_any-append (bytes_eq name) xs ys))

-- none
pub nothing_more : (old : List Bytes) → HasMore old [] old
nothing_more old name = refl

-- one entry's name more
pub name_avoided : (parts : List Module) (ids : List EntryId) (k : ℕ) (x : EntryId) (name : Bytes) (old mid new : List Bytes) → slice_get ids k ≡ Some x → name ≡ name_of (seen parts x).global
    → HasMore old (map (λ id. name_of (seen parts id).global) (take k ids)) mid → HasOneMore mid name new → HasMore old (map (λ id. name_of (seen parts id).global) (take (k + 1) ids)) new
name_avoided parts ids k x name old mid new at is first one =
    subst (λ names. HasMore old names new) (sym (map_step (λ id. name_of (seen parts id).global) ids k x at))
    (more_names old mid new (map (λ id. name_of (seen parts id).global) (take k ids)) (name_of (seen parts x).global ∷ []) first (subst (λ n. HasOneMore mid n new) is one))

-- all entries' names are those of all ids
pub names_are : (parts : List Lists) (ids : List EntryId) → AreIds parts ids → map (λ id. name_of (seen (modules parts) id).global) ids ≡ all_names (modules parts)
names_are parts ids are = sym (map_map (λ (e : Entry). name_of e.global) (seen (modules parts)) ids) ∙ ap (map (λ (e : Entry). name_of e.global)) are.entries

-- other names that are the same
pub on_ok : {A E : Type 0} (r : Result A E) (old xs ys new : List Bytes) → xs ≡ ys → OnOk r (HasMore old xs new) → OnOk r (HasMore old ys new)
on_ok (Ok x) old xs ys new e h = subst (λ names. HasMore old names new) e h
on_ok (Err x) old xs ys new e h = tt

-- the shared names of some symbols, and then of more
shared_joined : (xs ys : List Symbol) → shared_names (xs ++ ys) ≡ shared_names xs ++ shared_names ys
shared_joined [] ys = refl
shared_joined (Shared name ∷ xs) ys = ap (λ l. name ∷ l) (shared_joined xs ys)
shared_joined (Local part name ∷ xs) ys = shared_joined xs ys

-- one symbol's name more, where it is shared
pub symbol_given : (symbols : List Symbol) (k : ℕ) (s : Symbol) (old mid new : List Bytes) → slice_get symbols k ≡ Some s
    → HasMore old (shared_names (take k symbols)) mid → HasMore mid (shared_names (s ∷ [])) new → HasMore old (shared_names (take (k + 1) symbols)) new
symbol_given symbols k s old mid new at first more =
    subst (λ names. HasMore old names new) (sym (ap shared_names (take_more symbols k s at) ∙ shared_joined (take k symbols) (s ∷ [])))
    (more_names old mid new (shared_names (take k symbols)) (shared_names (s ∷ [])) first more)
