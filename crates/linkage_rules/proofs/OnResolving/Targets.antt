-- What an alias is of.
use Rattle.std.proofs.Common.{◌≡◌, ℕ, zero, suc, Bool, true, false, List, [], ◌∷◌, map, Option, Some, None, refl, sym, ap, ◌∙◌, subst, bytes_eq}
use Rattle.std.specs.Prelude.{slice_get, IsSome, option_to_list, length}
use Rattle.std.specs.List.{list_any, list_all}
use Rattle.std.specs.Option.{option_map, option_map_or}
use Rattle.std.proofs.lemmas.Bool.{and_parts, both_ways}
use Rattle.std.proofs.lemmas.Option.{slice_get-map, same_Some, get_or_from_slice_get}
use Rattle.type_table.specs.Types.{trees}
use Rattle.ir_tables.specs.Table.{is_distinct}
use Rattle.module_arena.specs.declared.entry.Alias.{Alias}
use Rattle.module_arena.specs.declared.entry.GlobalId.{GlobalId}
use Rattle.module_arena.specs.declared.entry.GlobalId.TheVariants as global
use Rattle.module_arena.specs.Known.{IsGood, KnowsAlias, HasGlobal, counts}
use Rattle.module_arena.specs.Lists.{Lists, global_name, name_at}
use Rattle.module_arena.specs.Module.{Bytes}
use Rattle.module_arena.specs.Names.{is_name}
use Rattle.module_arena.specs.View.{module_of, alias_view}
use Rattle.module_arena.specs.WellFormed.{IsWellFormed, global_names, has_entry, is_good_alias}
use Rattle.linkage_rules.specs.declared.entry.EntryId.{EntryId}
use Rattle.linkage_rules.specs.declared.symbol.SymbolKind.TheVariants as kind
use Rattle.linkage_rules.specs.Entries.{Entry}
use Rattle.linkage_rules.specs.Globals.{target_name}
use Rattle.linkage_rules.specs.Ids.{modules, seen}
use Rattle.linkage_rules.proofs.Seen.{alias_seen}
use Rattle.linkage_rules.proofs.Steps.{all_get}

-- no name is empty
none_empty : (names : List Bytes) → list_all is_name names ≡ true → list_any (bytes_eq []) names ≡ false
none_empty [] h = refl
none_empty ([] ∷ names) h = cc
none_empty ((b ∷ bs) ∷ names) h = none_empty names (and_parts (is_name (b ∷ bs)) (list_all is_name names) h).1

all_at : {A : Type 0} (p : A → Bool) (xs : List A) (k : ℕ) (x : A) → list_all p xs ≡ true → slice_get xs k ≡ Some x → p x ≡ true
all_at p [] k x h e = cc
all_at p (y ∷ xs) zero x h e = subst (λ z. p z ≡ true) (same_Some y x e) (and_parts (p y) (list_all p xs) h).0
all_at p (y ∷ xs) (suc k) x h e = all_at p xs k x (and_parts (p y) (list_all p xs) h).1 e

alias_in : (a : Lists) (n : ℕ) (x : Alias) → slice_get a.aliases n ≡ Some x → slice_get (module_of a).aliases n ≡ Some (alias_view (trees a.table) (name_at a) x)
unfolding module_of
alias_in a n x h = slice_get-map (alias_view (trees a.table) (name_at a)) a.aliases n ∙ ap (option_map (alias_view (trees a.table) (name_at a))) h

-- an alias has a target
pub target_there : (a : Lists) → IsWellFormed (module_of a) → (n : ℕ) (x : Alias) → slice_get a.aliases n ≡ Some x → x.target ≡ None → ⊥
target_there a w n x h none =
    both_ways (has_entry (module_of a) (option_map_or (name_at a) x.target []))
    (ap (λ o. has_entry (module_of a) (option_map_or (name_at a) o [])) none ∙ none_empty (global_names (module_of a)) (and_parts _ (is_distinct bytes_eq (global_names (module_of a))) w.global_names).0)
    (and_parts _ _ (all_at (is_good_alias (module_of a)) (module_of a).aliases n _ w.aliases (alias_in a n x h))).1

name_is : (a : Lists) (g : GlobalId) (name : Bytes) → global_name a g ≡ Some name → name_at a g ≡ name
name_is a (global.Variable n) name h = get_or_from_slice_get (map (λ v. v.name) a.variables) n name [] (slice_get-map (λ v. v.name) a.variables n ∙ h)
name_is a (global.Function n) name h = get_or_from_slice_get (map (λ f. f.name) a.functions) n name [] (slice_get-map (λ f. f.name) a.functions n ∙ h)
name_is a (global.Alias n) name h = get_or_from_slice_get (map (λ x. x.name) a.aliases) n name [] (slice_get-map (λ x. x.name) a.aliases n ∙ h)

-- the name of its target
pub target_named : (parts : List Lists) (id : EntryId) (a : Lists) (x : Alias) (g : GlobalId) (name : Bytes) → slice_get parts id.part ≡ Some a → id.kind ≡ kind.Alias → slice_get a.aliases id.number ≡ Some x → x.target ≡ Some g
    → global_name a g ≡ Some name → name ≡ target_name (seen (modules parts) id).global
target_named parts id a x g name there is at target named =
    sym (name_is a g name named) ∙ ap (λ o. option_map_or (name_at a) o []) (sym target) ∙ ap (λ (e : Entry). target_name e.global) (sym (alias_seen parts id a there x is at))

pub some_target : (a : Lists) → IsWellFormed (module_of a) → (n : ℕ) (x : Alias) → slice_get a.aliases n ≡ Some x → IsSome x.target
some_target a w n x h = by x.target refl
  where
    by : (o : Option GlobalId) → x.target ≡ o → IsSome o
    by None e = absurd (target_there a w n x h e)
    by (Some g) e = refl

-- the target is an entry of the arena
pub known_target : (a : Lists) → IsGood a → (n : ℕ) (x : Alias) (g : GlobalId) → slice_get a.aliases n ≡ Some x → x.target ≡ Some g → HasGlobal (counts a) g
known_target a good n x g h e =
    all_get (HasGlobal (counts a)) (option_to_list x.target) 0 g (all_get (KnowsAlias (length a.table.types) (counts a)) a.aliases n x good.aliases h).target_known (ap (λ (o : Option GlobalId). slice_get (option_to_list o) 0) e)
