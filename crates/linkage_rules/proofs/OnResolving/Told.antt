-- For callers of `bind_names`: what is told of a name is there.
use Rattle.std.proofs.Common.{◌≡◌, ℕ, zero, suc, ◌<◌, true, List, [], ◌∷◌, map, length, Option, Some, None, refl, sym, ap, ◌∙◌, subst, arith}
use Rattle.std.specs.Prelude.{is_some, IfSome, slice_get}
use Rattle.std.specs.Option.{option_map}
use Rattle.std.proofs.lemmas.Option.{slice_get-map}
use Rattle.module_arena.specs.declared.entry.GlobalId.{GlobalId}
use Rattle.module_arena.specs.Known.{counts, HasGlobal}
use Rattle.module_arena.specs.Lists.{Lists}
use Rattle.module_arena.specs.Module.{Bytes, Module}
use Rattle.module_arena.specs.View.{module_of}
use Rattle.linkage_rules.specs.declared.entry.EntryId.{EntryId}
use Rattle.linkage_rules.specs.declared.symbol.SymbolKind.{SymbolKind}
use Rattle.linkage_rules.specs.declared.symbol.SymbolKind.TheVariants as kind
use Rattle.linkage_rules.specs.Bind.{bind, Definition}
use Rattle.linkage_rules.specs.Ids.{IsEntryId, modules, global_at, global_of, global_id, entry_in}
use Rattle.linkage_rules.specs.declared.resolving.bound.Bound as the_bound
use Rattle.linkage_rules.specs.declared.resolving.bound.Bound.TheVariants as told
use Rattle.linkage_rules.specs.Resolving.Meanings.{NamesTold, AreMeanings, bound_view, told_of}

-- what is told of a name can be seen
pub is_seen : (parts : List Module) (all : List NamesTold) (part : ℕ) (name : Bytes) (b : the_bound.Bound) → AreMeanings parts all → Some b ≡ told_of all part name → is_some (bound_view parts b) ≡ true
is_seen parts all part name b are found =
    let seen : bound_view parts b ≡ Some (bind parts part name) = subst (λ o. IfSome o (λ x. bound_view parts x ≡ Some (bind parts part name))) (sym found) (are.bound part name) in
    ap is_some seen

unmapped : {A B : Type 0} (f : A → B) (o : Option A) → is_some (option_map f o) ≡ true → is_some o ≡ true
unmapped f None h = h
unmapped f (Some x) h = refl

within : {A B : Type 0} (f : A → B) (xs : List A) (k : ℕ) → is_some (slice_get (map f xs) k) ≡ true → k < length xs
within f [] k h = cc
within f (x ∷ xs) zero h = omega arith
within f (x ∷ xs) (suc k) h = let more = within f xs k h in omega (arith, more)

-- an id under which a module has an entry is one of the arena
known_at : (a : Lists) (k : SymbolKind) (n : ℕ) → is_some (global_at (module_of a) (global_of k n)) ≡ true → HasGlobal (counts a) (global_of k n)
unfolding module_of
known_at a kind.Variable n h = within _ a.variables n (unmapped _ (slice_get (module_of a).variables n) h)
known_at a kind.Function n h = within _ a.functions n (unmapped _ (slice_get (module_of a).functions n) h)
known_at a kind.Alias n h = within _ a.aliases n (unmapped _ (slice_get (module_of a).aliases n) h)

-- the entry that a definition tells is an entry of the parts
pub definition_known : (parts : List Lists) (e : EntryId) (part : ℕ) (id : GlobalId) → e.part ≡ part → global_id e ≡ id → is_some (bound_view (modules parts) (told.Definition part id)) ≡ true → IsEntryId parts e
definition_known parts e part id here is h = by (slice_get parts e.part) refl
  where
    seen : is_some (entry_in e.part (slice_get (modules parts) e.part) (global_id e)) ≡ true
    seen =
        unmapped Definition (entry_in e.part (slice_get (modules parts) e.part) (global_id e))
        (subst (λ k. is_some (bound_view (modules parts) (told.Definition k (global_id e))) ≡ true) (sym here) (subst (λ g. is_some (bound_view (modules parts) (told.Definition part g)) ≡ true) (sym is) h))

    at : (o : Option Lists) → slice_get parts e.part ≡ o → is_some (entry_in e.part (option_map module_of o) (global_id e)) ≡ true
    at o i = subst (λ m. is_some (entry_in e.part m (global_id e)) ≡ true) (slice_get-map module_of parts e.part ∙ ap (option_map module_of) i) seen

    by : (o : Option Lists) → slice_get parts e.part ≡ o → IsEntryId parts e
    by None i = let none = at None i in cc
    by (Some a) i = (a, i, known_at a e.kind e.number (unmapped _ (global_at (module_of a) (global_id e)) (at (Some a) i)))
