-- No two entries of a well formed part have one name.
use Rattle.std.proofs.Common.{◌≡◌, true, false, not, List, [], ◌∷◌, ◌++◌, map, refl, sym, ap, ap₂, ◌∙◌, subst, bytes_eq, append-nil}
use Rattle.std.specs.List.{list_any}
use Rattle.std.proofs.lemmas.Bool.{and_parts, or_parts, or_from, and_from, not-true}
use Rattle.std.proofs.lemmas.List.{map-append}
use Rattle.ir_tables.specs.Table.{is_distinct}
use Rattle.module_arena.specs.Functions.{variable_names, alias_names, function_names}
use Rattle.module_arena.specs.Module.{Bytes, Module}
use Rattle.module_arena.specs.WellFormed.{IsWellFormed, global_names, struct_names}
use Rattle.module_arena.proofs.ModuleSet.{map_map}
use Rattle.linkage_rules.specs.Globals.{OfVariable, OfFunction, OfAlias, name_of}
use Rattle.link_rules.proofs.Agreed.{AreDistinct}
use Rattle.link_rules.proofs.Symbols.{any_append, any_halves}
use Rattle.link_rules.proofs.Apart.{Apart}
use Rattle.linkage_rules.proofs.Lists.{other_way}
use Rattle.linkage_rules.specs.SymbolLaws.{name_self, name_exact}

abbrev Names : Type 0
Names = List Bytes

pub apart_from : (xs : Names) → is_distinct bytes_eq xs ≡ true → Apart bytes_eq xs
apart_from [] h = tt
apart_from (x ∷ xs) h = let halves = and_parts (not (list_any (bytes_eq x) xs)) _ h in (not-true _ halves.0, apart_from xs halves.1)

pub distinct_from : (xs : Names) → Apart bytes_eq xs → is_distinct bytes_eq xs ≡ true
distinct_from [] a = refl
distinct_from (x ∷ xs) a = and_from _ _ (ap not a.0) (distinct_from xs a.1)

insert : (x : Bytes) (xs ys : Names) → Apart bytes_eq (xs ++ ys) → list_any (bytes_eq x) (xs ++ ys) ≡ false → Apart bytes_eq (xs ++ x ∷ ys)
insert x [] ys a h = (h, a)
insert x (y ∷ xs) ys a h =
    let parts = or_parts (bytes_eq x y) (list_any (bytes_eq x) (xs ++ ys)) h in
    let halves = any_halves (bytes_eq y) xs ys a.0 in
    (any_append (bytes_eq y) xs (x ∷ ys) halves.0 (or_from (bytes_eq y x) _ (other_way bytes_eq name_self name_exact x y parts.0) halves.1), insert x xs ys a.1 parts.1)

swapped : (ys zs : Names) → Apart bytes_eq (ys ++ zs) → Apart bytes_eq (zs ++ ys)
swapped [] zs a = subst (Apart bytes_eq) (sym (append-nil zs)) a
swapped (y ∷ ys) zs a =
    let halves = any_halves (bytes_eq y) ys zs a.0 in
    insert y zs ys (swapped ys zs a.1) (any_append (bytes_eq y) zs ys halves.1 halves.0)

swapped_behind : (xs ys zs : Names) → Apart bytes_eq (xs ++ (ys ++ zs)) → Apart bytes_eq (xs ++ (zs ++ ys))
swapped_behind [] ys zs a = swapped ys zs a
swapped_behind (x ∷ xs) ys zs a =
    let halves = any_halves (bytes_eq x) xs (ys ++ zs) a.0 in
    let others = any_halves (bytes_eq x) ys zs halves.1 in
    (any_append (bytes_eq x) xs (zs ++ ys) halves.0 (any_append (bytes_eq x) zs ys others.1 others.0), swapped_behind xs ys zs a.1)

joined : (xs ys zs : Names) → (xs ++ ys) ++ zs ≡ xs ++ (ys ++ zs)
joined [] ys zs = refl
joined (x ∷ xs) ys zs = ap (λ l. x ∷ l) (joined xs ys zs)

pub are_distinct : (m : Module) → IsWellFormed m → AreDistinct m
are_distinct m w =
    subst (Apart bytes_eq) (sym names)
    (swapped_behind (variable_names m) (alias_names m) (function_names m) (apart_from (global_names m) (and_parts _ (is_distinct bytes_eq (global_names m)) w.global_names).1))
  where
    names : map name_of ((map OfVariable m.variables ++ map OfFunction m.functions) ++ map OfAlias m.aliases) ≡ variable_names m ++ (function_names m ++ alias_names m)
    names =
        map-append name_of (map OfVariable m.variables ++ map OfFunction m.functions) (map OfAlias m.aliases)
        ∙ ap₂ (λ x y. x ++ y) (map-append name_of (map OfVariable m.variables) (map OfFunction m.functions) ∙ ap₂ (λ x y. x ++ y) (map_map name_of OfVariable m.variables) (map_map name_of OfFunction m.functions)) (map_map name_of OfAlias m.aliases)
        ∙ joined (variable_names m) (function_names m) (alias_names m)

pub structs_distinct : (m : Module) → IsWellFormed m → Apart bytes_eq (struct_names m)
structs_distinct m w = apart_from (struct_names m) (and_parts _ (is_distinct bytes_eq (struct_names m)) w.struct_names).1
