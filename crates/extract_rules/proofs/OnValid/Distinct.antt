-- Names of which no two are the same.
use Rattle.std.proofs.Common.{◌≡◌, true, false, not, List, [], ◌∷◌, ◌++◌, sym, ◌∙◌, bytes_eq}
use Rattle.std.specs.List.{list_any, AllByRecursion}
use Rattle.std.proofs.lemmas.Bool.{and_parts, or_parts, not-true}
use Rattle.std.proofs.lemmas.List.Folds.{list_any-append}
use Rattle.ir_tables.specs.Table.{is_distinct}
use Rattle.module_arena.specs.Module.{Bytes}

-- no name is the same as one after it
abbrev pub Apart : List Bytes → Type 0
Apart [] = Unit {0}
Apart (x ∷ xs) = (list_any (bytes_eq x) xs ≡ false) × Apart xs

-- no name of the first is among the second
abbrev pub Cross : List Bytes → List Bytes → Type 0
Cross xs ys = AllByRecursion (λ x. list_any (bytes_eq x) ys ≡ false) xs

pub distinct_apart : (xs : List Bytes) → is_distinct bytes_eq xs ≡ true → Apart xs
distinct_apart [] h = tt
distinct_apart (x ∷ xs) h =
    let both = and_parts (not (list_any (bytes_eq x) xs)) _ h in
    (not-true _ both.0, distinct_apart xs both.1)

pub apart_parts : (xs ys : List Bytes) → Apart (xs ++ ys) → Apart xs × (Apart ys × Cross xs ys)
apart_parts [] ys a = (tt, (a, tt))
apart_parts (x ∷ xs) ys a =
    let rest = apart_parts xs ys a.1 in
    let both = or_parts (list_any (bytes_eq x) xs) (list_any (bytes_eq x) ys) (sym (list_any-append (bytes_eq x) xs ys) ∙ a.0) in
    ((both.0, rest.0), (rest.1.0, (both.1, rest.1.1)))
