-- Types that are made of earlier ones, and are all within the limits, are good ones, and so are structs whose fields are of them.
use Rattle.std.proofs.Common.{◌≡◌, ◌<◌, ◌+◌, ℕ, zero, suc, true, ◌&&◌, List, [], ◌∷◌, ◌++◌, length, get_or, map, All, Option, Some, None, refl, sym, ap, subst, arith, nat_le, bytes_eq}
use Rattle.std.specs.List.{fold, list_all, list_any, AllByRecursion}
use Rattle.std.proofs.lemmas.Bool.{and_from, or_left, or_right, le-leb}
use Rattle.std.proofs.lemmas.List.{length-append, length-map}
use Rattle.std.proofs.lemmas.Slice.Eq.{bytes_eq-Decides}
use Rattle.type_table.specs.declared.ir_type.IrType.{IrType}
use Rattle.type_table.specs.declared.ir_type.IrType.TheVariants.{Int, Ptr, Void, Array, Struct, Named}
use Rattle.type_table.specs.declared.ir_type.StructBody.{StructBody}
use Rattle.type_table.specs.declared.ir_type.StructBody.TheVariants.{Opaque, Plain, Packed}
use Rattle.type_table.specs.Limits.{all_shapes}
use Rattle.type_table.specs.Shape as shapes
use Rattle.type_table.specs.Tree.{Tree, void, named, Structs}
use Rattle.type_table.specs.Types.{Types, names, trees, trees_at, tree_of, tree_body, tree_struct, grow, structs, Knows, AllKnown, KnowsBody}
use Rattle.type_table.proofs.Added.{length-trees}
use Rattle.module_arena.specs.WellFormed.{is_within_limits, is_good_type, are_good_types, is_good_body, are_good_structs}
use Rattle.record_table.specs.TypeRecords.{all_fit}
use Rattle.record_law.proofs.OnFormed.Tests.{both_of, each_passes, front_of, last_of, map_each, rest_of}
use Rattle.record_law.proofs.OnFormed.Unbroken.{at_place}

-- ---- types that are known

pub body_wider : (count : ℕ) (o : Option StructBody) → KnowsBody count o → KnowsBody (count + 1) o
body_wider count None h = tt
body_wider count (Some Opaque) h = tt
body_wider count (Some (Plain parts)) h = λ k d lt. let one = h k d lt in omega (arith, one)
body_wider count (Some (Packed parts)) h = λ k d lt. let one = h k d lt in omega (arith, one)

-- ---- trees

-- each is within the limits, where these are the structs
abbrev pub IsWithin : Structs → Tree → Type 0
IsWithin ss t = is_within_limits (shapes.shape ss t) ≡ true

abbrev pub IsGood : Structs → Tree → Type 0
IsGood ss t = is_good_type ss t ≡ true

-- what stands in front of the types that are added stays
front_kept : (P : Tree → Type 0) (ns : List (List ℕ)) (types : List IrType) (done : List Tree) → AllByRecursion P (fold (grow ns) done types) → AllByRecursion P done
front_kept P ns [] done h = h
front_kept P ns (ty ∷ types) done h = front_of P done (tree_of ns done ty ∷ []) (front_kept P ns types (grow ns done ty) h)

module _ (ss : Structs) where
  -- a struct of that number is there by its name
  pub name_there : (rest : Structs) (id : ℕ) → id < length rest → list_any (λ s. bytes_eq s.0 (get_or (map (λ s. s.0) rest) id [])) rest ≡ true
  name_there [] id lt = absurd (omega arith)
  name_there (s ∷ rest) zero lt = or_left (bytes_eq s.0 s.0) (list_any (λ r. bytes_eq r.0 s.0) rest) ((bytes_eq-Decides s.0 s.0).1 refl)
  name_there (s ∷ rest) (suc id) lt =
      or_right (bytes_eq s.0 (get_or (map (λ s. s.0) rest) id [])) (list_any (λ r. bytes_eq r.0 (get_or (map (λ s. s.0) rest) id [])) rest) (name_there rest id (omega arith))

  parts_good : (done : List Tree) (parts : List ℕ) → AllByRecursion (IsGood ss) done → All (λ part. part < length done) parts → are_good_types ss (trees_at done parts) ≡ true
  parts_good done [] each below = refl
  parts_good done (id ∷ ids) each below =
      and_from (is_good_type ss (get_or done id void)) (are_good_types ss (trees_at done ids)) (at_place (IsGood ss) done void id each (below 0 id (omega arith)))
      (parts_good done ids each (λ k d lt. below (suc k) d (omega arith)))

  module _ (ns : List (List ℕ)) (same : ns ≡ map (λ s. s.0) ss) where
    -- a type made of good ones
    one_good : (done : List Tree) (ty : IrType) → AllByRecursion (IsGood ss) done → Knows (length done) (length ss) ty → IsWithin ss (tree_of ns done ty) → IsGood ss (tree_of ns done ty)
    one_good done (Int w) each knows within = and_from (nat_le 1 w) (nat_le w 128) (le-leb 1 w knows.0) (le-leb w 128 knows.1)
    one_good done Ptr each knows within = refl
    one_good done Void each knows within = refl
    one_good done (Array n part) each knows within = and_from (is_good_type ss (get_or done part void)) _ (at_place (IsGood ss) done void part each knows) within
    one_good done (Struct packed parts) each knows within = and_from (are_good_types ss (trees_at done parts)) _ (parts_good done parts each knows) within
    one_good done (Named id) each knows within =
        and_from (list_any (λ s. bytes_eq s.0 (get_or ns id [])) ss) _
        (subst (λ (ms : List (List ℕ)). list_any (λ s. bytes_eq s.0 (get_or ms id [])) ss ≡ true) (sym same) (name_there ss id knows)) within

    all_good : (types : List IrType) (done : List Tree) → AllKnown (length done) (length ss) types → AllByRecursion (IsWithin ss) (fold (grow ns) done types) → AllByRecursion (IsGood ss) done
        → AllByRecursion (IsGood ss) (fold (grow ns) done types)
    all_good [] done known within each = each
    all_good (ty ∷ types) done known within each =
        let t = tree_of ns done ty in
        let here : IsWithin ss t = last_of (IsWithin ss) done t (front_kept (IsWithin ss) ns types (grow ns done ty) within) in
        let good : IsGood ss t = one_good done ty each known.0 here in
        let one : length done + 1 ≡ length (grow ns done ty) = sym (length-append done (t ∷ [])) in
        all_good types (grow ns done ty) (subst (λ n. AllKnown n (length ss) types) one known.1) within (both_of (IsGood ss) done (t ∷ []) each (good, tt))

-- ---- a whole table

names_same : (done : List Tree) (all : List (List ℕ × Option StructBody)) → map (λ (s : List ℕ × Option StructBody). s.0) all ≡ map (λ s. s.0) (map (tree_struct done) all)
names_same done [] = refl
names_same done (s ∷ all) = ap (λ (ns : List (List ℕ)). s.0 ∷ ns) (names_same done all)

-- types are made of earlier ones, fields are types, and all of it is within the limits
pub record IsMade (t : Types) : Type 0 where
  pub known : AllKnown 0 (length t.structs) t.types
  pub bodies : AllByRecursion (λ s. KnowsBody (length t.types) s.1) t.structs
  pub fit : all_fit t ≡ true

module _ (t : Types) (made : IsMade t) where
  pub names_are : names t ≡ map (λ s. s.0) (structs t)
  names_are = names_same (trees t) t.structs

  within_all : AllByRecursion (IsWithin (structs t)) (trees t ++ map named (names t))
  within_all = map_each (λ s. is_within_limits s ≡ true) (shapes.shape (structs t)) (trees t ++ map named (names t)) (each_passes is_within_limits (all_shapes t) made.fit)

  pub trees_good : AllByRecursion (IsGood (structs t)) (trees t)
  trees_good =
      all_good (structs t) (names t) names_are t.types [] (subst (λ n. AllKnown 0 n t.types) (sym (length-map t.structs (tree_struct (trees t)))) made.known)
      (front_of (IsWithin (structs t)) (trees t) (map named (names t)) within_all) tt

  body_good : (o : Option StructBody) → KnowsBody (length t.types) o → is_good_body (structs t) (tree_body (trees t) o) ≡ true
  body_good None h = refl
  body_good (Some Opaque) h = refl
  body_good (Some (Plain parts)) h = parts_good (structs t) (trees t) parts trees_good (λ k d lt. subst (λ n. get_or parts k d < n) (sym (length-trees t)) (h k d lt))
  body_good (Some (Packed parts)) h = parts_good (structs t) (trees t) parts trees_good (λ k d lt. subst (λ n. get_or parts k d < n) (sym (length-trees t)) (h k d lt))

  -- the structs of the table from some on, the names of which are there
  rest_good : (all : List (List ℕ × Option StructBody)) → AllByRecursion (λ s. KnowsBody (length t.types) s.1) all → AllByRecursion (IsWithin (structs t)) (map named (map (λ s. s.0) all))
      → ((id : ℕ) → id < length all → list_any (λ s. bytes_eq s.0 (get_or (map (λ s. s.0) all) id [])) (structs t) ≡ true)
      → list_all (λ s. is_good_body (structs t) s.1 && is_good_type (structs t) (named s.0)) (map (tree_struct (trees t)) all) ≡ true
  rest_good [] bodies within there = refl
  rest_good (s ∷ all) bodies within there =
      and_from (is_good_body (structs t) (tree_body (trees t) s.1) && is_good_type (structs t) (named s.0)) _
      (and_from (is_good_body (structs t) (tree_body (trees t) s.1)) (is_good_type (structs t) (named s.0)) (body_good s.1 bodies.0)
      (and_from (list_any (λ r. bytes_eq r.0 s.0) (structs t)) _ (there 0 (omega arith)) within.0))
      (rest_good all bodies.1 within.1 (λ id lt. there (suc id) (omega arith)))

  pub table_good : are_good_structs (structs t) ≡ true
  table_good =
      rest_good t.structs made.bodies (rest_of (IsWithin (structs t)) (trees t) (map named (names t)) within_all)
      (λ id lt. subst (λ (ns : List (List ℕ)). list_any (λ s. bytes_eq s.0 (get_or ns id [])) (structs t) ≡ true) (sym names_are)
      (name_there (structs t) (structs t) id (let e = length-map t.structs (tree_struct (trees t)) in omega (arith, e))))
