-- What is told of types by flags is what the definitions say of their trees.
use Rattle.std.proofs.Common.{◌≡◌, ℕ, ◌+◌, ◌≤◌, Bool, true, false, ◌&&◌, List, [], ◌∷◌, ◌++◌, map, length, take, slice_get, Some, refl, sym, ap, ◌∙◌, get_or}
use Rattle.std.specs.List.{fold, list_all}
use Rattle.std.proofs.lemmas.List.{map-append, take_all}
use Rattle.type_table.specs.declared.ir_type.IrType.{IrType}
use Rattle.type_table.specs.declared.ir_type.IrType.TheVariants as type
use Rattle.type_table.specs.Tree.{Tree, int, ptr, void, array, struct, named, Trees, no_trees, more_trees}
use Rattle.type_table.specs.Types.{trees_at, tree_of, grow}
use Rattle.type_table.proofs.UnderIds.{get_or-map}
use Rattle.type_table.proofs.Steps.{fold_next}
use Rattle.module_arena.specs.TypeTests.{is_free_of_void, are_free_of_void, is_free_of_names, are_free_of_names}
use Rattle.entry_verify.specs.Types.TypeFlags.{is_free, are_free, flag_of}

mutual
  pub without_void : (t : Tree) → is_free false true t ≡ is_free_of_void t
  without_void (int width) = refl
  without_void ptr = refl
  without_void void = refl
  without_void (array n t) = without_void t
  without_void (struct packed ts) = all_without_void ts
  without_void (named name) = refl

  all_without_void : (ts : Trees) → are_free false true ts ≡ are_free_of_void ts
  all_without_void no_trees = refl
  all_without_void (more_trees t ts) = λ j. without_void t j && all_without_void ts j

mutual
  pub without_names : (t : Tree) → is_free true false t ≡ is_free_of_names t
  without_names (int width) = refl
  without_names ptr = refl
  without_names void = refl
  without_names (array n t) = without_names t
  without_names (struct packed ts) = all_without_names ts
  without_names (named name) = refl

  all_without_names : (ts : Trees) → are_free true false ts ≡ are_free_of_names ts
  all_without_names no_trees = refl
  all_without_names (more_trees t ts) = λ j. without_names t j && all_without_names ts j

module _ (v n : Bool) where
  parts_told : (done : List Tree) (parts : List ℕ) → list_all (λ part. get_or (map (is_free v n) done) part v) parts ≡ are_free v n (trees_at done parts)
  parts_told done [] = refl
  parts_told done (part ∷ parts) = λ j. get_or-map (is_free v n) done part void j && parts_told done parts j

  pub flag_told : (ns : List (List ℕ)) (done : List Tree) (ty : IrType) → flag_of v n (map (is_free v n) done) ty ≡ is_free v n (tree_of ns done ty)
  flag_told ns done (type.Int width) = refl
  flag_told ns done type.Ptr = refl
  flag_told ns done type.Void = refl
  flag_told ns done (type.Array length part) = get_or-map (is_free v n) done part void
  flag_told ns done (type.Struct packed parts) = parts_told done parts
  flag_told ns done (type.Named id) = refl

  -- one type more is told
  pub flags_next : (ns : List (List ℕ)) (types : List IrType) (i : ℕ) (ty : IrType) (flags : List Bool) → slice_get types i ≡ Some ty
      → flags ≡ map (is_free v n) (fold (grow ns) [] (take i types))
      → flags ++ flag_of v n flags ty ∷ [] ≡ map (is_free v n) (fold (grow ns) [] (take (i + 1) types))
  flags_next ns types i ty flags at told =
      let done = fold (grow ns) [] (take i types) in
      (λ j. told j ++ flag_of v n (told j) ty ∷ [])
      ∙ ap (λ f. map (is_free v n) done ++ f ∷ []) (flag_told ns done ty)
      ∙ sym (map-append (is_free v n) done (tree_of ns done ty ∷ []))
      ∙ ap (map (is_free v n)) (sym (fold_next (grow ns) [] types i ty at))

  -- all types are told
  pub flags_whole : (ns : List (List ℕ)) (types : List IrType) (i : ℕ) (flags : List Bool) → length types ≤ i
      → flags ≡ map (is_free v n) (fold (grow ns) [] (take i types)) → flags ≡ map (is_free v n) (fold (grow ns) [] types)
  flags_whole ns types i flags le told = told ∙ ap (λ ts. map (is_free v n) (fold (grow ns) [] ts)) (take_all i types le)

pub voids_told : (ts : List Tree) → map (is_free false true) ts ≡ map is_free_of_void ts
voids_told [] = refl
voids_told (t ∷ ts) = λ j. without_void t j ∷ voids_told ts j

pub names_told : (ts : List Tree) → map (is_free true false) ts ≡ map is_free_of_names ts
names_told [] = refl
names_told (t ∷ ts) = λ j. without_names t j ∷ names_told ts j
