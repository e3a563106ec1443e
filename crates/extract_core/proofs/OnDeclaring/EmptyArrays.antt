-- An array of no elements is within the limits where one of some is.
use Rattle.std.proofs.Common.{◌≡◌, ℕ, ◌<◌, length, slice_get, Option, Some, None, refl, sym, subst, ap, ◌∙◌, arith}
use Rattle.std.specs.Option.{option_map}
use Rattle.std.proofs.lemmas.List.Elements.{All-get_or}
use Rattle.std.proofs.lemmas.Option.{get_or_from_slice_get, same_Some, slice_get_within}
use Rattle.type_table.specs.declared.ir_type.IrType.{IrType}
use Rattle.type_table.specs.declared.ir_type.IrType.TheVariants.{Int, Ptr, Void, Array, Struct, Named}
use Rattle.type_table.specs.Limits.{IsWithin, IsWithinLimits}
use Rattle.type_table.specs.Shape.{Shape, array_of, shape, expanded, name_shape}
use Rattle.type_table.specs.Tree.{Tree, array, void, Structs, body_of}
use Rattle.type_table.specs.Types.{names, trees, structs, tree_of, Knows, IsKnown}
use Rattle.type_table.specs.Types as types
use Rattle.type_table.proofs.Added.{length-trees}
use Rattle.type_table.proofs.Outlined.{type_known}
use Rattle.module_arena.specs.Lists.{Lists}
use Rattle.module_arena.specs.Renamed.{renamed_tree, own}
use Rattle.module_arena.specs.View.{type_at}
use Rattle.module_arena.proofs.Renamed.{tree_stays}
use Rattle.item_build.specs.Types.Stands.{IsType}
use Rattle.item_build.proofs.OnTypes.Growing.{type_found}
use Rattle.entry_copy.specs.Tables.{Tables, new_type}
use Rattle.entry_copy.proofs.Starting.{own_types_fit}
use Rattle.extract_rules.specs.Extracted.{without_elements}
use Rattle.extract_core.specs.Declaring.Emptied.{element_of}
use Rattle.extract_core.specs.Declaring.Stages.{HasTypes}
use Rattle.extract_core.proofs.OnDeclaring.StaysDeclared.{type_is_copied}

-- it nests as deep and has as many parts, and no bytes
emptied : (n : ℕ) (o : Option Shape) → IsWithinLimits (option_map (array_of n) o) → IsWithinLimits (option_map (array_of 0) o)
emptied n None within = within
emptied n (Some s) within = record {
  nests = within.nests;
  parts_fit = within.parts_fit;
  length_fits = omega arith;
  size_fits = λ laid. omega arith;
}

empty_array_fits : (ss : Structs) (n : ℕ) (t : Tree) → IsWithinLimits (shape ss (array n t)) → IsWithinLimits (shape ss (array 0 t))
empty_array_fits ss n t within = emptied n (expanded (name_shape (λ _. None) (body_of ss) 64) t) within

-- the type of an array has its length
with_elements : (ty : IrType) (element : ℕ) → element_of ty ≡ Some element → (n : ℕ) × (ty ≡ Array n element)
with_elements (Array n x) element e = (n, ap (Array n) (same_Some x element e))
with_elements (Int width) element e = cc
with_elements Ptr element e = cc
with_elements Void element e = cc
with_elements (Struct packed parts) element e = cc
with_elements (Named id) element e = cc

module _ (a b : Lists) (t : Tables) (h : HasTypes a b t) (good : types.IsGood a.table) (ty : ℕ) (T : IrType) (is : slice_get a.table.types ty ≡ Some T) where
  tree_is : type_at (trees a.table) ty ≡ tree_of (names a.table) (trees a.table) T
  tree_is = (type_found a good ty T is).tree

  lt : ty < length a.table.types
  lt = slice_get_within a.table.types ty T is

  module _ (element : ℕ) (e : element_of T ≡ Some element) where
    abbrev long : ℕ
    long = (with_elements T element e).0

    array_is : T ≡ Array long element
    array_is = (with_elements T element e).1

    element_known : element < length a.table.types
    element_known =
        let known : element < ty = subst (Knows ty (length a.table.structs)) (get_or_from_slice_get a.table.types ty T Void is ∙ array_is) (type_known a.table good ty lt) in
        let within = lt in
        omega (arith, known, within)

    element_there : IsType b (new_type t element) (type_at (trees a.table) element)
    element_there = type_is_copied a b t h element element_known

    pub new_known : IsKnown b.table (Array 0 (new_type t element))
    new_known = element_there.known

    whole_is : type_at (trees a.table) ty ≡ array long (type_at (trees a.table) element)
    whole_is = tree_is ∙ ap (tree_of (names a.table) (trees a.table)) array_is

    fits : IsWithin a.table → IsWithinLimits (shape (structs a.table) (array long (type_at (trees a.table) element)))
    fits within =
        let P : Tree → Type 0 = λ x. IsWithinLimits (shape (structs a.table) (renamed_tree own x)) in
        let many = length-trees a.table in
        let here = lt in
        subst (λ x. IsWithinLimits (shape (structs a.table) x)) (tree_stays (type_at (trees a.table) ty) ∙ whole_is)
        (All-get_or P (trees a.table) ty void (omega (arith, many, here)) (own_types_fit a within))

    pub new_fits : IsWithin a.table → IsWithinLimits (shape (structs b.table) (tree_of (names b.table) (trees b.table) (Array 0 (new_type t element))))
    new_fits within =
        subst (λ ss. IsWithinLimits (shape ss (array 0 (type_at (trees b.table) (new_type t element))))) (sym h.structs)
        (subst (λ x. IsWithinLimits (shape (structs a.table) (array 0 x))) (sym element_there.tree)
        (empty_array_fits (structs a.table) long (type_at (trees a.table) element) (fits within)))

    pub new_is : tree_of (names b.table) (trees b.table) (Array 0 (new_type t element)) ≡ without_elements (type_at (trees a.table) ty)
    new_is = ap (array 0) element_there.tree ∙ sym (ap without_elements whole_is)

  no_elements_in : (ty : IrType) → element_of ty ≡ None → without_elements (tree_of (names a.table) (trees a.table) ty) ≡ tree_of (names a.table) (trees a.table) ty
  no_elements_in (Array n x) e = cc
  no_elements_in (Int width) e = refl
  no_elements_in Ptr e = refl
  no_elements_in Void e = refl
  no_elements_in (Struct packed parts) e = refl
  no_elements_in (Named id) e = refl

  pub other_is : element_of T ≡ None → IsType b (new_type t ty) (without_elements (type_at (trees a.table) ty))
  other_is e =
      subst (IsType b (new_type t ty)) (tree_is ∙ sym (no_elements_in T e) ∙ sym (ap without_elements tree_is))
      (type_is_copied a b t h ty lt)
