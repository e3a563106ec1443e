-- Whether a type is `void`, by what stands in the table.
use Rattle.std.proofs.Common.{◌≡◌, ℕ, true, false, Some, slice_get, refl, sym, ap, ◌∙◌}
use Rattle.std.proofs.lemmas.Option.{get_or_from_slice_get, slice_get_within}
use Rattle.type_table.specs.declared.ir_type.IrType.{IrType}
use Rattle.type_table.specs.declared.ir_type.IrType.TheVariants.{Int, Ptr, Void, Array, Struct, Named}
use Rattle.type_table.specs.Types.{Types, IsGood, names, trees, tree_of, tree}
use Rattle.type_table.proofs.Outlined.{tree-is}
use Rattle.module_arena.specs.TypeTests.{is_void}

module _ (t : Types) (good : IsGood t) (ty : ℕ) (x : IrType) (at : slice_get t.types ty ≡ Some x) where
  tree_here : tree t ty ≡ tree_of (names t) (trees t) x
  tree_here = tree-is t good ty (slice_get_within t.types ty x at) ∙ ap (tree_of (names t) (trees t)) (get_or_from_slice_get t.types ty x Void at)

  pub void_told : x ≡ Void → true ≡ is_void (tree t ty)
  void_told is = sym (ap is_void (tree_here ∙ ap (tree_of (names t) (trees t)) is))

  pub void_not : (x ≡ Void → ⊥) → false ≡ is_void (tree t ty)
  void_not other = sym (ap is_void tree_here ∙ by x other)
    where
      by : (y : IrType) → (y ≡ Void → ⊥) → is_void (tree_of (names t) (trees t) y) ≡ false
      by (Int w) other = refl
      by Ptr other = refl
      by Void other = absurd (other refl)
      by (Array n part) other = refl
      by (Struct packed parts) other = refl
      by (Named id) other = refl
