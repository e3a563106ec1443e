-- The type of an array's elements in a table is that of its tree.
use Rattle.std.proofs.Common.{◌≡◌, ℕ, ◌<◌, length, Some, sym, ap, ◌∙◌, subst, get_or, slice_get, arith}
use Rattle.std.proofs.lemmas.Option.{same_Some, slice_get-get_or}
use Rattle.type_table.specs.declared.ir_type.IrType.{IrType}
use Rattle.type_table.specs.declared.ir_type.IrType.TheVariants.{Int, Ptr, Void, Array, Struct, Named}
use Rattle.type_table.specs.Types.{Types, names, trees, tree, tree_of, IsGood, Knows}
use Rattle.type_table.proofs.Outlined.{tree-is, type_known}
use Rattle.linkage_rules.specs.Elements.{element_id}
use Rattle.linkage_rules.specs.Globals.{element_of}

module _ (t : Types) (good : IsGood t) (ty : ℕ) (lt : ty < length t.types) where
  at : (x : IrType) → slice_get t.types ty ≡ Some x → get_or t.types ty Void ≡ x
  at x h = same_Some (get_or t.types ty Void) x (sym (slice_get-get_or t.types ty Void lt) ∙ h)

  pub tree_at : (x : IrType) → slice_get t.types ty ≡ Some x → tree t ty ≡ tree_of (names t) (trees t) x
  tree_at x h = tree-is t good ty lt ∙ ap (tree_of (names t) (trees t)) (at x h)

  pub element_known : (x : IrType) → slice_get t.types ty ≡ Some x → element_id ty x < length t.types
  element_known (Array n part) h = let below : part < ty = subst (Knows ty (length t.structs)) (at (Array n part) h) (type_known t good ty lt) in omega (arith, below, lt)
  element_known (Int w) h = lt
  element_known Ptr h = lt
  element_known Void h = lt
  element_known (Struct packed parts) h = lt
  element_known (Named id) h = lt

  pub element_tree : (x : IrType) → slice_get t.types ty ≡ Some x → tree t (element_id ty x) ≡ element_of (tree t ty)
  element_tree (Array n part) h = sym (ap element_of (tree_at (Array n part) h))
  element_tree (Int w) h = tree_at (Int w) h ∙ sym (ap element_of (tree_at (Int w) h))
  element_tree Ptr h = tree_at Ptr h ∙ sym (ap element_of (tree_at Ptr h))
  element_tree Void h = tree_at Void h ∙ sym (ap element_of (tree_at Void h))
  element_tree (Struct packed parts) h = tree_at (Struct packed parts) h ∙ sym (ap element_of (tree_at (Struct packed parts) h))
  element_tree (Named id) h = tree_at (Named id) h ∙ sym (ap element_of (tree_at (Named id) h))
