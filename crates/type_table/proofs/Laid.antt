-- The layout that a table keeps is that of the type's shape.
use Rattle.std.proofs.Common.{◌≡◌, ℕ, ◌^◌, ◌≤◌, ◌<◌, Bool, true, false, cond, List, Some, None, length, get_or, ap, refl, sym, ◌∙◌, subst, arith}
use Rattle.std.specs.Option.{option_and_then}
use Rattle.std.proofs.lemmas.List.{length-map}
use Rattle.type_table.specs.declared.measure.Measure.{Measure}
use Rattle.type_table.specs.Kept.{IsSmall, HasSmallSize, IsKept}
use Rattle.type_table.specs.Layout.{has_layout, size, align, leaves, layout}
use Rattle.type_table.specs.Measures.{measure, measure_of, opaque_measure, capped, tree_measure}
use Rattle.type_table.specs.Shape.{Shape}
use Rattle.type_table.specs.Tree.{body_of}
use Rattle.type_table.specs.Types.{Types, names, trees, structs, tree, shape}
use Rattle.type_table.proofs.Added.{length-trees}
use Rattle.type_table.proofs.Judged.{agree, types_measured, laid_small}
use Rattle.type_table.proofs.Rooms.{has_shape, shape_measure, HasShape}
use Rattle.type_table.proofs.ShapeMeasures.{if_laid, kept_layout}
use Rattle.type_table.proofs.UnderIds.{tree_at}
use Rattle.type_table.proofs.Wide.{table_leaves}

uncapped : (b : Bool) (s a l : ℕ) → (b ≡ true → s ≤ 2 ^ 40) → l ≤ s → if_laid b s a l ≡ cond b (Some (record { size = s; align = a; leaves = l })) None
uncapped false s a l small le = refl
uncapped true s a l small le =
    let bound = small refl in
    let exact : capped s ≡ s = omega (arith, bound) in
    let few : capped l ≡ l = omega (arith, bound, le) in
    λ j. Some (record { size = exact j; align = a; leaves = few j })

module _ (t : Types) (ks kt : List Measure) (is : IsKept t ks kt) (ty : ℕ) (lt : ty < length t.types) where
  many_types : length kt ≡ length t.types
  many_types = sym (ap length (types_measured t ks kt is.measured)) ∙ length-map (trees t) (tree_measure (measure_of (names t) ks)) ∙ length-trees t

  -- what is kept under an id is what its tree measures
  pub kept_at : tree_measure (measure_of (names t) ks) (tree t ty) ≡ get_or kt ty opaque_measure
  kept_at =
      tree_at (measure_of (names t) ks) (names t) ks (agree t ks kt is.measured) (trees t) ty (omega (arith, length-trees t))
      ∙ ap (λ ms. get_or ms ty opaque_measure) (types_measured t ks kt is.measured)

  small_kept : IsSmall (get_or kt ty opaque_measure)
  small_kept = is.small_types ty opaque_measure (omega (arith, many_types))

  -- each type of a table has a shape
  pub type_shaped : HasShape (shape t ty)
  type_shaped =
      let n = ap (λ (m : Measure). m.nesting) kept_at in
      has_shape (λ _. None) (body_of (structs t)) (measure_of (names t) ks) is.measured.structs_kept 64 (tree t ty) (omega arith) (omega (arith, n, small_kept.nests))

  pub type_measure_is : (x : Shape) → shape t ty ≡ Some x → measure x ≡ get_or kt ty opaque_measure
  type_measure_is x e = shape_measure (λ _. None) (body_of (structs t)) (measure_of (names t) ks) is.measured.structs_kept 64 (tree t ty) x e ∙ kept_at

  pub small_laid : (x : Shape) → shape t ty ≡ Some x → has_layout x ≡ true → size x ≤ 2 ^ 40
  small_laid x e =
      let l = ap (λ (m : Measure). m.layout) (type_measure_is x e) in
      laid_small (has_layout x) (size x) (align x) (leaves x) (subst HasSmallSize (sym l ∙ kept_layout x) small_kept.size_fits)

  pub layout_kept : (get_or kt ty opaque_measure).layout ≡ option_and_then layout (shape t ty)
  layout_kept =
      let x = type_shaped.0 in
      let e = type_shaped.1 in
      sym (ap (λ (m : Measure). m.layout) (type_measure_is x e))
      ∙ kept_layout x
      ∙ uncapped (has_layout x) (size x) (align x) (leaves x) (small_laid x e) (table_leaves t is.measured.good ty x e)
      ∙ ap (option_and_then layout) (sym e)
