-- How far one index leads into a shape, by what its elements are.
use Rattle.std.proofs.Common.{◌≡◌, ℕ, Some, None, refl, ap}
use Rattle.ir_eval.specs.declared.value.Scalar.{Scalar}
use Rattle.ir_eval.specs.declared.value.Scalar.TheVariants as scalar
use Rattle.type_table.specs.Layout.{size}
use Rattle.type_table.specs.Shape.{Shape, int_leaf, ptr_leaf, void_leaf, opaque_leaf, array_of, struct_of}
use Rattle.run_rules.specs.Displace.{inner_term, number_of, reach}
use Rattle.run_names.specs.Shapes.Shapes.{elements_of}
use Rattle.run_initial.specs.Constants.Places.{index_at, offset_at, term_reach}

-- over elements
pub over_elements : (s element : Shape) (index : Scalar) (width : ℕ) → Some element ≡ elements_of s → reach index width (size element) ≡ term_reach (inner_term s (index_at index width))
over_elements (array_of n s) element index width e = let same : element ≡ s = cc in ap (λ (x : Shape). reach index width (size x)) same
over_elements (int_leaf w) element index width e = cc
over_elements ptr_leaf element index width e = cc
over_elements void_leaf element index width e = cc
over_elements (opaque_leaf label) element index width e = cc
over_elements (struct_of label packed ss) element index width e = cc

-- to a field, or nowhere
pub to_field : (s : Shape) (index : Scalar) (width : ℕ) → None ≡ elements_of s → reach (scalar.Int (offset_at s (number_of index))) 64 1 ≡ term_reach (inner_term s (index_at index width))
to_field (array_of n s) index width e = cc
to_field (int_leaf w) index width e = refl
to_field ptr_leaf index width e = refl
to_field void_leaf index width e = refl
to_field (opaque_leaf label) index width e = refl
to_field (struct_of label packed ss) index width e = refl
