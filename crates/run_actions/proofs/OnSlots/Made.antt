-- What a type is whose form and whose parts are told.
use Rattle.std.proofs.Common.{◌≡◌, ℕ, List, Some, Bool, ap, sym, ◌∙◌}
use Rattle.std.specs.Prelude.{slice_get}
use Rattle.type_table.specs.Outline.{parts_of}
use Rattle.type_table.specs.Shape.{array_of, struct_of}
use Rattle.type_table.specs.Types.{Types}
use Rattle.run_names.specs.declared.shapes.form.TypeForm.TheVariants as form
use Rattle.run_names.specs.Shapes.Shapes.{IsMade, first_shape, shape_in, shapes_in}
use Rattle.run_names.proofs.OnShapes.Outlines.{only_is}

module _ (t : Types) (ty : ℕ) (ps : List ℕ) (is : ps ≡ parts_of t ty) where
  -- an array is one of its only part
  pub array_is : (n p : ℕ) → IsMade (form.Array n) (shapes_in t (parts_of t ty)) (shape_in t ty) → slice_get ps 0 ≡ Some p → shape_in t ty ≡ array_of n (shape_in t p)
  array_is n p m here = m.is ∙ ap (λ (l : List ℕ). array_of n (first_shape (shapes_in t l))) (sym is) ∙ ap (array_of n) (only_is t ps p here)

  -- a struct is one of its parts
  pub struct_is : (packed : Bool) (m : IsMade (form.Struct packed) (shapes_in t (parts_of t ty)) (shape_in t ty)) → shape_in t ty ≡ struct_of m.label packed (shapes_in t ps)
  struct_is packed m = m.is ∙ ap (λ (l : List ℕ). struct_of m.label packed (shapes_in t l)) (sym is)
