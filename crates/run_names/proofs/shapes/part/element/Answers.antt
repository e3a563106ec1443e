use Rattle.std.proofs.Common.{◌≡◌, ◌<◌, ℕ, List, Option, length, ap, sym, ◌∙◌}
use Rattle.std.specs.Option.{option_map_or}
use Rattle.run_rules.specs.Leaves as leaves
use Rattle.type_table.specs.Shape.{Shape, array_of, struct_of, void_leaf}
use Rattle.run_names.specs.declared.shapes.form.TypeForm.TheVariants as form
use Rattle.run_names.specs.Shapes.Shapes.{first_shape, made, shape_in, shapes_in}
use Rattle.run_names.proofs.OnShapes.Outlines.{array_laid, array_part, found_all, found_laid, struct_laid, struct_part}
use Rattle.run_names.proofs.shapes.part.element.Goals as goal

pub returns-in-Array-clause-known : goal.returns-in-Array-clause-known
returns-in-Array-clause-known c =
    let t = c.args.types.now in
    found_all t (λ part. part < length t.types) c.parts-parts.result.now 0 c.elements_in.result c.elements_in.ensures c.parts-parts.ensures.known

pub returns-in-Array-clause-shape : goal.returns-in-Array-clause-shape
returns-in-Array-clause-shape c =
    let t = c.args.types.now in
    let is : shape_in t c.args.ty ≡ array_of c.in-Array._length (first_shape (shapes_in t c.parts-parts.result.now)) = c.in-Array.ensures.shape.is ∙ ap (λ (l : List ℕ). made c.in-Array.ensures.shape.label (form.Array c.in-Array._length) (shapes_in t l)) (sym c.parts-parts.ensures.parts) in
    ap (λ (o : Option ℕ). option_map_or (shape_in t) o void_leaf) c.elements_in.ensures ∙ array_part t c.parts-parts.result.now (shape_in t c.args.ty) c.in-Array._length c.args.index is

pub returns-in-Array-clause-laid : goal.returns-in-Array-clause-laid
returns-in-Array-clause-laid c = λ laid.
    let t = c.args.types.now in
    let is : shape_in t c.args.ty ≡ array_of c.in-Array._length (first_shape (shapes_in t c.parts-parts.result.now)) = c.in-Array.ensures.shape.is ∙ ap (λ (l : List ℕ). made c.in-Array.ensures.shape.label (form.Array c.in-Array._length) (shapes_in t l)) (sym c.parts-parts.ensures.parts) in
    found_laid t c.type_count-count.ensures.good c.type_count-count.ensures.within c.args.ty c.parts-parts.result.now 0 c.elements_in.result c.elements_in.ensures c.parts-parts.ensures.known
    (λ p h e. array_laid t c.parts-parts.result.now (shape_in t c.args.ty) c.in-Array._length p is h e) laid

pub returns-in-Struct-clause-known : goal.returns-in-Struct-clause-known
returns-in-Struct-clause-known c =
    let t = c.args.types.now in
    found_all t (λ part. part < length t.types) c.parts-parts.result.now c.args.index c.field_of.result c.field_of.ensures c.parts-parts.ensures.known

pub returns-in-Struct-clause-shape : goal.returns-in-Struct-clause-shape
returns-in-Struct-clause-shape c =
    let t = c.args.types.now in
    let is : shape_in t c.args.ty ≡ struct_of c.in-Struct.ensures.shape.label c.in-Struct._packed (shapes_in t c.parts-parts.result.now) = c.in-Struct.ensures.shape.is ∙ ap (λ (l : List ℕ). made c.in-Struct.ensures.shape.label (form.Struct c.in-Struct._packed) (shapes_in t l)) (sym c.parts-parts.ensures.parts) in
    ap (λ (o : Option ℕ). option_map_or (shape_in t) o void_leaf) c.field_of.ensures ∙ struct_part t c.parts-parts.result.now (shape_in t c.args.ty) c.in-Struct.ensures.shape.label c.in-Struct._packed c.args.index is

pub returns-in-Struct-clause-laid : goal.returns-in-Struct-clause-laid
returns-in-Struct-clause-laid c = λ laid.
    let t = c.args.types.now in
    let is : shape_in t c.args.ty ≡ struct_of c.in-Struct.ensures.shape.label c.in-Struct._packed (shapes_in t c.parts-parts.result.now) = c.in-Struct.ensures.shape.is ∙ ap (λ (l : List ℕ). made c.in-Struct.ensures.shape.label (form.Struct c.in-Struct._packed) (shapes_in t l)) (sym c.parts-parts.ensures.parts) in
    found_laid t c.type_count-count.ensures.good c.type_count-count.ensures.within c.args.ty c.parts-parts.result.now c.args.index c.field_of.result c.field_of.ensures c.parts-parts.ensures.known
    (λ p h e. struct_laid t c.parts-parts.result.now (shape_in t c.args.ty) c.in-Struct.ensures.shape.label c.in-Struct._packed c.args.index p is h e) laid

pub returns-in-Int-clause-shape : goal.returns-in-Int-clause-shape
returns-in-Int-clause-shape c = sym (ap (λ (s : Shape). leaves.element s c.args.index) c.in-Int.ensures.shape.is)

pub returns-in-Pointer-clause-shape : goal.returns-in-Pointer-clause-shape
returns-in-Pointer-clause-shape c = sym (ap (λ (s : Shape). leaves.element s c.args.index) c.in-Pointer.ensures.shape.is)

pub returns-in-Nothing-clause-shape : goal.returns-in-Nothing-clause-shape
returns-in-Nothing-clause-shape c = sym (ap (λ (s : Shape). leaves.element s c.args.index) c.in-Nothing.ensures.shape.is)

pub returns-in-Opaque-clause-shape : goal.returns-in-Opaque-clause-shape
returns-in-Opaque-clause-shape c = sym (ap (λ (s : Shape). leaves.element s c.args.index) c.in-Opaque.ensures.shape.is)
