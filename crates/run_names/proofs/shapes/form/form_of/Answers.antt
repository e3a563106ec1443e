use Rattle.std.proofs.Common.{ℕ, List, length, Some, None, get_or, ap, sym, ◌∙◌, subst}
use Rattle.std.proofs.lemmas.Option.{get_or_from_slice_get}
use Rattle.type_table.specs.declared.ir_type.IrType.{IrType}
use Rattle.type_table.specs.declared.ir_type.IrType.TheVariants.{Void}
use Rattle.type_table.specs.Outline.{parts_of}
use Rattle.type_table.specs.Types.{Knows, bodies}
use Rattle.type_table.proofs.Outlined.{type_known}
use Rattle.run_names.specs.declared.shapes.form.TypeForm.{TypeForm}
use Rattle.run_names.specs.declared.shapes.form.TypeForm.TheVariants as form
use Rattle.run_names.specs.Shapes.Shapes.{HasCount, IsMade, body_form, shape_in, shapes_in}
use Rattle.run_names.proofs.OnShapes.Outlines.{body_here, count_here, form_here, parts_here}
use Rattle.run_names.proofs.shapes.form.form_of.Goals as goal

pub returns-in-Int-clause-shape : goal.returns-in-Int-clause-shape
returns-in-Int-clause-shape c =
    let t = c.args.types.now in
    let e = c.get.ensures ∙ ap Some c.in-Int.is in
    subst (λ (l : List ℕ). IsMade (form.Int c.in-Int.width) (shapes_in t l) (shape_in t c.args.ty)) (parts_here t c.type_count-count.ensures.good c.type_count-count.ensures.within c.args.ty _ e) (form_here t c.type_count-count.ensures.good c.type_count-count.ensures.within c.args.ty _ e)

pub returns-in-Ptr-clause-shape : goal.returns-in-Ptr-clause-shape
returns-in-Ptr-clause-shape c =
    let t = c.args.types.now in
    let e = c.get.ensures ∙ ap Some c.in-Ptr.is in
    subst (λ (l : List ℕ). IsMade form.Pointer (shapes_in t l) (shape_in t c.args.ty)) (parts_here t c.type_count-count.ensures.good c.type_count-count.ensures.within c.args.ty _ e) (form_here t c.type_count-count.ensures.good c.type_count-count.ensures.within c.args.ty _ e)

pub returns-in-Void-clause-shape : goal.returns-in-Void-clause-shape
returns-in-Void-clause-shape c =
    let t = c.args.types.now in
    let e = c.get.ensures ∙ ap Some c.in-Void.is in
    subst (λ (l : List ℕ). IsMade form.Nothing (shapes_in t l) (shape_in t c.args.ty)) (parts_here t c.type_count-count.ensures.good c.type_count-count.ensures.within c.args.ty _ e) (form_here t c.type_count-count.ensures.good c.type_count-count.ensures.within c.args.ty _ e)

pub returns-in-Array-clause-shape : goal.returns-in-Array-clause-shape
returns-in-Array-clause-shape c =
    let t = c.args.types.now in
    let e = c.get.ensures ∙ ap Some c.in-Array.is in
    subst (λ (l : List ℕ). IsMade (form.Array c.in-Array.count) (shapes_in t l) (shape_in t c.args.ty)) (parts_here t c.type_count-count.ensures.good c.type_count-count.ensures.within c.args.ty _ e) (form_here t c.type_count-count.ensures.good c.type_count-count.ensures.within c.args.ty _ e)

pub returns-in-Struct-clause-shape : goal.returns-in-Struct-clause-shape
returns-in-Struct-clause-shape c =
    let t = c.args.types.now in
    let e = c.get.ensures ∙ ap Some c.in-Struct.is in
    subst (λ (l : List ℕ). IsMade (form.Struct c.in-Struct.packed) (shapes_in t l) (shape_in t c.args.ty)) (parts_here t c.type_count-count.ensures.good c.type_count-count.ensures.within c.args.ty _ e) (form_here t c.type_count-count.ensures.good c.type_count-count.ensures.within c.args.ty _ e)

pub returns-in-Array-clause-count : goal.returns-in-Array-clause-count
returns-in-Array-clause-count c = count_here c.args.types.now c.type_count-count.ensures.good c.type_count-count.ensures.within c.args.ty _ (c.get.ensures ∙ ap Some c.in-Array.is)

pub struct_body-requires : goal.struct_body-requires
struct_body-requires c =
    let t = c.args.types.now in
    subst (λ (T : IrType). Knows c.args.ty (length t.structs) T) (get_or_from_slice_get t.types c.args.ty _ Void (c.get.ensures ∙ ap Some c.in-Named.is)) (type_known t c.type_count-count.ensures.good c.args.ty c.requires)

pub returns-in-Named-clause-shape : goal.returns-in-Named-clause-shape
returns-in-Named-clause-shape c =
    let t = c.args.types.now in
    let e = c.get.ensures ∙ ap Some c.in-Named.is in
    let is = ap body_form (body_here t c.type_count-count.ensures.good c.type_count-count.ensures.within c.in-Named.id _ c.struct_body.ensures) ∙ sym c.form_of_body.ensures in
    subst (λ (f : TypeForm). IsMade f (shapes_in t (parts_of t c.args.ty)) (shape_in t c.args.ty)) is
    (subst (λ (l : List ℕ). IsMade (body_form (get_or (bodies t) c.in-Named.id None)) (shapes_in t l) (shape_in t c.args.ty)) (parts_here t c.type_count-count.ensures.good c.type_count-count.ensures.within c.args.ty _ e) (form_here t c.type_count-count.ensures.good c.type_count-count.ensures.within c.args.ty _ e))

pub returns-in-Named-clause-count : goal.returns-in-Named-clause-count
returns-in-Named-clause-count c =
    let t = c.args.types.now in
    subst (λ (f : TypeForm). HasCount f (length (parts_of t c.args.ty)))
    (ap body_form (body_here t c.type_count-count.ensures.good c.type_count-count.ensures.within c.in-Named.id _ c.struct_body.ensures) ∙ sym c.form_of_body.ensures)
    (count_here t c.type_count-count.ensures.good c.type_count-count.ensures.within c.args.ty _ (c.get.ensures ∙ ap Some c.in-Named.is))
