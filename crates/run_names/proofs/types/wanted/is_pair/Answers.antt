use Rattle.std.proofs.Common.{◌&&◌, ℕ, List, sym, ◌∙◌, subst}
use Rattle.type_table.specs.Outline.{parts_of}
use Rattle.run_names.specs.declared.shapes.form.TypeForm.TheVariants as form
use Rattle.run_names.specs.Shapes.Shapes.{IsMade, shape_in, shapes_in}
use Rattle.run_names.proofs.OnTypes.Asked.{no_pair, other_pair, packed_pair, pair_is}
use Rattle.run_names.proofs.types.wanted.is_pair.Goals as goal

pub returns-in_default : goal.returns-in_default
returns-in_default c =
    let t = c.args.types.now in
    no_pair (shape_in t c.args.ty) c.form_of.result (shapes_in t (parts_of t c.args.ty)) c.args.width c.form_of.ensures.shape c.in_default.not-Struct

pub returns-then-packed : goal.returns-then-packed
returns-then-packed c =
    let t = c.args.types.now in
    packed_pair (shape_in t c.args.ty) c.in-Struct.packed (shapes_in t (parts_of t c.args.ty)) c.args.width c.in-Struct.ensures.shape c.if-packed.true

pub returns-then-fields-ne2 : goal.returns-then-fields-ne2
returns-then-fields-ne2 c =
    let t = c.args.types.now in
    let is = subst (λ (l : List ℕ). IsMade (form.Struct c.in-Struct.packed) (shapes_in t l) (shape_in t c.args.ty)) (sym c.parts-fields.ensures.parts) c.in-Struct.ensures.shape in
    other_pair t c.args.ty c.in-Struct.packed c.parts-fields.result.now c.args.width is c.if-packed.false c.if-fields-ne2.true

pub returns : goal.returns
returns c =
    let t = c.args.types.now in
    let is = subst (λ (l : List ℕ). IsMade (form.Struct c.in-Struct.packed) (shapes_in t l) (shape_in t c.args.ty)) (sym c.parts-fields.ensures.parts) c.in-Struct.ensures.shape in
    (λ j. c.is_integer-is_number.ensures j && c.is_integer-is_bit.ensures j)
    ∙ pair_is t c.args.ty c.in-Struct.packed c.parts-fields.result.now c.args.width is c.if-packed.false c.index-fields-0.result c.index-fields-1.result c.if-fields-ne2.false c.index-fields-0.is c.index-fields-1.is
