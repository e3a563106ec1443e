use Rattle.std.proofs.Common.{length, Some, ap, sym, ◌∙◌, subst}
use Rattle.std.proofs.lemmas.Option.{get_or_from_slice_get}
use Rattle.type_table.specs.declared.ir_type.IrType.{IrType}
use Rattle.type_table.specs.declared.ir_type.IrType.TheVariants.{Void}
use Rattle.type_table.specs.Outline.{body_parts}
use Rattle.type_table.specs.Types.{Knows}
use Rattle.type_table.proofs.Outlined.{type_known}
use Rattle.run_names.proofs.OnShapes.Outlines.{body_here, parts_here}
use Rattle.run_names.proofs.shapes.form.parts_at.Goals as goal

pub returns-in-Int : goal.returns-in-Int
returns-in-Int c = parts_here c.args.types.now c.type_count-count.ensures.good c.type_count-count.ensures.within c.args.ty _ (c.get.ensures ∙ ap Some c.in-Int.is)

pub returns-in-Ptr : goal.returns-in-Ptr
returns-in-Ptr c = parts_here c.args.types.now c.type_count-count.ensures.good c.type_count-count.ensures.within c.args.ty _ (c.get.ensures ∙ ap Some c.in-Ptr.is)

pub returns-in-Void : goal.returns-in-Void
returns-in-Void c = parts_here c.args.types.now c.type_count-count.ensures.good c.type_count-count.ensures.within c.args.ty _ (c.get.ensures ∙ ap Some c.in-Void.is)

pub returns-in-Array : goal.returns-in-Array
returns-in-Array c = c.from_ref.ensures.value ∙ parts_here c.args.types.now c.type_count-count.ensures.good c.type_count-count.ensures.within c.args.ty _ (c.get.ensures ∙ ap Some c.in-Array.is)

pub returns-in-Struct : goal.returns-in-Struct
returns-in-Struct c = c.as_slice.ensures ∙ parts_here c.args.types.now c.type_count-count.ensures.good c.type_count-count.ensures.within c.args.ty _ (c.get.ensures ∙ ap Some c.in-Struct.is)

pub struct_body-requires : goal.struct_body-requires
struct_body-requires c =
    let t = c.args.types.now in
    subst (λ (T : IrType). Knows c.args.ty (length t.structs) T) (get_or_from_slice_get t.types c.args.ty _ Void (c.get.ensures ∙ ap Some c.in-Named.is)) (type_known t c.type_count-count.ensures.good c.args.ty c.requires)

pub returns-in-Named : goal.returns-in-Named
returns-in-Named c =
    let t = c.args.types.now in
    c.fields_of_body.ensures
    ∙ ap body_parts (sym (body_here t c.type_count-count.ensures.good c.type_count-count.ensures.within c.in-Named.id _ c.struct_body.ensures))
    ∙ parts_here t c.type_count-count.ensures.good c.type_count-count.ensures.within c.args.ty _ (c.get.ensures ∙ ap Some c.in-Named.is)
