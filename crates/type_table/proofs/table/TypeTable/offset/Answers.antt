use Rattle.std.proofs.Common.{subst, sym, ◌∙◌}
use Rattle.type_table.specs.Kept.{IsKept}
use Rattle.type_table.specs.Measures.{empty_struct, measures_at}
use Rattle.type_table.specs.Outline.{offset_from}
use Rattle.type_table.specs.Types.{Types, shape}
use Rattle.type_table.proofs.Offsets.{offset_none, offset_other, offset_struct}
use Rattle.type_table.proofs.table.TypeTable.offset.Goals as goal
use Rattle.type_table.proofs.table.TypeTable.offset.Goals.{After-layout}

own : (c : After-layout) → IsKept c.args.self.now c.self.inside.measures.structs.items c.self.inside.measures.types.items
own c = subst (λ (t : Types). IsKept t c.self.inside.measures.structs.items c.self.inside.measures.types.items) c.self.view_is c.self.invariant.kept

pub returns-in_err-layout : goal.returns-in_err-layout
returns-in_err-layout c = c.from_residual.ensures ∙ sym (offset_none (shape c.args.self.now c.args.ty) c.args.field (sym c.layout.ensures ∙ c.in_err-layout.was))

pub returns-in_default : goal.returns-in_default
returns-in_default c =
    let at = (goal.at.returns-in_default c).After-layout in
    sym (offset_other _ _ _ (own at) c.args.ty c.requires c.args.field (λ packed e. c.in_default.not-Struct packed (c.head.ensures ∙ e)))

pub returns : goal.returns
returns c =
    let at = (goal.at.returns c).After-layout in
    c.field_offset.ensures
    ∙ (λ j. offset_from c.in-Struct.packed empty_struct (measures_at (c.deref.ensures.value j) (c.parts-parts.ensures j)) c.args.field)
    ∙ offset_struct _ _ _ (own at) c.args.ty c.requires c.in-Struct.packed c.args.field (sym c.head.ensures ∙ c.in-Struct.is)
    (λ e. (let none = c.layout.ensures ∙ e in let some = c.in_ok-layout.was in cc))
