use Rattle.std.proofs.Common.{None, Some, ap, sym, ◌∙◌}
use Rattle.std.proofs.lemmas.Option.{get_or_from_slice_get, slice_get_within}
use Rattle.type_table.specs.Types.{bodies}
use Rattle.entry_verify.specs.Types.Opened.{opened_body, struct_of}
use Rattle.entry_verify.proofs.OnTypes.OpenedTold.{opened_at, opened_here, struct_known}
use Rattle.entry_verify.proofs.types.types.TypeJudge.opened.Goals as goal

pub struct_body-requires : goal.struct_body-requires
struct_body-requires c = struct_known c.self.inside.table.now c.self.invariant.good c.args.ty _ (c.get.ensures ∙ ap Some c.in-Named.is)

pub returns-in-Int : goal.returns-in-Int
returns-in-Int c =
    opened_at _ _ c.self.view_is c.self.invariant.good c.args.ty (slice_get_within c.self.inside.table.now.types c.args.ty _ c.get.ensures) _
    (opened_here c.self.inside.table.now c.args.ty _ (c.get.ensures ∙ ap Some c.in-Int.is))

pub returns-in-Ptr : goal.returns-in-Ptr
returns-in-Ptr c =
    opened_at _ _ c.self.view_is c.self.invariant.good c.args.ty (slice_get_within c.self.inside.table.now.types c.args.ty _ c.get.ensures) _
    (opened_here c.self.inside.table.now c.args.ty _ (c.get.ensures ∙ ap Some c.in-Ptr.is))

pub returns-in-Void : goal.returns-in-Void
returns-in-Void c =
    opened_at _ _ c.self.view_is c.self.invariant.good c.args.ty (slice_get_within c.self.inside.table.now.types c.args.ty _ c.get.ensures) _
    (opened_here c.self.inside.table.now c.args.ty _ (c.get.ensures ∙ ap Some c.in-Void.is))

pub returns-in-Array : goal.returns-in-Array
returns-in-Array c =
    opened_at _ _ c.self.view_is c.self.invariant.good c.args.ty (slice_get_within c.self.inside.table.now.types c.args.ty _ c.get.ensures) _
    (opened_here c.self.inside.table.now c.args.ty _ (c.get.ensures ∙ ap Some c.in-Array.is))

pub returns-in-Struct : goal.returns-in-Struct
returns-in-Struct c =
    opened_at _ _ c.self.view_is c.self.invariant.good c.args.ty (slice_get_within c.self.inside.table.now.types c.args.ty _ c.get.ensures) _
    (ap (struct_of c.in-Struct.packed) c.as_slice.ensures ∙ opened_here c.self.inside.table.now c.args.ty _ (c.get.ensures ∙ ap Some c.in-Struct.is))

pub returns-in-Named : goal.returns-in-Named
returns-in-Named c =
    opened_at _ _ c.self.view_is c.self.invariant.good c.args.ty (slice_get_within c.self.inside.table.now.types c.args.ty _ c.get.ensures) _
    (c.opened_body.ensures
    ∙ ap opened_body (sym (get_or_from_slice_get (bodies c.self.inside.table.now) c.in-Named.id _ None c.struct_body.ensures))
    ∙ opened_here c.self.inside.table.now c.args.ty _ (c.get.ensures ∙ ap Some c.in-Named.is))
