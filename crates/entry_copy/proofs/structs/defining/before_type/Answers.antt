use Rattle.std.proofs.Common.{length, Some, slice_get, sym, subst, ap, ◌∙◌}
use Rattle.std.proofs.lemmas.Option.{get_or_from_slice_get}
use Rattle.type_table.specs.declared.ir_type.IrType.{IrType}
use Rattle.type_table.specs.declared.ir_type.IrType.TheVariants.{Named, Void}
use Rattle.type_table.specs.Types.{Types, IsGood, Knows}
use Rattle.type_table.proofs.Outlined.{type_known}
use Rattle.item_build.proofs.Partly.{same_structs}
use Rattle.entry_copy.proofs.structs.defining.before_type.Goals as goal

pub define_struct-requires-clause-known : goal.define_struct-requires-clause-known
define_struct-requires-clause-known c =
    let t = c.args.from.now.table in
    let good = subst IsGood c.types.ensures c.type_count-good.ensures.good in
    let at = ap (λ (x : Types). slice_get x.types c.args.ty) (sym c.types-2.ensures) ∙ c.get.ensures ∙ ap (λ (x : IrType). Some x) c.in-Named.is in
    subst (Knows c.args.ty (length t.structs)) (get_or_from_slice_get t.types c.args.ty (Named c.in-Named.id) Void at) (type_known t good c.args.ty c.requires.known)

pub returns-in_default-clause-module : goal.returns-in_default-clause-module
returns-in_default-clause-module c = same_structs c.args.into.now.arena
