use Rattle.std.proofs.Common.{sym, subst}
use Rattle.type_table.specs.Types.{trees}
use Rattle.module_arena.specs.View.{type_at}
use Rattle.item_build.specs.Types.Stands.{IsType}
use Rattle.extract_core.specs.Fates.Fates.{type_as}
use Rattle.extract_core.proofs.OnDeclaring.StaysDeclared.{type_is_copied}
use Rattle.extract_core.proofs.declaring.emptied.variable_type.Goals as goal

pub returns-else-emptied-clause-is : goal.returns-else-emptied-clause-is
returns-else-emptied-clause-is c =
    let a = c.args.from.now in
    let b = c.args.into.now.arena in
    let whole = type_at (trees a.table) c.args.ty in
    subst (λ e. IsType b c.new_type.result (type_as e whole)) (sym c.if-emptied.false)
    (subst (λ i. IsType b i whole) (sym c.new_type.ensures) (type_is_copied a b c.args.copier.now c.requires.types c.args.ty c.requires.known))
