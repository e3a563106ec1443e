use Rattle.std.proofs.Common.{sym, subst}
use Rattle.module_arena.specs.declared.constant.Const.TheVariants as const
use Rattle.module_arena.specs.Changes.{with_constant, constant_in}
use Rattle.item_build.specs.Types.Stands.{IsConstant, Grows}
use Rattle.item_build.proofs.OnTypes.Growing.{grows_by_constant, constant_here}
use Rattle.item_build.proofs.OnTypes.Known.{knows_address}
use Rattle.item_build.proofs.types.builder.Builder.keep_new_address.Goals as goal

pub add_const-requires : goal.add_const-requires
add_const-requires c = knows_address c.args.self.now.arena c.args.entry.now c.requires

pub returns-clause-grows : goal.returns-clause-grows
returns-clause-grows c =
    let a = c.args.self.now.arena in
    subst (λ b. Grows a b) (sym c.in-Ok.ensures.ok) (grows_by_constant a (const.Address c.args.entry.now) c.variable_count-good.ensures.good)

pub returns-clause-is : goal.returns-clause-is
returns-clause-is c =
    let a = c.args.self.now.arena in
    let added = const.Address c.args.entry.now in
    subst (λ b. IsConstant b c.in-Ok.id (constant_in a added)) (sym c.in-Ok.ensures.ok)
    (subst (λ id. IsConstant (with_constant a added) id (constant_in a added)) (sym c.in-Ok.ensures.id) (constant_here a added c.variable_count-good.ensures.good))
