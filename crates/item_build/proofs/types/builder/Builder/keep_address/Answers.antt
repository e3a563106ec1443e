use Rattle.std.proofs.Common.{subst, ap, ◌∙◌, IfOk}
use Rattle.type_table.specs.Types.{trees}
use Rattle.module_arena.specs.declared.constant.Const.TheVariants as const
use Rattle.module_arena.specs.Changes.{constant_in}
use Rattle.module_arena.specs.Module as m
use Rattle.module_arena.specs.View.{type_at}
use Rattle.item_build.specs.Types.Stands.{IsConstant}
use Rattle.item_build.proofs.OnTypes.Made.{constants_at-listed}
use Rattle.item_build.proofs.types.builder.Builder.keep_address.Goals as goal

pub returns-clause-is : goal.returns-clause-is
returns-clause-is c =
    let a = c.args.self.now.arena in
    subst (λ k. IfOk c.keep_constant.result (λ id. IsConstant c.keep_constant.new.self.arena id k))
    ((λ j. constant_in a (const.ElementAddress c.args.flags (c.in_ok-address.ensures j)))
    ∙ ap (m.ElementAddress c.args.flags (type_at (trees a.table) c.args.source)) (constants_at-listed a c.args.operands))
    c.keep_constant.ensures.is
