use Rattle.module_arena.specs.declared.constant.Const.TheVariants as const
use Rattle.item_build.proofs.OnTypes.Growing.{constant_found}
use Rattle.item_build.proofs.types.builder.Builder.keep_entry.Goals as goal

pub returns-in-Some-clause-is : goal.returns-in-Some-clause-is
returns-in-Some-clause-is c = constant_found c.args.self.now.arena c.variable_count-good.ensures.good c.in-Some.id (const.Address c.args.entry.now) c.in-Some.ensures
