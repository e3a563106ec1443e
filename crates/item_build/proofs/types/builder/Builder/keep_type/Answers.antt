use Rattle.std.proofs.Common.{subst}
use Rattle.type_table.specs.Types.{IsGood}
use Rattle.item_build.proofs.OnTypes.Growing.{type_found}
use Rattle.item_build.proofs.types.builder.Builder.keep_type.Goals as goal

pub returns-in-Some-clause-is : goal.returns-in-Some-clause-is
returns-in-Some-clause-is c =
    type_found c.args.self.now.arena (subst IsGood c.types.ensures c.type_count-good_types.ensures.good) c.in-Some.id c.args.ty c.in-Some.ensures
