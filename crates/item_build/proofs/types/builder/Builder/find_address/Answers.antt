use Rattle.std.proofs.Common.{subst}
use Rattle.type_table.specs.declared.ir_type.IrType.TheVariants.{Ptr}
use Rattle.type_table.specs.Types.{IsGood}
use Rattle.item_build.proofs.OnTypes.Growing.{type_found_if}
use Rattle.item_build.proofs.types.builder.Builder.find_address.Goals as goal

pub returns : goal.returns
returns c =
    type_found_if c.args.self.now.arena (subst IsGood c.types.ensures c.type_count-good_types.ensures.good) c.hinted_address.result Ptr c.hinted_address.ensures
