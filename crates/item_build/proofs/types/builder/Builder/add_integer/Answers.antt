use Rattle.type_table.specs.Types.{structs}
use Rattle.item_build.proofs.OnTypes.Leaves.{int_fits}
use Rattle.item_build.proofs.types.builder.Builder.add_integer.Goals as goal

pub keep_type-requires-clause-fits : goal.keep_type-requires-clause-fits
keep_type-requires-clause-fits c = int_fits (structs c.args.self.now.arena.table) c.args.width c.requires.1

pub returns-clause-within : goal.returns-clause-within
returns-clause-within c whole can old = c.keep_type.ensures.within whole (int_fits whole c.args.width can.1) old
