use Rattle.std.proofs.Common.{refl, arith}
use Rattle.item_build.proofs.Partly.{same_structs}
use Rattle.entry_copy.proofs.structs.naming.name_structs.Goals as goal

pub structs-init : goal.structs-init
structs-init c = record { upto = omega arith; table = c.requires; joined = same_structs c.args.into.now.arena; others = refl }
