use Rattle.std.proofs.Common.{refl, rules}
use Rattle.item_build.proofs.Partly.{same_structs}
use Rattle.item_build.proofs.building.define_item.Goals as goal

pub returns-in_default : goal.returns-in_default
returns-in_default c = record { «module» = same_structs c.args.builder.now.arena; entries = refl; next = search rules; partly = λ whole can partly. partly; done = λ whole can done. done }
