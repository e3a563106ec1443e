use Rattle.std.proofs.Common.{refl, subst}
use Rattle.type_read.specs.Arena.Growing.{IsOver}
use Rattle.module_arena.specs.Lists.{Lists}
use Rattle.bitcode_read.proofs.reading.begin.Goals as goal

pub returns : goal.returns
returns c = record { reader_is = refl; globals_are = refl; outside = (refl, refl); over = subst (λ (a : Lists). IsOver a c.in_ok-growing.growing) c.new.ensures c.in_ok-growing.ensures.is }
