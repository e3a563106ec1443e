use Rattle.std.proofs.Common.{Some}
use Rattle.type_read.proofs.OnArena.Indexed.{takes_place}
use Rattle.type_read.proofs.arena.places.read_block.Goals as goal

pub returns-in-Some-clause-takes : goal.returns-in-Some-clause-takes
returns-in-Some-clause-takes c = takes_place c.args.m.now c.read_place.new.reader _ (Some c.in-Some.place) c.in-Some.ensures
