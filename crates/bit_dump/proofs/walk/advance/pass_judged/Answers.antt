use Rattle.bit_dump.proofs.OnWalk.Advancing.{never_refused, place_behind}
use Rattle.bit_dump.proofs.walk.advance.pass_judged.Goals as goal

pub unreachable-requires : goal.unreachable-requires
unreachable-requires c =
    let stop = rw c.in-Err-Bit.field-0-is at c.in-Err-Bit.ensures.read in
    never_refused c.args.scope.now c.args.cursor.now c.args.kept.now.start c.args.kept.now.abbreviation c.in-Err-Bit.field-0-0 c.requires stop

pub returns-in-Ok-clause-place : goal.returns-in-Ok-clause-place
returns-in-Ok-clause-place c = place_behind c.args.scope.now c.pass_item.new.scope c.args.cursor.now c.pass_item.new.cursor c.in-Ok.item.entry c.in-Ok.item.blob.now c.args.kept.now.start c.pass_item.new.kept.start c.args.kept.now.abbreviation c.pass_item.new.kept.abbreviation c.requires c.in-Ok.ensures.read c.in-Ok.ensures.bits c.in-Ok.ensures.kept
