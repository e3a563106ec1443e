use Rattle.bit_dump.proofs.OnWalk.PlainRecords.{passes_plain}
use Rattle.bit_dump.proofs.walk.plain.plain_passed.Goals as goal

pub returns-in-Ok : goal.returns-in-Ok
returns-in-Ok c = passes_plain c.args.scope.now.scope c.args.cursor.now c.in-Some.plain.inner c.pass_plain.new.cursor c.in-Some.plain.head c.in-Ok.ensures.0 c.in-Some.ensures.within c.in-Some.ensures.other c.in-Some.ensures.head c.in-Ok.ensures.1
