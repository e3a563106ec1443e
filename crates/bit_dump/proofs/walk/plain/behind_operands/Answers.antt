use Rattle.bit_dump.proofs.OnWalk.PlainRecords.{never_stops, ends_past}
use Rattle.bit_dump.proofs.walk.plain.behind_operands.Goals as goal

pub unreachable-requires : goal.unreachable-requires
unreachable-requires c = never_stops c.args.count c.args.inner.now _ c.requires (rw c.copy-place.ensures at c.in-Err.ensures)

pub returns : goal.returns
returns c =
    let passed = rw c.copy-place.ensures at c.in-Ok.ensures in
    ends_past c.args.count c.args.inner.now c.pass_plain.new.cursor passed.0 c.requires passed.1
