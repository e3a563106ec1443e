use Rattle.std.proofs.Common.{◌+◌, ◌-◌, sym, arith}
use Rattle.record_read.proofs.Gathering.{loop_goes, loop_ends}
use Rattle.record_read.proofs.OnOpening.Naming.{far_begin, far_more, far_over}
use Rattle.record_read.proofs.opening.producer.read_name_bytes.Goals as goal

pub bytes-init : goal.bytes-init
bytes-init c = (far_begin c.args.reader.now, omega arith)

pub bytes-preserved : goal.bytes-preserved
bytes-preserved c =
    let on = loop_goes c.bytes.place 17 _ (sym c.bytes-test.ensures) in
    (far_more _ _ _ (17 - c.bytes.place) (17 - (c.bytes.place + 1)) (omega (arith, on.0)) on.1 c.bytes.invariant.0 c.read_below-byte.ensures.reader, omega (arith, on.0))

pub returns : goal.returns
returns c = far_over _ _ (17 - c.bytes.place) (loop_ends c.bytes.place 17 _ (sym c.bytes-test.ensures)) c.bytes.invariant.0
