use Rattle.ir_memory.proofs.Bytes.{byte_high, byte_shift}
use Rattle.ir_memory.proofs.cell.byte_at.Goals as goal

pub returns-then-place-ge16 : goal.returns-then-place-ge16
returns-then-place-ge16 c = byte_high c.args.number c.args.place c.ranges.number.fits c.if-place-ge16.true

pub returns : goal.returns
returns c = rw c.from.ensures (byte_shift c.args.number c.args.place)
