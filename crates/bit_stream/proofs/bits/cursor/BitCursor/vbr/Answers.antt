use Rattle.std.proofs.Common.{drop, sym, arith}
use Rattle.bit_stream.specs.Bits.Bits.{stream_bits}
use Rattle.bit_stream.proofs.OnBits.Chunks.{vbr_takes}
use Rattle.bit_stream.proofs.OnBits.Places.{left_is, vbr_refused, vbr_read}
use Rattle.bit_stream.proofs.bits.cursor.BitCursor.vbr.Goals as goal

pub overflow_add-self : goal.overflow_add-self
overflow_add-self c =
    let all = stream_bits c.self.inside.bytes.now in
    omega (arith, vbr_takes c.args.width c.in-Ok.value c.in-Ok.taken (drop c.self.inside.at all) c.in-Ok.ensures, left_is c.self.inside.bytes.now c.self.inside.at)

pub invariant_of-self : goal.invariant_of-self
invariant_of-self c =
    let all = stream_bits c.self.inside.bytes.now in
    (omega (arith, vbr_takes c.args.width c.in-Ok.value c.in-Ok.taken (drop c.self.inside.at all) c.in-Ok.ensures, left_is c.self.inside.bytes.now c.self.inside.at), omega arith)

pub returns-in-Ok : goal.returns-in-Ok
returns-in-Ok c = rw (← c.self.view_is) (sym (vbr_read c.self.inside.bytes.now c.self.inside.at c.args.width c.in-Ok.value c.in-Ok.taken c.in-Ok.ensures))

pub returns-in-Err : goal.returns-in-Err
returns-in-Err c = rw (c.refusal.ensures, ← c.self.view_is) (sym (vbr_refused c.self.inside.bytes.now c.self.inside.at c.args.width c.in-Err.kind c.in-Err.ensures))
