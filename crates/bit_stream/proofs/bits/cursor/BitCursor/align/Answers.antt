use Rattle.std.proofs.Common.{sym, arith}
use Rattle.bit_stream.proofs.OnBits.Places.{left_is, align_refused, align_read}
use Rattle.bit_stream.proofs.bits.cursor.BitCursor.align.Goals as goal

pub returns-then-left-gap : goal.returns-then-left-gap
returns-then-left-gap c =
    let left = rw (← c.self.view_is) at c.left.ensures in
    rw (c.refusal.ensures, ← c.self.view_is) (sym (align_refused c.self.inside.bytes.now c.self.inside.at (omega (arith, left_is c.self.inside.bytes.now c.self.inside.at))))

pub invariant_of-self : goal.invariant_of-self
invariant_of-self c =
    let left = rw (← c.self.view_is) at c.left.ensures in
    (omega (arith, left_is c.self.inside.bytes.now c.self.inside.at), omega arith)

pub returns : goal.returns
returns c =
    let left = rw (← c.self.view_is) at c.left.ensures in
    rw (← c.self.view_is) (sym (align_read c.self.inside.bytes.now c.self.inside.at (omega (arith, left_is c.self.inside.bytes.now c.self.inside.at))))
