use Rattle.std.proofs.Common.{drop, sym, arith}
use Rattle.std.proofs.lemmas.Nat.{pow_pos}
use Rattle.bit_stream.specs.Bits.Bits.{stream_bits}
use Rattle.bit_stream.proofs.OnBits.BitsLaws.{value-take}
use Rattle.bit_stream.proofs.OnBits.Places.{left_is, fixed_refused, fixed_read}
use Rattle.bit_stream.proofs.bits.cursor.BitCursor.fixed.Goals as goal

pub returns-then-left-from-clause-read : goal.returns-then-left-from-clause-read
returns-then-left-from-clause-read c =
    let left = rw (← c.self.view_is) at c.left.ensures in
    rw (c.refusal.ensures, ← c.self.view_is) (sym (fixed_refused c.self.inside.bytes.now c.self.inside.at c.args.width (omega (arith, left_is c.self.inside.bytes.now c.self.inside.at))))

pub field_at-value-requires-clause-whole : goal.field_at-value-requires-clause-whole
field_at-value-requires-clause-whole c =
    let left = rw (← c.self.view_is) at c.left.ensures in
    omega (arith, left_is c.self.inside.bytes.now c.self.inside.at)

pub invariant_of-self : goal.invariant_of-self
invariant_of-self c =
    let left = rw (← c.self.view_is) at c.left.ensures in
    (omega (arith, left_is c.self.inside.bytes.now c.self.inside.at), omega arith)

pub returns-clause-read : goal.returns-clause-read
returns-clause-read c =
    let left = rw (← c.self.view_is) at c.left.ensures in
    rw (c.from-2.ensures, ← c.self.view_is) (sym (fixed_read c.self.inside.bytes.now c.self.inside.at c.args.width _ (omega (arith, left_is c.self.inside.bytes.now c.self.inside.at)) c.field_at-value.ensures))

pub returns-clause-small : goal.returns-clause-small
returns-clause-small c =
    let bits = drop c.self.inside.at (stream_bits c.self.inside.bytes.now) in
    omega (arith, value-take c.args.width bits, pow_pos c.args.width)
