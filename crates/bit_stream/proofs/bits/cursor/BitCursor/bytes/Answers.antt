use Rattle.std.proofs.Common.{sym, arith}
use Rattle.bit_stream.proofs.OnBits.Places.{left_is, bytes_refused, bytes_read}
use Rattle.bit_stream.proofs.bits.cursor.BitCursor.bytes.Goals as goal

pub returns-then-left-count : goal.returns-then-left-count
returns-then-left-count c =
    let left = rw (← c.self.view_is, left_is) at c.left.ensures in
    let over = rw left at c.if-left-count.true in
    rw (c.refusal.ensures, ← c.self.view_is) (sym (bytes_refused c.self.inside.bytes.now c.self.inside.at c.args.count over))

pub overflow_add-self : goal.overflow_add-self
overflow_add-self c =
    let left = rw (← c.self.view_is) at c.left.ensures in
    omega (arith, left_is c.self.inside.bytes.now c.self.inside.at)

pub bytes_at-requires-clause-whole : goal.bytes_at-requires-clause-whole
bytes_at-requires-clause-whole c =
    let left = rw (← c.self.view_is) at c.left.ensures in
    omega (arith, left_is c.self.inside.bytes.now c.self.inside.at)

pub bytes_at-requires-clause-byte : goal.bytes_at-requires-clause-byte
bytes_at-requires-clause-byte c = rw (← c.self.view_is) at c.requires

pub invariant_of-self : goal.invariant_of-self
invariant_of-self c =
    let left = rw (← c.self.view_is) at c.left.ensures in
    (omega (arith, left_is c.self.inside.bytes.now c.self.inside.at), omega arith)

pub returns : goal.returns
returns c =
    let left = rw (← c.self.view_is, left_is) at c.left.ensures in
    let fits = rw left at c.if-left-count.false in
    rw (← c.self.view_is) (sym (bytes_read c.self.inside.bytes.now c.self.inside.at c.args.count _ fits c.bytes_at.ensures))
