use Rattle.std.proofs.Common.{arith, length-append}
use Rattle.bit_stream.proofs.OnBits.Appends.{whole_words, append_words}
use Rattle.bit_stream.proofs.bits.sink.BitSink.append.Goals as goal

pub invariant_of-self-2 : goal.invariant_of-self-2
invariant_of-self-2 c =
    let s = c.self.inside in
    let o = c.other.inside in
    record {
      few = c.self.invariant.few;
      small = c.self.invariant.small;
      words = rw (c.in_ok-extend_from_slice.ensures.items, c.in_ok-reserve.ensures.items, c.as_slice-more.ensures.value) (omega (arith, length-append s.out.items o.out.items, c.self.invariant.words, c.other.invariant.words));
      room = omega (arith, c.in_ok-reserve.ensures.ok, c.in_ok-extend_from_slice.ensures.len, c.in_ok-extend_from_slice.ensures.capacity, c.saturating_add.ensures);
    }

pub returns-clause-ok : goal.returns-clause-ok
returns-clause-ok c =
    let s = c.self.inside in
    let o = c.other.inside in
    let none = whole_words s.out.items s.count s.pending c.self.invariant.words c.self.invariant.few (rw c.self.view_is c.requires.whole) in
    let other_none = whole_words o.out.items o.count o.pending c.other.invariant.words c.other.invariant.few (rw c.other.view_is c.requires.other_whole) in
    rw (c.in_ok-extend_from_slice.ensures.items, c.in_ok-reserve.ensures.items, c.as_slice-more.ensures.value, ← c.self.view_is, ← c.other.view_is) (append_words s.out.items o.out.items s.count s.pending o.count o.pending none other_none)
