use Rattle.std.proofs.Common.{◌≡◌, ℕ, ◌-◌, ◌%◌, ◌<◌, List, Bool, ◌++◌, length, ap, ◌∙◌, arith, length-append}
use Rattle.std.proofs.lemmas.Result.{on_ok_weaker}
use Rattle.bit_stream.specs.Bits.Bits.{stream_bits, bits_of}
use Rattle.bit_stream.proofs.OnBits.BitsLaws.{length-stream_bits, length-bits_of}
use Rattle.bit_stream.proofs.OnBits.Appends.{zeros}
use Rattle.bit_stream.proofs.bits.sink.BitSink.align.Goals as goal

-- how far the pending bits are from a word's end
gap_is : (out : List ℕ) (count pending : ℕ) → length out % 4 ≡ 0 → count < 32 → (32 - count) % 32 ≡ (32 - length (stream_bits out ++ bits_of count pending) % 32) % 32
gap_is out count pending words few = omega (arith, length-append (stream_bits out) (bits_of count pending), length-stream_bits out, length-bits_of count pending)

-- at a word's end there are whole words
whole_after : (out : List ℕ) (count pending : ℕ) (old new : List Bool) → stream_bits out ++ bits_of count pending ≡ old → new ≡ old ++ bits_of ((32 - count) % 32) 0
    → length out % 4 ≡ 0 → count < 32 → length new % 32 ≡ 0
whole_after out count pending old new view written words few =
    let before = simp (length-append, length-stream_bits, length-bits_of) at (ap length view) in
    let after = simp (length-append, length-bits_of) at (ap length written) in
    omega (arith, before, after)

pub returns-clause-ok : goal.returns-clause-ok
returns-clause-ok c =
    let s = c.self.inside in
    let gap = rw c.self.view_is at (gap_is s.out.items s.count s.pending c.self.invariant.words c.self.invariant.few) in
    on_ok_weaker c.fixed.result (λ written. written ∙ ap (λ (l : List Bool). c.args.self.now ++ l) (rw gap (zeros ((32 - length c.args.self.now % 32) % 32)))) c.fixed.ensures.ok

pub returns-clause-whole : goal.returns-clause-whole
returns-clause-whole c =
    let s = c.self.inside in
    on_ok_weaker c.fixed.result (λ written. whole_after s.out.items s.count s.pending _ _ c.self.view_is written c.self.invariant.words c.self.invariant.few) c.fixed.ensures.ok
