use Rattle.std.proofs.Common.{ℕ, ◌+◌, ◌-◌, ◌*◌, ◌/◌, ◌%◌, ◌^◌, ◌<◌, ◌≤◌, ◌≡◌, List, ◌++◌, append_assoc, sym, arith, bit_or, length-take}
use Rattle.std.proofs.Math.Pow.{pow_mono}
use Rattle.std.proofs.lemmas.Nat.{shr_below}
use Rattle.bit_stream.proofs.OnBits.Appends.{joined_in_word, joined-lt, append_narrow, word_length}
use Rattle.bit_stream.specs.Bits.Bits.{stream_bits, bits_of}
use Rattle.bit_stream.proofs.OnBits.BitsLaws.{bits_of-cat}
use Rattle.bit_stream.proofs.bits.sink.BitSink.narrow.Goals as goal

-- the bits that a field and the pending ones make together
together : (value c p w : ℕ) → c < 32 → w ≤ 32 → value < 2 ^ w → p < 2 ^ c
    → (bit_or (value * 2 ^ c % 2 ^ 64) p ≡ value * 2 ^ c + p) × (value * 2 ^ c + p < 2 ^ (c + w))
together value c p w h narrow small low =
    let bound : 2 ^ w ≤ 2 ^ 32 = pow_mono narrow in
    (joined_in_word value c p h (omega (arith, small, bound)) low, joined-lt value w c p small low)

pub returns-clause-ok : goal.returns-clause-ok
returns-clause-ok c =
    let s = c.self.inside in
    let all = together c.args.value s.count s.pending c.args.width c.self.invariant.few c.requires.width_in c.requires.fits c.self.invariant.small in
    rw (c.in_ok-extend_from_slice.ensures.items, c.to_le_bytes-bytes.ensures, c.in_ok-reserve.ensures.items, all.0, ← c.self.view_is) (append_narrow s.out.items s.count s.pending c.args.width c.args.value c.self.invariant.small c.self.invariant.few c.requires.width_in (omega arith))

-- a field behind the pending bits, which stay fewer than a word
behind : (out : List ℕ) (c p w v : ℕ) → p < 2 ^ c → stream_bits out ++ bits_of (c + w) (v * 2 ^ c + p) ≡ (stream_bits out ++ bits_of c p) ++ bits_of w v
behind out c p w v low = rw (bits_of-cat c w p v low) (sym (append_assoc (stream_bits out) (bits_of c p) (bits_of w v)))

-- what is left behind a whole word
left-lt : (n c w : ℕ) → n < 2 ^ (c + w) → 32 ≤ c + w → n / 2 ^ 32 < 2 ^ (c + w - 32)
left-lt n c w h full =
    let size : c + w - 32 + 32 ≡ c + w = omega arith in
    shr_below n (c + w - 32) 32 (rw size h)

pub invariant_of-self : goal.invariant_of-self
invariant_of-self c =
    let s = c.self.inside in
    let all = together c.args.value s.count s.pending c.args.width c.self.invariant.few c.requires.width_in c.requires.fits c.self.invariant.small in
    record {
      few = c.if-count-lt32.true;
      small = rw all.0 all.1;
      words = c.self.invariant.words;
      room = c.self.invariant.room;
    }

pub returns-then-count-lt32-clause-ok : goal.returns-then-count-lt32-clause-ok
returns-then-count-lt32-clause-ok c =
    let s = c.self.inside in
    let all = together c.args.value s.count s.pending c.args.width c.self.invariant.few c.requires.width_in c.requires.fits c.self.invariant.small in
    rw (all.0, ← c.self.view_is) (behind s.out.items s.count s.pending c.args.width c.args.value c.self.invariant.small)

pub invariant_of-self-2 : goal.invariant_of-self-2
invariant_of-self-2 c =
    let s = c.self.inside in
    let all = together c.args.value s.count s.pending c.args.width c.self.invariant.few c.requires.width_in c.requires.fits c.self.invariant.small in
    record {
      few = omega (arith, c.self.invariant.few, c.requires.width_in);
      small = rw all.0 (left-lt _ s.count c.args.width all.1 (omega arith));
      words = rw (c.in_ok-extend_from_slice.ensures.items, c.to_le_bytes-bytes.ensures, c.in_ok-reserve.ensures.items) (word_length s.out.items _ c.self.invariant.words);
      room = omega (arith, c.in_ok-reserve.ensures.ok, c.in_ok-extend_from_slice.ensures.len, c.in_ok-extend_from_slice.ensures.capacity, length-take {A = ℕ});
    }
