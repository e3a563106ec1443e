use Rattle.std.proofs.Common.{ℕ, ◌+◌, ◌*◌, ◌/◌, ◌%◌, ◌^◌, ◌<◌, ◌≤◌, ◌≡◌, arith, bit_or, length-take}
use Rattle.std.proofs.Math.Pow.{pow_mono}
use Rattle.std.proofs.lemmas.Nat.{shr_below}
use Rattle.bit_stream.proofs.OnBits.Appends.{joined, joined-lt, append_field, words_length}
use Rattle.bit_stream.proofs.bits.sink.BitSink.wide.Goals as goal

-- the bits that a field and the pending ones make together
joined_is : (v value c p inside w : ℕ) → v ≡ value → inside ≡ p → c < 32 → w ≤ 64 → value < 2 ^ w → value < 2 ^ 64 → p < 2 ^ c
    → (bit_or (v * 2 ^ c % 2 ^ 128) inside ≡ value * 2 ^ c + p) × (value * 2 ^ c + p < 2 ^ (c + w))
joined_is v value c p inside w e f h wide small fits low = (rw (e, f) (joined value c p h fits low), joined-lt value w c p small low)

-- what is left after whole words
left-lt : (n c w : ℕ) → n < 2 ^ (c + w) → n / 2 ^ (32 * ((c + w) / 32)) < 2 ^ ((c + w) % 32)
left-lt n c w h =
    let size : (c + w) % 32 + 32 * ((c + w) / 32) ≡ c + w = omega arith in
    shr_below n ((c + w) % 32) (32 * ((c + w) / 32)) (rw size h)

pub overflow_cast-self-2 : goal.overflow_cast-self-2
overflow_cast-self-2 c =
    let all = joined_is _ c.args.value c.self.inside.count c.self.inside.pending _ c.args.width c.from.ensures c.from-2.ensures c.self.invariant.few c.requires.width_in c.requires.fits (omega arith) c.self.invariant.small in
    let bound : 2 ^ ((c.self.inside.count + c.args.width) % 32) ≤ 2 ^ 64 = let size : (c.self.inside.count + c.args.width) % 32 ≤ 64 = omega arith in pow_mono size in
    rw all.0 (omega (arith, left-lt _ c.self.inside.count c.args.width all.1))

pub invariant_of-self-2 : goal.invariant_of-self-2
invariant_of-self-2 c =
    let all = joined_is _ c.args.value c.self.inside.count c.self.inside.pending _ c.args.width c.from.ensures c.from-2.ensures c.self.invariant.few c.requires.width_in c.requires.fits (omega arith) c.self.invariant.small in
    record {
      few = omega arith;
      small = rw all.0 (left-lt _ c.self.inside.count c.args.width all.1);
      words = rw (c.in_ok-extend_from_slice.ensures.items, c.to_le_bytes-bytes.ensures, c.in_ok-reserve.ensures.items) (words_length c.self.inside.out.items _ _ c.self.invariant.words (omega arith));
      room = omega (arith, c.in_ok-reserve.ensures.ok, c.in_ok-extend_from_slice.ensures.len, c.in_ok-extend_from_slice.ensures.capacity, length-take {A = ℕ});
    }

pub returns-clause-ok : goal.returns-clause-ok
returns-clause-ok c =
    let all = joined_is _ c.args.value c.self.inside.count c.self.inside.pending _ c.args.width c.from.ensures c.from-2.ensures c.self.invariant.few c.requires.width_in c.requires.fits (omega arith) c.self.invariant.small in
    rw (c.in_ok-extend_from_slice.ensures.items, c.to_le_bytes-bytes.ensures, c.in_ok-reserve.ensures.items, all.0, ← c.self.view_is) (append_field c.self.inside.out.items c.self.inside.count c.self.inside.pending c.args.width c.args.value c.self.invariant.small c.self.invariant.few c.requires.width_in)
