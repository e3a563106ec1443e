use Rattle.std.proofs.Common.{◌+◌, ◌-◌, ◌^◌, ◌<◌, ◌≤◌, ◌≡◌, length, drop, sym, ◌∙◌, arith, length-drop}
use Rattle.std.proofs.lemmas.List.{drop-drop}
use Rattle.std.proofs.lemmas.Nat.{pow_pos}
use Rattle.std.proofs.Math.Pow.{pow_mono}
use Rattle.bit_stream.specs.Bits.Bits.{stream_bits}
use Rattle.bit_stream.proofs.OnBits.BitsLaws.{length-stream_bits, value-take}
use Rattle.bit_stream.proofs.OnBits.Chunks.{data_of, data_is, top_is, front_none, or_data, data-lt, step_last, step_next}
use Rattle.bit_stream.proofs.OnBits.Words.{field_front, field_back}
use Rattle.bit_stream.proofs.bits.field.in_one_field.Goals as goal

pub loop-init : goal.loop-init
loop-init c =
    let start : c.args.start + 0 ≡ c.args.start = omega arith in
    let room : c.min-room.result - 0 ≡ c.min-room.result = omega arith in
    record {
      within = omega arith;
      shift_small = omega arith;
      value_small = omega arith;
      left_is = rw (start, room) c.field_at-left.ensures;
      read = rw start (front_none _);
    }

pub returns-then-part-data_bits-eq0 : goal.returns-then-part-data_bits-eq0
returns-then-part-data_bits-eq0 c =
    let all = stream_bits c.args.bytes.now in
    let w = c.args.width in
    let bits = drop (c.args.start + c.loop.taken) all in
    let m = c.min-room.result - c.loop.taken in
    let whole : w ≤ length bits = omega (arith, c.from-step.ensures, c.min-room.ensures, length-drop (c.args.start + c.loop.taken) all, length-stream_bits c.args.bytes.now) in
    let near : w ≤ m = omega (arith, c.from-step.ensures) in
    let is = field_front m w c.loop.left bits near c.requires.width_high c.loop.invariant.left_is in
    let held = data_is w _ bits c.requires.width_low c.requires.width_high whole is in
    let top = top_is w _ bits c.requires.width_low whole is in
    let room : 2 ^ (w - 1) ≤ 2 ^ (64 - c.loop.shift) = (let wide : w - 1 ≤ 64 - c.loop.shift = omega (arith, c.from-step.ensures, c.min-room.ensures, c.loop.invariant.shift_small) in pow_mono wide) in
    let data_small : data_of w bits < 2 ^ (w - 1) = omega (arith, value-take (w - 1) bits, pow_pos (w - 1)) in
    let early : c.loop.shift < 64 = omega (arith, c.min-room.ensures, c.loop.invariant.shift_small, c.loop.invariant.within) in
    let fits : data_of w bits < 2 ^ (64 - c.loop.shift) = omega (arith, data_small, room) in
    rw c.from-step.ensures (step_last w _ _ _ _ _ bits (omega arith) whole early c.loop.invariant.value_small held (rw (sym held) at fits) (sym top ∙ c.if-part-data_bits-eq0.true)) ∙ sym c.loop.invariant.read

pub loop-preserved : goal.loop-preserved
loop-preserved c =
    let all = stream_bits c.args.bytes.now in
    let w = c.args.width in
    let bits = drop (c.args.start + c.loop.taken) all in
    let m = c.min-room.result - c.loop.taken in
    let whole : w ≤ length bits = omega (arith, c.from-step.ensures, c.min-room.ensures, length-drop (c.args.start + c.loop.taken) all, length-stream_bits c.args.bytes.now) in
    let near : w ≤ m = omega (arith, c.from-step.ensures) in
    let is = field_front m w c.loop.left bits near c.requires.width_high c.loop.invariant.left_is in
    let held = data_is w _ bits c.requires.width_low c.requires.width_high whole is in
    let top = top_is w _ bits c.requires.width_low whole is in
    let room : 2 ^ (w - 1) ≤ 2 ^ (64 - c.loop.shift) = (let wide : w - 1 ≤ 64 - c.loop.shift = omega (arith, c.from-step.ensures, c.min-room.ensures, c.loop.invariant.shift_small) in pow_mono wide) in
    let data_small : data_of w bits < 2 ^ (w - 1) = omega (arith, value-take (w - 1) bits, pow_pos (w - 1)) in
    let early : c.loop.shift < 64 = omega (arith, c.min-room.ensures, c.loop.invariant.shift_small, c.loop.invariant.within) in
    let fits : data_of w bits < 2 ^ (64 - c.loop.shift) = omega (arith, data_small, room) in
    let here : c.args.start + c.loop.taken + w ≡ c.args.start + (c.loop.taken + w) = omega arith in
    let less : m - w ≡ c.min-room.result - (c.loop.taken + w) = omega arith in
    record {
      within = omega (arith, c.from-step.ensures);
      shift_small = omega (arith, c.from-step.ensures, c.loop.invariant.shift_small);
      value_small = rw (or_data c.loop.shift c.loop.value _ early c.loop.invariant.value_small (rw (sym held) at fits)) (data-lt w c.loop.shift _ _ c.loop.invariant.value_small (rw (sym held) at data_small));
      left_is = rw (c.from-step.ensures, ← less, ← here, ← drop-drop w (c.args.start + c.loop.taken) all) (field_back m w c.loop.left bits near c.loop.invariant.left_is);
      read = c.loop.invariant.read ∙ rw (c.from-step.ensures, ← here, ← drop-drop w (c.args.start + c.loop.taken) all) (step_next w _ _ _ _ _ bits (omega arith) whole early c.loop.invariant.value_small held (rw (sym held) at fits) (λ h. c.if-part-data_bits-eq0.false (top ∙ h)));
    }
