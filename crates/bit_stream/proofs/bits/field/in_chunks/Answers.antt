use Rattle.std.proofs.Common.{◌+◌, ◌-◌, ◌^◌, ◌<◌, ◌≤◌, ◌≡◌, length, drop, sym, ◌∙◌, arith, length-drop}
use Rattle.std.proofs.lemmas.List.{drop-drop}
use Rattle.std.proofs.lemmas.Nat.{pow_pos}
use Rattle.bit_stream.specs.Bits.Bits.{stream_bits}
use Rattle.bit_stream.proofs.OnBits.BitsLaws.{length-stream_bits, value-take}
use Rattle.bit_stream.proofs.OnBits.Chunks.{data_of, data_is, top_is, fits_above, over_above, or_data, data-lt, step_short, step_late, step_wide, step_last, step_next, step_none}
use Rattle.bit_stream.proofs.bits.field.in_chunks.Goals.{then-shift-ge64-via-then-shift-ge64, then-shift-ge64-via-else-shift-ge64+then-data-shift}
use Rattle.bit_stream.proofs.bits.field.in_chunks.Goals as goal

pub returns-then-end-at : goal.returns-then-end-at
returns-then-end-at c =
    let all = stream_bits c.args.bytes.now in
    step_short c.args.width _ _ _ _ (drop c.loop.at all) (omega arith) (omega (arith, length-drop c.loop.at all, length-stream_bits c.args.bytes.now)) ∙ sym c.loop.invariant.read

pub returns-then-shift-ge64 : goal.returns-then-shift-ge64
returns-then-shift-ge64 c =
    let all = stream_bits c.args.bytes.now in
    let bits = drop c.loop.at all in
    let w = c.args.width in
    let whole : w ≤ length bits = omega (arith, length-drop c.loop.at all, length-stream_bits c.args.bytes.now) in
    let is = data_is w _ bits (omega arith) (omega arith) whole c.field_at-chunk.ensures in
    (elim c.then-shift-ge64.branch [ then-shift-ge64-via-then-shift-ge64 h ↦ step_late w _ _ _ _ bits (omega arith) whole (omega arith) | then-shift-ge64-via-else-shift-ge64+then-data-shift h ↦ step_wide w _ _ _ _ bits (omega arith) whole (omega arith) (over_above c.loop.shift _ (omega arith) (rw is at h.if-data-shift.true)) ]) ∙ sym c.loop.invariant.read

pub returns-then-chunk-data_bits-eq0 : goal.returns-then-chunk-data_bits-eq0
returns-then-chunk-data_bits-eq0 c =
    let all = stream_bits c.args.bytes.now in
    let bits = drop c.loop.at all in
    let w = c.args.width in
    let whole : w ≤ length bits = omega (arith, length-drop c.loop.at all, length-stream_bits c.args.bytes.now) in
    let is = data_is w _ bits (omega arith) (omega arith) whole c.field_at-chunk.ensures in
    let top = top_is w _ bits (omega arith) whole c.field_at-chunk.ensures in
    let taken : c.loop.at + c.from-at.result - c.args.start ≡ c.loop.at - c.args.start + w = omega arith in
    rw taken (step_last w _ _ _ _ _ bits (omega arith) whole (omega arith) c.loop.invariant.value_small is (fits_above c.loop.shift _ (omega arith) c.if-data-shift.false) (sym top ∙ c.if-chunk-data_bits-eq0.true)) ∙ sym c.loop.invariant.read

pub loop-preserved : goal.loop-preserved
loop-preserved c =
    let all = stream_bits c.args.bytes.now in
    let bits = drop c.loop.at all in
    let w = c.args.width in
    let whole : w ≤ length bits = omega (arith, length-drop c.loop.at all, length-stream_bits c.args.bytes.now) in
    let is = data_is w _ bits (omega arith) (omega arith) whole c.field_at-chunk.ensures in
    let top = top_is w _ bits (omega arith) whole c.field_at-chunk.ensures in
    let taken : c.loop.at + c.from-at.result - c.args.start ≡ c.loop.at - c.args.start + w = omega arith in
    let fits = fits_above c.loop.shift _ (omega arith) c.if-data-shift.false in
    let data_small : data_of w bits < 2 ^ (w - 1) = omega (arith, value-take (w - 1) bits, pow_pos (w - 1)) in
    record {
      after = omega arith;
      within = omega arith;
      shift_small = omega arith;
      value_small = rw (or_data c.loop.shift c.loop.value _ (omega arith) c.loop.invariant.value_small fits) (data-lt w c.loop.shift _ _ c.loop.invariant.value_small (rw is data_small));
      read = c.loop.invariant.read ∙ rw (taken, c.from-at.ensures, ← drop-drop w c.loop.at all) (step_next w _ _ _ _ _ bits (omega arith) whole (omega arith) c.loop.invariant.value_small is fits (λ h. c.if-chunk-data_bits-eq0.false (top ∙ h)));
    }

pub returns : goal.returns
returns c = step_none c.args.width _ _ _ _ _ (omega arith) ∙ sym c.loop.invariant.read
