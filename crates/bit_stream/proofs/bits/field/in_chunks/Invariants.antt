use Rattle.std.proofs.Common.{◌-◌, ◌≡◌, ◌*◌, ◌^◌, ◌<◌, ◌≤◌, length, drop}
use Rattle.bit_stream.specs.Bits.Bits.{stream_bits}
use Rattle.bit_stream.specs.Bits.Reading.{vbr_from, vbr_at}
use Rattle.bit_stream.proofs.OnBits.Chunks.{with_front}
use Rattle.bit_stream.proofs.bits.field.in_chunks.Given as goal

abbrev pub invariant-loop : goal.invariant-loop
invariant-loop l = record {
  after : l.start ≤ l.at;
  within : l.at ≤ 8 * length l.bytes;
  shift_small : l.shift < 96;
  value_small : l.value < 2 ^ l.shift;
  read : vbr_at l.width (drop l.start (stream_bits l.bytes))
      ≡ with_front l.shift l.value (l.at - l.start) (vbr_from (65 - l.counter) l.width l.shift (drop l.at (stream_bits l.bytes)));
}
