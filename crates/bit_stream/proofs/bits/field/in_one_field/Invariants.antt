use Rattle.std.proofs.Common.{◌+◌, ◌-◌, ◌≡◌, ◌^◌, ◌<◌, ◌≤◌, take, drop}
use Rattle.bit_stream.specs.Bits.Bits.{value, stream_bits}
use Rattle.bit_stream.specs.Bits.Reading.{vbr_from, vbr_at}
use Rattle.bit_stream.proofs.OnBits.Chunks.{with_front}
use Rattle.bit_stream.proofs.bits.field.in_one_field.Given as goal

abbrev pub invariant-loop : goal.invariant-loop
invariant-loop l = record {
  within : l.taken ≤ l.room;
  shift_small : l.shift ≤ l.taken;
  value_small : l.value < 2 ^ l.shift;
  left_is : l.left ≡ value (take (l.room - l.taken) (drop (l.start + l.taken) (stream_bits l.bytes)));
  read : vbr_at l.width (drop l.start (stream_bits l.bytes))
      ≡ with_front l.shift l.value l.taken (vbr_from (65 - l.counter) l.width l.shift (drop (l.start + l.taken) (stream_bits l.bytes)));
}
