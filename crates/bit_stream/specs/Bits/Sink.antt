-- For all calls of `BitSink`: what every sink of bits keeps.
use Rattle.std.specs.Prelude.{◌≡◌, ◌+◌, ◌%◌, ◌^◌, ◌<◌, ◌≤◌, length, vec_len}
use Rattle.std.specs.Vec.{vec_capacity}
use Rattle.bit_stream.specs.declared.bits.sink.BitSink.TheInside.{Inside}

-- fewer than 32 bits wait, which fit in as many; what was written is whole words, with room for one more
pub record IsSink (w : Inside) : Type 0 where
  pub few : w.count < 32
  pub small : w.pending < 2 ^ w.count
  pub words : length w.out.items % 4 ≡ 0
  pub room : vec_len w.out + 4 ≤ vec_capacity w.out
