use Rattle.std.proofs.Common.{◌≡◌, ◌++◌}
use Rattle.bit_stream.specs.Bits.Writing.{vbr_bits}
use Rattle.bit_stream.proofs.bits.sink.BitSink.chunks.Given as goal

abbrev pub invariant-loop-rest : goal.invariant-loop-rest
invariant-loop-rest l = l.self ++ vbr_bits 64 l.width l.rest ≡ l.initial.self ++ vbr_bits 64 l.width l.value

abbrev pub decreases-loop-rest : goal.decreases-loop-rest
decreases-loop-rest l = l.rest
