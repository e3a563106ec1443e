use Rattle.std.proofs.Common.{refl, arith}
use Rattle.std.proofs.Math.Seq.{drop-length}
use Rattle.bit_stream.proofs.OnBits.Words.{word_more, value-nil}
use Rattle.bit_stream.proofs.bits.field.few_bytes.Goals as goal

pub loop-at-init : goal.loop-at-init
loop-at-init c = record { within = omega arith; short = omega arith; so_far = rw (drop-length, value-nil) refl }

pub loop-at-preserved : goal.loop-at-preserved
loop-at-preserved c = record { within = omega arith; short = omega arith; so_far = word_more c.args.bytes.now c.loop-at.at c.loop-at.word _ (omega arith) (omega arith) (omega arith) (omega arith) c.from.ensures c.loop-at.invariant.so_far }
