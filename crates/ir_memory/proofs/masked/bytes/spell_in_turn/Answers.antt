use Rattle.std.proofs.Common.{length, arith}
use Rattle.std.proofs.lemmas.List.FromFn.{fill_by_all}
use Rattle.ir_memory.specs.Masked.Masked.{digit}
use Rattle.ir_memory.proofs.masked.bytes.spell_in_turn.Goals as goal

pub returns : goal.returns
returns c = fill_by_all (λ k. digit c.args.number k) c.loop-place.bytes (length c.args.bytes.now) 0 (omega (arith, c.loop-place.auto.bytes)) (λ k h. c.loop-place.invariant k (omega arith))
