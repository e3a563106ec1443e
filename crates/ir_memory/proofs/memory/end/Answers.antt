use Rattle.std.proofs.Common.{◌∙◌, ◌+◌, ◌≤◌, ap, sym, subst, arith}
use Rattle.ir_memory.specs.Seen.{at, all_seen, IsSound}
use Rattle.ir_memory.proofs.Changed.{placed-kept, seen-ended, sound-ended}
use Rattle.ir_memory.proofs.Writes.{same-without}
use Rattle.ir_memory.proofs.memory.end.Goals as goal

pub overflow_add-to : goal.overflow_add-to
overflow_add-to c =
    let end = subst (λ x. x.start + x.size + 16 ≤ c.requires.sound.0) (sym c.get-block.ensures) (placed-kept _ c.args.kept.now c.requires.sound.0 c.args.index c.get-block.result.now c.requires.sound.1 c.requires.index (c.requires.live _)).1 in
    let small = c.requires.sound.1.small in
    omega (arith, end, small)

pub returns-clause-value : goal.returns-clause-value
returns-clause-value c =
    let live = ap (λ x. x.live) c.get-block.ensures ∙ c.requires.live _ in
    ap (λ ks. all_seen (at c.clear.new.pieces) ks) c.end.ensures
    ∙ seen-ended (at c.args.pieces.now) (at c.clear.new.pieces) c.args.kept.now c.requires.sound.0 c.args.index c.get-block.result.now c.requires.sound.1 c.requires.index c.get-block.ensures live (same-without _ _ _ _ c.clear.ensures)

pub returns-clause-sound : goal.returns-clause-sound
returns-clause-sound c next sound =
    let live = ap (λ x. x.live) c.get-block.ensures ∙ c.requires.live _ in
    subst (λ ks. IsSound (at c.clear.new.pieces) ks next) (sym c.end.ensures)
    (sound-ended (at c.args.pieces.now) (at c.clear.new.pieces) c.args.kept.now next c.args.index c.get-block.result.now sound c.requires.index c.get-block.ensures live (same-without _ _ _ _ c.clear.ensures))
