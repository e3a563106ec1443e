use Rattle.std.proofs.Common.{◌∙◌, ap, sym, subst, arith}
use Rattle.ir_memory.specs.Seen.{at, all_seen, IsSound}
use Rattle.ir_memory.proofs.Writes.{room-small, seen-copied, sound-copied, copied-set}
use Rattle.ir_memory.proofs.copy.copy_cells.Goals as goal

pub overflow_add-from : goal.overflow_add-from
overflow_add-from c = let small = room-small _ c.args.kept.now _ c.args.source c.args.count _ c.requires.sound.1 c.requires.source c.get-one.ensures in omega (arith, small)

pub overflow_add-to : goal.overflow_add-to
overflow_add-to c = let small = room-small _ c.args.kept.now _ c.args.target c.args.count _ c.requires.sound.1 c.requires.target c.get-other.ensures in omega (arith, small)

pub copy_pieces-requires-clause-target : goal.copy_pieces-requires-clause-target
copy_pieces-requires-clause-target c = let small = room-small _ c.args.kept.now _ c.args.target c.args.count _ c.requires.sound.1 c.requires.target c.get-other.ensures in omega (arith, small)

pub copy_pieces-requires-clause-source : goal.copy_pieces-requires-clause-source
copy_pieces-requires-clause-source c = let small = room-small _ c.args.kept.now _ c.args.source c.args.count _ c.requires.sound.1 c.requires.source c.get-one.ensures in omega (arith, small)

pub returns-clause-value : goal.returns-clause-value
returns-clause-value c =
    let new = copied-set _ _ c.args.kept.now _ c.args.target c.args.source c.args.count _ _ c.requires.sound.1 c.requires.target c.requires.source c.get-other.ensures c.get-one.ensures c.in_ok-copy_pieces.ensures.copied _ c.copy_bytes.ensures in
    ap (λ ks. all_seen (at c.copy_pieces.new.pieces) ks) new
    ∙ seen-copied _ _ c.args.kept.now _ c.args.target c.args.source c.args.count _ _ c.requires.sound.1 c.requires.target c.requires.source c.get-other.ensures c.get-one.ensures c.in_ok-copy_pieces.ensures.copied

pub returns-clause-sound : goal.returns-clause-sound
returns-clause-sound c next sound =
    let new = copied-set _ _ c.args.kept.now _ c.args.target c.args.source c.args.count _ _ c.requires.sound.1 c.requires.target c.requires.source c.get-other.ensures c.get-one.ensures c.in_ok-copy_pieces.ensures.copied _ c.copy_bytes.ensures in
    subst (λ ks. IsSound (at c.copy_pieces.new.pieces) ks next) (sym new)
    (sound-copied _ _ c.args.kept.now next c.args.target c.args.source c.args.count _ _ sound c.requires.target c.requires.source c.get-other.ensures c.get-one.ensures c.in_ok-copy_pieces.ensures.copied)
