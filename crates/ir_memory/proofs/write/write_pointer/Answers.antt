use Rattle.std.proofs.Common.{arith, ◌+◌, ◌≡◌, ◌∙◌, sym, ap, subst, length, Some, true, false}
use Rattle.std.proofs.lemmas.List.FromFn.{length-map-range_with_len}
use Rattle.ir_memory.specs.Masked.Masked.{bytes, digit}
use Rattle.ir_memory.specs.Seen.{at, all_seen, IsSound}
use Rattle.ir_memory.proofs.Changed.{all-same, sound-same, seen-put, sound-put, set-read, on_err}
use Rattle.ir_memory.proofs.Writes.{room-small, piece-within, same-beside, cells-pointer}
use Rattle.ir_memory.proofs.write.write_pointer.Goals as goal

never : true ≡ false → ⊥
never e = cc

pub overflow_add-block : goal.overflow_add-block
overflow_add-block c = let small = room-small _ c.args.kept.now _ c.args.place 8 _ c.requires.sound.1 c.requires.room c.get_mut-block.ensures.value in omega (arith, small)

pub place-requires : goal.place-requires
place-requires c = let small = room-small _ c.args.kept.now _ c.args.place 8 _ c.requires.sound.1 c.requires.room c.get_mut-block.ensures.value in omega (arith, small)

pub returns-in_err-place-clause-err : goal.returns-in_err-place-clause-err
returns-in_err-place-clause-err c =
    let same = set-read c.args.kept.now c.args.place.index _ c.requires.room.index c.get_mut-block.ensures.value in
    on_err c.from_residual.result _ (ap (λ ks. all_seen (at c.place.new.self) ks) same ∙ all-same _ _ c.args.kept.now c.in_err-place.ensures.err)

pub returns-in_err-place-clause-sound : goal.returns-in_err-place-clause-sound
returns-in_err-place-clause-sound c next sound =
    let same = set-read c.args.kept.now c.args.place.index _ c.requires.room.index c.get_mut-block.ensures.value in
    subst (λ ks. IsSound (at c.place.new.self) ks next) (sym same) (sound-same _ _ c.args.kept.now next c.in_err-place.ensures.err sound)

pub returns-clause-value : goal.returns-clause-value
returns-clause-value c =
    let b = c.get_mut-block.result.now in
    let long : length (bytes 8 c.args.pointer.address) ≡ 8 = length-map-range_with_len (λ k. Some (digit c.args.pointer.address k)) 0 8 in
    rw (c.write_number.ensures, c.from.ensures)
    (seen-put _ _ c.args.kept.now _ c.args.place 8 b (bytes 8 c.args.pointer.address) true c.requires.sound.1 c.requires.room c.get_mut-block.ensures.value long (same-beside _ _ _ c.args.pointer c.in_ok-place.ensures.placed) (λ m. absurd (never m)) _
    (cells-pointer (at c.place.new.self) (b.start + c.args.place.offset) c.args.pointer (bytes 8 c.args.pointer.address) long (piece-within (at c.args.pieces.now) (at c.place.new.self) (b.start + c.args.place.offset) c.args.pointer c.in_ok-place.ensures.placed)))

pub returns-clause-sound : goal.returns-clause-sound
returns-clause-sound c next sound =
    let b = c.get_mut-block.result.now in
    let long : length (bytes 8 c.args.pointer.address) ≡ 8 = length-map-range_with_len (λ k. Some (digit c.args.pointer.address k)) 0 8 in
    rw (c.write_number.ensures, c.from.ensures)
    (sound-put _ _ c.args.kept.now next c.args.place 8 b (bytes 8 c.args.pointer.address) true sound c.requires.room c.get_mut-block.ensures.value long (same-beside _ _ _ c.args.pointer c.in_ok-place.ensures.placed) (λ m. absurd (never m)))
