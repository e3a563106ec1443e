use Rattle.std.proofs.Common.{arith, ◌+◌, ◌≡◌, length, Some}
use Rattle.std.proofs.lemmas.List.FromFn.{length-map-range_with_len}
use Rattle.ir_memory.specs.Masked.Masked.{bytes, digit}
use Rattle.ir_memory.proofs.Writes.{room-bytes, room-small, room-unmixed, none-within, seen-plain, sound-plain, cells-number}
use Rattle.ir_memory.proofs.write.write_number.Goals as goal

pub overflow_add-from : goal.overflow_add-from
overflow_add-from c = let small = room-small _ c.args.kept.now _ c.args.place c.args.count _ c.requires.sound.1 c.requires.room c.get_mut-block.ensures.value in omega (arith, small)

pub overflow_add-from-2 : goal.overflow_add-from-2
overflow_add-from-2 c = let small = room-small _ c.args.kept.now _ c.args.place c.args.count _ c.requires.sound.1 c.requires.room c.get_mut-block.ensures.value in omega (arith, small)

pub clear-requires-clause-unmixed : goal.clear-requires-clause-unmixed
clear-requires-clause-unmixed c = room-unmixed _ c.args.kept.now _ c.args.place c.args.count _ c.requires.sound.1 c.requires.room c.get_mut-block.ensures.value

pub write_number-requires-clause-within : goal.write_number-requires-clause-within
write_number-requires-clause-within c = room-bytes _ c.args.kept.now _ c.args.place c.args.count _ c.requires.sound.1 c.requires.room c.get_mut-block.ensures.value

pub returns-clause-value : goal.returns-clause-value
returns-clause-value c =
    let b = c.get_mut-block.result.now in
    let long : length (bytes c.args.count c.args.number) ≡ c.args.count = length-map-range_with_len (λ k. Some (digit c.args.number k)) 0 c.args.count in
    rw c.write_number.ensures
    (seen-plain _ _ c.args.kept.now _ c.args.place c.args.count b (bytes c.args.count c.args.number) c.requires.sound.1 c.requires.room c.get_mut-block.ensures.value long c.clear.ensures _
    (cells-number _ (b.start + c.args.place.offset) c.args.count c.args.number long (none-within _ _ _ _ c.clear.ensures)))

pub returns-clause-sound : goal.returns-clause-sound
returns-clause-sound c next sound =
    let b = c.get_mut-block.result.now in
    let long : length (bytes c.args.count c.args.number) ≡ c.args.count = length-map-range_with_len (λ k. Some (digit c.args.number k)) 0 c.args.count in
    rw c.write_number.ensures
    (sound-plain _ _ c.args.kept.now next c.args.place c.args.count b (bytes c.args.count c.args.number) sound c.requires.room c.get_mut-block.ensures.value long c.clear.ensures)
