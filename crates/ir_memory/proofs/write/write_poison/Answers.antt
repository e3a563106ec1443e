use Rattle.std.proofs.Common.{arith, ◌+◌, ◌≡◌, length, None, replicate}
use Rattle.std.specs.Prelude.{Option, ℕ}
use Rattle.std.proofs.lemmas.List.{length-replicate}
use Rattle.ir_memory.proofs.Writes.{room-bytes, room-small, room-unmixed, none-within, seen-plain, sound-plain, cells-many}
use Rattle.ir_memory.proofs.write.write_poison.Goals as goal

pub overflow_add-from : goal.overflow_add-from
overflow_add-from c = let small = room-small _ c.args.kept.now _ c.args.place c.args.count _ c.requires.sound.1 c.requires.room c.get_mut-block.ensures.value in omega (arith, small)

pub overflow_add-from-2 : goal.overflow_add-from-2
overflow_add-from-2 c = let small = room-small _ c.args.kept.now _ c.args.place c.args.count _ c.requires.sound.1 c.requires.room c.get_mut-block.ensures.value in omega (arith, small)

pub clear-requires-clause-unmixed : goal.clear-requires-clause-unmixed
clear-requires-clause-unmixed c = room-unmixed _ c.args.kept.now _ c.args.place c.args.count _ c.requires.sound.1 c.requires.room c.get_mut-block.ensures.value

pub poison-requires : goal.poison-requires
poison-requires c = room-bytes _ c.args.kept.now _ c.args.place c.args.count _ c.requires.sound.1 c.requires.room c.get_mut-block.ensures.value

pub returns-clause-value : goal.returns-clause-value
returns-clause-value c =
    let b = c.get_mut-block.result.now in
    let long : length (replicate {A = Option ℕ} c.args.count None) ≡ c.args.count = length-replicate {A = Option ℕ} c.args.count None in
    rw c.poison.ensures
    (seen-plain _ _ c.args.kept.now _ c.args.place c.args.count b (replicate {A = Option ℕ} c.args.count None) c.requires.sound.1 c.requires.room c.get_mut-block.ensures.value long c.clear.ensures _
    (cells-many _ (b.start + c.args.place.offset) c.args.count None long (none-within _ _ _ _ c.clear.ensures)))

pub returns-clause-sound : goal.returns-clause-sound
returns-clause-sound c next sound =
    let b = c.get_mut-block.result.now in
    let long : length (replicate {A = Option ℕ} c.args.count None) ≡ c.args.count = length-replicate {A = Option ℕ} c.args.count None in
    rw c.poison.ensures
    (sound-plain _ _ c.args.kept.now next c.args.place c.args.count b (replicate {A = Option ℕ} c.args.count None) sound c.requires.room c.get_mut-block.ensures.value long c.clear.ensures)
