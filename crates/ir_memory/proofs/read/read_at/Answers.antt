use Rattle.std.proofs.Common.{◌≡◌, ◌∙◌, ◌+◌, Some, ap, refl, subst, sym, length, arith}
use Rattle.std.specs.Prelude.{slice_range}
use Rattle.std.proofs.lemmas.List.Edits.{length-between}
use Rattle.ir_memory.specs.Masked.Masked as masked
use Rattle.ir_memory.specs.declared.leaf.Leaf.{Leaf}
use Rattle.ir_memory.specs.declared.leaf.Leaf.TheVariants as leaf
use Rattle.ir_memory.specs.Cell.{read, size}
use Rattle.ir_memory.specs.Memory.{cells_at}
use Rattle.ir_memory.specs.Seen.{all_seen, at, of_number}
use Rattle.ir_memory.proofs.Writes.{room-bytes, room-small, cells-within, cells-there, plain_cells, read-plain}
use Rattle.ir_memory.proofs.read.read_at.Goals as goal

pub overflow_add-from : goal.overflow_add-from
overflow_add-from c = let small = room-small _ c.args.kept.now _ c.args.place (size c.args.leaf) _ c.requires.sound.1 c.requires.room c.get-block.ensures in omega (arith, small)

pub overflow_add-from-2 : goal.overflow_add-from-2
overflow_add-from-2 c = let small = room-small _ c.args.kept.now _ c.args.place (size c.args.leaf) _ c.requires.sound.1 c.requires.room c.get-block.ensures in omega (arith, small, c.size-count.ensures.value)

pub read_pieces-requires-clause-small : goal.read_pieces-requires-clause-small
read_pieces-requires-clause-small c = let small = room-small _ c.args.kept.now _ c.args.place (size c.args.leaf) _ c.requires.sound.1 c.requires.room c.get-block.ensures in omega (arith, small)

pub read_pointer-requires : goal.read_pointer-requires
read_pointer-requires c =
    let eight : size c.args.leaf ≡ 8 = ap size (c.if-may_point.ensures refl) in
    let small = room-small _ c.args.kept.now _ c.args.place (size c.args.leaf) _ c.requires.sound.1 c.requires.room c.get-block.ensures in
    let within = room-bytes _ c.args.kept.now _ c.args.place (size c.args.leaf) _ c.requires.sound.1 c.requires.room c.get-block.ensures in
    record { within = omega (arith, within, eight); small = omega (arith, small, eight) }

pub returns-then-may_point : goal.returns-then-may_point
returns-then-may_point c =
    let p = at c.args.pieces.now in
    let kept = c.args.kept.now in
    subst (λ (l : Leaf). c.read_pointer.result ≡ read l (cells_at (all_seen p kept) (size l) (Some c.args.place))) (sym (c.if-may_point.ensures refl))
    (c.read_pointer.ensures ∙ ap (read leaf.Ptr) (sym (cells-within p kept c.args.place 8 _ c.requires.room.index c.get-block.ensures)))

pub returns-then-has_pieces : goal.returns-then-has_pieces
returns-then-has_pieces c = c.read_pieces.ensures ∙ ap (read c.args.leaf) (sym (cells-within (at c.args.pieces.now) c.args.kept.now c.args.place (size c.args.leaf) _ c.requires.room.index c.get-block.ensures))

pub returns : goal.returns
returns c =
    let b = c.get-block.result.now in
    let within = room-bytes _ c.args.kept.now _ c.args.place (size c.args.leaf) _ c.requires.sound.1 c.requires.room c.get-block.ensures in
    let l = length-between b.bytes c.args.place.offset (c.args.place.offset + size c.args.leaf) within in
    let long : length (slice_range b.bytes c.args.place.offset (c.args.place.offset + size c.args.leaf)) ≡ size c.args.leaf = omega (arith, l) in
    c.value_of.ensures
    ∙ ap (of_number c.args.leaf) (c.number.ensures.value ∙ ap (λ n. masked.number_of (slice_range b.bytes c.args.place.offset (c.args.place.offset + n))) c.size-count.ensures.value)
    ∙ read-plain c.args.leaf (slice_range b.bytes c.args.place.offset (c.args.place.offset + size c.args.leaf))
    ∙ ap (read c.args.leaf) (sym
    (cells-there (at c.args.pieces.now) c.args.kept.now c.args.place (size c.args.leaf) b c.requires.room.index c.get-block.ensures
    ∙ plain_cells (at c.args.pieces.now) (b.start + c.args.place.offset) (size c.args.leaf) _ long (λ a low high. c.has_pieces.ensures.none c.if-has_pieces.false a low (omega (arith, high, c.size-count.ensures.value)))))
