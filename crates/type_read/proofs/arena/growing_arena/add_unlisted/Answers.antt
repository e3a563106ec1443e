use Rattle.std.proofs.Common.{length, ap, ◌∙◌}
use Rattle.type_table.specs.Types.{Types}
use Rattle.type_read.proofs.OnArena.Kept.{over_growing}
use Rattle.type_read.proofs.arena.growing_arena.add_unlisted.Goals as goal

pub returns-clause-growing : goal.returns-clause-growing
returns-clause-growing c =
    over_growing c.args.arena.now c.add_type.new.arena c.add_type-2.new.arena
    c.type_count-types.result c.in_ok-pointer.pointer c.in_ok-bit.bit
    (c.type_count-types.ensures.count ∙ ap (λ (t : Types). length t.types) c.types.ensures)
    c.in_ok-pointer.ensures.ok c.in_ok-pointer.ensures.id c.in_ok-bit.ensures.ok
    c.in_ok-bit.ensures.id
