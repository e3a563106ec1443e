use Rattle.std.proofs.Common.{◌+◌, ◌*◌, map, take}
use Rattle.type_table.specs.Types.{tree}
use Rattle.record_write.specs.Order.Order.{Notes}
use Rattle.record_write.proofs.OnOrder.Noting.{top}
use Rattle.record_write.proofs.order.order.TypeOrder.+noting.Given as goal

abbrev pub decreases-note : goal.decreases-note
decreases-note l = 2 * l.ty + 1

abbrev pub decreases-note_all : goal.decreases-note_all
decreases-note_all l = 2 * top l.types.now

-- the types so far are mentioned
abbrev pub invariant-note_all-loop-ty : goal.invariant-note_all-loop-ty
invariant-note_all-loop-ty l = Notes l.fn.self l.self (map (tree l.fn.self.types) (take l.ty-index l.types))
