use Rattle.std.proofs.Common.{flat_map, take}
use Rattle.record_write.specs.Order.Written.{in_alias_type, Goes}
use Rattle.record_write.proofs.order.entries.note_aliases.Given as goal

abbrev pub invariant-loop-number : goal.invariant-loop-number
invariant-loop-number l = Goes l.arena l.fn.order l.order (flat_map (λ x. in_alias_type l.arena x.ty) (take l.number l.arena.aliases))
