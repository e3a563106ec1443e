use Rattle.std.proofs.Common.{flat_map, take}
use Rattle.record_write.specs.Order.Written.{in_type, Goes}
use Rattle.record_write.proofs.order.entries.note_parameters.Given as goal

abbrev pub invariant-loop-parameter : goal.invariant-loop-parameter
invariant-loop-parameter l = Goes l.arena l.fn.order l.order (flat_map (λ p. in_type l.arena p.ty) (take l.parameter-index l.parameters))
