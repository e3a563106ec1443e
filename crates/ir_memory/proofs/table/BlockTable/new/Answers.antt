use Rattle.std.proofs.Common.{refl, sym, subst, arith}
use Rattle.ir_memory.specs.Numbered.{IsPaged}
use Rattle.ir_memory.proofs.table.BlockTable.new.Goals as goal

pub invariant_of-result : goal.invariant_of-result
invariant_of-result c = (c.ended.ensures, subst (IsPaged 0) (sym c.new.ensures.items) (record { enough = omega arith; few = omega arith; last = refl }))
