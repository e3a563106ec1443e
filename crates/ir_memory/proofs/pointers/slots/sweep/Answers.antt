use Rattle.std.proofs.Common.{◌∙◌, refl, sym, subst, arith}
use Rattle.std.specs.Prelude.{IsSome}
use Rattle.std.specs.Ordering.{nat_cmp}
use Rattle.std.specs.BTreeMap as tree
use Rattle.ir_memory.proofs.OnPointers.Seen.{left_same}
use Rattle.ir_memory.proofs.pointers.slots.sweep.Goals as goal

pub slots-init : goal.slots-init
slots-init c = record { low = omega arith; high = c.end_of-end.ensures.order; same = λ q. refl }

pub leave-requires : goal.leave-requires
leave-requires c = subst IsSome (sym c.in-Some.ensures.here) refl

pub slots-preserved : goal.slots-preserved
slots-preserved c =
    let i = c.slots.invariant in
    let e = c.in-Some.ensures in
    let met = c.in-Some.met in
    record {
      low = omega (arith, i.low, e.within.0);
      high = omega (arith, e.within.1);
      same = λ q. left_same (tree.get nat_cmp c.slots.slots) (tree.get nat_cmp c.leave.new.slots) met.0 met.1 e.here c.leave.ensures.here c.leave.ensures.others q ∙ i.same q;
    }

pub returns : goal.returns
returns c = c.slots.invariant.same
