use Rattle.std.proofs.Common.{◌∙◌, arith}
use Rattle.std.specs.Ordering.{nat_cmp}
use Rattle.std.specs.BTreeMap as tree
use Rattle.ir_memory.proofs.OnPointers.Seen.{room_more}
use Rattle.ir_memory.proofs.pointers.slots.add_slots.Goals as goal

pub found-preserved : goal.found-preserved
found-preserved c =
    let i = c.found.invariant in
    let e = c.in-Some.ensures in
    record {
      low = omega (arith, i.low, e.within.0);
      high = omega (arith, e.within.1);
      room = room_more (tree.get nat_cmp c.args.found.now) (tree.get nat_cmp c.found.slots) (tree.get nat_cmp c.make_slot.new.slots) c.args.from c.found.next c.in-Some.met.0 i.room e.first c.in_ok-make_slot.ensures.room c.make_slot.ensures.stay;
      same = λ q. c.make_slot.ensures.same q ∙ i.same q;
    }
