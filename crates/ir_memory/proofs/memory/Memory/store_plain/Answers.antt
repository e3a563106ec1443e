use Rattle.ir_memory.specs.Cell.{bytes}
use Rattle.ir_memory.specs.Memory.{Blocks}
use Rattle.ir_memory.specs.Seen.{at, all_seen}
use Rattle.ir_memory.proofs.Plain.{IsKept-bytes, stored-there}
use Rattle.ir_memory.proofs.Search.{AreStarts-written}
use Rattle.ir_memory.proofs.memory.Memory.store_plain.Goals as goal

pub invariant_of-self : goal.invariant_of-self
invariant_of-self c =
    let self = c.self.inside in
    let place = c.in-Some.place in
    let blocks = all_seen (at self.pieces) self.kept in
    rw c.write_number.ensures.value (
      IsKept-bytes blocks self.next self.live place c.args.count c.args.number c.self.invariant.0,
      AreStarts-written self.starts.items place.index place.offset (bytes c.args.count c.args.number) blocks c.self.invariant.1,
      c.write_number.ensures.sound _ c.self.invariant.2,
      c.self.invariant.3,
    )

pub returns-clause-stored : goal.returns-clause-stored
returns-clause-stored c = λ done.
    let self = c.self.inside in
    let m : Blocks = record { list = all_seen (at self.pieces) self.kept; next = self.next; sealed = self.sealed } in
    rw (← c.self.view_is)
    (stored-there m c.in-Some.place c.args.count c.args.align c.args.number c.args.pointer _ (c.in-Some.ensures.value self.next self.sealed) c.write_number.ensures.value)
