use Rattle.std.proofs.Common.{◌∙◌, ap, sym, length, Some, Ok}
use Rattle.ir_memory.specs.Cell.{size}
use Rattle.ir_memory.specs.Memory.{Blocks, cells_at, read_at}
use Rattle.ir_memory.specs.Seen.{at, all_seen}
use Rattle.ir_memory.proofs.Answering.{refused}
use Rattle.ir_memory.proofs.Known.{known-read, known-cells_of}
use Rattle.ir_memory.proofs.memory.Memory.load.Goals as goal

pub returns-in_err-place-clause-value : goal.returns-in_err-place-clause-value
returns-in_err-place-clause-value c =
    let self = c.self.inside in
    let m : Blocks = record { list = all_seen (at self.pieces) self.kept; next = self.next; sealed = self.sealed } in
    let there = rw c.size.ensures.value at (c.in_err-place.ensures.value self.next) in
    rw (← c.self.view_is) (refused c.from_residual.result _ c.from_residual.ensures.0 c.from_residual.ensures.1 ∙ sym (ap (read_at m c.args.leaf) there))

pub returns-clause-value : goal.returns-clause-value
returns-clause-value c =
    let self = c.self.inside in
    let m : Blocks = record { list = all_seen (at self.pieces) self.kept; next = self.next; sealed = self.sealed } in
    let there = rw c.size.ensures.value at (c.in_ok-place.ensures.value self.next) in
    rw (← c.self.view_is) (ap Ok c.read_at.ensures ∙ sym (ap (read_at m c.args.leaf) there))

pub returns-clause-known : goal.returns-clause-known
returns-clause-known c =
    let self = c.self.inside in
    let place = c.in_ok-place.place in
    let blocks = all_seen (at self.pieces) self.kept in
    rw (c.read_at.ensures, ← c.self.view_is) (known-read blocks c.args.leaf (cells_at blocks (size c.args.leaf) (Some place)) (known-cells_of (length blocks) (size c.args.leaf) place.offset blocks place.index c.self.invariant.0.4))
