use Rattle.std.proofs.Common.{◌+◌, ◌≤◌, ◌^◌, ◌<◌, ℕ, List, length, sym, subst}
use Rattle.ir_memory.specs.Memory.{live_bytes}
use Rattle.ir_memory.specs.Plain.{LoadsBytes}
use Rattle.ir_memory.specs.Seen.{at, all_seen}
use Rattle.ir_memory.proofs.PlainBytes.{offset_within, plain_ends, plain_few, plain_loads}
use Rattle.ir_memory.proofs.memory.Memory.plain_bytes.Goals as goal

pub bytes_from-requires : goal.bytes_from-requires
bytes_from-requires c =
    let self = c.self.inside in
    offset_within (at self.pieces) self.kept self.next c.self.invariant.2 c.args.pointer c.in_ok-index.index c.get-block.result.now c.in_ok-bytes.bytes.now (rw (← c.self.view_is) at c.requires) c.in_ok-index.was c.get-block.ensures c.if-block.false
    (sym c.if-not-is_home.ensures) c.in_ok-bytes.ensures

pub returns-clause-loads : goal.returns-clause-loads
returns-clause-loads c =
    let self = c.self.inside in
    rw (← c.self.view_is)
    (subst (λ (bytes : List ℕ). LoadsBytes (record { list = all_seen (at self.pieces) self.kept; next = self.next; sealed = self.sealed }) c.args.pointer bytes) (sym c.bytes_from.ensures.value)
    (plain_loads (at self.pieces) self.kept self.next c.self.invariant.2 c.args.pointer c.in_ok-index.index c.get-block.result.now c.in_ok-bytes.bytes.now (rw (← c.self.view_is) at c.requires) c.in_ok-index.was c.get-block.ensures c.if-block.false
    (sym c.if-not-is_home.ensures) c.in_ok-bytes.ensures c.bytes_from.ensures.fits self.next self.sealed))

pub returns-clause-within : goal.returns-clause-within
returns-clause-within c =
    let self = c.self.inside in
    subst (λ (bytes : List ℕ). c.args.pointer.address + length bytes < 2 ^ 64) (sym c.bytes_from.ensures.value)
    (plain_ends (at self.pieces) self.kept self.next c.self.invariant.2 c.args.pointer c.in_ok-index.index c.get-block.result.now c.in_ok-bytes.bytes.now (rw (← c.self.view_is) at c.requires) c.in_ok-index.was c.get-block.ensures c.if-block.false
    (sym c.if-not-is_home.ensures) c.in_ok-bytes.ensures)

pub returns-clause-few : goal.returns-clause-few
returns-clause-few c =
    let self = c.self.inside in
    rw (← c.self.view_is)
    (subst (λ (bytes : List ℕ). length bytes ≤ live_bytes (all_seen (at self.pieces) self.kept)) (sym c.bytes_from.ensures.value)
    (plain_few (at self.pieces) self.kept self.next c.self.invariant.2 c.args.pointer c.in_ok-index.index c.get-block.result.now c.in_ok-bytes.bytes.now (rw (← c.self.view_is) at c.requires) c.in_ok-index.was c.get-block.ensures c.if-block.false
    (sym c.if-not-is_home.ensures) c.in_ok-bytes.ensures))
