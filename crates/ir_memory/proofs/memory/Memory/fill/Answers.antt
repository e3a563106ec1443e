use Rattle.std.proofs.Common.{◌∙◌, ap, sym, replicate, refl, Ok}
use Rattle.ir_memory.specs.declared.cell.Cell.TheVariants as cell
use Rattle.ir_memory.specs.Memory.{Blocks, put_at}
use Rattle.ir_memory.specs.Seen.{at, all_seen}
use Rattle.ir_memory.proofs.Answering.{undefined}
use Rattle.ir_memory.proofs.Known.{IsKept-filled}
use Rattle.ir_memory.proofs.Search.{AreStarts-filled}
use Rattle.ir_memory.proofs.memory.Memory.fill.Goals as goal

pub invariant_of-self : goal.invariant_of-self
invariant_of-self c =
    rw c.write_many.ensures.value (
      IsKept-filled (all_seen (at c.self.inside.pieces) c.self.inside.kept) c.self.inside.next c.self.inside.live _ c.args.count c.args.byte c.self.invariant.0,
      AreStarts-filled _ _ c.args.count c.args.byte (all_seen (at c.self.inside.pieces) c.self.inside.kept) c.self.invariant.1,
      c.write_many.ensures.sound _ c.self.invariant.2,
      c.self.invariant.3,
    )

pub returns-clause-answer : goal.returns-clause-answer
returns-clause-answer c =
    let self = c.self.inside in
    let m : Blocks = record { list = all_seen (at self.pieces) self.kept; next = self.next; sealed = self.sealed } in
    rw (← c.self.view_is) (ap (put_at m (replicate c.args.count (cell.Byte c.args.byte))) (c.in_ok-place.ensures.value self.next) ∙ ap (λ bs. Ok (record m { list = bs })) (sym c.write_many.ensures.value))

pub returns-in_err-place-clause-answer : goal.returns-in_err-place-clause-answer
returns-in_err-place-clause-answer c =
    let self = c.self.inside in
    let m : Blocks = record { list = all_seen (at self.pieces) self.kept; next = self.next; sealed = self.sealed } in
    undefined _ _ _ c.from_residual.result _ c.from_residual.ensures.0 c.from_residual.ensures.1 (rw (← c.self.view_is) (ap (put_at m (replicate c.args.count (cell.Byte c.args.byte))) (c.in_err-place.ensures.value self.next))) refl
