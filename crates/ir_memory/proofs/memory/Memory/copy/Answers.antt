use Rattle.std.proofs.Common.{◌∙◌, ap, sym, subst, refl, true, Ok}
use Rattle.std.specs.Prelude.{IsOk}
use Rattle.ir_memory.specs.Memory.{Blocks, access, copied_at}
use Rattle.ir_memory.specs.Seen.{at, all_seen}
use Rattle.ir_memory.proofs.Known.{IsKept-copied}
use Rattle.ir_memory.proofs.Search.{AreStarts-copied}
use Rattle.ir_memory.proofs.Fills.{copied-some}
use Rattle.ir_memory.proofs.Answering.{undefined, wanting, copied-refused, copied-overlap, copied-ok}
use Rattle.ir_memory.proofs.memory.Memory.copy.Goals as goal

pub returns-in_err-source-clause-answer : goal.returns-in_err-source-clause-answer
returns-in_err-source-clause-answer c =
    let self = c.self.inside in
    let m : Blocks = record { list = all_seen (at self.pieces) self.kept; next = self.next; sealed = self.sealed } in
    let e = copied-some c.args.to c.args.from c.args.count c.args.may_overlap m c.if-count-eq0.false ∙ ap (λ s. copied_at m c.args.count c.args.may_overlap s (access m c.args.count 1 true c.args.to)) (c.in_err-source.ensures.value self.next) in
    undefined _ _ _ c.from_residual.result _ c.from_residual.ensures.0 c.from_residual.ensures.1 (rw (← c.self.view_is) e) refl

pub returns-in_err-target-clause-answer : goal.returns-in_err-target-clause-answer
returns-in_err-target-clause-answer c =
    let self = c.self.inside in
    let m : Blocks = record { list = all_seen (at self.pieces) self.kept; next = self.next; sealed = self.sealed } in
    let source = c.in_ok-source.source in
    let from = c.from_residual-in_err-target in
    let e = copied-refused m c.args.to c.args.from c.args.count c.args.may_overlap source source _ c.if-count-eq0.false (c.in_ok-source.ensures.value self.next) refl _ (c.in_err-target.ensures.value self.next) in
    undefined _ _ _ from.result _ from.ensures.0 from.ensures.1 (rw (← c.self.view_is) e) refl

pub returns-then-meets-clause-answer : goal.returns-then-meets-clause-answer
returns-then-meets-clause-answer c =
    let self = c.self.inside in
    let m : Blocks = record { list = all_seen (at self.pieces) self.kept; next = self.next; sealed = self.sealed } in
    let e = copied-overlap m c.args.to c.args.from c.args.count c.args.may_overlap c.in_ok-source.source c.in_ok-target.target _ c.if-count-eq0.false (c.in_ok-source.ensures.value self.next) c.meets.ensures (c.in_ok-target.ensures.value self.next) c.if-meets.true in
    (rw (← c.self.view_is) e, refl)

pub returns-in_err-copy_cells-clause-answer : goal.returns-in_err-copy_cells-clause-answer
returns-in_err-copy_cells-clause-answer c =
    let self = c.self.inside in
    let m : Blocks = record { list = all_seen (at self.pieces) self.kept; next = self.next; sealed = self.sealed } in
    let from = c.from_residual-in_err-copy_cells in
    let e = copied-ok m c.args.to c.args.from c.args.count c.args.may_overlap c.in_ok-source.source c.in_ok-target.target _ c.if-count-eq0.false (c.in_ok-source.ensures.value self.next) c.meets.ensures (c.in_ok-target.ensures.value self.next) c.if-meets.false in
    wanting _ _ _ from.result from.ensures.0 from.ensures.1
    (rw (← c.self.view_is) (subst (λ r. IsOk r) (sym e) refl))
    (ap (λ bs. record m { list = bs }) c.in_err-copy_cells.ensures.err ∙ c.self.view_is)

pub invariant_of-self-2 : goal.invariant_of-self-2
invariant_of-self-2 c =
    rw c.in_ok-copy_cells.ensures.value (
      IsKept-copied (all_seen (at c.self.inside.pieces) c.self.inside.kept) c.self.inside.next c.self.inside.live _ _ c.args.count c.self.invariant.0,
      AreStarts-copied _ _ _ c.args.count (all_seen (at c.self.inside.pieces) c.self.inside.kept) c.self.invariant.1,
      c.copy_cells.ensures.sound _ c.self.invariant.2,
      c.self.invariant.3,
    )

pub returns-clause-answer : goal.returns-clause-answer
returns-clause-answer c =
    let self = c.self.inside in
    let m : Blocks = record { list = all_seen (at self.pieces) self.kept; next = self.next; sealed = self.sealed } in
    let e = copied-ok m c.args.to c.args.from c.args.count c.args.may_overlap c.in_ok-source.source c.in_ok-target.target _ c.if-count-eq0.false (c.in_ok-source.ensures.value self.next) c.meets.ensures (c.in_ok-target.ensures.value self.next) c.if-meets.false in
    rw (← c.self.view_is) (e ∙ ap (λ bs. Ok (record m { list = bs })) (sym c.in_ok-copy_cells.ensures.value))
