use Rattle.std.proofs.Common.{subst}
use Rattle.run_names.proofs.OnValues.Refusals.{if_fault}
use Rattle.run_actions.specs.Hosts.Pieces.{IsPiece}
use Rattle.run_actions.proofs.OnHosts.Walked.{at_the_end, one_further, part_refused}
use Rattle.run_actions.proofs.hosts.pattern.put_pieces.Goals as goal

pub returns-in_err-next-clause-why : goal.returns-in_err-next-clause-why
returns-in_err-next-clause-why c =
    let f = c.args.format.now in
    if_fault c.from_residual.result _ _ c.from_residual.ensures.0 c.from_residual.ensures.1
    (part_refused c.args.memory.now f.pattern.now f.kinds.now f.arguments.now c.pieces.place c.args.written.now.items c.pieces.written.items c.in_err-next.field-0.0 c.pieces.invariant c.in_err-next.ensures.why)

pub pieces-preserved : goal.pieces-preserved
pieces-preserved c =
    let m = c.args.memory.now in
    let f = c.args.format.now in
    let h = c.in_ok-next.ensures.ok in
    one_further m f.pattern.now f.kinds.now f.arguments.now c.pieces.place c.in-Some.next c.args.written.now.items c.pieces.written.items c.put_piece.new.written.items h.0 c.pieces.invariant
    (subst (IsPiece m f.pattern.now f.kinds.now f.arguments.now c.pieces.place h.0) c.in-Some.is h.1) h.2

pub returns-in-None-clause-ok : goal.returns-in-None-clause-ok
returns-in-None-clause-ok c =
    let m = c.args.memory.now in
    let f = c.args.format.now in
    let h = c.in_ok-next.ensures.ok in
    at_the_end m f.pattern.now f.kinds.now f.arguments.now c.pieces.place c.args.written.now.items c.pieces.written.items c.put_piece.new.written.items h.0 c.pieces.invariant
    (subst (IsPiece m f.pattern.now f.kinds.now f.arguments.now c.pieces.place h.0) c.in-None.is h.1) h.2
