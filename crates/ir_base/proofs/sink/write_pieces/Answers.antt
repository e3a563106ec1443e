use Rattle.std.proofs.Common.{arith, ◌∙◌, ◌+◌, drop}
use Rattle.ir_base.specs.Outside.{joined}
use Rattle.ir_base.proofs.Pieces.{wrote_front, wrote_more, added_more, joined_more, joined_split}
use Rattle.ir_base.proofs.sink.write_pieces.Goals as goal

pub writing-preserved : goal.writing-preserved
writing-preserved g c =
    let more = joined_more c.args.pieces.now c.writing.at _ c.writing-test.true in
    record {
      within = omega arith;
      added = rw more (added_more _ _ _ _ _ c.writing.invariant.added c.in_ok-write_all.ensures.ok);
      fine = c.in_ok-write_all.ensures.fine ∙ c.writing.invariant.fine;
    }

pub returns-in_err-write_all-clause-wrote : goal.returns-in_err-write_all-clause-wrote
returns-in_err-write_all-clause-wrote g c =
    let split = joined_split c.args.pieces.now c.writing.at _ c.writing-test.true in
    let front = wrote_front _ _ _ _ _ (joined (drop (c.writing.at + 1) c.args.pieces.now)) c.in_err-write_all.ensures.rose c.write_all.ensures.wrote in
    rw split (wrote_more _ _ _ _ _ _ _ c.writing.invariant.added (rw c.writing.invariant.fine at front))
