use Rattle.std.proofs.Common.{◌∙◌, sym, get_or, arith}
use Rattle.ir_lexer.proofs.Placing.{next_near}
use Rattle.ir_lexer.proofs.Walks.{place_step, place_at_end}
use Rattle.ir_lexer.proofs.place.place_behind.Goals as goal

pub loop-byte-preserved : goal.loop-byte-preserved
loop-byte-preserved c =
    let l = c.loop-byte in
    let s = c.args.bytes.now in
    let i = l.invariant in
    let near = next_near l.here (get_or s l.byte-index 0) i.first in
    let step = c.next_place-here.ensures in
    record {
      line_in = rw step (omega (arith, near.line, i.line_in));
      column_in = rw step (omega (arith, near.column, i.column_in));
      first = rw step near.first;
      place = rw step (i.place ∙ place_step l.here s l.byte-index c.loop-byte-test.true);
    }

pub returns : goal.returns
returns c = sym (c.loop-byte.invariant.place ∙ place_at_end c.loop-byte.here c.args.bytes.now c.loop-byte.byte-index c.loop-byte-test.false)
