use Rattle.std.proofs.Common.{length, drop, arith, length-drop}
use Rattle.ir_base.proofs.Pieces.{rest_whole}
use Rattle.ir_lexer.proofs.Placing.{room}
use Rattle.ir_lexer.proofs.lexer.Lexer.gap.Goals as goal

pub gap_of-requires-clause-line : goal.gap_of-requires-clause-line
gap_of-requires-clause-line c =
    let r = c.self.inside in
    let s = r.text.now in
    let i = c.self.invariant in
    let size = length-drop r.at s in
    let has = room s r.at (length (drop r.at s)) r.place i.2 (omega (arith, i.0, size)) i.1 in
    rw (rest_whole r.at s) has.line

pub gap_of-requires-clause-column :
    goal.gap_of-requires-clause-column
gap_of-requires-clause-column c =
    let r = c.self.inside in
    let s = r.text.now in
    let i = c.self.invariant in
    let size = length-drop r.at s in
    let has = room s r.at (length (drop r.at s)) r.place i.2 (omega (arith, i.0, size)) i.1 in
    rw (rest_whole r.at s) has.column

pub gap_of-requires-clause-first : goal.gap_of-requires-clause-first
gap_of-requires-clause-first c =
    let r = c.self.inside in
    let i = c.self.invariant in
    (room r.text.now r.at 0 r.place i.2 (omega (arith, i.0)) i.1).first
