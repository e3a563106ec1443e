use Rattle.std.proofs.Common.{◌≡◌, ◌-◌, ◌+◌, ◌≤◌, length, drop, arith, length-drop}
use Rattle.std.proofs.lemmas.List.{length-take-le}
use Rattle.ir_lexer.proofs.Placing.{room}
use Rattle.ir_lexer.proofs.lexer.Lexer.take.Goals as goal

pub place_behind_token-behind-requires-clause-line :
    goal.place_behind_token-behind-requires-clause-line
place_behind_token-behind-requires-clause-line c =
    let r = c.self.inside in
    let s = r.text.now in
    let i = c.self.invariant in
    let fits : c.args.count ≤ length (drop r.at s) = rw (← c.self.view_is) at c.requires.within in
    let has = room s r.at c.args.count r.place i.2 (omega (arith, i.0, fits, length-drop r.at s)) i.1 in
    let n : r.at + c.args.count - r.at ≡ c.args.count = omega arith in
    rw (n, length-take-le c.args.count (drop r.at s) fits) has.line

pub place_behind_token-behind-requires-clause-column :
    goal.place_behind_token-behind-requires-clause-column
place_behind_token-behind-requires-clause-column c =
    let r = c.self.inside in
    let s = r.text.now in
    let i = c.self.invariant in
    let fits : c.args.count ≤ length (drop r.at s) = rw (← c.self.view_is) at c.requires.within in
    let has = room s r.at c.args.count r.place i.2 (omega (arith, i.0, fits, length-drop r.at s)) i.1 in
    let n : r.at + c.args.count - r.at ≡ c.args.count = omega arith in
    rw (n, length-take-le c.args.count (drop r.at s) fits) has.column

pub place_behind_token-behind-requires-clause-first :
    goal.place_behind_token-behind-requires-clause-first
place_behind_token-behind-requires-clause-first c =
    let r = c.self.inside in
    let i = c.self.invariant in
    (room r.text.now r.at 0 r.place i.2 (omega (arith, i.0)) i.1).first
