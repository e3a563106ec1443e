use Rattle.std.proofs.Common.{◌≡◌, ◌+◌, ◌≤◌, ◌∙◌, sym, length, drop, take, arith, length-drop}
use Rattle.ir_lexer.specs.Place.{place_of, place_after}
use Rattle.ir_lexer.proofs.KnownRuns.{known_further}
use Rattle.ir_lexer.proofs.Placing.{place_on}
use Rattle.ir_lexer.proofs.lexer.Lexer.advance.Goals as goal

pub invariant_of-self : goal.invariant_of-self
invariant_of-self c =
    let r = c.self.inside in
    let s = r.text.now in
    let i = c.self.invariant in
    let room : c.args.n ≤ length (drop r.at s) = rw (← c.self.view_is) at c.requires.within in
    let there : c.args.place ≡ place_after (place_of s r.at) (take c.args.n (drop r.at s)) = rw (← c.self.view_is) at c.requires.place in
    let all = length-drop r.at s in
    let in_text : r.at + c.args.n ≤ length s = omega (arith, i.0) in
    (in_text, i.1, there ∙ sym (place_on r.at c.args.n s), i.3, known_further c.args.n r.at r.known s i.4)
