use Rattle.std.proofs.Common.{◌≡◌, ◌+◌, ◌≤◌, length, take, drop, true, false, ap, ◌∙◌, arith, length-drop}
use Rattle.ir_base.proofs.Pieces.{rest_whole}
use Rattle.ir_base.specs.declared.place.Place.{Place}
use Rattle.ir_lexer.specs.Class.{in_line}
use Rattle.ir_lexer.specs.Form.{each}
use Rattle.ir_lexer.specs.Gap.{gap_length}
use Rattle.ir_lexer.specs.Place.{place_after}
use Rattle.ir_lexer.proofs.Lines.{front_in_line}
use Rattle.ir_lexer.proofs.Placing.{room}
use Rattle.ir_lexer.proofs.lexer.Lexer.space.Goals as goal

pub place_in_line-requires : goal.place_in_line-requires
place_in_line-requires c =
    let r = c.self.inside in
    let s = r.text.now in
    let i = c.self.invariant in
    let n = c.first_space-space.result in
    let fits : n ≤ length (drop r.at s) = rw (rest_whole r.at s) at c.first_space-space.ensures.in_bytes in
    (room s r.at n r.place i.2 (omega (arith, fits, i.0, length-drop r.at s)) i.1).column

pub returns-clause-gap : goal.returns-clause-gap
returns-clause-gap c =
    let r = c.self.inside in
    let s = r.text.now in
    let n = c.first_space-space.result in
    let split : gap_length false (drop r.at s) ≡ n + gap_length false (drop n (drop r.at s)) = rw (rest_whole r.at s) at c.first_space-space.ensures.gap in
    rw (← c.self.view_is) split

pub returns-clause-in_rest : goal.returns-clause-in_rest
returns-clause-in_rest c =
    let r = c.self.inside in
    let s = r.text.now in
    let fits : c.first_space-space.result ≤ length (drop r.at s) = rw (rest_whole r.at s) at c.first_space-space.ensures.in_bytes in
    rw (← c.self.view_is) fits

pub returns-clause-place : goal.returns-clause-place
returns-clause-place c =
    let r = c.self.inside in
    let s = r.text.now in
    let n = c.first_space-space.result in
    let next = c.place_in_line.result in
    let fits : n ≤ length (drop r.at s) = rw (rest_whole r.at s) at c.first_space-space.ensures.in_bytes in
    let line : each in_line (take n (drop r.at s)) ≡ true = rw (rest_whole r.at s) at c.first_space-space.ensures.in_line in
    let there : next ≡ place_after r.place (take n (drop r.at s)) = front_in_line r.place next (drop r.at s) n fits line c.place_in_line.ensures in
    rw (← c.self.view_is) (there ∙ ap (λ (p : Place). place_after p (take n (drop r.at s))) c.self.invariant.2)
