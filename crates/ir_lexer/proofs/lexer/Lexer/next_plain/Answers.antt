use Rattle.std.proofs.Common.{◌≡◌, ◌+◌, ◌≤◌, length, drop, take, Some, true, false, sym, arith, length-drop}
use Rattle.std.proofs.lemmas.List.{drop-drop}
use Rattle.ir_base.proofs.Pieces.{rest_whole}
use Rattle.ir_lexer.specs.Class.{in_line}
use Rattle.ir_lexer.specs.Form.{each}
use Rattle.ir_lexer.specs.Front.{next_token}
use Rattle.ir_lexer.specs.Gap.{gap_length}
use Rattle.ir_lexer.specs.Lines.{has_string_in}
use Rattle.ir_lexer.specs.Place.{place_of, place_after}
use Rattle.ir_lexer.proofs.Answered.{plain_answered, plain_behind}
use Rattle.ir_lexer.proofs.Gaps.{token_no_gap}
use Rattle.ir_lexer.proofs.Lexes.{front_fits, front_spelled}
use Rattle.ir_lexer.proofs.Lines.{token_in_line}
use Rattle.ir_lexer.proofs.Placing.{place_on, room}
use Rattle.ir_lexer.proofs.lexer.Lexer.next_plain.Goals as goal
use Rattle.ir_lexer.proofs.lexer.Lexer.next_plain.Goals.{In_ok-kind}

-- the place behind the gap
gap_place : (c : In_ok-kind) → c.space-gap.result.1 ≡ place_after (place_of c.self.inside.text.now c.self.inside.at) (take c.space-gap.result.0 (drop c.self.inside.at c.self.inside.text.now))
gap_place c = rw (← c.self.view_is) at c.space-gap.ensures.place

-- the token behind the gap
found : (c : In_ok-kind) → Some (c.in_ok-kind.kind, c.in_ok-kind.count) ≡ next_token (drop c.space-gap.result.0 (drop c.self.inside.at c.self.inside.text.now))
found c =
    let r = c.self.inside in
    let s = r.text.now in
    let gap = c.space-gap.result.0 in
    rw (drop-drop gap r.at s) (rw (rest_whole (r.at + gap) s) at c.in_ok-kind.ensures.token)

-- it lies in the text
fits : (c : In_ok-kind) → c.space-gap.result.0 + c.in_ok-kind.count ≤ length (drop c.self.inside.at c.self.inside.text.now)
fits c =
    let rest = drop c.self.inside.at c.self.inside.text.now in
    let gap = c.space-gap.result.0 in
    let room : gap ≤ length rest = rw (← c.self.view_is) at c.space-gap.ensures.in_rest in
    let in_rest : c.in_ok-kind.count ≤ length (drop gap rest) = front_fits (drop gap rest) (Some (c.in_ok-kind.kind, c.in_ok-kind.count)) (found c) in
    omega (arith, room, in_rest, length-drop gap rest)

-- in one line
in_one_line : (c : In_ok-kind) → each in_line (take c.in_ok-kind.count (drop c.space-gap.result.0 (drop c.self.inside.at c.self.inside.text.now))) ≡ true
in_one_line c =
    let r = c.self.inside in
    let s = r.text.now in
    let gap = c.space-gap.result.0 in
    let kind = c.in_ok-kind.kind in
    let bytes = take c.in_ok-kind.count (drop gap (drop r.at s)) in
    let plain : has_string_in kind bytes ≡ false = rw (drop-drop gap r.at s) (rw (rest_whole (r.at + gap) s) at c.in_ok-kind.ensures.plain) in
    token_in_line kind bytes (front_spelled (drop gap (drop r.at s)) (Some (kind, c.in_ok-kind.count)) (found c)) plain

pub overflow_add-gap : goal.overflow_add-gap
overflow_add-gap c =
    let at = (goal.at.overflow_add-gap c).In_ok-kind in
    let r = c.self.inside in
    let i = c.self.invariant in
    omega (arith, fits at, length-drop r.at r.text.now, i.0, i.1)

pub place_in_line-requires : goal.place_in_line-requires
place_in_line-requires c =
    let at = (goal.at.place_in_line-requires c).In_ok-kind in
    let r = c.self.inside in
    let s = r.text.now in
    let i = c.self.invariant in
    let gap = c.space-gap.result.0 in
    let there : c.space-gap.result.1 ≡ place_of s (r.at + gap) = rw (place_on r.at gap s) (gap_place at) in
    (room s (r.at + gap) c.in_ok-kind.count c.space-gap.result.1 there (omega (arith, fits at, length-drop r.at s, i.0)) i.1).column

pub advance-requires-clause-within : goal.advance-requires-clause-within
advance-requires-clause-within c =
    let at = (goal.at.advance-requires-clause-within c).In_ok-kind in
    rw (← c.self.view_is) (fits at)

pub advance-requires-clause-place : goal.advance-requires-clause-place
advance-requires-clause-place c =
    let at = (goal.at.advance-requires-clause-place c).In_ok-kind in
    let r = c.self.inside in
    let s = r.text.now in
    rw (← c.self.view_is) (plain_behind (place_of s r.at) c.space-gap.result.1 c.place_in_line.result (drop r.at s) c.space-gap.result.0 c.in_ok-kind.count (fits at) (gap_place at) (in_one_line at) c.place_in_line.ensures)

pub returns-clause-answered : goal.returns-clause-answered
returns-clause-answered c =
    let at = (goal.at.returns-clause-answered c).In_ok-kind in
    let r = c.self.inside in
    let s = r.text.now in
    let gap = c.space-gap.result.0 in
    let rest = drop r.at s in
    let split : gap_length false rest ≡ gap + gap_length false (drop gap rest) = rw (← c.self.view_is) at c.space-gap.ensures.gap in
    let size : gap ≡ gap_length false rest = omega (arith, split, token_no_gap (drop gap rest) c.in_ok-kind.kind c.in_ok-kind.count (sym (found at))) in
    rw (c.advance.ensures, ← c.self.view_is) (plain_answered (record { text = s; at = r.at }) gap c.in_ok-kind.count c.in_ok-kind.kind c.space-gap.result.1 c.self.invariant.0 size (gap_place at) (found at))
