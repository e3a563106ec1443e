use Rattle.std.proofs.Common.{List, ℕ, ap, ◌∙◌}
use Rattle.ir_terminals.specs.Role.{terminal}
use Rattle.ir_terminals.proofs.Fronts.{front_token, front_end, front_bad}
use Rattle.ir_terminals.proofs.cursor.any_front.Goals as goal

pub returns-in-Ok-Some : goal.returns-in-Ok-Some
returns-in-Ok-Some c =
    let says = rw c.in-Ok-Some.field-0-is at c.in-Ok-Some.ensures.says in
    let placed = rw c.in-Ok-Some.field-0-is at c.in-Ok-Some.ensures.placed in
    rw c.of_token.ensures (front_token c.args.lexer.now c.next.new.self c.in-Ok-Some.token _ (rw c.in-Ok-Some.field-0-is at c.in-Ok-Some.ensures.answer) c.next.ensures.after c.next.ensures.text says placed.0 (c.terminal_of-terminal.ensures ∙ ap (λ (s : List ℕ). terminal (record { kind = c.in-Ok-Some.token.kind; spelling = s })) c.spelling.ensures))

pub returns-in-Ok-None : goal.returns-in-Ok-None
returns-in-Ok-None c =
    let f = c.without_token.ensures in
    front_end c.args.lexer.now c.next.new.self _ (rw c.in-Ok-None.field-0-is at c.in-Ok-None.ensures.answer) c.next.ensures.after c.next.ensures.text f.standing (f.place ∙ c.place.ensures) f.start f.no_bytes

pub returns-in-Err : goal.returns-in-Err
returns-in-Err c =
    let f = c.without_token-in-Err.ensures in
    front_bad c.args.lexer.now c.next.new.self c.in-Err.bad _ c.in-Err.ensures.answer c.next.ensures.after c.next.ensures.text f.standing f.place f.start f.no_bytes
