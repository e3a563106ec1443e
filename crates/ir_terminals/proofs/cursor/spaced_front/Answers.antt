use Rattle.std.proofs.Common.{subst}
use Rattle.ir_terminals.specs.Front.{IsFrontOf}
use Rattle.ir_terminals.proofs.Fronts.{front_behind, front_plain}
use Rattle.ir_terminals.proofs.cursor.spaced_front.Goals as goal

pub returns-in-Some : goal.returns-in-Some
returns-in-Some c =
    front_behind c.args.lexer.now c.skip_gap.new.self _ _ c.skip_gap.ensures.ahead c.skip_gap.ensures.text (front_plain c.skip_gap.new.self c.next_plain.new.self c.in-Some.token _ _ c.in-Some.ensures.answered c.next_plain.ensures.text c.spelling.ensures c.put_token.ensures)

pub returns-in-None : goal.returns-in-None
returns-in-None c =
    front_behind c.args.lexer.now c.skip_gap.new.self _ _ c.skip_gap.ensures.ahead c.skip_gap.ensures.text (subst (λ old. IsFrontOf old c.any_front.new.front c.any_front.new.lexer) (c.next_plain.ensures.none c.in-None.is) c.any_front.ensures)
