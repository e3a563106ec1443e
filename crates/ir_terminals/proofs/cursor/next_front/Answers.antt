use Rattle.std.proofs.Common.{subst}
use Rattle.ir_terminals.specs.Front.{IsFrontOf}
use Rattle.ir_terminals.proofs.Fronts.{front_plain}
use Rattle.ir_terminals.proofs.cursor.next_front.Goals as goal

pub returns-in-Some : goal.returns-in-Some
returns-in-Some c =
    front_plain c.args.lexer.now c.next_plain.new.self c.in-Some.token _ _ c.in-Some.ensures.answered c.next_plain.ensures.text c.spelling.ensures c.put_token.ensures

pub returns-in-None : goal.returns-in-None
returns-in-None c = subst (λ old. IsFrontOf old c.spaced_front.new.front c.spaced_front.new.lexer) (c.next_plain.ensures.none c.in-None.is) c.spaced_front.ensures
