use Rattle.std.proofs.Common.{◌<◌, length, arith}
use Rattle.ir_terminals.specs.Position.{tokens_left}
use Rattle.ir_terminals.proofs.Fronts.{tokens_few, advanced}
use Rattle.ir_terminals.proofs.cursor.Cursor.advance.Goals as goal

pub overflow_add-self : goal.overflow_add-self
overflow_add-self c =
    omega (arith, c.self.invariant.within, c.self.invariant.short, tokens_few c.self.inside.lexer.text)

pub invariant_of-self : goal.invariant_of-self
unfolding tokens_left
invariant_of-self c =
    let some : 0 < length (tokens_left c.args.self.now) = c.requires in
    rw c.is_less-self-inside.ensures (advanced _ _ _ _ _ _ c.self.invariant (rw (← c.self.view_is) at some) c.next_front.ensures)
