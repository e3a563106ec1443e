use Rattle.std.proofs.Common.{refl, ap, Some}
use Rattle.ir_terminals.proofs.Fronts.{left_is}
use Rattle.ir_terminals.proofs.cursor.Cursor.terminal.Goals as goal

pub returns-in-Token : goal.returns-in-Token
returns-in-Token c = rw (left_is _ _ _ _ _ _ c.self.view_is c.self.invariant, c.in-Token.is) (ap Some (rw c.in-Token.is at c.self.invariant.sound.bytes).1)

pub returns-in-End : goal.returns-in-End
returns-in-End c = rw (left_is _ _ _ _ _ _ c.self.view_is c.self.invariant, c.in-End.is) refl

pub returns-in-Bad : goal.returns-in-Bad
returns-in-Bad c = rw (left_is _ _ _ _ _ _ c.self.view_is c.self.invariant, c.in-Bad.is) refl
