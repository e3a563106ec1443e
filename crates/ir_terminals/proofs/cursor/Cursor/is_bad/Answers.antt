use Rattle.std.proofs.Common.{refl, sym}
use Rattle.ir_terminals.proofs.Fronts.{left_is}
use Rattle.ir_terminals.proofs.cursor.Cursor.is_bad.Goals as goal

pub returns-in-Token : goal.returns-in-Token
returns-in-Token c = rw (left_is _ _ _ _ _ _ c.self.view_is c.self.invariant, c.in-Token.is) refl

pub returns-in-End : goal.returns-in-End
returns-in-End c =
    rw (left_is _ _ _ _ _ _ c.self.view_is c.self.invariant, c.in-End.is, ← c.self.view_is) (sym (rw c.in-End.is at c.self.invariant.bad))

pub returns-in-Bad : goal.returns-in-Bad
returns-in-Bad c =
    rw (left_is _ _ _ _ _ _ c.self.view_is c.self.invariant, c.in-Bad.is, ← c.self.view_is) (sym (rw c.in-Bad.is at c.self.invariant.bad))
