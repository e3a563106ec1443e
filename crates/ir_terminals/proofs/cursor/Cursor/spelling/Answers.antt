use Rattle.std.proofs.Common.{◌∙◌}
use Rattle.ir_terminals.proofs.Fronts.{bytes_are}
use Rattle.ir_terminals.proofs.cursor.Cursor.spelling.Goals as goal

pub returns-clause-bytes : goal.returns-clause-bytes
returns-clause-bytes c = c.spelling.ensures ∙ rw c.token_of.ensures (bytes_are _ _ _ _ _ _ c.self.view_is c.self.invariant).0

pub returns-clause-token : goal.returns-clause-token
returns-clause-token c = (bytes_are _ _ _ _ _ _ c.self.view_is c.self.invariant).1
