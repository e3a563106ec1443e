use Rattle.ir_terminals.proofs.Fronts.{place_is}
use Rattle.ir_terminals.proofs.cursor.Cursor.place.Goals as goal

pub returns : goal.returns
returns c = place_is _ _ _ _ _ _ c.self.view_is c.self.invariant
