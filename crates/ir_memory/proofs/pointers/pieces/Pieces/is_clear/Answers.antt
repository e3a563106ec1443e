use Rattle.std.proofs.Common.{ap, not, ◌∙◌}
use Rattle.std.specs.Ordering.{nat_cmp}
use Rattle.std.specs.BTreeMap as tree
use Rattle.ir_memory.specs.Pointers.Pieces.{at_slots}
use Rattle.ir_memory.proofs.OnPointers.Found.{found-within}
use Rattle.ir_memory.proofs.pointers.pieces.Pieces.is_clear.Goals as goal

pub returns-clause-some : goal.returns-clause-some
returns-clause-some c is =
    found-within (at_slots (tree.get nat_cmp c.args.self.now.slots)) c.args.from c.args.to c.first_piece.result c.first_piece.ensures.within c.first_piece.ensures.here (c.is_none.ensures ∙ ap not is)
