use Rattle.std.proofs.Common.{◌≡◌, map, take}
use Rattle.entry_copy.proofs.moved.moved_items.Given as goal

abbrev pub invariant-loop-item : goal.invariant-loop-item
invariant-loop-item g l = l.copy.items ≡ map (g.T.Moved.moved_by l.copier) (take l.item-index l.items)
